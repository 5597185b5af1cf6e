pub mod Books
pub mod Handling
pub mod Line
pub mod Performing
