pub mod Rows
pub mod Put
pub mod Sent
pub mod Floor
