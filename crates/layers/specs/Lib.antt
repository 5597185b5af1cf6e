pub mod Line
pub mod Digits
pub mod Split
pub mod Examples
