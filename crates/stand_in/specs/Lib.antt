pub mod Rows
pub mod Put
pub mod Parts
pub mod Sent
pub mod Examples
pub mod Floor
