pub mod Bounds
pub mod Recorded
pub mod Places
