pub mod Meeting
pub mod Histories
