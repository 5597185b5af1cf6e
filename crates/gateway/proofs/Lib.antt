pub mod Handlings
pub mod Performances
