pub mod Arguments
pub mod Stream
