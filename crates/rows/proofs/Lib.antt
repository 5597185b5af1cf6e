pub mod First
pub mod Either
