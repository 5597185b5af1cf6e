pub mod Field
pub mod Kind
pub mod Record
pub mod Refusal
