pub mod Words
pub mod WordsOf
pub mod Message
pub mod Bank
pub mod Statement
