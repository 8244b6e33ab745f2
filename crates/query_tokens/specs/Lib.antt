pub mod Fronts
pub mod Keywords
pub mod Words
pub mod Signs
pub mod Tokens
pub mod Lines
pub mod Writing
