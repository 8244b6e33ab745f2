pub mod Causes
pub mod Stores
pub mod RunLines
pub mod Tasks
pub mod TooLong
pub mod Lists
pub mod Run
pub mod Inside
