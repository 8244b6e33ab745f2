pub mod Due
pub mod Steps
pub mod Outcome
pub mod Going
pub mod Tests
