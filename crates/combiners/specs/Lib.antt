pub mod Tree
pub mod Combining
pub mod Making
pub mod Lawful
pub mod Plainness
pub mod Laws
pub mod Inside
