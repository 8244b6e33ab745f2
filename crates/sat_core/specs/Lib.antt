pub mod Solving
pub mod Inside
