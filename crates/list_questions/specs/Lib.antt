pub mod Questions
pub mod Mentions
pub mod Ranges
pub mod Shapes
