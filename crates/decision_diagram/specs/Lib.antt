pub mod Tree
pub mod Table
pub mod Tests
pub mod Listing
pub mod Meeting
pub mod Guarded
pub mod Inside
