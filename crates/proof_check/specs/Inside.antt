pub mod Trail
pub mod Each
pub mod Judging
pub mod Trim
