pub mod Learning
pub mod Walk
pub mod Split
pub mod Assuming
