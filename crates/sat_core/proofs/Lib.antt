pub mod Learning
pub mod Forcing
pub mod Splitting
pub mod Assuming
