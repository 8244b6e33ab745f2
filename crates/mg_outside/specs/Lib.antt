pub mod Faults
pub mod Logs
pub mod Reading
pub mod Taking
pub mod Effects
pub mod Memory
