pub mod Lists
pub mod Rules
pub mod Numbered
pub mod Heads
pub mod Entries
pub mod Faults
pub mod Outcomes
pub mod Holding
