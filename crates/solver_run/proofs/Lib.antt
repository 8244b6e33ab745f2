pub mod Writing
pub mod Readings
pub mod Runs
pub mod OneList
pub mod ShownPackets
pub mod Comparisons
pub mod CommandWords
