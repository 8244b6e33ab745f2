pub mod Values
pub mod Propagation
pub mod Tables
pub mod Derivations
pub mod Trimming
pub mod Refutation
pub mod Inside
