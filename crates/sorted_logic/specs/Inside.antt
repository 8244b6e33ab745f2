pub mod Kept
pub mod Joins
pub mod Fitting
pub mod SortRows
pub mod Evaluation
pub mod UniverseTests
