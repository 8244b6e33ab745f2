pub mod Clauses
pub mod Order
