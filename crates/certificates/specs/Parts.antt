-- What private contracts alone cite.
pub mod Cuts
pub mod Entries
pub mod Places
