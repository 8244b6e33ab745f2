-- What private contracts alone cite.
pub mod Fronts
pub mod Cursors
