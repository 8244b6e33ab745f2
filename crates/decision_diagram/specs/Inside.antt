-- What private contracts alone cite.
pub mod Choice
pub mod Numbers
pub mod Copying
pub mod Passes
pub mod Meeting
