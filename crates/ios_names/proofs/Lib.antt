pub mod AddedNames
