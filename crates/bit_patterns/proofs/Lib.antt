pub mod BitTests
