pub mod ChildFormulas
