pub mod PacketFields
pub mod TestShapes
pub mod MentionEquations
pub mod Literals
pub mod QuestionShapes
