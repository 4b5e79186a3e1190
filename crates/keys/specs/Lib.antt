pub mod Texts
pub mod DecimalLaws
pub mod TextLaws
pub mod AnswerLaws
