pub mod Answers
pub mod Guarantees
pub mod Groups
pub mod GroupLaws
pub mod Orders
pub mod OrderLaws
pub mod Entries
pub mod EntryLaws
