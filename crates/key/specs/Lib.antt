pub mod Prints
pub mod PrintLaws
