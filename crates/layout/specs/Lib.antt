pub mod Numbers
pub mod NumberLaws
pub mod Needs
pub mod NeedLaws
