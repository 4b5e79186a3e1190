pub mod Giving
pub mod SetLaws
pub mod StoreLaws
pub mod KeptLaws
