pub mod Owners
pub mod GroupBytes
pub mod OwnerLaws
pub mod KeyLaws
pub mod NeedRows
