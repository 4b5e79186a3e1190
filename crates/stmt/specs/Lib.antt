pub mod Walks
pub mod WalkLaws
pub mod Alongs
pub mod Slices
