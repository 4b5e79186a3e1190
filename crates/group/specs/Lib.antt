pub mod Walking
pub mod Sorts
pub mod AskedLaws
pub mod WalkingLaws
pub mod WriteLaws
pub mod SortLaws
