pub mod Turns
pub mod TurnLaws
pub mod Stops
pub mod SortTurnLaws
pub mod LoopLaws
pub mod Orders
pub mod ReadyLaws
