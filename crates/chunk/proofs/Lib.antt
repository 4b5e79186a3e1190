pub mod OpenLaws
pub mod ImportLaws
pub mod VisitLaws
pub mod CameLaws
