pub mod RowChainLaws
