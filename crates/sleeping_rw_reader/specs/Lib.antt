pub mod Kinds
pub mod HandleShown
