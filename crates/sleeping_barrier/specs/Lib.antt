pub mod HandleShown
