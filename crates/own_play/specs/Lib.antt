pub mod Names
pub mod Machine
pub mod Walk
pub mod Output
pub mod Law
