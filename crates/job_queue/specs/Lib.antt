pub mod Answers
pub mod Tickets
pub mod Jobs
pub mod StateShown
pub mod QueueShown
