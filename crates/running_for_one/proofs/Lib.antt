pub mod OneHold
