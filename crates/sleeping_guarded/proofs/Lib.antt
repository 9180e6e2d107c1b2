pub mod SameLocked
