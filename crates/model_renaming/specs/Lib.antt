pub mod Renaming
