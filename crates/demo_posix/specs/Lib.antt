pub mod Posix
