pub mod ForOne
