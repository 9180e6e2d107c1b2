pub mod RwValueShown
