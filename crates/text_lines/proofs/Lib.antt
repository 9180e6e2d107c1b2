pub mod Names
pub mod LexerLaws
pub mod FaultLaws
pub mod CommandLaws
pub mod HeaderLaws
pub mod SeveralLaws
