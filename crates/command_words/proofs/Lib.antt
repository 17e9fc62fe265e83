pub mod ClapLaws
pub mod HyphenLaws
pub mod MatchLaws
