-- Reports of trees whose chains hold: only a look that failed and want of memory stop them, and never damage. Lemmas alone, with no code.
pub mod Visits
pub mod Whole
