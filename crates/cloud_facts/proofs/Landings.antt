-- What holds of every store, all in one, and that each call that lands keeps it: what a session owes for its calls.
pub mod LandingLemmas
pub mod ReportLemmas
