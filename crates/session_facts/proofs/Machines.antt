-- The machines, one folder each: what each knows of a cloud at each of its calls, what others leave of that, and what its calls rest on and leave.
pub mod Refusals
pub mod Walks
pub mod Scans
pub mod Looks
pub mod Openings
pub mod Commits
pub mod CommitRuns
pub mod BesideHome
pub mod Runs
pub mod Trees
pub mod Folds
pub mod Risings
pub mod TreeCheckpoints
pub mod PageCheckpoints
pub mod Settlings
pub mod Sweeps
