-- Telling: what a cloud tells under a book changes by each call that lands as the call's effect on the tally says.
pub mod Told
pub mod Pieces
pub mod Taking
