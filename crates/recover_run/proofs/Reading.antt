-- How far a reading of messages has come.
use Rattle.std.proofs.Common.{List, ◌++◌, Result, Ok, Err}
use Rattle.cloud_trait.specs.declared.message.Message.{Message}
use Rattle.recover_run.specs.declared.items.AtomicItem.{AtomicItem}

-- items and then those of a reading
abbrev pub joined : List AtomicItem → Result (List AtomicItem) Message → Result (List AtomicItem) Message
joined front (Ok rest) = Ok (front ++ rest)
joined front (Err m) = Err m
