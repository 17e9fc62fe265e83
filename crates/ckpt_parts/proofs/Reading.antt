-- How far a reading of messages has come.
use Rattle.std.proofs.Common.{List, ◌++◌, Result, Ok, Err}
use Rattle.cloud_trait.specs.declared.message.Message.{Message}
use Rattle.log_codec.specs.declared.record.PuItem.{PuItem}

-- items and then those of a reading
abbrev pub joined : List PuItem → Result (List PuItem) Message → Result (List PuItem) Message
joined front (Ok rest) = Ok (front ++ rest)
joined front (Err m) = Err m
