-- Which calls may be made, by how their session stood at the line.
use Rattle.std.specs.Prelude.{List, Some}
use Rattle.cloud_trait.specs.Ask.{Ask, Get, GetHeld, PutHeld, ListHeld, RemoveHeld, Send, Receive, Delete, Take, Renew, Release}
use Rattle.cloud_trait.specs.declared.state.Landing.{Landing}
use Rattle.db_base.specs.declared.names.ObjName.TheVariants as object
use Rattle.replay_meaning.specs.Kinds.{IsOfSweep, MayPutBytes, MayPutRoot, MayPutPage, MaySend}
use Rattle.replay_meaning.specs.Standing.{Line}

-- the call puts, removes or sends what the row's session may, where this row is the one that it leaves
abbrev pub MayAsk : List Line → Landing → Ask → Type 0
MayAsk lines row (PutHeld (object.Head client) bytes one two) = MayPutBytes lines row client (Some bytes)
MayAsk lines row (PutHeld (object.Tree tree) bytes one two) = MayPutRoot lines row tree
MayAsk lines row (PutHeld (object.Page tree page) bytes one two) = MayPutPage lines row tree
MayAsk lines row (RemoveHeld (object.Head client) l) = ⊥
MayAsk lines row (RemoveHeld (object.Tree tree) l) = ⊥
MayAsk lines row (RemoveHeld (object.Page tree page) l) = IsOfSweep lines row tree
MayAsk lines row (Send queue bytes) = MaySend lines row queue
MayAsk lines row (Get name) = Unit {0}
MayAsk lines row (GetHeld name l) = Unit {0}
MayAsk lines row (ListHeld tree l) = Unit {0}
MayAsk lines row (Receive queue most) = Unit {0}
MayAsk lines row (Delete queue id) = Unit {0}
MayAsk lines row (Take lock ticks) = Unit {0}
MayAsk lines row (Renew l ticks) = Unit {0}
MayAsk lines row (Release l) = Unit {0}

-- the same of calls that put no head
abbrev pub MayAskBeside : List Line → Landing → Ask → Type 0
MayAskBeside lines row (PutHeld (object.Head client) bytes one two) = Unit {0}
MayAskBeside lines row ask = MayAsk lines row ask
