-- A call that a machine has in hand, and what it asks.
use Rattle.std.specs.Prelude.{ℕ, List, Option, Some, None}
use Rattle.std.specs.Option.{option_copied}
use Rattle.db_base.specs.declared.names.ObjName.TheVariants.{Tree}
use Rattle.cloud_trait.specs.declared.call.Call.{Call}
use Rattle.cloud_trait.specs.declared.call.Call.TheVariants as call
use Rattle.cloud_trait.specs.declared.call.CallKind.{CallKind}
use Rattle.cloud_trait.specs.declared.call.CallKind.TheVariants as kind
use Rattle.cloud_trait.specs.declared.call.Target.{Target}
use Rattle.cloud_trait.specs.declared.call.Target.TheVariants as target
use Rattle.cloud_trait.specs.Ask.{Ask, Get, GetHeld, PutHeld, ListHeld, RemoveHeld, Send, Receive, Delete, Take, Renew, Release}

-- what the call asks
abbrev pub ask_of : Call → Ask
ask_of (call.Get name) = Get name
ask_of (call.GetHeld name lease) = GetHeld name lease.now
ask_of (call.PutHeld name bytes one two) = PutHeld name bytes.now one.now (option_copied two)
ask_of (call.ListHeld tree lease) = ListHeld tree lease.now
ask_of (call.RemoveHeld name lease) = RemoveHeld name lease.now
ask_of (call.Send queue bytes) = Send queue bytes.now
ask_of (call.Receive queue most) = Receive queue most
ask_of (call.Delete queue id) = Delete queue id
ask_of (call.Take lock ticks) = Take lock ticks
ask_of (call.Renew lease ticks) = Renew lease.now ticks
ask_of (call.Release lease) = Release lease.now

-- the kind of the call
abbrev pub kind_of : Ask → CallKind
kind_of (Get name) = kind.Get
kind_of (GetHeld name l) = kind.GetHeld
kind_of (PutHeld name bytes one two) = kind.PutHeld
kind_of (ListHeld tree l) = kind.ListHeld
kind_of (RemoveHeld name l) = kind.RemoveHeld
kind_of (Send queue bytes) = kind.Send
kind_of (Receive queue most) = kind.Receive
kind_of (Delete queue id) = kind.Delete
kind_of (Take lock ticks) = kind.Take
kind_of (Renew l ticks) = kind.Renew
kind_of (Release l) = kind.Release

-- what the call is about: a listing, the object of its tree
abbrev pub target_of : Ask → Target
target_of (Get name) = target.Object name
target_of (GetHeld name l) = target.Object name
target_of (PutHeld name bytes one two) = target.Object name
target_of (ListHeld tree l) = target.Object (Tree tree)
target_of (RemoveHeld name l) = target.Object name
target_of (Send queue bytes) = target.Queue queue
target_of (Receive queue most) = target.Queue queue
target_of (Delete queue id) = target.Message queue id
target_of (Take lock ticks) = target.Lock lock
target_of (Renew l ticks) = target.Lock l.lock
target_of (Release l) = target.Lock l.lock

-- the bytes of a put or a send
abbrev pub bytes_of : Ask → Option (List ℕ)
bytes_of (PutHeld name bytes one two) = Some bytes
bytes_of (Send queue bytes) = Some bytes
bytes_of ask = None

-- the call leaves every lease where it is, so that it can be made from a call in hand
abbrev pub Lends : Ask → Type 0
Lends (Renew l ticks) = ⊥
Lends (Release l) = ⊥
Lends ask = Unit {0}
