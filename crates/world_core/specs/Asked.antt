-- What a line asks, and of which session.
use Rattle.std.specs.Prelude.{ℕ, ◌≡◌, ◌≤◌, ◌<◌, List, [], ◌∷◌, length, ◌⊎◌, Option, Some, None, IfSome, Result, Ok, Err}
use Rattle.db_base.specs.Ids.{IsClient, IsTree, IsPage}
use Rattle.db_base.specs.Key.{IsAttr, IsKey, IsPayload}
use Rattle.db_base.specs.Change.{IsChange}
use Rattle.db_base.specs.declared.key.TheConstants.{MAX_KEY, MAX_PAYLOAD}
use Rattle.db_base.specs.declared.change.Change.{Change}
use Rattle.db_base.specs.declared.change.Change.TheVariants.{Insert, Update, Delete, Add}
use Rattle.db_base.specs.declared.refusal.Refusal.{Refusal}
use Rattle.db_base.specs.declared.refusal.Refusal.TheVariants as rule
use Rattle.db_base.specs.declared.refusal.Refused.{Refused}
use Rattle.db_base.specs.declared.refusal.Refused.TheVariants as refused
use Rattle.event_text.specs.declared.event.Event.{Event}
use Rattle.event_text.specs.declared.event.Event.TheVariants as event
use Rattle.client_work.specs.declared.op.Op.TheVariants as op
use Rattle.replay_meaning.specs.Standing.{session_of}
use Rattle.world_core.specs.declared.asked.Noting.{Noting}
use Rattle.world_core.specs.declared.asked.Noting.TheVariants.{Single, Indexed}
use Rattle.world_core.specs.declared.asked.Request.{Request}
use Rattle.world_core.specs.declared.asked.Request.TheVariants.{Begin, Note, Abort, Policy, Work, Step, Run, Crash}
use Rattle.world_core.specs.declared.asked.Asked.{Asked}
use Rattle.world_core.specs.declared.asked.Asked.TheVariants.{Session, Wait, Report, Settle, Sweep}
use Rattle.db_base.specs.declared.wish.Wish.{Wish}

-- the opening of a client, or its number is no client's
abbrev pub IsOpening : ℕ → Result Request Refused → Type 0
IsOpening client (Ok request) = IsClient client × (request ≡ Begin (op.Open client))
IsOpening client (Err why) = (IsClient client → ⊥) × (why ≡ refused.Rule rule.BadNumber)

-- the rule that refuses a key, where it does
abbrev pub KeyRefused : List ℕ → Refusal → Type 0
KeyRefused key rule.EmptyKey = length key ≡ 0
KeyRefused key rule.LongKey = MAX_KEY < length key
KeyRefused key r = ⊥

-- why a key is refused: a rule does, or there is no memory for a copy of it
abbrev pub IsNoKey : List ℕ → Refused → Type 0
IsNoKey key (refused.Rule r) = KeyRefused key r
IsNoKey key refused.Memory = Unit {0}

-- the read of a key of a tree, or its number is no tree's, or else the key is refused
abbrev pub IsReading : ℕ → List ℕ → Result Request Refused → Type 0
IsReading tree key (Ok request) = IsTree tree × IsKey key × (request ≡ Begin (op.Read tree key))
IsReading tree key (Err why) = ((why ≡ refused.Rule rule.BadNumber) × (IsTree tree → ⊥)) ⊎ (IsTree tree × IsNoKey key why)

-- the key that bounds a scan; no byte is no bound
abbrev pub bound_of : List ℕ → Option (List ℕ)
bound_of [] = None
bound_of (byte ∷ bytes) = Some (byte ∷ bytes)

-- the bound of a scan, or its key is too long; or there is no memory for a copy of it
abbrev pub IsBound : List ℕ → Result (Option (List ℕ)) Refused → Type 0
IsBound bytes (Ok bound) = (bound ≡ bound_of bytes) × (length bytes ≤ MAX_KEY)
IsBound bytes (Err (refused.Rule r)) = (r ≡ rule.LongKey) × (MAX_KEY < length bytes)
IsBound bytes (Err refused.Memory) = Unit {0}

-- why the bounds of a scan are refused: for the lower one first
abbrev pub AreNoBounds : List ℕ → List ℕ → Refused → Type 0
AreNoBounds from to why = IsBound from (Err why) ⊎ ((length from ≤ MAX_KEY) × IsBound to (Err why))

-- the scan of a tree between two bounds, or its number is no tree's, or else a bound is refused
abbrev pub IsScanning : ℕ → List ℕ → List ℕ → Result Request Refused → Type 0
IsScanning tree from to (Ok request) = IsTree tree × (length from ≤ MAX_KEY) × (length to ≤ MAX_KEY) × (request ≡ Begin (op.Scan tree (bound_of from) (bound_of to)))
IsScanning tree from to (Err why) = ((why ≡ refused.Rule rule.BadNumber) × (IsTree tree → ⊥)) ⊎ (IsTree tree × AreNoBounds from to why)

-- a tree that has an index by attribute
abbrev pub HasIndex : ℕ → Type 0
HasIndex tree = IsTree tree × (tree ≤ 8)

-- the tree of a number, where it has an index; else the number is bad
abbrev pub IsTreeWithIndex : ℕ → Result ℕ Refused → Type 0
IsTreeWithIndex number (Ok tree) = (tree ≡ number) × HasIndex number
IsTreeWithIndex number (Err why) = (why ≡ refused.Rule rule.BadNumber) × (HasIndex number → ⊥)

-- why bytes are refused as an attribute: they are none, or there is no memory for a copy of them
abbrev pub IsBadAttr : List ℕ → Refused → Type 0
IsBadAttr attr (refused.Rule r) = (r ≡ rule.BadAttr) × (IsAttr attr → ⊥)
IsBadAttr attr refused.Memory = Unit {0}

-- the look-up of an attribute in a tree, or its number is not that of a tree with an index, or else the attribute is refused
abbrev pub IsLookingUp : ℕ → List ℕ → Result Request Refused → Type 0
IsLookingUp tree attr (Ok request) = HasIndex tree × IsAttr attr × (request ≡ Begin (op.Lookup tree attr))
IsLookingUp tree attr (Err why) = ((why ≡ refused.Rule rule.BadNumber) × (HasIndex tree → ⊥)) ⊎ (HasIndex tree × IsBadAttr attr why)

-- the checkpoint of a page of a tree, or one of the two numbers is none
abbrev pub IsPaging : ℕ → ℕ → Result Request Refused → Type 0
IsPaging tree page (Ok request) = IsTree tree × IsPage page × (request ≡ Begin (op.Page tree page))
IsPaging tree page (Err why) = (IsTree tree → IsPage page → ⊥) × (why ≡ refused.Rule rule.BadNumber)

-- the checkpoint of a tree, or its number is no tree's
abbrev pub IsFolding : ℕ → Result Request Refused → Type 0
IsFolding tree (Ok request) = IsTree tree × (request ≡ Begin (op.Tree tree))
IsFolding tree (Err why) = (IsTree tree → ⊥) × (why ≡ refused.Rule rule.BadNumber)

-- the rule that refuses a key and a payload, where it does: the key's length, then the payload's
abbrev pub RecordRefused : List ℕ → List ℕ → Refusal → Type 0
RecordRefused key payload rule.EmptyKey = length key ≡ 0
RecordRefused key payload rule.LongKey = MAX_KEY < length key
RecordRefused key payload rule.LongPayload = IsKey key × (MAX_PAYLOAD < length payload)
RecordRefused key payload r = ⊥

-- there is an attribute, and its bytes are none
abbrev pub IsNoAttr : Option (List ℕ) → Type 0
IsNoAttr (Some attr) = IsAttr attr → ⊥
IsNoAttr None = ⊥

-- the attribute where there is one, or it is refused
abbrev pub IsMaybeAttr : Option (List ℕ) → Result (Option (List ℕ)) Refused → Type 0
IsMaybeAttr attr (Ok made) = (made ≡ attr) × IfSome attr IsAttr
IsMaybeAttr attr (Err (refused.Rule r)) = (r ≡ rule.BadAttr) × IsNoAttr attr
IsMaybeAttr attr (Err refused.Memory) = Unit {0}

-- the rule that refuses a key, a payload and an attribute, where it does: the attribute last
abbrev pub InsertRefused : List ℕ → List ℕ → Option (List ℕ) → Refusal → Type 0
InsertRefused key payload attr rule.BadAttr = IsKey key × IsPayload payload × IsNoAttr attr
InsertRefused key payload attr r = RecordRefused key payload r

-- the rule that refuses the parts of a change, where it does
abbrev pub PartsRefused : Change → Refusal → Type 0
PartsRefused (Insert key payload attr) r = InsertRefused key payload attr r
PartsRefused (Update key payload) r = RecordRefused key payload r
PartsRefused (Delete key) r = KeyRefused key r
PartsRefused (Add key amount) r = KeyRefused key r

-- the change of these parts, or the rule that they break, or there is no memory for a copy of them
abbrev pub IsMade : Change → Result Change Refused → Type 0
IsMade change (Ok made) = (made ≡ change) × IsChange change
IsMade change (Err (refused.Rule r)) = PartsRefused change r
IsMade change (Err refused.Memory) = Unit {0}

-- what a line notes
abbrev pub noting_of : Event → Noting
noting_of (event.Insert session tree key payload attr) = Single tree (Insert key payload attr)
noting_of (event.Put session tree key payload attr) = Indexed tree key payload attr
noting_of (event.Update session tree key payload) = Single tree (Update key payload)
noting_of (event.Delete session tree key) = Single tree (Delete key)
noting_of (event.Add session tree key amount) = Single tree (Add key amount)
noting_of e = Single 0 (Delete [])

-- the tree of what is noted is one, and one with an index where an entry is noted too
abbrev pub IsPlace : Noting → Type 0
IsPlace (Single tree change) = IsTree tree
IsPlace (Indexed tree key payload attr) = HasIndex tree

-- the change of a record that is noted
abbrev pub change_in : Noting → Change
change_in (Single tree change) = change
change_in (Indexed tree key payload attr) = Insert key payload (Some attr)

-- this is to be noted; it is refused by the number of the tree first, and then by the parts of the change
abbrev pub IsNoted : Noting → Result Request Refused → Type 0
IsNoted noting (Ok (Note asked)) = (asked ≡ noting) × IsPlace noting × IsChange (change_in noting)
IsNoted noting (Ok request) = ⊥
IsNoted noting (Err why) = ((why ≡ refused.Rule rule.BadNumber) × (IsPlace noting → ⊥)) ⊎ (IsPlace noting × IsMade (change_in noting) (Err why))

-- one step under the wish, or there is no memory for a copy of it
abbrev pub IsStep : Wish → Result Request Refused → Type 0
IsStep wish (Ok request) = request ≡ Step wish
IsStep wish (Err why) = why ≡ refused.Memory

-- a request of the session of this number
abbrev pub OfSession : ℕ → (Result Request Refused → Type 0) → Asked → Type 0
OfSession number Is (Session n request) = (n ≡ number) × Is request
OfSession number Is (Wait ticks) = ⊥
OfSession number Is (Report tree) = ⊥
OfSession number Is Settle = ⊥
OfSession number Is (Sweep tree) = ⊥

-- the tree of this number, or the number is no tree's
abbrev pub IsTreeOf : ℕ → Result ℕ Refused → Type 0
IsTreeOf number (Ok tree) = (tree ≡ number) × IsTree number
IsTreeOf number (Err why) = (IsTree number → ⊥) × (why ≡ refused.Rule rule.BadNumber)

-- a sweep of the tree of this number
abbrev pub OfSweep : ℕ → Asked → Type 0
OfSweep number (Sweep tree) = IsTreeOf number tree
OfSweep number (Session n request) = ⊥
OfSweep number (Wait ticks) = ⊥
OfSweep number (Report tree) = ⊥
OfSweep number Settle = ⊥

-- what a line asks; the last of these are the lines that note something
abbrev pub Asks : Event → Asked → Type 0
Asks (event.Open session client) asked = OfSession session (IsOpening client) asked
Asks (event.Close session) asked = OfSession session (λ request. request ≡ Ok (Begin op.Close)) asked
Asks (event.Renew session) asked = OfSession session (λ request. request ≡ Ok (Begin op.Renew)) asked
Asks (event.Commit session) asked = OfSession session (λ request. request ≡ Ok (Begin op.Commit)) asked
Asks (event.Abort session) asked = OfSession session (λ request. request ≡ Ok Abort) asked
Asks (event.Read session tree key) asked = OfSession session (IsReading tree key) asked
Asks (event.Scan session tree from to) asked = OfSession session (IsScanning tree from to) asked
Asks (event.Lookup session tree attr) asked = OfSession session (IsLookingUp tree attr) asked
Asks (event.Page session tree page) asked = OfSession session (IsPaging tree page) asked
Asks (event.Tree session tree) asked = OfSession session (IsFolding tree) asked
Asks (event.Policy session role k) asked = OfSession session (λ request. request ≡ Ok (Policy role k)) asked
Asks (event.Work session) asked = OfSession session (λ request. request ≡ Ok Work) asked
Asks (event.Run session) asked = OfSession session (λ request. request ≡ Ok Run) asked
Asks (event.Step session wish) asked = OfSession session (IsStep wish) asked
Asks (event.Crash session done) asked = OfSession session (λ request. request ≡ Ok (Crash done)) asked
Asks (event.Wait ticks) asked = asked ≡ Wait ticks
Asks (event.Report tree) asked = asked ≡ Report tree
Asks event.Settle asked = asked ≡ Settle
Asks (event.Sweep tree) asked = OfSweep tree asked
Asks e asked = OfSession (session_of e) (IsNoted (noting_of e)) asked
