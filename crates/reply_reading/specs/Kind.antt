-- The first words of replies and of troubles, and the words of rules and counters.
use Rattle.std.specs.Prelude.{ℕ, List, [], ◌∷◌, Option, codes}
use Rattle.std.specs.List.{find}
use Rattle.std.specs.Str.{bytes_eq}
use Rattle.db_base.specs.declared.refusal.Refusal.{Refusal}
use Rattle.db_base.specs.declared.refusal.Refusal.TheVariants.{EmptyKey, LongKey, LongPayload, TooManyChanges, BadNumber, NotOpen, AtWork, Broken, AlreadyOpen, NotWorking, BadAttr, LongEntry}
use Rattle.db_base.specs.declared.trouble.Counter.{Counter}
use Rattle.db_base.specs.declared.trouble.Counter.TheVariants.{Epoch, Txn, Number, Version, Pages}
use Rattle.reply_reading.specs.declared.reply_kind.ReplyKind.{ReplyKind}
use Rattle.reply_reading.specs.declared.reply_kind.ReplyKind.TheVariants as answer
use Rattle.reply_reading.specs.declared.trouble_kind.TroubleKind.{TroubleKind}
use Rattle.reply_reading.specs.declared.trouble_kind.TroubleKind.TheVariants as stop
use Rattle.reply_text.specs.Reply.{refusal_word, counter_word}

-- the first word of a reply of one line that is no trouble
abbrev pub reply_kind_text : ReplyKind → List ℕ
reply_kind_text answer.Begun = codes "begun"
reply_kind_text answer.Called = codes "called"
reply_kind_text answer.Noted = codes "noted"
reply_kind_text answer.Aborted = codes "aborted"
reply_kind_text answer.Crashed = codes "crashed"
reply_kind_text answer.Waited = codes "waited"
reply_kind_text answer.Refused = codes "refused"
reply_kind_text answer.Opened = codes "opened"
reply_kind_text answer.Closed = codes "closed"
reply_kind_text answer.Renewed = codes "renewed"
reply_kind_text answer.Committed = codes "committed"
reply_kind_text answer.InDoubt = codes "in-doubt"
reply_kind_text answer.NotCommitted = codes "not-committed"
reply_kind_text answer.CommittedOpen = codes "committed-open"
reply_kind_text answer.Done = codes "done"
reply_kind_text answer.Value = codes "value"
reply_kind_text answer.NoValue = codes "none"
reply_kind_text answer.Scan = codes "scan"
reply_kind_text answer.Settled = codes "settled"
reply_kind_text answer.Swept = codes "swept"
reply_kind_text answer.Worked = codes "worked"
reply_kind_text answer.NotSettled = codes "not-settled"

-- all of them
abbrev pub reply_kinds : List ReplyKind
reply_kinds = answer.Begun ∷ answer.Called ∷ answer.Noted ∷ answer.Aborted ∷ answer.Crashed ∷ answer.Waited ∷ answer.Refused ∷ answer.Opened ∷ answer.Closed ∷ answer.Renewed ∷ answer.Committed ∷ answer.InDoubt ∷ answer.NotCommitted ∷ answer.CommittedOpen ∷ answer.Done ∷ answer.Value ∷ answer.NoValue ∷ answer.Scan ∷ answer.Settled ∷ answer.Swept ∷ answer.Worked ∷ answer.NotSettled ∷ []

-- the kind of reply that a word begins
abbrev pub reply_kind_of : List ℕ → Option ReplyKind
reply_kind_of word = find (λ k. bytes_eq (reply_kind_text k) word) reply_kinds

-- the first word of a trouble
abbrev pub trouble_kind_text : TroubleKind → List ℕ
trouble_kind_text stop.Failed = codes "failed"
trouble_kind_text stop.Late = codes "late"
trouble_kind_text stop.Busy = codes "busy"
trouble_kind_text stop.Waiting = codes "waiting"
trouble_kind_text stop.Stale = codes "stale"
trouble_kind_text stop.Absent = codes "absent"
trouble_kind_text stop.NotALeaf = codes "not-leaf"
trouble_kind_text stop.Damaged = codes "damaged"
trouble_kind_text stop.BadFence = codes "bad-fence"
trouble_kind_text stop.Loop = codes "loop"
trouble_kind_text stop.Exhausted = codes "exhausted"

-- all of them
abbrev pub trouble_kinds : List TroubleKind
trouble_kinds = stop.Failed ∷ stop.Late ∷ stop.Busy ∷ stop.Waiting ∷ stop.Stale ∷ stop.Absent ∷ stop.NotALeaf ∷ stop.Damaged ∷ stop.BadFence ∷ stop.Loop ∷ stop.Exhausted ∷ []

-- the kind of trouble that a word begins
abbrev pub trouble_kind_of : List ℕ → Option TroubleKind
trouble_kind_of word = find (λ k. bytes_eq (trouble_kind_text k) word) trouble_kinds

-- all rules
abbrev pub refusals : List Refusal
refusals = EmptyKey ∷ LongKey ∷ LongPayload ∷ TooManyChanges ∷ BadNumber ∷ NotOpen ∷ AtWork ∷ Broken ∷ AlreadyOpen ∷ NotWorking ∷ BadAttr ∷ LongEntry ∷ []

-- the rule that a word names
abbrev pub refusal_of : List ℕ → Option Refusal
refusal_of word = find (λ rule. bytes_eq (refusal_word rule) word) refusals

-- all counters
abbrev pub counters : List Counter
counters = Epoch ∷ Txn ∷ Number ∷ Version ∷ Pages ∷ []

-- the counter that a word names
abbrev pub counter_of : List ℕ → Option Counter
counter_of word = find (λ counter. bytes_eq (counter_word counter) word) counters
