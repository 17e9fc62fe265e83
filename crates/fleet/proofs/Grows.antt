-- What was committed and applied stays, in its order.
use Rattle.std.proofs.Common.{ℕ, Bool, true, false, List, [], ◌∷◌, ◌++◌, Option, Some, None, refl}
use Rattle.std.specs.Prelude.{if◌then◌else◌}
use Rattle.client_work.specs.Session.{ask_of_work, committing_of, opens_of}
use Rattle.client_work.specs.declared.work.Work.{Work}
use Rattle.cloud_facts.specs.Calls.Looks.{has_landed}
use Rattle.cloud_facts.specs.Words.{Ask, Get, GetHeld, PutHeld, Send, Receive, Delete, Take, Renew, Release, Head, newest}
use Rattle.cloud_trait.proofs.EffectLemmas.{begins_itself}
use Rattle.cloud_trait.specs.Ask.{ListHeld, RemoveHeld}
use Rattle.cloud_trait.specs.Growth.{BeginsWith}
use Rattle.cloud_facts.proofs.Calls.Copies.{begins_on}
use Rattle.db_base.specs.declared.names.ObjName.TheVariants as object
use Rattle.fleet.specs.Acts.{Act, calls, alone, dies, passes}
use Rattle.fleet.specs.Course.{Done, now, history_by, history}
use Rattle.fleet.specs.Fleet.{Fleet}
use Rattle.history.specs.Audited.{Audited}
use Rattle.session_facts.specs.Sessions.Audited.{noted_head, noted_at, noted_in_hand}
use Rattle.txn_buffer.specs.Noted.{Noted}

-- both lists go on
abbrev GoesOn : Audited → Audited → Type 0
GoesOn a b = BeginsWith a.committed b.committed × BeginsWith a.order b.order

same : (a : Audited) → GoesOn a a
same a = (begins_itself a.committed, begins_itself a.order)

head_goes : (client : ℕ) (head : Option Head) (changes : Option (List Noted)) (a : Audited) → GoesOn a (noted_head client head changes a)
head_goes client (Some head) (Some changes) a = ((_, refl), begins_itself a.order)
head_goes client (Some head) None a = same a
head_goes client None changes a = same a

at_goes : (w : Work) (ask : Ask) (a : Audited) → GoesOn a (noted_at w ask a)
at_goes w (PutHeld (object.Head client) bytes one two) a = head_goes client (opens_of w) (committing_of w) a
at_goes w (PutHeld (object.Page tree page) bytes one two) a = (begins_itself a.committed, (_, refl))
at_goes w (PutHeld (object.Tree tree) bytes one two) a = same a
at_goes w (Get name) a = same a
at_goes w (GetHeld name l) a = same a
at_goes w (ListHeld tree l) a = same a
at_goes w (RemoveHeld name l) a = same a
at_goes w (Send queue bytes) a = same a
at_goes w (Receive queue most) a = same a
at_goes w (Delete queue id) a = same a
at_goes w (Take lock ticks) a = same a
at_goes w (Renew l ticks) a = same a
at_goes w (Release l) a = same a

hand_goes : (w : Work) (ask : Option Ask) (a : Audited) → GoesOn a (noted_in_hand w ask a)
hand_goes w (Some ask) a = at_goes w ask a
hand_goes w None a = same a

call_goes : (w : Work) (b : Bool) (a : Audited) → GoesOn a (if b then noted_in_hand w (ask_of_work w) a else a)
call_goes w true a = hand_goes w (ask_of_work w) a
call_goes w false a = same a

act_goes : (x : Act) (from to : Fleet) (a : Audited) → GoesOn a (history_by x from to a)
act_goes (calls d) from to a = call_goes d.old.work (has_landed (newest from.state) (newest to.state) (ask_of_work d.old.work)) a
act_goes (alone program new) from to a = same a
act_goes (dies program) from to a = same a
act_goes passes from to a = same a

pub grows : (start : Fleet) (later earlier : List Done) → GoesOn (history start earlier) (history start (later ++ earlier))
grows start [] earlier = same (history start earlier)
grows start (x ∷ later) earlier =
    let a : Audited = history start earlier in
    let b : Audited = history start (later ++ earlier) in
    let one : GoesOn a b = grows start later earlier in
    let c : Audited = history_by x.act (now start (later ++ earlier)) x.fleet b in
    let two : GoesOn b c = act_goes x.act (now start (later ++ earlier)) x.fleet b in
    (begins_on a.committed b.committed c.committed one.0 two.0, begins_on a.order b.order c.order one.1 two.1)
