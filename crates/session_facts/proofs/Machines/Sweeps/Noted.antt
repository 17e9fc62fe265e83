-- What a sweep asks adds nothing to the audit, and receives nothing.
use Rattle.std.proofs.Common.{◌≡◌, ℕ, List, Some, refl}
use Rattle.client_work.specs.declared.work.Work.{Work}
use Rattle.cloud_trait.specs.Ask.{Ask, Get, GetHeld, PutHeld, ListHeld, RemoveHeld, Send, Receive, Delete, Take, Renew, Release}
use Rattle.cloud_trait.specs.Claim.{Claim}
use Rattle.history.specs.Audited.{Audited}
use Rattle.orphan_sweep.specs.Sweeping.{Sweeping, sweep_ask}
use Rattle.session_facts.specs.Sessions.Explains.{ReceivesLate}
use Rattle.session_facts.specs.Sessions.Audited.{noted_at}
use Rattle.session_facts.proofs.Machines.Sweeps.Asks.{IsAskOf, asks_at}

notes_none : (w : Work) (tree : ℕ) (ask : Ask) (a : Audited) → IsAskOf tree ask → noted_at w ask a ≡ a
notes_none w tree (GetHeld name l) a is = refl
notes_none w tree (ListHeld of l) a is = refl
notes_none w tree (RemoveHeld name l) a is = refl
notes_none w tree (Take of ticks) a is = refl
notes_none w tree (Release l) a is = refl
notes_none w tree (Get name) a is = absurd is
notes_none w tree (PutHeld name bytes one two) a is = absurd is
notes_none w tree (Send queue bytes) a is = absurd is
notes_none w tree (Receive queue most) a is = absurd is
notes_none w tree (Delete queue id) a is = absurd is
notes_none w tree (Renew l ticks) a is = absurd is

pub sweep_noted : (w : Work) (s : Sweeping) (a : Audited) → noted_at w (sweep_ask s) a ≡ a
sweep_noted w s a = notes_none w s.tree (sweep_ask s) a (asks_at s.stage s)

receives_none : (tree : ℕ) (ask : Ask) (held : List Claim) (now : ℕ) → IsAskOf tree ask → ReceivesLate ask held now → ⊥
receives_none tree (GetHeld name l) held now is late = late
receives_none tree (ListHeld of l) held now is late = late
receives_none tree (RemoveHeld name l) held now is late = late
receives_none tree (Take of ticks) held now is late = late
receives_none tree (Release l) held now is late = late
receives_none tree (Get name) held now is late = is
receives_none tree (PutHeld name bytes one two) held now is late = is
receives_none tree (Send queue bytes) held now is late = is
receives_none tree (Receive queue most) held now is late = is
receives_none tree (Delete queue id) held now is late = is
receives_none tree (Renew l ticks) held now is late = is

pub never_receives : (s : Sweeping) (held : List Claim) (now : ℕ) → ReceivesLate (sweep_ask s) held now → ⊥
never_receives s held now late = receives_none s.tree (sweep_ask s) held now (asks_at s.stage s) late

pub hand_is : (s : Sweeping) (ask : Ask) → Some (sweep_ask s) ≡ Some ask → sweep_ask s ≡ ask
hand_is s ask e = cc (e)
