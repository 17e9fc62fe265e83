-- The call that a session has in hand is of a kind that its standing by the lines allows, and opens no transaction twice.
use Rattle.std.proofs.Common.{◌≡◌, ◌+◌, ◌-◌, ◌⊎◌, ℕ, List, length, take, Some, None, refl, sym, ap, subst, ◌∙◌, inl, inr}
use Rattle.std.specs.Prelude.{All, slice_get}
use Rattle.db_base.specs.declared.names.ObjName.TheVariants as object
use Rattle.cloud_trait.specs.declared.state.Landing.{Landing}
use Rattle.cloud_facts.specs.Words.{Trouble, Head, More, Ended, CloudState, Caller, Seen, Ask, Get, GetHeld, PutHeld, Send, Receive, Delete, Take, Renew, Release, Store}
use Rattle.cloud_trait.specs.Ask.{ListHeld, RemoveHeld}
use Rattle.client_work.specs.declared.work.Work.{Work}
use Rattle.client_work.specs.declared.answer.Answer.{Answer}
use Rattle.client_work.specs.declared.answer.Answer.TheVariants as answer
use Rattle.client_work.specs.declared.work.Work.TheVariants.{Idle, Paging, Folding, Settling, Sweeping}
use Rattle.client_work.specs.Session.{StepsAt, ask_of_work, opens_of, committing_of, stopped_work}
use Rattle.db_base.specs.declared.trouble.Trouble.TheVariants as trouble
use Rattle.page_ckpt.specs.Paging.{paging_ask}
use Rattle.recover_run.specs.declared.home.Home.{Home}
use Rattle.tree_ckpt.specs.Making.{making_ask}
use Rattle.head_codec.specs.declared.head.Phase.TheVariants as phase
use Rattle.head_codec.specs.Spelling.{head_of}
use Rattle.cloud_facts.specs.Homes.Homes.{Part}
use Rattle.session_facts.specs.Rows.Asks.{MayAsk}
use Rattle.session_facts.specs.Rows.New.{IsNew}
use Rattle.session_facts.proofs.Rows.Opens.{work_is_new}
use Rattle.page_cache.specs.Cache.{Cache}
use Rattle.orphan_sweep.specs.Sweeping.{sweep_ask}
use Rattle.settle_run.specs.Settling.{settle_ask}
use Rattle.replay_meaning.specs.Standing.{Line, standing, standing_of_row}
use Rattle.replay_meaning.specs.Committed.{committed}
use Rattle.replay_meaning.specs.Kinds.{IsOfSweep, IsOfWork, IsOfKind, LandsOpen}
use Rattle.session_facts.specs.Sessions.HeadPuts.{IsSoundWork, Commits, PutsHead}
use Rattle.session_facts.specs.Sessions.Knows.{KnowsWork}
use Rattle.session_facts.proofs.Sessions.HeadPuts.{head_put}
use Rattle.cloud_facts.specs.Book.Records.{entries_of}
use Rattle.session_facts.specs.Lines.Facts.{WorksAs}
use Rattle.session_facts.specs.Lines.Errands.{Errand, settles, sweeps, WorksOn, IsRowOf}
use Rattle.session_facts.proofs.Rows.CallAsks.{settling_may, page_at_work, tree_at_work, work_asks}
use Rattle.session_facts.proofs.Lines.Committed.{now_standing}
use Rattle.session_facts.proofs.Machines.Settlings.SettledHeads.{settling_stays}
use Rattle.session_facts.proofs.Machines.Sweeps.Asks.{sweep_may, same_tree}
use Rattle.session_facts.proofs.Rows.Once.{at_place, not_opened, OpensUnopened}

-- ---- session 0 on an errand

same_ask : {A : Type 0} (a b : A) → Some a ≡ Some b → a ≡ b
same_ask a b e = cc (e)

-- it commits nothing
pub errand_none : (errand : Errand) (w : Work) → WorksOn errand w → committing_of w ≡ None
errand_none settles (Settling m) works = refl
errand_none (sweeps tree) (Sweeping m) works = refl
errand_none errand w works = absurd works

-- its call in hand, for a row of its own
pub errand_asks : (errand : Errand) (lines : List Line) (row : Landing) (w : Work) → WorksOn errand w → IsRowOf errand lines row → IsSoundWork w → (ask : Ask) → ask_of_work w ≡ Some ask
    → MayAsk lines row ask
errand_asks settles lines row (Settling m) works own sound ask e =
    subst (MayAsk lines row) (same_ask (settle_ask m) ask e) (settling_may lines row m works sound own)
errand_asks (sweeps tree) lines row (Sweeping m) works own sound ask e =
    subst (MayAsk lines row) (same_ask (sweep_ask m) ask e) (sweep_may lines row m (subst (IsOfSweep lines row) (sym works) own))
errand_asks errand lines row w works own sound ask e = absurd works

-- it goes on with it
pub errand_goes : (errand : Errand) (who : Caller) (before after : Seen) (w new : Work) → StepsAt who before after w new More → WorksOn errand w → WorksOn errand new
errand_goes settles who before after (Settling m) new p works =
    subst (WorksOn settles) (sym p.1.2) (settling_stays m p.1.0 p.1.1.did.answer p.1.1.did.took works)
errand_goes (sweeps tree) who before after (Sweeping m) new p works =
    subst (WorksOn (sweeps tree)) (sym p.2) (same_tree m p.1.did.answer p.0 p.1.did.took ∙ works)
errand_goes errand who before after w new p works = absurd works

-- a checkpoint beside an open client is in hand
abbrev pub HasCheckpoint : Home → Work → Type 0
HasCheckpoint home (Paging h p) = h ≡ home
HasCheckpoint home (Folding h f) = h ≡ home
HasCheckpoint home w = ⊥

-- a row of this caller is of its session's own line that works
abbrev pub IsWorkersRow : List Line → Caller → Type 0
IsWorkersRow lines who = (row : Landing) → row.who ≡ who → IsOfWork lines row

-- a checkpoint commits nothing
pub checkpoint_none : (home : Home) (w : Work) → HasCheckpoint home w → committing_of w ≡ None
checkpoint_none home (Paging h p) is = refl
checkpoint_none home (Folding h f) is = refl
checkpoint_none home w is = absurd is

-- the call of a checkpoint, for a row of a line that works
pub checkpoint_asks : (lines : List Line) (row : Landing) (home : Home) (w : Work) → HasCheckpoint home w → IsOfWork lines row → (ask : Ask) → ask_of_work w ≡ Some ask → MayAsk lines row ask
checkpoint_asks lines row home (Paging h p) is own ask e =
    let same : paging_ask p ≡ ask = cc in
    subst (MayAsk lines row) same (page_at_work lines row p own)
checkpoint_asks lines row home (Folding h f) is own ask e =
    let same : making_ask f ≡ ask = cc in
    subst (MayAsk lines row) same (tree_at_work lines row f own)
checkpoint_asks lines row home w is own ask e = absurd is

-- a checkpoint that goes on is one beside the same client
pub checkpoint_goes : (who : Caller) (before after : Seen) (home : Home) (w new : Work) → StepsAt who before after w new More → HasCheckpoint home w → HasCheckpoint home new
checkpoint_goes who before after home (Paging h m) new p is = subst (HasCheckpoint home) (sym p.2) is
checkpoint_goes who before after home (Folding h f) new p is = subst (HasCheckpoint home) (sym p.2) is
checkpoint_goes who before after home w new p is = absurd is

-- an answer that is not want of memory
abbrev pub IsNoWant : Answer → Type 0
IsNoWant (answer.Trouble trouble.Memory) = ⊥
IsNoWant a = Unit {0}

open_still : (t : Trouble) (home : Home) → IsNoWant (answer.Trouble t) → stopped_work t home ≡ Idle home
open_still trouble.Memory home some = absurd some
open_still t home some = refl

-- one that comes to its end leaves the client open, but for want of memory
pub checkpoint_ends : (who : Caller) (before after : Seen) (home : Home) (w new : Work) (a : Answer) → StepsAt who before after w new (Ended a) → HasCheckpoint home w → IsNoWant a → new ≡ Idle home
checkpoint_ends who before after home (Paging h m) new (answer.Done n) p is some = p.2 ∙ ap (λ (x : Home). Idle x) is
checkpoint_ends who before after home (Paging h m) new (answer.Trouble t) p is some = p.2 ∙ open_still t h some ∙ ap (λ (x : Home). Idle x) is
checkpoint_ends who before after home (Paging h m) new a p is some = absurd p
checkpoint_ends who before after home (Folding h f) new (answer.Done n) p is some = p.2 ∙ ap (λ (x : Home). Idle x) is
checkpoint_ends who before after home (Folding h f) new (answer.Trouble t) p is some = p.2 ∙ open_still t h some ∙ ap (λ (x : Home). Idle x) is
checkpoint_ends who before after home (Folding h f) new a p is some = absurd p
checkpoint_ends who before after home w new a p is some = absurd is

-- how the session of a row within a line stands after the lines before it
standing_now : (lines : List Line) (who : Caller) (row : Landing) → who.event ≡ length lines + 1 → row.who ≡ who → standing_of_row lines row ≡ standing lines who.session
standing_now lines who row event is = ap (λ (w : Caller). standing (take (w.event - 1) lines) w.session) is ∙ now_standing lines who event

-- the row of a call within a line is of its kind
pub call_kind : (lines : List Line) (who : Caller) (w : Work) (ask : Ask) → who.event ≡ length lines + 1 → WorksAs w (standing lines who.session)
    → IsSoundWork w → ask_of_work w ≡ Some ask → (row : Landing) → row.who ≡ who → MayAsk lines row ask
call_kind lines who w ask event acts sound e row is =
    work_asks lines row w (subst (WorksAs w) (sym (standing_now lines who row event is)) acts) sound ask e

-- ---- a transaction opens once

-- what opens a transaction opens one of which no row opened a head
pub call_opens : (lines : List Line) (t : CloudState) (st : Store) (now : ℕ) (c : Cache) (part : Part) (w : Work) (ask : Ask) → entries_of st.book.log ≡ committed lines t
    → All (IsOfKind lines t) t.trace → KnowsWork st now c w part → IsSoundWork w → ask_of_work w ≡ Some ask → OpensUnopened t ask
call_opens lines t st now c part w (PutHeld (object.Head client) bytes one two) so kinds k sound e = λ head count spells opens place row other at lands epoch txn.
    on head count spells opens place row other at lands epoch txn p.how
  where
    p : PutsHead w client bytes
    p = head_put st now c w part k sound client bytes one two e

    never : (count : ℕ) → phase.Settled ≡ phase.Open count → ⊥
    never count h = absurd (cc)

    on : (head : Head) (count : ℕ) → head_of bytes ≡ Some head → head.phase ≡ phase.Open count → (place : ℕ) (row : Landing) (other : Head) → slice_get t.trace place ≡ Some row
        → LandsOpen t row client other → other.epoch ≡ head.epoch → other.txn ≡ head.txn → Commits w p.head ⊎ ((opens_of w ≡ None) × (p.head.phase ≡ phase.Settled)) → ⊥
    on head count spells opens place row other at lands epoch txn (inl o) =
        let found : Some p.head ≡ Some head = sym p.spells ∙ spells in
        let same : p.head ≡ head = cc in
        let new : IsNew st.book.log client p.head o.changes = work_is_new st now c w part client p.head o.changes k p.client_is o.opens o.committing in
        not_opened lines t st.book.log place row client other head so at (at_place (IsOfKind lines t) t.trace place row kinds at) lands epoch txn
        (λ r logged own e x. new.fresh r logged own (e ∙ ap (λ (h : Head). h.epoch) (sym same)) (x ∙ ap (λ (h : Head). h.txn) (sym same)))
    on head count spells opens place row other at lands epoch txn (inr settled) =
        let found : Some p.head ≡ Some head = sym p.spells ∙ spells in
        let same : p.head ≡ head = cc in
        never count (sym settled.1 ∙ ap (λ (h : Head). h.phase) same ∙ opens)
call_opens lines t st now c part w (PutHeld (object.Tree tree) bytes one two) so kinds k sound e = tt
call_opens lines t st now c part w (PutHeld (object.Page tree page) bytes one two) so kinds k sound e = tt
call_opens lines t st now c part w (Get name) so kinds k sound e = tt
call_opens lines t st now c part w (GetHeld name l) so kinds k sound e = tt
call_opens lines t st now c part w (ListHeld tree l) so kinds k sound e = tt
call_opens lines t st now c part w (RemoveHeld name l) so kinds k sound e = tt
call_opens lines t st now c part w (Send queue bytes) so kinds k sound e = tt
call_opens lines t st now c part w (Receive queue most) so kinds k sound e = tt
call_opens lines t st now c part w (Delete queue id) so kinds k sound e = tt
call_opens lines t st now c part w (Take lock ticks) so kinds k sound e = tt
call_opens lines t st now c part w (Renew l ticks) so kinds k sound e = tt
call_opens lines t st now c part w (Release l) so kinds k sound e = tt
