-- What a sweep asks: it puts and sends nothing, and removes pages of its own tree alone.
use Rattle.std.proofs.Common.{◌≡◌, ◌⊎◌, inl, inr, ℕ, List, Option, Some, None, refl, sym, subst, arith}
use Rattle.cloud_facts.specs.Words.{Trouble, ObjName, Answer, CloudState, called, Caller, Claim, Lasts, Ask, Get, GetHeld, PutHeld, Send, Receive, Delete, Take, Renew, Release, Goes, Ends, Stops}
use Rattle.cloud_trait.specs.declared.answer.Answer.TheVariants.{Late}
use Rattle.cloud_trait.specs.declared.state.Landing.{Landing}
use Rattle.cloud_trait.specs.Ask.{ListHeld, RemoveHeld}
use Rattle.cloud_trait.specs.Calm.{NamesLasting}
use Rattle.cloud_trait.specs.Claim.{IsOver}
use Rattle.cloud_trait.specs.State.{Counts}
use Rattle.cloud_trait.specs.Weather.{counted, Weather}
use Rattle.db_base.specs.declared.names.ObjName.TheVariants as object
use Rattle.orphan_sweep.proofs.Outcomes.{Onward, from_root, from_page, Clears, listed, removed, Fails, no_root, no_page, no_list, not_removed, bad_root, bad_page, round, Comes, takes, refused, stops, reads_on, has_read, removes, rests, ends, stopped, nothing, came_by}
use Rattle.orphan_sweep.specs.declared.spot.Spot.{Spot}
use Rattle.orphan_sweep.specs.declared.stage.Stage.{Stage}
use Rattle.orphan_sweep.specs.declared.stage.Stage.TheVariants.{TakingTree, GettingTree, Reading, Listing, Removing, Releasing, Finished}
use Rattle.orphan_sweep.specs.Sweeping.{Sweeping, Step, sweep_ask, sweep_next, ask_at, under, remove_next, next_orphan}
use Rattle.replay_meaning.specs.Kinds.{IsOfSweep}
use Rattle.replay_meaning.specs.Standing.{Line}
use Rattle.session_facts.specs.Rows.Asks.{MayAsk}

-- a call that a sweep of the tree may make
abbrev pub IsAskOf : ℕ → Ask → Type 0
IsAskOf tree (RemoveHeld (object.Page of page) l) = of ≡ tree
IsAskOf tree (GetHeld name l) = Unit {0}
IsAskOf tree (ListHeld of l) = Unit {0}
IsAskOf tree (Take of ticks) = Unit {0}
IsAskOf tree (Release l) = Unit {0}
IsAskOf tree ask = ⊥

under_asks : (s : Sweeping) (held : Option Claim) (ask : Claim → Ask) → ((l : Claim) → IsAskOf s.tree (ask l)) → IsAskOf s.tree (under s held ask)
under_asks s (Some l) ask each = each l
under_asks s None ask each = tt

removal_asks : (s : Sweeping) (l : Claim) (page : Option ℕ) → IsAskOf s.tree (remove_next s l page)
removal_asks s l (Some page) = refl
removal_asks s l None = tt

pub asks_at : (stage : Stage) (s : Sweeping) → IsAskOf s.tree (ask_at stage s)
asks_at TakingTree s = tt
asks_at GettingTree s = under_asks s s.held (GetHeld (object.Tree s.tree)) (λ l. tt)
asks_at Reading s = under_asks s s.held (GetHeld (object.Page s.tree s.at.page)) (λ l. tt)
asks_at Listing s = under_asks s s.held (ListHeld s.tree) (λ l. tt)
asks_at Removing s = under_asks s s.held (λ l. remove_next s l (next_orphan s)) (λ l. removal_asks s l (next_orphan s))
asks_at Releasing s = under_asks s s.held Release (λ l. tt)
asks_at Finished s = tt

-- it puts nothing
pub sweep_puts_none : (s : Sweeping) (name : ObjName) (bytes : List ℕ) (one : Claim) (two : Option Claim) → sweep_ask s ≡ PutHeld name bytes one two → ⊥
sweep_puts_none s name bytes one two e = subst (IsAskOf s.tree) e (asks_at s.stage s)

may_ask : (lines : List Line) (row : Landing) (tree : ℕ) (ask : Ask) → IsAskOf tree ask → IsOfSweep lines row tree → MayAsk lines row ask
may_ask lines row tree (RemoveHeld (object.Page of page) l) is own = subst (IsOfSweep lines row) (sym is) own
may_ask lines row tree (RemoveHeld (object.Head client) l) is own = is
may_ask lines row tree (RemoveHeld (object.Tree of) l) is own = is
may_ask lines row tree (GetHeld name l) is own = tt
may_ask lines row tree (ListHeld of l) is own = tt
may_ask lines row tree (Take of ticks) is own = tt
may_ask lines row tree (Release l) is own = tt
may_ask lines row tree (Get name) is own = absurd is
may_ask lines row tree (PutHeld name bytes one two) is own = absurd is
may_ask lines row tree (Send queue bytes) is own = absurd is
may_ask lines row tree (Receive queue most) is own = absurd is
may_ask lines row tree (Delete queue id) is own = absurd is
may_ask lines row tree (Renew l ticks) is own = absurd is

-- what it asks is of the kinds of its line
pub sweep_may : (lines : List Line) (row : Landing) (s : Sweeping) → IsOfSweep lines row s.tree → MayAsk lines row (sweep_ask s)
sweep_may lines row s own = may_ask lines row s.tree (sweep_ask s) (asks_at s.stage s) own

-- ---- a call that comes too late

lasts_not : (now : ℕ) (l : Claim) → Lasts now l → IsOver now l → ⊥
lasts_not now l lasts over = omega (arith, lasts, over)

-- a lease that it names is over
pub late_shown : (who : Caller) (tree : ℕ) (ask : Ask) (end now : ℕ) (c d : Counts) (s t : CloudState) → IsAskOf tree ask → Weather who ask (Late end now) (counted c (called who t.now s)) (counted d t)
    → NamesLasting ask t.now → ⊥
late_shown who tree (GetHeld name l) end now c d s t is row lasts = lasts_not t.now l lasts row.1
late_shown who tree (ListHeld of l) end now c d s t is row lasts = lasts_not t.now l lasts row.1
late_shown who tree (RemoveHeld name l) end now c d s t is row lasts = lasts_not t.now l lasts row.1
late_shown who tree (Take of ticks) end now c d s t is row lasts = row
late_shown who tree (Release l) end now c d s t is row lasts = row
late_shown who tree (Get name) end now c d s t is row lasts = is
late_shown who tree (PutHeld name bytes one two) end now c d s t is row lasts = is
late_shown who tree (Send queue bytes) end now c d s t is row lasts = is
late_shown who tree (Receive queue most) end now c d s t is row lasts = is
late_shown who tree (Delete queue id) end now c d s t is row lasts = is
late_shown who tree (Renew l ticks) end now c d s t is row lasts = is

-- ---- a trouble that is kept

-- it stops for this one
abbrev pub IsStop : Step → Trouble → Type 0
IsStop (Stops n t) k = t ≡ k
IsStop next k = ⊥

onward_before : (s : Sweeping) (a : Answer) (o : Option Spot) → Onward s a o → s.stage ≡ Releasing → ⊥
onward_before _ _ _ (from_root s held got root e) is = absurd (cc (is))
onward_before _ _ _ (from_page s held got paths e) is = absurd (cc (is))

fails_before : (s : Sweeping) (a : Answer) (t : Trouble) → Fails s a t → s.stage ≡ Releasing → ⊥
fails_before _ _ _ (no_root s held a t e) is = absurd (cc (is))
fails_before _ _ _ (no_page s held a t e) is = absurd (cc (is))
fails_before _ _ _ (no_list s held a t e) is = absurd (cc (is))
fails_before _ _ _ (not_removed s held a t e) is = absurd (cc (is))
fails_before _ _ _ (bad_root s held got t e) is = absurd (cc (is))
fails_before _ _ _ (bad_page s held got t e) is = absurd (cc (is))
fails_before s a _ (round spot on seen) is = onward_before s a (Some spot) on is

clears_before : (s : Sweeping) (a : Answer) (q : Sweeping) → Clears s a q → s.stage ≡ Releasing → ⊥
clears_before _ _ _ (listed s held pages) is = absurd (cc (is))
clears_before _ _ _ (removed s held) is = absurd (cc (is))

stops_by : (s : Sweeping) (a : Answer) (next : Step) (k : Trouble) → Comes s a next → s.stage ≡ Releasing → s.trouble ≡ Some k → IsStop next k
stops_by _ _ _ k (takes s held l) is kept = absurd (cc (is))
stops_by _ _ _ k (refused s held a t e) is kept = absurd (cc (is))
stops_by s a _ k (stops t fails) is kept = absurd (fails_before s a t fails is)
stops_by s a _ k (reads_on spot on new) is kept = absurd (onward_before s a (Some spot) on is)
stops_by s a _ k (has_read on) is kept = absurd (onward_before s a None on is)
stops_by s a _ k (removes q page clears there) is kept = absurd (clears_before s a q clears is)
stops_by s a _ k (rests q clears none) is kept = absurd (clears_before s a q clears is)
stops_by _ _ _ k (ends s held a none) is kept = absurd (cc (none, kept))
stops_by _ _ _ k (stopped s held a t some) is kept = cc (some, kept)
stops_by _ _ _ k (nothing s held a) is kept = absurd (cc (is))

-- once its lease is given back it stops for the trouble that it kept
pub kept_stops : (s : Sweeping) (a : Answer) (next : Step) (k : Trouble) → (s.stage ≡ Releasing) ⊎ (s.trouble ≡ None) → s.trouble ≡ Some k → sweep_next s a ≡ next → IsStop next k
kept_stops s a next k (inl stage) kept e = stops_by s a next k (came_by s a next e) stage kept
kept_stops s a next k (inr none) kept e = absurd (cc (none, kept))

-- ---- its tree stays

abbrev HasTree : ℕ → Step → Type 0
HasTree tree (Goes n) = n.tree ≡ tree
HasTree tree (Ends n x) = Unit {0}
HasTree tree (Stops n t) = Unit {0}

clears_tree : (s : Sweeping) (a : Answer) (q : Sweeping) → Clears s a q → q.tree ≡ s.tree
clears_tree _ _ _ (listed s held pages) = refl
clears_tree _ _ _ (removed s held) = refl

keeps_tree : (s : Sweeping) (a : Answer) (next : Step) → Comes s a next → HasTree s.tree next
keeps_tree _ _ _ (takes s held l) = refl
keeps_tree _ _ _ (refused s held a t e) = tt
keeps_tree s a _ (stops t fails) = refl
keeps_tree s a _ (reads_on spot on new) = refl
keeps_tree s a _ (has_read on) = refl
keeps_tree s a _ (removes q page clears there) = clears_tree s a q clears
keeps_tree s a _ (rests q clears none) = clears_tree s a q clears
keeps_tree _ _ _ (ends s held a none) = tt
keeps_tree _ _ _ (stopped s held a t some) = tt
keeps_tree _ _ _ (nothing s held a) = tt

pub same_tree : (s : Sweeping) (a : Answer) (n : Sweeping) → sweep_next s a ≡ Goes n → n.tree ≡ s.tree
same_tree s a n e = keeps_tree s a (Goes n) (came_by s a (Goes n) e)
