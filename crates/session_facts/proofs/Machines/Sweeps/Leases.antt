-- The lease of a sweep: its calls use no other, and behind each call it holds what the calls left.
use Rattle.std.proofs.Common.{◌≡◌, List, [], ◌∷◌, ℕ, Option, Some, None, Err, refl, sym}
use Rattle.ckpt_parts.specs.Leasing.{outstanding_after}
use Rattle.cloud_facts.specs.Words.{Trouble, Lock, Answer, Claim, Take, given_of, Store, IsIn}
use Rattle.cloud_trait.specs.declared.answer.Answer.TheVariants.{Given}
use Rattle.db_base.specs.declared.names.Lock.TheVariants as lock
use Rattle.orphan_sweep.proofs.Outcomes.{Onward, from_root, from_page, Clears, listed, removed, Fails, no_root, no_page, no_list, not_removed, bad_root, bad_page, round, Comes, takes, refused, stops, reads_on, has_read, removes, rests, ends, stopped, nothing, came_by}
use Rattle.orphan_sweep.specs.declared.spot.Spot.{Spot}
use Rattle.orphan_sweep.specs.declared.stage.Stage.{Stage}
use Rattle.orphan_sweep.specs.declared.stage.Stage.TheVariants.{TakingTree, GettingTree, Reading, Listing, Removing, Releasing, Finished}
use Rattle.orphan_sweep.specs.Leases.{HoldsTree, HoldsAt, claims_of}
use Rattle.orphan_sweep.specs.Sweeping.{Sweeping, Step, sweep_ask, sweep_next, ask_at, remove_next, next_orphan}
use Rattle.session_facts.specs.Settling.Locks.{UsesOwn}
use Rattle.session_facts.specs.Machines.Sweeps.Knows.{Under, KnowsAt, leases_of_sweep, leases_next}

-- ---- what is held

under_held : (s : Sweeping) (now : ℕ) (held : Option Claim) (Known : Type 0) → Under s.tree now held Known → HoldsTree s held
under_held s now (Some l) Known is = is.0
under_held s now None Known is = is

pub held_at : (stage : Stage) (st : Store) (now : ℕ) (s : Sweeping) → KnowsAt stage st now s → HoldsAt stage s s.held
held_at TakingTree st now s k = k.0
held_at GettingTree st now s k = under_held s now s.held _ k.0
held_at Reading st now s k = under_held s now s.held _ k
held_at Listing st now s k = under_held s now s.held _ k
held_at Removing st now s k = (under_held s now s.held _ k.0, k.1)
held_at Releasing st now s k = under_held s now s.held _ k
held_at Finished st now s k = k

-- ---- what a call uses

removal_uses : (s : Sweeping) (l : Claim) (page : Option ℕ) (found : ℕ) → page ≡ Some found → UsesOwn (remove_next s l page) (l ∷ [])
removal_uses s l (Some page) found e = tt
removal_uses s l None found e = absurd (cc (e))

none_in : (x : Claim) → IsIn [] x → ⊥
none_in x is = absurd (cc (is.1))

uses_at : (stage : Stage) (s : Sweeping) (held : Option Claim) → HoldsAt stage (record s { stage = stage; held = held }) held
    → UsesOwn (ask_at stage (record s { stage = stage; held = held })) (claims_of held)
uses_at TakingTree s None own = λ c there e. none_in c there
uses_at TakingTree s (Some l) own = absurd own
uses_at GettingTree s (Some l) own = tt
uses_at GettingTree s None own = absurd own
uses_at Reading s (Some l) own = tt
uses_at Reading s None own = absurd own
uses_at Listing s (Some l) own = tt
uses_at Listing s None own = absurd own
uses_at Removing s (Some l) own = removal_uses s l (next_orphan s) own.1.0 own.1.1
uses_at Removing s None own = absurd own.0
uses_at Releasing s (Some l) own = refl
uses_at Releasing s None own = absurd own
uses_at Finished s held own = absurd own

pub sweep_uses : (s : Sweeping) → HoldsAt s.stage s s.held → UsesOwn (sweep_ask s) (leases_of_sweep s)
sweep_uses s own = uses_at s.stage s s.held own

-- ---- what a call leaves

not_given : (mine : Lock) (a : Answer) (t : Trouble) → given_of mine a ≡ Err t → outstanding_after (Take mine 60) a [] ≡ []
not_given mine (Given l) t e = absurd (cc (e))
not_given mine a t e = refl

removal_leaves : (s : Sweeping) (l : Claim) (a : Answer) (page : Option ℕ) (found : ℕ) → page ≡ Some found → l ∷ [] ≡ outstanding_after (remove_next s l page) a (l ∷ [])
removal_leaves s l a (Some page) found e = refl
removal_leaves s l a None found e = absurd (cc (e))

abbrev Leaves : Sweeping → Answer → List Claim → Type 0
Leaves s a left = left ≡ outstanding_after (sweep_ask s) a (claims_of s.held)

onward_leaves : (s : Sweeping) (a : Answer) (o : Option Spot) → HoldsAt s.stage s s.held → Onward s a o → Leaves s a (claims_of s.held)
onward_leaves _ _ _ own (from_root s (Some l) got root e) = refl
onward_leaves _ _ _ own (from_page s (Some l) got paths e) = refl
onward_leaves _ _ _ own (from_root s None got root e) = absurd own
onward_leaves _ _ _ own (from_page s None got paths e) = absurd own

fails_leaves : (s : Sweeping) (a : Answer) (t : Trouble) → HoldsAt s.stage s s.held → Fails s a t → Leaves s a (claims_of s.held)
fails_leaves _ _ _ own (no_root s (Some l) a t e) = refl
fails_leaves _ _ _ own (no_page s (Some l) a t e) = refl
fails_leaves _ _ _ own (no_list s (Some l) a t e) = refl
fails_leaves _ _ _ own (not_removed s (Some l) a t e) = removal_leaves s l a (next_orphan s) own.1.0 own.1.1
fails_leaves _ _ _ own (not_removed s None a t e) = absurd own.0
fails_leaves _ _ _ own (bad_root s (Some l) got t e) = refl
fails_leaves _ _ _ own (bad_page s (Some l) got t e) = refl
fails_leaves s a _ own (round spot on seen) = onward_leaves s a (Some spot) own on
fails_leaves _ _ _ own (no_root s None a t e) = absurd own
fails_leaves _ _ _ own (no_page s None a t e) = absurd own
fails_leaves _ _ _ own (no_list s None a t e) = absurd own
fails_leaves _ _ _ own (bad_root s None got t e) = absurd own
fails_leaves _ _ _ own (bad_page s None got t e) = absurd own

clears_leaves : (s : Sweeping) (a : Answer) (q : Sweeping) → HoldsAt s.stage s s.held → Clears s a q → Leaves s a (claims_of q.held)
clears_leaves _ _ _ own (listed s (Some l) pages) = refl
clears_leaves _ _ _ own (listed s None pages) = absurd own
clears_leaves _ _ _ own (removed s (Some l)) = removal_leaves s l _ (next_orphan s) own.1.0 own.1.1
clears_leaves _ _ _ own (removed s None) = absurd own.0

leaves : (s : Sweeping) (a : Answer) (next : Step) → HoldsAt s.stage s s.held → Comes s a next → Leaves s a (leases_next next)
leaves _ _ _ own (takes s None l) = refl
leaves _ _ _ own (takes s (Some x) l) = absurd own
leaves _ _ _ own (refused s None a t e) = sym (not_given (lock.Tree s.tree) a t e)
leaves _ _ _ own (refused s (Some x) a t e) = absurd own
leaves s a _ own (stops t fails) = fails_leaves s a t own fails
leaves s a _ own (reads_on spot on new) = onward_leaves s a (Some spot) own on
leaves s a _ own (has_read on) = onward_leaves s a None own on
leaves s a _ own (removes q page clears there) = clears_leaves s a q own clears
leaves s a _ own (rests q clears none) = clears_leaves s a q own clears
leaves _ _ _ own (ends s (Some l) a none) = refl
leaves _ _ _ own (ends s None a none) = absurd own
leaves _ _ _ own (stopped s (Some l) a t some) = refl
leaves _ _ _ own (stopped s None a t some) = absurd own
leaves _ _ _ own (nothing s held a) = absurd own

pub sweep_holds : (s : Sweeping) (a : Answer) (next : Step) → HoldsAt s.stage s s.held → sweep_next s a ≡ next → leases_next next ≡ outstanding_after (sweep_ask s) a (leases_of_sweep s)
sweep_holds s a next own e = leaves s a next own (came_by s a next e)
