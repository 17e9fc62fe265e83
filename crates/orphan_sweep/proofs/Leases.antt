-- Which lease a sweep holds after each of its calls, what these name and give back, and how many calls it made.
use Rattle.std.proofs.Common.{◌≡◌, ℕ, ◌≤◌, ◌+◌, List, [], ◌∷◌, ◌++◌, length, length-append, Option, Some, None, Err, refl, sym, ap, subst, ◌∙◌, arith}
use Rattle.db_base.specs.declared.names.Lock.{Lock}
use Rattle.db_base.specs.declared.names.Lock.TheVariants as lock
use Rattle.cloud_trait.specs.declared.answer.Answer.TheVariants as call
use Rattle.cloud_trait.specs.Ask.{Ask, Take}
use Rattle.ckpt_parts.specs.Leasing.{outstanding, outstanding_after}
use Rattle.orphan_sweep.specs.Sweeping.{Sweeping, Step, new_sweeping, ask_at, sweep_ask, remove_next, next_orphan, sweep_next, KeepsLease}
use Rattle.orphan_sweep.specs.Leases.{Went, claims_of, HoldsTree, HasOrphan, HoldsAt, AreOnce, StandsAt, Stands, Names, GivesBack, AreReturned, AreFew}
use Rattle.orphan_sweep.proofs.Lists.{once_none, once_push, within}
use Rattle.orphan_sweep.proofs.Outcomes.{leased, Onward, Clears, Fails, Comes, came_by}
use Rattle.orphan_sweep.proofs.Outcomes as step
use Rattle.orphan_sweep.proofs.Words.{Trouble, Answer, Turn, More, Ended, Stopped, Claim, Goes, Ends, Stops, LeadsBy, Took, Deed, Came, given_of, Fits, Spot, Stage, TakingTree, GettingTree, Reading, Listing, Removing, Releasing, Finished, Swept}

-- what is outstanding after one more call
abbrev after : Sweeping → Answer → List Claim → List Claim
after s a claims = outstanding_after (sweep_ask s) a claims

-- where a step goes on, it stands so; where it ends, nothing is held and nothing is outstanding
abbrev pub NextStands : ℕ → List Claim → Step → Type 0
NextStands made claims (Goes n) = StandsAt n made claims
NextStands made claims (Ends n x) = (n.held ≡ None) × (claims ≡ [])
NextStands made claims (Stops n t) = (n.held ≡ None) × (claims ≡ [])

-- the tree's lease is held, after so many calls at most
record HoldsStill (s : Sweeping) (made most : ℕ) (claims : List Claim) : Type 0 where
  held : claims_of s.held ≡ claims
  own : HoldsTree s s.held
  few : made ≤ most
  once : AreOnce s.visited

-- a take that gave nothing
not_given : (mine : Lock) (a : Answer) (t : Trouble) (claims : List Claim) → given_of mine a ≡ Err t → outstanding_after (Take mine 60) a claims ≡ claims
not_given mine (call.Given l) t claims e = absurd (cc (e))
not_given mine a t claims e = refl

-- the call in hand is a removal where an orphan is left
removing : (s : Sweeping) (l : Claim) (a : Answer) (claims : List Claim) → HasOrphan s → outstanding_after (remove_next s l (next_orphan s)) a claims ≡ claims
removing s l a claims (page, next) = ap (λ (o : Option ℕ). outstanding_after (remove_next s l o) a claims) next

-- ---- local work

onward_kept : {s : Sweeping} {a : Answer} {o : Option Spot} {made : ℕ} {claims : List Claim} → StandsAt s made claims → Onward s a o
    → HoldsStill s made (length s.visited + 1) (after s a claims)
onward_kept st (step.from_root s (Some l) got root e) = record { held = st.held; own = st.own; few = st.due; once = st.once }
onward_kept st (step.from_page s (Some l) got paths e) = record { held = st.held; own = st.own; few = st.due; once = st.once }
onward_kept st on = absurd st.own

-- .. with so many orphans removed, which are no more than there are
record IsCleared (s : Sweeping) (made : ℕ) (claims : List Claim) : Type 0 where
  kept : HoldsStill s made (length s.visited + s.removed + 3) claims
  few : s.removed ≤ length s.orphans

clears_kept : {s q : Sweeping} {a : Answer} {made : ℕ} {claims : List Claim} → StandsAt s made claims → Clears s a q → IsCleared q (made + 1) (after s a claims)
clears_kept st (step.listed s (Some l) pages) =
    record { kept = record { held = st.held; own = st.own; few = omega (arith, st.due); once = st.once }; few = omega arith }
clears_kept {a = a} {claims = claims} st (step.removed s (Some l)) = record {
  kept = record {
    held = st.held ∙ sym (removing s l a claims st.own.1);
    own = st.own.0;
    few = omega (arith, st.due);
    once = st.once;
  };
  few = omega (arith, within s.orphans s.removed st.own.1);
}
clears_kept st (step.removed s None) = absurd st.own.0
clears_kept st c = absurd st.own

fails_kept : {s : Sweeping} {a : Answer} {t : Trouble} {made : ℕ} {claims : List Claim} → StandsAt s made claims → Fails s a t
    → HoldsStill s (made + 1) (length s.visited + length s.orphans + 3) (after s a claims)
fails_kept st (step.no_root s (Some l) a t e) = record { held = st.held; own = st.own; few = omega (arith, st.due); once = st.once }
fails_kept st (step.no_page s (Some l) a t e) = record { held = st.held; own = st.own; few = omega (arith, st.due); once = st.once }
fails_kept st (step.no_list s (Some l) a t e) = record { held = st.held; own = st.own; few = omega (arith, st.due); once = st.once }
fails_kept {claims = claims} st (step.not_removed s (Some l) a t e) = record {
  held = st.held ∙ sym (removing s l a claims st.own.1);
  own = st.own.0;
  few = omega (arith, st.due, within s.orphans s.removed st.own.1);
  once = st.once;
}
fails_kept st (step.bad_root s (Some l) got t e) = record { held = st.held; own = st.own; few = omega (arith, st.due); once = st.once }
fails_kept st (step.bad_page s (Some l) got t e) = record { held = st.held; own = st.own; few = omega (arith, st.due); once = st.once }
fails_kept st (step.round spot on seen) =
    let kept = onward_kept st on in record { held = kept.held; own = kept.own; few = omega (arith, kept.few); once = kept.once }
fails_kept st (step.not_removed s None a t e) = absurd st.own.0
fails_kept st f = absurd st.own

-- ---- a step

stands_after : {s : Sweeping} {a : Answer} {next : Step} {made : ℕ} {claims : List Claim} → StandsAt s made claims → Fits (sweep_ask s) a → Comes s a next
    → NextStands (made + 1) (after s a claims) next
stands_after st fits (step.takes s None l) =
    record { held = ap (λ (cs : List Claim). l ∷ cs) st.held; own = fits; due = omega (arith, st.due); once = st.once }
stands_after {claims = claims} st fits (step.refused s None a t e) = (refl, not_given (lock.Tree s.tree) a t claims e ∙ sym st.held)
stands_after st fits (step.stops t f) = let kept = fails_kept st f in record { held = kept.held; own = kept.own; due = kept.few; once = kept.once }
stands_after {s = s} st fits (step.reads_on spot on new) =
    let kept = onward_kept st on in
    let one : length (s.visited ++ spot.page ∷ []) ≡ length s.visited + 1 = length-append s.visited (spot.page ∷ []) in
    record { held = kept.held; own = kept.own; due = omega (arith, kept.few, one); once = once_push s.visited spot.page kept.once new }
stands_after st fits (step.has_read on) =
    let kept = onward_kept st on in record { held = kept.held; own = kept.own; due = omega (arith, kept.few); once = kept.once }
stands_after st fits (step.removes q page c e) =
    let kept = (clears_kept st c).kept in
    record { held = kept.held; own = (kept.own, (page, e)); due = kept.few; once = kept.once }
stands_after st fits (step.rests q c e) =
    let cleared = clears_kept st c in
    let kept = cleared.kept in
    record { held = kept.held; own = kept.own; due = omega (arith, kept.few, cleared.few); once = kept.once }
stands_after st fits (step.ends s (Some l) a e) = (refl, sym (ap (after (leased s Releasing (Some l)) a) st.held))
stands_after st fits (step.stopped s (Some l) a t e) = (refl, sym (ap (after (leased s Releasing (Some l)) a) st.held))
stands_after st fits c = absurd st.own

pub step_stands : (s : Sweeping) (made : ℕ) (claims : List Claim) (a : Answer) (next : Step) → StandsAt s made claims → Fits (sweep_ask s) a → sweep_next s a ≡ next
    → NextStands (made + 1) (outstanding_after (sweep_ask s) a claims) next
step_stands s made claims a next st fits leads = stands_after st fits (came_by s a next leads)

-- ---- histories

-- the answer of a deed fits the call in hand
pub fits_of : (s : Sweeping) (d : Deed) → d.ask ≡ sweep_ask s → Fits d.ask d.answer → Fits (sweep_ask s) d.answer
fits_of s d asks fits = subst (λ (ask : Ask). Fits ask d.answer) asks fits

pub came_stands : (tree : ℕ) (h : List Deed) (s : Sweeping) → Came sweep_ask (LeadsBy sweep_next) (new_sweeping tree) h s → Stands s h
came_stands tree [] s came = subst (λ (q : Sweeping). StandsAt q 0 []) (sym came) (record { held = refl; own = tt; due = omega arith; once = once_none })
came_stands tree (d ∷ h) s came =
    let from : Sweeping = came.0 in
    let before : Stands from h = came_stands tree h from came.1 in
    let after : StandsAt s (length h + 1) (outstanding_after (sweep_ask from) d.answer (outstanding h)) =
    step_stands from (length h) (outstanding h) d.answer (Goes s) before (fits_of from d came.2 came.3.fits) came.4 in
    let asked : StandsAt s (length h + 1) (outstanding (d ∷ h)) =
    subst (λ (ask : Ask). StandsAt s (length h + 1) (outstanding_after ask d.answer (outstanding h))) (sym came.2) after in
    let one : length h + 1 ≡ length (d ∷ h) = omega arith in
    subst (λ (n : ℕ). StandsAt s n (outstanding (d ∷ h))) one asked

pub went_stands : (s : Sweeping) (h : List Deed) → Went h s → Stands s h
went_stands s h came = came_stands s.tree h s came

-- ---- what the call in hand names

NamesBy : Stage → Sweeping → Option Claim → Type 0
NamesBy stage s held = HoldsAt stage (leased s stage held) held → Names s.tree (ask_at stage (leased s stage held)) (claims_of held)

removing_names : (s : Sweeping) (l : Claim) → HasOrphan s → l.lock ≡ lock.Tree s.tree → Names s.tree (remove_next s l (next_orphan s)) (l ∷ [])
removing_names s l (page, next) own = subst (λ (o : Option ℕ). Names s.tree (remove_next s l o) (l ∷ [])) (sym next) (refl, own)

names_at : (stage : Stage) (s : Sweeping) (held : Option Claim) → NamesBy stage s held
unfolding NamesBy
names_at TakingTree s None own = (refl, refl)
names_at TakingTree s (Some l) own = absurd own
names_at GettingTree s (Some l) own = (refl, own)
names_at GettingTree s None own = absurd own
names_at Reading s (Some l) own = (refl, own)
names_at Reading s None own = absurd own
names_at Listing s (Some l) own = (refl, (refl, own))
names_at Listing s None own = absurd own
names_at Removing s (Some l) own = removing_names s l own.1 own.0
names_at Removing s None own = absurd own.0
names_at Releasing s (Some l) own = (refl, own)
names_at Releasing s None own = absurd own
names_at Finished s held own = absurd own

named : (s : Sweeping) → HoldsAt s.stage s s.held → Names s.tree (sweep_ask s) (claims_of s.held)
unfolding NamesBy
named s own = names_at s.stage s s.held own

pub stands_names : (s : Sweeping) (h : List Deed) → Stands s h → Names s.tree (sweep_ask s) (outstanding h)
stands_names s h st = subst (Names s.tree (sweep_ask s)) st.held (named s st.own)

-- ---- how many calls

due_few : (stage : Stage) (s : Sweeping) (held : Option Claim) (made : ℕ) (claims : List Claim) → StandsAt (leased s stage held) made claims → AreFew s (1 + made)
due_few TakingTree s held made claims st = omega (arith, st.due)
due_few GettingTree s held made claims st = omega (arith, st.due)
due_few Reading s held made claims st = omega (arith, st.due)
due_few Listing s held made claims st = omega (arith, st.due)
due_few Removing s held made claims st = omega (arith, st.due, within s.orphans s.removed st.own.1)
due_few Releasing s held made claims st = omega (arith, st.due)
due_few Finished s held made claims st = absurd st.own

pub stands_few : (s : Sweeping) (h : List Deed) → Stands s h → AreFew s (1 + length h)
stands_few s h st = due_few s.stage s s.held (length h) (outstanding h) st

-- ---- what is given back

pub took_gives : (old new : Sweeping) (h : List Deed) (a : Answer) (turn : Turn Swept) → Stands old h → Fits (sweep_ask old) a
    → Took (LeadsBy sweep_next) KeepsLease old a new turn → GivesBack new turn
took_gives old new h a More st fits took = tt
took_gives old new h a (Ended x) st fits took = (step_stands old (length h) (outstanding h) a (Ends new x) st fits took).0
took_gives old new h a (Stopped t) st fits took = λ k. (step_stands old (length h) (outstanding h) a (Stops new t) st fits (took.0 k)).0

pub took_returns : (old new : Sweeping) (h : List Deed) (a : Answer) (turn : Turn Swept) → Stands old h → Fits (sweep_ask old) a
    → Took (LeadsBy sweep_next) KeepsLease old a new turn → AreReturned (outstanding_after (sweep_ask old) a (outstanding h)) turn
took_returns old new h a More st fits took = tt
took_returns old new h a (Ended x) st fits took = (step_stands old (length h) (outstanding h) a (Ends new x) st fits took).1
took_returns old new h a (Stopped t) st fits took = λ k. (step_stands old (length h) (outstanding h) a (Stops new t) st fits (took.0 k)).1
