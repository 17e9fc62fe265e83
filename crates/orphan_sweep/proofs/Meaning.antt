-- What the calls of a sweep were at each stage, and at its end.
use Rattle.std.proofs.Common.{◌≡◌, ℕ, ◌≤◌, List, [], ◌∷◌, ◌++◌, length, take, Option, Some, None, refl, sym, ap, subst, ◌∙◌, arith}
use Rattle.std.specs.Prelude.{not, slice_get}
use Rattle.db_base.specs.declared.names.Lock.TheVariants as lock
use Rattle.db_base.specs.declared.names.ObjName.TheVariants as object
use Rattle.cloud_trait.specs.declared.answer.Answer.TheVariants as call
use Rattle.cloud_trait.specs.Ask.{Ask, GetHeld, ListHeld, RemoveHeld, Take, Release}
use Rattle.orphan_sweep.specs.Sweeping.{Sweeping, Step, new_sweeping, ask_at, sweep_ask, remove_next, next_orphan, is_among, sweep_next, KeepsLease}
use Rattle.orphan_sweep.specs.Leases.{Went, HoldsAt}
use Rattle.orphan_sweep.specs.Meaning.{Calls, pages_in, opening, visits_over, removals_over, HasRead, HasListed, KnowsAt, Knows, Removes, IsSwept, MeansSwept}
use Rattle.orphan_sweep.proofs.Lists.{within, past, take_one_more, ascends, stray_at, kept_and_strays}
use Rattle.orphan_sweep.proofs.Leases.{fits_of, came_stands}
use Rattle.orphan_sweep.proofs.Outcomes.{leased, Onward, Clears, Comes, came_by}
use Rattle.orphan_sweep.proofs.Outcomes as step
use Rattle.orphan_sweep.proofs.Words.{Trouble, Answer, Turn, More, Ended, Stopped, Claim, Goes, Ends, Stops, LeadsBy, Took, Deed, Came, calls_of, Fits, Spot, Stage, TakingTree, GettingTree, Reading, Listing, Removing, Releasing, Finished, Swept}

-- ---- reading

claim_is : (l m : Claim) → Some l ≡ Some m → l ≡ m
claim_is l m e = cc (e)

-- what was read, behind a call that got the tree object or a page
record IsRead (s : Sweeping) (calls : Calls) (o : Option Spot) : Type 0 where
  read : HasRead s.tree s.held calls o
  came : s.visited ≡ pages_in read.visits

onward_read : {s : Sweeping} {a : Answer} {o : Option Spot} (calls : Calls) → Knows s calls → Onward s a o → IsRead s ((sweep_ask s, a) ∷ calls) o
onward_read calls k (step.from_root s None got root e) = let (l, held, are) = k.0 in absurd (cc (held))
onward_read calls k (step.from_root s (Some m) got root e) = let (l, held, are) = k.0 in record {
  read = record {
    lease = m;
    is_held = refl;
    got = got;
    root = root;
    is_root = e;
    visits = [];
    lead = refl;
    are = ap (λ (cs : Calls). (GetHeld (object.Tree s.tree) m, call.Got got) ∷ cs) (are ∙ ap (λ (x : Claim). (Take (lock.Tree s.tree) 60, call.Given x) ∷ []) (sym (claim_is m l held)));
  };
  came = k.1;
}
onward_read calls k (step.from_page s None got paths e) = let held = k.0.is_held in absurd (cc (held))
onward_read calls k (step.from_page s (Some m) got paths e) =
    let read = k.0 in
    record {
      read = record {
        lease = read.lease;
        is_held = read.is_held;
        got = read.got;
        root = read.root;
        is_root = read.is_root;
        visits = record { at = s.at; got = got } ∷ read.visits;
        lead = (read.lead, (paths, e, refl));
        are =
            ap (λ (cs : Calls). (GetHeld (object.Page s.tree s.at.page) m, call.Got got) ∷ cs) read.are
            ∙ ap (λ (x : Claim). (GetHeld (object.Page s.tree s.at.page) x, call.Got got) ∷ visits_over s.tree read.lease read.visits (opening s.tree read.lease read.got)) (claim_is m read.lease read.is_held);
      };
      came = k.1;
    }

-- ---- removing

removals_one_more : (tree : ℕ) (l : Claim) (pages : List ℕ) (page : ℕ) (rest : Calls)
    → removals_over tree l (pages ++ page ∷ []) rest ≡ (RemoveHeld (object.Page tree page) l, call.Done) ∷ removals_over tree l pages rest
removals_one_more tree l [] page rest = refl
removals_one_more tree l (p ∷ pages) page rest = removals_one_more tree l pages page ((RemoveHeld (object.Page tree p) l, call.Done) ∷ rest)

-- so many orphans were removed, which are no more than there are
record IsCleared (s : Sweeping) (calls : Calls) : Type 0 where
  listed : HasListed s calls
  few : s.removed ≤ length s.orphans

clears_listed : {s q : Sweeping} {a : Answer} (calls : Calls) → Knows s calls → HoldsAt s.stage s s.held → Fits (sweep_ask s) a → Clears s a q
    → IsCleared q ((sweep_ask s, a) ∷ calls)
clears_listed calls k own fits (step.listed s None pages) = absurd own
clears_listed calls k own fits (step.listed s (Some m) pages) = record {
  listed = record {
    before = calls;
    all = k;
    listed = pages;
    ascending = fits;
    orphans = refl;
    in_order = ascends (λ page. not (is_among s.visited page)) 0 pages fits;
    kept = kept_and_strays s.visited pages;
    are = ap (λ (x : Claim). (ListHeld s.tree x, call.Listed pages) ∷ calls) (claim_is m k.read.lease k.read.is_held);
  };
  few = omega arith;
}
clears_listed calls k own fits (step.removed s None) = absurd own.0
clears_listed calls k own fits (step.removed s (Some m)) =
    let (page, next) = own.1 in
    let l = k.all.read.lease in
    let rest : Calls = (ListHeld s.tree l, call.Listed k.listed) ∷ k.before in
    let here : Calls = removals_over s.tree l (take s.removed s.orphans) rest in
    record {
      listed = record {
        before = k.before;
        all = k.all;
        listed = k.listed;
        ascending = k.ascending;
        orphans = k.orphans;
        in_order = k.in_order;
        kept = k.kept;
        are =
            ap (λ (o : Option ℕ). (remove_next s m o, call.Done) ∷ calls) next
            ∙ (ap (λ (cs : Calls). (RemoveHeld (object.Page s.tree page) m, call.Done) ∷ cs) k.are
            ∙ (ap (λ (x : Claim). (RemoveHeld (object.Page s.tree page) x, call.Done) ∷ here) (claim_is m l k.all.read.is_held)
            ∙ (sym (removals_one_more s.tree l (take s.removed s.orphans) page rest)
            ∙ ap (λ (pages : List ℕ). removals_over s.tree l pages rest) (sym (take_one_more s.orphans s.removed page next)))));
      };
      few = omega (arith, within s.orphans s.removed own.1);
    }

-- the same at another stage
listed_at : (s : Sweeping) (stage : Stage) (calls : Calls) → HasListed s calls → HasListed (record s { stage = stage }) calls
listed_at s stage calls h = record {
  before = h.before;
  all = h.all;
  listed = h.listed;
  ascending = h.ascending;
  orphans = h.orphans;
  in_order = h.in_order;
  kept = h.kept;
  are = h.are;
}

-- ---- a step

abbrev NextKnows : Calls → Step → Type 0
NextKnows calls (Goes n) = Knows n calls
NextKnows calls (Ends n x) = Unit {0}
NextKnows calls (Stops n t) = Unit {0}

never_none : {X : Type 0} (t : Trouble) → Some t ≡ None → X
never_none t e = absurd (cc (e))

knows_after : {s : Sweeping} {a : Answer} {next : Step} (calls : Calls) → Knows s calls → HoldsAt s.stage s s.held → Fits (sweep_ask s) a → Comes s a next
    → NextKnows ((sweep_ask s, a) ∷ calls) next
knows_after calls k own fits (step.takes s held l) = ((l, refl, ap (λ (cs : Calls). (Take (lock.Tree s.tree) 60, call.Given l) ∷ cs) k.0), k.1)
knows_after calls k own fits (step.refused s held a t e) = tt
knows_after calls k own fits (step.stops t f) = λ none. never_none t none
knows_after calls k own fits (step.reads_on spot on new) =
    let now = onward_read calls k on in (now.read, ap (λ (ps : List ℕ). ps ++ spot.page ∷ []) now.came)
knows_after calls k own fits (step.has_read on) = let now = onward_read calls k on in record { read = now.read; came = now.came }
knows_after {s = s} {a = a} calls k own fits (step.removes q page c e) =
    listed_at q Removing ((sweep_ask s, a) ∷ calls) (clears_listed calls k own fits c).listed
knows_after {s = s} {a = a} calls k own fits (step.rests q c e) = λ none.
    let now = clears_listed calls k own fits c in
    (listed_at q Releasing ((sweep_ask s, a) ∷ calls) now.listed, omega (arith, now.few, past q.orphans q.removed e))
knows_after calls k own fits (step.ends s held a e) = tt
knows_after calls k own fits (step.stopped s held a t e) = tt
knows_after calls k own fits (step.nothing s held a) = tt

step_knows : (s : Sweeping) (calls : Calls) (a : Answer) (next : Step) → Knows s calls → HoldsAt s.stage s s.held → Fits (sweep_ask s) a → sweep_next s a ≡ next
    → NextKnows ((sweep_ask s, a) ∷ calls) next
step_knows s calls a next k own fits leads = knows_after calls k own fits (came_by s a next leads)

-- ---- histories

came_knows : (tree : ℕ) (h : List Deed) (s : Sweeping) → Came sweep_ask (LeadsBy sweep_next) (new_sweeping tree) h s → Knows s (calls_of h)
came_knows tree [] s came = subst (λ (q : Sweeping). Knows q []) (sym came) (refl, refl)
came_knows tree (d ∷ h) s came =
    let from : Sweeping = came.0 in
    let now : Knows s ((sweep_ask from, d.answer) ∷ calls_of h) =
    step_knows from (calls_of h) d.answer (Goes s) (came_knows tree h from came.1) (came_stands tree h from came.1).own
    (fits_of from d came.2 came.3.fits) came.4 in
    subst (λ (ask : Ask). Knows s ((ask, d.answer) ∷ calls_of h)) (sym came.2) now

pub went_knows : (s : Sweeping) (h : List Deed) → Went h s → Knows s (calls_of h)
went_knows s h came = came_knows s.tree h s came

-- ---- removals

due : (s : Sweeping) (calls : Calls) (m : Claim) (o : Option ℕ) → next_orphan s ≡ o → HasListed s calls → Removes s calls (remove_next s m o)
due s calls m (Some page) e listed =
    let stray = stray_at s.visited listed.listed s.removed page (ap (λ (pages : List ℕ). slice_get pages s.removed) (sym listed.orphans) ∙ e) in
    record { listed = listed; page = page; next = e; there = stray.0; apart = stray.1; named = refl }
due s calls m None e listed = tt

removes_at : (stage : Stage) (s : Sweeping) (held : Option Claim) (calls : Calls) → KnowsAt stage (leased s stage held) calls
    → Removes (leased s stage held) calls (ask_at stage (leased s stage held))
removes_at TakingTree s held calls k = tt
removes_at GettingTree s (Some m) calls k = tt
removes_at GettingTree s None calls k = tt
removes_at Reading s (Some m) calls k = tt
removes_at Reading s None calls k = tt
removes_at Listing s (Some m) calls k = tt
removes_at Listing s None calls k = tt
removes_at Removing s (Some m) calls k = due (leased s Removing (Some m)) calls m (next_orphan s) refl k
removes_at Removing s None calls k = tt
removes_at Releasing s (Some m) calls k = tt
removes_at Releasing s None calls k = tt
removes_at Finished s held calls k = tt

pub knows_removes : (s : Sweeping) (calls : Calls) → Knows s calls → Removes s calls (sweep_ask s)
knows_removes s calls k = removes_at s.stage s s.held calls k

-- ---- the end

abbrev NextSwept : Sweeping → Calls → Step → Type 0
NextSwept s calls (Goes n) = Unit {0}
NextSwept s calls (Ends n x) = IsSwept s calls x
NextSwept s calls (Stops n t) = Unit {0}

swept_after : {s : Sweeping} {a : Answer} {next : Step} (calls : Calls) → Knows s calls → Comes s a next → NextSwept s calls next
swept_after calls k (step.ends s None a e) = let held = (k e).0.all.read.is_held in absurd (cc (held))
swept_after calls k (step.ends s (Some m) a e) =
    let (listed, all) = k e in
    record { listed = listed; all = all; last = ap Release (claim_is m listed.all.read.lease listed.all.read.is_held); answers = refl }
swept_after calls k (step.takes s held l) = tt
swept_after calls k (step.refused s held a t e) = tt
swept_after calls k (step.stops t f) = tt
swept_after calls k (step.reads_on spot on new) = tt
swept_after calls k (step.has_read on) = tt
swept_after calls k (step.removes q page c e) = tt
swept_after calls k (step.rests q c e) = tt
swept_after calls k (step.stopped s held a t e) = tt
swept_after calls k (step.nothing s held a) = tt

pub took_swept : (old new : Sweeping) (calls : Calls) (a : Answer) (turn : Turn Swept) → Knows old calls
    → Took (LeadsBy sweep_next) KeepsLease old a new turn → MeansSwept old calls turn
took_swept old new calls a More k took = tt
took_swept old new calls a (Ended x) k took = swept_after calls k (came_by old a (Ends new x) took)
took_swept old new calls a (Stopped t) k took = tt
