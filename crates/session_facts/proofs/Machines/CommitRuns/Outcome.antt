-- What a commit run knows after each of its calls, whatever it answered.
use Rattle.std.proofs.Common.{◌≡◌, ℕ, Bool, true, false, List, [], ◌∷◌, refl, sym, subst}
use Rattle.cloud_facts.specs.Calls.Acting.{footing, actor, Setting, Outcome}
use Rattle.cloud_facts.specs.Words.{Entry, Answer, CloudState, Caller, Claim, Ask, Book, Store, store_of, IsCall}
use Rattle.cloud_facts.proofs.Calls.Outcomes.{quiet}
use Rattle.session_facts.specs.Machines.Commits.Knows.{KnowsNext}
use Rattle.session_facts.specs.Machines.Commits.Audited.{commit_note}
use Rattle.session_facts.proofs.Machines.Commits.Outcome.{commit_outcome}
use Rattle.commit_run.specs.declared.hand.Hand.{Hand}
use Rattle.commit_run.specs.declared.hand.Hand.TheVariants.{Writes, First, Change}
use Rattle.commit_run.specs.Draft.{Draft}
use Rattle.commit_run.proofs.Outcomes.{comes}
use Rattle.commit_run.specs.Run.{Run, home_of, ask_at, asks, wrote, walked, next_at, run_next}
use Rattle.session_facts.specs.Machines.CommitRuns.Audited.{noted_in, run_note}
use Rattle.commit_run.specs.Sound.{IsSoundAt, IsSoundRun}
use Rattle.session_facts.specs.Machines.CommitRuns.Knows.{KnowsSeeking, KnowsHand, KnowsRun, KnowsRunNext}
use Rattle.session_facts.proofs.Machines.CommitRuns.Nexts.{LedTo, wrote_known, turn_led}
use Rattle.commit_writes.specs.Writing.{writing_ask, writing_next}
use Rattle.cloud_facts.specs.Homes.Homes.{Part, Parts}
use Rattle.history.specs.Audited.{Audited}
use Rattle.page_cache.specs.Cache.{Cache}
use Rattle.tree_walk.specs.Walk.{Walk, walk_ask}
use Rattle.session_facts.specs.Machines.Walks.Caches.{KnowsCache}
use Rattle.session_facts.proofs.Machines.Walks.Caches.{cache_grows}
use Rattle.session_facts.proofs.Machines.Walks.Outcome.{walk_goes}

module _ (who : Caller) (book : Book) (order : List Entry) (s t : CloudState) (parts : Parts) (reply : Answer) (d : Draft) (c : Cache)
    (setting : Setting (footing book order s) t.now (actor parts who.session (d.writes.home.lease ∷ []))) (cache : KnowsCache (store_of book order s) c) where
  abbrev st : Store
  st = store_of book order s

  abbrev mine : List Claim
  mine = d.writes.home.lease ∷ []

  abbrev OutcomeOf : Ask → (Audited → Audited) → (Store → ℕ → Part → Type 0) → Type 0
  OutcomeOf ask note K = Outcome (footing book order s) t (actor parts who.session mine) ask note K

  -- what the commit knows goes on beside the cache
  writes_outcome : OutcomeOf (writing_ask d.writes) (commit_note d.writes (writing_ask d.writes)) (KnowsNext (writing_next d.writes reply))
      → OutcomeOf (writing_ask d.writes) (commit_note d.writes (writing_ask d.writes)) (KnowsRunNext (wrote d c (writing_next d.writes reply)))
  writes_outcome o = record {
    book_after = o.book_after;
    order_after = o.order_after;
    cloud = o.cloud;
    passes = o.passes;
    joins = o.joins;
    links = o.links;
    gone = o.gone;
    part = o.part;
    homes = o.homes;
    knows = wrote_known (store_of o.book_after o.order_after t) t.now o.part d c (writing_next d.writes reply)
        (cache_grows st (store_of o.book_after o.order_after t) o.passes.grows c cache) o.knows;
    noted = o.noted;
  }

  -- a get of a walk leaves heads, homes and messages alone
  walk_outcome : (first : Bool) (w : Walk) → IsCall who (walk_ask w) reply s t → KnowsSeeking st t.now d w (parts who.session)
      → OutcomeOf (walk_ask w) (λ a. a) (KnowsRunNext (walked first d w c reply))
  walk_outcome first w call k =
      quiet who book order s t parts mine (walk_ask w) (λ a. a) (KnowsRunNext (walked first d w c reply)) reply call tt tt setting.cloud led.part led.homes led.knows
    where
      led : LedTo st t.now parts who.session (walked first d w c reply)
      led =
          turn_led st t.now setting.cloud.holds parts who.session setting.homes (comes d w c reply first) k.draft
          (walk_goes book order s setting.cloud who w c reply t call (record { walk = k.walk; cache = cache }))

  outcome_at : (hand : Hand) → KnowsHand hand st t.now d (parts who.session) → IsSoundAt hand d.writes → IsCall who (ask_at hand d.writes) reply s t
      → OutcomeOf (ask_at hand d.writes) (noted_in hand d.writes (ask_at hand d.writes)) (KnowsRunNext (next_at hand d c reply))
  outcome_at Writes k sound call = writes_outcome (commit_outcome who book order s t parts d.writes reply (parts who.session) setting refl k sound call)
  outcome_at (First w) k sound call = walk_outcome true w call k
  outcome_at (Change w) k sound call = walk_outcome false w call k

pub run_outcome : (who : Caller) (book : Book) (order : List Entry) (s t : CloudState) (parts : Parts) (m : Run × Cache) (reply : Answer) (part : Part)
    → Setting (footing book order s) t.now (actor parts who.session ((home_of m.0).lease ∷ [])) → parts who.session ≡ part → KnowsRun (store_of book order s) t.now m part → IsSoundRun m.0
    → IsCall who (asks m) reply s t → Outcome (footing book order s) t (actor parts who.session ((home_of m.0).lease ∷ [])) (asks m) (run_note m.0 (asks m)) (KnowsRunNext (run_next m reply))
run_outcome who book order s t parts m reply part setting is k sound call =
    outcome_at who book order s t parts reply m.0.draft m.1 setting k.cache m.0.hand (subst (λ (p : Part). KnowsHand m.0.hand (store_of book order s) t.now m.0.draft p) (sym is) k.hand)
    sound call
