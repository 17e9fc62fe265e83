-- Where the local work of a commit leads before its first write: to the next walk, to the first write, or to its end.
use Rattle.std.proofs.Common.{◌≡◌, ◌≤◌, ℕ, Bool, true, false, List, length, Option, Some, None, refl, sym, ap, subst, ◌∙◌}
use Rattle.cloud_facts.specs.Words.{IsTree, Trouble, Answer, CommitAnswer, ObjName, Leaf, Next, Goes, Ends, Stops, Store, IsIn}
use Rattle.session_facts.specs.Machines.Commits.Knows.{KnowsNext, ReachesPart}
use Rattle.session_facts.proofs.Machines.Commits.Begins.{taken_left, begun_reaches}
use Rattle.commit_run.specs.Draft.{Draft, pruned_behind, planned, with_kept, leaf_noted, paged}
use Rattle.commit_run.specs.Run.{Run, written, wrote, refused, held, walking}
use Rattle.commit_run.proofs.Outcomes as step
use Rattle.commit_run.proofs.Outcomes.{Begins, Plans, Behind, Comes, lacking, records_of}
use Rattle.session_facts.specs.Machines.CommitRuns.Knows.{KnowsDraft, KnowsSeeking, KnowsHand, KnowsRunNext}
use Rattle.session_facts.proofs.Machines.CommitRuns.Plans.{advanced_known, first_known, leaf_known}
use Rattle.session_facts.proofs.Machines.CommitRuns.Prunes.{draft_prunes}
use Rattle.commit_writes.specs.Writing.{Writing, begun}
use Rattle.db_base.specs.declared.trouble.Counter.TheVariants as counter
use Rattle.db_base.specs.declared.trouble.Trouble.TheVariants as trouble
use Rattle.cloud_facts.specs.Homes.Homes.{Part, Away, Parts, HomesHold}
use Rattle.cloud_facts.proofs.Homes.HomeLemmas.{away_keeps, keeps_part}
use Rattle.cloud_facts.specs.Landings.Holding.{Holds}
use Rattle.page_cache.specs.Cache.{Cache}
use Rattle.page_cache.specs.Held.{leaf_at}
use Rattle.route_plan.proofs.Places.{past_none}
use Rattle.tree_walk.specs.Walk.{Walk, object_of, new_walk, walk_ready, walk_next}
use Rattle.session_facts.specs.Machines.Walks.Caches.{KnowsCache}
use Rattle.session_facts.specs.Machines.Walks.Knows.{IsAtSeenLeaf, KnowsWalking, MayStopWalk, WalkLeads}
use Rattle.session_facts.proofs.Machines.Walks.Outcome.{walk_begins}

abbrev pub RunStep : Type 0
RunStep = Next (Run × Cache) CommitAnswer

-- what is reached by a step that made no call
abbrev pub LedTo : Store → ℕ → Parts → ℕ → RunStep → Type 0
LedTo st now parts session step = ReachesPart st now parts session (KnowsRunNext step)

-- ---- from the writes

pub wrote_known : (st : Store) (now : ℕ) (part : Part) (d : Draft) (c : Cache) (n : Next Writing CommitAnswer) → KnowsCache st c → KnowsNext n st now part
    → KnowsRunNext (wrote d c n) st now part
wrote_known st now part d c (Goes w) cache k = record { hand = k; cache = cache }
wrote_known st now part d c (Ends w a) cache k = (k, cache)
wrote_known st now part d c (Stops w t) cache k = (k, cache)

-- where a walk in hand is known
held_known : (st : Store) (now : ℕ) (part : Part) (d : Draft) (w : Walk) (first : Bool) → KnowsSeeking st now d w part → KnowsHand (held first w) st now d part
held_known st now part d w true k = k
held_known st now part d w false k = k

-- ---- where a step leads

module _ (st : Store) (now : ℕ) (h : Holds st) (parts : Parts) (session : ℕ) (homes : HomesHold st.tally now parts) where
  abbrev part : Part
  part = parts session

  abbrev Led : RunStep → Type 0
  Led next = LedTo st now parts session next

  abbrev Known : Draft → Type 0
  Known d = KnowsDraft st now d part

  -- the part stays as it is
  stays : (next : RunStep) → KnowsRunNext next st now part → Led next
  stays next k = record { part = part; homes = keeps_part st.tally now parts session part refl homes; knows = k }

  -- nothing was committed
  refused_led : (d : Draft) (c : Cache) (t : Trouble) → Known d → KnowsCache st c → Led (refused d c t)
  refused_led d c t k cache = stays (refused d c t) (taken_left st now d.writes.home part k.taken, cache)

  -- memory ran out
  lacking_led : (d : Draft) (c : Cache) → KnowsCache st c → Led (lacking d c)
  lacking_led d c cache = record { part = Away; homes = away_keeps st.tally now parts session homes; knows = (refl, cache) }

  -- behind a turn of a walk
  behind : (d : Draft) (m : Walk × Cache) → Known d → KnowsWalking st m.0 m.1 → Known (pruned_behind d m.0 m.1)
  behind d m k at = draft_prunes st now h part d k m.0 m.1 at.walk at.cache

  walks_led : (first : Bool) (d : Draft) (m : Walk × Cache) → Known d → KnowsWalking st m.0 m.1 → Led (walking first (pruned_behind d m.0 m.1) m.0 m.1)
  walks_led first d m k at =
      stays (walking first (pruned_behind d m.0 m.1) m.0 m.1)
      (record { hand = held_known st now part (pruned_behind d m.0 m.1) m.0 first (record { draft = behind d m k at; walk = at.walk }); cache = at.cache })

  -- ---- a walk begins, with a call

  begins_so : (first : Bool) (c : Cache) (to : ℕ × List ℕ) → KnowsCache st c → IsTree to.0 → WalkLeads st (λ t. ⊥) (walk_ready (new_walk to.0 (Some to.1) first, c))
  begins_so first c to cache tree = let goes = walk_begins st h.chains to.0 (Some to.1) first c tree cache in subst (WalkLeads st (λ t. ⊥)) (sym goes.1) goes.2

  pub begins_led : {first : Bool} {d : Draft} {c : Cache} {to : ℕ × List ℕ} {next : RunStep} → Begins first d c to next → Known d → KnowsCache st c → IsTree to.0 → Led next
  begins_led {first = first} {d = d} {c = c} {to = to} (step.walks m e is aims) k cache tree = walks_led first d m k (subst (WalkLeads st (λ t. ⊥)) e (begins_so first c to cache tree))
  begins_led {first = first} {c = c} {to = to} (step.stops m t e link other) k cache tree = absurd (subst (WalkLeads st (λ t. ⊥)) e (begins_so first c to cache tree)).1
  begins_led {first = first} {c = c} {to = to} (step.lacks m e) k cache tree = absurd (subst (WalkLeads st (λ t. ⊥)) e (begins_so first c to cache tree)).1

  -- ---- from one walk to the next

  planned_known : (d : Draft) → Known d → Known (planned d)
  planned_known d k = record {
    taken = k.taken;
    may = k.may;
    some = k.some;
    none = k.none;
    plan = λ lasts. advanced_known st.book d.writes.changes d.plan d.writes.home.head.pending (k.plan lasts);
  }

  -- the first record is written
  writes_led : (d : Draft) (c : Cache) (w : Writing) → Known d → KnowsCache st c → length d.writes.changes ≤ length d.plan.pages → begun d.writes (records_of d) ≡ Goes w → Led (Goes (written d w, c))
  writes_led d c w k cache paged e =
      let to =
      subst (λ (n : Next Writing CommitAnswer). ReachesPart st now parts session (KnowsNext n)) e
      (begun_reaches st now parts session d.writes d.plan.pages k.taken k.may k.some k.none paged (λ lasts. (k.plan lasts).pages) homes h.leaves) in
      record { part = to.part; homes = to.homes; knows = wrote_known st now to.part d c (Goes w) cache to.knows }

  -- the next change that needs a walk is of a tree
  pub plans_led : {d : Draft} {c : Cache} {next : RunStep} → Plans d c next → Known d → KnowsCache st c → Led next
  plans_led {d = d} (step.seeks n next is begins) k cache = begins_led begins (planned_known d k) cache (k.may.each n (length (planned d).plan.pages, is)).0
  plans_led {d = d} {c = c} (step.full none over) k cache = refused_led (planned d) c (trouble.Exhausted counter.Number) (planned_known d k) cache
  plans_led {d = d} {c = c} (step.writes w none fits e) k cache =
      writes_led (planned d) c w (planned_known d k) cache (past_none d.writes.changes (length (planned d).plan.pages) none) e

  -- ---- behind a turn of a walk

  -- page 1 for a stale walk
  paged_known : (d : Draft) → Known d → Known (paged d 1)
  paged_known d k = record {
    taken = k.taken;
    may = k.may;
    some = k.some;
    none = k.none;
    plan = λ lasts. first_known st d.writes.changes d.plan h.chains k.may (k.plan lasts);
  }

  -- the leaf at which a walk ended
  noted_known : (d : Draft) (w : Walk) (c : Cache) (page : ℕ) → Known d → IsAtSeenLeaf st w c page → Known (leaf_noted d w c page)
  noted_known d w c page k at = on (leaf_at c (object_of w)) refl
    where
      same : (a b : Leaf) → Some a ≡ Some b → a ≡ b
      same a b e = cc

      on : (o : Option Leaf) → leaf_at c (object_of w) ≡ o → Known (record d { plan = with_kept d.plan w.tree page o })
      on None e = k
      on (Some leaf) e = record {
        taken = k.taken;
        may = k.may;
        some = k.some;
        none = k.none;
        plan = λ lasts.
            let seen = at in
            let one : seen.leaf ≡ leaf = same seen.leaf leaf (sym seen.kept ∙ (ap (λ (name : ObjName). leaf_at c name) (sym seen.in_hand) ∙ e)) in
            leaf_known st.book d.writes.changes d.plan w.tree page leaf
            (subst (λ (l : Leaf). IsIn (st.book.chain w.tree 0) (record { low = l.low; page = page })) one seen.linked) (k.plan lasts);
      }

  behind_known : {d e : Draft} {w : Walk} {c q : Cache} {a : Answer} {first : Bool} → Behind d w c a first e q → Known d → WalkLeads st MayStopWalk (walk_next (w, c) a)
      → Known e × KnowsCache st q
  behind_known {d = d} (step.at_leaf first m page e aims) k leads =
      let to = subst (WalkLeads st MayStopWalk) e leads in (noted_known (pruned_behind d m.0 m.1) m.0 m.1 page (behind d m k to.0) to.1, to.0.cache)
  behind_known {d = d} (step.at_stale m t e stale) k leads =
      let to = subst (WalkLeads st MayStopWalk) e leads in (paged_known (pruned_behind d m.0 m.1) (behind d m k to.0), to.0.cache)
  behind_known {d = d} (step.passed_over m t e stale) k leads = let to = subst (WalkLeads st MayStopWalk) e leads in (behind d m k to.0, to.0.cache)

  pub turn_led : {d : Draft} {w : Walk} {c : Cache} {a : Answer} {first : Bool} {next : RunStep} → Comes d w c a first next → Known d → WalkLeads st MayStopWalk (walk_next (w, c) a)
      → Led next
  turn_led {d = d} {first = first} (step.goes m e is aims) k leads = walks_led first d m k (subst (WalkLeads st MayStopWalk) e leads)
  turn_led {d = d} (step.ends m t e fresh other) k leads =
      let to = subst (WalkLeads st MayStopWalk) e leads in refused_led (pruned_behind d m.0 m.1) m.1 t (behind d m k to.0) to.0.cache
  turn_led {d = d} (step.lacks m e) k leads = lacking_led (pruned_behind d m.0 m.1) m.1 (subst (WalkLeads st MayStopWalk) e leads).0.cache
  turn_led (step.plans e q next turned plans) k leads = let to = behind_known turned k leads in plans_led plans to.0 to.1
