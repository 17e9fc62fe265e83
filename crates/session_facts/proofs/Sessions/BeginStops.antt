-- The begin of an operation that is answered at once stops for want of memory alone, and a commit ends so with no damage.
use Rattle.std.proofs.Common.{◌≡◌, ◌≢◌, ◌⊎◌, inl, inr, ℕ, false, List, [], Option, Some, Ok, sym, subst, ◌∙◌}
use Rattle.attr_index.specs.Look.{look_ready}
use Rattle.client_work.specs.Session.{Acting, Begins, HasInHand, CommitsNoted, ReadsIn, LooksIn, ScansIn, ListsLeaf, Follows, begins_by, paging_begun_by, folding_begun_by, acting_of}
use Rattle.client_work.specs.declared.answer.Answer.{Answer}
use Rattle.client_work.specs.declared.answer.Answer.TheVariants as answer
use Rattle.client_work.specs.declared.answer.Begun.{Begun}
use Rattle.client_work.specs.declared.answer.Begun.TheVariants.{Working, Answered}
use Rattle.client_work.specs.declared.op.Op.{Op}
use Rattle.client_work.specs.declared.op.Op.TheVariants as op
use Rattle.client_work.specs.declared.work.Work.{Work}
use Rattle.client_work.specs.declared.work.Work.TheVariants.{Idle, Closing, Renewing}
use Rattle.cloud_facts.specs.Words.{IsTree, Trouble, CommitAnswer, Entry, Turn, More, Ended, Stopped, CloudState, Next, Goes, Stops, Book, Store, store_of}
use Rattle.session_facts.specs.Machines.CommitRuns.Stops.{MayStopCommit, MayStopAtOnce, EndsBy, MayEnd}
use Rattle.session_facts.proofs.Machines.Commits.Near.{near_told}
use Rattle.session_facts.proofs.Machines.CommitRuns.Stops.{EndsWell, ready_ends_by}
use Rattle.db_base.specs.declared.trouble.CommitAnswer.TheVariants.{Committed, NotCommitted, InDoubt, CommittedOpen}
use Rattle.db_base.specs.declared.trouble.Counter.TheVariants as counter
use Rattle.db_base.specs.declared.trouble.Trouble.TheVariants as trouble
use Rattle.page_cache.specs.Cache.{Cache}
use Rattle.range_scan.specs.Scan.{Scan, new_scan, scan_ready}
use Rattle.recover_run.specs.declared.home.Home.{Home}
use Rattle.session_facts.specs.Machines.Looks.Knows.{IsIndexed}
use Rattle.session_facts.proofs.Machines.Looks.Outcome.{look_begins}
use Rattle.session_facts.proofs.Machines.Scans.Outcome.{scan_begins}
use Rattle.session_facts.specs.Sessions.Knows.{IsHome, KnowsWork, KnowsKept, Sessions, SessionsStand, IsRightOp}
use Rattle.tree_walk.specs.Moves.{Moves}
use Rattle.tree_walk.specs.Walk.{new_walk, walk_ready}
use Rattle.session_facts.specs.Machines.Walks.Caches.{KnowsCache}
use Rattle.session_facts.proofs.Machines.Walks.Outcome.{walk_begins}
use Rattle.tree_walk.proofs.Demands.{memory_or}

-- a step that goes on does not stop
goes_not : {M A : Type 0} (x : Next M A) (m n : M) (t : Trouble) → x ≡ Goes m → x ≡ Stops n t → ⊥
goes_not x m n t e f = cc

-- what stops for want of memory alone
by_memory : (t : Trouble) → (t ≢ trouble.Memory → ⊥) → t ≡ trouble.Memory
by_memory t other = on (memory_or t)
  where
    on : (t ≡ trouble.Memory) ⊎ (t ≢ trouble.Memory) → t ≡ trouble.Memory
    on (inl e) = e
    on (inr ne) = absurd (other ne)

-- what was answered at once is not at work
no_work : (home : Home) (old new : Acting) (work : Work) (a : Answer) → HasInHand old work new (Answered a) → ⊥
no_work home old new work a (begun, is) = cc

-- an answer is a trouble, or the end of a commit, as it stands
trouble_is : (a b : Trouble) → (let x : Begun = Answered (answer.Trouble a) in let y : Begun = Answered (answer.Trouble b) in x ≡ y) → a ≡ b
trouble_is a b e = cc

end_is : (a b : CommitAnswer) → (let x : Begun = Answered (answer.Commit a) in let y : Begun = Answered (answer.Commit b) in x ≡ y) → a ≡ b
end_is a b e = cc

-- what may come without a call may come, and is the trouble of the end of a commit
may_then : (s : CloudState) (t : Trouble) → MayStopAtOnce s t → MayStopCommit t
may_then s (trouble.Exhausted counter.Txn) may = tt
may_then s (trouble.Exhausted counter.Number) may = tt
may_then s (trouble.Exhausted what) may = absurd may
may_then s trouble.Memory may = tt
may_then s t may = absurd may

at_once_may : (s : CloudState) (a : CommitAnswer) → EndsBy (MayStopAtOnce s) a → MayEnd a
at_once_may s (Committed txn) may = tt
at_once_may s (NotCommitted t) may = may_then s t may
at_once_may s InDoubt may = tt
at_once_may s (CommittedOpen t) may = may_then s t may

module _ (book : Book) (order : List Entry) (s : CloudState) (sessions : Sessions) (session : ℕ) (new : Acting) (stand : SessionsStand book order s sessions) where
  abbrev old : Acting
  old = sessions session

  abbrev st : Store
  st = store_of book order s

  home_known : (home : Home) → old.work ≡ Idle home → IsHome st s.now home (stand.parts session)
  home_known home is = subst (λ w. KnowsWork st s.now old.cache w (stand.parts session)) is (stand.each session).work

  cache_known : (home : Home) → old.work ≡ Idle home → KnowsCache st old.cache
  cache_known home is = subst (λ w. KnowsKept st old.cache w) is (stand.each session).kept

  -- ---- troubles

  read_stops : (tree : ℕ) (key : List ℕ) (home : Home) (t : Trouble) → IsTree tree → old.work ≡ Idle home → ReadsIn tree key old home new (Answered (answer.Trouble t)) → t ≡ trouble.Memory
  read_stops tree key home t is idle (same, (m, leads, e, none)) =
      let begins = walk_begins st stand.cloud.holds.chains tree (Some key) false old.cache is (cache_known home idle) in
      by_memory t (λ other. goes_not (walk_ready (new_walk tree (Some key) false, old.cache)) begins.0 (m, new.cache) t begins.1 (leads other))

  look_stops : (tree : ℕ) (attr : List ℕ) (home : Home) (t : Trouble) → IsIndexed tree → old.work ≡ Idle home → LooksIn tree attr old home new (Answered (answer.Trouble t)) → t ≡ trouble.Memory
  look_stops tree attr home t is idle (same, (leads, e, none)) =
      let begins = look_begins st stand.cloud.holds.chains (record { tree = tree; attr = attr }) old.cache is (cache_known home idle) in
      by_memory t
      (λ other. let stops = leads other in goes_not (look_ready (record { tree = tree; attr = attr }) old.cache) begins.0 (stops.0, new.cache) t begins.1 stops.1)

  scan_stops : (tree : ℕ) (from to : Option (List ℕ)) (home : Home) (t : Trouble) → IsTree tree → old.work ≡ Idle home → ScansIn (new_scan tree from to) old home new (Answered (answer.Trouble t))
      → t ≡ trouble.Memory
  scan_stops tree from to home t is idle (same, p) = on p.moved p.turn p.moves p.follows p.begins
    where
      ready : (m : Scan × Cache) × (scan_ready (new_scan tree from to, old.cache) ≡ Goes m)
      ready = let b = scan_begins st stand.cloud.holds.chains tree from to old.cache is (cache_known home idle) in (b.0, b.1)

      lists : (turn : Turn Answer) → ListsLeaf home (record { scan = p.scan; pairs = [] }) (acting_of old.buffer new.work new.cache new.shown) turn → begins_by turn (Answered (answer.Trouble t))
          → t ≡ trouble.Memory
      lists (Ended (answer.Trouble q)) (memory, broken, none) begun = trouble_is t q begun ∙ memory
      lists (Ended answer.Scan) listed begun = absurd (cc)
      lists More listed begun = absurd (cc)
      lists (Stopped q) never begun = absurd never
      lists (Ended (answer.Opened epoch)) never begun = absurd never
      lists (Ended answer.Closed) never begun = absurd never
      lists (Ended (answer.Renewed end)) never begun = absurd never
      lists (Ended (answer.Commit a)) never begun = absurd never
      lists (Ended (answer.Done n)) never begun = absurd never
      lists (Ended answer.Value) never begun = absurd never
      lists (Ended (answer.Settled n)) never begun = absurd never
      lists (Ended (answer.Swept x)) never begun = absurd never

      on : (moved : Turn ℕ) (turn : Turn Answer) → Moves (scan_ready (new_scan tree from to, old.cache)) (p.scan, new.cache) moved
          → Follows home (record { scan = p.scan; pairs = [] }) moved (acting_of old.buffer new.work new.cache new.shown) turn → begins_by turn (Answered (answer.Trouble t)) → t ≡ trouble.Memory
      on More turn moves (work_is, none, more) begun = absurd (working (subst (λ x. begins_by x (Answered (answer.Trouble t))) more begun))
        where
          working : (let x : Begun = Answered (answer.Trouble t) in x ≡ Working) → ⊥
          working e = cc
      on (Ended page) turn moves listed begun = lists turn listed begun
      on (Stopped q) turn moves (work_is, none, stopped) begun =
          trouble_is t q (subst (λ x. begins_by x (Answered (answer.Trouble t))) stopped begun)
          ∙ by_memory q (λ other. goes_not (scan_ready (new_scan tree from to, old.cache)) ready.0 (p.scan, new.cache) q ready.1 (moves other))

  commit_stops : (home : Home) (t : Trouble) → CommitsNoted home old.buffer old.cache new.cache new.work (Answered (answer.Trouble t)) → t ≡ trouble.Memory
  commit_stops home t (inl nothing) = absurd (never nothing.answer)
    where
      never : (let x : Begun = Answered (answer.Trouble t) in let y : Begun = Answered (answer.Commit (Committed 0)) in x ≡ y) → ⊥
      never e = cc
  commit_stops home t (inr (some, (memory, broken))) = memory

  pub begin_stops : (o : Op) (t : Trouble) → IsRightOp o → Begins o old new (Ok (Answered (answer.Trouble t))) → t ≡ trouble.Memory
  begin_stops (op.Open client) t is never = absurd never
  begin_stops op.Close t is (home, idle, does) = absurd (no_work home old new (Closing home.lease) (answer.Trouble t) does)
  begin_stops op.Renew t is (home, idle, does) = absurd (no_work home old new (Renewing home) (answer.Trouble t) does)
  begin_stops op.Commit t is (home, idle, does) = commit_stops home t does.1
  begin_stops (op.Read tree key) t is (home, idle, does) = read_stops tree key home t is idle does
  begin_stops (op.Scan tree from to) t is (home, idle, does) = scan_stops tree from to home t is idle does
  begin_stops (op.Lookup tree attr) t is (few, (home, idle, does)) = look_stops tree attr home t (record { some = is.some; most = few }) idle does
  begin_stops (op.Page tree page) t is (home, idle, does) = absurd (no_work home old new (paging_begun_by tree page home) (answer.Trouble t) does)
  begin_stops (op.Tree tree) t is (home, idle, does) = absurd (no_work home old new (folding_begun_by tree home) (answer.Trouble t) does)

  -- ---- the end of a commit

  commit_ends : (home : Home) (a : CommitAnswer) → old.work ≡ Idle home → CommitsNoted home old.buffer old.cache new.cache new.work (Answered (answer.Commit a)) → EndsBy (MayStopAtOnce s) a
  commit_ends home a idle (inl nothing) = subst (EndsBy (MayStopAtOnce s)) (sym (end_is a (Committed 0) nothing.answer)) tt
  commit_ends home a idle (inr (some, (m, leads, left))) =
      subst (EndsWell (MayStopAtOnce s)) leads
      (ready_ends_by (MayStopAtOnce s) tt book order s stand.cloud (near_told book order s stand.cloud) s.now (stand.parts session) home old.buffer old.cache (home_known home idle) (stand.each session).buffer (cache_known home idle))

  scan_no_end : (tree : ℕ) (from to : Option (List ℕ)) (home : Home) (a : CommitAnswer) → ScansIn (new_scan tree from to) old home new (Answered (answer.Commit a)) → ⊥
  scan_no_end tree from to home a (same, p) = on p.moved p.turn p.follows p.begins
    where
      lists : (turn : Turn Answer) → ListsLeaf home (record { scan = p.scan; pairs = [] }) (acting_of old.buffer new.work new.cache new.shown) turn → begins_by turn (Answered (answer.Commit a)) → ⊥
      lists (Ended (answer.Commit b)) never begun = never
      lists (Ended (answer.Trouble q)) listed begun = cc
      lists (Ended answer.Scan) listed begun = cc
      lists More listed begun = cc
      lists (Stopped q) never begun = never
      lists (Ended (answer.Opened epoch)) never begun = never
      lists (Ended answer.Closed) never begun = never
      lists (Ended (answer.Renewed end)) never begun = never
      lists (Ended (answer.Done n)) never begun = never
      lists (Ended answer.Value) never begun = never
      lists (Ended (answer.Settled n)) never begun = never
      lists (Ended (answer.Swept x)) never begun = never

      at : (turn other : Turn Answer) → turn ≡ other → begins_by turn (Answered (answer.Commit a)) → begins_by other (Answered (answer.Commit a))
      at turn other e begun = subst (λ x. begins_by x (Answered (answer.Commit a))) e begun

      working : (let x : Begun = Answered (answer.Commit a) in x ≡ Working) → ⊥
      working e = cc

      troubled : (q : Trouble) → (let x : Begun = Answered (answer.Commit a) in let y : Begun = Answered (answer.Trouble q) in x ≡ y) → ⊥
      troubled q e = cc

      on : (moved : Turn ℕ) (turn : Turn Answer) → Follows home (record { scan = p.scan; pairs = [] }) moved (acting_of old.buffer new.work new.cache new.shown) turn → begins_by turn (Answered (answer.Commit a)) → ⊥
      on More turn (work_is, none, more) begun = working (at turn More more begun)
      on (Ended page) turn listed begun = lists turn listed begun
      on (Stopped q) turn (work_is, none, stopped) begun = troubled q (at turn (Ended (answer.Trouble q)) stopped begun)

  -- that of one that is answered at once: a counter stands at its last value
  pub begin_spent : (o : Op) (a : CommitAnswer) → Begins o old new (Ok (Answered (answer.Commit a))) → EndsBy (MayStopAtOnce s) a
  begin_spent (op.Open client) a never = absurd never
  begin_spent op.Close a (home, idle, does) = absurd (no_work home old new (Closing home.lease) (answer.Commit a) does)
  begin_spent op.Renew a (home, idle, does) = absurd (no_work home old new (Renewing home) (answer.Commit a) does)
  begin_spent op.Commit a (home, idle, does) = commit_ends home a idle does.1
  begin_spent (op.Read tree key) a (home, idle, does) = absurd does.1
  begin_spent (op.Scan tree from to) a (home, idle, does) = absurd (scan_no_end tree from to home a does)
  begin_spent (op.Lookup tree attr) a (few, (home, idle, does)) = absurd does.1
  begin_spent (op.Page tree page) a (home, idle, does) = absurd (no_work home old new (paging_begun_by tree page home) (answer.Commit a) does)
  begin_spent (op.Tree tree) a (home, idle, does) = absurd (no_work home old new (folding_begun_by tree home) (answer.Commit a) does)

  pub begin_ends : (o : Op) (a : CommitAnswer) → Begins o old new (Ok (Answered (answer.Commit a))) → MayEnd a
  begin_ends o a begins = at_once_may s a (begin_spent o a begins)
