-- What an operation that begins leaves.
use Rattle.std.specs.Prelude.{false}
use Rattle.std.proofs.Common.{◌≡◌, ◌≢◌, ◌≤◌, ◌⊎◌, inl, inr, ℕ, List, [], ◌∷◌, length, Option, Some, None, Result, Ok, Err, refl, sym, ap, subst, ◌∙◌}
use Rattle.attr_index.specs.Look.{Query, look_ready}
use Rattle.client_work.specs.Session.{Acting, closed_session, settling_session, sweeping_session, ReadsIn, ReadsOf, LooksIn, LooksOf, ScansIn, ScansOf, Follows, ListsLeaf, stopped_work, Begins, BeginsOpening, BeginsWith, BeginsIndexed, HasInHand, folding_begun_by, paging_begun_by, opening_rule_of, opening_of, old_lease, CommitsOf, CommitsNoted, CommitsIn, acting_of}
use Rattle.client_work.specs.declared.answer.Answer.{Answer}
use Rattle.client_work.specs.declared.answer.Answer.TheVariants as answer
use Rattle.client_work.specs.declared.answer.Begun.{Begun}
use Rattle.client_work.specs.declared.answer.Begun.TheVariants.{Working, Answered}
use Rattle.client_work.specs.declared.listing.Listing.{Listing}
use Rattle.client_work.specs.declared.op.Op.{Op}
use Rattle.client_work.specs.declared.op.Op.TheVariants as op
use Rattle.client_work.specs.declared.work.Work.{Work}
use Rattle.client_work.specs.declared.work.Work.TheVariants.{Closed, Idle, Opening, Committing, Reading, Scanning, Looking, Folding, Paging, Closing, Renewing, Settling, Sweeping, Broken}
use Rattle.cloud_facts.specs.Words.{IsClient, IsTree, Trouble, CommitAnswer, Entry, Turn, More, Ended, Stopped, CloudState, Claim, Next, Goes, Ends, Book, Store, at, IsIn, store_of}
use Rattle.session_facts.specs.Machines.Commits.Knows.{MayCommit, KnowsEnd}
use Rattle.commit_run.specs.Run.{Run, new_run, home_of, run_ready}
use Rattle.session_facts.proofs.Machines.CommitRuns.Begins.{HasBegun, run_begins}
use Rattle.session_facts.proofs.Machines.CommitRuns.Refusals.{IsRefusal}
use Rattle.session_facts.proofs.Machines.Commits.Noted.{may_none}
use Rattle.db_base.specs.Ids.{IsPage}
use Rattle.db_base.specs.declared.trouble.Trouble.TheVariants as trouble
use Rattle.db_base.specs.declared.refusal.Refused.{Refused}
use Rattle.db_base.specs.declared.refusal.Refused.TheVariants as refused
use Rattle.db_base.specs.declared.trouble.CommitAnswer.TheVariants.{Committed, NotCommitted, InDoubt, CommittedOpen}
use Rattle.cloud_facts.specs.Homes.Homes.{Part, Away}
use Rattle.session_facts.specs.Machines.Openings.Knows.{leases_of_recovery, KnowsOpening}
use Rattle.session_facts.proofs.Machines.Openings.Begins.{opening_begins}
use Rattle.recover_run.specs.declared.home.Home.{Home}
use Rattle.recover_run.specs.declared.stage.Aim.TheVariants as aim
use Rattle.session_facts.proofs.Machines.PageCheckpoints.Begins.{paging_begins}
use Rattle.range_scan.specs.Scan.{Scan, new_scan, scan_ready, moved_on}
use Rattle.recover_run.specs.Recovery.{new_recovery}
use Rattle.session_facts.specs.Machines.Looks.Knows.{IsIndexed, KnowsLooking, LookLeads}
use Rattle.session_facts.proofs.Machines.Looks.Outcome.{look_begins}
use Rattle.session_facts.specs.Machines.Scans.Knows.{KnowsScan, KnowsScanning, IsAtScannedLeaf, ScanLeads}
use Rattle.session_facts.proofs.Machines.Scans.Outcome.{scan_begins, scan_moves_on}
use Rattle.session_facts.specs.Sessions.Knows.{leases_of, IsHome, KnowsWork, KnowsKept, Knows, Sessions, SessionsStand, IsRightOp}
use Rattle.page_cache.specs.Cache.{Cache}
use Rattle.session_facts.proofs.Sessions.Indexed.{indexed_or}
use Rattle.session_facts.proofs.Sessions.Troubles.{stays_open}
use Rattle.session_facts.proofs.Sessions.Kept.{KnowsBoth}
use Rattle.tree_walk.specs.Moves.{Moves}
use Rattle.tree_walk.specs.Walk.{new_walk, walk_ready}
use Rattle.session_facts.proofs.Sessions.Laws.{session_changes, session_rests, session_leaves}
use Rattle.session_facts.specs.Machines.Settlings.Knows.{KnowsSettling}
use Rattle.session_facts.proofs.Machines.Settlings.Begins.{settling_begins}
use Rattle.session_facts.proofs.Machines.Sweeps.Begins.{sweep_begins}
use Rattle.settle_run.specs.Settling.{new_settling}
use Rattle.cloud_facts.proofs.Book.Places.{in_none}
use Rattle.session_facts.proofs.Machines.TreeCheckpoints.Begins.{making_begins}
use Rattle.session_facts.specs.Machines.Walks.Caches.{KnowsCache}
use Rattle.session_facts.specs.Machines.Walks.Knows.{KnowsWalking, IsAtSeenLeaf, WalkLeads, MayStopWalk}
use Rattle.session_facts.proofs.Machines.Walks.Caches.{empty_knows}
use Rattle.session_facts.proofs.Machines.Walks.Outcome.{walk_begins}
use Rattle.tree_walk.proofs.Demands.{memory_or}

abbrev RunStep : Type 0
RunStep = Next (Run × Cache) CommitAnswer

module _ (book : Book) (order : List Entry) (s : CloudState) (sessions : Sessions) (session : ℕ) (stand : SessionsStand book order s sessions) where
  abbrev st : Store
  st = store_of book order s

  abbrev old : Acting
  old = sessions session

  -- what stands when the session is a new one
  abbrev After : Acting → Type 0
  After new = SessionsStand book order s (at session new sessions)

  known : Knows st s.now old (stand.parts session)
  known = stand.each session

  same_after : (new : Acting) → new ≡ old → After new
  same_after new e = session_rests book order s sessions session new stand (λ x is. subst (λ (a : Acting). IsIn (leases_of a.work) x) e is) (subst (λ (a : Acting). Knows st s.now a (stand.parts session)) (sym e) known)

  -- ---- an opening

  -- a session without a client has no part
  no_part : (c : Cache) (work : Work) (part : Part) → opening_rule_of work ≡ None → KnowsWork st s.now c work part → part ≡ Away
  no_part c Closed part e k = k
  no_part c (Broken l) part e k = k
  no_part c (Idle home) part e k = absurd (cc)
  no_part c (Opening r) part e k = absurd (cc)
  no_part c (Committing w) part e k = absurd (cc)
  no_part c (Reading home m) part e k = absurd (cc)
  no_part c (Scanning home m) part e k = absurd (cc)
  no_part c (Looking home m) part e k = absurd (cc)
  no_part c (Folding home f) part e k = absurd (cc)
  no_part c (Paging home p) part e k = absurd (cc)
  no_part c (Closing l) part e k = absurd (cc)
  no_part c (Renewing home) part e k = absurd (cc)
  no_part c (Settling m) part e k = absurd (cc)
  no_part c (Sweeping m) part e k = absurd (cc)

  -- its old lease is the one that it has in hand
  old_within : (work : Work) (client : ℕ) (x : Claim) → IsIn (leases_of_recovery (new_recovery client aim.Opening (old_lease work))) x → IsIn (leases_of work) x
  old_within (Broken l) client x is = is
  old_within Closed client x is = absurd (in_none [] x refl is)
  old_within (Idle home) client x is = absurd (in_none [] x refl is)
  old_within (Opening r) client x is = absurd (in_none [] x refl is)
  old_within (Committing w) client x is = absurd (in_none [] x refl is)
  old_within (Reading home m) client x is = absurd (in_none [] x refl is)
  old_within (Scanning home m) client x is = absurd (in_none [] x refl is)
  old_within (Looking home m) client x is = absurd (in_none [] x refl is)
  old_within (Folding home f) client x is = absurd (in_none [] x refl is)
  old_within (Paging home p) client x is = absurd (in_none [] x refl is)
  old_within (Closing l) client x is = absurd (in_none [] x refl is)
  old_within (Renewing home) client x is = absurd (in_none [] x refl is)
  old_within (Settling m) client x is = absurd (in_none [] x refl is)
  old_within (Sweeping m) client x is = absurd (in_none [] x refl is)

  opening_after_all : (client : ℕ) → IsClient client → opening_rule_of old.work ≡ None → After (record closed_session { work = opening_of client (old_lease old.work) })
  opening_after_all client c none =
      session_rests book order s sessions session (record closed_session { work = opening_of client (old_lease old.work) }) stand (λ x is. old_within old.work client x is)
      (record {
        work = subst (λ p. KnowsOpening st s.now (new_recovery client aim.Opening (old_lease old.work)) p) (sym (no_part old.cache old.work (stand.parts session) none known.work))
            (opening_begins st s.now client aim.Opening (old_lease old.work) c);
        kept = empty_knows st;
        buffer = may_none;
      })

  begins_opening : (client : ℕ) (new : Acting) (result : Result Begun Refused) → IsClient client → BeginsOpening client old new result → After new
  begins_opening client new (Ok Working) c b = subst After (sym b.1) (opening_after_all client c b.0)
  begins_opening client new (Ok (Answered a)) c b = absurd b
  begins_opening client new (Err (refused.Rule r)) c b = same_after new b.1
  begins_opening client new (Err refused.Memory) c b = absurd b

  -- ---- with a home

  home_known : (home : Home) → old.work ≡ Idle home → IsHome st s.now home (stand.parts session)
  home_known home idle = subst (λ w. KnowsWork st s.now old.cache w (stand.parts session)) idle known.work

  -- and its cache
  cache_known : (home : Home) → old.work ≡ Idle home → KnowsCache st old.cache
  cache_known home idle = subst (λ w. KnowsKept st old.cache w) idle known.kept

  mine : (home : Home) → old.work ≡ Idle home → (x : Claim) → IsIn (home.lease ∷ []) x → IsIn (leases_of old.work) x
  mine home idle x is = subst (λ (w : Work). IsIn (leases_of w) x) (sym idle) is

  -- what is in hand then, of the same part
  hands_on : (new : Acting) (work : Work) → MayCommit new.buffer → new.work ≡ work → ((x : Claim) → IsIn (leases_of work) x → IsIn (leases_of old.work) x)
      → KnowsBoth new.cache work st s.now (stand.parts session) → After new
  hands_on new work may e fewer k =
      session_rests book order s sessions session new stand (λ x is. fewer x (subst (λ (w : Work). IsIn (leases_of w) x) e is))
      (let both = subst (λ w. KnowsBoth new.cache w st s.now (stand.parts session)) (sym e) k in record { work = both.0; kept = both.1; buffer = may })

  -- and where the part is given up
  leaves_with : (new : Acting) (work : Work) → MayCommit new.buffer → new.work ≡ work → ((x : Claim) → IsIn (leases_of work) x → IsIn (leases_of old.work) x)
      → KnowsBoth new.cache work st s.now Away → After new
  leaves_with new work may e fewer k =
      session_leaves book order s sessions session new stand (λ x is. fewer x (subst (λ (w : Work). IsIn (leases_of w) x) e is))
      (let both = subst (λ w. KnowsBoth new.cache w st s.now Away) (sym e) k in record { work = both.0; kept = both.1; buffer = may })

  -- the cache of a session that begins with its home and looks at nothing
  same_kept : (new : Acting) (home : Home) → old.work ≡ Idle home → new.cache ≡ old.cache → KnowsCache st new.cache
  same_kept new home idle e = subst (KnowsCache st) (sym e) (cache_known home idle)

  -- what was noted is what was noted before
  same_buffer : (new : Acting) → new.buffer ≡ old.buffer → MayCommit new.buffer
  same_buffer new e = subst MayCommit (sym e) known.buffer

  no_buffer : (new : Acting) → new.buffer ≡ [] → MayCommit new.buffer
  no_buffer new e = subst MayCommit (sym e) may_none

  -- a begin that is refused changes nothing
  begins_with : (Does : Home → Acting → Begun → Type 0) (new : Acting) (result : Result Begun Refused) → ((home : Home) (begun : Begun) → old.work ≡ Idle home → Does home new begun → After new)
      → BeginsWith Does old new result → After new
  begins_with Does new (Ok begun) does (home, idle, d) = does home begun idle d
  begins_with Does new (Err (refused.Rule r)) does b = same_after new b.1
  begins_with Does new (Err refused.Memory) does b = absurd b

  -- ---- a close, a renewal, a checkpoint

  begins_close : (new : Acting) (result : Result Begun Refused) → BeginsWith (λ home. HasInHand old (Closing home.lease)) old new result → After new
  begins_close new result = begins_with (λ home. HasInHand old (Closing home.lease)) new result
      (λ home begun idle d. leaves_with new (Closing home.lease) (same_buffer new (ap (λ (a : Acting). a.buffer) d.1)) (ap (λ (a : Acting). a.work) d.1) (mine home idle) (refl, same_kept new home idle (ap (λ (a : Acting). a.cache) d.1)))

  begins_renew : (new : Acting) (result : Result Begun Refused) → BeginsWith (λ home. HasInHand old (Renewing home)) old new result → After new
  begins_renew new result = begins_with (λ home. HasInHand old (Renewing home)) new result
      (λ home begun idle d. hands_on new (Renewing home) (same_buffer new (ap (λ (a : Acting). a.buffer) d.1)) (ap (λ (a : Acting). a.work) d.1) (mine home idle) (home_known home idle, same_kept new home idle (ap (λ (a : Acting). a.cache) d.1)))

  begins_tree : (tree : ℕ) (new : Acting) (result : Result Begun Refused) → IsTree tree → BeginsWith (λ home. HasInHand old (folding_begun_by tree home)) old new result → After new
  begins_tree tree new result t = begins_with (λ home. HasInHand old (folding_begun_by tree home)) new result
      (λ home begun idle d. hands_on new (folding_begun_by tree home) (same_buffer new (ap (λ (a : Acting). a.buffer) d.1)) (ap (λ (a : Acting). a.work) d.1) (mine home idle) ((home_known home idle, making_begins st s.now tree t), same_kept new home idle (ap (λ (a : Acting). a.cache) d.1)))

  begins_page : (tree page : ℕ) (new : Acting) (result : Result Begun Refused) → IsTree tree → IsPage page → BeginsWith (λ home. HasInHand old (paging_begun_by tree page home)) old new result → After new
  begins_page tree page new result t g = begins_with (λ home. HasInHand old (paging_begun_by tree page home)) new result
      (λ home begun idle d. hands_on new (paging_begun_by tree page home) (same_buffer new (ap (λ (a : Acting). a.buffer) d.1)) (ap (λ (a : Acting). a.work) d.1) (mine home idle) ((home_known home idle, paging_begins st s.now tree page t g), same_kept new home idle (ap (λ (a : Acting). a.cache) d.1)))

  -- ---- a commit

  -- what is known where the commit leads without a call
  ready : (home : Home) (step : RunStep) → old.work ≡ Idle home → 1 ≤ length old.buffer → run_ready (new_run home old.buffer, old.cache) ≡ step
      → HasBegun st s.now stand.parts session home.lease step
  ready home step idle some leads =
      run_begins book order s stand.cloud s.now stand.parts session stand.homes home old.buffer old.cache (home_known home idle) known.buffer some (cache_known home idle) step leads

  -- a commit is in hand, of the home's next attempt
  commit_well : (home : Home) (r : Run) (new : Acting) → old.work ≡ Idle home → HasBegun st s.now stand.parts session home.lease (Goes (r, new.cache)) → new.buffer ≡ [] → new.work ≡ Committing r
      → After new
  commit_well home r new idle begun none e =
      session_changes book order s sessions session new begun.part stand
      (λ x is. mine home idle x (subst (λ l. IsIn (l ∷ []) x) begun.lease_is (subst (λ (q : Work). IsIn (leases_of q) x) e is))) begun.homes
      (record {
        work = subst (λ q. KnowsWork st s.now new.cache q begun.part) (sym e) begun.knows;
        kept = subst (λ q. KnowsKept st new.cache q) (sym e) begun.knows.cache;
        buffer = no_buffer new none;
      })

  -- a commit that is answered at once leaves the home, but for its attempt and what it pruned
  ended_well : (home : Home) (r : Run) (a : CommitAnswer) (new : Acting) → old.work ≡ Idle home → HasBegun st s.now stand.parts session home.lease (Ends (r, new.cache) a) → new.buffer ≡ []
      → new.work ≡ Idle (home_of r) → After new
  ended_well home r a new idle begun none e =
      session_changes book order s sessions session new begun.part stand
      (λ x is. mine home idle x (subst (λ l. IsIn (l ∷ []) x) begun.lease_is (subst (λ (q : Work). IsIn (leases_of q) x) e is))) begun.homes
      (record {
        work = subst (λ q. KnowsWork st s.now new.cache q begun.part) (sym e) (stays_home a begun.refuses begun.knows.0);
        kept = subst (λ q. KnowsKept st new.cache q) (sym e) begun.knows.1;
        buffer = no_buffer new none;
      })
    where
      stays_home : (a : CommitAnswer) → IsRefusal a → KnowsEnd st s.now (home_of r) a begun.part → IsHome st s.now (home_of r) begun.part
      stays_home (NotCommitted t) is k = k
      stays_home (Committed txn) is k = absurd is
      stays_home InDoubt is k = absurd is
      stays_home (CommittedOpen t) is k = absurd is

  commits_of : (home : Home) (new : Acting) (begun : Begun) → old.work ≡ Idle home → new.buffer ≡ [] → 1 ≤ length old.buffer → CommitsOf home old.buffer old.cache new.cache new.work begun → After new
  commits_of home new Working idle none some (r, leads, e) = commit_well home r new idle (ready home _ idle some leads) none e
  commits_of home new (Answered (answer.Commit a)) idle none some (r, leads, e) = ended_well home r a new idle (ready home _ idle some leads) none e
  commits_of home new (Answered (answer.Trouble t)) idle none some (memory, e) = leaves_with new (Broken home.lease) (no_buffer new none) e (mine home idle) (refl, tt)
  commits_of home new (Answered (answer.Opened epoch)) idle none some never = absurd never
  commits_of home new (Answered answer.Closed) idle none some never = absurd never
  commits_of home new (Answered (answer.Renewed end)) idle none some never = absurd never
  commits_of home new (Answered (answer.Done n)) idle none some never = absurd never
  commits_of home new (Answered answer.Value) idle none some never = absurd never
  commits_of home new (Answered answer.Scan) idle none some never = absurd never
  commits_of home new (Answered (answer.Settled n)) idle none some never = absurd never
  commits_of home new (Answered (answer.Swept x)) idle none some never = absurd never

  begins_commit : (new : Acting) (result : Result Begun Refused) → BeginsWith (CommitsIn old) old new result → After new
  begins_commit new result = begins_with (CommitsIn old) new result (λ home begun idle d. on home begun idle d.0 d.1)
    where
      on : (home : Home) (begun : Begun) → old.work ≡ Idle home → new.buffer ≡ [] → CommitsNoted home old.buffer old.cache new.cache new.work begun → After new
      on home begun idle none (inl nothing) =
          hands_on new (Idle home) (no_buffer new none) nothing.work_is (mine home idle) (home_known home idle, same_kept new home idle nothing.cache_is)
      on home begun idle none (inr p) = commits_of home new begun idle none p.0 p.1

  -- ---- a read

  -- the client stays open, unless memory ran out
  stops_well : (home : Home) (t : Trouble) (new : Acting) → old.work ≡ Idle home → new.buffer ≡ old.buffer → new.work ≡ stopped_work t home → (t ≢ trouble.Memory → KnowsCache st new.cache)
      → After new
  stops_well home t new idle same e looks = on (memory_or t)
    where
      on : (t ≡ trouble.Memory) ⊎ (t ≢ trouble.Memory) → After new
      on (inl memory) = leaves_with new (Broken home.lease) (same_buffer new same) (e ∙ ap (λ k. stopped_work k home) memory) (mine home idle) (refl, tt)
      on (inr other) = hands_on new (Idle home) (same_buffer new same) (e ∙ stays_open home t other) (mine home idle) (home_known home idle, looks other)

  -- what is known where the walk leads without a call
  walks : (tree : ℕ) (key : List ℕ) (home : Home) → IsTree tree → old.work ≡ Idle home → WalkLeads st MayStopWalk (walk_ready (new_walk tree (Some key) false, old.cache))
  walks tree key home is idle =
      let begins = walk_begins st stand.cloud.holds.chains tree (Some key) false old.cache is (cache_known home idle) in
      subst (WalkLeads st MayStopWalk) (sym begins.1) begins.2

  reads_of : (tree : ℕ) (key : List ℕ) (home : Home) (new : Acting) (begun : Begun) → IsTree tree → old.work ≡ Idle home → new.buffer ≡ old.buffer
      → ReadsOf home (new_walk tree (Some key) false, old.cache) (new.work, new.cache) new.shown begun → After new
  reads_of tree key home new Working is idle same (m, leads, e, none) =
      let k : KnowsWalking st m new.cache = subst (WalkLeads st MayStopWalk) leads (walks tree key home is idle) in
      hands_on new (Reading home m) (same_buffer new same) e (mine home idle) ((home_known home idle, k.walk), k.cache)
  reads_of tree key home new (Answered answer.Value) is idle same (m, page, leads, e, some) =
      let k : KnowsWalking st m new.cache × IsAtSeenLeaf st m new.cache page = subst (WalkLeads st MayStopWalk) leads (walks tree key home is idle) in
      hands_on new (Idle home) (same_buffer new same) e (mine home idle) (home_known home idle, k.0.cache)
  reads_of tree key home new (Answered (answer.Trouble t)) is idle same (m, leads, e, none) =
      stops_well home t new idle same e
      (λ other. let k : KnowsWalking st m new.cache × MayStopWalk t = subst (WalkLeads st MayStopWalk) (leads other) (walks tree key home is idle) in k.0.cache)
  reads_of tree key home new (Answered (answer.Opened epoch)) is idle same never = absurd never
  reads_of tree key home new (Answered answer.Closed) is idle same never = absurd never
  reads_of tree key home new (Answered (answer.Renewed end)) is idle same never = absurd never
  reads_of tree key home new (Answered (answer.Commit a)) is idle same never = absurd never
  reads_of tree key home new (Answered (answer.Done n)) is idle same never = absurd never
  reads_of tree key home new (Answered answer.Scan) is idle same never = absurd never
  reads_of tree key home new (Answered (answer.Settled n)) is idle same never = absurd never
  reads_of tree key home new (Answered (answer.Swept x)) is idle same never = absurd never

  begins_read : (tree : ℕ) (key : List ℕ) (new : Acting) (result : Result Begun Refused) → IsTree tree → BeginsWith (ReadsIn tree key old) old new result → After new
  begins_read tree key new result is = begins_with (ReadsIn tree key old) new result (λ home begun idle d. reads_of tree key home new begun is idle d.0 d.1)

  -- ---- a scan

  module _ (tree : ℕ) (from to : Option (List ℕ)) (home : Home) (new : Acting) (is : IsTree tree) (idle : old.work ≡ Idle home) (same : new.buffer ≡ old.buffer) where
    -- what is known where the scan leads without a call
    scans : ScanLeads st MayStopWalk (scan_ready (new_scan tree from to, old.cache))
    scans =
        let begins = scan_begins st stand.cloud.holds.chains tree from to old.cache is (cache_known home idle) in
        subst (ScanLeads st MayStopWalk) (sym begins.1) begins.2

    goes_on_well : (m : Listing) → new.work ≡ Scanning home m → KnowsScan st m.scan → KnowsCache st new.cache → After new
    goes_on_well m e k looks = hands_on new (Scanning home m) (same_buffer new same) e (mine home idle) ((home_known home idle, k), looks)

    lists_well : (m : Scan) (page : ℕ) (turn : Turn Answer) → KnowsScanning st m new.cache → IsAtScannedLeaf st m new.cache page
        → ListsLeaf home (record { scan = m; pairs = [] }) (acting_of old.buffer new.work new.cache new.shown) turn → After new
    lists_well m page More k there (all, listed, goes, e, none) =
        goes_on_well (record { scan = moved_on m; pairs = all }) e (scan_moves_on st m k.scan new.cache page there) k.cache
    lists_well m page (Ended answer.Scan) k there (all, listed, over, e, some) =
        hands_on new (Idle home) (same_buffer new same) e (mine home idle) (home_known home idle, k.cache)
    lists_well m page (Ended (answer.Trouble t)) k there (memory, e, none) = leaves_with new (Broken home.lease) (same_buffer new same) e (mine home idle) (refl, tt)
    lists_well m page (Stopped t) k there never = absurd never
    lists_well m page (Ended (answer.Opened epoch)) k there never = absurd never
    lists_well m page (Ended answer.Closed) k there never = absurd never
    lists_well m page (Ended (answer.Renewed end)) k there never = absurd never
    lists_well m page (Ended (answer.Commit a)) k there never = absurd never
    lists_well m page (Ended (answer.Done n)) k there never = absurd never
    lists_well m page (Ended answer.Value) k there never = absurd never
    lists_well m page (Ended (answer.Settled n)) k there never = absurd never
    lists_well m page (Ended (answer.Swept x)) k there never = absurd never

    follows_well : (m : Scan) (moved : Turn ℕ) (turn : Turn Answer) → Moves (scan_ready (new_scan tree from to, old.cache)) (m, new.cache) moved
        → Follows home (record { scan = m; pairs = [] }) moved (acting_of old.buffer new.work new.cache new.shown) turn → After new
    follows_well m More turn leads (e, none, more) =
        let k : KnowsScanning st m new.cache = subst (ScanLeads st MayStopWalk) leads scans in
        goes_on_well (record { scan = m; pairs = [] }) e k.scan k.cache
    follows_well m (Ended page) turn leads listed =
        let k : KnowsScanning st m new.cache × IsAtScannedLeaf st m new.cache page = subst (ScanLeads st MayStopWalk) leads scans in
        lists_well m page turn k.0 k.1 listed
    follows_well m (Stopped t) turn leads (e, none, stopped) =
        stops_well home t new idle same e (λ other. let k : KnowsCache st new.cache × MayStopWalk t = subst (ScanLeads st MayStopWalk) (leads other) scans in k.0)

    scans_of : (begun : Begun) → ScansOf home (new_scan tree from to) old.cache (acting_of old.buffer new.work new.cache new.shown) begun → After new
    scans_of begun p = follows_well p.scan p.moved p.turn p.moves p.follows

  begins_scan : (tree : ℕ) (from to : Option (List ℕ)) (new : Acting) (result : Result Begun Refused) → IsTree tree → BeginsWith (ScansIn (new_scan tree from to) old) old new result → After new
  begins_scan tree from to new result is = begins_with (ScansIn (new_scan tree from to) old) new result (λ home begun idle d. scans_of tree from to home new is idle d.0 begun d.1)

  -- ---- a look-up

  module _ (tree : ℕ) (attr : List ℕ) (home : Home) (new : Acting) (is : IsIndexed tree) (idle : old.work ≡ Idle home) (same : new.buffer ≡ old.buffer) where
    abbrev query : Query
    query = record { tree = tree; attr = attr }

    -- what is known where the look-up leads without a call
    looks : LookLeads st MayStopWalk (look_ready query old.cache)
    looks =
        let begins = look_begins st stand.cloud.holds.chains query old.cache is (cache_known home idle) in
        subst (LookLeads st MayStopWalk) (sym begins.1) begins.2

    looks_of : (begun : Begun) → LooksOf home query old.cache (new.work, new.cache) new.shown begun → After new
    looks_of Working (m, leads, e, none) =
        let k : KnowsLooking st m new.cache = subst (LookLeads st MayStopWalk) leads looks in
        hands_on new (Looking home m) (same_buffer new same) e (mine home idle) ((home_known home idle, k.look), k.cache)
    looks_of (Answered (answer.Trouble t)) (stops, e, none) =
        stops_well home t new idle same e
        (λ other. let k : KnowsCache st new.cache × MayStopWalk t = subst (LookLeads st MayStopWalk) (stops other).1 looks in k.0)
    looks_of (Answered (answer.Opened epoch)) never = absurd never
    looks_of (Answered answer.Closed) never = absurd never
    looks_of (Answered (answer.Renewed end)) never = absurd never
    looks_of (Answered (answer.Commit a)) never = absurd never
    looks_of (Answered (answer.Done n)) never = absurd never
    looks_of (Answered answer.Value) never = absurd never
    looks_of (Answered answer.Scan) never = absurd never
    looks_of (Answered (answer.Settled n)) never = absurd never
    looks_of (Answered (answer.Swept x)) never = absurd never

  begins_look : (tree : ℕ) (attr : List ℕ) (new : Acting) (result : Result Begun Refused) → IsTree tree → BeginsIndexed tree (LooksIn tree attr old) old new result → After new
  begins_look tree attr new result is b = on (indexed_or tree (LooksIn tree attr old) old new result b)
    where
      on : (new ≡ old) ⊎ ((tree ≤ 8) × BeginsWith (LooksIn tree attr old) old new result) → After new
      on (inl same) = same_after new same
      on (inr (few, begins)) =
          begins_with (LooksIn tree attr old) new result
          (λ home begun idle d. looks_of tree attr home new (record { some = is.some; most = few }) idle d.0 begun d.1) begins

  begins_all : (o : Op) (new : Acting) (result : Result Begun Refused) → IsRightOp o → Begins o old new result → After new
  begins_all (op.Open client) new result right b = begins_opening client new result right b
  begins_all op.Close new result right b = begins_close new result b
  begins_all op.Renew new result right b = begins_renew new result b
  begins_all op.Commit new result right b = begins_commit new result b
  begins_all (op.Read tree key) new result right b = begins_read tree key new result right b
  begins_all (op.Scan tree from to) new result right b = begins_scan tree from to new result right b
  begins_all (op.Lookup tree attr) new result right b = begins_look tree attr new result right b
  begins_all (op.Tree tree) new result right b = begins_tree tree new result right b
  begins_all (op.Page tree page) new result right b = begins_page tree page new result right.0 right.1 b

-- an operation begins, is refused, or is answered at once
pub begins_keeps : (o : Op) (book : Book) (order : List Entry) (s : CloudState) (sessions : Sessions) (session : ℕ) (new : Acting) (result : Result Begun Refused) → IsRightOp o
    → SessionsStand book order s sessions → Begins o (sessions session) new result → SessionsStand book order s (at session new sessions)
begins_keeps o book order s sessions session new result right stand begins = begins_all book order s sessions session stand o new result right begins

-- a session that is closed begins to settle
pub settling_begins_session : (book : Book) (order : List Entry) (s : CloudState) (sessions : Sessions) (session : ℕ) → sessions session ≡ closed_session
    → SessionsStand book order s sessions → SessionsStand book order s (at session settling_session sessions)
settling_begins_session book order s sessions session closed stand =
    session_rests book order s sessions session settling_session stand (λ x is. absurd (in_none [] x refl is)) (record {
      work = subst (KnowsSettling (store_of book order s) s.now new_settling) (sym away) (settling_begins (store_of book order s) s.now);
      kept = empty_knows (store_of book order s);
      buffer = may_none;
    })
  where
    away : stand.parts session ≡ Away
    away = (subst (λ (a : Acting). Knows (store_of book order s) s.now a (stand.parts session)) closed (stand.each session)).work

-- or to sweep a tree
pub sweeping_begins_session : (tree : ℕ) → IsTree tree → (book : Book) (order : List Entry) (s : CloudState) (sessions : Sessions) (session : ℕ) → sessions session ≡ closed_session
    → SessionsStand book order s sessions → SessionsStand book order s (at session (sweeping_session tree) sessions)
sweeping_begins_session tree is book order s sessions session closed stand =
    session_rests book order s sessions session (sweeping_session tree) stand (λ x is. absurd (in_none [] x refl is)) (record {
      work = sweep_begins (store_of book order s) s.now tree (stand.parts session) away is;
      kept = empty_knows (store_of book order s);
      buffer = may_none;
    })
  where
    away : stand.parts session ≡ Away
    away = (subst (λ (a : Acting). Knows (store_of book order s) s.now a (stand.parts session)) closed (stand.each session)).work
