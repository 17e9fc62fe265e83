-- A step of a session that is alone finds its lock free, and leaves it alone.
use Rattle.std.proofs.Common.{◌≡◌, ◌≢◌, ◌≤◌, inl, inr, ℕ, List, [], ◌∷◌, ◌++◌, Some, Result, Ok, Err, refl, sym, ap, subst, ◌∙◌, arith}
use Rattle.cloud_trait.specs.Calm.{TakesFree}
use Rattle.ckpt_parts.specs.Leasing.{outstanding_after}
use Rattle.attr_index.specs.Look.{Look, look_ask}
use Rattle.client_work.specs.Session.{Acting, LooksBy, ReadsBy, RenewsHome, ShowsAt, StepsAt, StepsClosing, StepsCommit, StepsFolding, StepsOpening, StepsPaging, StepsRenewing, StepsScanning, StepsSession, StepsSettling, StepsSweeping, ask_of_work, acting_of, in_hand}
use Rattle.client_work.specs.declared.answer.Answer.{Answer}
use Rattle.client_work.specs.declared.answer.Answer.TheVariants as answer
use Rattle.client_work.specs.declared.listing.Listing.{Listing}
use Rattle.client_work.specs.declared.shown.Shown.{Shown}
use Rattle.client_work.specs.declared.work.Work.{Work}
use Rattle.client_work.specs.declared.work.Work.TheVariants.{Closed, Idle, Opening, Committing, Reading, Scanning, Looking, Folding, Paging, Closing, Renewing, Settling, Sweeping, Broken}
use Rattle.cloud_facts.proofs.Calls.Calls.{call_of}
use Rattle.cloud_facts.specs.Words.{Trouble, CommitAnswer, ObjName, Entry, Answer as Reply, Turn, More, Ended, CloudState, called, Caller, Seen, Claim, Ask, Get, Renew, Release, Next, Goes, Ends, Stops, Book, Store, store_of, IsCall}
use Rattle.cloud_facts.specs.Homes.Homes.{Part}
use Rattle.cloud_trait.specs.declared.answer.Answer.TheVariants.{Memory, Failed}
use Rattle.cloud_trait.specs.Claim.{extended}
use Rattle.cloud_trait.specs.State.{Counts, end_after}
use Rattle.cloud_trait.specs.Weather.{Makes, RenewsBoth}
use Rattle.commit_run.specs.Run.{Run, home_of as home_of_run, run_ask, run_next}
use Rattle.db_base.specs.declared.names.Lock.TheVariants as lock
use Rattle.db_base.specs.declared.trouble.Trouble.TheVariants as trouble
use Rattle.page_cache.specs.Cache.{Cache}
use Rattle.page_ckpt.specs.Paging.{Paging as Page, paging_ask}
use Rattle.range_scan.specs.Scan.{scan_ask, scan_object}
use Rattle.recover_run.specs.declared.home.Home.{Home}
use Rattle.recover_run.specs.declared.stage.RecoverAnswer.TheVariants.{Opened}
use Rattle.recover_run.specs.Recovery.{Recovery, Step as RecoveryStep, IsSound, recovery_ask, recovery_next}
use Rattle.session_facts.proofs.Machines.CommitRuns.Leases.{RunLeaseStays, run_lease}
use Rattle.session_facts.proofs.Sessions.AloneLeases.{after_beside, first_last, follows_leases, last_first, making_other, paging_other, run_moves_none, stopped_leases, uses_beside, TakesOther}
use Rattle.session_facts.proofs.Sessions.Steps.Commits as commit
use Rattle.session_facts.proofs.Sessions.Steps.Leases.{renews_both}
use Rattle.session_facts.proofs.Sessions.Steps.Openings as opening
use Rattle.session_facts.proofs.Settling.Recoveries.Leases.{recovery_leaves, recovery_uses}
use Rattle.session_facts.proofs.Settling.Free.{settling_holds, settling_uses}
use Rattle.session_facts.proofs.Settling.Locks.{call_alone, quiet_after, quiet_uses, renewed_alone, same_alone, takes_free}
use Rattle.session_facts.proofs.Settling.Pages.Leases.{paging_holds, paging_uses}
use Rattle.session_facts.proofs.Settling.Trees.Leases.{making_holds, making_uses}
use Rattle.session_facts.specs.Machines.Openings.Knows.{KnowsOpening, leases_of_recovery}
use Rattle.session_facts.specs.Machines.PageCheckpoints.Knows.{KnowsPaging, leases_of_paging}
use Rattle.session_facts.specs.Sessions.Alone.{IsAlone, StepsUndisturbed}
use Rattle.session_facts.specs.Sessions.Calls.{session_step, calling_of, closing_reply, commit_reply, folding_reply, looking_reply, opening_reply, paging_reply, reading_reply, reply_at, reply_of, settling_reply, sweeping_reply}
use Rattle.session_facts.specs.Sessions.Knows.{KnowsWork, Sessions, SessionsStand, leases_of}
use Rattle.session_facts.specs.Sessions.Untroubled.{StepsCalmly}
use Rattle.session_facts.specs.Settling.Locks.{HoldsAlone, UsesOwn}
use Rattle.session_facts.specs.Machines.Settlings.Knows.{KnowsSettling, leases_of_settling}
use Rattle.session_facts.specs.Machines.TreeCheckpoints.Knows.{KnowsMaking, leases_of_making}
use Rattle.settle_run.specs.Parts.{IsSoundPart}
use Rattle.orphan_sweep.specs.Sweeping.{Sweeping as SweepingState, sweep_ask}
use Rattle.session_facts.proofs.Machines.Sweeps.Leases.{held_at, sweep_uses, sweep_holds}
use Rattle.session_facts.specs.Machines.Sweeps.Knows.{KnowsSweep, leases_of_sweep}
use Rattle.settle_run.specs.Settling.{Settling as SettlingState, settle_ask}
use Rattle.tree_ckpt.specs.Making.{Making, making_ask}
use Rattle.tree_walk.specs.Walk.{Walk, object_of, walk_ask}
use Rattle.txn_buffer.specs.Noted.{Noted}

abbrev RunStep : Type 0
RunStep = Next (Run × Cache) CommitAnswer

-- the answer is no want of memory
abbrev FindsMemory : Turn Answer → Type 0
FindsMemory turn = turn ≢ Ended (answer.Trouble trouble.Memory)

no_want : (k : Trouble) → FindsMemory (Ended (answer.Trouble k)) → k ≢ trouble.Memory
no_want k found e = found (ap (λ (t : Trouble). Ended (answer.Trouble t)) e)

-- the leases in hand are these
held_by : (t : CloudState) (new : Work) (held : List Claim) → leases_of new ≡ held → HoldsAlone held t → IsAlone new t
held_by t new held e alone = subst (λ (cs : List Claim). HoldsAlone cs t) (sym e) alone

module _ (who : Caller) (before after : Seen) (s t : CloudState) (told : before.state ≡ Some s) (told_after : after.state ≡ Some t) (counts : after.counts ≡ before.counts) where
  -- what a call in hand finds and leaves
  abbrev Goes_on : Ask → Work → Type 0
  Goes_on ask new = TakesFree ask s t.now × IsAlone new t

  called_so : (ask : Ask) (a : Reply) → Makes who ask a before after → IsCall who ask a s t
  called_so ask a made = call_of who ask a before after s t made told told_after

  not_failed : (ask : Ask) (a : Reply) → Makes who ask a before after → a ≢ Failed
  not_failed ask a made e =
      let rose = made.failed e in
      let same : after.counts.faults ≡ before.counts.faults = ap (λ (c : Counts). c.faults) counts in
      absurd (omega (arith, rose, same))

  -- of leases of which it takes no lock
  turned : (ask : Ask) (a : Reply) (held : List Claim) → Makes who ask a before after → a ≢ Memory → UsesOwn ask held → HoldsAlone held s
      → TakesFree ask s t.now × HoldsAlone (outstanding_after ask a held) t
  turned ask a held made found uses alone =
      let call = called_so ask a made in (
        takes_free ask held s t.now alone uses call.later,
        call_alone who ask a call.before call.after s t call.later call.row held alone uses (not_failed ask a made) found,
      )

  -- where those are in hand that the call leaves
  turns : (ask : Ask) (a : Reply) (held : List Claim) (new : Work) → Makes who ask a before after → a ≢ Memory → UsesOwn ask held → HoldsAlone held s
      → leases_of new ≡ outstanding_after ask a held → Goes_on ask new
  turns ask a held new made found uses alone e = let both = turned ask a held made found uses alone in (both.0, held_by t new (outstanding_after ask a held) e both.1)

  -- ---- a checkpoint beside a home

  module _ (home : Home) (ask : Ask) (a : Reply) (held : List Claim) (made : Makes who ask a before after) (found : a ≢ Memory) (other : TakesOther home.lease ask) (uses : UsesOwn ask held)
      (alone : HoldsAlone (home.lease ∷ held) s) where
    abbrev rest : List Claim
    rest = outstanding_after ask a held

    behind : TakesFree ask s t.now × HoldsAlone (home.lease ∷ rest) t
    behind =
        let both = turned ask a (held ++ home.lease ∷ []) made found (uses_beside ask held home.lease other uses) (first_last home.lease held s alone) in
        (both.0, last_first home.lease rest t (subst (λ (cs : List Claim). HoldsAlone cs t) (after_beside ask a held home.lease uses) both.1))

    -- it goes on, or its leases are given back
    beside : (new : Work) (now : List Claim) → leases_of new ≡ home.lease ∷ now → now ≡ rest → Goes_on ask new
    beside new now e same =
        let both = behind in
        (both.0, held_by t new (home.lease ∷ now) e (subst (λ (cs : List Claim). HoldsAlone (home.lease ∷ cs) t) (sym same) both.1))

  -- ---- an opening

  module _ (st : Store) (now : ℕ) (r : Recovery) (part : Part) (k : KnowsOpening st now r part) (sound : IsSound r) (alone : HoldsAlone (leases_of_recovery r) s) where
    opens : (a : Reply) → Makes who (recovery_ask r) a before after → a ≢ Memory → (step : RecoveryStep) (new : Work) → recovery_next r a ≡ step → opening.LeadsTo step new
        → Goes_on (recovery_ask r) new
    opens a made found step new leads to =
        turns (recovery_ask r) a (leases_of_recovery r) new made found (recovery_uses st now r part k sound) alone
        (sym (opening.next_leases step new to) ∙ recovery_leaves st now r part k sound a step leads)

    opening_alone : (new : Work) (turn : Turn Answer) → (p : StepsOpening who before after r new turn) → opening_reply (calling_of who before after) r new turn p ≢ Memory → FindsMemory turn
        → Goes_on (recovery_ask r) new
    opening_alone new More (m, steps, is, less) found fair = opens steps.answer steps.made found (Goes m) new steps.took is
    opening_alone new (Ended (answer.Opened epoch)) (m, steps, is) found fair = opens steps.answer steps.made found (Ends m (Opened epoch)) new steps.took is
    opening_alone new (Ended (answer.Trouble q)) (m, steps, is) found fair = opens steps.answer steps.made found (Stops m q) new (steps.took.0 (no_want q fair)) is
    opening_alone new turn p found fair = absurd p

  -- ---- a commit

  module _ (r : Run) (c d : Cache) (alone : HoldsAlone ((home_of_run r).lease ∷ []) s) where
    commits : (a : Reply) → Makes who (run_ask r) a before after → a ≢ Memory → (step : RunStep) (new : Work) → run_next (r, c) a ≡ step → commit.LeadsTo step d new → Goes_on (run_ask r) new
    commits a made found step new leads to =
        turns (run_ask r) a ((home_of_run r).lease ∷ []) new made found (quiet_uses (run_ask r) ((home_of_run r).lease ∷ []) (run_moves_none r)) alone
        (commit.next_leases (home_of_run r).lease step d new to (subst (RunLeaseStays (home_of_run r).lease) leads (run_lease (r, c) a))
        ∙ sym (quiet_after (run_ask r) a ((home_of_run r).lease ∷ []) (run_moves_none r)))

    commit_alone : (new : Work) (turn : Turn Answer) → (p : StepsCommit who before after (r, c) (new, d) turn) → commit_reply (calling_of who before after) (r, c) (new, d) turn p ≢ Memory → FindsMemory turn
        → Goes_on (run_ask r) new
    commit_alone new More (m, steps, is, less) found fair = commits steps.answer steps.made found (Goes (m, d)) new steps.took (is, refl)
    commit_alone new (Ended (answer.Commit a)) (m, steps, is) found fair = commits steps.answer steps.made found (Ends (m, d) a) new steps.took (is, refl)
    commit_alone new (Ended (answer.Trouble q)) (m, steps, is) found fair =
        commits steps.answer steps.made found (Stops (m, d) q) new (steps.took.0 (no_want q fair)) (is, refl)
    commit_alone new turn p found fair = absurd p

  -- ---- a read, a scan and a look-up

  module _ (home : Home) (alone : HoldsAlone (home.lease ∷ []) s) where
    gets : (name : ObjName) (a : Reply) → Makes who (Get name) a before after → a ≢ Memory → (new : Work) → leases_of new ≡ home.lease ∷ [] → Goes_on (Get name) new
    gets name a made found new e = turns (Get name) a (home.lease ∷ []) new made found tt alone e

    reading_alone : (buffer : List Noted) (w : Walk) (c d : Cache) (new : Work) (shown : Shown) (turn : Turn Answer) → (p : ReadsBy who before after (in_hand home w c) (acting_of buffer new d shown) turn)
        → reading_reply (calling_of who before after) (in_hand home w c) (acting_of buffer new d shown) turn p ≢ Memory → Goes_on (walk_ask w) new
    reading_alone buffer w c d new shown More (m, steps, is, none) found = gets (object_of w) steps.answer steps.made found new (ap leases_of is)
    reading_alone buffer w c d new shown (Ended answer.Value) (m, page, steps, there, is, some) found = gets (object_of w) steps.answer steps.made found new (ap leases_of is)
    reading_alone buffer w c d new shown (Ended (answer.Trouble q)) (m, steps, is, none) found =
        gets (object_of w) steps.answer steps.made found new (ap leases_of is ∙ stopped_leases q home)
    reading_alone buffer w c d new shown turn p found = absurd p

    scanning_alone : (buffer : List Noted) (l : Listing) (c d : Cache) (new : Work) (shown : Shown) (turn : Turn Answer) → (p : StepsScanning who before after (in_hand home l c) (acting_of buffer new d shown) turn)
        → p.steps.answer ≢ Memory → Goes_on (scan_ask l.scan) new
    scanning_alone buffer l c d new shown turn p found =
        gets (scan_object l.scan) p.steps.answer p.steps.made found new (follows_leases home buffer (record { scan = p.scan; pairs = l.pairs }) d p.moved new shown turn p.follows)

    looking_alone : (buffer : List Noted) (l : Look) (c d : Cache) (new : Work) (shown : Shown) (turn : Turn Answer) → (p : LooksBy who before after (in_hand home l c) (acting_of buffer new d shown) turn)
        → looking_reply (calling_of who before after) (in_hand home l c) (acting_of buffer new d shown) turn p ≢ Memory → Goes_on (look_ask l) new
    looking_alone buffer l c d new shown More (m, steps, is, none, less) found = gets (object_of l.walk) steps.walked.answer steps.walked.made found new (ap leases_of is)
    looking_alone buffer l c d new shown (Ended answer.Scan) (m, steps, is, some) found = gets (object_of l.walk) steps.walked.answer steps.walked.made found new (ap leases_of is)
    looking_alone buffer l c d new shown (Ended (answer.Trouble q)) (m, steps, is, none) found =
        gets (object_of l.walk) steps.walked.answer steps.walked.made found new (ap leases_of is ∙ stopped_leases q home)
    looking_alone buffer l c d new shown turn p found = absurd p

  -- ---- checkpoints

  module _ (st : Store) (now : ℕ) (home : Home) (client : ℕ) (is_lock : home.lease.lock ≡ lock.Client client) where
    paging_alone : (p : Page) → KnowsPaging st now p → HoldsAlone (home.lease ∷ leases_of_paging p) s → (new : Work) (turn : Turn Answer) → (q : StepsPaging who before after (home, p) new turn)
        → paging_reply (calling_of who before after) (home, p) new turn q ≢ Memory → FindsMemory turn → Goes_on (paging_ask p) new
    paging_alone p k alone = on
      where
        goes : (a : Reply) → Makes who (paging_ask p) a before after → a ≢ Memory → (new : Work) (left : List Claim) → leases_of new ≡ home.lease ∷ left
            → left ≡ outstanding_after (paging_ask p) a (leases_of_paging p) → Goes_on (paging_ask p) new
        goes a made found new left e same =
            beside home (paging_ask p) a (leases_of_paging p) made found (paging_other home.lease client is_lock p) (paging_uses st now p k) alone new left e same

        on : (new : Work) (turn : Turn Answer) → (q : StepsPaging who before after (home, p) new turn) → paging_reply (calling_of who before after) (home, p) new turn q ≢ Memory → FindsMemory turn
            → Goes_on (paging_ask p) new
        on new More (m, steps, is, less) found fair =
            goes steps.answer steps.made found new (leases_of_paging m) (ap leases_of is) (paging_holds st now p k steps.answer (Goes m) steps.took)
        on new (Ended (answer.Done n)) (m, steps, is) found fair =
            goes steps.answer steps.made found new [] (ap leases_of is) (sym (paging_holds st now p k steps.answer (Ends m n) steps.took))
        on new (Ended (answer.Trouble q)) (m, steps, is) found fair =
            goes steps.answer steps.made found new [] (ap leases_of is ∙ stopped_leases q home)
            (sym (paging_holds st now p k steps.answer (Stops m q) (steps.took.0 (no_want q fair))))
        on new turn q found fair = absurd q

    folding_alone : (m : Making) → KnowsMaking st now m → HoldsAlone (home.lease ∷ leases_of_making m) s → (new : Work) (turn : Turn Answer) → (q : StepsFolding who before after (home, m) new turn)
        → folding_reply (calling_of who before after) (home, m) new turn q ≢ Memory → FindsMemory turn → Goes_on (making_ask m) new
    folding_alone m k alone = on
      where
        goes : (a : Reply) → Makes who (making_ask m) a before after → a ≢ Memory → (new : Work) (left : List Claim) → leases_of new ≡ home.lease ∷ left
            → left ≡ outstanding_after (making_ask m) a (leases_of_making m) → Goes_on (making_ask m) new
        goes a made found new left e same =
            beside home (making_ask m) a (leases_of_making m) made found (making_other home.lease client is_lock m) (making_uses st now m k) alone new left e same

        on : (new : Work) (turn : Turn Answer) → (q : StepsFolding who before after (home, m) new turn) → folding_reply (calling_of who before after) (home, m) new turn q ≢ Memory → FindsMemory turn
            → Goes_on (making_ask m) new
        on new More (n, steps, is, less) found fair =
            goes steps.answer steps.made found new (leases_of_making n) (ap leases_of is) (making_holds st now m k steps.answer (Goes n) steps.took)
        on new (Ended (answer.Done x)) (n, steps, is) found fair =
            goes steps.answer steps.made found new [] (ap leases_of is) (sym (making_holds st now m k steps.answer (Ends n x) steps.took))
        on new (Ended (answer.Trouble q)) (n, steps, is) found fair =
            goes steps.answer steps.made found new [] (ap leases_of is ∙ stopped_leases q home)
            (sym (making_holds st now m k steps.answer (Stops n q) (steps.took.0 (no_want q fair))))
        on new turn q found fair = absurd q

  -- ---- a close and a renewal

  module _ (l : Claim) (alone : HoldsAlone (l ∷ []) s) where
    closing_alone : (new : Work) (turn : Turn Answer) → (p : StepsClosing l who before after new turn) → closing_reply l (calling_of who before after) new turn p ≢ Memory → Goes_on (Release l) new
    closing_alone new (Ended answer.Closed) (gives, is) found = turns (Release l) gives.answer (l ∷ []) new gives.made found refl alone (ap leases_of is)
    closing_alone new (Ended (answer.Trouble q)) (gives, is) found = turns (Release l) gives.answer (l ∷ []) new gives.made found refl alone (ap leases_of is)
    closing_alone new turn p found = absurd p

  module _ (home : Home) (alone : HoldsAlone (home.lease ∷ []) s) where
    renews : (later : s.now ≤ t.now) (m : Claim) → RenewsBoth who 600 home.lease m (called who t.now s) t → HoldsAlone (m ∷ []) t
    renews later m (inl (same, is)) =
        subst (λ (x : Claim). HoldsAlone (x ∷ []) t) (sym is)
        (subst (HoldsAlone (home.lease ∷ [])) (sym same) (same_alone (home.lease ∷ []) s (called who t.now s) refl later alone))
    renews later m (inr (lands, is)) =
        subst (λ (x : Claim). HoldsAlone (x ∷ []) t) (sym is)
        (subst (HoldsAlone (extended home.lease (end_after t.now 600) ∷ [])) (sym lands.0)
        (renewed_alone home.lease (end_after t.now 600) [] (called who t.now s) (same_alone (home.lease ∷ []) s (called who t.now s) refl later alone)))

    renewed : (next : Home) (result : Result ℕ Trouble) → RenewsHome home next who before after result → (new : Work) → leases_of new ≡ next.lease ∷ [] → Goes_on (Renew home.lease 600) new
    renewed next result r new e =
        let call = called_so (Renew home.lease 600) r.answer r.made in
        (tt, held_by t new (next.lease ∷ []) e (renews call.later next.lease (renews_both who home.lease next.lease r.answer before after s t call told told_after r.lease)))

    renewing_alone : (new : Work) (turn : Turn Answer) → StepsRenewing home who before after new turn → Goes_on (Renew home.lease 600) new
    renewing_alone new (Ended (answer.Renewed end)) (next, r, is) = renewed next (Ok end) r new (ap leases_of is)
    renewing_alone new (Ended (answer.Trouble q)) (next, r, is) = renewed next (Err q) r new (ap leases_of is ∙ stopped_leases q next)
    renewing_alone new turn p = absurd p

  -- ---- a sweep

  module _ (st : Store) (now : ℕ) (m : SweepingState) (part : Part) (k : KnowsSweep st now m part) (alone : HoldsAlone (leases_of_sweep m) s) where
    sweeps_on : (a : Reply) → Makes who (sweep_ask m) a before after → a ≢ Memory → (new : Work) → leases_of new ≡ outstanding_after (sweep_ask m) a (leases_of_sweep m)
        → Goes_on (sweep_ask m) new
    sweeps_on a made found new e = turns (sweep_ask m) a (leases_of_sweep m) new made found (sweep_uses m (held_at m.stage st now m k.at)) alone e

    sweeping_alone : (new : Work) (turn : Turn Answer) → (p : StepsSweeping who before after m new turn) → sweeping_reply (calling_of who before after) m new turn p ≢ Memory → FindsMemory turn
        → Goes_on (sweep_ask m) new
    sweeping_alone new More (n, steps, is, less) found fair =
        sweeps_on steps.did.answer steps.did.made found new (ap leases_of is ∙ sweep_holds m steps.did.answer (Goes n) (held_at m.stage st now m k.at) steps.did.took)
    sweeping_alone new (Ended (answer.Swept x)) (n, steps, is) found fair =
        sweeps_on steps.did.answer steps.did.made found new (ap leases_of is ∙ sweep_holds m steps.did.answer (Ends n x) (held_at m.stage st now m k.at) steps.did.took)
    sweeping_alone new (Ended (answer.Trouble q)) (n, steps, is) found fair =
        sweeps_on steps.did.answer steps.did.made found new
        (ap leases_of is ∙ sweep_holds m steps.did.answer (Stops n q) (held_at m.stage st now m k.at) (steps.did.took.0 (no_want q fair)))
    sweeping_alone new turn p found fair = absurd p

  -- ---- a settling

  module _ (st : Store) (now : ℕ) (m : SettlingState) (part : Part) (k : KnowsSettling st now m part) (sound : IsSoundPart m.part) (alone : HoldsAlone (leases_of_settling m) s) where
    settles : (a : Reply) → Makes who (settle_ask m) a before after → a ≢ Memory → (new : Work) → leases_of new ≡ outstanding_after (settle_ask m) a (leases_of_settling m)
        → Goes_on (settle_ask m) new
    settles a made found new e = turns (settle_ask m) a (leases_of_settling m) new made found (settling_uses st now m part k.work sound) alone e

    settling_step_alone : (new : Work) (turn : Turn Answer) → (p : StepsSettling who before after m new turn) → settling_reply (calling_of who before after) m new turn p ≢ Memory → FindsMemory turn
        → Goes_on (settle_ask m) new
    settling_step_alone new More (n, steps, is, less) found fair =
        settles steps.did.answer steps.did.made found new (ap leases_of is ∙ settling_holds st now m part k.work sound steps.did.answer (Goes n) steps.did.took)
    settling_step_alone new (Ended (answer.Settled x)) (n, steps, is) found fair =
        settles steps.did.answer steps.did.made found new (ap leases_of is ∙ sym (settling_holds st now m part k.work sound steps.did.answer (Ends n x) steps.did.took))
    settling_step_alone new (Ended (answer.Trouble q)) (n, steps, is) found fair =
        settles steps.did.answer steps.did.made found new
        (ap leases_of is ∙ sym (settling_holds st now m part k.work sound steps.did.answer (Stops n q) (steps.did.took.0 (no_want q fair))))
    settling_step_alone new turn p found fair = absurd p

-- ---- whatever is at work

module _ (who : Caller) (before after : Seen) (s t : CloudState) (book : Book) (order : List Entry) (sessions : Sessions) (told : before.state ≡ Some s) (told_after : after.state ≡ Some t)
    (stand : SessionsStand book order s sessions) (counts : after.counts ≡ before.counts) where
  abbrev old : Work
  old = (sessions who.session).work

  abbrev kept : Cache
  kept = (sessions who.session).cache

  abbrev st : Store
  st = store_of book order s

  known : (work : Work) → old ≡ work → KnowsWork st s.now kept work (stand.parts who.session)
  known work is = subst (λ w. KnowsWork st s.now kept w (stand.parts who.session)) is (stand.each who.session).work

  -- the call in hand finds its lock free, and the session is alone behind it
  abbrev StepsAlone : Work → Work → Type 0
  StepsAlone work new = (ask : Ask) × (ask_of_work work ≡ Some ask) × TakesFree ask s t.now × IsAlone new t

  found_so : (work new : Work) (ask : Ask) → ask_of_work work ≡ Some ask → TakesFree ask s t.now × IsAlone new t → StepsAlone work new
  found_so work new ask hand goes = (ask, hand, goes.0, goes.1)

  by_work : (buffer : List Noted) (work new : Work) (d : Cache) (shown : Shown) (turn : Turn Answer) → old ≡ work → IsAlone work s → (p : StepsAt who before after work new turn)
      → (q : ShowsAt who before after (work, kept) (acting_of buffer new d shown) turn)
      → reply_at (calling_of who before after) (work, kept) (acting_of buffer new d shown) turn p q ≢ Memory → FindsMemory turn → StepsAlone work new
  by_work buffer (Opening r) new d shown turn is alone p q found fair =
      found_so (Opening r) new (recovery_ask r) refl (opening_alone who before after s t told told_after counts st s.now r (stand.parts who.session) (known (Opening r) is) p.0 alone new turn p.1 found fair)
  by_work buffer (Committing r) new d shown turn is alone p q found fair =
      found_so (Committing r) new (run_ask r) refl (commit_alone who before after s t told told_after counts r kept d alone new turn q.0 found fair)
  by_work buffer (Reading home w) new d shown turn is alone p q found fair =
      found_so (Reading home w) new (walk_ask w) refl (reading_alone who before after s t told told_after counts home alone buffer w kept d new shown turn q found)
  by_work buffer (Scanning home l) new d shown turn is alone p q found fair =
      found_so (Scanning home l) new (scan_ask l.scan) refl (scanning_alone who before after s t told told_after counts home alone buffer l kept d new shown turn q found)
  by_work buffer (Looking home l) new d shown turn is alone p q found fair =
      found_so (Looking home l) new (look_ask l) refl (looking_alone who before after s t told told_after counts home alone buffer l kept d new shown turn q found)
  by_work buffer (Paging home m) new d shown turn is alone p q found fair =
      let k = known (Paging home m) is in
      found_so (Paging home m) new (paging_ask m) refl (paging_alone who before after s t told told_after counts st s.now home home.client k.0.at.lock_is m k.1 alone new turn p found fair)
  by_work buffer (Folding home m) new d shown turn is alone p q found fair =
      let k = known (Folding home m) is in
      found_so (Folding home m) new (making_ask m) refl (folding_alone who before after s t told told_after counts st s.now home home.client k.0.at.lock_is m k.1 alone new turn p found fair)
  by_work buffer (Closing l) new d shown turn is alone p q found fair =
      found_so (Closing l) new (Release l) refl (closing_alone who before after s t told told_after counts l alone new turn p found)
  by_work buffer (Renewing home) new d shown turn is alone p q found fair =
      found_so (Renewing home) new (Renew home.lease 600) refl (renewing_alone who before after s t told told_after counts home alone new turn p)
  by_work buffer (Settling m) new d shown turn is alone p q found fair =
      found_so (Settling m) new (settle_ask m) refl (settling_step_alone who before after s t told told_after counts st s.now m (stand.parts who.session) (known (Settling m) is) p.0 alone new turn p.1 found fair)
  by_work buffer (Sweeping m) new d shown turn is alone p q found fair =
      found_so (Sweeping m) new (sweep_ask m) refl (sweeping_alone who before after s t told told_after counts st s.now m (stand.parts who.session) (known (Sweeping m) is) alone new turn p found fair)
  by_work buffer Closed new d shown turn is alone p q found fair = absurd p
  by_work buffer (Idle home) new d shown turn is alone p q found fair = absurd p
  by_work buffer (Broken l) new d shown turn is alone p q found fair = absurd p

  own_alone : (new : Acting) (turn : Turn Answer) → (p : StepsSession who before after (sessions who.session) new (Ok turn)) → IsAlone old s
      → reply_of (session_step who before after (sessions who.session) new turn) p ≢ Memory → FindsMemory turn → StepsAlone old new.work
  own_alone new turn p alone found fair = by_work new.buffer old new.work p.shown.0 new.shown turn refl alone p.work p.shown.1 found fair

same_ask : (a b : Ask) → Some a ≡ Some b → a ≡ b
same_ask a b e = cc

-- An undisturbed step of a session that is alone is calm, and leaves it alone.
pub session_alone : (who : Caller) (before after : Seen) (s t : CloudState) (book : Book) (order : List Entry) (sessions : Sessions) → before.state ≡ Some s → after.state ≡ Some t
    → SessionsStand book order s sessions → (a new : Acting) (turn : Turn Answer) → sessions who.session ≡ a → (p : StepsSession who before after a new (Ok turn)) → IsAlone a.work s
    → StepsUndisturbed (session_step who before after a new turn) p → StepsCalmly (session_step who before after a new turn) p × IsAlone new.work t
session_alone who before after s t book order sessions told told_after stand a new turn is =
    subst (λ (b : Acting). (p : StepsSession who before after b new (Ok turn)) → IsAlone b.work s → StepsUndisturbed (session_step who before after b new turn) p
    → StepsCalmly (session_step who before after b new turn) p × IsAlone new.work t) is own
  where
    own : (p : StepsSession who before after (sessions who.session) new (Ok turn)) → IsAlone (sessions who.session).work s
        → StepsUndisturbed (session_step who before after (sessions who.session) new turn) p → StepsCalmly (session_step who before after (sessions who.session) new turn) p × IsAlone new.work t
    own p alone x =
        let does = own_alone who before after s t book order sessions told told_after stand x.counts new turn p alone x.heard x.found in (
          record {
            ask = x.ask;
            hand = x.hand;
            calm = record {
              before = s;
              after = t;
              told = told;
              left = told_after;
              counts = x.counts;
              free = subst (λ (ask : Ask). TakesFree ask s t.now) (same_ask does.0 x.ask (sym does.1 ∙ x.hand)) does.2;
              lasting = x.lasting t told_after;
            };
            returned = x.returned t told_after;
            memory = x.heard;
          },
          does.3,
        )
