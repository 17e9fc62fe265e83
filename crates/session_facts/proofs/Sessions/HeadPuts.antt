-- The puts of heads that sessions have in hand.
use Rattle.std.proofs.Common.{◌≡◌, ◌⊎◌, inl, inr, ℕ, Bool, true, false, List, length, Option, Some, None, refl, sym, ap, ◌∙◌}
use Rattle.cloud_facts.specs.Words.{ObjName, Claim, Ask, PutHeld, Renew, Release, Store}
use Rattle.client_work.specs.Session.{ask_of_work, opens_of}
use Rattle.client_work.specs.declared.work.Work.{Work}
use Rattle.client_work.specs.declared.work.Work.TheVariants.{Closed, Idle, Opening, Committing, Reading, Scanning, Looking, Folding, Paging, Closing, Renewing, Settling, Sweeping, Broken}
use Rattle.commit_run.specs.Run.{Run, run_opens}
use Rattle.session_facts.specs.Machines.CommitRuns.HeadPuts.{OpensRun, PutsRun}
use Rattle.session_facts.proofs.Machines.CommitRuns.HeadPuts.{run_puts}
use Rattle.db_base.specs.declared.names.ObjName.TheVariants as object
use Rattle.head_codec.specs.declared.head.Phase.TheVariants as phase
use Rattle.cloud_facts.specs.Homes.Homes.{Part}
use Rattle.session_facts.proofs.Machines.Openings.HeadPuts.{opening_puts}
use Rattle.page_cache.specs.Cache.{Cache}
use Rattle.session_facts.proofs.Machines.PageCheckpoints.HeadPuts.{paging_puts_none}
use Rattle.attr_index.specs.Look.{look_ask}
use Rattle.range_scan.specs.Scan.{scan_ask}
use Rattle.session_facts.specs.Sessions.HeadPuts.{IsSoundWork, Commits, PutsHead}
use Rattle.session_facts.specs.Sessions.Knows.{KnowsWork}
use Rattle.session_facts.proofs.Machines.Sweeps.Asks.{sweep_puts_none}
use Rattle.session_facts.proofs.Machines.Settlings.HeadPuts.{making_puts_none, settling_puts}
use Rattle.tree_walk.specs.Walk.{walk_ask}
use Rattle.std.proofs.lemmas.Option.{same_Some}
use Rattle.std.proofs.lemmas.Bool.{true≢false}

-- ---- what an ask puts

abbrev is_head : ObjName → Bool
is_head (object.Head client) = true
is_head (object.Tree tree) = false
is_head (object.Page tree page) = false

abbrev puts_head : Ask → Bool
puts_head (PutHeld name bytes one two) = is_head name
puts_head ask = false

-- an ask that puts no head is none that does
no_put : {X : Type 0} (a : Ask) (client : ℕ) (bytes : List ℕ) (one : Claim) (two : Option Claim) → puts_head a ≡ false → a ≡ PutHeld (object.Head client) bytes one two → X
no_put a client bytes one two none e = absurd (true≢false (sym (ap puts_head e) ∙ none))

-- ---- the whole

-- a commit opens the head of the changes that it has
commit_opens : (r : Run) (client : ℕ) (bytes : List ℕ) → PutsRun r client bytes → PutsHead (Committing r) client bytes
commit_opens r client bytes p = record { head = p.head; spells = p.spells; client_is = p.client_is; how = on p.how }
  where
    on : OpensRun r p.head ⊎ ((run_opens r ≡ None) × (p.head.phase ≡ phase.Settled)) → Commits (Committing r) p.head ⊎ ((opens_of (Committing r) ≡ None) × (p.head.phase ≡ phase.Settled))
    on (inl o) = inl (record { opens = o.opens; changes = r.draft.writes.changes; committing = refl; count = length r.draft.writes.records; phase_is = o.phase_is })
    on (inr settled) = inr settled

-- a put of a head in hand opens the head that commits, or puts one that is settled
pub head_put : (st : Store) (now : ℕ) (c : Cache) (work : Work) (part : Part) → KnowsWork st now c work part → IsSoundWork work → (client : ℕ) (bytes : List ℕ) (one : Claim) (two : Option Claim)
    → ask_of_work work ≡ Some (PutHeld (object.Head client) bytes one two) → PutsHead work client bytes
head_put st now c (Opening r) part k sound client bytes one two e =
    let p = opening_puts st now r part client bytes one two k sound (same_Some _ _ e) in
    record { head = p.head; spells = p.spells; client_is = p.client_is; how = inr (refl, p.settled) }
head_put st now c (Committing r) part k sound client bytes one two e = commit_opens r client bytes (run_puts st now (r, c) client bytes one two part (same_Some _ _ e) k sound)
head_put st now c (Folding home m) part k sound client bytes one two e = absurd (making_puts_none m client bytes one two (same_Some _ _ e))
head_put st now c (Paging home p) part k sound client bytes one two e = absurd (paging_puts_none p client bytes one two (same_Some _ _ e))
head_put st now c (Reading home m) part k sound client bytes one two e = no_put (walk_ask m) client bytes one two refl (same_Some _ _ e)
head_put st now c (Scanning home m) part k sound client bytes one two e = no_put (scan_ask m.scan) client bytes one two refl (same_Some _ _ e)
head_put st now c (Looking home m) part k sound client bytes one two e = no_put (look_ask m) client bytes one two refl (same_Some _ _ e)
head_put st now c (Settling m) part k sound client bytes one two e =
    let p = settling_puts st now m part client bytes one two k sound (same_Some _ _ e) in
    record { head = p.head; spells = p.spells; client_is = p.client_is; how = inr (refl, p.settled) }
head_put st now c (Sweeping m) part k sound client bytes one two e = absurd (sweep_puts_none m (object.Head client) bytes one two (same_Some _ _ e))
head_put st now c (Closing l) part k sound client bytes one two e = no_put (Release l) client bytes one two refl (same_Some _ _ e)
head_put st now c (Renewing home) part k sound client bytes one two e = no_put (Renew home.lease 600) client bytes one two refl (same_Some _ _ e)
head_put st now c Closed part k sound client bytes one two e = absurd (cc)
head_put st now c (Idle home) part k sound client bytes one two e = absurd (cc)
head_put st now c (Broken l) part k sound client bytes one two e = absurd (cc)
