-- The call that a session has in hand puts and sends what its standing by the lines allows. Nothing is looked at but the session.
use Rattle.std.proofs.Common.{◌≡◌, ◌⊎◌, ℕ, List, [], ◌∷◌, length, Option, Some, None, refl, sym, subst, inl, inr}
use Rattle.std.specs.Prelude.{slice_get, unwrap_or}
use Rattle.db_base.specs.declared.names.ObjName.TheVariants as object
use Rattle.cloud_trait.specs.declared.state.Landing.{Landing}
use Rattle.cloud_facts.specs.Words.{AtomicRec, Head, Claim, Ask, Get, GetHeld, PutHeld, Send, Receive, Delete, Take, Renew, Release}
use Rattle.cloud_trait.specs.Ask.{ListHeld, RemoveHeld}
use Rattle.head_codec.specs.declared.head.Phase.{Phase}
use Rattle.head_codec.specs.declared.head.Phase.TheVariants as phase
use Rattle.head_codec.specs.Spelling.{head_of}
use Rattle.ckpt_parts.specs.Deleting.{next_id}
use Rattle.ckpt_parts.specs.Leasing.{newest_lease}
use Rattle.commit_writes.specs.declared.stage.Stage.{Stage as CommitStage}
use Rattle.commit_writes.specs.declared.stage.Stage.TheVariants as commit
use Rattle.commit_writes.specs.Sound.{IsSoundAt as IsSoundWrite, SendsRecord, IsThere}
use Rattle.commit_writes.specs.Writing.{Writing, ask_at as writing_ask_at, send_ask, delete_ask as delete_log_ask}
use Rattle.commit_run.specs.declared.hand.Hand.{Hand}
use Rattle.commit_run.specs.declared.hand.Hand.TheVariants.{Writes, First, Change}
use Rattle.commit_run.specs.Run.{Run, home_of, ask_at as run_ask_at, run_ask}
use Rattle.commit_run.specs.Sound.{IsSoundAt as IsSoundHand, IsSoundRun}
use Rattle.page_ckpt.specs.Paging.{Paging as PageState, paging_ask}
use Rattle.attr_index.specs.Look.{look_ask}
use Rattle.range_scan.specs.Scan.{scan_ask}
use Rattle.recover_run.specs.declared.items.AtomicItem.{AtomicItem}
use Rattle.recover_run.specs.declared.stage.Stage.{Stage as OpeningStage}
use Rattle.recover_run.specs.declared.stage.Stage.TheVariants as opening
use Rattle.recover_run.specs.Recovery.{Recovery, ask_at as recovery_ask_at, recovery_ask, under, delete_next, send_next, IsSound as IsSoundRecovery, IsSoundAt as IsSoundStage}
use Rattle.split_plan.specs.declared.put_list.PagePut.{PagePut}
use Rattle.tree_phases.specs.declared.placing.Placing.{Placing}
use Rattle.tree_phases.specs.Placing.{put_first, put_next, put_in_hand}
use Rattle.tree_phases.specs.declared.rising.Rising.{Rising as Up}
use Rattle.tree_phases.specs.Rising.{last_ask}
use Rattle.tree_ckpt.specs.declared.work.Work.{Work as TreeWork}
use Rattle.tree_ckpt.specs.declared.work.Work.TheVariants as tree_work
use Rattle.tree_ckpt.specs.Work.{delete_ask, release_ask, work_ask}
use Rattle.tree_ckpt.specs.Making.{Making as TreeState, making_ask}
use Rattle.settle_run.specs.declared.part.Part.{Part}
use Rattle.settle_run.specs.declared.part.Part.TheVariants.{Client, Tree, Page}
use Rattle.settle_run.specs.Parts.{part_ask, IsSoundPart}
use Rattle.settle_run.specs.Settling.{Settling as SettlingState, settle_ask}
use Rattle.client_work.specs.declared.work.Work.{Work}
use Rattle.client_work.specs.declared.work.Work.TheVariants.{Closed, Idle, Opening, Committing, Reading, Scanning, Looking, Paging, Folding, Closing, Renewing, Settling, Sweeping, Broken}
use Rattle.client_work.specs.Session.{ask_of_work}
use Rattle.session_facts.specs.Rows.Asks.{MayAsk, MayAskBeside}
use Rattle.session_facts.specs.Sessions.HeadPuts.{IsSoundWork}
use Rattle.session_facts.proofs.Rows.Asks.{recovery_asks, run_asks, paging_asks}
use Rattle.replay_meaning.specs.Standing.{Line, Standing, standing_of_row}
use Rattle.replay_meaning.specs.Kinds.{OpensClient, CommitsCount, IsOfSettler, IsOfWork, MaySettleHead, MayPutRoot, MaySendPending, MayPutPhase, MayPutHead, MayPutBytes}
use Rattle.session_facts.specs.Lines.Running.{IsSettledHead, WritesAt, RunsAt, IsRunning, IsOfTree, PutsSettled}
use Rattle.session_facts.specs.Lines.Facts.{WorksAs}

-- ---- puts of heads, and the rest

-- a call that puts a head may do so
abbrev MayPut : List Line → Landing → Ask → Type 0
MayPut lines row (PutHeld (object.Head client) bytes one two) = MayPutBytes lines row client (Some bytes)
MayPut lines row ask = Unit {0}

both : (lines : List Line) (row : Landing) (ask : Ask) → MayPut lines row ask → MayAskBeside lines row ask → MayAsk lines row ask
both lines row (PutHeld (object.Head client) bytes one two) head beside = head
both lines row (PutHeld (object.Tree tree) bytes one two) head beside = beside
both lines row (PutHeld (object.Page tree page) bytes one two) head beside = beside
both lines row (RemoveHeld name l) head beside = beside
both lines row (Send queue bytes) head beside = beside
both lines row (Get name) head beside = tt
both lines row (GetHeld name l) head beside = tt
both lines row (ListHeld tree l) head beside = tt
both lines row (Receive queue most) head beside = tt
both lines row (Delete queue id) head beside = tt
both lines row (Take lock ticks) head beside = tt
both lines row (Renew l ticks) head beside = tt
both lines row (Release l) head beside = tt

-- bytes that spell a head of a phase that may be put
put_may : (lines : List Line) (row : Landing) (client : ℕ) (bytes : List ℕ) (head : Head) (at : Phase) → head_of bytes ≡ Some head → head.phase ≡ at → MayPutPhase lines row client at
    → MayPutBytes lines row client (Some bytes)
put_may lines row client bytes head at spells is may = subst (MayPutHead lines row client) (sym spells) (subst (MayPutPhase lines row client) (sym is) may)

module _ (lines : List Line) (row : Landing) where
  abbrev s : Standing
  s = standing_of_row lines row

  -- ---- an opening, or a recovery

  under_may : (r : Recovery) (o : Option Claim) (make : Claim → Ask) → ((l : Claim) → MayPut lines row (make l)) → MayPut lines row (under r o make)
  under_may r (Some l) make may = may l
  under_may r None make may = tt

  deletes_may : (r : Recovery) (ids : List ℕ) → MayPut lines row (delete_next r ids)
  deletes_may r (id ∷ ids) = tt
  deletes_may r [] = tt

  sends_may : (r : Recovery) (o : Option AtomicItem) → MayPut lines row (send_next r o)
  sends_may r (Some x) = tt
  sends_may r None = tt

  recovery_head : (r : Recovery) → IsSettledHead r → MaySettleHead lines row r.client → (stage : OpeningStage) → IsSoundStage stage r → MayPut lines row (recovery_ask_at stage r)
  recovery_head r settled may opening.ReleasingOld sound = under_may r r.former Release (λ l. tt)
  recovery_head r settled may opening.Taking sound = tt
  recovery_head r settled may opening.Getting sound = under_may r r.lease (λ l. GetHeld (object.Head r.client) l) (λ l. tt)
  recovery_head r settled may opening.Receiving sound = tt
  recovery_head r settled may opening.Deleting sound = deletes_may r r.ids
  recovery_head r settled may opening.Sending sound = sends_may r (slice_get r.gathered.kept r.sent)
  recovery_head r settled may opening.Putting sound =
      under_may r r.lease (λ l. PutHeld (object.Head r.client) r.out l None) (λ l. put_may lines row r.client r.out r.head phase.Settled sound.1 settled may)
  recovery_head r settled may opening.Clearing sound = deletes_may r r.ids
  recovery_head r settled may opening.Sweeping sound = tt
  recovery_head r settled may opening.Releasing sound = under_may r r.lease Release (λ l. tt)
  recovery_head r settled may opening.Finished sound = tt

  recovery_may : (r : Recovery) → IsSettledHead r → MaySettleHead lines row r.client → MaySendPending lines row → IsSoundRecovery r → MayAsk lines row (recovery_ask r)
  recovery_may r settled may send sound = both lines row (recovery_ask r) (recovery_head r settled may r.stage sound) (recovery_asks lines row r send)

  -- ---- a commit

  sends_log_may : (w : Writing) (o : Option AtomicRec) → SendsRecord w o → MayPut lines row (send_ask w o)
  sends_log_may w (Some r) sound = tt
  sends_log_may w None sound = absurd sound

  deletes_log_may : (w : Writing) (o : Option ℕ) → IsThere o → MayPut lines row (delete_log_ask w o)
  deletes_log_may w (Some id) sound = tt
  deletes_log_may w None sound = absurd sound

  writes_head : (w : Writing) → CommitsCount w.home.client (length w.changes) s → (stage : CommitStage) → WritesAt stage w → IsSoundWrite stage w → MayPut lines row (writing_ask_at stage w)
  writes_head w may commit.Waiting at sound = absurd at
  writes_head w may commit.Logging at sound = tt
  writes_head w may commit.Opening at sound = put_may lines row w.home.client w.out w.home.head (phase.Open (length w.changes)) sound at may
  writes_head w may commit.Sending at sound = sends_log_may w (slice_get w.records w.place) sound
  writes_head w may commit.Settling at sound =
      put_may lines row w.home.client w.out w.home.head phase.Settled sound at (inr (inl (record { commits = (may.changes, may.commits); own = may.own })))
  writes_head w may commit.Deleting at sound = deletes_log_may w (slice_get w.ids w.place) sound
  writes_head w may commit.Finished at sound = absurd at

  run_head : (w : Writing) → CommitsCount w.home.client (length w.changes) s → (hand : Hand) → RunsAt hand w → IsSoundHand hand w → MayPut lines row (run_ask_at hand w)
  run_head w may Writes at sound = writes_head w may w.stage at sound
  run_head w may (First walk) at sound = tt
  run_head w may (Change walk) at sound = tt

  run_may : (r : Run) → CommitsCount (home_of r).client (length r.draft.writes.changes) s → IsRunning r → IsSoundRun r → MayAsk lines row (run_ask r)
  run_may r may is sound =
      both lines row (run_ask r) (run_head r.draft.writes may r.hand is sound) (run_asks lines row r (record { commits = (may.changes, may.commits); own = may.own }))

  -- ---- a tree checkpoint

  -- what is to be put are the tree object and pages
  placing_may : (p : Placing) (tree : ℕ) (l : Claim) (second : Option Claim) (last : Ask) → MayPutRoot lines row tree → MayAsk lines row last
      → MayAsk lines row (unwrap_or (put_in_hand p tree l second) last)
  placing_may p tree l second last root may = on p.reserved p.puts
    where
      on : (reserved : Option (List ℕ)) (puts : List PagePut) → MayAsk lines row (unwrap_or (put_first tree l (put_next tree l second puts) reserved) last)
      on (Some bytes) puts = root
      on None (x ∷ puts) = inr root
      on None [] = may

  last_may : (r : Up) (l : Claim) (bytes : Option (List ℕ)) → MayPutRoot lines row r.chart.tree → MayAsk lines row (last_ask r l bytes)
  last_may r l (Some bytes) root = root
  last_may r l None root = tt

  deletes_tree_may : (tree : ℕ) (id : Option ℕ) → MayAsk lines row (delete_ask tree id)
  deletes_tree_may tree (Some id) = tt
  deletes_tree_may tree None = tt

  release_may : (tree : ℕ) (l : Option Claim) → MayAsk lines row (release_ask tree l)
  release_may tree (Some l) = tt
  release_may tree None = tt

  -- the root of the tree in hand may be put
  abbrev RootMay : TreeWork → Type 0
  RootMay (tree_work.Folding h f) = MayPutRoot lines row f.chart.tree
  RootMay (tree_work.Rising h r) = MayPutRoot lines row r.chart.tree
  RootMay w = Unit {0}

  work_may : (tree : ℕ) (w : TreeWork) → RootMay w → MayAsk lines row (work_ask tree w)
  work_may tree tree_work.TakingTree root = tt
  work_may tree (tree_work.GettingTree l) root = tt
  work_may tree (tree_work.Receiving l object) root = tt
  work_may tree (tree_work.Descending h d) root = tt
  work_may tree (tree_work.TakingPage h c) root = tt
  work_may tree (tree_work.Folding h f) root =
      placing_may f.placing f.chart.tree h.lease (Some f.lease) (GetHeld (object.Page f.chart.tree f.page) f.lease) root tt
  work_may tree (tree_work.ReleasingPage h l o) root = tt
  work_may tree (tree_work.LeftPage h o) root = tt
  work_may tree (tree_work.Rising h r) root = placing_may r.placing r.chart.tree h.lease None (last_ask r h.lease r.last) root (last_may r h.lease r.last root)
  work_may tree (tree_work.Deleting h applied) root = deletes_tree_may tree (next_id h.deletions.ids)
  work_may tree (tree_work.Releasing held end) root = release_may tree (newest_lease held)
  work_may tree tree_work.Finished root = tt

  -- that of its own tree
  own_root : (tree : ℕ) (w : TreeWork) → IsOfTree tree w → MayPutRoot lines row tree → RootMay w
  own_root tree (tree_work.Folding h f) of may = subst (MayPutRoot lines row) (sym of) may
  own_root tree (tree_work.Rising h r) of may = subst (MayPutRoot lines row) (sym of) may
  own_root tree tree_work.TakingTree of may = tt
  own_root tree (tree_work.GettingTree l) of may = tt
  own_root tree (tree_work.Receiving l object) of may = tt
  own_root tree (tree_work.Descending h d) of may = tt
  own_root tree (tree_work.TakingPage h c) of may = tt
  own_root tree (tree_work.ReleasingPage h l o) of may = tt
  own_root tree (tree_work.LeftPage h o) of may = tt
  own_root tree (tree_work.Deleting h applied) of may = tt
  own_root tree (tree_work.Releasing held end) of may = tt
  own_root tree tree_work.Finished of may = tt

  -- the settler may put that of any, and so may a session at its own line that works
  any_root : (w : TreeWork) → IsOfSettler lines row ⊎ IsOfWork lines row → RootMay w
  any_root (tree_work.Folding h f) own = inr own
  any_root (tree_work.Rising h r) own = inr own
  any_root tree_work.TakingTree own = tt
  any_root (tree_work.GettingTree l) own = tt
  any_root (tree_work.Receiving l object) own = tt
  any_root (tree_work.Descending h d) own = tt
  any_root (tree_work.TakingPage h c) own = tt
  any_root (tree_work.ReleasingPage h l o) own = tt
  any_root (tree_work.LeftPage h o) own = tt
  any_root (tree_work.Deleting h applied) own = tt
  any_root (tree_work.Releasing held end) own = tt
  any_root tree_work.Finished own = tt

  -- ---- a settling

  part_may : (part : Part) → PutsSettled part → IsSoundPart part → IsOfSettler lines row → MayAsk lines row (part_ask part)
  part_may (Client client r) settled sound own = recovery_may r settled (inr (inr own)) (inr (inr own)) sound
  part_may (Tree tree m) settled sound own = work_may m.tree m.work (any_root m.work (inl own))
  part_may (Page tree page m) settled sound own = paging_asks lines row m (inr (inr (inl own)))

  pub settling_may : (m : SettlingState) → PutsSettled m.part → IsSoundPart m.part → IsOfSettler lines row → MayAsk lines row (settle_ask m)
  settling_may m settled sound own = part_may m.part settled sound own

  -- ---- a checkpoint at a line that works

  pub page_at_work : (p : PageState) → IsOfWork lines row → MayAsk lines row (paging_ask p)
  page_at_work p own = paging_asks lines row p (inr (inr (inr own)))

  pub tree_at_work : (m : TreeState) → IsOfWork lines row → MayAsk lines row (making_ask m)
  tree_at_work m own = work_may m.tree m.work (any_root m.work (inr own))

  -- ---- the call in hand, by the work

  of_hand : (a b : Ask) → Some a ≡ Some b → MayAsk lines row a → MayAsk lines row b
  of_hand a b e may = let is : a ≡ b = cc in subst (MayAsk lines row) is may

  pub work_asks : (w : Work) → WorksAs w s → IsSoundWork w → (ask : Ask) → ask_of_work w ≡ Some ask → MayAsk lines row ask
  work_asks (Opening r) acts sound ask e =
      let opens : OpensClient r.client s = record { posture = acts.0; own = acts.1 } in
      of_hand (recovery_ask r) ask e (recovery_may r acts.4 (inl opens) (inr (inl (r.client, opens))) sound)
  work_asks (Committing r) acts sound ask e =
      of_hand (run_ask r) ask e (run_may r (record { changes = r.draft.writes.changes; commits = acts.0; as_many = refl; own = acts.1 }) acts.2 sound)
  work_asks (Reading home m) acts sound ask e = of_hand _ ask e tt
  work_asks (Scanning home m) acts sound ask e = of_hand (scan_ask m.scan) ask e tt
  work_asks (Looking home m) acts sound ask e = of_hand (look_ask m) ask e tt
  work_asks (Paging home p) acts sound ask e = of_hand (paging_ask p) ask e (paging_asks lines row p (inl (p.page, acts.0)))
  work_asks (Folding home f) acts sound ask e = of_hand (making_ask f) ask e (work_may f.tree f.work (own_root f.tree f.work acts.2 (inl acts.0)))
  work_asks (Settling m) acts sound ask e = absurd acts
  work_asks (Sweeping m) acts sound ask e = absurd acts
  work_asks (Closing l) acts sound ask e = of_hand (Release l) ask e tt
  work_asks (Renewing home) acts sound ask e = of_hand (Renew home.lease 600) ask e tt
  work_asks Closed acts sound ask e = absurd (cc)
  work_asks (Idle home) acts sound ask e = absurd (cc)
  work_asks (Broken l) acts sound ask e = absurd (cc)
