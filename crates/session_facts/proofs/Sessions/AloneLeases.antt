-- The leases of a session beside those of its checkpoint: it takes no lock of one of them, and an operation that begins has those that it had.
use Rattle.std.proofs.Common.{◌≡◌, ◌≢◌, ◌≤◌, ◌⊎◌, inl, inr, ℕ, List, [], ◌∷◌, ◌++◌, Option, Some, None, Result, Ok, Err, refl, sym, ap, subst, ◌∙◌}
use Rattle.ckpt_parts.specs.Deleting.{next_id}
use Rattle.ckpt_parts.specs.Leasing.{newest_lease, outstanding_after}
use Rattle.client_work.specs.Session.{Acting, Begins, BeginsIndexed, BeginsOpening, BeginsWith, CommitsIn, CommitsNoted, CommitsOf, Follows, HasInHand, ListsLeaf, LooksIn, ReadsIn, ScansIn, folding_begun_by, old_lease, opening_rule_of, paging_begun_by, stopped_work, acting_of}
use Rattle.client_work.specs.declared.answer.Answer.{Answer}
use Rattle.client_work.specs.declared.answer.Answer.TheVariants as answer
use Rattle.client_work.specs.declared.answer.Begun.{Begun}
use Rattle.client_work.specs.declared.answer.Begun.TheVariants.{Working, Answered}
use Rattle.client_work.specs.declared.listing.Listing.{Listing}
use Rattle.client_work.specs.declared.op.Op.{Op}
use Rattle.client_work.specs.declared.op.Op.TheVariants as op
use Rattle.client_work.specs.declared.shown.Shown.{Shown}
use Rattle.client_work.specs.declared.work.Work.{Work}
use Rattle.client_work.specs.declared.work.Work.TheVariants.{Closed, Idle, Opening, Committing, Reading, Scanning, Looking, Folding, Paging, Closing, Renewing, Settling, Sweeping, Broken}
use Rattle.range_scan.specs.Scan.{new_scan}
use Rattle.cloud_facts.proofs.Book.Places.{get_single, in_either, in_front, in_behind}
use Rattle.cloud_facts.specs.Words.{Trouble, Lock, AtomicRec, Answer as Reply, Turn, More, Ended, Stopped, CloudState, Claim, Ask, Get, GetHeld, PutHeld, Send, Receive, Delete, Take, Renew, Release, IsIn}
use Rattle.cloud_facts.specs.Calls.Acting.{of_option}
use Rattle.cloud_trait.specs.declared.answer.Answer.TheVariants.{Got, Sent, Received, Listed, Done, Given, Held, Renewed, Late, Failed, Memory}
use Rattle.cloud_trait.specs.Ask.{ListHeld, RemoveHeld, MovesNoLock}
use Rattle.commit_run.specs.declared.hand.Hand.{Hand}
use Rattle.commit_run.specs.declared.hand.Hand.TheVariants.{Writes, First, Change}
use Rattle.commit_run.specs.Run.{Run, run_ask, ask_at as hand_ask}
use Rattle.commit_writes.specs.declared.stage.Stage.{Stage as WritesAt}
use Rattle.commit_writes.specs.declared.stage.Stage.TheVariants as writes
use Rattle.commit_writes.specs.Writing.{Writing, send_ask, ask_at as stage_ask, delete_ask as commit_delete}
use Rattle.db_base.specs.declared.names.Lock.TheVariants as lock
use Rattle.db_base.specs.declared.names.ObjName.TheVariants as object
use Rattle.db_base.specs.declared.refusal.Refused.{Refused}
use Rattle.db_base.specs.declared.refusal.Refused.TheVariants as refused
use Rattle.db_base.specs.declared.trouble.Trouble.TheVariants as trouble
use Rattle.page_cache.specs.Cache.{Cache}
use Rattle.page_ckpt.specs.declared.stage.Stage.{Stage}
use Rattle.page_ckpt.specs.declared.stage.Stage.TheVariants as stage
use Rattle.page_ckpt.specs.Paging.{Paging as Page, ask_at, delete_next, home_name, paging_ask, right_name, under}
use Rattle.recover_run.specs.declared.home.Home.{Home}
use Rattle.session_facts.proofs.Machines.CommitRuns.Leases.{RunLeaseStays, ready_lease}
use Rattle.session_facts.proofs.Sessions.Indexed.{indexed_or}
use Rattle.session_facts.specs.Sessions.Knows.{leases_of}
use Rattle.session_facts.specs.Settling.Locks.{IsOwn, HoldsAlone, UsesOwn}
use Rattle.std.specs.Prelude.{slice_get, unwrap_or}
use Rattle.split_plan.specs.declared.put_list.PagePut.{PagePut}
use Rattle.tree_ckpt.specs.Making.{Making, making_ask}
use Rattle.tree_ckpt.specs.declared.work.Work.{Work as TreeWork}
use Rattle.tree_ckpt.specs.declared.work.Work.TheVariants as work
use Rattle.tree_ckpt.specs.Work.{delete_ask, release_ask, work_ask}
use Rattle.tree_phases.specs.Placing.{put_in_hand}
use Rattle.tree_phases.specs.declared.rising.Rising.{Rising}
use Rattle.tree_phases.specs.Rising.{last_ask}
use Rattle.txn_buffer.specs.Noted.{Noted}

-- ---- leases in any order

-- nobody has a lease beside more of them either
pub more_alone : (held more : List Claim) (s : CloudState) → ((x : Claim) → IsIn held x → IsIn more x) → HoldsAlone held s → HoldsAlone more s
more_alone held more s within alone l = on (alone l)
  where
    on : IsOwn held s.now l (s.locks l) → IsOwn more s.now l (s.locks l)
    on (inl free) = inl free
    on (inr (c, there, is, said)) = inr (c, within c there, is, said)

-- the first of them may be the last
pub first_last : (l : Claim) (held : List Claim) (s : CloudState) → HoldsAlone (l ∷ held) s → HoldsAlone (held ++ l ∷ []) s
first_last l held s alone = more_alone (l ∷ held) (held ++ l ∷ []) s (λ x is. on x (in_either (l ∷ []) held x is)) alone
  where
    on : (x : Claim) → IsIn (l ∷ []) x ⊎ IsIn held x → IsIn (held ++ l ∷ []) x
    on x (inl is) = in_behind held (l ∷ []) x is
    on x (inr is) = in_front held (l ∷ []) x is

pub last_first : (l : Claim) (held : List Claim) (s : CloudState) → HoldsAlone (held ++ l ∷ []) s → HoldsAlone (l ∷ held) s
last_first l held s alone = more_alone (held ++ l ∷ []) (l ∷ held) s (λ x is. on x (in_either held (l ∷ []) x is)) alone
  where
    on : (x : Claim) → IsIn held x ⊎ IsIn (l ∷ []) x → IsIn (l ∷ held) x
    on x (inl is) = in_behind (l ∷ []) held x is
    on x (inr is) = in_front (l ∷ []) held x is

-- ---- a lease below those of a checkpoint

-- a call takes no lock of the lease
abbrev pub TakesOther : Claim → Ask → Type 0
TakesOther l (Take lock ticks) = l.lock ≢ lock
TakesOther l ask = Unit {0}

pub uses_beside : (ask : Ask) (held : List Claim) (l : Claim) → TakesOther l ask → UsesOwn ask held → UsesOwn ask (held ++ l ∷ [])
uses_beside (Take lock ticks) held l other uses = λ c there e. on c e (in_either held (l ∷ []) c there)
  where
    on : (c : Claim) → c.lock ≡ lock → IsIn held c ⊎ IsIn (l ∷ []) c → ⊥
    on c e (inl is) = uses c is e
    on c e (inr is) = other (ap (λ (x : Claim). x.lock) (get_single l is.0 c is.1) ∙ e)
uses_beside (Release m) [] l other never = absurd never
uses_beside (Release m) (c ∷ cs) l other same = same
uses_beside (Renew m ticks) held l other never = absurd never
uses_beside (Get name) held l other uses = tt
uses_beside (GetHeld name m) held l other uses = tt
uses_beside (ListHeld tree m) held l other uses = tt
uses_beside (RemoveHeld name m) held l other uses = tt
uses_beside (PutHeld name bytes one two) held l other uses = tt
uses_beside (Send queue bytes) held l other uses = tt
uses_beside (Receive queue most) held l other uses = tt
uses_beside (Delete queue id) held l other uses = tt

taken_beside : (lock : Lock) (ticks : ℕ) (a : Reply) (held : List Claim) (l : Claim)
    → outstanding_after (Take lock ticks) a (held ++ l ∷ []) ≡ outstanding_after (Take lock ticks) a held ++ l ∷ []
taken_beside lock ticks (Given m) held l = refl
taken_beside lock ticks (Held until) held l = refl
taken_beside lock ticks Failed held l = refl
taken_beside lock ticks Memory held l = refl
taken_beside lock ticks (Got v) held l = refl
taken_beside lock ticks (Sent id) held l = refl
taken_beside lock ticks (Received ms) held l = refl
taken_beside lock ticks (Listed pages) held l = refl
taken_beside lock ticks Done held l = refl
taken_beside lock ticks (Renewed end) held l = refl
taken_beside lock ticks (Late end now) held l = refl

pub after_beside : (ask : Ask) (a : Reply) (held : List Claim) (l : Claim) → UsesOwn ask held → outstanding_after ask a (held ++ l ∷ []) ≡ outstanding_after ask a held ++ l ∷ []
after_beside (Take lock ticks) a held l uses = taken_beside lock ticks a held l
after_beside (Release m) a [] l never = absurd never
after_beside (Release m) a (c ∷ cs) l same = refl
after_beside (Renew m ticks) a held l never = absurd never
after_beside (Get name) a held l uses = refl
after_beside (GetHeld name m) a held l uses = refl
after_beside (ListHeld tree m) a held l uses = refl
after_beside (RemoveHeld name m) a held l uses = refl
after_beside (PutHeld name bytes one two) a held l uses = refl
after_beside (Send queue bytes) a held l uses = refl
after_beside (Receive queue most) a held l uses = refl
after_beside (Delete queue id) a held l uses = refl

-- ---- a client's lease beside those of a checkpoint

module _ (l : Claim) (client : ℕ) (is : l.lock ≡ lock.Client client) where
  no_page : (tree page : ℕ) → l.lock ≢ lock.Page tree page
  no_page tree page e = absurd (let other : lock.Client client ≡ lock.Page tree page = sym is ∙ e in cc (other))

  no_tree : (tree : ℕ) → l.lock ≢ lock.Tree tree
  no_tree tree e = absurd (let other : lock.Client client ≡ lock.Tree tree = sym is ∙ e in cc (other))

  pub paging_other : (p : Page) → TakesOther l (paging_ask p)
  paging_other p = on p.stage
    where
      under_other : (o : Option Claim) (make : Claim → Ask) → ((m : Claim) → TakesOther l (make m)) → TakesOther l (under p o make)
      under_other (Some m) make other = other m
      under_other None make other = no_page p.tree p.page

      deletes : (o : Option ℕ) → TakesOther l (delete_next p o)
      deletes (Some id) = tt
      deletes None = no_page p.tree p.page

      on : (at : Stage) → TakesOther l (ask_at at p)
      on stage.TakingHome = no_page p.tree p.page
      on stage.GettingHome = under_other p.held.first (λ m. GetHeld (home_name p) m) (λ m. tt)
      on stage.Receiving = tt
      on stage.TakingRight = no_page p.tree p.at.page
      on stage.GettingRight = under_other p.held.second (λ m. GetHeld (right_name p) m) (λ m. tt)
      on stage.PuttingRight =
          under_other p.held.first (λ m. under p p.held.second (λ r. PutHeld (right_name p) p.out m (Some r)))
          (λ m. under_other p.held.second (λ r. PutHeld (right_name p) p.out m (Some r)) (λ r. tt))
      on stage.ReleasingRight = under_other p.held.second _ (λ m. tt)
      on stage.PuttingHome = under_other p.held.first (λ m. PutHeld (home_name p) p.out m None) (λ m. tt)
      on stage.Deleting = deletes (next_id p.deletions.ids)
      on stage.Releasing = under_other (newest_lease p.held) _ (λ m. tt)
      on stage.Finished = no_page p.tree p.page

  put_other : (tree : ℕ) (m : Claim) (second : Option Claim) (other : Ask) → TakesOther l other → (reserved : Option (List ℕ)) (puts : List PagePut)
      → TakesOther l (unwrap_or (put_in_hand (record { reserved = reserved; puts = puts }) tree m second) other)
  put_other tree m second other is_other (Some bytes) puts = tt
  put_other tree m second other is_other None (x ∷ xs) = tt
  put_other tree m second other is_other None [] = is_other

  last_other : (r : Rising) (m : Claim) (o : Option (List ℕ)) → TakesOther l (last_ask r m o)
  last_other r m (Some bytes) = tt
  last_other r m None = tt

  pub making_other : (m : Making) → TakesOther l (making_ask m)
  making_other m = on m.work
    where
      deletes : (o : Option ℕ) → TakesOther l (delete_ask m.tree o)
      deletes (Some id) = tt
      deletes None = no_tree m.tree

      releases : (o : Option Claim) → TakesOther l (release_ask m.tree o)
      releases (Some c) = tt
      releases None = no_tree m.tree

      on : (w : TreeWork) → TakesOther l (work_ask m.tree w)
      on work.TakingTree = no_tree m.tree
      on (work.GettingTree c) = tt
      on (work.Receiving c root) = tt
      on (work.Descending h d) = tt
      on (work.TakingPage h c) = no_page c.chart.tree c.page
      on (work.Folding h f) = put_other f.chart.tree h.lease (Some f.lease) (GetHeld (object.Page f.chart.tree f.page) f.lease) tt f.placing.reserved f.placing.puts
      on (work.ReleasingPage h c o) = tt
      on (work.LeftPage h o) = no_tree m.tree
      on (work.Rising h r) = put_other r.chart.tree h.lease None (last_ask r h.lease r.last) (last_other r h.lease r.last) r.placing.reserved r.placing.puts
      on (work.Deleting h applied) = deletes (next_id h.deletions.ids)
      on (work.Releasing held end) = releases (newest_lease held)
      on work.Finished = no_tree m.tree

-- ---- a commit moves no lock

pub run_moves_none : (r : Run) → MovesNoLock (run_ask r)
run_moves_none r = on r.hand
  where
    sends : (w : Writing) (o : Option AtomicRec) → MovesNoLock (send_ask w o)
    sends w (Some x) = tt
    sends w None = tt

    deletes : (w : Writing) (o : Option ℕ) → MovesNoLock (commit_delete w o)
    deletes w (Some id) = tt
    deletes w None = tt

    written : (w : Writing) (at : WritesAt) → MovesNoLock (stage_ask at w)
    written w writes.Waiting = tt
    written w writes.Logging = tt
    written w writes.Opening = tt
    written w writes.Sending = sends w (slice_get w.records w.place)
    written w writes.Settling = tt
    written w writes.Deleting = deletes w (slice_get w.ids w.place)
    written w writes.Finished = tt

    on : (hand : Hand) → MovesNoLock (hand_ask hand r.draft.writes)
    on Writes = written r.draft.writes r.draft.writes.stage
    on (First w) = tt
    on (Change w) = tt

-- ---- what is in hand behind an answer

-- an open client has its lease, and a broken one too
pub stopped_leases : (k : Trouble) (home : Home) → leases_of (stopped_work k home) ≡ home.lease ∷ []
stopped_leases trouble.Memory home = refl
stopped_leases k home = refl

pub follows_leases : (home : Home) (buffer : List Noted) (m : Listing) (c : Cache) (moved : Turn ℕ) (new : Work) (shown : Shown) (turn : Turn Answer) → Follows home m moved (acting_of buffer new c shown) turn
    → leases_of new ≡ home.lease ∷ []
follows_leases home buffer m c More new shown turn f = ap leases_of f.0
follows_leases home buffer m c (Ended page) new shown turn f = lists turn f
  where
    lists : (turn : Turn Answer) → ListsLeaf home m (acting_of buffer new c shown) turn → leases_of new ≡ home.lease ∷ []
    lists More (all, listed, goes, is, none) = ap leases_of is
    lists (Ended answer.Scan) (all, listed, over, is, some) = ap leases_of is
    lists (Ended (answer.Trouble t)) (memory, is, none) = ap leases_of is
    lists turn never = absurd never
follows_leases home buffer m c (Stopped t) new shown turn f = ap leases_of f.0 ∙ stopped_leases t home

-- ---- a begin

module _ (old new : Acting) where
  abbrev Same : Type 0
  Same = leases_of new.work ≡ leases_of old.work

  -- the work of an open client
  by_home : (home : Home) → old.work ≡ Idle home → leases_of new.work ≡ home.lease ∷ [] → Same
  by_home home idle is = is ∙ sym (ap leases_of idle)

  unchanged : new ≡ old → Same
  unchanged e = ap (λ (a : Acting). leases_of a.work) e

  with_home : (Does : Home → Acting → Begun → Type 0) (result : Result Begun Refused) → ((home : Home) (begun : Begun) → Does home new begun → leases_of new.work ≡ home.lease ∷ [])
      → BeginsWith Does old new result → Same
  with_home Does (Ok begun) does (home, idle, d) = by_home home idle (does home begun d)
  with_home Does (Err (refused.Rule r)) does b = unchanged b.1
  with_home Does (Err refused.Memory) does b = absurd b

  broken_lease : (w : Work) → opening_rule_of w ≡ None → of_option (old_lease w) ++ [] ≡ leases_of w
  broken_lease Closed e = refl
  broken_lease (Broken l) e = refl
  broken_lease (Idle home) e = absurd (cc)
  broken_lease (Opening m) e = absurd (cc)
  broken_lease (Committing m) e = absurd (cc)
  broken_lease (Reading home m) e = absurd (cc)
  broken_lease (Scanning home m) e = absurd (cc)
  broken_lease (Looking home m) e = absurd (cc)
  broken_lease (Paging home m) e = absurd (cc)
  broken_lease (Folding home m) e = absurd (cc)
  broken_lease (Closing l) e = absurd (cc)
  broken_lease (Renewing home) e = absurd (cc)
  broken_lease (Settling m) e = absurd (cc)
  broken_lease (Sweeping m) e = absurd (cc)

  opening_leases : (client : ℕ) (result : Result Begun Refused) → BeginsOpening client old new result → Same
  opening_leases client (Ok Working) b = ap (λ (a : Acting). leases_of a.work) b.1 ∙ broken_lease old.work b.0
  opening_leases client (Ok (Answered a)) b = absurd b
  opening_leases client (Err (refused.Rule r)) b = unchanged b.1
  opening_leases client (Err refused.Memory) b = absurd b

  run_leases : (home : Home) (begun : Begun) → CommitsOf home old.buffer old.cache new.cache new.work begun → leases_of new.work ≡ home.lease ∷ []
  run_leases home Working (m, leads, is) =
      ap leases_of is ∙ ap (λ (x : Claim). x ∷ []) (subst (RunLeaseStays home.lease) leads (ready_lease home old.buffer old.cache))
  run_leases home (Answered (answer.Commit a)) (m, leads, is) =
      ap leases_of is ∙ ap (λ (x : Claim). x ∷ []) (subst (RunLeaseStays home.lease) leads (ready_lease home old.buffer old.cache))
  run_leases home (Answered (answer.Trouble t)) (memory, is) = ap leases_of is
  run_leases home (Answered a) never = absurd never

  commit_leases : (home : Home) (begun : Begun) → CommitsIn old home new begun → leases_of new.work ≡ home.lease ∷ []
  commit_leases home begun (none, does, shown) = on does
    where
      on : CommitsNoted home old.buffer old.cache new.cache new.work begun → leases_of new.work ≡ home.lease ∷ []
      on (inl nothing) = ap leases_of nothing.work_is
      on (inr (some, does)) = run_leases home begun does

  read_leases : (tree : ℕ) (key : List ℕ) (home : Home) (begun : Begun) → ReadsIn tree key old home new begun → leases_of new.work ≡ home.lease ∷ []
  read_leases tree key home Working (same, (m, leads, is, none)) = ap leases_of is
  read_leases tree key home (Answered answer.Value) (same, (m, page, leads, is, some)) = ap leases_of is
  read_leases tree key home (Answered (answer.Trouble t)) (same, (m, leads, is, none)) = ap leases_of is ∙ stopped_leases t home
  read_leases tree key home (Answered a) (same, never) = absurd never

  look_leases : (tree : ℕ) (attr : List ℕ) (home : Home) (begun : Begun) → LooksIn tree attr old home new begun → leases_of new.work ≡ home.lease ∷ []
  look_leases tree attr home Working (same, (m, leads, is, none)) = ap leases_of is
  look_leases tree attr home (Answered (answer.Trouble t)) (same, (stops, is, none)) = ap leases_of is ∙ stopped_leases t home
  look_leases tree attr home (Answered a) (same, never) = absurd never

  -- a look-up of a tree without an index is refused
  indexed_leases : (tree : ℕ) (attr : List ℕ) (result : Result Begun Refused) → BeginsIndexed tree (LooksIn tree attr old) old new result → Same
  indexed_leases tree attr result b = on (indexed_or tree (LooksIn tree attr old) old new result b)
    where
      on : (new ≡ old) ⊎ ((tree ≤ 8) × BeginsWith (LooksIn tree attr old) old new result) → Same
      on (inl same) = unchanged same
      on (inr (few, begins)) = with_home (LooksIn tree attr old) result (look_leases tree attr) begins

  pub begun_leases : (o : Op) (result : Result Begun Refused) → Begins o old new result → Same
  begun_leases (op.Open client) result b = opening_leases client result b
  begun_leases op.Close result b = with_home (λ home. HasInHand old (Closing home.lease)) result (λ home begun d. ap (λ (a : Acting). leases_of a.work) d.1) b
  begun_leases op.Renew result b = with_home (λ home. HasInHand old (Renewing home)) result (λ home begun d. ap (λ (a : Acting). leases_of a.work) d.1) b
  begun_leases op.Commit result b = with_home (CommitsIn old) result commit_leases b
  begun_leases (op.Read tree key) result b = with_home (ReadsIn tree key old) result (read_leases tree key) b
  begun_leases (op.Scan tree from to) result b =
      with_home (ScansIn (new_scan tree from to) old) result (λ home begun d. follows_leases home old.buffer _ new.cache d.1.moved new.work new.shown d.1.turn d.1.follows) b
  begun_leases (op.Lookup tree attr) result b = indexed_leases tree attr result b
  begun_leases (op.Page tree page) result b =
      with_home (λ home. HasInHand old (paging_begun_by tree page home)) result (λ home begun d. ap (λ (a : Acting). leases_of a.work) d.1) b
  begun_leases (op.Tree tree) result b = with_home (λ home. HasInHand old (folding_begun_by tree home)) result (λ home begun d. ap (λ (a : Acting). leases_of a.work) d.1) b
