-- The machine at work came from its begin by the calls that it made, whatever the cloud tells of them.
use Rattle.std.proofs.Common.{◌≡◌, ◌≤◌, inl, inr, ℕ, List, [], ◌∷◌, length, Option, Some, None, Ok, false, refl, ap, sym, subst, ◌∙◌}
use Rattle.db_base.specs.declared.trouble.Trouble.{Trouble}
use Rattle.db_base.specs.declared.trouble.Trouble.TheVariants as trouble
use Rattle.db_base.specs.declared.trouble.CommitAnswer.{CommitAnswer}
use Rattle.db_base.specs.declared.trouble.CommitAnswer.TheVariants.{Committed, NotCommitted, InDoubt, CommittedOpen}
use Rattle.txn_buffer.specs.Noted.{Noted}
use Rattle.cloud_trait.specs.declared.answer.Answer.{Answer as Heard}
use Rattle.cloud_trait.specs.declared.turn.Turn.{Turn}
use Rattle.cloud_trait.specs.declared.turn.Turn.TheVariants.{More, Ended, Stopped}
use Rattle.cloud_trait.specs.Ask.{Ask}
use Rattle.cloud_trait.specs.Caller.{Caller}
use Rattle.cloud_trait.specs.Machine.{Next, Goes, Ends, Stops, LeadsBy, Steps, Deed, Came, occasion_of, machine_by}
use Rattle.cloud_trait.specs.Seen.{Seen}
use Rattle.page_cache.specs.Cache.{Cache}
use Rattle.tree_walk.specs.Served.{deed_of as walk_deed}
use Rattle.tree_walk.specs.Walk.{Walk, new_walk}
use Rattle.attr_index.specs.Look.{Query, Look}
use Rattle.client_work.proofs.Looks.{ready_walked, step_walked}
use Rattle.recover_run.specs.declared.home.Home.{Home}
use Rattle.recover_run.specs.declared.stage.Aim.TheVariants as aim
use Rattle.recover_run.specs.Recovery.{Recovery, new_recovery, recovery_ask, recovery_next, KeepsLeases}
use Rattle.commit_run.specs.Run.{Run, asks as run_asks, run_next, KeepsHome, run_machine}
use Rattle.page_ckpt.specs.Paging.{Paging as Page, Step as PageStep, new_paging, paging_ask, PagingLeads, KeepsLeases as KeepsPageLeases}
use Rattle.page_ckpt.specs.Leases.{fresh as fresh_page}
use Rattle.page_ckpt.proofs.Outcomes as outcome
use Rattle.page_ckpt.specs.declared.link.Link.{Link}
use Rattle.tree_ckpt.specs.Making.{Making, new_making, making_ask, MakingLeads, KeepsLeases as KeepsTreeLeases}
use Rattle.orphan_sweep.specs.Sweeping.{Sweeping as SweepingState}
use Rattle.settle_run.specs.Settling.{Settling as SettlingState}
use Rattle.client_work.specs.declared.answer.Answer.{Answer}
use Rattle.client_work.specs.declared.answer.Answer.TheVariants as answer
use Rattle.client_work.specs.declared.answer.Begun.{Begun}
use Rattle.client_work.specs.declared.answer.Begun.TheVariants.{Working, Answered}
use Rattle.client_work.specs.declared.op.Op.{Op}
use Rattle.client_work.specs.declared.op.Op.TheVariants as op
use Rattle.client_work.specs.declared.listing.Listing.{Listing}
use Rattle.client_work.specs.declared.shown.Shown.{Shown}
use Rattle.client_work.specs.declared.work.Work.{Work}
use Rattle.client_work.specs.declared.work.Work.TheVariants.{Closed, Idle, Opening, Committing, Reading, Scanning, Looking, Paging, Folding, Closing, Renewing, Settling, Sweeping, Broken}
use Rattle.client_work.specs.Causes.{MachineSteps, HasCome, deed_by}
use Rattle.client_work.specs.Settling.{IsUntold}
use Rattle.client_work.specs.Session.{Acting, Begins, HasInHand, CommitsOf, CommitsNoted, ReadsOf, ReadsBy, LooksOf, LooksBy, Follows, ListsLeaf, StepsAt, ShowsAt, stopped_work, opened_work, committed_work, opening_of, old_lease, paging_begun_by, folding_begun_by, shown_behind, acting_of, in_hand}
use Rattle.client_work.specs.Shows.{own_of}
use Rattle.client_work.proofs.Settles.{untold, made_untold, follows_untold, settles_on}
use Rattle.client_work.proofs.Sweeps.{sweeps_on}

-- ---- one call more

-- the calls with one more, of which nothing is told
module _ {M A : Type 0} (ask : M → Ask) (leads : M → Heard → Next M A → Type 0) (keeps : M → Heard → M → Type 0) (who : Caller) (before after : Seen) where
  pub came_more : (start old new : M) (h : List Deed) → Steps (machine_by ask leads keeps) (occasion_of who before after) old new More → Came ask leads start h old → IsUntold h
      → (g : List Deed) × Came ask leads start g new × IsUntold g
  came_more start old new h steps came is =
      let d : Deed = deed_by who (ask old) steps.answer (untold before) (untold after) in
      (d ∷ h, (old, came, refl, made_untold who (ask old) steps.answer before after steps.made, steps.took, follows_untold h d is), refl)

-- ---- a page checkpoint stays that of its page

abbrev SamePage : Page → Page → Type 0
SamePage p q = (q.tree ≡ p.tree) × (q.page ≡ p.page)

onward_same : {p q : Page} {a : Heard} {o : Option Link} → outcome.Onward p a q o → SamePage p q
onward_same (outcome.with_run p first second ms i read some) = (refl, refl)
onward_same (outcome.from_right p first second a) = (refl, refl)

clears_same : {p q : Page} {a : Heard} → outcome.Clears p a q → SamePage p q
clears_same (outcome.no_run p first second ms i read none) = (refl, refl)
clears_same (outcome.home_put p first second) = (refl, refl)
clears_same (outcome.one_tried p first second a) = (refl, refl)

fails_same : {p q : Page} {a : Heard} {t : Trouble} → outcome.Fails p a q t → SamePage p q
fails_same (outcome.round link on seen) = onward_same on
fails_same (outcome.home_spent on spent) = onward_same on
fails_same (outcome.no_home p first second a t e) = (refl, refl)
fails_same (outcome.no_messages p first second a t e) = (refl, refl)
fails_same (outcome.no_lease p first second a t e) = (refl, refl)
fails_same (outcome.no_right p first second a t e) = (refl, refl)
fails_same (outcome.right_not_put p first second a t e) = (refl, refl)
fails_same (outcome.home_not_put p first second a t e) = (refl, refl)
fails_same (outcome.bad_home p first second got t holds) = (refl, refl)
fails_same (outcome.bad_message p first second ms t read) = (refl, refl)
fails_same (outcome.bad_right p first second got t holds) = (refl, refl)
fails_same (outcome.right_spent p first second got l holds some spent) = (refl, refl)

abbrev GoesSame : Page → PageStep → Type 0
GoesSame p (Goes q) = SamePage p q
GoesSame p (Ends q a) = Unit {0}
GoesSame p (Stops q t) = Unit {0}

comes_same : {p : Page} {a : Heard} {next : PageStep} → outcome.Comes p a next → GoesSame p next
comes_same (outcome.takes_home p first second l) = (refl, refl)
comes_same (outcome.refused p first second a t e) = tt
comes_same (outcome.stops q t fails) = fails_same fails
comes_same (outcome.reads_home p first second got home holds) = (refl, refl)
comes_same (outcome.turns q link on new) = onward_same on
comes_same (outcome.takes_right p first second r) = (refl, refl)
comes_same (outcome.puts_right p first second got l out holds some fresh is) = (refl, refl)
comes_same (outcome.leaves_right p first second got l holds none) = (refl, refl)
comes_same (outcome.right_put p first second) = (refl, refl)
comes_same (outcome.puts_home q out on fresh is) = onward_same on
comes_same (outcome.deletes q id clears some) = clears_same clears
comes_same (outcome.rests q clears none) = clears_same clears
comes_same (outcome.gives_back p l r a) = (refl, refl)
comes_same (outcome.ends p first second a last none) = tt
comes_same (outcome.stopped p first second a t last kept) = tt
comes_same (outcome.nothing p first second a) = tt

fresh_again : (p q : Page) (a : Heard) → PagingLeads p a (Goes q) → fresh_page p ≡ fresh_page q
fresh_again p q a leads =
    let same : SamePage p q = comes_same (outcome.comes p a (Goes q) leads) in
    ap (λ (tree : ℕ). new_paging tree p.page) (sym same.0) ∙ ap (λ (n : ℕ). new_paging q.tree n) (sym same.1)

-- ---- what is at rest came by nothing

abbrev pub IsAtRest : Work → Type 0
IsAtRest Closed = Unit {0}
IsAtRest (Idle home) = Unit {0}
IsAtRest (Broken lease) = Unit {0}
IsAtRest work = ⊥

rest_come : (w : Work) (c : Cache) → IsAtRest w → HasCome w c
rest_come Closed c r = tt
rest_come (Idle home) c r = tt
rest_come (Broken lease) c r = tt
rest_come w c r = absurd r

rest_as : (w v : Work) → w ≡ v → IsAtRest v → IsAtRest w
rest_as w v is r = subst IsAtRest (sym is) r

stopped_rests : (t : Trouble) (home : Home) → IsAtRest (stopped_work t home)
stopped_rests trouble.Memory home = tt
stopped_rests t home = tt

opened_rests : (o : Option Home) → IsAtRest (opened_work o)
opened_rests (Some home) = tt
opened_rests None = tt

committed_rests : (a : CommitAnswer) (home : Home) → IsAtRest (committed_work a home)
committed_rests InDoubt home = tt
committed_rests (CommittedOpen t) home = tt
committed_rests (Committed txn) home = tt
committed_rests (NotCommitted t) home = tt

-- ---- a step

-- what a session keeps of the cache beside what is at work
kept_come : (w : Work) (d : Cache) → HasCome w d → HasCome w (shown_behind w d)
kept_come Closed d h = tt
kept_come (Idle home) d h = h
kept_come (Opening m) d h = h
kept_come (Committing m) d h = h
kept_come (Reading home m) d h = h
kept_come (Scanning home m) d h = h
kept_come (Looking home m) d h = h
kept_come (Paging home m) d h = h
kept_come (Folding home m) d h = h
kept_come (Closing lease) d h = h
kept_come (Renewing home) d h = h
kept_come (Settling m) d h = h
kept_come (Sweeping m) d h = h
kept_come (Broken lease) d h = h

come_as : (w v : Work) (d : Cache) → w ≡ v → HasCome v d → HasCome w d
come_as w v d is h = subst (λ (x : Work). HasCome x d) (sym is) h

-- a scan leads to a scan or to rest
module _ (buffer : List Noted) (d : Cache) where
  listed_come : (home : Home) (m : Listing) (left : Work) (shown : Shown) (turn : Turn Answer) → ListsLeaf home m (acting_of buffer left d shown) turn → HasCome left d
  listed_come home m left shown More (all, are, going, is, none) = come_as left (Scanning home _) d is tt
  listed_come home m left shown (Ended answer.Scan) (all, are, over, is, some) = rest_come left d (rest_as left (Idle home) is tt)
  listed_come home m left shown (Ended (answer.Trouble t)) (memory, is, none) = rest_come left d (rest_as left (Broken home.lease) is tt)
  listed_come home m left shown turn never = absurd never

  followed_come : (home : Home) (m : Listing) (moved : Turn ℕ) (left : Work) (shown : Shown) (turn : Turn Answer) → Follows home m moved (acting_of buffer left d shown) turn → HasCome left d
  followed_come home m More left shown turn (is, none, more) = come_as left (Scanning home m) d is tt
  followed_come home m (Ended page) left shown turn lists = listed_come home m left shown turn lists
  followed_come home m (Stopped t) left shown turn (is, none, stopped) = rest_come left d (rest_as left (stopped_work t home) is (stopped_rests t home))

module _ (who : Caller) (before after : Seen) (buffer : List Noted) (c d : Cache) where
  opening_come : (m : Recovery) (left : Work) (turn : Turn Answer) → HasCome (Opening m) c → StepsAt who before after (Opening m) left turn
      → MachineSteps who before after (Opening m, c) (left, d) turn → HasCome left d
  opening_come m left More (client, former, h, went, is) steps (n, stepped, left_is) =
      let more = came_more recovery_ask (LeadsBy recovery_next) KeepsLeases who before after (new_recovery client aim.Opening former) m n h stepped.did went is in
      come_as left (Opening n) d left_is (client, former, more.0, more.1, more.2)
  opening_come m left (Ended (answer.Opened epoch)) came steps machine = rest_come left d (rest_as left (opened_work _) steps.1.2 (opened_rests _))
  opening_come m left (Ended (answer.Trouble k)) came steps machine = rest_come left d (rest_as left Closed steps.1.2 tt)
  opening_come m left turn came steps machine = absurd steps.1

  commit_come : (m : Run) (left : Work) (turn : Turn Answer) → HasCome (Committing m) c → StepsAt who before after (Committing m) left turn
      → MachineSteps who before after (Committing m, c) (left, d) turn → HasCome left d
  commit_come m left More (home, changes, first, h, some, (start, ready, came), is) steps (n, stepped, left_is) =
      let did : Steps run_machine (occasion_of who before after) (m, c) (n, d) More = record { answer = stepped.answer; made = stepped.made; took = stepped.took } in
      let more = came_more run_asks (LeadsBy run_next) KeepsHome who before after start (m, c) (n, d) h did came is in
      come_as left (Committing n) d left_is (home, changes, first, more.0, some, (start, ready, more.1), more.2)
  commit_come m left (Ended (answer.Commit a)) came steps machine = rest_come left d (rest_as left (committed_work a _) steps.3.2 (committed_rests a _))
  commit_come m left (Ended (answer.Trouble k)) came steps machine = rest_come left d (rest_as left (Broken _) steps.3.2 tt)
  commit_come m left turn came steps machine = absurd steps.3

  reading_come : (home : Home) (m : Walk) (left : Work) (shown : Shown) (turn : Turn Answer) → HasCome (Reading home m) c
      → ReadsBy who before after (in_hand home m c) (acting_of buffer left d shown) turn → HasCome left d
  reading_come home m left shown More (start, h, begun, walked) (n, stepped, left_is, none) =
      come_as left (Reading home n) d left_is
      (start, walk_deed who (m, c) stepped.answer before after ∷ h, begun, ((m, c), walked, refl, stepped.made, stepped.took))
  reading_come home m left shown (Ended answer.Value) came (n, page, stepped, at, left_is, some) = rest_come left d (rest_as left (Idle home) left_is tt)
  reading_come home m left shown (Ended (answer.Trouble k)) came (n, stepped, left_is, none) = rest_come left d (rest_as left (stopped_work k home) left_is (stopped_rests k home))
  reading_come home m left shown turn came never = absurd never

  looking_come : (home : Home) (m : Look) (left : Work) (shown : Shown) (turn : Turn Answer) → HasCome (Looking home m) c
      → LooksBy who before after (in_hand home m c) (acting_of buffer left d shown) turn → HasCome left d
  looking_come home m left shown More came (n, stepped, left_is, none, less) =
      come_as left (Looking home n) d left_is (step_walked (own_of home buffer) who before after (m, c) (n, d) stepped came)
  looking_come home m left shown (Ended answer.Scan) came (n, stepped, left_is, some) = rest_come left d (rest_as left (Idle home) left_is tt)
  looking_come home m left shown (Ended (answer.Trouble k)) came (n, stepped, left_is, none) = rest_come left d (rest_as left (stopped_work k home) left_is (stopped_rests k home))
  looking_come home m left shown turn came never = absurd never

  paging_come : (home : Home) (m : Page) (left : Work) (turn : Turn Answer) → HasCome (Paging home m) c → StepsAt who before after (Paging home m) left turn
      → MachineSteps who before after (Paging home m, c) (left, d) turn → HasCome left d
  paging_come home m left More (h, went, is) steps (n, stepped, left_is) =
      let same : fresh_page m ≡ fresh_page n = fresh_again m n stepped.did.answer stepped.did.took in
      come_as left (Paging home n) d left_is
      (came_more paging_ask PagingLeads KeepsPageLeases who before after (fresh_page n) m n h stepped.did (subst (λ (start : Page). Came paging_ask PagingLeads start h m) same went) is)
  paging_come home m left (Ended (answer.Done n)) came steps machine = rest_come left d (rest_as left (Idle home) steps.2 tt)
  paging_come home m left (Ended (answer.Trouble k)) came steps machine = rest_come left d (rest_as left (stopped_work k home) steps.2 (stopped_rests k home))
  paging_come home m left turn came steps machine = absurd steps

  folding_come : (home : Home) (m : Making) (left : Work) (turn : Turn Answer) → HasCome (Folding home m) c → StepsAt who before after (Folding home m) left turn
      → MachineSteps who before after (Folding home m, c) (left, d) turn → HasCome left d
  folding_come home m left More (h, went, is) steps (n, stepped, left_is) =
      let same : new_making m.tree ≡ new_making n.tree = ap new_making (sym stepped.did.took.0.0) in
      come_as left (Folding home n) d left_is
      (came_more making_ask MakingLeads KeepsTreeLeases who before after (new_making n.tree) m n h stepped.did (subst (λ (start : Making). Came making_ask MakingLeads start h m) same went) is)
  folding_come home m left (Ended (answer.Done n)) came steps machine = rest_come left d (rest_as left (Idle home) steps.2 tt)
  folding_come home m left (Ended (answer.Trouble k)) came steps machine = rest_come left d (rest_as left (stopped_work k home) steps.2 (stopped_rests k home))
  folding_come home m left turn came steps machine = absurd steps

  settling_come : (m : SettlingState) (left : Work) (turn : Turn Answer) → HasCome (Settling m) c → StepsAt who before after (Settling m) left turn → HasCome left d
  settling_come m left More came (sound, (n, stepped, left_is, less)) = come_as left (Settling n) d left_is (settles_on who before after m n More stepped.did refl came)
  settling_come m left (Ended (answer.Settled n)) came steps = rest_come left d (rest_as left Closed steps.1.2 tt)
  settling_come m left (Ended (answer.Trouble k)) came steps = rest_come left d (rest_as left Closed steps.1.2 tt)
  settling_come m left turn came steps = absurd steps.1

  sweeping_come : (m : SweepingState) (left : Work) (turn : Turn Answer) → HasCome (Sweeping m) c → StepsAt who before after (Sweeping m) left turn → HasCome left d
  sweeping_come m left More came (n, stepped, left_is, less) = come_as left (Sweeping n) d left_is (sweeps_on who before after m n More stepped.did refl came)
  sweeping_come m left (Ended (answer.Swept x)) came steps = rest_come left d (rest_as left Closed steps.2 tt)
  sweeping_come m left (Ended (answer.Trouble k)) came steps = rest_come left d (rest_as left Closed steps.2 tt)
  sweeping_come m left turn came steps = absurd steps

  step_come : (was left : Work) (shown : Shown) (turn : Turn Answer) → HasCome was c → StepsAt who before after was left turn → ShowsAt who before after (was, c) (acting_of buffer left d shown) turn
      → MachineSteps who before after (was, c) (left, d) turn → HasCome left d
  step_come (Opening m) left shown turn came steps shows machine = opening_come m left turn came steps machine
  step_come (Committing m) left shown turn came steps shows machine = commit_come m left turn came steps machine
  step_come (Reading home m) left shown turn came steps shows machine = reading_come home m left shown turn came shows
  step_come (Scanning home m) left shown turn came steps shows machine = followed_come buffer d home _ shows.moved left shown turn shows.follows
  step_come (Looking home m) left shown turn came steps shows machine = looking_come home m left shown turn came shows
  step_come (Paging home m) left shown turn came steps shows machine = paging_come home m left turn came steps machine
  step_come (Folding home m) left shown turn came steps shows machine = folding_come home m left turn came steps machine
  step_come (Closing lease) left shown (Ended answer.Closed) came steps shows machine = rest_come left d (rest_as left Closed steps.1 tt)
  step_come (Closing lease) left shown (Ended (answer.Trouble k)) came steps shows machine = rest_come left d (rest_as left Closed steps.1 tt)
  step_come (Closing lease) left shown turn came steps shows machine = absurd steps
  step_come (Renewing home) left shown (Ended (answer.Renewed end)) came steps shows machine = rest_come left d (rest_as left (Idle steps.0) steps.2 tt)
  step_come (Renewing home) left shown (Ended (answer.Trouble k)) came steps shows machine = rest_come left d (rest_as left (stopped_work k steps.0) steps.2 (stopped_rests k steps.0))
  step_come (Renewing home) left shown turn came steps shows machine = absurd steps
  step_come (Settling m) left shown turn came steps shows machine = settling_come m left turn came steps
  step_come (Sweeping m) left shown turn came steps shows machine = sweeping_come m left turn came steps
  step_come Closed left shown turn came steps shows machine = absurd steps
  step_come (Idle home) left shown turn came steps shows machine = absurd steps
  step_come (Broken lease) left shown turn came steps shows machine = absurd steps

  pub steps_come : (was left : Work) (shown : Shown) (turn : Turn Answer) → HasCome was c → StepsAt who before after was left turn → ShowsAt who before after (was, c) (acting_of buffer left d shown) turn
      → MachineSteps who before after (was, c) (left, d) turn → HasCome left (shown_behind left d)
  steps_come was left shown turn came steps shows machine = kept_come left d (step_come was left shown turn came steps shows machine)

-- ---- a begin

module _ (old new : Acting) (begun : Begun) where
  new_is : (w : Work) → new.work ≡ w → HasCome w new.cache → HasCome new.work new.cache
  new_is w is h = come_as new.work w new.cache is h

  new_rests : (w : Work) → new.work ≡ w → IsAtRest w → HasCome new.work new.cache
  new_rests w is r = rest_come new.work new.cache (rest_as new.work w is r)

  in_hand_come : (w : Work) → HasCome w new.cache → HasInHand old w new begun → HasCome new.work new.cache
  in_hand_come w h has = new_is w (ap (λ (a : Acting). a.work) has.1) h

  commits_come : (home : Home) → 1 ≤ length old.buffer → (b : Begun) → CommitsOf home old.buffer old.cache new.cache new.work b → HasCome new.work new.cache
  commits_come home some Working (m, ready, is) = new_is (Committing m) is (home, old.buffer, old.cache, [], some, ((m, new.cache), ready, refl), tt)
  commits_come home some (Answered (answer.Commit a)) h = new_rests (Idle _) h.2 tt
  commits_come home some (Answered (answer.Trouble t)) h = new_rests (Broken home.lease) h.1 tt
  commits_come home some (Answered a) h = absurd h

  committed_come : (home : Home) → CommitsNoted home old.buffer old.cache new.cache new.work begun → HasCome new.work new.cache
  committed_come home (inl nothing) = new_rests (Idle home) nothing.work_is tt
  committed_come home (inr noted) = commits_come home noted.0 begun noted.1

  reads_come : (home : Home) (tree : ℕ) (key : List ℕ) (b : Begun) → ReadsOf home (new_walk tree (Some key) false, old.cache) (new.work, new.cache) new.shown b → HasCome new.work new.cache
  reads_come home tree key Working (m, ready, is, none) = new_is (Reading home m) is ((m, new.cache), [], (tree, Some key, false, old.cache, ready), refl)
  reads_come home tree key (Answered answer.Value) h = new_rests (Idle home) h.3 tt
  reads_come home tree key (Answered (answer.Trouble t)) h = new_rests (stopped_work t home) h.2 (stopped_rests t home)
  reads_come home tree key (Answered a) h = absurd h

  looks_come : (home : Home) (q : Query) (b : Begun) → LooksOf home q old.cache (new.work, new.cache) new.shown b → HasCome new.work new.cache
  looks_come home q Working (m, ready, is, none) = new_is (Looking home m) is (ready_walked q old.cache (m, new.cache) ready)
  looks_come home q (Answered (answer.Trouble t)) h = new_rests (stopped_work t home) h.1 (stopped_rests t home)
  looks_come home q (Answered a) h = absurd h

  pub begins_come : (o : Op) → Begins o old new (Ok begun) → HasCome new.work new.cache
  begins_come (op.Open client) b = opens begun b where
    opens : (x : Begun) → Begins (op.Open client) old new (Ok x) → HasCome new.work new.cache
    opens Working h = new_is (opening_of client (old_lease old.work)) (ap (λ (a : Acting). a.work) h.1) (client, old_lease old.work, [], refl, tt)
    opens (Answered a) h = absurd h
  begins_come op.Close (home, idle, has) = in_hand_come (Closing home.lease) tt has
  begins_come op.Renew (home, idle, has) = in_hand_come (Renewing home) tt has
  begins_come op.Commit (home, idle, (none, noted, shown)) = committed_come home noted
  begins_come (op.Read tree key) (home, idle, (same, h)) = reads_come home tree key begun h
  begins_come (op.Scan tree from to) (home, idle, (same, h)) = followed_come old.buffer new.cache home _ h.moved new.work new.shown h.turn h.follows
  begins_come (op.Lookup tree attr) (low, (home, idle, (same, h))) = looks_come home (record { tree = tree; attr = attr }) begun h
  begins_come (op.Page tree page) (home, idle, has) = in_hand_come (paging_begun_by tree page home) ([], refl, tt) has
  begins_come (op.Tree tree) (home, idle, has) = in_hand_come (folding_begun_by tree home) ([], refl, tt) has
