-- A step of the machine at work has the causes that its contract names, behind the calls that led to it.
use Rattle.std.proofs.Common.{◌≡◌, inl, inr, ℕ, List, Err, refl, subst, sym}
use Rattle.db_base.specs.declared.trouble.Trouble.{Trouble}
use Rattle.db_base.specs.declared.trouble.CommitAnswer.{CommitAnswer}
use Rattle.txn_buffer.specs.Noted.{Noted}
use Rattle.cloud_trait.specs.declared.turn.CkptAnswer.{CkptAnswer}
use Rattle.cloud_trait.specs.declared.turn.Turn.{Turn}
use Rattle.cloud_trait.specs.declared.turn.Turn.TheVariants.{More, Ended, Stopped}
use Rattle.cloud_trait.specs.Caller.{Caller}
use Rattle.cloud_trait.specs.Claim.{Claim}
use Rattle.cloud_trait.specs.Seen.{Seen}
use Rattle.cloud_trait.specs.Views.{done_of, renewed_of}
use Rattle.cloud_trait.specs.Machine.{occasion_of}
use Rattle.page_cache.specs.Cache.{Cache}
use Rattle.tree_walk.specs.Stepped.{Stepped as StepsWalk}
use Rattle.tree_walk.specs.Walk.{Walk}
use Rattle.range_scan.specs.Meaning.{range_of}
use Rattle.attr_index.specs.Look.{Look}
use Rattle.attr_index.specs.Stepped.{Stepped as StepsLook}
use Rattle.recover_run.specs.declared.home.Home.{Home}
use Rattle.recover_run.specs.declared.stage.Aim.TheVariants as aim
use Rattle.recover_run.specs.declared.stage.RecoverAnswer.{RecoverAnswer}
use Rattle.recover_run.specs.Recovery.{Recovery}
use Rattle.recover_run.specs.Stepped.{Stepped as StepsRecovery}
use Rattle.commit_run.specs.Run.{Run}
use Rattle.commit_run.specs.Stepped.{Stepped as StepsRun}
use Rattle.page_ckpt.specs.Paging.{Paging as Page}
use Rattle.page_ckpt.specs.Stepped.{Stepped as StepsPage}
use Rattle.tree_ckpt.specs.Making.{Making}
use Rattle.tree_ckpt.specs.Stepped.{Stepped as StepsMaking}
use Rattle.settle_run.specs.declared.settled.Settled.{Settled}
use Rattle.settle_run.specs.Settling.{Settling as SettlingState}
use Rattle.settle_run.specs.Meaning.{Stepped as SettlingStepped}
use Rattle.settle_run.proofs.Meaning.{own_calls}
use Rattle.orphan_sweep.specs.declared.swept.Swept.{Swept}
use Rattle.orphan_sweep.specs.Stepped.{Stepped as SweepStepped}
use Rattle.orphan_sweep.specs.Sweeping.{Sweeping as SweepingState}
use Rattle.client_work.specs.declared.answer.Answer.{Answer}
use Rattle.client_work.specs.declared.answer.Answer.TheVariants as answer
use Rattle.client_work.specs.declared.listing.Listing.{Listing}
use Rattle.client_work.specs.declared.shown.Shown.{Shown}
use Rattle.client_work.specs.declared.work.Work.{Work}
use Rattle.client_work.specs.declared.work.Work.TheVariants.{Closed, Idle, Opening, Committing, Reading, Scanning, Looking, Paging, Folding, Closing, Renewing, Settling, Sweeping, Broken}
use Rattle.client_work.specs.Causes.{OpeningBy, CommitBy, ScanAnswers, PagingBy, FoldingBy, MachineSteps, HasCome, OpeningCauses, CommitCauses, ReadingCauses, LookingCauses, PagingCauses, FoldingCauses, SettlingCauses, SweepingCauses, CausesAt}
use Rattle.client_work.specs.Session.{StepsAt, ShowsAt, ReadsBy, LooksBy, StepsScanning, StepsSettling, StepsSweeping, Follows, ListsLeaf, StepsClosing, StepsRenewing, acting_of, in_hand}
use Rattle.client_work.specs.Shows.{IsUnderWay, IsKnown, own_of}

-- ---- a step that is more than it was said to be

opening_by : (P Q : Recovery → Turn RecoverAnswer → Type 0) (left : Work) (turn : Turn Answer) → ((m : Recovery) (t : Turn RecoverAnswer) → P m t → Q m t)
    → OpeningBy P left turn → OpeningBy Q left turn
opening_by P Q left More on (m, p, is) = (m, on m More p, is)
opening_by P Q left (Ended (answer.Opened epoch)) on (m, p) = (m, on m _ p)
opening_by P Q left (Ended (answer.Trouble t)) on (m, p) = (m, on m (Stopped t) p)
opening_by P Q left turn on never = absurd never

commit_by : (P Q : Run → Turn CommitAnswer → Type 0) (left : Work) (turn : Turn Answer) → ((m : Run) (t : Turn CommitAnswer) → P m t → Q m t)
    → CommitBy P left turn → CommitBy Q left turn
commit_by P Q left More on (m, p, is) = (m, on m More p, is)
commit_by P Q left (Ended (answer.Commit a)) on (m, p) = (m, on m (Ended a) p)
commit_by P Q left (Ended (answer.Trouble t)) on (m, p) = (m, on m (Stopped t) p)
commit_by P Q left turn on never = absurd never

paging_by : (home : Home) (P Q : Page → Turn CkptAnswer → Type 0) (left : Work) (turn : Turn Answer) → ((m : Page) (t : Turn CkptAnswer) → P m t → Q m t)
    → PagingBy home P left turn → PagingBy home Q left turn
paging_by home P Q left More on (m, p, is) = (m, on m More p, is)
paging_by home P Q left (Ended (answer.Done a)) on (m, p) = (m, on m (Ended a) p)
paging_by home P Q left (Ended (answer.Trouble t)) on (m, p) = (m, on m (Stopped t) p)
paging_by home P Q left turn on never = absurd never

folding_by : (home : Home) (P Q : Making → Turn CkptAnswer → Type 0) (left : Work) (turn : Turn Answer) → ((m : Making) (t : Turn CkptAnswer) → P m t → Q m t)
    → FoldingBy home P left turn → FoldingBy home Q left turn
folding_by home P Q left More on (m, p, is) = (m, on m More p, is)
folding_by home P Q left (Ended (answer.Done a)) on (m, p) = (m, on m (Ended a) p)
folding_by home P Q left (Ended (answer.Trouble t)) on (m, p) = (m, on m (Stopped t) p)
folding_by home P Q left turn on never = absurd never

-- ---- each machine

module _ (who : Caller) (before after : Seen) (buffer : List Noted) (c d : Cache) where
  opening_causes : (m : Recovery) (left : Work) (turn : Turn Answer) → HasCome (Opening m) c → MachineSteps who before after (Opening m, c) (left, d) turn
      → CausesAt who before after (Opening m, c) (left, d) turn
  opening_causes m left turn (client, former, h, went, is) steps = opening_by (StepsRecovery who before after m) (OpeningCauses who before after m) left turn on steps where
    on : (n : Recovery) (t : Turn RecoverAnswer) → StepsRecovery who before after m n t → OpeningCauses who before after m n t
    on n t stepped = record { client = client; former = former; earlier = h; went = went; stepped = stepped; means = stepped.means client aim.Opening former h went }

  commit_causes : (m : Run) (left : Work) (turn : Turn Answer) → HasCome (Committing m) c → MachineSteps who before after (Committing m, c) (left, d) turn
      → CausesAt who before after (Committing m, c) (left, d) turn
  commit_causes m left turn (home, changes, first, h, some, went, is) steps =
      commit_by (λ n. StepsRun who before after (m, c) (n, d)) (λ n. CommitCauses who before after (m, c) (n, d)) left turn on steps
    where
      on : (n : Run) (t : Turn CommitAnswer) → StepsRun who before after (m, c) (n, d) t → CommitCauses who before after (m, c) (n, d) t
      on n t stepped =
          record { home = home; changes = changes; first = first; earlier = h; some = some; went = went; stepped = stepped; whole = stepped.whole home changes first h went }

  reading_causes : (home : Home) (m : Walk) (left : Work) (shown : Shown) (turn : Turn Answer) → HasCome (Reading home m) c → ReadsBy who before after (in_hand home m c) (acting_of buffer left d shown) turn
      → CausesAt who before after (Reading home m, c) (left, d) turn
  reading_causes home m left shown turn (start, h, begun, walked) reads = by turn reads where
    on : (n : Walk) (t : Turn ℕ) → StepsWalk who before after (m, c) (n, d) t → ReadingCauses who before after (m, c) (n, d) t
    on n t stepped = record { start = start; earlier = h; begun = begun; walked = walked; stepped = stepped; led = stepped.led start begun h walked }

    by : (turn : Turn Answer) → ReadsBy who before after (in_hand home m c) (acting_of buffer left d shown) turn → CausesAt who before after (Reading home m, c) (left, d) turn
    by More (n, stepped, is, none) = (n, on n More stepped, is)
    by (Ended answer.Value) (n, page, stepped, at, is, some) = (n, page, on n (Ended page) stepped)
    by (Ended (answer.Trouble t)) (n, stepped, is, none) = (n, on n (Stopped t) stepped)
    by turn never = absurd never

  -- a scan goes on by what its turn came to
  lists_answer : (home : Home) (m : Listing) (page : ℕ) (left : Work) (shown : Shown) (turn : Turn Answer) → ListsLeaf home m (acting_of buffer left d shown) turn → ScanAnswers (Ended page) turn
  lists_answer home m page left shown More lists = inl refl
  lists_answer home m page left shown (Ended answer.Scan) lists = inr (inl refl)
  lists_answer home m page left shown (Ended (answer.Trouble t)) (memory, is, none) =
      subst (λ (k : Trouble). ScanAnswers (Ended page) (Ended (answer.Trouble k))) (sym memory) (inr (inr refl))
  lists_answer home m page left shown turn never = absurd never

  follows_answer : (home : Home) (m : Listing) (moved : Turn ℕ) (left : Work) (shown : Shown) (turn : Turn Answer) → Follows home m moved (acting_of buffer left d shown) turn → ScanAnswers moved turn
  follows_answer home m More left shown turn (is, none, more) = more
  follows_answer home m (Ended page) left shown turn lists = lists_answer home m page left shown turn lists
  follows_answer home m (Stopped t) left shown turn (is, none, stopped) = stopped

  scanning_causes : (noted : List Noted) (home : Home) (m : Listing) (left : Work) (shown : Shown) (turn : Turn Answer) → IsUnderWay home noted m c
      → StepsScanning who before after (in_hand home m c) (acting_of buffer left d shown) turn → CausesAt who before after (Scanning home m, c) (left, d) turn
  scanning_causes noted home m left shown turn way p = (
    p.scan,
    p.moved,
    record { moves = way.moves; came = way.came; stepped = p.steps; meant = p.steps.meant (range_of m.scan) way.moves way.came },
    follows_answer home (record { scan = p.scan; pairs = m.pairs }) p.moved left shown turn p.follows,
  )

  looking_causes : (home : Home) (m : Look) (left : Work) (shown : Shown) (turn : Turn Answer) → HasCome (Looking home m) c
      → LooksBy who before after (in_hand home m c) (acting_of buffer left d shown) turn → CausesAt who before after (Looking home m, c) (left, d) turn
  looking_causes home m left shown turn (start, h, begun, walked) looks = by turn looks where
    on : (n : Look) (t : Turn (Unit {0})) → StepsLook (own_of home buffer) (occasion_of who before after) (m, c) (n, d) t → LookingCauses who before after (m, c) (n, d) t
    on n t stepped =
        record { start = start; earlier = h; begun = begun; walked = walked; own = own_of home buffer; stepped = stepped; led = stepped.walked.led start begun h walked }

    by : (turn : Turn Answer) → LooksBy who before after (in_hand home m c) (acting_of buffer left d shown) turn → CausesAt who before after (Looking home m, c) (left, d) turn
    by More (n, stepped, is, none, less) = (n, on n More stepped, is)
    by (Ended answer.Scan) (n, stepped, is, some) = (n, on n (Ended tt) stepped)
    by (Ended (answer.Trouble t)) (n, stepped, is, none) = (n, on n (Stopped t) stepped)
    by turn never = absurd never

  paging_causes : (home : Home) (m : Page) (left : Work) (turn : Turn Answer) → HasCome (Paging home m) c → MachineSteps who before after (Paging home m, c) (left, d) turn
      → CausesAt who before after (Paging home m, c) (left, d) turn
  paging_causes home m left turn (h, went, is) steps = paging_by home (StepsPage who before after m) (PagingCauses who before after m) left turn on steps where
    on : (n : Page) (t : Turn CkptAnswer) → StepsPage who before after m n t → PagingCauses who before after m n t
    on n t stepped = record { earlier = h; went = went; stepped = stepped; means = stepped.means h went }

  folding_causes : (home : Home) (m : Making) (left : Work) (turn : Turn Answer) → HasCome (Folding home m) c → MachineSteps who before after (Folding home m, c) (left, d) turn
      → CausesAt who before after (Folding home m, c) (left, d) turn
  folding_causes home m left turn (h, went, is) steps = folding_by home (StepsMaking who before after m) (FoldingCauses who before after m) left turn on steps where
    on : (n : Making) (t : Turn CkptAnswer) → StepsMaking who before after m n t → FoldingCauses who before after m n t
    on n t stepped = record { earlier = h; went = went; stepped = stepped; means = stepped.means h went }

  settling_causes : (m : SettlingState) (left : Work) (turn : Turn Answer) → HasCome (Settling m) c → StepsSettling who before after m left turn
      → CausesAt who before after (Settling m, c) (left, d) turn
  settling_causes m left turn (h, went, is) steps = by turn steps where
    on : (n : SettlingState) (t : Turn Settled) → SettlingStepped who before after m n t → SettlingCauses who before after m n t
    on n t stepped = let own = own_calls h m went in record { earlier = h; went = went; own = own.0; part_went = own.1; stepped = stepped }

    by : (turn : Turn Answer) → StepsSettling who before after m left turn → CausesAt who before after (Settling m, c) (left, d) turn
    by More (n, stepped, is, less) = (n, on n More stepped, is)
    by (Ended (answer.Settled a)) (n, stepped, is) = (n, on n (Ended a) stepped)
    by (Ended (answer.Trouble t)) (n, stepped, is) = (n, on n (Stopped t) stepped)
    by turn never = absurd never

  sweeping_causes : (m : SweepingState) (left : Work) (turn : Turn Answer) → HasCome (Sweeping m) c → StepsSweeping who before after m left turn
      → CausesAt who before after (Sweeping m, c) (left, d) turn
  sweeping_causes m left turn (h, went, is) steps = by turn steps where
    on : (n : SweepingState) (t : Turn Swept) → SweepStepped who before after m n t → SweepingCauses who before after m n t
    on n t stepped = record { earlier = h; went = went; stepped = stepped }

    by : (turn : Turn Answer) → StepsSweeping who before after m left turn → CausesAt who before after (Sweeping m, c) (left, d) turn
    by More (n, stepped, is, less) = (n, on n More stepped, is)
    by (Ended (answer.Swept x)) (n, stepped, is) = (n, on n (Ended x) stepped)
    by (Ended (answer.Trouble t)) (n, stepped, is) = (n, on n (Stopped t) stepped)
    by turn never = absurd never

  trouble_is : (k t : Trouble) → ◌≡◌ {A = Turn Answer} (Ended (answer.Trouble k)) (Ended (answer.Trouble t)) → k ≡ t
  trouble_is k t e = cc

  closing_causes : (lease : Claim) (left : Work) (turn : Turn Answer) → StepsClosing lease who before after left turn → CausesAt who before after (Closing lease, c) (left, d) turn
  closing_causes lease left (Ended answer.Closed) (back, is) = record { heard = back.answer; made = back.made; shows = λ t e. absurd (cc (e)) }
  closing_causes lease left (Ended (answer.Trouble k)) (back, is) =
      record { heard = back.answer; made = back.made; shows = λ t e. subst (λ (j : Trouble). done_of back.answer ≡ Err j) (trouble_is k t e) back.took }
  closing_causes lease left turn never = absurd never

  renewing_causes : (home : Home) (left : Work) (turn : Turn Answer) → StepsRenewing home who before after left turn → CausesAt who before after (Renewing home, c) (left, d) turn
  renewing_causes home left (Ended (answer.Renewed end)) (new, back, is) = record { heard = back.answer; made = back.made; shows = λ t e. absurd (cc (e)) }
  renewing_causes home left (Ended (answer.Trouble k)) (new, back, is) =
      record { heard = back.answer; made = back.made; shows = λ t e. subst (λ (j : Trouble). renewed_of back.answer ≡ Err j) (trouble_is k t e) back.took }
  renewing_causes home left turn never = absurd never

  -- ---- every one

  pub step_causes : (noted : List Noted) (was left : Work) (shown : Shown) (turn : Turn Answer) → IsKnown noted was c → HasCome was c → StepsAt who before after was left turn
      → ShowsAt who before after (was, c) (acting_of buffer left d shown) turn → MachineSteps who before after (was, c) (left, d) turn → CausesAt who before after (was, c) (left, d) turn
  step_causes noted (Opening m) left shown turn known came steps shows machine = opening_causes m left turn came machine
  step_causes noted (Committing m) left shown turn known came steps shows machine = commit_causes m left turn came machine
  step_causes noted (Reading home m) left shown turn known came steps shows machine = reading_causes home m left shown turn came shows
  step_causes noted (Scanning home m) left shown turn known came steps shows machine = scanning_causes noted home m left shown turn known shows
  step_causes noted (Looking home m) left shown turn known came steps shows machine = looking_causes home m left shown turn came shows
  step_causes noted (Paging home m) left shown turn known came steps shows machine = paging_causes home m left turn came machine
  step_causes noted (Folding home m) left shown turn known came steps shows machine = folding_causes home m left turn came machine
  step_causes noted (Closing lease) left shown turn known came steps shows machine = closing_causes lease left turn steps
  step_causes noted (Renewing home) left shown turn known came steps shows machine = renewing_causes home left turn steps
  step_causes noted (Settling m) left shown turn known came steps shows machine = settling_causes m left turn came steps.1
  step_causes noted (Sweeping m) left shown turn known came steps shows machine = sweeping_causes m left turn came steps
  step_causes noted Closed left shown turn known came steps shows machine = absurd steps
  step_causes noted (Idle home) left shown turn known came steps shows machine = absurd steps
  step_causes noted (Broken lease) left shown turn known came steps shows machine = absurd steps
