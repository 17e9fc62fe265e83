-- What begins is not behind the put of an open head.
use Rattle.std.proofs.Common.{◌≡◌, ℕ, List, [], Option, Result, Ok, Err, refl, ap, subst, ◌⊎◌, inl, inr}
use Rattle.client_work.specs.Session.{Acting, Begins, BeginsWith, CommitsNoted, CommitsOf, Follows, HasInHand, acting_of, folding_begun_by, paging_begun_by, stopped_work}
use Rattle.client_work.specs.declared.answer.Answer.{Answer}
use Rattle.client_work.specs.declared.answer.Answer.TheVariants as answer
use Rattle.client_work.specs.declared.answer.Begun.{Begun}
use Rattle.client_work.specs.declared.answer.Begun.TheVariants.{Working, Answered}
use Rattle.client_work.specs.declared.listing.Listing.{Listing}
use Rattle.client_work.specs.declared.op.Op.{Op}
use Rattle.client_work.specs.declared.op.Op.TheVariants as op
use Rattle.client_work.specs.declared.shown.Shown.{Shown}
use Rattle.client_work.specs.declared.work.Work.{Work}
use Rattle.client_work.specs.declared.work.Work.TheVariants as work
use Rattle.cloud_facts.specs.Words.{Trouble, Turn, More, Ended, Stopped}
use Rattle.db_base.specs.declared.refusal.Refusal.{Refusal}
use Rattle.db_base.specs.declared.refusal.Refused.{Refused}
use Rattle.db_base.specs.declared.refusal.Refused.TheVariants as refused
use Rattle.db_base.specs.declared.trouble.Trouble.TheVariants as trouble
use Rattle.page_cache.specs.Cache.{Cache}
use Rattle.recover_run.specs.declared.home.Home.{Home as Held}
use Rattle.session_facts.proofs.Sessions.Landed.{IsBehind, NotBehind, run_before}
use Rattle.txn_buffer.specs.Noted.{Noted}

-- what begins is not behind the put of an open head; one that is refused leaves what was at work
module _ (a b : Acting) where
  abbrev pub BeginsBefore : Result Begun Refused → Type 0
  BeginsBefore begun = ((rule : Refusal) × (begun ≡ Err (refused.Rule rule)) × (b ≡ a)) ⊎ (IsBehind b.work → ⊥)

  is_before : (w : Work) → b.work ≡ w → (IsBehind w → ⊥) → IsBehind b.work → ⊥
  is_before w e never behind = never (subst IsBehind e behind)

  stopped_before : (why : Trouble) (home : Held) → b.work ≡ stopped_work why home → IsBehind b.work → ⊥
  stopped_before why home e = is_before (stopped_work why home) e (on why)
    where
      on : (k : Trouble) → IsBehind (stopped_work k home) → ⊥
      on trouble.Memory behind = behind
      on k behind = behind

  refuses : (rule : Refusal) → b ≡ a → BeginsBefore (Err (refused.Rule rule))
  refuses rule e = inl (rule, refl, e)

  hand_begins : (own : Held → Work) (begun : Result Begun Refused) → ((home : Held) → IsBehind (own home) → ⊥) → BeginsWith (λ home. HasInHand a (own home)) a b begun → BeginsBefore begun
  hand_begins own (Ok begun) never p = inr (is_before (own p.0) (ap (λ (x : Acting). x.work) p.2.1) (never p.0))
  hand_begins own (Err (refused.Rule rule)) never p = refuses rule p.1
  hand_begins own (Err refused.Memory) never p = absurd p

  open_begins : (client : ℕ) (begun : Result Begun Refused) → Begins (op.Open client) a b begun → BeginsBefore begun
  open_begins client (Ok Working) p = inr (is_before _ (ap (λ (x : Acting). x.work) p.1) (λ behind. behind))
  open_begins client (Ok (Answered x)) p = absurd p
  open_begins client (Err (refused.Rule rule)) p = refuses rule p.1
  open_begins client (Err refused.Memory) p = absurd p

  commits_before : (home : Held) (buffer : List Noted) (c d : Cache) (begun : Begun) → CommitsOf home buffer c d b.work begun → IsBehind b.work → ⊥
  commits_before home buffer c d Working p = is_before (work.Committing p.0) p.2 (subst NotBehind p.1 (run_before home buffer c))
  commits_before home buffer c d (Answered (answer.Commit x)) p = is_before (work.Idle _) p.2 (λ behind. behind)
  commits_before home buffer c d (Answered (answer.Trouble k)) p = is_before (work.Broken home.lease) p.1 (λ behind. behind)
  commits_before home buffer c d (Answered x) p = absurd p

  commit_begins : (begun : Result Begun Refused) → Begins op.Commit a b begun → BeginsBefore begun
  commit_begins (Ok begun) p = inr (on p.2.1)
    where
      on : CommitsNoted p.0 a.buffer a.cache b.cache b.work begun → IsBehind b.work → ⊥
      on (inl nothing) = is_before (work.Idle p.0) nothing.work_is (λ behind. behind)
      on (inr some) = commits_before p.0 a.buffer a.cache b.cache begun some.1
  commit_begins (Err (refused.Rule rule)) p = refuses rule p.1
  commit_begins (Err refused.Memory) p = absurd p

  read_begins : (tree : ℕ) (key : List ℕ) (begun : Result Begun Refused) → Begins (op.Read tree key) a b begun → BeginsBefore begun
  read_begins tree key (Ok Working) p = inr (is_before (work.Reading p.0 p.2.1.0) p.2.1.2 (λ behind. behind))
  read_begins tree key (Ok (Answered answer.Value)) p = inr (is_before (work.Idle p.0) p.2.1.3 (λ behind. behind))
  read_begins tree key (Ok (Answered (answer.Trouble k))) p = inr (stopped_before k p.0 p.2.1.2)
  read_begins tree key (Ok (Answered x)) p = absurd p.2.1
  read_begins tree key (Err (refused.Rule rule)) p = refuses rule p.1
  read_begins tree key (Err refused.Memory) p = absurd p

  follows_before : (home : Held) (buffer : List Noted) (m : Listing) (c : Cache) (moved : Turn ℕ) (shown : Shown) (turn : Turn Answer)
      → Follows home m moved (acting_of buffer b.work c shown) turn → IsBehind b.work → ⊥
  follows_before home buffer m c More shown turn f = is_before (work.Scanning home m) f.0 (λ behind. behind)
  follows_before home buffer m c (Ended page) shown More f = is_before (work.Scanning home _) f.3 (λ behind. behind)
  follows_before home buffer m c (Ended page) shown (Ended answer.Scan) f = is_before (work.Idle home) f.3 (λ behind. behind)
  follows_before home buffer m c (Ended page) shown (Ended (answer.Trouble k)) f = is_before (work.Broken home.lease) f.1 (λ behind. behind)
  follows_before home buffer m c (Ended page) shown turn f = absurd f
  follows_before home buffer m c (Stopped k) shown turn f = stopped_before k home f.0

  scan_begins : (tree : ℕ) (from to : Option (List ℕ)) (begun : Result Begun Refused) → Begins (op.Scan tree from to) a b begun → BeginsBefore begun
  scan_begins tree from to (Ok begun) p = let f = p.2.1 in inr (follows_before p.0 a.buffer (record { scan = f.scan; pairs = [] }) b.cache f.moved b.shown f.turn f.follows)
  scan_begins tree from to (Err (refused.Rule rule)) p = refuses rule p.1
  scan_begins tree from to (Err refused.Memory) p = absurd p

  look_begins : (tree : ℕ) (attr : List ℕ) (begun : Result Begun Refused) → Begins (op.Lookup tree attr) a b begun → BeginsBefore begun
  look_begins tree attr (Ok Working) (few, (home, idle, does)) = inr (is_before (work.Looking home does.1.0) does.1.2 (λ behind. behind))
  look_begins tree attr (Ok (Answered (answer.Trouble k))) (few, (home, idle, does)) = inr (stopped_before k home does.1.1)
  look_begins tree attr (Ok (Answered x)) (few, (home, idle, does)) = absurd does.1
  look_begins tree attr (Err (refused.Rule rule)) (inl (bad, above, same)) = refuses rule same
  look_begins tree attr (Err (refused.Rule rule)) (inr (few, (why, same))) = refuses rule same
  look_begins tree attr (Err refused.Memory) (inl (bad, above, same)) = absurd (cc (bad))
  look_begins tree attr (Err refused.Memory) (inr (few, never)) = absurd never

  pub begins_before : (o : Op) (begun : Result Begun Refused) → Begins o a b begun → BeginsBefore begun
  begins_before (op.Open client) begun p = open_begins client begun p
  begins_before op.Close begun p = hand_begins (λ home. work.Closing home.lease) begun (λ home behind. behind) p
  begins_before op.Renew begun p = hand_begins (λ home. work.Renewing home) begun (λ home behind. behind) p
  begins_before op.Commit begun p = commit_begins begun p
  begins_before (op.Read tree key) begun p = read_begins tree key begun p
  begins_before (op.Scan tree from to) begun p = scan_begins tree from to begun p
  begins_before (op.Lookup tree attr) begun p = look_begins tree attr begun p
  begins_before (op.Page tree page) begun p = hand_begins (paging_begun_by tree page) begun (λ home behind. behind) p
  begins_before (op.Tree tree) begun p = hand_begins (folding_begun_by tree) begun (λ home behind. behind) p

  -- so a call is in hand of nothing that is
  pub working_before : (o : Op) → Begins o a b (Ok Working) → IsBehind b.work → ⊥
  working_before o p behind = on (begins_before o (Ok Working) p)
    where
      on : BeginsBefore (Ok Working) → ⊥
      on (inl (rule, never, same)) = absurd (cc (never))
      on (inr before) = before behind
