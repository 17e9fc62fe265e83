-- Nothing but the calls of a commit leads to one whose transaction is open.
use Rattle.std.proofs.Common.{◌≡◌, inl, inr, ℕ, false, List, [], Option, Some, None, Ok, sym, subst}
use Rattle.client_work.specs.Session.{Acting, Begins, BeginsOpening, CommitsNoted, CommitsOf, Follows, HasInHand, ListsLeaf, LooksOf, ReadsOf, folding_begun_by, paging_begun_by, stopped_work, opened_work}
use Rattle.client_work.specs.declared.answer.Answer.{Answer}
use Rattle.client_work.specs.declared.answer.Answer.TheVariants as answer
use Rattle.client_work.specs.declared.answer.Begun.{Begun}
use Rattle.client_work.specs.declared.answer.Begun.TheVariants.{Working, Answered}
use Rattle.client_work.specs.declared.listing.Listing.{Listing}
use Rattle.client_work.specs.declared.op.Op.{Op}
use Rattle.client_work.specs.declared.op.Op.TheVariants as op
use Rattle.client_work.specs.declared.work.Work.{Work}
use Rattle.client_work.specs.declared.work.Work.TheVariants.{Closed, Idle, Opening, Committing, Reading, Scanning, Looking, Folding, Paging, Closing, Renewing, Settling, Sweeping, Broken}
use Rattle.cloud_facts.specs.Words.{Answer as Reply, Trouble, Turn, More, Ended, Stopped}
use Rattle.db_base.specs.declared.trouble.Trouble.TheVariants as trouble
use Rattle.fleet.proofs.Opened.{IsOpen, begins_walked}
use Rattle.page_cache.specs.Cache.{Cache}
use Rattle.recover_run.specs.declared.home.Home.{Home}
use Rattle.session_facts.specs.Sessions.Led.{LedTo}
use Rattle.tree_walk.specs.Walk.{new_walk}
use Rattle.txn_buffer.specs.Noted.{Noted}

-- what is at work is no commit whose transaction is open
abbrev pub IsNoneOpen : Work → Type 0
IsNoneOpen (Committing m) = IsOpen m → ⊥
IsNoneOpen w = Unit {0}

-- .. and no commit at all
abbrev pub IsNoCommit : Work → Type 0
IsNoCommit (Committing m) = ⊥
IsNoCommit w = Unit {0}

none_at : (w v : Work) → w ≡ v → IsNoneOpen v → IsNoneOpen w
none_at w v is = subst IsNoneOpen (sym is)

stopped_none : (t : Trouble) (home : Home) → IsNoneOpen (stopped_work t home)
stopped_none trouble.Memory home = tt
stopped_none t home = tt

opened_none : (home : Option Home) → IsNoneOpen (opened_work home)
opened_none (Some home) = tt
opened_none None = tt

-- ---- a scan, begun or gone on

lists_none : (home : Home) (m : Listing) (new : Acting) (turn : Turn Answer) → ListsLeaf home m new turn → IsNoneOpen new.work
lists_none home m new More (all, listed, goes, is, none) = none_at new.work _ is tt
lists_none home m new (Ended answer.Scan) (all, listed, over, is, some) = none_at new.work _ is tt
lists_none home m new (Ended (answer.Trouble t)) (memory, is, none) = none_at new.work _ is tt
lists_none home m new turn never = absurd never

follows_none : (home : Home) (m : Listing) (moved : Turn ℕ) (new : Acting) (turn : Turn Answer) → Follows home m moved new turn → IsNoneOpen new.work
follows_none home m More new turn f = none_at new.work _ f.0 tt
follows_none home m (Ended page) new turn f = lists_none home m new turn f
follows_none home m (Stopped t) new turn f = none_at new.work (stopped_work t home) f.0 (stopped_none t home)

-- ---- a begin

module _ (old new : Acting) (begun : Begun) where
  commits_none : (home : Home) (changes : List Noted) (b : Begun) → CommitsOf home changes old.cache new.cache new.work b → IsNoneOpen new.work
  commits_none home changes Working (m, ready, is) = none_at new.work (Committing m) is (begins_walked home changes old.cache (m, new.cache) ready)
  commits_none home changes (Answered (answer.Commit a)) (m, ready, is) = none_at new.work _ is tt
  commits_none home changes (Answered (answer.Trouble t)) (memory, is) = none_at new.work _ is tt
  commits_none home changes (Answered a) never = absurd never

  noted_none : (home : Home) → CommitsNoted home old.buffer old.cache new.cache new.work begun → IsNoneOpen new.work
  noted_none home (inl nothing) = none_at new.work (Idle home) nothing.work_is tt
  noted_none home (inr (some, commits)) = commits_none home old.buffer begun commits

  reads_none : (tree : ℕ) (key : List ℕ) (home : Home) (b : Begun) → ReadsOf home (new_walk tree (Some key) false, old.cache) (new.work, new.cache) new.shown b → IsNoneOpen new.work
  reads_none tree key home Working (m, ready, is, none) = none_at new.work _ is tt
  reads_none tree key home (Answered answer.Value) (m, page, ready, is, some) = none_at new.work _ is tt
  reads_none tree key home (Answered (answer.Trouble t)) (m, ready, is, none) = none_at new.work (stopped_work t home) is (stopped_none t home)
  reads_none tree key home (Answered a) never = absurd never

  looks_none : (tree : ℕ) (attr : List ℕ) (home : Home) (b : Begun) → LooksOf home (record { tree = tree; attr = attr }) old.cache (new.work, new.cache) new.shown b → IsNoneOpen new.work
  looks_none tree attr home Working (m, ready, is, none) = none_at new.work _ is tt
  looks_none tree attr home (Answered (answer.Trouble t)) (stops, is, none) = none_at new.work (stopped_work t home) is (stopped_none t home)
  looks_none tree attr home (Answered a) never = absurd never

  opening_none : (client : ℕ) (b : Begun) → BeginsOpening client old new (Ok b) → IsNoneOpen new.work
  opening_none client Working (closed, is) = subst (λ (s : Acting). IsNoneOpen s.work) (sym is) tt
  opening_none client (Answered a) never = absurd never

  in_hand_none : (w : Work) → IsNoneOpen w → HasInHand old w new begun → IsNoneOpen new.work
  in_hand_none w none (working, is) = subst (λ (s : Acting). IsNoneOpen s.work) (sym is) none

  pub begun_none : (o : Op) → Begins o old new (Ok begun) → IsNoneOpen new.work
  begun_none (op.Open client) b = opening_none client begun b
  begun_none op.Close (home, idle, does) = in_hand_none (Closing home.lease) tt does
  begun_none op.Renew (home, idle, does) = in_hand_none (Renewing home) tt does
  begun_none op.Commit (home, idle, does) = noted_none home does.1
  begun_none (op.Read tree key) (home, idle, does) = reads_none tree key home begun does.1
  begun_none (op.Scan tree from to) (home, idle, does) =
      follows_none home (record { scan = does.1.scan; pairs = [] }) does.1.moved (record new { buffer = old.buffer }) does.1.turn does.1.follows
  begun_none (op.Lookup tree attr) (few, (home, idle, does)) = looks_none tree attr home begun does.1
  begun_none (op.Page tree page) (home, idle, does) = in_hand_none (paging_begun_by tree page home) tt does
  begun_none (op.Tree tree) (home, idle, does) = in_hand_none (folding_begun_by tree home) tt does

-- ---- a call

pub led_none : (w : Work) (c : Cache) (a : Reply) (new : Acting) (turn : Turn Answer) → IsNoCommit w → LedTo (w, c) a new turn → IsNoneOpen new.work
led_none (Opening m) c a new More other led = none_at new.work _ led.0.2 tt
led_none (Opening m) c a new (Ended (answer.Opened epoch)) other led = none_at new.work _ led.0.2 (opened_none _)
led_none (Opening m) c a new (Ended (answer.Trouble k)) other led = none_at new.work _ led.0.2 tt
led_none (Opening m) c a new turn other led = absurd led.0
led_none (Reading home m) c a new More other led = none_at new.work _ led.2 tt
led_none (Reading home m) c a new (Ended answer.Value) other led = none_at new.work _ led.3 tt
led_none (Reading home m) c a new (Ended (answer.Trouble k)) other led = none_at new.work (stopped_work k home) led.2 (stopped_none k home)
led_none (Reading home m) c a new turn other led = absurd led
led_none (Scanning home m) c a new turn other led = follows_none home (record { scan = led.scan; pairs = m.pairs }) led.moved new turn led.follows
led_none (Looking home m) c a new More other led = none_at new.work _ led.2 tt
led_none (Looking home m) c a new (Ended answer.Scan) other led = none_at new.work _ led.2 tt
led_none (Looking home m) c a new (Ended (answer.Trouble k)) other led = none_at new.work (stopped_work k home) led.2 (stopped_none k home)
led_none (Looking home m) c a new turn other led = absurd led
led_none (Paging home m) c a new More other led = none_at new.work _ led.0.2 tt
led_none (Paging home m) c a new (Ended (answer.Done n)) other led = none_at new.work _ led.0.2 tt
led_none (Paging home m) c a new (Ended (answer.Trouble k)) other led = none_at new.work (stopped_work k home) led.0.2 (stopped_none k home)
led_none (Paging home m) c a new turn other led = absurd led.0
led_none (Folding home m) c a new More other led = none_at new.work _ led.0.2 tt
led_none (Folding home m) c a new (Ended (answer.Done n)) other led = none_at new.work _ led.0.2 tt
led_none (Folding home m) c a new (Ended (answer.Trouble k)) other led = none_at new.work (stopped_work k home) led.0.2 (stopped_none k home)
led_none (Folding home m) c a new turn other led = absurd led.0
led_none (Closing lease) c a new (Ended answer.Closed) other led = none_at new.work _ led.0.1 tt
led_none (Closing lease) c a new (Ended (answer.Trouble k)) other led = none_at new.work _ led.0.1 tt
led_none (Closing lease) c a new turn other led = absurd led.0
led_none (Renewing home) c a new (Ended (answer.Renewed end)) other led = none_at new.work _ led.0.2 tt
led_none (Renewing home) c a new (Ended (answer.Trouble k)) other led = none_at new.work (stopped_work k (record home { lease = led.0.0 })) led.0.2 (stopped_none k (record home { lease = led.0.0 }))
led_none (Renewing home) c a new turn other led = absurd led.0
led_none (Settling m) c a new More other led = none_at new.work _ led.0.2 tt
led_none (Settling m) c a new (Ended (answer.Settled n)) other led = none_at new.work _ led.0.2 tt
led_none (Settling m) c a new (Ended (answer.Trouble k)) other led = none_at new.work _ led.0.2 tt
led_none (Settling m) c a new turn other led = absurd led.0
led_none (Sweeping m) c a new More other led = none_at new.work _ led.0.2 tt
led_none (Sweeping m) c a new (Ended (answer.Swept x)) other led = none_at new.work _ led.0.2 tt
led_none (Sweeping m) c a new (Ended (answer.Trouble k)) other led = none_at new.work _ led.0.2 tt
led_none (Sweeping m) c a new turn other led = absurd led.0
led_none Closed c a new turn other led = absurd led
led_none (Idle home) c a new turn other led = absurd led
led_none (Broken lease) c a new turn other led = absurd led
led_none (Committing m) c a new turn other led = absurd other
