-- A step of a session shows what its operation read, and a scan or a look-up in hand is under way behind it.
use Rattle.std.proofs.Common.{◌≡◌, inl, inr, ℕ, Bool, true, false, List, [], ◌∷◌, ◌++◌, Option, Some, None, Ok, refl, ap, sym, subst, ◌∙◌}
use Rattle.std.specs.Prelude.{map, if◌then◌else◌, unwrap_or}
use Rattle.std.specs.List.{AllByRecursion}
use Rattle.db_base.specs.declared.names.ObjName.TheVariants as object
use Rattle.db_base.specs.declared.pair.Pair.{Pair}
use Rattle.db_base.specs.Value.{Value}
use Rattle.db_base.specs.declared.trouble.Trouble.{Trouble}
use Rattle.db_base.specs.declared.trouble.Trouble.TheVariants as trouble
use Rattle.db_base.specs.declared.trouble.CommitAnswer.{CommitAnswer}
use Rattle.db_base.specs.declared.trouble.CommitAnswer.TheVariants.{Committed, NotCommitted, InDoubt, CommittedOpen}
use Rattle.leaf_view.specs.Leaf.{Entry, Leaf}
use Rattle.leaf_view.specs.Lookup.{holds}
use Rattle.route_plan.specs.Seen.{seen}
use Rattle.txn_buffer.specs.Noted.{Noted}
use Rattle.cloud_trait.specs.declared.turn.Turn.{Turn}
use Rattle.cloud_trait.specs.declared.turn.Turn.TheVariants.{More, Ended, Stopped}
use Rattle.cloud_trait.specs.Ask.{Get}
use Rattle.cloud_trait.specs.Caller.{Caller}
use Rattle.cloud_trait.specs.Machine.{Deed, occasion_of}
use Rattle.cloud_trait.specs.Seen.{Seen}
use Rattle.page_cache.specs.Cache.{Cache}
use Rattle.page_cache.specs.Held.{leaf_at, as_leaf}
use Rattle.tree_walk.specs.Moves.{Moves}
use Rattle.tree_walk.specs.Walk.{Walk, new_walk, sought, object_of, IsAtLeaf, HasAim}
use Rattle.tree_walk.specs.Stepped.{Stepped as StepsWalk}
use Rattle.range_scan.specs.Scan.{Scan, scan_object, scan_ready, goes_on, moved_on}
use Rattle.range_scan.specs.Meaning.{Range, range_of, scan_of, Move, Scanned, ScanIsAt, leaves_of, AreMeeting}
use Rattle.range_scan.specs.Pairs.{AreItems, AreItemsIn, sight_of}
use Rattle.range_scan.specs.Whole.{Listed, all_pairs, IsListed}
use Rattle.range_scan.specs.Stepped.{Stepped as StepsScan}
use Rattle.range_scan.proofs.Outcomes.{unended_ready}
use Rattle.range_scan.proofs.Fences.{read_is_fenced}
use Rattle.range_scan.proofs.Meaning.{scanned_range, served_by}
use Rattle.range_scan.proofs.Whole.{is_whole}
use Rattle.attr_index.specs.Meaning.{leaf_by, visited}
use Rattle.attr_index.specs.Look.{Query, Look}
use Rattle.attr_index.specs.Stepped.{Stepped as StepsLook}
use Rattle.client_work.proofs.Looks.{ready_looked, step_looked}
use Rattle.record_read.specs.Read.{seen_in, read_value}
use Rattle.recover_run.specs.declared.home.Home.{Home}
use Rattle.client_work.specs.declared.answer.Answer.{Answer}
use Rattle.client_work.specs.declared.answer.Answer.TheVariants as answer
use Rattle.client_work.specs.declared.answer.Begun.{Begun}
use Rattle.client_work.specs.declared.answer.Begun.TheVariants.{Working, Answered}
use Rattle.client_work.specs.declared.listing.Listing.{Listing}
use Rattle.client_work.specs.declared.op.Op.{Op}
use Rattle.client_work.specs.declared.op.Op.TheVariants as op
use Rattle.client_work.specs.declared.shown.Shown.{Shown}
use Rattle.client_work.specs.declared.work.Work.{Work}
use Rattle.client_work.specs.declared.work.Work.TheVariants.{Closed, Idle, Opening, Committing, Reading, Scanning, Looking, Paging, Folding, Closing, Renewing, Settling, Sweeping, Broken}
use Rattle.client_work.specs.Session.{Acting, Begins, HasInHand, CommitsOf, CommitsNoted, ReadsOf, ScansOf, LooksOf, Follows, ListsLeaf, StepsAt, ShowsAt, ReadsBy, StepsScanning, LooksBy, ShowsWhole, stopped_work, opened_work, committed_work, opening_of, old_lease, paging_begun_by, folding_begun_by, noted_behind, shown_behind, value_in, items_in, acting_of, in_hand}
use Rattle.client_work.specs.Shows.{ShowsValue, pair_of, sight_in, IsSeen, Lists, IsUnderWay, ShowsRecords, IsKnown, read_deed, scan_deed, own_of, IsLooking, look_deed, ShowsFound}

-- ---- what is no scan and no look-up

abbrev pub IsPlain : Work → Type 0
IsPlain (Scanning home m) = ⊥
IsPlain (Looking home m) = ⊥
IsPlain work = Unit {0}

pub plain_known : (buffer : List Noted) (w : Work) (c : Cache) → IsPlain w → IsKnown buffer w c
plain_known buffer (Scanning home m) c p = absurd p
plain_known buffer (Looking home m) c p = absurd p
plain_known buffer w c p = tt

plain_as : (w v : Work) → w ≡ v → IsPlain v → IsPlain w
plain_as w v is p = subst IsPlain (sym is) p

stopped_plain : (t : Trouble) (home : Home) → IsPlain (stopped_work t home)
stopped_plain trouble.Memory home = tt
stopped_plain t home = tt

opened_plain : (o : Option Home) → IsPlain (opened_work o)
opened_plain (Some home) = tt
opened_plain None = tt

committed_plain : (a : CommitAnswer) (home : Home) → IsPlain (committed_work a home)
committed_plain InDoubt home = tt
committed_plain (CommittedOpen t) home = tt
committed_plain (Committed txn) home = tt
committed_plain (NotCommitted t) home = tt

-- .. leads to none

module _ (who : Caller) (before after : Seen) where
  work_plain : (was left : Work) (turn : Turn Answer) → IsPlain was → StepsAt who before after was left turn → IsPlain left
  work_plain (Opening m) left More o p = plain_as left (Opening p.1.0) p.1.2 tt
  work_plain (Opening m) left (Ended (answer.Opened epoch)) o p = plain_as left (opened_work _) p.1.2 (opened_plain _)
  work_plain (Opening m) left (Ended (answer.Trouble k)) o p = plain_as left Closed p.1.2 tt
  work_plain (Opening m) left turn o p = absurd p.1
  work_plain (Committing m) left More o p = plain_as left (Committing p.3.0) p.3.2 tt
  work_plain (Committing m) left (Ended (answer.Commit a)) o p = plain_as left (committed_work a _) p.3.2 (committed_plain a _)
  work_plain (Committing m) left (Ended (answer.Trouble k)) o p = plain_as left (Broken _) p.3.2 tt
  work_plain (Committing m) left turn o p = absurd p.3
  work_plain (Reading home m) left More o p = plain_as left (Reading home p.0) p.2 tt
  work_plain (Reading home m) left (Ended answer.Value) o p = plain_as left (Idle home) p.1 tt
  work_plain (Reading home m) left (Ended (answer.Trouble k)) o p = plain_as left (stopped_work k home) p.1 (stopped_plain k home)
  work_plain (Reading home m) left turn o p = absurd p
  work_plain (Scanning home m) left turn o p = absurd o
  work_plain (Looking home m) left turn o p = absurd o
  work_plain (Paging home m) left More o p = plain_as left (Paging home p.0) p.2 tt
  work_plain (Paging home m) left (Ended (answer.Done n)) o p = plain_as left (Idle home) p.2 tt
  work_plain (Paging home m) left (Ended (answer.Trouble k)) o p = plain_as left (stopped_work k home) p.2 (stopped_plain k home)
  work_plain (Paging home m) left turn o p = absurd p
  work_plain (Folding home m) left More o p = plain_as left (Folding home p.0) p.2 tt
  work_plain (Folding home m) left (Ended (answer.Done n)) o p = plain_as left (Idle home) p.2 tt
  work_plain (Folding home m) left (Ended (answer.Trouble k)) o p = plain_as left (stopped_work k home) p.2 (stopped_plain k home)
  work_plain (Folding home m) left turn o p = absurd p
  work_plain (Closing lease) left (Ended answer.Closed) o p = plain_as left Closed p.1 tt
  work_plain (Closing lease) left (Ended (answer.Trouble k)) o p = plain_as left Closed p.1 tt
  work_plain (Closing lease) left turn o p = absurd p
  work_plain (Renewing home) left (Ended (answer.Renewed end)) o p = plain_as left (Idle p.0) p.2 tt
  work_plain (Renewing home) left (Ended (answer.Trouble k)) o p = plain_as left (stopped_work k p.0) p.2 (stopped_plain k p.0)
  work_plain (Renewing home) left turn o p = absurd p
  work_plain (Settling m) left More o p = plain_as left (Settling p.1.0) p.1.2 tt
  work_plain (Settling m) left (Ended (answer.Settled n)) o p = plain_as left Closed p.1.2 tt
  work_plain (Settling m) left (Ended (answer.Trouble k)) o p = plain_as left Closed p.1.2 tt
  work_plain (Settling m) left turn o p = absurd p.1
  work_plain (Sweeping m) left More o p = plain_as left (Sweeping p.0) p.2 tt
  work_plain (Sweeping m) left (Ended (answer.Swept x)) o p = plain_as left Closed p.2 tt
  work_plain (Sweeping m) left (Ended (answer.Trouble k)) o p = plain_as left Closed p.2 tt
  work_plain (Sweeping m) left turn o p = absurd p
  work_plain Closed left turn o p = absurd p
  work_plain (Idle home) left turn o p = absurd p
  work_plain (Broken lease) left turn o p = absurd p

-- ---- a read

abbrev pub ReadShows : Caller → Seen → Seen → Home → List Noted → Walk → Option Value → Turn Answer → Type 0
ReadShows who before after home buffer w value (Ended answer.Value) = ShowsValue who before after (own_of home buffer) w value
ReadShows who before after home buffer w value (Ended answer.Scan) = ⊥
ReadShows who before after home buffer w value turn = Unit {0}

module _ (who : Caller) (before after : Seen) (home : Home) (buffer : List Noted) (w : Walk) (c d : Cache) where
  -- at the leaf at which a walk ended
  ended_shows : (m : Walk) (page : ℕ) → StepsWalk who before after (w, c) (m, d) (Ended page) → IsAtLeaf m d page
      → ShowsValue who before after (own_of home buffer) w (read_value m d home.client home.head buffer)
  ended_shows m page steps at =
      let aim : HasAim w m = steps.aim (λ e. cc) in
      let got = steps.serves page refl in
      let name : object.Page m.tree page ≡ object.Page w.tree page = ap (λ (t : ℕ). object.Page t page) aim.tree in
      let spelled : as_leaf (Some got.got) ≡ Some at.leaf = sym (ap as_leaf got.kept) ∙ at.kept in
      let key : sought m ≡ sought w = ap (λ (k : Option (List ℕ)). unwrap_or k []) aim.key in
      let kept : leaf_at d (object_of m) ≡ Some at.leaf = ap (leaf_at d) at.in_hand ∙ at.kept in
      record {
        answer = steps.answer;
        made = steps.made;
        leaf = at.leaf;
        served = served_by w.tree (read_deed who w steps.answer before after) at.leaf steps.made
            (record { page = page; got = got.got; asked = ap Get (got.in_hand ∙ name); answered = got.answered; spelled = spelled });
        holds_key = subst (λ (k : List ℕ). holds at.leaf k ≡ true) key at.holds;
        value_is =
            ap (λ (o : Option Leaf). seen_in o m.tree (sought m) home.client home.head buffer) kept
            ∙ ap (λ (t : ℕ). seen at.leaf t (sought m) home.client home.head buffer) aim.tree
            ∙ ap (λ (k : List ℕ). seen at.leaf w.tree k home.client home.head buffer) key;
      }

  pub read_shows : (left : Work) (shown : Shown) (turn : Turn Answer) → ReadsBy who before after (in_hand home w c) (acting_of buffer left d shown) turn
      → ReadShows who before after home buffer w (value_in left shown (shown_behind left d) buffer) turn
  read_shows left shown (Ended answer.Value) (m, page, steps, at, is, some) =
      subst (λ (v : Work). ShowsValue who before after (own_of home buffer) w (value_in v shown (shown_behind v d) buffer)) (sym is)
      (subst (λ (x : Shown). ShowsValue who before after (own_of home buffer) w (value_in (Idle home) x d buffer)) (sym some) (ended_shows m page steps at))
  read_shows left shown (Ended answer.Scan) never = absurd never
  read_shows left shown turn p = tt

-- ---- a scan

abbrev pub ScanShows : Caller → Seen → Seen → Home → List Noted → Listing → Cache → Shown → Turn Answer → Type 0
ScanShows who before after home buffer m c shown (Ended answer.Scan) = ShowsRecords who before after buffer (in_hand home m c) (items_in shown)
ScanShows who before after home buffer m c shown (Ended answer.Value) = ⊥
ScanShows who before after home buffer m c shown turn = Unit {0}

pairs_append : (xs ys : List Entry) → map pair_of (xs ++ ys) ≡ map pair_of xs ++ map pair_of ys
pairs_append [] ys = refl
pairs_append (x ∷ xs) ys = ap (λ (ps : List Pair). pair_of x ∷ ps) (pairs_append xs ys)

-- where a scan goes on behind a leaf, it is of the same range
moved_range : (s : Scan) → goes_on s ≡ true → range_of (moved_on s) ≡ range_of s
moved_range s going = ap (λ (b : Bool). range_of (if b then record s { spot = s.next; next = None } else s)) going

module _ (who : Caller) (before after : Seen) (home : Home) (buffer : List Noted) (m : Listing) (c d : Cache) (way : IsUnderWay home buffer m c) where
  abbrev r : Range
  r = range_of m.scan

  under : (s : Scan) (pairs : List Pair) (moves : List Move) → range_of s ≡ r → Scanned r moves (s, d) → Lists r home buffer (leaves_of moves) pairs
      → IsUnderWay home buffer (record { scan = s; pairs = pairs }) d
  under s pairs moves same came lists = record {
    moves = moves;
    came = subst (λ (q : Range). Scanned q moves (s, d)) (sym same) came;
    lists = subst (λ (q : Range). Lists q home buffer (leaves_of moves) pairs) (sym same) lists;
  }

  module _ (s : Scan) (page : ℕ) (steps : StepsScan who before after (m.scan, c) (s, d) (Ended page)) where
    at : ScanIsAt r (scan_deed who m.scan steps.answer before after) (s, d) way.moves page
    at = (steps.meant r way.moves way.came).means

    here : leaf_at d (scan_object s) ≡ Some at.leaf
    here = ap (leaf_at d) at.in_hand ∙ at.kept

    -- the leaves so far with this one
    grown : (items : List Entry) (all : List Pair) → AreItemsIn (leaf_at d (scan_object s)) s home.client home.head buffer items → all ≡ m.pairs ++ map pair_of items
        → Lists r home buffer (at.leaf ∷ leaves_of way.moves) all
    grown items all are is =
        let is_items : AreItems (sight_of s at.leaf home.client home.head buffer) items = subst (λ (o : Option Leaf). AreItemsIn o s home.client home.head buffer items) here are in
        let items_here : AreItems (sight_in r home buffer at.leaf) items = subst (λ (q : Range). AreItems (sight_in q home buffer at.leaf) items) at.of is_items in
        let x : Listed = record { sight = sight_in r home buffer at.leaf; pairs = items } in
        record {
          listed = x ∷ way.lists.listed;
          of = ap (λ (ls : List Leaf). at.leaf ∷ ls) way.lists.of;
          seen_so = (record { sight_is = refl; is_listed = record { items = items_here; fenced = read_is_fenced at.served.is_got.got at.leaf at.served.is_got.spelled } }, way.lists.seen_so);
          records_are = is ∙ (ap (λ (ps : List Pair). ps ++ map pair_of items) way.lists.records_are ∙ sym (pairs_append (all_pairs way.lists.listed) items));
        }

    goes : (all : List Pair) → Lists r home buffer (at.leaf ∷ leaves_of way.moves) all → goes_on s ≡ true → IsUnderWay home buffer (record { scan = moved_on s; pairs = all }) d
    goes all lists going =
        under (moved_on s) all (record { deed = scan_deed who m.scan steps.answer before after; behind = Some at.leaf } ∷ way.moves) (moved_range s going ∙ at.of)
        ((m.scan, c), way.came, refl, steps.made, (s, (page, steps.took, here, going, refl))) lists

    ends : (all : List Pair) → Lists r home buffer (at.leaf ∷ leaves_of way.moves) all → goes_on s ≡ false → ShowsRecords who before after buffer (in_hand home m c) all
    ends all lists over = record {
      moves = way.moves;
      came = way.came;
      answer = steps.answer;
      made = steps.made;
      leaf = at.leaf;
      served = at.served;
      earlier = at.earlier;
      meeting = at.meeting;
      last = at.last over;
      lists = lists;
      whole = is_whole r lists.listed (subst (AreMeeting r) (sym lists.of) at.meeting) (all_listed lists.listed lists.seen_so);
    }
      where
        all_listed : (xs : List Listed) → AllByRecursion (IsSeen r home buffer) xs → AllByRecursion IsListed xs
        all_listed [] h = tt
        all_listed (x ∷ xs) h = (h.0.is_listed, all_listed xs h.1)

    listed : (left : Work) (shown : Shown) (turn : Turn Answer) → ListsLeaf home (record { scan = s; pairs = m.pairs }) (acting_of buffer left d shown) turn
        → IsKnown buffer left d × ScanShows who before after home buffer m c shown turn
    listed left shown More (all, (items, are, all_is), going, is, none) =
        (subst (λ (w : Work). IsKnown buffer w d) (sym is) (goes all (grown items all are all_is) going), tt)
    listed left shown (Ended answer.Scan) (all, (items, are, all_is), over, is, some) = (
      plain_known buffer left d (plain_as left (Idle home) is tt),
      subst (λ (x : Shown). ShowsRecords who before after buffer (in_hand home m c) (items_in x)) (sym some) (ends all (grown items all are all_is) over),
    )
    listed left shown (Ended (answer.Trouble t)) (memory, is, none) = (plain_known buffer left d (plain_as left (Broken home.lease) is tt), tt)
    listed left shown turn never = absurd never

  followed : (s : Scan) (moved : Turn ℕ) → StepsScan who before after (m.scan, c) (s, d) moved → (left : Work) (shown : Shown) (turn : Turn Answer)
      → Follows home (record { scan = s; pairs = m.pairs }) moved (acting_of buffer left d shown) turn → IsKnown buffer left d × ScanShows who before after home buffer m c shown turn
  followed s More steps left shown turn (is, none, more) =
      let x : Move = record { deed = scan_deed who m.scan steps.answer before after; behind = None } in
      let same : range_of s ≡ r = (steps.meant r way.moves way.came).means in (
        subst (λ (w : Work). IsKnown buffer w d) (sym is) (under s m.pairs (x ∷ way.moves) same ((m.scan, c), way.came, refl, steps.made, steps.took) way.lists),
        subst (ScanShows who before after home buffer m c shown) (sym more) tt,
      )
  followed s (Ended page) steps left shown turn listed_so = listed s page steps left shown turn listed_so
  followed s (Stopped t) steps left shown turn (is, none, stopped) = (
    plain_known buffer left d (plain_as left (stopped_work t home) is (stopped_plain t home)),
    subst (ScanShows who before after home buffer m c shown) (sym stopped) tt,
  )

  pub scan_known : (left : Work) (shown : Shown) (turn : Turn Answer) → StepsScanning who before after (in_hand home m c) (acting_of buffer left d shown) turn
      → IsKnown buffer left d × ScanShows who before after home buffer m c shown turn
  scan_known left shown turn p = followed p.scan p.moved p.steps left shown turn p.follows

-- ---- a look-up

abbrev pub LookShows : Caller → Seen → Seen → Home → List Noted → Look → Cache → Shown → Turn Answer → Type 0
LookShows who before after home buffer m c shown (Ended answer.Scan) = ShowsFound who before after buffer (in_hand home m c) (items_in shown)
LookShows who before after home buffer m c shown (Ended answer.Value) = ⊥
LookShows who before after home buffer m c shown turn = Unit {0}

module _ (who : Caller) (before after : Seen) (home : Home) (buffer : List Noted) (m : Look) (c d : Cache) (way : IsLooking home buffer m c) where
  looks_on : (n : Look) → StepsLook (own_of home buffer) (occasion_of who before after) (m, c) (n, d) More → IsLooking home buffer n d
  looks_on n p =
      let x : Deed = look_deed who m p.walked.answer before after in
      let came = step_looked (own_of home buffer) who before after (m, c) (n, d) way.calls way.visits p way.came in
      record { calls = x ∷ way.calls; visits = visited m x (leaf_by (m, c) x) way.visits; came = came }

  finds : (n : Look) → StepsLook (own_of home buffer) (occasion_of who before after) (m, c) (n, d) (Ended tt) → ShowsFound who before after buffer (in_hand home m c) n.pairs
  finds n p =
      let found = p.means m.query way.calls way.visits way.came in
      record { calls = way.calls; visits = way.visits; came = way.came; answer = p.walked.answer; made = p.walked.made; found = found }

  pub look_known : (left : Work) (shown : Shown) (turn : Turn Answer) → LooksBy who before after (in_hand home m c) (acting_of buffer left d shown) turn
      → IsKnown buffer left d × LookShows who before after home buffer m c shown turn
  look_known left shown More (n, steps, is, none, less) = (subst (λ (w : Work). IsKnown buffer w d) (sym is) (looks_on n steps), tt)
  look_known left shown (Ended answer.Scan) (n, steps, is, some) = (
    plain_known buffer left d (plain_as left (Idle home) is tt),
    subst (λ (x : Shown). ShowsFound who before after buffer (in_hand home m c) (items_in x)) (sym some) (finds n steps),
  )
  look_known left shown (Ended (answer.Trouble t)) (n, steps, is, none) = (plain_known buffer left d (plain_as left (stopped_work t home) is (stopped_plain t home)), tt)
  look_known left shown turn never = absurd never

-- ---- a session

kept_known : (buffer : List Noted) (w : Work) (d : Cache) → IsKnown buffer w d → IsKnown buffer w (shown_behind w d)
kept_known buffer Closed d k = tt
kept_known buffer (Scanning home m) d k = k
kept_known buffer w d k = plain_again w k where
  plain_again : (w : Work) → IsKnown buffer w d → IsKnown buffer w (shown_behind w d)
  plain_again Closed k = tt
  plain_again (Scanning home m) k = k
  plain_again (Looking home m) k = k
  plain_again (Idle home) k = k
  plain_again (Opening m) k = k
  plain_again (Committing m) k = k
  plain_again (Reading home m) k = k
  plain_again (Paging home m) k = k
  plain_again (Folding home m) k = k
  plain_again (Closing lease) k = k
  plain_again (Renewing home) k = k
  plain_again (Settling m) k = k
  plain_again (Sweeping m) k = k
  plain_again (Broken lease) k = k

-- an operation that neither reads nor scans nor looks up is not answered by a value or a list
abbrev pub TellsNone : Turn Answer → Type 0
TellsNone (Ended answer.Value) = ⊥
TellsNone (Ended answer.Scan) = ⊥
TellsNone turn = Unit {0}

abbrev pub IsOther : Work → Type 0
IsOther (Reading home m) = ⊥
IsOther (Scanning home m) = ⊥
IsOther (Looking home m) = ⊥
IsOther work = Unit {0}

tells_none : (who : Caller) (before after : Seen) (was left : Work) (turn : Turn Answer) → IsOther was → StepsAt who before after was left turn → TellsNone turn
tells_none who before after (Reading home m) left turn o p = absurd o
tells_none who before after (Scanning home m) left turn o p = absurd o
tells_none who before after (Looking home m) left turn o p = absurd o
tells_none who before after (Opening m) left (Ended answer.Value) o p = absurd p.1
tells_none who before after (Opening m) left (Ended answer.Scan) o p = absurd p.1
tells_none who before after (Opening m) left turn o p = tt
tells_none who before after (Committing m) left (Ended answer.Value) o p = absurd p.3
tells_none who before after (Committing m) left (Ended answer.Scan) o p = absurd p.3
tells_none who before after (Committing m) left turn o p = tt
tells_none who before after (Paging home m) left (Ended answer.Value) o p = absurd p
tells_none who before after (Paging home m) left (Ended answer.Scan) o p = absurd p
tells_none who before after (Paging home m) left turn o p = tt
tells_none who before after (Folding home m) left (Ended answer.Value) o p = absurd p
tells_none who before after (Folding home m) left (Ended answer.Scan) o p = absurd p
tells_none who before after (Folding home m) left turn o p = tt
tells_none who before after (Closing lease) left (Ended answer.Value) o p = absurd p
tells_none who before after (Closing lease) left (Ended answer.Scan) o p = absurd p
tells_none who before after (Closing lease) left turn o p = tt
tells_none who before after (Renewing home) left (Ended answer.Value) o p = absurd p
tells_none who before after (Renewing home) left (Ended answer.Scan) o p = absurd p
tells_none who before after (Renewing home) left turn o p = tt
tells_none who before after (Settling m) left (Ended answer.Value) o p = absurd p.1
tells_none who before after (Settling m) left (Ended answer.Scan) o p = absurd p.1
tells_none who before after (Settling m) left turn o p = tt
tells_none who before after (Sweeping m) left (Ended answer.Value) o p = absurd p
tells_none who before after (Sweeping m) left (Ended answer.Scan) o p = absurd p
tells_none who before after (Sweeping m) left turn o p = tt
tells_none who before after Closed left turn o p = absurd p
tells_none who before after (Idle home) left turn o p = absurd p
tells_none who before after (Broken lease) left turn o p = absurd p

module _ (who : Caller) (before after : Seen) (buffer noted : List Noted) (c d : Cache) (earlier : Shown) where
  abbrev old_of : Work → Acting
  old_of was = record { buffer = buffer; work = was; cache = c; shown = earlier }

  abbrev new_of : Work → Shown → Acting
  new_of left shown = record { buffer = noted; work = left; cache = shown_behind left d; shown = shown }

  abbrev Known : Work → Work → Shown → Turn Answer → Type 0
  Known was left shown turn = IsKnown noted left (shown_behind left d) × ShowsWhole who before after (old_of was) (new_of left shown) (Ok turn)

  other_known : (was left : Work) (shown : Shown) (turn : Turn Answer) → IsPlain was → IsOther was → StepsAt who before after was left turn → Known was left shown turn
  other_known was left shown turn plain other steps = (kept_known noted left d (plain_known noted left d (work_plain who before after was left turn plain steps)), on turn (tells_none who before after was left turn other steps))
    where
      on : (turn : Turn Answer) → TellsNone turn → ShowsWhole who before after (old_of was) (new_of left shown) (Ok turn)
      on (Ended answer.Value) never = absurd never
      on (Ended answer.Scan) never = absurd never
      on turn h = tt

  reading_known : (home : Home) (w : Walk) (left : Work) (shown : Shown) (turn : Turn Answer) → StepsAt who before after (Reading home w) left turn
      → ReadsBy who before after (in_hand home w c) (acting_of noted left d shown) turn → Known (Reading home w) left shown turn
  reading_known home w left shown turn steps reads =
      (kept_known noted left d (plain_known noted left d (work_plain who before after (Reading home w) left turn tt steps)), on turn (read_shows who before after home noted w c d left shown turn reads))
    where
      on : (turn : Turn Answer) → ReadShows who before after home noted w (value_in left shown (shown_behind left d) noted) turn
          → ShowsWhole who before after (old_of (Reading home w)) (new_of left shown) (Ok turn)
      on (Ended answer.Value) h = (home, w, refl, h)
      on (Ended answer.Scan) never = absurd never
      on turn h = tt

  scanning_known : (home : Home) (m : Listing) (left : Work) (shown : Shown) (turn : Turn Answer) → noted ≡ buffer → IsUnderWay home buffer m c
      → StepsScanning who before after (in_hand home m c) (acting_of noted left d shown) turn → Known (Scanning home m) left shown turn
  scanning_known home m left shown turn same way p =
      let both = scan_known who before after home buffer m c d way left shown turn (subst (λ (b : List Noted). StepsScanning who before after (in_hand home m c) (acting_of b left d shown) turn) same p) in
      (kept_known noted left d (subst (λ (b : List Noted). IsKnown b left d) (sym same) both.0), on turn both.1)
    where
      on : (turn : Turn Answer) → ScanShows who before after home buffer m c shown turn → ShowsWhole who before after (old_of (Scanning home m)) (new_of left shown) (Ok turn)
      on (Ended answer.Scan) h = inl (home, m, refl, h)
      on (Ended answer.Value) never = absurd never
      on turn h = tt

  looking_known : (home : Home) (m : Look) (left : Work) (shown : Shown) (turn : Turn Answer) → noted ≡ buffer → IsLooking home buffer m c
      → LooksBy who before after (in_hand home m c) (acting_of noted left d shown) turn → Known (Looking home m) left shown turn
  looking_known home m left shown turn same way p =
      let both = look_known who before after home buffer m c d way left shown turn (subst (λ (b : List Noted). LooksBy who before after (in_hand home m c) (acting_of b left d shown) turn) same p) in
      (kept_known noted left d (subst (λ (b : List Noted). IsKnown b left d) (sym same) both.0), on turn both.1)
    where
      on : (turn : Turn Answer) → LookShows who before after home buffer m c shown turn → ShowsWhole who before after (old_of (Looking home m)) (new_of left shown) (Ok turn)
      on (Ended answer.Scan) h = inr (home, m, refl, h)
      on (Ended answer.Value) never = absurd never
      on turn h = tt

  pub step_known : (was left : Work) (shown : Shown) (turn : Turn Answer) → noted ≡ noted_behind was buffer → IsKnown buffer was c → StepsAt who before after was left turn
      → ShowsAt who before after (was, c) (acting_of noted left d shown) turn → Known was left shown turn
  step_known (Reading home w) left shown turn same known steps shows = reading_known home w left shown turn steps shows
  step_known (Scanning home m) left shown turn same known steps shows = scanning_known home m left shown turn same known shows
  step_known (Looking home m) left shown turn same known steps shows = looking_known home m left shown turn same known shows
  step_known (Opening m) left shown turn same known steps shows = other_known (Opening m) left shown turn tt tt steps
  step_known (Committing m) left shown turn same known steps shows = other_known (Committing m) left shown turn tt tt steps
  step_known (Paging home m) left shown turn same known steps shows = other_known (Paging home m) left shown turn tt tt steps
  step_known (Folding home m) left shown turn same known steps shows = other_known (Folding home m) left shown turn tt tt steps
  step_known (Closing lease) left shown turn same known steps shows = other_known (Closing lease) left shown turn tt tt steps
  step_known (Renewing home) left shown turn same known steps shows = other_known (Renewing home) left shown turn tt tt steps
  step_known (Settling m) left shown turn same known steps shows = other_known (Settling m) left shown turn tt tt steps
  step_known (Sweeping m) left shown turn same known steps shows = other_known (Sweeping m) left shown turn tt tt steps
  step_known Closed left shown turn same known steps shows = absurd steps
  step_known (Idle home) left shown turn same known steps shows = absurd steps
  step_known (Broken lease) left shown turn same known steps shows = absurd steps

-- ---- a begin

begun_known : (home : Home) (buffer : List Noted) (tree : ℕ) (from to : Option (List ℕ)) (c d : Cache) (left : Work) (shown : Shown) (begun : Begun)
    → ScansOf home (scan_of (record { tree = tree; from = from; to = to })) c (acting_of buffer left d shown) begun → IsKnown buffer left d
begun_known home buffer tree from to c d left shown begun p = on p.moved p.moves p.turn p.follows where
  range : Range
  range = record { tree = tree; from = from; to = to }

  ready : (page : ℕ) → Moves (scan_ready (scan_of range, c)) (p.scan, d) (Ended page) → ⊥
  ready page h = unended_ready (scan_of range, c) (p.scan, d) page h

  on : (moved : Turn ℕ) → Moves (scan_ready (scan_of range, c)) (p.scan, d) moved → (turn : Turn Answer) → Follows home (record { scan = p.scan; pairs = [] }) moved (acting_of buffer left d shown) turn
      → IsKnown buffer left d
  on More moves turn (is, none, more) =
      let came : Scanned range [] (p.scan, d) = (c, moves) in
      let same : range_of p.scan ≡ range = scanned_range range [] (p.scan, d) came in
      let way : IsUnderWay home buffer (record { scan = p.scan; pairs = [] }) d = record {
        moves = [];
        came = subst (λ (q : Range). Scanned q [] (p.scan, d)) (sym same) came;
        lists = record { listed = []; of = refl; seen_so = tt; records_are = refl };
      } in
      subst (λ (w : Work). IsKnown buffer w d) (sym is) way
  on (Ended page) moves turn listed = absurd (ready page moves)
  on (Stopped t) moves turn (is, none, stopped) = plain_known buffer left d (plain_as left (stopped_work t home) is (stopped_plain t home))

module _ (old new : Acting) (begun : Begun) where
  plain_is : (w : Work) → new.work ≡ w → IsPlain w → IsKnown new.buffer new.work new.cache
  plain_is w is p = plain_known new.buffer new.work new.cache (plain_as new.work w is p)

  in_hand_is : (w : Work) → IsPlain w → HasInHand old w new begun → IsKnown new.buffer new.work new.cache
  in_hand_is w p has = plain_is w (ap (λ (a : Acting). a.work) has.1) p

  commits : (home : Home) → (b : Begun) → CommitsOf home old.buffer old.cache new.cache new.work b → IsKnown new.buffer new.work new.cache
  commits home Working h = plain_is (Committing h.0) h.2 tt
  commits home (Answered (answer.Commit a)) h = plain_is (Idle _) h.2 tt
  commits home (Answered (answer.Trouble t)) h = plain_is (Broken home.lease) h.1 tt
  commits home (Answered a) h = absurd h

  committed : (home : Home) → CommitsNoted home old.buffer old.cache new.cache new.work begun → IsKnown new.buffer new.work new.cache
  committed home (inl nothing) = plain_is (Idle home) nothing.work_is tt
  committed home (inr noted) = commits home begun noted.1

  reads : (home : Home) (start : Walk) (b : Begun) → ReadsOf home (start, old.cache) (new.work, new.cache) new.shown b → IsKnown new.buffer new.work new.cache
  reads home start Working h = plain_is (Reading home h.0) h.2 tt
  reads home start (Answered answer.Value) h = plain_is (Idle home) h.3 tt
  reads home start (Answered (answer.Trouble t)) h = plain_is (stopped_work t home) h.2 (stopped_plain t home)
  reads home start (Answered a) h = absurd h

  looks : (home : Home) (q : Query) (b : Begun) → LooksOf home q old.cache (new.work, new.cache) new.shown b → IsKnown new.buffer new.work new.cache
  looks home q Working (m, ready, is, none) =
      let came = ready_looked q (own_of home new.buffer) old.cache (m, new.cache) ready in
      subst (λ (w : Work). IsKnown new.buffer w new.cache) (sym is) (record { calls = []; visits = []; came = came })
  looks home q (Answered (answer.Trouble t)) h = plain_is (stopped_work t home) h.1 (stopped_plain t home)
  looks home q (Answered a) h = absurd h

  pub begins_known : (o : Op) → Begins o old new (Ok begun) → IsKnown new.buffer new.work new.cache
  begins_known (op.Open client) b = opens begun b where
    opens : (x : Begun) → Begins (op.Open client) old new (Ok x) → IsKnown new.buffer new.work new.cache
    opens Working h = plain_is (opening_of client (old_lease old.work)) (ap (λ (a : Acting). a.work) h.1) tt
    opens (Answered a) h = absurd h
  begins_known op.Close (home, idle, has) = in_hand_is (Closing home.lease) tt has
  begins_known op.Renew (home, idle, has) = in_hand_is (Renewing home) tt has
  begins_known op.Commit (home, idle, (none, noted, shown)) = committed home noted
  begins_known (op.Read tree key) (home, idle, (same, h)) = reads home (new_walk tree (Some key) false) begun h
  begins_known (op.Scan tree from to) (home, idle, (same, h)) =
      subst (λ (b : List Noted). IsKnown b new.work new.cache) (sym same) (begun_known home old.buffer tree from to old.cache new.cache new.work new.shown begun h)
  begins_known (op.Lookup tree attr) (low, (home, idle, (same, h))) = looks home (record { tree = tree; attr = attr }) begun h
  begins_known (op.Page tree page) (home, idle, has) = in_hand_is (paging_begun_by tree page home) tt has
  begins_known (op.Tree tree) (home, idle, has) = in_hand_is (folding_begun_by tree home) tt has
