-- A counter of versions, epochs or numbers is spent behind 2^56 puts and sends, each of which raises it by at most 200; one of pages behind 2^31, each of
-- which raises it by at most four for each before it.
use Rattle.std.proofs.Common.{◌≡◌, ◌+◌, ◌-◌, ◌*◌, ◌^◌, ◌<◌, ◌≤◌, ◌⊎◌, inl, inr, ℕ, Bool, List, length, Some, sym, ap, subst, ◌∙◌, arith}
use Rattle.std.specs.Option.{option_and_then}
use Rattle.std.proofs.lemmas.Bool.{cases_lt}
use Rattle.std.proofs.lemmas.Nat.{mul-le}
use Rattle.cloud_facts.proofs.Book.Lengths.{image}
use Rattle.cloud_facts.proofs.Book.Places.{get_within}
use Rattle.cloud_facts.proofs.Calls.Rows.{versions_within}
use Rattle.cloud_facts.proofs.Decoding.Newest.{has_nth, never_gone}
use Rattle.cloud_facts.proofs.Decoding.Reading.{root_reads}
use Rattle.cloud_facts.specs.Words.{Trouble, ObjName, Entry, Head, Tree, Version, CloudState, Book, IsIn, StandsAt, roots_of, StandsUnder}
use Rattle.cloud_facts.specs.Book.Telling.{root_in}
use Rattle.cloud_facts.specs.Decoding.Decodes.{Decodes}
use Rattle.cloud_facts.specs.Decoding.Kinds.{CountsWithin}
use Rattle.db_base.specs.declared.names.ObjName.TheVariants as object
use Rattle.db_base.specs.declared.trouble.Counter.{Counter}
use Rattle.db_base.specs.declared.trouble.Counter.TheVariants as counter
use Rattle.db_base.specs.declared.trouble.Trouble.TheVariants as trouble
use Rattle.head_codec.specs.Spelling.{head_of}
use Rattle.history.specs.Audited.{Audited}
use Rattle.node_codec.specs.Tree.{empty_tree}
use Rattle.replay_meaning.specs.Standing.{Line}
use Rattle.session_facts.proofs.Machines.Runs.Leaves.{node_numbered}
use Rattle.session_facts.specs.Lines.Facts.{Stands}
use Rattle.session_facts.specs.Rows.Late.{TakesMany, IsLate, SpendsLate}
use Rattle.session_facts.specs.Sessions.Knows.{Sessions}
use Rattle.session_facts.specs.Sessions.Spent.{HasLastEpoch, HasLastNumber, HasLastPage, HasLastPages, HasLastRoot, IsSpentToOpen, IsSpentToCommit, IsSpentToSettle, IsSpentInTree}
use Rattle.session_facts.specs.Sessions.Untroubled.{IsSpent}

-- ---- pages

-- so many pages behind so many that were reserved
pages_late : (rows next pages : ℕ) → next ≤ 2 + 4 * (rows * rows) → pages ≤ 4 * rows + 1 → 2 ^ 64 - 1 < next + pages → 2 ^ 31 ≤ rows
pages_late rows next pages reserved few last = on (cases_lt rows (2 ^ 31))
  where
    on : (rows < 2 ^ 31) ⊎ (2 ^ 31 ≤ rows) → 2 ^ 31 ≤ rows
    on (inr many) = many
    on (inl early) =
        let below : rows ≤ 2147483647 = omega (arith, early) in
        let square : rows * rows ≤ 2147483647 * 2147483647 = mul-le rows rows 2147483647 2147483647 below below in
        absurd (omega (arith, reserved, few, last, below, square))

-- ---- versions are rows of the trace

module _ (book : Book) (order : List Entry) (t : CloudState) (stands : StandsUnder book order t) where
  decodes : Decodes t
  decodes = stands.decodes

  -- the place of a version is below the number of rows
  place_within : (name : ObjName) (place : ℕ) (v : Version) → StandsAt (t.versions name) place v → place + 1 ≤ length t.trace
  place_within name place v there =
      let below = get_within (t.versions name) place v there in
      let within = versions_within t stands.traced name in
      omega (arith, below, within)

  -- a landed head counts within the rows
  head_within : (client place : ℕ) (v : Version) (h : Head) → StandsAt (t.versions (object.Head client)) place v → option_and_then head_of v.bytes ≡ Some h → CountsWithin (place + 1) h
  head_within client place v h there reads =
      let heads = decodes.versions (object.Head client) in
      let k = has_nth (object.Head client) (t.versions (object.Head client)) place v heads (never_gone (object.Head client) (t.versions (object.Head client)) (λ no. no) heads) there in
      let both : Some k.2.0 ≡ Some h = sym k.2.1 ∙ sym (ap (option_and_then head_of) k.1) ∙ reads in
      let same : k.2.0 ≡ h = cc in
      subst (λ (g : Head). CountsWithin (place + 1) g) same k.2.2

  epoch_rows : HasLastEpoch t → 2 ^ 56 ≤ length t.trace
  epoch_rows it =
      let few = (head_within it.client it.landed.0 it.version it.head it.landed.1 it.reads).epoch in
      let within = place_within (object.Head it.client) it.landed.0 it.version it.landed.1 in
      let last = it.last in
      omega (arith, few, within, last)

  number_rows : HasLastNumber t → 2 ^ 56 ≤ length t.trace
  number_rows it =
      let few = (head_within it.client it.landed.0 it.version it.head it.landed.1 it.reads).numbers it.tree it.page in
      let within = place_within (object.Head it.client) it.landed.0 it.version it.landed.1 in
      let last = it.last in
      omega (arith, few, within, last)

  page_rows : (tree : ℕ) → HasLastPage t tree → 2 ^ 56 ≤ length t.trace
  page_rows tree it =
      let name = object.Page tree it.page in
      let n = node_numbered tree it.page (t.versions name) it.node (decodes.versions name) it.landed in
      let number = n.3 in
      let within = place_within name n.0 n.1 n.2 in
      let last = it.last in
      omega (arith, number, within, last)

  root_rows : (tree : ℕ) → HasLastRoot t tree → 2 ^ 56 ≤ length t.trace
  root_rows tree it =
      let name = object.Tree tree in
      let v = image root_in (t.versions name) it.root it.landed in
      let k = has_nth name (t.versions name) v.1.0 v.0 (decodes.versions name) (never_gone name (t.versions name) (λ no. no) (decodes.versions name)) v.1.1 in
      let same : it.root ≡ k.2.0 = sym v.2 ∙ root_reads v.0 k.0 k.2.0 k.1 k.2.1 in
      let number : it.root.version ≡ v.1.0 + 1 = ap (λ (r : Tree). r.version) same ∙ k.2.2 in
      let within = place_within name v.1.0 v.0 v.1.1 in
      let last = it.last in
      omega (arith, number, within, last)

  pages_rows : (tree : ℕ) → HasLastPages t tree → 2 ^ 31 ≤ length t.trace
  pages_rows tree it = pages_late (length t.trace) it.root.next it.pages (reserved it.landed) it.needed.few it.last
    where
      reserved : (it.root ≡ empty_tree) ⊎ IsIn (roots_of t tree) it.root → it.root.next ≤ 2 + 4 * (length t.trace * length t.trace)
      reserved (inl none) = let next : it.root.next ≡ 2 = ap (λ (r : Tree). r.next) none in omega (arith, next)
      reserved (inr landed) = stands.made.next tree it.root landed

  -- ---- each counter

  opens_late : (what : Counter) → IsSpentToOpen t what → TakesMany t what
  opens_late counter.Epoch is = epoch_rows is
  opens_late what is = absurd is

  commits_late : (what : Counter) → IsSpentToCommit t what → TakesMany t what
  commits_late counter.Txn is = tt
  commits_late counter.Number is = number_rows is
  commits_late what is = absurd is

  folds_late : (tree : ℕ) (what : Counter) → IsSpentInTree tree t what → TakesMany t what
  folds_late tree counter.Version (inl is) = root_rows tree is
  folds_late tree counter.Version (inr is) = page_rows tree is
  folds_late tree counter.Pages is = pages_rows tree is
  folds_late tree what is = absurd is

  settles_late : (what : Counter) → IsSpentToSettle t what → TakesMany t what
  settles_late what (inl is) = opens_late what is
  settles_late what (inr is) = folds_late is.0 what is.1

-- so they are over a cloud that stands for lines
pub spends_late : (lines : List Line) (sessions : Sessions) (audit : Audited) (blind : Bool) (t : CloudState) → Stands lines sessions audit blind t → SpendsLate t
spends_late lines sessions audit blind t stands =
    let cloud = stands.holds.stand.cloud in
    record {
      opening = opens_late stands.holds.book stands.holds.order t cloud;
      commit = commits_late stands.holds.book stands.holds.order t cloud;
      settling = settles_late stands.holds.book stands.holds.order t cloud;
    }

-- a trouble that tells a spent counter tells a late one
pub late_trouble : (Spent : CloudState → Counter → Type 0) (t : CloudState) → ((what : Counter) → Spent t what → TakesMany t what) → (k : Trouble) → IsSpent Spent t k
    → IsSpent (IsLate Spent) t k
late_trouble Spent t late (trouble.Exhausted what) is = (is, late what is)
late_trouble Spent t late k is = absurd is
