-- What landed is told from then on, and so is a counter that is spent.
use Rattle.std.proofs.Common.{◌≡◌, ◌+◌, ◌*◌, ◌≤◌, ◌==◌, ◌^◌, ◌⊎◌, inl, inr, ℕ, Bool, true, false, cond, List, map, Option, Some, None, Result, Ok, Err, sym, ap, subst, ◌∙◌, arith}
use Rattle.std.specs.Prelude.{◌-◌, is_some, length}
use Rattle.std.specs.Result.{result_ok}
use Rattle.std.proofs.lemmas.List.{map-append, length-append, length-map}
use Rattle.std.proofs.lemmas.List.Elements.{filter-append}
use Rattle.ckpt_parts.specs.Leaves.{fenced, HoldsLeaf, HoldsLinked}
use Rattle.byte_format.specs.Order.{bytes_same}
use Rattle.byte_format.specs.Format.{greatest}
use Rattle.byte_format.specs.Whole.{whole}
use Rattle.cloud_facts.proofs.Book.Places.{get_map, in_front}
use Rattle.cloud_facts.proofs.Calls.Making.{HasFew}
use Rattle.cloud_facts.proofs.Calls.StandingLemmas.{within_rows}
use Rattle.cloud_facts.proofs.Decoding.Newest.{newest_last, last_map, last_there}
use Rattle.cloud_facts.proofs.Decoding.Reading.{node_reads}
use Rattle.cloud_facts.proofs.Decoding.Versions.{all_there, among_those}
use Rattle.cloud_facts.specs.Decoding.Decodes.{Decodes}
use Rattle.cloud_facts.proofs.Meanings.Keys.{few_records}
use Rattle.cloud_facts.specs.Words.{IsTree, Trouble, ObjName, QueueName, Entry, Leaf, Tree, Answer, Version, Posted, CloudState, newest, Caller, Seen, Ask, Book, Store, Node, Leafy, IsIn, nodes_of, roots_of, store_of, StandsUnder}
use Rattle.cloud_facts.specs.Chains.Chain.{ChainHolds}
use Rattle.cloud_facts.specs.Chains.Links.{top_of}
use Rattle.cloud_facts.specs.Book.Telling.{last_or, leaf_in, leaf_of_bytes, newest_leaf, node_in, node_of_bytes, node_or, with_bytes, root_in}
use Rattle.cloud_facts.specs.Tellings.Taking.{IsLinked}
use Rattle.cloud_trait.proofs.RowLemmas.{leaves_grown}
use Rattle.cloud_trait.specs.Growth.{BeginsWith, HasGrown}
use Rattle.cloud_trait.specs.Upto.{posts_of}
use Rattle.cloud_trait.specs.Weather.{Makes}
use Rattle.db_base.specs.declared.names.ObjName.TheVariants as object
use Rattle.db_base.specs.declared.names.QueueName.TheVariants.{TreePu}
use Rattle.db_base.specs.declared.trouble.Counter.{Counter}
use Rattle.db_base.specs.declared.trouble.Counter.TheVariants as counter
use Rattle.db_base.specs.declared.trouble.Trouble.TheVariants as trouble
use Rattle.leaf_view.specs.Leaf.{leaf}
use Rattle.leaf_view.specs.Lookup.{empty_leaf}
use Rattle.node_codec.specs.Tree.{empty_tree}
use Rattle.split_plan.specs.Sizes.{count_of}
use Rattle.session_facts.proofs.Machines.TreeCheckpoints.EntryCounts.{pieces_more}
use Rattle.session_facts.proofs.Machines.Risings.Grounds.{top_most}
use Rattle.session_facts.specs.Sessions.Spent.{HasLastEpoch, HasLastNumber, HasLastPage, HasLastPages, HasLastRoot, IsLeafOf, MayNeed, IsSpentToOpen, IsSpentToCommit, IsSpentInPages, IsSpentInTree, IsSpentToSettle}

-- nothing that landed is lost, and no message
pub record HasAll (s t : CloudState) : Type 0 where
  pub versions : (name : ObjName) → BeginsWith (s.versions name) (t.versions name)
  pub messages : (queue : QueueName) → length (s.messages queue) ≤ length (t.messages queue)
  pub rows : length s.trace ≤ length t.trace

longer : {X : Type 0} (xs ys : List X) → BeginsWith xs ys → length xs ≤ length ys
longer xs ys grown = let all = ap length grown.1 ∙ length-append xs grown.0 in omega (arith, all)

pub grown_all : (s t : CloudState) → HasGrown s t → HasAll s t
grown_all s t grown = record {
  versions = grown.versions;
  messages = λ queue. more (s.messages queue) (t.messages queue) (grown.messages queue);
  rows = longer s.trace t.trace grown.trace;
}
  where
    more : (ms ns : List Posted) → BeginsWith (posts_of ms) (posts_of ns) → length ms ≤ length ns
    more ms ns begins =
        let one = length-map {B = Caller × List ℕ} ms (λ (m : Posted). (m.who, m.bytes)) in
        let other = length-map {B = Caller × List ℕ} ns (λ (m : Posted). (m.who, m.bytes)) in
        let few = longer (posts_of ms) (posts_of ns) begins in
        omega (arith, one, other, few)

-- ---- what landed

-- it is among what landed later too
in_grown : {X : Type 0} (xs ys : List X) (x : X) → BeginsWith xs ys → IsIn xs x → IsIn ys x
in_grown {X = X} xs ys x grown is = subst (λ (zs : List X). IsIn zs x) (sym grown.1) (in_front xs grown.0 x is)

map_grown : {X Y : Type 0} (f : X → Y) (xs ys : List X) → BeginsWith xs ys → BeginsWith (map f xs) (map f ys)
map_grown f xs ys grown = (map f grown.0, ap (map f) grown.1 ∙ map-append f xs grown.0)

-- so do those that have bytes
bytes_grown : (vs ws : List Version) → BeginsWith vs ws → BeginsWith (with_bytes vs) (with_bytes ws)
bytes_grown vs ws grown =
    (with_bytes grown.0, ap (λ (us : List Version). with_bytes us) grown.1 ∙ filter-append (λ (v : Version). is_some v.bytes) vs grown.0)

page_later : (s t : CloudState) → HasAll s t → (tree page : ℕ) (n : Node) → IsIn (nodes_of s tree page) n → IsIn (nodes_of t tree page) n
page_later s t grown tree page n is =
    let vs : List Version = s.versions (object.Page tree page) in
    let ws : List Version = t.versions (object.Page tree page) in
    in_grown (map node_in (with_bytes vs)) (map node_in (with_bytes ws)) n
    (map_grown node_in (with_bytes vs) (with_bytes ws) (bytes_grown vs ws (grown.versions (object.Page tree page)))) is

root_later : (s t : CloudState) → HasAll s t → (tree : ℕ) (root : Tree) → IsIn (roots_of s tree) root → IsIn (roots_of t tree) root
root_later s t grown tree root is =
    let vs : List Version = s.versions (object.Tree tree) in
    let ws : List Version = t.versions (object.Tree tree) in
    in_grown (map root_in vs) (map root_in ws) root (map_grown root_in vs ws (grown.versions (object.Tree tree))) is

-- A cloud tells all pages, tree objects and messages that a store has, which an earlier one told, whose objects decode. Its trees are chained, and their pages are numbered in
-- 64 bits; and its messages, links and newest leaves are within what landed.
pub record IsToldBy (st : Store) (s t : CloudState) : Type 0 where
  pub pages : (tree page : ℕ) (n : Node) → IsIn (st.tally.nodes tree page) n → IsIn (nodes_of t tree page) n
  pub roots : (tree : ℕ) (root : Tree) → IsIn (st.tally.roots tree) root → IsIn (roots_of t tree) root
  pub posts : (tree : ℕ) → length (st.tally.posts tree 0) ≤ length (t.messages (TreePu tree))
  pub chains : ChainHolds st
  pub decodes : Decodes s
  pub next : (tree : ℕ) → IsTree tree → (top_of (st.tally.roots tree)).next ≤ greatest
  pub sent : (tree : ℕ) → length (st.tally.posts tree 0) ≤ length t.trace
  pub links : (tree level : ℕ) → IsTree tree → length (st.book.chain tree level) ≤ length t.trace + 1
  pub leaves : (tree page : ℕ) → IsTree tree → IsLinked (st.book.chain tree 0) page → length (newest_leaf (nodes_of s) tree page).records ≤ 200 * length t.trace

pub told_later : (book : Book) (order : List Entry) (s t : CloudState) → StandsUnder book order s → HasAll s t → IsToldBy (store_of book order s) s t
told_later book order s t stands grown = record {
  pages = page_later s t grown;
  roots = root_later s t grown;
  posts = λ tree. grown.messages (TreePu tree);
  chains = stands.holds.chains;
  decodes = stands.decodes;
  next = λ tree of_tree. top_most book order s stands tree of_tree;
  sent = λ tree. let few = within.posts tree in omega (arith, few, rows);
  links = λ tree level of_tree. let few = within.links tree of_tree level in omega (arith, few, rows);
  leaves = λ tree page of_tree at.
      let few = few_records book order s stands tree of_tree page at in
      let log = stands.made.log in
      omega (arith, few, log, rows);
}
  where
    within : HasFew (length s.trace) (store_of book order s)
    within = within_rows book order s stands

    rows : length s.trace ≤ length t.trace
    rows = grown.rows

-- so it does behind a call
pub all_behind : (who : Caller) (ask : Ask) (reply : Answer) (before after : Seen) (s t : CloudState) → before.state ≡ Some s → after.state ≡ Some t → Makes who ask reply before after → HasAll s t
all_behind who ask reply before after s t told told_after made =
    let l = made.state s told in
    let same : l.after ≡ t = cc (sym l.told ∙ told_after) in
    grown_all s t (subst (λ (u : CloudState). HasGrown s u) same (leaves_grown who ask reply before.counts after.counts s after.state l))

pub told_behind : (who : Caller) (ask : Ask) (reply : Answer) (before after : Seen) (book : Book) (order : List Entry) (s t : CloudState) → StandsUnder book order s → before.state ≡ Some s
    → after.state ≡ Some t → Makes who ask reply before after → IsToldBy (store_of book order s) s t
told_behind who ask reply before after book order s t stands told told_after made = told_later book order s t stands (all_behind who ask reply before after s t told told_after made)

-- ---- a leaf

-- it landed on its page, or it is the empty one, which has no last version
pub last_leaf : (t : CloudState) (tree page : ℕ) (l : Leaf) → (l ≡ empty_leaf) ⊎ IsIn (nodes_of t tree page) (Leafy l) → l.version ≡ 2 ^ 64 - 1 → HasLastPage t tree
last_leaf t tree page l (inl empty) last = absurd (let none : 0 ≡ 2 ^ 64 - 1 = sym (ap (λ (m : Leaf). m.version) empty) ∙ last in cc (none))
last_leaf t tree page l (inr landed) last = record { page = page; node = Leafy l; landed = landed; last = last }

-- the bytes that spell a leaf, where they are the newest of a page
in_bytes : (v : Version) (bytes : List ℕ) (l : Leaf) → v.bytes ≡ Some bytes → whole leaf bytes ≡ Ok l → node_in v ≡ Leafy l
unfolding leaf_of_bytes
in_bytes v bytes l has reads = ap node_of_bytes has ∙ ap (λ (r : Result Leaf ℕ). node_or (result_ok r) bytes) reads

newest_landed : (t : CloudState) (tree page : ℕ) (bytes : List ℕ) (n : Node) → newest t (object.Page tree page) ≡ Some bytes → ((v : Version) → v.bytes ≡ Some bytes → node_in v ≡ n)
    → IsIn (nodes_of t tree page) n
newest_landed t tree page bytes n is reads =
    let vs : List Version = t.versions (object.Page tree page) in
    let last = newest_last vs bytes is in
    let among = among_those vs (length vs - 1) last.0 bytes last.1 last.2 in
    (among.0, get_map node_in (with_bytes vs) among.0 last.0 among.1 ∙ ap (λ (m : Node). Some m) (reads last.0 last.2))

pub whole_landed : (t : CloudState) (tree page : ℕ) (bytes : List ℕ) (l : Leaf) → newest t (object.Page tree page) ≡ Some bytes → whole leaf bytes ≡ Ok l
    → IsIn (nodes_of t tree page) (Leafy l)
whole_landed t tree page bytes l is reads =
    newest_landed t tree page bytes (Leafy l) is (λ v has. in_bytes v bytes l has reads)

-- it is the newest leaf that is told
pub whole_newest : (s : CloudState) (tree page : ℕ) (bytes : List ℕ) (l : Leaf) → Decodes s → newest s (object.Page tree page) ≡ Some bytes → whole leaf bytes ≡ Ok l
    → newest_leaf (nodes_of s) tree page ≡ l
whole_newest s tree page bytes l d is reads =
    let vs : List Version = s.versions (object.Page tree page) in
    let last = newest_last vs bytes is in
    let all = all_there (object.Page tree page) vs (d.versions (object.Page tree page)) (last_there vs last.0 bytes last.1 last.2) in
    ap (λ (ws : List Version). leaf_in (last_or (Leafy empty_leaf) (map node_in ws))) all
    ∙ ap leaf_in (last_map node_in (Leafy empty_leaf) vs last.0 last.1 ∙ in_bytes last.0 bytes l last.2 reads)

-- what the get of a page brought landed there
pub leaf_landed : (t : CloudState) (tree page : ℕ) (got : Option (List ℕ)) (l : Leaf) → newest t (object.Page tree page) ≡ got → HoldsLeaf tree page got (Ok l)
    → (l ≡ empty_leaf) ⊎ IsIn (nodes_of t tree page) (Leafy l)
leaf_landed t tree page None l is holds = on (page == 1) holds
  where
    on : (b : Bool) → ◌≡◌ {A = Result Leaf Trouble} (Ok l) (cond b (Ok empty_leaf) (Err (trouble.Absent page))) → (l ≡ empty_leaf) ⊎ IsIn (nodes_of t tree page) (Leafy l)
    on true e = inl (cc (e))
    on false e = absurd (cc (e))
leaf_landed t tree page (Some bytes) l is (inl (m, spells, e)) =
    let same : m ≡ l = cc (e) in
    inr (subst (λ (x : Leaf). IsIn (nodes_of t tree page) (Leafy x)) same
    (newest_landed t tree page bytes (Leafy m) is (λ v has. node_reads v bytes (Leafy m) has spells)))
leaf_landed t tree page (Some bytes) l is (inr (none, e)) = absurd (cc (e))

-- so did the one that a link promised
pub linked_landed : (t : CloudState) (tree page : ℕ) (low : List ℕ) (got : Option (List ℕ)) (l : Leaf) → newest t (object.Page tree page) ≡ got → HoldsLinked tree page low got (Ok l)
    → (l ≡ empty_leaf) ⊎ IsIn (nodes_of t tree page) (Leafy l)
linked_landed t tree page low got l is (plain, holds, e) = on plain holds e
  where
    on : (plain : Result Leaf Trouble) → HoldsLeaf tree page got plain → Ok l ≡ fenced page low plain → (l ≡ empty_leaf) ⊎ IsIn (nodes_of t tree page) (Leafy l)
    on (Err k) holds e = absurd (cc (e))
    on (Ok m) holds e = fits (bytes_same low m.low) e
      where
        fits : (b : Bool) → ◌≡◌ {A = Result Leaf Trouble} (Ok l) (cond b (Ok m) (Err (trouble.BadFence page low m.low))) → (l ≡ empty_leaf) ⊎ IsIn (nodes_of t tree page) (Leafy l)
        fits true e = let same : m ≡ l = cc (e) in subst (λ (x : Leaf). (x ≡ empty_leaf) ⊎ IsIn (nodes_of t tree page) (Leafy x)) same (leaf_landed t tree page got m is holds)
        fits false e = absurd (cc (e))

-- ---- what is spent

-- what a page checkpoint finds spent, a checkpoint of its tree does
pub pages_in_tree : (tree : ℕ) (t : CloudState) (what : Counter) → IsSpentInPages tree t what → IsSpentInTree tree t what
pages_in_tree tree t counter.Version page = inr page
pages_in_tree tree t what never = absurd never

-- what was told as spent is told so from then on
module _ (s t : CloudState) (grown : HasAll s t) where
  epoch_later : HasLastEpoch s → HasLastEpoch t
  epoch_later is =
      let vs : List Version = s.versions (object.Head is.client) in
      record {
        client = is.client;
        version = is.version;
        head = is.head;
        landed = in_grown vs (t.versions (object.Head is.client)) is.version (grown.versions (object.Head is.client)) is.landed;
        reads = is.reads;
        last = is.last;
      }

  last_page_later : (tree : ℕ) → HasLastPage s tree → HasLastPage t tree
  last_page_later tree is = record { page = is.page; node = is.node; landed = page_later s t grown tree is.page is.node is.landed; last = is.last }

  last_root_later : (tree : ℕ) → HasLastRoot s tree → HasLastRoot t tree
  last_root_later tree is = record { root = is.root; landed = root_later s t grown tree is.root is.landed; last = is.last }

  leaf_later : (tree : ℕ) (l : Leaf) → IsLeafOf s tree l → IsLeafOf t tree l
  leaf_later tree l (inl empty) = inl empty
  leaf_later tree l (inr (page, landed)) = inr (page, page_later s t grown tree page (Leafy l) landed)

  need_later : (tree pages : ℕ) → MayNeed s tree pages → MayNeed t tree pages
  need_later tree pages is = record { cut = cut is.cut; few = let few = is.few in let rows = grown.rows in omega (arith, few, rows) }
    where
      cut : (pages ≤ 2 ^ 59) ⊎ ((l : Leaf) × IsLeafOf s tree l × (pages ≤ count_of (length l.records + length (s.messages (TreePu tree)))))
          → (pages ≤ 2 ^ 59) ⊎ ((l : Leaf) × IsLeafOf t tree l × (pages ≤ count_of (length l.records + length (t.messages (TreePu tree)))))
      cut (inl few) = inl few
      cut (inr (l, leaf, few)) =
          let more = grown.messages (TreePu tree) in
          let least = pieces_more (length l.records + length (s.messages (TreePu tree))) (length l.records + length (t.messages (TreePu tree))) (omega (arith, more)) in
          inr (l, leaf_later tree l leaf, omega (arith, few, least))

  last_pages_later : (tree : ℕ) → HasLastPages s tree → HasLastPages t tree
  last_pages_later tree is = record { root = is.root; landed = landed is.landed; pages = is.pages; needed = need_later tree is.pages is.needed; last = is.last }
    where
      landed : (is.root ≡ empty_tree) ⊎ IsIn (roots_of s tree) is.root → (is.root ≡ empty_tree) ⊎ IsIn (roots_of t tree) is.root
      landed (inl empty) = inl empty
      landed (inr there) = inr (root_later s t grown tree is.root there)

  pub number_later : HasLastNumber s → HasLastNumber t
  number_later is = record {
    client = is.client;
    version = is.version;
    head = is.head;
    landed = in_grown (s.versions (object.Head is.client)) (t.versions (object.Head is.client)) is.version (grown.versions (object.Head is.client)) is.landed;
    reads = is.reads;
    tree = is.tree;
    page = is.page;
    last = is.last;
  }

  pub open_later : (what : Counter) → IsSpentToOpen s what → IsSpentToOpen t what
  open_later counter.Epoch is = epoch_later is
  open_later what is = absurd is

  pub commit_later : (what : Counter) → IsSpentToCommit s what → IsSpentToCommit t what
  commit_later counter.Txn is = is
  commit_later counter.Number is = number_later is
  commit_later what is = absurd is

  pub pages_later : (tree : ℕ) (what : Counter) → IsSpentInPages tree s what → IsSpentInPages tree t what
  pages_later tree counter.Version is = last_page_later tree is
  pages_later tree what is = absurd is

  pub tree_later : (tree : ℕ) (what : Counter) → IsSpentInTree tree s what → IsSpentInTree tree t what
  tree_later tree counter.Version (inl root) = inl (last_root_later tree root)
  tree_later tree counter.Version (inr page) = inr (last_page_later tree page)
  tree_later tree counter.Pages is = last_pages_later tree is
  tree_later tree what is = absurd is

  pub settle_later : (what : Counter) → IsSpentToSettle s what → IsSpentToSettle t what
  settle_later what (inl is) = inl (open_later what is)
  settle_later what (inr (tree, is)) = inr (tree, tree_later tree what is)
