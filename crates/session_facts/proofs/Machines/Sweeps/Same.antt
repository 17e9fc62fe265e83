-- Behind a sweep what is read of trees is as it was: each page that is read is reached, or has no bytes.
use Rattle.std.proofs.Common.{◌≡◌, ◌≢◌, ◌+◌, ◌<◌, ◌==◌, ◌⊎◌, inl, inr, ℕ, zero, suc, Bool, true, false, cond, List, [], ◌∷◌, length, Option, Some, None, Ok, refl, sym, ap, subst, ◌∙◌, arith}
use Rattle.std.proofs.lemmas.Bool.{eqb-true, eqb-false}
use Rattle.byte_format.specs.Order.{bytes_below}
use Rattle.cloud_facts.specs.Words.{IsTree, Entry, Leaf, Inner, Tree, Posted, CloudState, newest, Book, Node, Leafy, Branch, IsIn, StandsUnder}
use Rattle.cloud_facts.specs.Book.Tally.{right_of}
use Rattle.cloud_facts.specs.Decoding.Kinds.{IsNode}
use Rattle.cloud_facts.proofs.Calls.Pages.{some_landed}
use Rattle.cloud_facts.proofs.Chains.Pieces.{in_first, in_rest}
use Rattle.cloud_trait.specs.Delivery.{unmarked}
use Rattle.cloud_trait.specs.State.{newest_of, greatest}
use Rattle.std.specs.Prelude.{min}
use Rattle.db_base.specs.Value.{Value}
use Rattle.db_base.specs.declared.names.ObjName.TheVariants as object
use Rattle.node_codec.specs.Node.{Entry as Child, later_of, child_of}
use Rattle.replay_meaning.specs.Chain.{IsReadAs, IsNewestLeaf, Leads, AreLeaves}
use Rattle.replay_meaning.specs.Index.{IsNewestInner, IsRootIn, Reaches, ends, right_leaf, right_inner, down, Finds}
use Rattle.session_facts.specs.Machines.Sweeps.Reached.{HasBytes, IsChildOf, RootNames, IsReached, first_page, from_root, from_page}
use Rattle.session_facts.specs.Machines.Sweeps.Remains.{PageRemains, Remains}
use Rattle.session_facts.specs.Machines.Sweeps.Same.{TellsTheSame}
use Rattle.world_audit.specs.Counts.{open_count, head_in, open_at, heads_upto, queue_at, messages_below, IsNextPage, AreWaiting}

-- the entry for a key stands among the entries
child_in : (key : List ℕ) (entries : List Child) (e : Child) → child_of key entries ≡ Some e → IsIn entries e
child_in key [] e h = absurd (cc (h))
child_in key (x ∷ xs) e h = on (child_of key xs) (bytes_below key x.0) refl h (child_in key xs e)
  where
    on : (later : Option Child) (b : Bool) → child_of key xs ≡ later → later_of (cond b None (Some x)) later ≡ Some e → (child_of key xs ≡ Some e → IsIn xs e) → IsIn (x ∷ xs) e
    on (Some y) b f is again = in_rest x xs e (again (f ∙ is))
    on None true f is again = absurd (cc (is))
    on None false f is again = let same : x ≡ e = cc (is) in subst (λ z. IsIn (x ∷ xs) z) same (in_first x xs)

-- ---- pages

-- a node of the newest version of a page names another one, or has no right page
abbrev NamesPage : Node → ℕ → Type 0
NamesPage node page = IsChildOf node page ⊎ (right_of node ≡ page)

-- pages on the ways of a tree, whose newest versions are as they were
record AreSame (s t : CloudState) (tree : ℕ) (On : ℕ → Type 0) : Type 0 where
  same : (page : ℕ) → On page → newest t (object.Page tree page) ≡ newest s (object.Page tree page)
  root : newest t (object.Tree tree) ≡ newest s (object.Tree tree)
  none : On 0
  first : On 1
  rooted : (page : ℕ) → RootNames s tree page → On page
  further : (from page : ℕ) (bytes : List ℕ) (node : Node) → On from → newest s (object.Page tree from) ≡ Some bytes → IsNode bytes node → NamesPage node page → On page

module _ (s t : CloudState) (tree : ℕ) (On : ℕ → Type 0) (a : AreSame s t tree On) where
  leaf_right : (page : ℕ) (l : Leaf) → On page → IsNewestLeaf s tree page l → On l.right
  leaf_right page l on is = by (newest s (object.Page tree page)) refl is
    where
      by : (o : Option (List ℕ)) → newest s (object.Page tree page) ≡ o → IsReadAs tree page o (Ok l) → On l.right
      by None e read = subst (λ (x : Leaf). On x.right) (sym read.1) a.none
      by (Some bytes) e read = a.further page l.right bytes (Leafy l) on e read (inr refl)

  leaf_same : (page : ℕ) (l : Leaf) → On page → IsNewestLeaf s tree page l → IsNewestLeaf t tree page l
  leaf_same page l on is = subst (λ (o : Option (List ℕ)). IsReadAs tree page o (Ok l)) (sym (a.same page on)) is

  inner_same : (page : ℕ) (n : Inner) → On page → IsNewestInner s tree page n → IsNewestInner t tree page n
  inner_same page n on (bytes, e, is) = (bytes, a.same page on ∙ e, is)

  leads_same : (leaves : List Leaf) (from to : ℕ) → On from → Leads s tree from leaves to → Leads t tree from leaves to
  leads_same [] from to on e = e
  leads_same (l ∷ leaves) from to on (is, newest_is, rest) = (is, leaf_same from l on newest_is, leads_same leaves l.right to (leaf_right from l on newest_is) rest)

  reaches_same : (key : List ℕ) (level page : ℕ) (leaf : Leaf) → On page → Reaches s tree key level page leaf → Reaches t tree key level page leaf
  reaches_same key _ _ _ on (ends page leaf is within) = ends page leaf (leaf_same page leaf on is) within
  reaches_same key _ _ _ on (right_leaf page from leaf is right rest) =
      right_leaf page from leaf (leaf_same page from on is) right (reaches_same key 0 from.right leaf (leaf_right page from on is) rest)
  reaches_same key _ _ _ on (right_inner level page node leaf is right rest) =
      right_inner level page node leaf (inner_same page node on is) right
      (reaches_same key (suc level) node.right leaf (a.further page node.right is.0 (Branch node) on is.1 is.2 (inr refl)) rest)
  reaches_same key _ _ _ on (down level page node leaf low child is within found rest) =
      down level page node leaf low child (inner_same page node on is) within found
      (reaches_same key level child leaf (a.further page child is.0 (Branch node) on is.1 is.2 (inl ((low, child), child_in key node.entries (low, child) found, refl))) rest)

  root_child : (root : Tree) (key low : List ℕ) (child : ℕ) → IsRootIn (newest s (object.Tree tree)) root → child_of key root.entries ≡ Some (low, child) → On child
  root_child root key low child is found = by (newest s (object.Tree tree)) refl is
    where
      only : (b : Bool) → later_of (cond b None (Some ([], 1))) None ≡ Some (low, child) → On child
      only true e = absurd (cc (e))
      only false e =
          let both : ([], 1) ≡ (low, child) = cc (e) in
          let one : 1 ≡ child = ap (λ (x : Child). x.1) both in
          subst On one a.first

      by : (o : Option (List ℕ)) → newest s (object.Tree tree) ≡ o → IsRootIn o root → On child
      by None e empty = only (bytes_below key []) (sym (ap (λ (r : Tree). child_of key r.entries) empty) ∙ found)
      by (Some bytes) e spells =
          a.rooted child (record { bytes = bytes; newest_is = e; root = root; spells = spells; names = ((low, child), child_in key root.entries (low, child) found, refl) })

  finds_same : (key : List ℕ) (value : Option Value) → Finds s tree key value → Finds t tree key value
  finds_same key value f = record {
    root = f.root;
    is_root = subst (λ (o : Option (List ℕ)). IsRootIn o f.root) (sym a.root) f.is_root;
    low = f.low;
    child = f.child;
    entry = f.entry;
    above = f.above;
    level = f.level;
    leaf = f.leaf;
    reaches = reaches_same key f.above f.child f.leaf (root_child f.root key f.low f.child f.is_root f.entry) f.reaches;
    value_is = f.value_is;
  }

-- ---- behind a sweep

module _ (book : Book) (order : List Entry) (s t : CloudState) (stands : StandsUnder book order s) (swept : ℕ) (of_tree : IsTree swept) (r : Remains s t swept) where
  -- pages of another tree
  other_same : (tree : ℕ) → tree ≢ swept → AreSame s t tree (λ page. Unit {0})
  other_same tree other = record {
    same = λ page on. ap newest_of (r.others tree page other);
    root = ap newest_of (r.roots tree);
    none = tt;
    first = tt;
    rooted = λ page names. tt;
    further = λ from page bytes node on e is leads. tt;
  }

  -- a page that is reached where it has bytes
  abbrev IsOn : ℕ → Type 0
  IsOn page = HasBytes s swept page → IsReached s swept page

  some_page : (page : ℕ) → HasBytes s swept page → 0 < page
  some_page page has =
      ((stands.holds.chains swept of_tree).pages.landed page (λ none. let no : None ≡ Some has.0 = sym (some_landed s swept page none) ∙ has.1 in absurd (cc (no)))).0

  on_same : (page : ℕ) → IsOn page → newest t (object.Page swept page) ≡ newest s (object.Page swept page)
  on_same page on = by (r.pages page)
    where
      by : PageRemains s t swept page → newest t (object.Page swept page) ≡ newest s (object.Page swept page)
      by (inl e) = ap newest_of e
      by (inr w) = absurd (w.unreached (on w.had))

  further_on : (from page : ℕ) (bytes : List ℕ) (node : Node) → IsOn from → newest s (object.Page swept from) ≡ Some bytes → IsNode bytes node → NamesPage node page → IsOn page
  further_on from page bytes node on e is (inl child) has =
      from_page from page (on (bytes, e)) (record { bytes = bytes; newest_is = e; node = node; spells = is; names = inl child }) has
  further_on from page bytes node on e is (inr right) has =
      from_page from page (on (bytes, e)) (record { bytes = bytes; newest_is = e; node = node; spells = is; names = inr (right, some_page page has) }) has

  own_same : AreSame s t swept IsOn
  own_same = record {
    same = on_same;
    root = ap newest_of (r.roots swept);
    none = λ has. let never = some_page 0 has in absurd (omega (arith, never));
    first = λ has. first_page has;
    rooted = λ page names has. from_root page names has;
    further = further_on;
  }

  -- by the tree
  leaves_same : (tree : ℕ) (leaves : List Leaf) → AreLeaves s tree leaves → AreLeaves t tree leaves
  leaves_same tree leaves are = by (tree == swept) refl
    where
      by : (b : Bool) → (tree == swept) ≡ b → AreLeaves t tree leaves
      by true e =
          let is = eqb-true tree swept e in
          subst (λ (k : ℕ). AreLeaves t k leaves) (sym is)
          (leads_same s t swept IsOn own_same leaves 1 0 (λ has. first_page has) (subst (λ (k : ℕ). AreLeaves s k leaves) is are))
      by false e = leads_same s t tree (λ page. Unit {0}) (other_same tree (eqb-false tree swept e)) leaves 1 0 tt are

  found_same : (tree : ℕ) (key : List ℕ) (value : Option Value) → Finds s tree key value → Finds t tree key value
  found_same tree key value f = by (tree == swept) refl
    where
      by : (b : Bool) → (tree == swept) ≡ b → Finds t tree key value
      by true e =
          let is = eqb-true tree swept e in
          subst (λ (k : ℕ). Finds t k key value) (sym is) (finds_same s t swept IsOn own_same key value (subst (λ (k : ℕ). Finds s k key value) is f))
      by false e = finds_same s t tree (λ page. Unit {0}) (other_same tree (eqb-false tree swept e)) key value f

  heads_same : (tree : ℕ) (committed : List Entry) (most : ℕ) → heads_upto t tree committed most ≡ heads_upto s tree committed most
  unfolding heads_upto
  heads_same tree committed zero = refl
  heads_same tree committed (suc n) =
      ap (λ (k : ℕ). k + open_at t (suc n) tree committed) (heads_same tree committed n)
      ∙ ap (λ (o : Option (List ℕ)). heads_upto s tree committed n + open_count (suc n) tree committed (head_in o)) (ap newest_of (r.heads (suc n)))

  below_same : (tree next : ℕ) → messages_below t tree next ≡ messages_below s tree next
  unfolding messages_below
  below_same tree zero = refl
  below_same tree (suc n) =
      ap (λ (k : ℕ). k + length (unmarked (t.messages (queue_at tree n)))) (below_same tree n)
      ∙ ap (λ (ms : List Posted). messages_below s tree n + length (unmarked ms)) (r.messages (queue_at tree n))

  waiting_same : (tree count : ℕ) → AreWaiting s tree count → AreWaiting t tree count
  waiting_same tree count w = record {
    next = w.next;
    is_next = subst (λ (o : Option (List ℕ)). IsNextPage o w.next) (sym (ap newest_of (r.roots tree))) w.is_next;
    sum = subst (λ (k : ℕ). count ≡ min k greatest) (sym (below_same tree w.next)) w.sum;
  }

  pub tells_same : TellsTheSame s t
  tells_same = record { contents = leaves_same; found = found_same; heads = heads_same; messages = waiting_same }
