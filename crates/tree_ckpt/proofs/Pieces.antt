-- What is put for a page are the pieces that it is cut into, none of them long.
use Rattle.std.proofs.Common.{◌≡◌, ◌≢◌, ℕ, zero, suc, ◌+◌, ◌-◌, ◌*◌, ◌/◌, ◌%◌, ◌<◌, ◌≤◌, Bool, true, false, cond, List, [], ◌∷◌, ◌++◌, length, Option, Some, None, Result, Ok, Err, refl, ◌⊎◌, sym, ap, subst, ◌∙◌, inl, inr, arith}
use Rattle.std.specs.Prelude.{◌==◌, ◌&&◌, nat_lt, map, reverse, drop, replicate}
use Rattle.std.specs.List.{AllByRecursion}
use Rattle.std.proofs.Math.Nat.{div-add-mod}
use Rattle.std.proofs.lemmas.Bool.{eqb-true, eqb-false, ltb-true, ltb-false}
use Rattle.byte_format.specs.Whole.{offset}
use Rattle.leaf_view.specs.Leaf.{Leaf}
use Rattle.leaf_edit.specs.Applied.{applied}
use Rattle.node_codec.specs.Inner.{Inner, inner_of, inner_format, node_of_root}
use Rattle.node_codec.specs.Node.{Entry, raised}
use Rattle.node_codec.specs.Tree.{Tree, tree_bytes}
use Rattle.split_plan.specs.Cut.{back_part, cut_by, pieces_of}
use Rattle.split_plan.specs.Part.{Part, NodePart, record_key, entry_key, part_of_leaf, part_of_node}
use Rattle.split_plan.specs.Plan.{put_of, entry_of, on_pages, leaf_bytes, node_bytes, root_above}
use Rattle.split_plan.specs.Sizes.{count_of, sizes_of, cuts_of}
use Rattle.split_plan.proofs.Counting.{least-count, length-cuts}
use Rattle.split_plan.proofs.Cutting.{pieces-are-a-cut}
use Rattle.tree_phases.specs.Read.{inner_or}
use Rattle.tree_phases.specs.Reserve.{reservation, reserved_by, next_tree, version_spent, pages_spent}
use Rattle.tree_phases.specs.Plan as fold
use Rattle.tree_phases.specs.Nodes as nodes
use Rattle.tree_phases.specs.Folding.{no_placing}
use Rattle.tree_phases.specs.Rising.{plan_of}
use Rattle.tree_phases.specs.Root.{raised_root as planned_root, risen_by, lowered, cut_at, cut_behind, cut_by as cut_by_count, root_cut, root_plan, uncut}
use Rattle.tree_ckpt.specs.Working.{Reserves, PutsPieces, form_of, PutsLeaf, PutsNode, linked_node, raised_root, PutsWhole, PutsBelow, PutsRoot}
use Rattle.tree_ckpt.proofs.Words.{Trouble, PuItem, KeptNode, Link, Reserved, PagePlan, RootPlan}
use Rattle.tree_ckpt.proofs.Spent.{named_numbered}

-- ---- no piece is long

abbrev AreSmall : List ℕ → Type 0
AreSmall ns = AllByRecursion (λ n. n ≤ 64) ns

small_both : (xs ys : List ℕ) → AreSmall xs → AreSmall ys → AreSmall (xs ++ ys)
small_both [] ys h k = k
small_both (x ∷ xs) ys h k = (h.0, small_both xs ys h.1 k)

small_same : (n x : ℕ) → (1 ≤ n → x ≤ 64) → AreSmall (replicate n x)
small_same zero x h = tt
small_same (suc n) x h = (h (omega arith), small_same n x (λ some. h (omega arith)))

-- so many items in so few pieces leave nothing over
full_by : (q d r len : ℕ) → suc q * (64 + d) + r ≡ len → len ≤ 64 * suc q → (d ≡ 0) × (r ≡ 0)
full_by q d r len is few = (omega (arith, is, few), omega (arith, is, few))

record IsShortBy (b r : ℕ) : Type 0 where
  size : b ≤ 64
  longer : 1 ≤ r → b + 1 ≤ 64

short_by : (q b r len : ℕ) → suc q * b + r ≡ len → len ≤ 64 * suc q → IsShortBy b r
short_by q b r len is few = on (nat_lt b 64) refl where
  on : (under : Bool) → nat_lt b 64 ≡ under → IsShortBy b r
  on true e = let less : b < 64 = ltb-true b 64 e in record { size = omega (arith, less); longer = λ some. omega (arith, less) }
  on false e =
      let more : 64 ≤ b = ltb-false b 64 e in
      let whole : 64 + (b - 64) ≡ b = omega (arith, more) in
      let full = full_by q (b - 64) r len (ap (λ (c : ℕ). suc q * c + r) whole ∙ is) few in
      record { size = omega (arith, more, full.0); longer = λ some. absurd (omega (arith, some, full.1)) }

small_sizes : (len : ℕ) → AreSmall (sizes_of len)
small_sizes len =
    let q : ℕ = (len - 1) / 64 in
    let short : IsShortBy (len / count_of len) (len % count_of len) =
    short_by q (len / count_of len) (len % count_of len) len (counted (count_of len) q (omega arith) (div-add-mod len (count_of len)))
    (omega (arith, (least-count len).enough)) in
    small_both (replicate (len % count_of len) (len / count_of len + 1)) (replicate (count_of len - len % count_of len) (len / count_of len))
    (small_same (len % count_of len) (len / count_of len + 1) short.longer)
    (small_same (count_of len - len % count_of len) (len / count_of len) (λ some. short.size)) where
      counted : (count q : ℕ) → count ≡ suc q → count * (len / count_of len) + len % count_of len ≡ len → suc q * (len / count_of len) + len % count_of len ≡ len
      counted count q e h = ap (λ (n : ℕ). n * (len / count_of len) + len % count_of len) (sym e) ∙ h

small_pieces : {A X : Type 0} (ps : List (Part A X)) (sizes : List ℕ) → map (λ (q : Part A X). length q.items) ps ≡ sizes → AreSmall sizes
    → AllByRecursion (λ (q : Part A X). length q.items ≤ 64) ps
small_pieces ps sizes e h = on ps (subst AreSmall (sym e) h) where
  on : {A X : Type 0} (qs : List (Part A X)) → AreSmall (map (λ (q : Part A X). length q.items) qs) → AllByRecursion (λ (q : Part A X). length q.items ≤ 64) qs
  on [] k = tt
  on (q ∷ qs) k = (k.0, on qs k.1)

-- ---- the numbers of new pages

length_cut : {A X : Type 0} (key : A → List ℕ) (sizes : List ℕ) (free : ℕ) (p : Part A X) → length (cut_by key sizes free p) ≡ length sizes + 1
length_cut key [] free p = refl
length_cut key (n ∷ sizes) free p = omega (arith, length_cut key sizes (free + 1) (back_part key n p))

-- as many as there are pieces behind the first
new_count : {A X : Type 0} (key : A → List ℕ) (free : ℕ) (whole : Part A X) → count_of (length whole.items) - 1 ≡ length (pieces_of key free whole) - 1
new_count key free whole = omega (arith, length_cut key (cuts_of (length whole.items)) free whole, length-cuts (length whole.items))

reserves_of : (root : Tree) (page count : ℕ) (r : Reserved) → reservation root page count ≡ Ok r → Reserves root r.first count r.put
reserves_of root page count r e = on (count == 0) refl e where
  made : Tree → Reserved
  made u = record { put = Some (tree_bytes (record u { next = u.next + count })); first = u.next }

  over : (u : Tree) (b : Bool) → nat_lt 18446744073709551615 (u.next + count) ≡ b → u ≡ record root { version = root.version + 1 } → root.version ≢ 18446744073709551615
      → cond b (Err pages_spent) (Ok (made u)) ≡ Ok r → Reserves root r.first count r.put
  over u true most same spare f = absurd (cc (f))
  over u false most same spare f =
      let is : made u ≡ r = cc (f) in
      let within : root.next + count ≤ 18446744073709551615 =
      subst (λ (t : Tree). t.next + count ≤ 18446744073709551615) same (ltb-false 18446744073709551615 (u.next + count) most) in
      subst (λ (x : Reserved). Reserves root x.first count x.put) is
      (subst (λ (t : Tree). Reserves root (made t).first count (made t).put) (sym same) (refl, spare, within, refl))

  next : (b : Bool) → (root.version == 18446744073709551615) ≡ b → reserved_by count (cond b (Err version_spent) (Ok (record root { version = root.version + 1 }))) ≡ Ok r
      → Reserves root r.first count r.put
  next true same f = absurd (cc (f))
  next false same f =
      over (record root { version = root.version + 1 }) (nat_lt 18446744073709551615 (root.next + count)) refl refl (eqb-false root.version 18446744073709551615 same) f

  on : (b : Bool) → (count == 0) ≡ b → cond b (Ok (record { put = None; first = page })) (reserved_by count (next_tree root)) ≡ Ok r → Reserves root r.first count r.put
  on true none f =
      let is : record { put = None; first = page } ≡ r = cc (f) in
      subst (λ (x : Reserved). Reserves root x.first count x.put) is (eqb-true count 0 none)
  on false none f = next (root.version == 18446744073709551615) refl f

-- ---- a leaf

module _ {A X : Type 0} (key : A → List ℕ) (bytes : Part A X → List ℕ) (root : Tree) (page : ℕ) (whole : Part A X) where
  pieces_put : (r : Reserved) → Reserves root r.first (count_of (length whole.items) - 1) r.put
      → PutsPieces (form_of key bytes) root page whole (record { reserved = r.put; puts = reverse (map (put_of bytes) (on_pages page r.first (pieces_of key r.first whole))) })
      (drop 1 (map entry_of (on_pages page r.first (pieces_of key r.first whole))))
  pieces_put r numbers = record {
    first = r.first;
    pieces = pieces_of key r.first whole;
    cut = pieces-are-a-cut key r.first whole;
    small = small_pieces (pieces_of key r.first whole) (sizes_of (length whole.items)) (pieces-are-a-cut key r.first whole).sizes (small_sizes (length whole.items));
    numbers = subst (λ (n : ℕ). Reserves root r.first n r.put) (new_count key r.first whole) numbers;
    puts = refl;
    entries = refl;
  }

pub leaf_puts : (root : Tree) (page : ℕ) (l : Leaf) (run : List PuItem) (p : PagePlan) → fold.leaf_plan root page l run ≡ Ok p → PutsLeaf root page l run p
leaf_puts root page l run p e = on (l.version == 18446744073709551615) e where
  whole : Leaf
  whole = applied l 0 run

  planned : (r : Result Reserved Trouble) → reservation root page (count_of (length (applied l 0 run).records) - 1) ≡ r → fold.planned_by page (applied l 0 run) r ≡ Ok p → PutsLeaf root page l run p
  planned (Ok r) is f =
      let same : fold.in_pieces page (applied l 0 run) r ≡ p = cc (f) in
      subst (PutsLeaf root page l run) same
      (pieces_put record_key leaf_bytes root page (part_of_leaf (applied l 0 run)) r (reserves_of root page (count_of (length (applied l 0 run).records) - 1) r is))
  planned (Err t) is f = absurd (cc (f))

  on : (b : Bool) → cond b (Err version_spent) (fold.planned_by page (applied l 0 run) (reservation root page (count_of (length (applied l 0 run).records) - 1))) ≡ Ok p
      → PutsLeaf root page l run p
  on true f = absurd (cc (f))
  on false f = planned (reservation root page (count_of (length (applied l 0 run).records) - 1)) refl f

-- ---- an inner node

pub node_puts : (root : Tree) (tree : ℕ) (k : KeptNode) (ls : List Link) (p : PagePlan) → nodes.node_plan root tree k ls ≡ Ok p → PutsNode root k ls p
node_puts root tree k ls p e = on (inner_of k.bytes) refl e where
  planned : (n : Inner) → inner_of k.bytes ≡ Some n → (r : Result Reserved Trouble) → reservation root k.page (count_of (length (nodes.with_links n ls n.entries)) - 1) ≡ r
      → nodes.planned_by k.page (linked_node n ls) r ≡ Ok p → PutsNode root k ls p
  planned n spelt (Ok r) is f =
      let same : nodes.in_pieces k.page (linked_node n ls) r ≡ p = cc (f) in (
        n,
        spelt,
        subst (λ (q : PagePlan). PutsPieces (form_of entry_key node_bytes) root k.page (part_of_node (linked_node n ls)) q.placing q.entries) same
            (pieces_put entry_key node_bytes root k.page (part_of_node (linked_node n ls)) r
            (reserves_of root k.page (count_of (length (nodes.with_links n ls n.entries)) - 1) r is)),
      )
  planned n spelt (Err t) is f = absurd (cc (f))

  linked : (n : Inner) → inner_of k.bytes ≡ Some n → (b : Bool)
      → nodes.planned_of root k.page (cond b (Err version_spent) (Ok (linked_node n ls))) ≡ Ok p → PutsNode root k ls p
  linked n spelt true f = absurd (cc (f))
  linked n spelt false f = planned n spelt (reservation root k.page (count_of (length (nodes.with_links n ls n.entries)) - 1)) refl f

  on : (o : Option Inner) → inner_of k.bytes ≡ o → nodes.planned_of root k.page (nodes.linked_by ls (inner_or tree k.page (offset inner_format k.bytes) o)) ≡ Ok p
      → PutsNode root k ls p
  on (Some n) spelt f = linked n spelt (n.version == 18446744073709551615) f
  on None spelt f = absurd (cc (f))

-- ---- the tree object

reserves_at : (root : Tree) (first other count : ℕ) (put : Option (List ℕ)) → other ≡ root.next → Reserves root first count put → Reserves root other count put
reserves_at root first other count None e h = h
reserves_at root first other count (Some bytes) e h = (e, h.1, h.2, h.3)

-- the pieces of a tree object, all on reserved numbers
pub record PutsParts (root t : Tree) (p : RootPlan) : Type 0 where
  pub first : ℕ
  pub pieces : List NodePart
  pub numbers : Reserves root first (length pieces) p.placing.reserved
  pub puts : p.placing.puts ≡ reverse (map (put_of node_bytes) (on_pages first (first + 1) pieces))

module _ (root t : Tree) (same : t.next ≡ root.next) where
  below_put : (put : Option (List ℕ)) → Reserves root t.next (count_of (length t.entries)) put
      → PutsBelow root t (lowered put false (record t { version = t.version + 1; next = t.next + count_of (length t.entries) }) t.next)
  below_put put numbers =
      let pieces : List NodePart = pieces_of entry_key (t.next + 1) (part_of_node (node_of_root t)) in
      let count : length pieces ≡ count_of (length t.entries) =
      length_cut entry_key (cuts_of (length t.entries)) (t.next + 1) (part_of_node (node_of_root t)) ∙ length-cuts (length t.entries) in
      record {
        pieces = pieces;
        cut = pieces-are-a-cut entry_key (t.next + 1) (part_of_node (node_of_root t));
        small = small_pieces pieces (sizes_of (length t.entries)) (pieces-are-a-cut entry_key (t.next + 1) (part_of_node (node_of_root t))).sizes (small_sizes (length t.entries));
        numbers = subst (λ (n : ℕ). Reserves root t.next n put) (sym count) numbers;
        puts = refl;
        last = ap (λ (n : ℕ). tree_bytes (root_above (map entry_of (on_pages t.next (t.next + 1) pieces)) (record t { version = t.version + 1; next = t.next + n }))) (sym count);
      }

  -- whether it is put behind its pieces or no version is left for it, they are put so
  cut_places : (p : RootPlan) (r : Result Reserved Trouble) → reservation root 1 (count_of (length t.entries)) ≡ r → cut_behind t r ≡ Ok p → PutsParts root t p
  cut_places p (Err f) is e = absurd (cc (e))
  cut_places p (Ok r) is e = next (t.version == 18446744073709551615) e where
    at : (spent : Bool) (u : Tree) → u.next ≡ t.next → u.entries ≡ t.entries → cut_at r.put (count_of (length t.entries)) spent u ≡ Ok p → PutsParts root t p
    at spent u nexts entries f = placed (nat_lt 18446744073709551615 (u.next + count_of (length t.entries))) f where
      made : RootPlan
      made = lowered r.put spent (record u { next = u.next + count_of (length t.entries) }) u.next

      placed : (b : Bool) → cond b (Err pages_spent) (Ok made) ≡ Ok p → PutsParts root t p
      placed true g = absurd (cc (g))
      placed false g =
          let is_made : made ≡ p = cc (g) in
          let pieces : List NodePart = pieces_of entry_key (u.next + 1) (part_of_node (node_of_root u)) in
          let count : length pieces ≡ count_of (length t.entries) =
          length_cut entry_key (cuts_of (length u.entries)) (u.next + 1) (part_of_node (node_of_root u)) ∙ length-cuts (length u.entries) ∙ ap (λ (es : List Entry). count_of (length es)) entries in
          subst (PutsParts root t) is_made
          (record {
            first = u.next;
            pieces = pieces;
            numbers = subst (λ (n : ℕ). Reserves root u.next n r.put) (sym count)
                (reserves_at root r.first u.next (count_of (length t.entries)) r.put (nexts ∙ same) (reserves_of root 1 (count_of (length t.entries)) r is));
            puts = refl;
          })

    next : (b : Bool) → cut_by_count r.put (count_of (length t.entries)) t (cond b (Err version_spent) (Ok (record t { version = t.version + 1 }))) ≡ Ok p → PutsParts root t p
    next true f = at true t refl refl f
    next false f = at false (record t { version = t.version + 1 }) refl refl f

  cut_put : (p : RootPlan) (r : Result Reserved Trouble) → p.is_spent ≡ false → reservation root 1 (count_of (length t.entries)) ≡ r → cut_behind t r ≡ Ok p → PutsBelow root t p
  cut_put p (Err f) whole is e = absurd (cc (e))
  cut_put p (Ok r) whole is e = next (t.version == 18446744073709551615) e where
    made : RootPlan
    made = lowered r.put false (record t { version = t.version + 1; next = t.next + count_of (length t.entries) }) t.next

    at : (b : Bool) → cond b (Err pages_spent) (Ok made) ≡ Ok p → PutsBelow root t p
    at true f = absurd (cc (f))
    at false f =
        let is_made : made ≡ p = cc (f) in
        subst (PutsBelow root t) is_made
        (below_put r.put (reserves_at root r.first t.next (count_of (length t.entries)) r.put same (reserves_of root 1 (count_of (length t.entries)) r is)))

    -- where no version is left it is not put
    spent : (b : Bool) → cond b (Err pages_spent) (Ok (lowered r.put true (record t { next = t.next + count_of (length t.entries) }) t.next)) ≡ Ok p → PutsBelow root t p
    spent true f = absurd (cc (f))
    spent false f =
        let is_made : lowered r.put true (record t { next = t.next + count_of (length t.entries) }) t.next ≡ p = cc (f) in
        let both : true ≡ false = ap (λ (q : RootPlan). q.is_spent) is_made ∙ whole in
        absurd (cc (both))

    next : (b : Bool) → cut_by_count r.put (count_of (length t.entries)) t (cond b (Err version_spent) (Ok (record t { version = t.version + 1 }))) ≡ Ok p → PutsBelow root t p
    next true f = spent (nat_lt 18446744073709551615 (t.next + count_of (length t.entries))) f
    next false f = at (nat_lt 18446744073709551615 (t.next + count_of (length t.entries))) f

  whole_put : (p : RootPlan) → uncut t ≡ p → PutsWhole t p
  whole_put p e = (sym (ap (λ (q : RootPlan). q.placing) e), sym (ap (λ (q : RootPlan). q.last) e))

  plan_put : (p : RootPlan) → p.is_spent ≡ false → root_plan root t ≡ Ok p → PutsRoot root t p
  plan_put p whole e = on (nat_lt 64 (length t.entries)) refl (nat_lt root.level 255) refl e where
    on : (long : Bool) → nat_lt 64 (length t.entries) ≡ long → (low : Bool) → nat_lt root.level 255 ≡ low → cond (long && low) (root_cut root t) (Ok (uncut t)) ≡ Ok p
        → PutsRoot root t p
    on true l true h f =
        inr (ltb-true 64 (length t.entries) l, ltb-true root.level 255 h, cut_put p (reservation root 1 (count_of (length t.entries))) whole refl f)
    on true l false h f = inl (inr (ltb-false root.level 255 h), whole_put p (cc (f)))
    on false l low h f = inl (inl (ltb-false 64 (length t.entries) l), whole_put p (cc (f)))

  plan_places : (p : RootPlan) → root_plan root t ≡ Ok p → (p.placing ≡ no_placing) ⊎ PutsParts root t p
  plan_places p e = on (nat_lt 64 (length t.entries) && nat_lt root.level 255) e where
    on : (b : Bool) → cond b (root_cut root t) (Ok (uncut t)) ≡ Ok p → (p.placing ≡ no_placing) ⊎ PutsParts root t p
    on true f = inr (cut_places p (reservation root 1 (count_of (length t.entries))) refl f)
    on false f = inl (whole_put p (cc (f))).0

module _ (root : Tree) (ls : List Link) (top : List (ℕ × ℕ)) (p : RootPlan) (e : plan_of root (planned_root root ls top) ≡ Ok p) where
  same_next : (raised_root root ls top).next ≡ root.next
  same_next = (named_numbered root.level ls (record (record root { version = root.version + 1 }) { cursor = raised root.cursor top })).1

  made_plan : root_plan root (raised_root root ls top) ≡ Ok p
  made_plan = on (root.version == 18446744073709551615) e where
    on : (b : Bool) → plan_of root (risen_by root.level ls top (cond b (Err version_spent) (Ok (record root { version = root.version + 1 })))) ≡ Ok p
        → root_plan root (raised_root root ls top) ≡ Ok p
    on true f = absurd (cc (f))
    on false f = f

  pub root_puts : p.is_spent ≡ false → PutsRoot root (raised_root root ls top) p
  root_puts whole = plan_put root (raised_root root ls top) same_next p whole made_plan

  pub root_places : (p.placing ≡ no_placing) ⊎ PutsParts root (raised_root root ls top) p
  root_places = plan_places root (raised_root root ls top) same_next p made_plan
