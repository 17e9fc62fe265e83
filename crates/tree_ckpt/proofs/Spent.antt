-- What is planned stops exactly where a version or the numbers of new pages are spent.
use Rattle.std.proofs.Common.{◌≡◌, ◌≢◌, ◌+◌, ◌<◌, ℕ, Bool, true, false, cond, List, [], ◌∷◌, length, Option, Some, None, Result, Ok, Err, refl, sym, ap, subst, ◌∙◌, inl, inr, arith}
use Rattle.std.specs.Prelude.{◌==◌, ◌&&◌, ◌-◌, nat_lt, map}
use Rattle.std.proofs.lemmas.Bool.{eqb-true, eqb-false, eq-eqb, ne_eqb, ltb-true, lt-ltb}
use Rattle.std.proofs.lemmas.List.{length-map, length-reverse}
use Rattle.byte_format.specs.Format.{greatest}
use Rattle.byte_format.specs.Whole.{offset}
use Rattle.db_base.specs.declared.trouble.Trouble.{Trouble}
use Rattle.db_base.specs.declared.trouble.Trouble.TheVariants as trouble
use Rattle.db_base.specs.declared.trouble.Counter.TheVariants as counter
use Rattle.leaf_view.specs.Leaf.{Leaf}
use Rattle.leaf_edit.specs.Applied.{applied}
use Rattle.log_codec.specs.declared.record.PuItem.{PuItem}
use Rattle.node_codec.specs.Inner.{Inner, inner_of, inner_format, node_of_root}
use Rattle.node_codec.specs.Node.{with_entry}
use Rattle.node_codec.specs.Node.{raised as raised_cursor}
use Rattle.node_codec.specs.Tree.{Tree, tree_bytes, with_child}
use Rattle.split_plan.specs.Cut.{cut_by as pieces_by}
use Rattle.split_plan.specs.Part.{NodePart, entry_key, part_of_node}
use Rattle.split_plan.specs.Plan.{put_of, on_pages, node_bytes, root_pieces}
use Rattle.split_plan.specs.Sizes.{count_of, cuts_of}
use Rattle.tree_phases.specs.declared.kept.KeptNode.{KeptNode}
use Rattle.tree_phases.specs.declared.link.Link.{Link}
use Rattle.tree_phases.specs.declared.reserve.Reserved.{Reserved}
use Rattle.tree_phases.specs.Read.{inner_or}
use Rattle.tree_phases.specs.Reserve.{version_spent, pages_spent, next_tree, reserved, reserved_by, reservation}
use Rattle.tree_phases.specs.declared.page_plan.PagePlan.{PagePlan}
use Rattle.tree_phases.specs.Plan as plan
use Rattle.tree_phases.specs.declared.root.RootPlan.{RootPlan}
use Rattle.tree_phases.specs.Nodes as nodes
use Rattle.tree_phases.specs.Rising.{plan_of}
use Rattle.tree_phases.specs.Root.{is_named, with_named, risen_by, lowered, cut_at, cut_by, cut_behind, root_cut, root_plan, uncut}
use Rattle.tree_ckpt.specs.Due.{Due, LeafDue, NodeDue, RootDue, raised, root_of, version_of, pages_of, Reserves, IsSpent, HasNoPages}

-- so the trouble is for what is due
abbrev pub IsSpentFor : Due → Trouble → Type 0
IsSpentFor due (trouble.Exhausted counter.Version) = IsSpent due
IsSpentFor due (trouble.Exhausted counter.Pages) = HasNoPages due
IsSpentFor due t = ⊥

abbrev pub PlanTells : {A : Type 0} → Due → Result A Trouble → Type 0
PlanTells due (Ok x) = Unit {0}
PlanTells due (Err t) = IsSpentFor due t

-- ---- a reservation

reserved_tells : (due : Due) → Reserves due → (root_of due).version ≢ greatest → PlanTells due (reserved (pages_of due) (record (root_of due) { version = (root_of due).version + 1 }))
reserved_tells due some spare = on (nat_lt greatest ((root_of due).next + pages_of due)) refl where
  next : Tree
  next = record (root_of due) { version = (root_of due).version + 1 }

  on : (b : Bool) → nat_lt greatest ((root_of due).next + pages_of due) ≡ b
      → PlanTells due (let made : Reserved = record { put = Some (tree_bytes (record next { next = next.next + pages_of due })); first = next.next } in cond b (Err pages_spent) (Ok made))
  on true e = (some, spare, ltb-true greatest ((root_of due).next + pages_of due) e)
  on false e = tt

pub reservation_tells : (due : Due) (page : ℕ) → version_of due ≢ greatest → PlanTells due (reservation (root_of due) page (pages_of due))
reservation_tells due page spare = on (pages_of due == 0) refl where
  root : Tree
  root = root_of due

  next : pages_of due ≢ 0 → (b : Bool) → (root.version == greatest) ≡ b
      → PlanTells due (reserved_by (pages_of due) (cond b (Err version_spent) (Ok (record root { version = root.version + 1 }))))
  next some true e = inr ((spare, some), eqb-true root.version greatest e)
  next some false e = reserved_tells due (spare, some) (eqb-false root.version greatest e)

  on : (b : Bool) → (pages_of due == 0) ≡ b
      → PlanTells due (let none : Reserved = record { put = None; first = page } in cond b (Ok none) (reserved_by (pages_of due) (next_tree root)))
  on true e = tt
  on false e = next (eqb-false (pages_of due) 0 e) (root.version == greatest) refl

-- ---- a leaf

leaf_by_tells : (due : Due) (page : ℕ) (l : Leaf) (r : Result Reserved Trouble) → PlanTells due r → PlanTells due (plan.planned_by page l r)
leaf_by_tells due page l (Ok r) h = tt
leaf_by_tells due page l (Err t) h = h

pub leaf_plan_tells : (root : Tree) (page : ℕ) (l : Leaf) (run : List PuItem) → PlanTells (LeafDue root l run) (plan.leaf_plan root page l run)
leaf_plan_tells root page l run = on (l.version == greatest) refl where
  due : Due
  due = LeafDue root l run

  on : (b : Bool) → (l.version == greatest) ≡ b
      → PlanTells due (cond b (Err version_spent) (plan.planned_by page (applied l 0 run) (reservation root page (count_of (length (applied l 0 run).records) - 1))))
  on true e = inl (eqb-true l.version greatest e)
  on false e = leaf_by_tells due page (applied l 0 run) (reservation root page (pages_of due)) (reservation_tells due page (eqb-false l.version greatest e))

-- ---- a node

node_by_tells : (due : Due) (page : ℕ) (n : Inner) (r : Result Reserved Trouble) → PlanTells due r → PlanTells due (nodes.planned_by page n r)
node_by_tells due page n (Ok r) h = tt
node_by_tells due page n (Err t) h = h

linked_tells : (root : Tree) (page : ℕ) (n : Inner) (ls : List Link) → PlanTells (NodeDue root n ls) (nodes.planned_of root page (nodes.linked n ls))
linked_tells root page n ls = on (n.version == greatest) refl where
  due : Due
  due = NodeDue root n ls

  next : Inner
  next = record n { version = n.version + 1; entries = nodes.with_links n ls n.entries }

  on : (b : Bool) → (n.version == greatest) ≡ b → PlanTells due (nodes.planned_of root page (cond b (Err version_spent) (Ok next)))
  on true e = inl (eqb-true n.version greatest e)
  on false e = node_by_tells due page next (reservation root page (pages_of due)) (reservation_tells due page (eqb-false n.version greatest e))

pub node_plan_tells : (root : Tree) (tree : ℕ) (k : KeptNode) (n : Inner) (ls : List Link) → inner_of k.bytes ≡ Some n → PlanTells (NodeDue root n ls) (nodes.node_plan root tree k ls)
node_plan_tells root tree k n ls reads =
    subst (λ (o : Option Inner). PlanTells (NodeDue root n ls) (nodes.planned_of root k.page (nodes.linked_by ls (inner_or tree k.page (offset inner_format k.bytes) o)))) (sym reads)
    (linked_tells root k.page n ls)

-- ---- the tree object

-- names of pages change neither the version nor the next page
abbrev pub Numbered : Tree → Tree → Type 0
Numbered t u = (u.version ≡ t.version) × (u.next ≡ t.next)

child_numbered : (low : List ℕ) (page : ℕ) (t : Tree) → Numbered t (with_child low page t)
child_numbered low page t = on (nat_lt page t.next) where
  on : (b : Bool) → Numbered t (cond b (record t { entries = with_entry low page t.entries }) t)
  on true = (refl, refl)
  on false = (refl, refl)

pub named_numbered : (level : ℕ) (ls : List Link) (t : Tree) → Numbered t (with_named level ls t)
named_numbered level [] t = (refl, refl)
named_numbered level (l ∷ ls) t = on (is_named level l) (λ u. named_numbered level ls u) where
  on : (b : Bool) → ((u : Tree) → Numbered u (with_named level ls u)) → Numbered t (with_named level ls (cond b (with_child l.low l.page t) t))
  on true rest =
      let one = child_numbered l.low l.page t in
      let more = rest (with_child l.low l.page t) in
      (more.0 ∙ one.0, more.1 ∙ one.1)
  on false rest = rest t

module _ (root : Tree) (ls : List Link) (top : List (ℕ × ℕ)) where
  abbrev due : Due
  due = RootDue root ls top

  abbrev t : Tree
  t = raised root ls top

  abbrev count : ℕ
  count = count_of (length t.entries)

  abbrev is_cut : Bool
  is_cut = nat_lt 64 (length t.entries) && nat_lt root.level 255

  same : Numbered (record root { version = root.version + 1 }) t
  same = named_numbered root.level ls (record (record root { version = root.version + 1 }) { cursor = raised_cursor root.cursor top })

  some_pages : pages_of due ≡ count → pages_of due ≢ 0
  some_pages e none = absurd (omega (arith, e, none))

  at_tells : root.version ≢ greatest → pages_of due ≡ count → (put : Option (List ℕ)) (spent : Bool) (u : Tree) → u.next ≡ t.next → PlanTells due (cut_at put count spent u)
  at_tells spare e put spent u next = on (nat_lt greatest (u.next + count)) refl where
    on : (b : Bool) → nat_lt greatest (u.next + count) ≡ b → PlanTells due (cond b (Err pages_spent) (Ok (lowered put spent (record u { next = u.next + count }) u.next)))
    on true f = ((spare, some_pages e), spare, let less = ltb-true greatest (u.next + count) f in omega (arith, less, next, same.1, e))
    on false f = tt

  behind_tells : root.version ≢ greatest → pages_of due ≡ count → (r : Result Reserved Trouble) → reservation root 1 count ≡ r → PlanTells due (cut_behind t r)
  behind_tells spare e (Err f) is =
      subst (λ (r : Result Reserved Trouble). PlanTells due r) (ap (reservation root 1) e ∙ is) (reservation_tells due 1 spare)
  behind_tells spare e (Ok q) is = on (t.version == greatest) where
    on : (b : Bool) → PlanTells due (cut_by q.put count t (cond b (Err version_spent) (Ok (record t { version = t.version + 1 }))))
    on true = at_tells spare e q.put true t refl
    on false = at_tells spare e q.put false (record t { version = t.version + 1 }) refl

  root_tells : root.version ≢ greatest → PlanTells due (root_plan root t)
  root_tells spare = on is_cut refl where
    on : (b : Bool) → is_cut ≡ b → PlanTells due (cond b (root_cut root t) (Ok (uncut t)))
    on true e = behind_tells spare (ap (λ (b : Bool). cond b count 0) e) (reservation root 1 count) refl
    on false e = tt

  pub last_plan_tells : PlanTells due (plan_of root (risen_by root.level ls top (next_tree root)))
  last_plan_tells = on (root.version == greatest) refl where
    on : (b : Bool) → (root.version == greatest) ≡ b
        → PlanTells due (plan_of root (risen_by root.level ls top (cond b (Err version_spent) (Ok (record root { version = root.version + 1 })))))
    on true e = inl (eqb-true root.version greatest e)
    on false e = root_tells (eqb-false root.version greatest e)

-- ---- what is spent stops the plan

abbrev nothing_reserved : ℕ → Reserved
nothing_reserved page = record { put = None; first = page }

abbrev made_reservation : ℕ → Tree → Reserved
made_reservation count t = record { put = Some (tree_bytes (record t { next = t.next + count })); first = t.next }

next_spent : (t : Tree) → t.version ≡ greatest → next_tree t ≡ Err version_spent
next_spent t e = ap (λ (b : Bool). made b) (eq-eqb t.version greatest e) where
  made : Bool → Result Tree Trouble
  made b = cond b (Err version_spent) (Ok (record t { version = t.version + 1 }))

next_made : (t : Tree) → t.version ≢ greatest → next_tree t ≡ Ok (record t { version = t.version + 1 })
next_made t e = ap (λ (b : Bool). made b) (ne_eqb t.version greatest e) where
  made : Bool → Result Tree Trouble
  made b = cond b (Err version_spent) (Ok (record t { version = t.version + 1 }))

reserving : (t : Tree) (page count : ℕ) → count ≢ 0 → reservation t page count ≡ reserved_by count (next_tree t)
reserving t page count some = ap (λ (b : Bool). made b) (ne_eqb count 0 some) where
  made : Bool → Result Reserved Trouble
  made b = cond b (Ok (nothing_reserved page)) (reserved_by count (next_tree t))

reservation_spent : (t : Tree) (page count : ℕ) → count ≢ 0 → t.version ≡ greatest → reservation t page count ≡ Err version_spent
reservation_spent t page count some e = reserving t page count some ∙ ap (reserved_by count) (next_spent t e)

reservation_full : (t : Tree) (page count : ℕ) → count ≢ 0 → t.version ≢ greatest → greatest < t.next + count → reservation t page count ≡ Err pages_spent
reservation_full t page count some spare more =
    reserving t page count some ∙ ap (reserved_by count) (next_made t spare) ∙ ap (λ (b : Bool). made b) (lt-ltb greatest (t.next + count) more) where
      made : Bool → Result Reserved Trouble
      made b = cond b (Err pages_spent) (Ok (made_reservation count (record t { version = t.version + 1 })))

-- a leaf's
module _ (root : Tree) (page : ℕ) (l : Leaf) (run : List PuItem) where
  abbrev leaf_due : Due
  leaf_due = LeafDue root l run

  abbrev leaf_by : Bool → Result PagePlan Trouble
  leaf_by b = cond b (Err version_spent) (plan.planned_by page (applied l 0 run) (reservation root page (pages_of leaf_due)))

  leaf_goes : l.version ≢ greatest → plan.leaf_plan root page l run ≡ plan.planned_by page (applied l 0 run) (reservation root page (pages_of leaf_due))
  leaf_goes spare = ap (λ (b : Bool). leaf_by b) (ne_eqb l.version greatest spare)

  pub leaf_plan_spent : IsSpent leaf_due → plan.leaf_plan root page l run ≡ Err version_spent
  leaf_plan_spent (inl e) = ap (λ (b : Bool). leaf_by b) (eq-eqb l.version greatest e)
  leaf_plan_spent (inr (some, e)) = leaf_goes some.0 ∙ ap (plan.planned_by page (applied l 0 run)) (reservation_spent root page (pages_of leaf_due) some.1 e)

  pub leaf_plan_full : HasNoPages leaf_due → plan.leaf_plan root page l run ≡ Err pages_spent
  leaf_plan_full (some, spare, more) =
      leaf_goes some.0 ∙ ap (plan.planned_by page (applied l 0 run)) (reservation_full root page (pages_of leaf_due) some.1 spare more)

-- a node's
module _ (root : Tree) (tree : ℕ) (k : KeptNode) (n : Inner) (ls : List Link) (reads : inner_of k.bytes ≡ Some n) where
  abbrev node_due : Due
  node_due = NodeDue root n ls

  abbrev linked_node : Inner
  linked_node = record n { version = n.version + 1; entries = nodes.with_links n ls n.entries }

  abbrev node_by : Bool → Result PagePlan Trouble
  node_by b = nodes.planned_of root k.page (cond b (Err version_spent) (Ok linked_node))

  node_read : (b : Bool) → (n.version == greatest) ≡ b → nodes.node_plan root tree k ls ≡ node_by b
  node_read b e =
      ap (λ (o : Option Inner). nodes.planned_of root k.page (nodes.linked_by ls (inner_or tree k.page (offset inner_format k.bytes) o))) reads
      ∙ ap (λ (c : Bool). node_by c) e

  node_goes : n.version ≢ greatest → nodes.node_plan root tree k ls ≡ nodes.planned_by k.page linked_node (reservation root k.page (pages_of node_due))
  node_goes spare = node_read false (ne_eqb n.version greatest spare)

  pub node_plan_spent : IsSpent node_due → nodes.node_plan root tree k ls ≡ Err version_spent
  node_plan_spent (inl e) = node_read true (eq-eqb n.version greatest e)
  node_plan_spent (inr (some, e)) = node_goes some.0 ∙ ap (nodes.planned_by k.page linked_node) (reservation_spent root k.page (pages_of node_due) some.1 e)

  pub node_plan_full : HasNoPages node_due → nodes.node_plan root tree k ls ≡ Err pages_spent
  node_plan_full (some, spare, more) =
      node_goes some.0 ∙ ap (nodes.planned_by k.page linked_node) (reservation_full root k.page (pages_of node_due) some.1 spare more)

-- the tree object's
module _ (root : Tree) (ls : List Link) (top : List (ℕ × ℕ)) where
  abbrev root_due : Due
  root_due = RootDue root ls top

  abbrev put_next : Tree
  put_next = raised root ls top

  abbrev its_pages : ℕ
  its_pages = count_of (length put_next.entries)

  abbrev whole_plan : Result RootPlan Trouble
  whole_plan = plan_of root (risen_by root.level ls top (next_tree root))

  -- where it needs pages it is cut
  pages_cut : pages_of root_due ≢ 0 → (pages_of root_due ≡ its_pages) × (root_plan root put_next ≡ root_cut root put_next)
  pages_cut some = on (nat_lt 64 (length put_next.entries) && nat_lt root.level 255) refl where
    plan_by : Bool → Result RootPlan Trouble
    plan_by b = cond b (root_cut root put_next) (Ok (uncut put_next))

    on : (b : Bool) → (nat_lt 64 (length put_next.entries) && nat_lt root.level 255) ≡ b → (pages_of root_due ≡ its_pages) × (root_plan root put_next ≡ root_cut root put_next)
    on true e = (ap (λ (b : Bool). cond b its_pages 0) e, ap (λ (b : Bool). plan_by b) e)
    on false e = absurd (some (ap (λ (b : Bool). cond b its_pages 0) e))

  root_goes : Reserves root_due → whole_plan ≡ cut_behind put_next (reservation root 1 its_pages)
  root_goes some =
      ap (λ (t : Result Tree Trouble). plan_of root (risen_by root.level ls top t)) (next_made root some.0) ∙ (pages_cut some.1).1

  some_of : Reserves root_due → its_pages ≢ 0
  some_of some = subst (λ (n : ℕ). n ≢ 0) (pages_cut some.1).0 some.1

  pub last_plan_spent : IsSpent root_due → whole_plan ≡ Err version_spent
  last_plan_spent (inl e) = ap (λ (t : Result Tree Trouble). plan_of root (risen_by root.level ls top t)) (next_spent root e)
  last_plan_spent (inr (some, e)) = absurd (some.0 e)

  pub last_plan_full : HasNoPages root_due → whole_plan ≡ Err pages_spent
  last_plan_full (some, spare, more) =
      root_goes some
      ∙ ap (cut_behind put_next)
      (reservation_full root 1 its_pages (some_of some) spare (subst (λ (n : ℕ). greatest < root.next + n) (pages_cut some.1).0 more))

-- ---- a cut for which the last version is reserved

-- where it is marked so the tree object stands at the last version but one, and it has pieces
abbrev pub CutsShort : Tree → Result RootPlan Trouble → Type 0
CutsShort root (Ok p) = p.is_spent ≡ true → (root.version + 1 ≡ greatest) × (0 < length p.placing.puts)
CutsShort root (Err t) = Unit {0}

pages_some : (page free : ℕ) (ps : List NodePart) → length (on_pages page free ps) ≡ length ps
pages_some page free [] = refl
pages_some page free (p ∷ ps) = omega (arith, pages_some free (free + 1) ps)

parts_some : (sizes : List ℕ) (free : ℕ) (p : NodePart) → 0 < length (pieces_by entry_key sizes free p)
parts_some [] free p = omega arith
parts_some (n ∷ sizes) free p = omega arith

module _ (root t : Tree) (same : t.version ≡ root.version + 1) where
  cut_at_short : (put : Option (List ℕ)) (count : ℕ) (spent : Bool) (u : Tree) → (spent ≡ true → root.version + 1 ≡ greatest) → CutsShort root (cut_at put count spent u)
  cut_at_short put count spent u last = on (nat_lt greatest (u.next + count)) where
    on : (b : Bool) → CutsShort root (cond b (Err pages_spent) (Ok (lowered put spent (record u { next = u.next + count }) u.next)))
    on true = tt
    on false = λ e.
        let ps : List NodePart = root_pieces u.next (record u { next = u.next + count }) in (
          last e,
          omega (
            arith,
            length-reverse (map (put_of node_bytes) (on_pages u.next (u.next + 1) ps)),
            length-map (on_pages u.next (u.next + 1) ps) (put_of node_bytes),
            pages_some u.next (u.next + 1) ps,
            parts_some (cuts_of (length u.entries)) (u.next + 1) (part_of_node (node_of_root (record u { next = u.next + count }))),
          ),
        )

  cut_by_short : (put : Option (List ℕ)) (count : ℕ) (b : Bool) → (t.version == greatest) ≡ b
      → CutsShort root (cut_by put count t (cond b (Err version_spent) (Ok (record t { version = t.version + 1 }))))
  cut_by_short put count true e = cut_at_short put count true t (λ is. sym same ∙ eqb-true t.version greatest e)
  cut_by_short put count false e = cut_at_short put count false (record t { version = t.version + 1 }) (λ is. absurd (cc (is)))

  behind_short : (r : Result Reserved Trouble) → CutsShort root (cut_behind t r)
  behind_short (Ok q) = cut_by_short q.put (count_of (length t.entries)) (t.version == greatest) refl
  behind_short (Err f) = tt

  plan_short : CutsShort root (root_plan root t)
  plan_short = on (nat_lt 64 (length t.entries) && nat_lt root.level 255) where
    on : (b : Bool) → CutsShort root (cond b (root_cut root t) (Ok (uncut t)))
    on true = behind_short (reservation root 1 (count_of (length t.entries)))
    on false = λ is. absurd (cc (is))

pub last_plan_short : (root : Tree) (ls : List Link) (top : List (ℕ × ℕ)) → CutsShort root (plan_of root (risen_by root.level ls top (next_tree root)))
last_plan_short root ls top = on (root.version == greatest) where
  on : (b : Bool) → CutsShort root (plan_of root (risen_by root.level ls top (cond b (Err version_spent) (Ok (record root { version = root.version + 1 })))))
  on true = tt
  on false = plan_short root (raised root ls top) (named_numbered root.level ls (record (record root { version = root.version + 1 }) { cursor = raised_cursor root.cursor top })).0
