-- What a call must put or send, by its value; and what follows of what is newest.
use Rattle.std.proofs.Common.{◌≡◌, ◌+◌, ◌-◌, false, ℕ, zero, suc, List, [], ◌∷◌, length, map, Some, None, refl, sym, ap, subst, ◌∙◌, ◌⊎◌, inl, inr, arith}
use Rattle.cloud_facts.specs.Words.{ObjName, QueueName, AtomicRec, Head, Leaf, Inner, Tree, Version, CloudState, newest, Node, Leafy, Branch, IsIn, StandsAt, nodes_of, roots_of}
use Rattle.db_base.specs.declared.names.ObjName.TheVariants as object
use Rattle.db_base.specs.declared.names.QueueName.TheVariants.{Atomic}
use Rattle.cloud_trait.specs.State.{version_at, message_at}
use Rattle.head_codec.specs.Head.{empty_head}
use Rattle.head_codec.specs.Spelling.{head_of}
use Rattle.head_codec.specs.declared.head.Phase.{Phase}
use Rattle.head_codec.specs.declared.head.Phase.TheVariants.{Settled, Open}
use Rattle.leaf_view.specs.Leaf.{IsLeaf}
use Rattle.leaf_view.specs.Lookup.{empty_leaf}
use Rattle.log_codec.specs.Atomic.{atomic_of}
use Rattle.log_codec.specs.Pu.{pu_of}
use Rattle.log_codec.specs.declared.record.PuRec.{PuRec}
use Rattle.node_codec.specs.Inner.{IsInner}
use Rattle.node_codec.specs.Tree.{IsTree, empty_tree}
use Rattle.cloud_facts.specs.Book.Growth.{IsLater, PhaseRises}
use Rattle.cloud_facts.specs.Book.Tally.{version_of}
use Rattle.cloud_facts.specs.Book.Telling.{last_or, head_in, root_in, node_in, with_bytes, gone_of, newest_root, queue_of}
use Rattle.cloud_facts.proofs.Book.Places.{get_map}
use Rattle.cloud_facts.specs.Decoding.Decodes.{Decodes, IsNext}
use Rattle.cloud_facts.specs.Decoding.Kinds.{IsNode, IsNth, HasNth, IsLastRemoval, AreOfKind, CountsWithin, IsSameMoment, MovesOn, IsMessageOf}
use Rattle.cloud_facts.proofs.Decoding.Newest.{IsLast, last_cases, last_map, last_there, has_nth, never_gone, newest_last, version_there, message_there}
use Rattle.cloud_facts.proofs.Decoding.Reading.{head_reads, root_reads, node_reads}
use Rattle.cloud_facts.proofs.Decoding.Versions.{all_there, among_those}

-- ---- numbers of versions

pub some_length : {A : Type 0} (xs : List A) (x : A) → IsLast xs x → (length xs - 1) + 1 ≡ length xs
some_length [] x e = absurd (cc)
some_length (y ∷ xs) x e = omega arith

-- the newest version of a page that was not removed, or a root, has the number of versions that landed, 0 where none did
pub page_number : (s : CloudState) (tree page : ℕ) → Decodes s → gone_of s tree page ≡ false
    → version_of (last_or (Leafy empty_leaf) (nodes_of s tree page)) ≡ length (s.versions (object.Page tree page))
page_number s tree page d there =
    ap (λ (xs : List Version). version_of (last_or (Leafy empty_leaf) (map node_in xs))) (all_there (object.Page tree page) vs (d.versions (object.Page tree page)) there)
    ∙ on (last_cases vs)
  where
    vs : List Version
    vs = s.versions (object.Page tree page)

    on : (vs ≡ []) ⊎ ((v : Version) × IsLast vs v) → version_of (last_or (Leafy empty_leaf) (map node_in vs)) ≡ length vs
    on (inl e) = subst (λ (xs : List Version). version_of (last_or (Leafy empty_leaf) (map node_in xs)) ≡ length xs) (sym e) refl
    on (inr p) =
        let k = has_nth (object.Page tree page) vs (length vs - 1) p.0 (d.versions (object.Page tree page)) there p.1 in
        ap version_of (last_map node_in (Leafy empty_leaf) vs p.0 p.1 ∙ node_reads p.0 k.0 k.2.0 k.1 k.2.1) ∙ k.2.2 ∙ some_length vs p.0 p.1

pub root_number : (s : CloudState) (tree : ℕ) → Decodes s → (newest_root (roots_of s) tree).version ≡ length (s.versions (object.Tree tree))
root_number s tree d = on (last_cases vs)
  where
    vs : List Version
    vs = s.versions (object.Tree tree)

    on : (vs ≡ []) ⊎ ((v : Version) × IsLast vs v) → (last_or empty_tree (map root_in vs)).version ≡ length vs
    on (inl e) = subst (λ (xs : List Version). (last_or empty_tree (map root_in xs)).version ≡ length xs) (sym e) refl
    on (inr p) =
        let k = has_nth (object.Tree tree) vs (length vs - 1) p.0 (d.versions (object.Tree tree)) (never_gone (object.Tree tree) vs (λ no. no) (d.versions (object.Tree tree))) p.1 in
        ap (λ (t : Tree). t.version) (last_map root_in empty_tree vs p.0 p.1 ∙ root_reads p.0 k.0 k.2.0 k.1 k.2.1) ∙ k.2.2 ∙ some_length vs p.0 p.1

-- ---- what is put

-- a leaf, an inner node or a root whose version is one more than the newest
pub node_next : (s : CloudState) (tree page : ℕ) (bytes : List ℕ) (node : Node) → Decodes s → gone_of s tree page ≡ false → IsNode bytes node
    → version_of node ≡ version_of (last_or (Leafy empty_leaf) (nodes_of s tree page)) + 1 → IsNext s (object.Page tree page) bytes
node_next s tree page bytes node d there is next =
    record { there = there; kind = (node, is, next ∙ ap (λ (n : ℕ). n + 1) (page_number s tree page d there)); moves = tt }

pub leaf_next : (s : CloudState) (tree page : ℕ) (bytes : List ℕ) (l : Leaf) → Decodes s → gone_of s tree page ≡ false → IsLeaf bytes l
    → l.version ≡ version_of (last_or (Leafy empty_leaf) (nodes_of s tree page)) + 1 → IsNext s (object.Page tree page) bytes
leaf_next s tree page bytes l d there is next = node_next s tree page bytes (Leafy l) d there is next

pub inner_next : (s : CloudState) (tree page : ℕ) (bytes : List ℕ) (n : Inner) → Decodes s → gone_of s tree page ≡ false → IsInner bytes n
    → n.version ≡ version_of (last_or (Leafy empty_leaf) (nodes_of s tree page)) + 1 → IsNext s (object.Page tree page) bytes
inner_next s tree page bytes n d there is next = node_next s tree page bytes (Branch n) d there is next

pub root_next : (s : CloudState) (tree : ℕ) (bytes : List ℕ) (t : Tree) → Decodes s → IsTree bytes t → t.version ≡ (newest_root (roots_of s) tree).version + 1
    → IsNext s (object.Tree tree) bytes
root_next s tree bytes t d is next = record {
  there = never_gone (object.Tree tree) (s.versions (object.Tree tree)) (λ no. no) (d.versions (object.Tree tree));
  kind = (t, is, next ∙ ap (λ (n : ℕ). n + 1) (root_number s tree d));
  moves = tt;
}

no_phase : (g h : Phase) → g ≡ h → PhaseRises g h → ⊥
no_phase (Open n) Settled e rises = cc
no_phase (Open n) (Open m) e rises = rises
no_phase Settled h e rises = rises

-- a later head is of another moment
pub later_differs : (g h : Head) → IsLater g h → IsSameMoment g h → ⊥
later_differs g h (inl less) same = omega (arith, less, same.epoch)
later_differs g h (inr (e, inl less)) same = omega (arith, less, same.txn)
later_differs g h (inr (e, inr (f, rises))) same = no_phase g.phase h.phase same.phase rises

-- a head that is later than the newest, and counts within the number of heads
pub head_next : (s : CloudState) (client : ℕ) (bytes : List ℕ) (h : Head) → Decodes s → head_of bytes ≡ Some h
    → IsLater (last_or empty_head (map head_in (s.versions (object.Head client)))) h → CountsWithin (length (s.versions (object.Head client)) + 1) h
    → IsNext s (object.Head client) bytes
head_next s client bytes h d is later counts = record {
  there = never_gone (object.Head client) (s.versions (object.Head client)) (λ no. no) (d.versions (object.Head client));
  kind = (h, is, counts);
  moves = λ v newest_bytes last has g k reads puts same.
      let newest : last_or empty_head (map head_in (s.versions (object.Head client))) ≡ g =
      last_map head_in empty_head (s.versions (object.Head client)) v last ∙ head_reads v newest_bytes g has reads in
      let both : Some h ≡ Some k = sym is ∙ puts in
      let one : h ≡ k = cc in
      later_differs g k (subst (λ (x : Head). IsLater g x) one (subst (λ (x : Head). IsLater x h) newest later)) same;
}

-- ---- what is sent

pub atomic_message : (client : ℕ) (bytes : List ℕ) (r : AtomicRec) → atomic_of bytes ≡ Some r → r.client ≡ client → IsMessageOf (Atomic client) bytes
atomic_message client bytes r reads is = (r, reads, is)

pub pu_message : (tree page : ℕ) (bytes : List ℕ) (r : PuRec) → pu_of bytes ≡ Some r → IsMessageOf (queue_of tree page) bytes
pu_message tree zero bytes r reads = (r, reads)
pu_message tree (suc page) bytes r reads = (r, reads)

-- ---- what is newest

-- the bytes of a version are of its kind and number
pub version_is : (name : ObjName) (vs : List Version) (place : ℕ) (v : Version) (bytes : List ℕ) → AreOfKind name vs → StandsAt vs place v
    → v.bytes ≡ Some bytes → IsNth name (place + 1) bytes
version_is name vs place v bytes are at has = on (are place v at)
  where
    on : HasNth name (place + 1) v ⊎ IsLastRemoval name vs place v → IsNth name (place + 1) bytes
    on (inl k) =
        let both : Some k.0 ≡ Some bytes = sym k.1 ∙ has in
        let one : k.0 ≡ bytes = cc in
        subst (λ (b : List ℕ). IsNth name (place + 1) b) one k.2
    on (inr r) = let no : None ≡ Some bytes = sym r.none ∙ has in absurd (cc)

-- the newest bytes of every object decode, and have the number of versions that landed
pub newest_decodes : (s : CloudState) (name : ObjName) (bytes : List ℕ) → Decodes s → newest s name ≡ Some bytes → IsNth name (length (s.versions name)) bytes
newest_decodes s name bytes d e =
    let p = newest_last (s.versions name) bytes e in
    let n = some_length (s.versions name) p.0 p.1 in
    subst (λ (k : ℕ). IsNth name k bytes) n (version_is name (s.versions name) (length (s.versions name) - 1) p.0 bytes (d.versions name) p.1 p.2)

-- bytes that are the next version are not those of the last
not_again : (name : ObjName) (vs : List Version) (bytes : List ℕ) (v : Version) → IsLast vs v → v.bytes ≡ Some bytes → IsNth name (length vs) bytes
    → IsNth name (length vs + 1) bytes
    → MovesOn name vs bytes → ⊥
not_again (object.Head client) vs bytes v last e a b moves = moves v bytes last e b.0 b.0 b.1 b.1 (record { epoch = refl; txn = refl; phase = refl })
not_again (object.Tree tree) vs bytes v last e a b moves =
    let one : a.0 ≡ b.0 = sym (root_reads v bytes a.0 e a.1) ∙ root_reads v bytes b.0 e b.1 in
    let same : a.0.version ≡ b.0.version = ap (λ (t : Tree). t.version) one in
    omega (arith, same, a.2, b.2)
not_again (object.Page tree page) vs bytes v last e a b moves =
    let one : a.0 ≡ b.0 = sym (node_reads v bytes a.0 e a.1) ∙ node_reads v bytes b.0 e b.1 in
    let same : version_of a.0 ≡ version_of b.0 = ap version_of one in
    omega (arith, same, a.2, b.2)

-- bytes that land differ from the newest bytes before them
pub next_differs : (s : CloudState) (name : ObjName) (bytes : List ℕ) → Decodes s → IsNext s name bytes → newest s name ≡ Some bytes → ⊥
next_differs s name bytes d next e =
    let p = newest_last (s.versions name) bytes e in
    not_again name (s.versions name) bytes p.0 p.1 p.2 (newest_decodes s name bytes d e) next.kind next.moves

-- the newest bytes of a head, a root and a page spell what is told of it
pub newest_head_decodes : (s : CloudState) (client : ℕ) (bytes : List ℕ) → Decodes s → newest s (object.Head client) ≡ Some bytes
    → head_of bytes ≡ Some (last_or empty_head (map head_in (s.versions (object.Head client))))
newest_head_decodes s client bytes d e =
    let p = newest_last (s.versions (object.Head client)) bytes e in
    let k = newest_decodes s (object.Head client) bytes d e in
    k.1 ∙ ap (λ (h : Head). Some h) (sym (last_map head_in empty_head (s.versions (object.Head client)) p.0 p.1 ∙ head_reads p.0 bytes k.0 p.2 k.1))

pub newest_root_decodes : (s : CloudState) (tree : ℕ) (bytes : List ℕ) → Decodes s → newest s (object.Tree tree) ≡ Some bytes
    → IsTree bytes (newest_root (roots_of s) tree)
newest_root_decodes s tree bytes d e =
    let p = newest_last (s.versions (object.Tree tree)) bytes e in
    let k = newest_decodes s (object.Tree tree) bytes d e in
    subst (λ (t : Tree). IsTree bytes t) (sym (last_map root_in empty_tree (s.versions (object.Tree tree)) p.0 p.1 ∙ root_reads p.0 bytes k.0 p.2 k.1)) k.1

pub newest_page_decodes : (s : CloudState) (tree page : ℕ) (bytes : List ℕ) → Decodes s → newest s (object.Page tree page) ≡ Some bytes
    → IsNode bytes (last_or (Leafy empty_leaf) (nodes_of s tree page))
newest_page_decodes s tree page bytes d e =
    let p = newest_last (s.versions (object.Page tree page)) bytes e in
    let k = newest_decodes s (object.Page tree page) bytes d e in
    let all = all_there (object.Page tree page) (s.versions (object.Page tree page)) (d.versions (object.Page tree page))
    (last_there (s.versions (object.Page tree page)) p.0 bytes p.1 p.2) in
    subst (λ (n : Node). IsNode bytes n)
    (sym (ap (λ (vs : List Version). last_or (Leafy empty_leaf) (map node_in vs)) all
    ∙ (last_map node_in (Leafy empty_leaf) (s.versions (object.Page tree page)) p.0 p.1 ∙ node_reads p.0 bytes k.0 p.2 k.1))) k.1

-- ---- what is read

-- the bytes of any version decode as a version that is told
pub version_decodes : (s : CloudState) (name : ObjName) (n : ℕ) (bytes : List ℕ) → Decodes s → version_at (s.versions name) n ≡ Some bytes
    → IsNth name ((n - 1) + 1) bytes
version_decodes s name n bytes d e =
    let p = version_there (s.versions name) n bytes e in
    version_is name (s.versions name) (n - 1) p.0 bytes (d.versions name) p.1 p.2

pub message_decodes : (s : CloudState) (queue : QueueName) (id : ℕ) (bytes : List ℕ) → Decodes s → message_at (s.messages queue) id ≡ Some bytes
    → IsMessageOf queue bytes
message_decodes s queue id bytes d e =
    let p = message_there (s.messages queue) id bytes e in
    subst (λ (b : List ℕ). IsMessageOf queue b) p.2 (d.messages queue (id - 1) p.0 p.1)

-- a page or a root that was read is one of those that are told
pub read_node : (s : CloudState) (tree page n : ℕ) (bytes : List ℕ) (node : Node) → version_at (s.versions (object.Page tree page)) n ≡ Some bytes
    → IsNode bytes node
    → IsIn (nodes_of s tree page) node
read_node s tree page n bytes node e is =
    let p = version_there (s.versions (object.Page tree page)) n bytes e in
    let reads : node_in p.0 ≡ node = node_reads p.0 bytes node p.2 is in
    let among = among_those (s.versions (object.Page tree page)) (n - 1) p.0 bytes p.1 p.2 in
    (among.0, get_map node_in (with_bytes (s.versions (object.Page tree page))) among.0 p.0 among.1 ∙ ap (λ (x : Node). Some x) reads)

pub read_root : (s : CloudState) (tree n : ℕ) (bytes : List ℕ) (root : Tree) → version_at (s.versions (object.Tree tree)) n ≡ Some bytes → IsTree bytes root
    → IsIn (roots_of s tree) root
read_root s tree n bytes root e is =
    let p = version_there (s.versions (object.Tree tree)) n bytes e in
    let reads : root_in p.0 ≡ root = root_reads p.0 bytes root p.2 is in
    (n - 1, get_map root_in (s.versions (object.Tree tree)) (n - 1) p.0 p.1 ∙ ap (λ (x : Tree). Some x) reads)
