-- What is known of leaves that landed: records in order, tables of clients, fences that rise.
use Rattle.std.proofs.Common.{◌≡◌, ◌-◌, ◌+◌, ℕ, true, List, [], ◌∷◌, length, map, Option, Some, None, refl, sym, ap, subst, ◌∙◌, ◌⊎◌, inl, inr}
use Rattle.std.specs.List.{AllByRecursion}
use Rattle.std.specs.Prelude.{not, ◌&&◌, ◌==◌, Bool, false}
use Rattle.std.proofs.lemmas.Bool.{and_from, and_parts}
use Rattle.byte_format.specs.Format.{in_range, option_fits}
use Rattle.byte_format.specs.HighKey.{key_above, high_key}
use Rattle.byte_format.specs.Order.{bytes_below, below_bound}
use Rattle.db_base.specs.declared.names.ObjName.TheVariants as object
use Rattle.cloud_facts.specs.Words.{Leaf, Inner, Version, CloudState, Node, Leafy, Branch, IsIn, nodes_of}
use Rattle.leaf_view.specs.Fits.{IsHigh, IsDone}
use Rattle.leaf_view.specs.Leaf.{IsLeaf}
use Rattle.leaf_view.specs.Lookup.{empty_leaf, holds}
use Rattle.leaf_view.specs.declared.done.Done.{Done}
use Rattle.leaf_view.proofs.Split.{leaf_fits}
use Rattle.node_codec.specs.Inner.{IsInner}
use Rattle.node_codec.proofs.InnerLemmas.{inner_fits}
use Rattle.split_plan.specs.Part.{LeafPart, leaf_of_part, NodePart, node_of_part}
use Rattle.cloud_facts.specs.Book.Telling.{last_or, node_in, with_bytes, leaf_in, newest_leaf}
use Rattle.cloud_facts.proofs.Chains.Pieces.{in_first, not_itself}
use Rattle.cloud_facts.specs.Decoding.Decodes.{Decodes}
use Rattle.cloud_facts.specs.Decoding.Kinds.{IsNode, AreOfKind}
use Rattle.cloud_facts.proofs.Decoding.Newest.{IsLast, last_cases, last_map}
use Rattle.cloud_facts.proofs.Decoding.Reading.{node_reads}
use Rattle.cloud_facts.proofs.Decoding.Versions.{among_nth, node_has_bytes}
use Rattle.cloud_facts.specs.Chains.Cuts.{HaveLanded, leaf_node, inner_node}
use Rattle.cloud_facts.proofs.Tellings.Fences.{Rises}
use Rattle.cloud_facts.proofs.Tellings.Leaves.{IsSound}
use Rattle.cloud_facts.proofs.Tellings.Tables.{AreOfClients}

-- a leaf that bytes spell
clients_of : (ds : List Done) → AllByRecursion IsDone ds → AreOfClients ds
clients_of [] all = tt
clients_of (d ∷ ds) all = (all.0.client, clients_of ds all.1)

sound_of : (bytes : List ℕ) (l : Leaf) → IsLeaf bytes l → IsSound l
sound_of bytes l is = let f = (leaf_fits l is.fits).1 in record { ascends = f.records_ascend; clients = clients_of l.done f.done }

rises_by : (low : List ℕ) (right : ℕ) (high : Option (List ℕ)) → IsHigh low right high → (h : List ℕ) → high ≡ Some h → bytes_below low h ≡ true
rises_by low right None is h e = absurd (cc)
rises_by low right (Some high) is h e = let same : high ≡ h = cc in ap (bytes_below low) (sym same) ∙ is.2

pub leaf_rises : (bytes : List ℕ) (p : LeafPart) → IsLeaf bytes (leaf_of_part p) → Rises p
leaf_rises bytes p is = rises_by p.low p.right p.high (leaf_fits (leaf_of_part p) is.fits).1.high

-- ---- the newest leaf of a page

empty_sound : IsSound empty_leaf
empty_sound = record { ascends = tt; clients = tt }

node_sound : (bytes : List ℕ) (node : Node) → IsNode bytes node → IsSound (leaf_in node)
node_sound bytes (Leafy l) is = sound_of bytes l is
node_sound bytes (Branch n) is = empty_sound

pub newest_sound : (s : CloudState) (tree page : ℕ) → Decodes s → IsSound (newest_leaf (nodes_of s) tree page)
newest_sound s tree page d = on (last_cases vs)
  where
    vs : List Version
    vs = with_bytes (s.versions (object.Page tree page))

    on : (vs ≡ []) ⊎ ((v : Version) × IsLast vs v) → IsSound (leaf_in (last_or (Leafy empty_leaf) (map node_in vs)))
    on (inl e) = subst (λ (xs : List Version). IsSound (leaf_in (last_or (Leafy empty_leaf) (map node_in xs)))) (sym e) empty_sound
    on (inr p) =
        let k = (among_nth (object.Page tree page) (s.versions (object.Page tree page)) (length vs - 1) p.0 (d.versions (object.Page tree page)) p.1).1 in
        subst (λ (n : Node). IsSound (leaf_in n)) (sym (last_map node_in (Leafy empty_leaf) vs p.0 p.1 ∙ node_reads p.0 k.0 k.2.0 k.1 k.2.1)) (node_sound k.0 k.2.0 k.2.1)

-- ---- pieces that landed

-- the only node of a page is spelled
only_spelled : (tree page : ℕ) (vs : List Version) (l : Leaf) → AreOfKind (object.Page tree page) vs → map node_in (with_bytes vs) ≡ Leafy l ∷ []
    → (bytes : List ℕ) × IsLeaf bytes l
only_spelled tree page vs l are e =
    node_has_bytes tree page vs (Leafy l) are (subst (λ (ns : List Node). IsIn ns (Leafy l)) (sym e) (in_first (Leafy l) []))

pub pieces_rise : (s : CloudState) (tree free : ℕ) (ps : List LeafPart) → Decodes s → HaveLanded leaf_node (nodes_of s tree) free ps → AllByRecursion Rises ps
pieces_rise s tree free [] d landed = tt
pieces_rise s tree free (p ∷ ps) d landed =
    let spelled = only_spelled tree free (s.versions (object.Page tree free)) (leaf_of_part p) (d.versions (object.Page tree free)) landed.0 in
    (leaf_rises spelled.0 p spelled.1, pieces_rise s tree (free + 1) ps d landed.1)

-- ---- a leaf holds its low key

low_held : (low : List ℕ) (right : ℕ) (high : Option (List ℕ)) → IsHigh low right high → (not (bytes_below low low) && below_bound low high) ≡ true
low_held low right None is = and_from (not (bytes_below low low)) true (ap not (not_itself low)) refl
low_held low right (Some high) is = and_from (not (bytes_below low low)) (bytes_below low high) (ap not (not_itself low)) is.2

node_holds : (bytes : List ℕ) (node : Node) → IsNode bytes node → holds (leaf_in node) (leaf_in node).low ≡ true
node_holds bytes (Leafy l) is = low_held l.low l.right l.high (leaf_fits l is.fits).1.high
node_holds bytes (Branch n) is = low_held [] 0 None refl

pub newest_holds : (s : CloudState) (tree page : ℕ) → Decodes s → holds (newest_leaf (nodes_of s) tree page) (newest_leaf (nodes_of s) tree page).low ≡ true
newest_holds s tree page d = on (last_cases vs)
  where
    vs : List Version
    vs = with_bytes (s.versions (object.Page tree page))

    Held : Node → Type 0
    Held n = holds (leaf_in n) (leaf_in n).low ≡ true

    on : (vs ≡ []) ⊎ ((v : Version) × IsLast vs v) → Held (last_or (Leafy empty_leaf) (map node_in vs))
    on (inl e) = subst (λ (xs : List Version). Held (last_or (Leafy empty_leaf) (map node_in xs))) (sym e) (low_held [] 0 None refl)
    on (inr p) =
        let k = (among_nth (object.Page tree page) (s.versions (object.Page tree page)) (length vs - 1) p.0 (d.versions (object.Page tree page)) p.1).1 in
        subst Held (sym (last_map node_in (Leafy empty_leaf) vs p.0 p.1 ∙ node_reads p.0 k.0 k.2.0 k.1 k.2.1)) (node_holds k.0 k.2.0 k.2.1)

-- ---- inner nodes

node_high : (low : List ℕ) (right : ℕ) (high : Option (List ℕ)) → (high_key low right).fits high ≡ true → (h : List ℕ) → high ≡ Some h
    → bytes_below low h ≡ true
node_high low right None fits h e = absurd (cc)
node_high low right (Some high) fits h e = on (not (right == 0)) fits
  where
    on : (b : Bool) → option_fits b (key_above low) (Some high) ≡ true → bytes_below low h ≡ true
    on true f = let same : high ≡ h = cc in ap (bytes_below low) (sym same) ∙ (and_parts (in_range 1 64 (length high)) (bytes_below low high) f).1
    on false f = absurd (cc)

pub inner_rises : (bytes : List ℕ) (p : NodePart) → IsInner bytes (node_of_part p) → Rises p
inner_rises bytes p is = node_high p.low p.right p.high (inner_fits (node_of_part p) is.fits).high

only_inner : (tree page : ℕ) (vs : List Version) (n : Inner) → AreOfKind (object.Page tree page) vs → map node_in (with_bytes vs) ≡ Branch n ∷ []
    → (bytes : List ℕ) × IsInner bytes n
only_inner tree page vs n are e =
    node_has_bytes tree page vs (Branch n) are (subst (λ (ns : List Node). IsIn ns (Branch n)) (sym e) (in_first (Branch n) []))

pub nodes_rise : (s : CloudState) (tree free : ℕ) (ps : List NodePart) → Decodes s → HaveLanded inner_node (nodes_of s tree) free ps → AllByRecursion Rises ps
nodes_rise s tree free [] d landed = tt
nodes_rise s tree free (p ∷ ps) d landed =
    let spelled = only_inner tree free (s.versions (object.Page tree free)) (node_of_part p) (d.versions (object.Page tree free)) landed.0 in
    (inner_rises spelled.0 p spelled.1, nodes_rise s tree (free + 1) ps d landed.1)
