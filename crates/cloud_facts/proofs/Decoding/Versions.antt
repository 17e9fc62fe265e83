-- The versions of a page that have bytes.
use Rattle.std.proofs.Common.{◌≡◌, ◌+◌, ◌-◌, ◌<◌, ◌⊎◌, inl, inr, ℕ, Bool, true, false, cond, List, [], ◌∷◌, ◌++◌, length, map, Option, Some, None, refl, sym, ap, subst, ◌∙◌, arith}
use Rattle.std.specs.Prelude.{is_some}
use Rattle.std.proofs.lemmas.List.{append-nil}
use Rattle.std.proofs.lemmas.List.Elements.{filter-append}
use Rattle.cloud_facts.specs.Words.{ObjName, Version, CloudState, Caller, Node, IsIn, StandsAt, nodes_of}
use Rattle.db_base.specs.declared.names.ObjName.TheVariants as object
use Rattle.cloud_facts.specs.Book.Telling.{is_bare, is_gone, with_bytes, node_in, gone_of}
use Rattle.cloud_facts.proofs.Book.Lengths.{image}
use Rattle.cloud_facts.proofs.Book.Places.{get_map, get_within, in_none}
use Rattle.cloud_facts.specs.Decoding.Decodes.{Decodes}
use Rattle.cloud_facts.specs.Decoding.Kinds.{IsNode, HasNth, IsLastRemoval, AreOfKind}
use Rattle.cloud_facts.proofs.Decoding.Newest.{IsLast, last_cases, has_nth}
use Rattle.cloud_facts.proofs.Decoding.Reading.{node_reads}
use Rattle.cloud_facts.proofs.Numbers.Lists.{Passes, filter_there, filter_at}
use Rattle.cloud_facts.proofs.Orders.Filters.{filter_all}
use Rattle.cloud_facts.proofs.Tellings.Names.{last_image}

abbrev has : Version → Bool
has v = is_some v.bytes

-- ---- one version more

pub bytes_added : (who : Caller) (bytes : List ℕ) (vs : List Version)
    → with_bytes (vs ++ record { who = who; bytes = Some bytes } ∷ []) ≡ with_bytes vs ++ record { who = who; bytes = Some bytes } ∷ []
bytes_added who bytes vs = filter-append has vs (record { who = who; bytes = Some bytes } ∷ [])

pub there_added : (who : Caller) (bytes : List ℕ) (vs : List Version) → is_gone (vs ++ record { who = who; bytes = Some bytes } ∷ []) ≡ false
there_added who bytes vs = last_image is_bare false vs (record { who = who; bytes = Some bytes }) false refl

-- a removal
pub bare_added : (vs : List Version) (w : Version) → w.bytes ≡ None → with_bytes (vs ++ w ∷ []) ≡ with_bytes vs
bare_added vs w none =
    filter-append has vs (w ∷ [])
    ∙ (ap (λ (b : Option (List ℕ)). with_bytes vs ++ cond (is_some b) (w ∷ []) []) none ∙ append-nil (with_bytes vs))

pub gone_added : (who : Caller) (vs : List Version) → is_gone (vs ++ record { who = who; bytes = None } ∷ []) ≡ true
gone_added who vs = last_image is_bare false vs (record { who = who; bytes = None }) true refl

-- ---- those of an object

-- all have bytes where it was not removed
pub all_there : (name : ObjName) (vs : List Version) → AreOfKind name vs → is_gone vs ≡ false → with_bytes vs ≡ vs
all_there name vs are there =
    filter_all has vs (λ i v at. let k = has_nth name vs i v are there at in ap (λ (b : Option (List ℕ)). is_some b) k.1)

-- a version with bytes is among them
pub among_those : (vs : List Version) (place : ℕ) (v : Version) (bytes : List ℕ) → StandsAt vs place v → v.bytes ≡ Some bytes → IsIn (with_bytes vs) v
among_those vs place v bytes at some = filter_at has vs place v (ap (λ (b : Option (List ℕ)). is_some b) some) at

-- and each is one of its kind
pub among_nth : (name : ObjName) (vs : List Version) (place : ℕ) (v : Version) → AreOfKind name vs → StandsAt (with_bytes vs) place v
    → (n : ℕ) × HasNth name n v
among_nth name vs place v are at = on (filter_there has vs place v at)
  where
    on : Passes has vs place v → (n : ℕ) × HasNth name n v
    on p = by (are p.place v p.there)
      where
        by : HasNth name (p.place + 1) v ⊎ IsLastRemoval name vs p.place v → (n : ℕ) × HasNth name n v
        by (inl nth) = (p.place + 1, nth)
        by (inr r) =
            let no : true ≡ false = sym p.test ∙ ap (λ (b : Option (List ℕ)). is_some b) r.none in
            absurd (cc)

-- ---- the nodes of a page

-- each node is spelled by bytes
pub node_has_bytes : (tree page : ℕ) (vs : List Version) (n : Node) → AreOfKind (object.Page tree page) vs → IsIn (map node_in (with_bytes vs)) n
    → (bytes : List ℕ) × IsNode bytes n
node_has_bytes tree page vs n are is = on (image node_in (with_bytes vs) n is)
  where
    on : (v : Version) × IsIn (with_bytes vs) v × (node_in v ≡ n) → (bytes : List ℕ) × IsNode bytes n
    on (v, (place, at), same) = by (among_nth (object.Page tree page) vs place v are at)
      where
        by : (k : ℕ) × HasNth (object.Page tree page) k v → (bytes : List ℕ) × IsNode bytes n
        by (k, nth) = (nth.0, subst (λ (x : Node). IsNode nth.0 x) (sym (node_reads v nth.0 nth.2.0 nth.1 nth.2.1) ∙ same) nth.2.1)

first_of : {A : Type 0} (xs : List A) → 0 < length xs → (x : A) × StandsAt xs 0 x
first_of [] some = absurd (omega (arith, some))
first_of (x ∷ xs) some = (x, refl)

-- a page without nodes was not removed: it never landed
pub none_there : (s : CloudState) (tree page : ℕ) → Decodes s → nodes_of s tree page ≡ [] → gone_of s tree page ≡ false
none_there s tree page d none = on (last_cases vs)
  where
    vs : List Version
    vs = s.versions (object.Page tree page)

    are : AreOfKind (object.Page tree page) vs
    are = d.versions (object.Page tree page)

    never : (v : Version) (bytes : List ℕ) → StandsAt vs 0 v → v.bytes ≡ Some bytes → ⊥
    never v bytes at some =
        let is = among_those vs 0 v bytes at some in
        in_none (map node_in (with_bytes vs)) (node_in v) none (is.0, get_map node_in (with_bytes vs) is.0 v is.1)

    first : (v : Version) → StandsAt vs 0 v → HasNth (object.Page tree page) 1 v ⊎ IsLastRemoval (object.Page tree page) vs 0 v → ⊥
    first v at (inl nth) = never v nth.0 at nth.1
    first v at (inr r) = omega (arith, r.behind)

    on : (vs ≡ []) ⊎ ((v : Version) × IsLast vs v) → is_gone vs ≡ false
    on (inl e) = ap (λ (xs : List Version). is_gone xs) e
    on (inr p) =
        let less = get_within vs (length vs - 1) p.0 p.1 in
        let v = first_of vs (omega (arith, less)) in
        absurd (first v.0 v.1 (are 0 v.0 v.1))
