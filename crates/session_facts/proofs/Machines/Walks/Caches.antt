-- What a cache knows: of the empty one, behind what is accepted, served and dropped, and while versions are appended.
use Rattle.std.proofs.Common.{◌≡◌, ◌==◌, ◌&&◌, inl, inr, ℕ, Bool, true, false, cond, max, List, [], ◌∷◌, Option, Some, None, Result, Ok, Err, refl, sym, ap, subst, ◌∙◌}
use Rattle.std.specs.Prelude.{fold, nat_lt}
use Rattle.std.specs.List.{AllByRecursion}
use Rattle.std.specs.Map.{lookup, remove_entry}
use Rattle.std.specs.Result.{result_ok}
use Rattle.std.proofs.lemmas.Bool.{eqb-true}
use Rattle.byte_format.specs.Whole.{whole, offset}
use Rattle.cloud_trait.specs.Growth.{BeginsWith}
use Rattle.cloud_facts.specs.Words.{ObjName, Leaf, Tree, Store, Node, Leafy, IsIn}
use Rattle.db_base.specs.declared.names.ObjName.TheVariants as object
use Rattle.db_base.specs.declared.names.Place.TheVariants as place
use Rattle.db_base.specs.declared.trouble.Trouble.TheVariants as trouble
use Rattle.cloud_facts.specs.Decoding.Kinds.{IsNode}
use Rattle.cloud_facts.proofs.Decoding.Reading.{node_spelled}
use Rattle.leaf_view.specs.Leaf.{leaf}
use Rattle.leaf_view.specs.Lookup.{empty_leaf}
use Rattle.node_codec.specs.Tree.{empty_tree}
use Rattle.node_codec.proofs.SpellingLaws.{tree_only}
use Rattle.page_cache.specs.Cache.{Cache, empty_cache, kept_at, served_at, placed, served, dropped, accepts, accepts_read}
use Rattle.page_cache.specs.Held.{leaf_in, leaf_at, root_at, as_leaf, as_root}
use Rattle.page_cache.specs.Names.{same_name}
use Rattle.page_cache.specs.Spelled.{leaf_version, version_or, version_read}
use Rattle.page_cache.proofs.CacheLemmas.{Outcome, never, accept_first}
use Rattle.page_cache.proofs.EntryLemmas.{all_left, all_front}
use Rattle.page_cache.proofs.NameLemmas.{same_name-is}
use Rattle.cloud_facts.specs.Book.Growth.{Grows}
use Rattle.cloud_facts.specs.Book.Tally.{version_of}
use Rattle.cloud_facts.specs.Book.Telling.{leaf_of_bytes, node_or}
use Rattle.cloud_facts.proofs.Book.Places.{in_front}
use Rattle.session_facts.specs.Machines.Walks.Caches.{HasLanded, WasServed, KnowsCache, IsSeenRoot, IsSeenLeaf}

abbrev pub Kept : Type 0
Kept = ObjName × Option (List ℕ)

abbrev pub Served : Type 0
Served = ObjName × ℕ

-- what is known of one that is kept, and of one that was served
abbrev pub IsKnown : Store → Kept → Type 0
IsKnown st o = HasLanded st o.0 o.1

abbrev pub IsServed : Store → Served → Type 0
IsServed st v = WasServed st v.0 v.1

-- ---- one that is kept, and one that was served

looked : {X : Type 0} (P : ObjName × X → Type 0) (name : ObjName) (got : X) (entries : List (ObjName × X)) → AllByRecursion P entries
    → lookup (same_name name) entries ≡ Some got → P (name, got)
looked P name got [] all e = absurd (cc)
looked {X} P name got (o ∷ entries) all e = on (looked P name got entries all.1) (same_name name o.0) refl e
  where
    on : (lookup (same_name name) entries ≡ Some got → P (name, got)) → (b : Bool) → same_name name o.0 ≡ b
        → cond b (Some o.1) (lookup (same_name name) entries) ≡ Some got → P (name, got)
    on more true same e =
        let name_is : name ≡ o.0 = same_name-is name o.0 same in
        let got_is : o.1 ≡ got = cc in
        subst (λ (n : ObjName). P (n, got)) (sym name_is) (subst (λ (g : X). P (o.0, g)) got_is all.0)
    on more false same e = more e

pub kept_known : (st : Store) (c : Cache) (name : ObjName) (got : Option (List ℕ)) → KnowsCache st c → kept_at c name ≡ Some got → HasLanded st name got
kept_known st c name got k e = looked (IsKnown st) name got c.objects k.objects e

pub served_known : (st : Store) (c : Cache) (name : ObjName) (version : ℕ) → KnowsCache st c → lookup (same_name name) c.versions ≡ Some version → WasServed st name version
served_known st c name version k e = looked (IsServed st) name version c.versions k.versions e

-- ---- what it is read as

-- bytes of a page are read as one node alone
one_leaf : (bytes : List ℕ) (node : Node) (l : Leaf) → IsNode bytes node → leaf_in bytes ≡ Some l → node ≡ Leafy l
unfolding leaf_in leaf_of_bytes
one_leaf bytes node l is reads =
    sym (node_spelled bytes node is) ∙ ap (λ (o : Option Leaf). node_or o bytes) reads

-- the version that bytes of a page have as a leaf is that of the node that they spell
pub leaf_version_is : (bytes : List ℕ) (node : Node) (version : ℕ) → IsNode bytes node → leaf_version bytes ≡ Ok version → version_of node ≡ version
unfolding leaf_version leaf_in
leaf_version_is bytes node version is e = on (whole leaf bytes) refl e
  where
    on : (r : Result Leaf ℕ) → whole leaf bytes ≡ r → version_or (λ (l : Leaf). l.version) (offset leaf bytes) r ≡ Ok version → version_of node ≡ version
    on (Ok l) read e = let same : l.version ≡ version = cc in ap version_of (one_leaf bytes node l is (ap result_ok read)) ∙ same
    on (Err left) read e = absurd (cc)

-- a root that it keeps
pub seen_root : (st : Store) (c : Cache) (tree : ℕ) (root : Tree) → KnowsCache st c → root_at c (object.Tree tree) ≡ Some root → IsSeenRoot (st.tally.roots tree) root
seen_root st c tree root k e = on (kept_at c (object.Tree tree)) refl e
  where
    on : (o : Option (Option (List ℕ))) → kept_at c (object.Tree tree) ≡ o → as_root o ≡ Some root → IsSeenRoot (st.tally.roots tree) root
    on None is e = absurd (cc)
    on (Some None) is e = let same : root ≡ empty_tree = cc in inl same
    on (Some (Some bytes)) is e =
        let known = kept_known st c (object.Tree tree) (Some bytes) k is in
        let both : Some known.0 ≡ Some root = sym (tree_only bytes known.0 known.1) ∙ e in
        let same : known.0 ≡ root = cc in
        inr (subst (IsIn (st.tally.roots tree)) same known.2)

-- a leaf
pub seen_leaf : (st : Store) (c : Cache) (tree page : ℕ) (l : Leaf) → KnowsCache st c → leaf_at c (object.Page tree page) ≡ Some l
    → IsSeenLeaf (st.tally.nodes tree page) page l
seen_leaf st c tree page l k e = on (kept_at c (object.Page tree page)) refl e
  where
    on : (o : Option (Option (List ℕ))) → kept_at c (object.Page tree page) ≡ o → as_leaf o ≡ Some l → IsSeenLeaf (st.tally.nodes tree page) page l
    on None is e = absurd (cc)
    on (Some None) is e = let same : l ≡ empty_leaf = cc in inl (kept_known st c (object.Page tree page) None k is, same)
    on (Some (Some bytes)) is e =
        let known = kept_known st c (object.Page tree page) (Some bytes) k is in
        inr (subst (IsIn (st.tally.nodes tree page)) (one_leaf bytes known.0 l known.1 e) known.2)

-- ---- the empty cache, and what is dropped

pub empty_knows : (st : Store) → KnowsCache st empty_cache
empty_knows st = record { objects = tt; versions = tt }

pub cache_drops : (st : Store) (c : Cache) (name : ObjName) → KnowsCache st c → KnowsCache st (dropped c name)
cache_drops st c name k = record { objects = all_left (same_name name) (IsKnown st) c.objects k.objects; versions = k.versions }

pub cache_drops_all : (st : Store) (names : List ObjName) (c : Cache) → KnowsCache st c → KnowsCache st (fold dropped c names)
cache_drops_all st [] c k = k
cache_drops_all st (name ∷ names) c k = cache_drops_all st names (dropped c name) (cache_drops st c name k)

-- ---- what is accepted

-- what a get may have answered of an object: a version of it that landed, or none
abbrev pub MayServe : Store → ObjName → Option (List ℕ) → Type 0
MayServe st name None = Unit {0}
MayServe st name (Some bytes) = HasLanded st name (Some bytes)

-- an absent page is accepted where it is page 1 alone
absent_known : (st : Store) (c : Cache) (tree page : ℕ) (as_leaf : Bool) (version : ℕ) (d : Cache) → accepts c (object.Page tree page) as_leaf None ≡ Ok (version, d)
    → page ≡ 1
absent_known st c tree page false version d e = absurd (never (trouble.Stale page 1 0) (version, d) e)
absent_known st c tree page true version d e = on (page == 1) refl e
  where
    least : ℕ
    least = served_at c (object.Page tree page)

    on : (b : Bool) → (page == 1) ≡ b
        → ◌≡◌ {A = Outcome} (cond (b && (least == 0)) (Ok (0, placed c (object.Page tree page) None)) (Err (trouble.Stale page (max 1 least) 0))) (Ok (version, d)) → page ≡ 1
    on true is e = eqb-true page 1 is
    on false is e = absurd (never (trouble.Stale page (max 1 least) 0) (version, d) e)

got_known : (st : Store) (c : Cache) (name : ObjName) (as_leaf : Bool) (got : Option (List ℕ)) (version : ℕ) (d : Cache) → MayServe st name got
    → accepts c name as_leaf got ≡ Ok (version, d) → HasLanded st name got
got_known st c (object.Head client) as_leaf None version d may e = tt
got_known st c (object.Tree tree) as_leaf None version d may e = tt
got_known st c (object.Page tree page) as_leaf None version d may e = absent_known st c tree page as_leaf version d e
got_known st c name as_leaf (Some bytes) version d may e = may

-- ---- the versions that were served

-- those of a cache behind one that is served
abbrev with_served : List Served → ObjName → ℕ → List Served
with_served vs name version = (served (record empty_cache { versions = vs }) name version).versions

inserted_known : (st : Store) (name : ObjName) (version : ℕ) → WasServed st name version → (vs : List Served) → AllByRecursion (IsServed st) vs
    → AllByRecursion (IsServed st) (with_served vs name version)
inserted_known st name version is [] all = (is, tt)
inserted_known st name version is (v ∷ vs) all = on (same_name name v.0) refl (inserted_known st name version is vs all.1)
  where
    on : (b : Bool) → same_name name v.0 ≡ b → AllByRecursion (IsServed st) (with_served vs name version)
        → AllByRecursion (IsServed st) (cond b ((v.0, version) ∷ vs) (v ∷ with_served vs name version))
    on true same more = (subst (λ (n : ObjName). WasServed st n version) (same_name-is name v.0 same) is, all.1)
    on false same more = (all.0, more)

abbrev cache_in : ℕ × Cache → Outcome → Cache
cache_in other (Ok x) = x.1
cache_in other (Err t) = other.1

-- the cache that is left has the versions of the one that it is
same_versions : (st : Store) (x : ℕ × Cache) (version : ℕ) (d : Cache) → ◌≡◌ {A = Outcome} (Ok x) (Ok (version, d)) → AllByRecursion (IsServed st) x.1.versions
    → AllByRecursion (IsServed st) d.versions
same_versions st x version d e k = subst (λ (c : Cache). AllByRecursion (IsServed st) c.versions) (ap (cache_in x) e) k

module _ (st : Store) (c : Cache) (version : ℕ) (d : Cache) (k : AllByRecursion (IsServed st) c.versions) where
  leaf_served : (tree page : ℕ) (bytes : List ℕ) (n : ℕ) → MayServe st (object.Page tree page) (Some bytes) → leaf_version bytes ≡ Ok n
      → accepts_read c (object.Page tree page) true bytes (Ok n) ≡ Ok (version, d) → AllByRecursion (IsServed st) d.versions
  leaf_served tree page bytes n (node, spelled, there) read e = on (nat_lt n (served_at c name)) e
    where
      name : ObjName
      name = object.Page tree page

      is : WasServed st name n
      is = (node, there, leaf_version_is bytes node n spelled read)

      on : (b : Bool) → ◌≡◌ {A = Outcome} (cond b (Err (trouble.Stale page (served_at c name) n)) (Ok (n, served (placed c name (Some bytes)) name n))) (Ok (version, d))
          → AllByRecursion (IsServed st) d.versions
      on true e = absurd (never (trouble.Stale page (served_at c name) n) (version, d) e)
      on false e = same_versions st (n, served (placed c name (Some bytes)) name n) version d e (inserted_known st name n is c.versions k)

  read_served : (name : ObjName) (as_leaf : Bool) (bytes : List ℕ) → MayServe st name (Some bytes) → (r : Result ℕ ℕ) → version_read name as_leaf bytes ≡ r
      → accepts_read c name as_leaf bytes r ≡ Ok (version, d) → AllByRecursion (IsServed st) d.versions
  read_served name as_leaf bytes may (Err offset) read e = absurd (never (trouble.Damaged (place.Object name) offset) (version, d) e)
  read_served (object.Head client) as_leaf bytes may (Ok n) read e = same_versions st (n, placed c (object.Head client) (Some bytes)) version d e k
  read_served (object.Tree tree) as_leaf bytes may (Ok n) read e = same_versions st (n, placed c (object.Tree tree) (Some bytes)) version d e k
  read_served (object.Page tree page) true bytes may (Ok n) read e = leaf_served tree page bytes n may read e
  read_served (object.Page tree page) false bytes may (Ok n) read e = same_versions st (n, placed c (object.Page tree page) (Some bytes)) version d e k

  got_served : (name : ObjName) (as_leaf : Bool) (got : Option (List ℕ)) → MayServe st name got → accepts c name as_leaf got ≡ Ok (version, d)
      → AllByRecursion (IsServed st) d.versions
  got_served (object.Head client) as_leaf None may e = same_versions st (0, placed c (object.Head client) None) version d e k
  got_served (object.Tree tree) as_leaf None may e = same_versions st (0, placed c (object.Tree tree) None) version d e k
  got_served (object.Page tree page) false None may e = absurd (never (trouble.Stale page 1 0) (version, d) e)
  got_served (object.Page tree page) true None may e = on ((page == 1) && (served_at c name == 0)) e
    where
      name : ObjName
      name = object.Page tree page

      on : (b : Bool) → ◌≡◌ {A = Outcome} (cond b (Ok (0, placed c name None)) (Err (trouble.Stale page (max 1 (served_at c name)) 0))) (Ok (version, d))
          → AllByRecursion (IsServed st) d.versions
      on true e = same_versions st (0, placed c name None) version d e k
      on false e = absurd (never (trouble.Stale page (max 1 (served_at c name)) 0) (version, d) e)
  got_served name as_leaf (Some bytes) may e = read_served name as_leaf bytes may (version_read name as_leaf bytes) refl e

pub cache_accepts : (st : Store) (c : Cache) (name : ObjName) (as_leaf : Bool) (got : Option (List ℕ)) (version : ℕ) (d : Cache) → KnowsCache st c → MayServe st name got
    → accepts c name as_leaf got ≡ Ok (version, d) → KnowsCache st d
cache_accepts st c name as_leaf got version d k may e = record {
  objects = subst (λ (objects : List Kept). AllByRecursion (IsKnown st) objects) (sym (accept_first c name as_leaf got version d e))
      (all_front (IsKnown st) 64 ((name, got) ∷ remove_entry (same_name name) c.objects)
      (got_known st c name as_leaf got version d may e, all_left (same_name name) (IsKnown st) c.objects k.objects));
  versions = got_served st c version d k.versions name as_leaf got may e;
}

-- ---- versions that are appended

-- what was there is there still
pub in_grown : {X : Type 0} (xs ys : List X) (x : X) → BeginsWith xs ys → IsIn xs x → IsIn ys x
in_grown xs ys x begins there = subst (λ l. IsIn l x) (sym begins.1) (in_front xs begins.0 x there)

module _ (st su : Store) (grows : Grows st su) where
  pub landed_grows : (name : ObjName) (got : Option (List ℕ)) → HasLanded st name got → HasLanded su name got
  landed_grows (object.Head client) got k = tt
  landed_grows (object.Tree tree) None k = tt
  landed_grows (object.Tree tree) (Some bytes) (root, spelled, there) =
      (root, spelled, in_grown (st.tally.roots tree) (su.tally.roots tree) root (grows.roots tree) there)
  landed_grows (object.Page tree page) None k = k
  landed_grows (object.Page tree page) (Some bytes) (node, spelled, there) =
      (node, spelled, in_grown (st.tally.nodes tree page) (su.tally.nodes tree page) node (grows.nodes tree page) there)

  objects_grow : (objects : List Kept) → AllByRecursion (IsKnown st) objects → AllByRecursion (IsKnown su) objects
  objects_grow [] k = tt
  objects_grow (o ∷ objects) k = (landed_grows o.0 o.1 k.0, objects_grow objects k.1)

  served_grows : (name : ObjName) (version : ℕ) → WasServed st name version → WasServed su name version
  served_grows (object.Head client) version k = tt
  served_grows (object.Tree tree) version k = tt
  served_grows (object.Page tree page) version (node, there, is) = (node, in_grown (st.tally.nodes tree page) (su.tally.nodes tree page) node (grows.nodes tree page) there, is)

  versions_grow : (vs : List Served) → AllByRecursion (IsServed st) vs → AllByRecursion (IsServed su) vs
  versions_grow [] k = tt
  versions_grow (v ∷ vs) k = (served_grows v.0 v.1 k.0, versions_grow vs k.1)

  pub cache_grows : (c : Cache) → KnowsCache st c → KnowsCache su c
  cache_grows c k = record { objects = objects_grow c.objects k.objects; versions = versions_grow c.versions k.versions }
