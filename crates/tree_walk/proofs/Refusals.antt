-- Why a cache refuses what a get answered, with the version that was found; and that it does so exactly then.
use Rattle.std.proofs.Common.{◌≡◌, ℕ, zero, suc, ◌<◌, ◌⊎◌, inl, inr, Bool, true, false, cond, ◌&&◌, ◌==◌, nat_lt, List, Option, Some, None, Result, Ok, Err, refl, sym, ap, ◌∙◌, subst, arith}
use Rattle.std.specs.Prelude.{max}
use Rattle.std.proofs.Math.Nat.{max-eq_right}
use Rattle.std.proofs.lemmas.Bool.{ltb-true, lt-ltb, eqb-true}
use Rattle.db_base.specs.declared.names.ObjName.{ObjName}
use Rattle.db_base.specs.declared.names.ObjName.TheVariants.{Head, Tree, Page}
use Rattle.db_base.specs.declared.names.Place.TheVariants as place
use Rattle.db_base.specs.declared.trouble.Trouble.{Trouble}
use Rattle.db_base.specs.declared.trouble.Trouble.TheVariants.{Stale, Damaged}
use Rattle.page_cache.specs.Spelled.{version_read}
use Rattle.page_cache.specs.Cache.{Cache, served_at, placed, served, accepts, accepts_no_leaf, accepts_leaf, accepts_read}
use Rattle.page_cache.specs.Refused.{IsDamaged, least_of}
use Rattle.page_cache.proofs.CacheLemmas.{Outcome, never, the_trouble}
use Rattle.tree_walk.specs.Causes.{IsOld, IsVersionOf}

-- a greatest version that a version is below is the least that may be seen
least_is : (version least : ℕ) → version < least → least ≡ max 1 least
least_is version least h = sym (max-eq_right (omega (arith, h)))

served_before : (page n : ℕ) → ((page == 1) && (n == 0)) ≡ false → page ≡ 1 → 0 < n
served_before page n e is = on n (subst (λ (p : ℕ). ((p == 1) && (n == 0)) ≡ false) is e) where
  on : (k : ℕ) → (k == 0) ≡ false → 0 < k
  on zero h = absurd (cc (h))
  on (suc k) h = omega arith

-- an absent leaf
no_leaf_old : (c : Cache) (tree page : ℕ) (t : Trouble) → accepts_no_leaf c (Page tree page) page (served_at c (Page tree page)) ≡ Err t → IsOld c (Page tree page) true None t
no_leaf_old c tree page t h = on ((page == 1) && (served_at c (Page tree page) == 0)) refl h
  where
    on : (b : Bool) → ((page == 1) && (served_at c (Page tree page) == 0)) ≡ b
        → ◌≡◌ {A = Outcome} (cond b (Ok (0, placed c (Page tree page) None)) (Err (Stale page (max 1 (served_at c (Page tree page))) 0))) (Err t) → IsOld c (Page tree page) true None t
    on true is here = absurd (never t (0, placed c (Page tree page) None) (sym here))
    on false is here = record {
      tree = tree;
      page = page;
      found = 0;
      of = refl;
      version = refl;
      older = inl refl;
      missed = λ leaf first absent. served_before page (served_at c (Page tree page)) is first;
      is = sym (the_trouble (Stale page (max 1 (served_at c (Page tree page))) 0) t here);
    }

-- a leaf of an older version
a_leaf_old : (c : Cache) (tree page : ℕ) (bytes : List ℕ) (n : ℕ) (t : Trouble) → version_read (Page tree page) true bytes ≡ Ok n
    → accepts_leaf c (Page tree page) page bytes (served_at c (Page tree page)) n ≡ Err t → IsOld c (Page tree page) true (Some bytes) t
a_leaf_old c tree page bytes n t read h = on (nat_lt n (served_at c (Page tree page))) refl h
  where
    on : (b : Bool) → nat_lt n (served_at c (Page tree page)) ≡ b
        → ◌≡◌ {A = Outcome} (cond b (Err (Stale page (served_at c (Page tree page)) n)) (Ok (n, served (placed c (Page tree page) (Some bytes)) (Page tree page) n))) (Err t)
        → IsOld c (Page tree page) true (Some bytes) t
    on true is here =
        let older : n < served_at c (Page tree page) = ltb-true n (served_at c (Page tree page)) is in
        record {
          tree = tree;
          page = page;
          found = n;
          of = refl;
          version = read;
          older = inr (refl, older);
          missed = λ leaf first absent. absurd (cc (absent));
          is = sym (the_trouble (Stale page (served_at c (Page tree page)) n) t here) ∙ ap (λ (m : ℕ). Stale page m n) (least_is n (served_at c (Page tree page)) older);
        }
    on false is here = absurd (never t (n, served (placed c (Page tree page) (Some bytes)) (Page tree page) n) (sym here))

read_shows : (c : Cache) (name : ObjName) (as_leaf : Bool) (bytes : List ℕ) (r : Result ℕ ℕ) (t : Trouble) → version_read name as_leaf bytes ≡ r
    → accepts_read c name as_leaf bytes r ≡ Err t → IsOld c name as_leaf (Some bytes) t ⊎ IsDamaged name as_leaf (Some bytes) t
read_shows c name as_leaf bytes (Err offset) t read h =
    inr (record { bytes = bytes; offset = offset; were = refl; fault = read; is = sym (the_trouble (Damaged (place.Object name) offset) t h) })
read_shows c (Head client) as_leaf bytes (Ok n) t read h = absurd (never t (n, placed c (Head client) (Some bytes)) (sym h))
read_shows c (Tree tree) as_leaf bytes (Ok n) t read h = absurd (never t (n, placed c (Tree tree) (Some bytes)) (sym h))
read_shows c (Page tree page) true bytes (Ok n) t read h = inl (a_leaf_old c tree page bytes n t read h)
read_shows c (Page tree page) false bytes (Ok n) t read h = absurd (never t (n, placed c (Page tree page) (Some bytes)) (sym h))

pub refused_shows : (c : Cache) (name : ObjName) (as_leaf : Bool) (got : Option (List ℕ)) (t : Trouble) → accepts c name as_leaf got ≡ Err t
    → IsOld c name as_leaf got t ⊎ IsDamaged name as_leaf got t
refused_shows c (Head client) as_leaf None t h = absurd (never t (0, placed c (Head client) None) (sym h))
refused_shows c (Tree tree) as_leaf None t h = absurd (never t (0, placed c (Tree tree) None) (sym h))
refused_shows c (Page tree page) true None t h = inl (no_leaf_old c tree page t h)
refused_shows c (Page tree page) false None t h =
    inl (record {
      tree = tree;
      page = page;
      found = 0;
      of = refl;
      version = refl;
      older = inl refl;
      missed = λ leaf first absent. absurd (cc (leaf));
      is = sym (the_trouble (Stale page 1 0) t h);
    })
refused_shows c name as_leaf (Some bytes) t h = read_shows c name as_leaf bytes (version_read name as_leaf bytes) t refl h

-- ---- and exactly then

pub damaged_refused : (c : Cache) (name : ObjName) (as_leaf : Bool) (got : Option (List ℕ)) (t : Trouble) → IsDamaged name as_leaf got t → accepts c name as_leaf got ≡ Err t
damaged_refused c name as_leaf got t h =
    let bytes : accepts c name as_leaf got ≡ accepts c name as_leaf (Some h.bytes) = ap (accepts c name as_leaf) h.were in
    bytes ∙ ap (accepts_read c name as_leaf h.bytes) h.fault ∙ ap (λ (u : Trouble). Err u) (sym h.is)

missed_before : (page n : ℕ) → (page ≡ 1 → 0 < n) → ((page == 1) && (n == 0)) ≡ false
missed_before page n h = on (page == 1) refl (n == 0) refl where
  on : (a : Bool) → (page == 1) ≡ a → (b : Bool) → (n == 0) ≡ b → (a && b) ≡ false
  on false e b f = refl
  on true e false f = refl
  on true e true f =
      let some : 0 < n = h (eqb-true page 1 e) in
      let none : n ≡ 0 = eqb-true n 0 f in
      absurd (omega (arith, some, none))

-- of a page
page_refused : (c : Cache) (tree page found : ℕ) (as_leaf : Bool) (got : Option (List ℕ)) → IsVersionOf (Page tree page) as_leaf got found
    → (got ≡ None) ⊎ ((as_leaf ≡ true) × (found < served_at c (Page tree page))) → (as_leaf ≡ true → page ≡ 1 → got ≡ None → 0 < served_at c (Page tree page))
    → accepts c (Page tree page) as_leaf got ≡ Err (Stale page (least_of c (Page tree page) as_leaf) found)
page_refused c tree page found true None version older missed =
    let name = Page tree page in
    ap (λ (b : Bool). cond b (Ok (0, placed c name None)) (Err (Stale page (max 1 (served_at c name)) 0))) (missed_before page (served_at c name) (λ first. missed refl first refl))
    ∙ ap (λ (k : ℕ). Err (Stale page (max 1 (served_at c name)) k)) (sym version)
page_refused c tree page found false None version older missed = ap (λ (k : ℕ). Err (Stale page 1 k)) (sym version)
page_refused c tree page found as_leaf (Some bytes) version (inl none) missed = absurd (cc (none))
page_refused c tree page found false (Some bytes) version (inr h) missed = absurd (cc (h.0))
page_refused c tree page found true (Some bytes) version (inr h) missed =
    let name = Page tree page in
    ap (accepts_read c name true bytes) version
    ∙ ap (λ (b : Bool). cond b (Err (Stale page (served_at c name) found)) (Ok (found, served (placed c name (Some bytes)) name found))) (lt-ltb found (served_at c name) h.1)
    ∙ ap (λ (k : ℕ). Err (Stale page k found)) (least_is found (served_at c name) h.1)

pub old_refused : (c : Cache) (name : ObjName) (as_leaf : Bool) (got : Option (List ℕ)) (t : Trouble) → IsOld c name as_leaf got t → accepts c name as_leaf got ≡ Err t
old_refused c name as_leaf got t h =
    on name h.of h.version h.older h.missed h.is
  where
    on : (n : ObjName) → n ≡ Page h.tree h.page → IsVersionOf n as_leaf got h.found → (got ≡ None) ⊎ ((as_leaf ≡ true) × (h.found < served_at c n))
        → (as_leaf ≡ true → h.page ≡ 1 → got ≡ None → 0 < served_at c n) → t ≡ Stale h.page (least_of c n as_leaf) h.found → accepts c n as_leaf got ≡ Err t
    on (Head client) e version older missed is = absurd (cc (e))
    on (Tree tree) e version older missed is = absurd (cc (e))
    on (Page tree page) e version older missed is =
        let same : page ≡ h.page = cc (e) in
        page_refused c tree page h.found as_leaf got version older (λ leaf first absent. missed leaf (sym same ∙ first) absent)
        ∙ ap (λ (p : ℕ). Err (Stale p (least_of c (Page tree page) as_leaf) h.found)) same ∙ ap (λ (u : Trouble). Err u) (sym is)
