-- A change whose leaf a walk found needs no further walk.
use Rattle.std.proofs.Common.{◌≡◌, ◌≤◌, ℕ, zero, suc, Bool, true, false, not, List, [], ◌∷◌, ◌++◌, length, drop, Option, Some, None, refl, ap, sym, subst, ◌∙◌, arith}
use Rattle.std.specs.Prelude.{slice_get, find, if◌then◌else◌, ◌&&◌}
use Rattle.std.specs.Option.{option_map, option_map_or}
use Rattle.std.proofs.lemmas.Bool.{eq-eqb}
use Rattle.byte_format.specs.Order.{bytes_below, below_bound}
use Rattle.leaf_view.specs.Lookup.{holds}
use Rattle.commit_run.specs.Ended.{Ended, spans, page_at}
use Rattle.commit_run.proofs.Words.{key_of, Pending, Leaf, Noted, ended_of, seeks, page_without, pages_of, target_of}

-- a leaf spans the keys that it holds
pub held_spans : (tree page : ℕ) (key : List ℕ) (leaf : Leaf) → holds leaf key ≡ true → spans tree key (ended_of tree page leaf) ≡ true
held_spans tree page key leaf e =
    ap (λ (b : Bool). b && (not (bytes_below key leaf.low) && below_bound key leaf.high)) (eq-eqb tree tree refl) ∙ e

-- a leaf that spans a key is found, or one before it
pub found_last : (tree : ℕ) (key : List ℕ) (es : List Ended) (e : Ended) → spans tree key e ≡ true → (page : ℕ) × (page_at (es ++ e ∷ []) tree key ≡ Some page)
found_last tree key [] e spanned = (e.page, ap (λ (b : Bool). option_map (λ (y : Ended). y.page) (if b then Some e else None)) spanned)
found_last tree key (x ∷ es) e spanned = on (spans tree key x) (found_last tree key es e spanned) where
  on : (b : Bool) → ((page : ℕ) × (page_at (es ++ e ∷ []) tree key ≡ Some page)) → (page : ℕ) × (option_map (λ (y : Ended). y.page) (if b then Some x else find (spans tree key) (es ++ e ∷ [])) ≡ Some page)
  on true more = (x.page, refl)
  on false more = more

-- so a change to the key needs no walk
page_found : (pending : List Pending) (es : List Ended) (n : Noted) (page : ℕ) → page_at es n.tree (key_of n.change) ≡ Some page → (other : ℕ) × (page_without pending es n ≡ Some other)
page_found pending es n page e = on (seeks pending n) where
  on : (b : Bool) → (other : ℕ) × ((if b then page_at es n.tree (key_of n.change) else Some 1) ≡ Some other)
  on true = (page, e)
  on false = (1, refl)

some_pages : (pending : List Pending) (es : List Ended) (n : Noted) (changes : List Noted) (page : ℕ) → page_without pending es n ≡ Some page → 1 ≤ length (pages_of pending es (n ∷ changes))
some_pages pending es n changes page e =
    let are : pages_of pending es (n ∷ changes) ≡ page ∷ pages_of pending es changes = ap (λ (o : Option ℕ). option_map_or (λ p. p ∷ pages_of pending es changes) o []) e in
    subst (λ (l : List ℕ). 1 ≤ length l) (sym are) (omega arith)

-- where the next change is one to the key, the pages of the next changes are one at least
pub next_found : (pending : List Pending) (es : List Ended) (tree : ℕ) (key : List ℕ) (page : ℕ) → page_at es tree key ≡ Some page → (changes : List Noted) (i : ℕ)
    → option_map target_of (slice_get changes i) ≡ Some (tree, key) → 1 ≤ length (pages_of pending es (drop i changes))
next_found pending es tree key page found [] i e = absurd (cc (e))
next_found pending es tree key page found (n ∷ changes) zero e =
    let same : ◌≡◌ {A = ℕ × List ℕ} (target_of n) (tree, key) = cc (e) in
    let here : page_at es n.tree (key_of n.change) ≡ Some page = ap (λ (t : ℕ × List ℕ). page_at es t.0 t.1) same ∙ found in
    let other : (p : ℕ) × (page_without pending es n ≡ Some p) = page_found pending es n page here in
    some_pages pending es n changes other.0 other.1
next_found pending es tree key page found (n ∷ changes) (suc i) e = next_found pending es tree key page found changes i e
