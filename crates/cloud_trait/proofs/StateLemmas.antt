-- What a change at one name leaves at each.
use Rattle.std.proofs.Common.{◌≡◌, ◌-◌, ◌++◌, ℕ, List, [], ◌∷◌, length, Some, refl, ap, sym, subst, arith, true, false, cond, Ordering}
use Rattle.std.specs.declared.cmp.Ordering.TheVariants.{Less, Equal, Greater}
use Rattle.std.specs.Cmp.{IsTotalOrder}
use Rattle.std.specs.Ordering.{is_eq}
use Rattle.std.specs.Prelude.{slice_get}
use Rattle.std.proofs.lemmas.Cmp.{tied_itself}
use Rattle.std.proofs.lemmas.List.{length-append, get_or_push}
use Rattle.std.proofs.lemmas.Option.{slice_get_read}
use Rattle.db_base.specs.declared.names.ObjName.{ObjName}
use Rattle.cloud_trait.specs.declared.state.Version.{Version}
use Rattle.cloud_trait.specs.State.{put_at, newest_of, newest, landed, CloudState}
use Rattle.cloud_trait.specs.Names.{object_cmp}
use Rattle.cloud_trait.specs.Caller.{Caller}
use Rattle.cloud_trait.proofs.NameLemmas.{object_cmp-total}

-- the value at the argument that was put
pub put_at_same : {K V : Type 0} (cmp : K → K → Ordering) → IsTotalOrder cmp → (f : K → V) (k : K) (v : V) → put_at cmp f k v k ≡ v
put_at_same cmp total f k v =
    let e : is_eq (cmp k k) ≡ true = ap is_eq (tied_itself total k) in rw e

-- the value at another argument
pub put_at_other : {K V : Type 0} (cmp : K → K → Ordering) (f : K → V) (k : K) (v : V) (q : K) → is_eq (cmp k q) ≡ false → put_at cmp f k v q ≡ f q
put_at_other cmp f k v q e = rw e

-- what holds of the new value, and of each old one, holds of each
pub put_at_by : {K V : Type 0} (P : K → V → Type 0) (cmp : K → K → Ordering) → ((a b : K) → cmp a b ≡ Equal → a ≡ b) → (f : K → V) (k : K) (v : V) → P k v → ((q : K) → P q (f q)) → (q : K) → P q (put_at cmp f k v q)
put_at_by {K} {V} P cmp equal f k v here there q = on (cmp k q) refl where
  on : (o : Ordering) → cmp k q ≡ o → P q (cond (is_eq o) v (f q))
  on Less e = there q
  on Equal e = let Q : K → Type 0 = λ x. P x v in subst Q (equal k q e) here
  on Greater e = there q

-- the last item of a list with one more at its end
pub slice_get-push : {X : Type 0} (xs : List X) (x : X) (i : ℕ) → i ≡ length xs → slice_get (xs ++ x ∷ []) i ≡ Some x
slice_get-push {X} xs x i e =
    slice_get_read (xs ++ x ∷ []) (length (xs ++ x ∷ [])) i x refl (omega (arith, length-append xs (x ∷ []))) (sym (get_or_push xs x x i (sym e)))

-- the newest of a list with one version more at its end
pub newest_of-push : (vs : List Version) (v : Version) → newest_of (vs ++ v ∷ []) ≡ v.bytes
newest_of-push vs v =
    let e : length (vs ++ v ∷ []) - 1 ≡ length vs = omega (arith, length-append vs (v ∷ [])) in
    rw (slice_get-push vs v (length (vs ++ v ∷ []) - 1) e)

-- bytes that landed are the newest
pub landed_newest : (who : Caller) (name : ObjName) (bytes : List ℕ) (s : CloudState) → newest (landed who name bytes s) name ≡ Some bytes
landed_newest who name bytes s =
    rw (put_at_same object_cmp object_cmp-total) (newest_of-push (s.versions name) (record { who = who; bytes = Some bytes }))
