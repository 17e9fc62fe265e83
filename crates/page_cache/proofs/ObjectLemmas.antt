-- The objects that are kept, after one is put and after one is forgotten.
use Rattle.std.proofs.Common.{◌≡◌, ℕ, ◌-◌, ◌≤◌, Bool, true, false, cond, List, [], ◌∷◌, length, take, Option, Some, None, Result, Ok, Err, refl, sym, ap, ◌∙◌, subst, arith}
use Rattle.std.specs.Prelude.{OnOk, OnErr, IfSome}
use Rattle.std.specs.List.{AllByRecursion, IsDistinct}
use Rattle.std.specs.Map.{keys_of, lookup, lookup_entry, remove_entry}
use Rattle.std.specs.Option.{option_map_or}
use Rattle.lru.specs.LruCache.{LruCache, lru_cache, put_entries}
use Rattle.db_base.specs.declared.names.ObjName.{ObjName}
use Rattle.page_cache.specs.Names.{same_name}
use Rattle.page_cache.specs.Spelled.{IsSpelled}
use Rattle.page_cache.specs.Cache.{AreObjects, placed_in}
use Rattle.page_cache.proofs.NameLemmas.{same_name-is}
use Rattle.page_cache.proofs.EntryLemmas.{all_left, distinct_left, no_more_left, one_fewer, all_stay, all_front, distinct_front, few_front, whole_front}

abbrev Object : Type 0
Object = ObjName × Option (List ℕ)

pub no_objects : AreObjects []
unfolding IsDistinct
no_objects = record { few = omega arith; distinct = tt; spelled = tt }

-- what is kept of a name is in a spelling of its kind
pub kept_spelled : (name : ObjName) (es : List Object) → AllByRecursion (λ (o : Object). IsSpelled o.0 o.1) es → IfSome (lookup (same_name name) es) (λ bytes. IsSpelled name bytes)
kept_spelled name [] h = tt
kept_spelled name (e ∷ es) h = on (same_name name e.0) refl (kept_spelled name es h.1)
  where
    on : (b : Bool) → same_name name e.0 ≡ b → IfSome (lookup (same_name name) es) (λ bytes. IsSpelled name bytes)
        → IfSome (cond b (Some e.1) (lookup (same_name name) es)) (λ bytes. IsSpelled name bytes)
    on true is rest = subst (λ (n : ObjName). IsSpelled n e.1) (sym (same_name-is name e.0 is)) h.0
    on false is rest = rest

-- the objects without one of them
pub objects_left : (name : ObjName) (es : List Object) → AreObjects es → AreObjects (remove_entry (same_name name) es)
objects_left name es h = record {
  few = omega (arith, no_more_left (same_name name) es, h.few);
  distinct = distinct_left (same_name name) same_name es h.distinct;
  spelled = all_left (same_name name) (λ (o : Object). IsSpelled o.0 o.1) es h.spelled;
}

-- what differs from all of the others differs from a name that is the same
alike : (name other : ObjName) (es : List Object) → same_name name other ≡ true → AllByRecursion (λ y. same_name other y ≡ false) (keys_of es)
    → AllByRecursion (λ y. same_name name y ≡ false) (keys_of es)
alike name other es same h = subst (λ (n : ObjName). AllByRecursion (λ y. same_name n y ≡ false) (keys_of es)) (sym (same_name-is name other same)) h

-- none of those that are left has the name
pub none_left : (name : ObjName) (es : List Object) → IsDistinct same_name (keys_of es) → AllByRecursion (λ y. same_name name y ≡ false) (keys_of (remove_entry (same_name name) es))
unfolding IsDistinct
none_left name [] h = tt
none_left name (e ∷ es) h = on (same_name name e.0) refl (none_left name es h.1)
  where
    on : (b : Bool) → same_name name e.0 ≡ b → AllByRecursion (λ y. same_name name y ≡ false) (keys_of (remove_entry (same_name name) es))
        → AllByRecursion (λ y. same_name name y ≡ false) (keys_of (cond b es (e ∷ remove_entry (same_name name) es)))
    on true is rest = alike name e.0 es is h.0
    on false is rest = (is, rest)

-- with one in front
in_front : (name : ObjName) (bytes : Option (List ℕ)) (es : List Object) → IsDistinct same_name (keys_of es)
    → IsDistinct same_name (keys_of ((name, bytes) ∷ remove_entry (same_name name) es))
unfolding IsDistinct
in_front name bytes es h = (none_left name es h, distinct_left (same_name name) same_name es h)

pub objects_placed : (name : ObjName) (bytes : Option (List ℕ)) (es : List Object) → AreObjects es → IsSpelled name bytes → AreObjects (placed_in es name bytes)
objects_placed name bytes es h spelled = record {
  few = few_front 64 ((name, bytes) ∷ remove_entry (same_name name) es);
  distinct = distinct_front same_name 64 ((name, bytes) ∷ remove_entry (same_name name) es) (in_front name bytes es h.distinct);
  spelled = all_front (λ (o : Object). IsSpelled o.0 o.1) 64 ((name, bytes) ∷ remove_entry (same_name name) es)
      (spelled, all_left (same_name name) (λ (o : Object). IsSpelled o.0 o.1) es h.spelled);
}

-- the kit's cache puts an object so
pub put_is_placed : (c : LruCache ObjName (Option (List ℕ))) (name : ObjName) (bytes : Option (List ℕ)) → c.cap ≡ 64 → AreObjects c.entries
    → put_entries same_name c name bytes ≡ placed_in c.entries name bytes
put_is_placed c name bytes cap h = on (lookup_entry (same_name name) c.entries) refl
  where
    on : (o : Option Object) → lookup_entry (same_name name) c.entries ≡ o
        → option_map_or (λ (e : Object). (e.0, bytes) ∷ remove_entry (same_name name) c.entries) o ((name, bytes) ∷ take (c.cap - 1) c.entries)
        ≡ placed_in c.entries name bytes
    on None is =
        ap (λ (n : ℕ). (name, bytes) ∷ take (n - 1) c.entries) cap
        ∙ ap (λ (l : List Object). (name, bytes) ∷ take 63 l) (sym (all_stay (same_name name) c.entries is))
    on (Some e) is =
        let f = one_fewer (same_name name) c.entries e is in
        let few : length (remove_entry (same_name name) c.entries) ≤ 63 = omega (arith, f.0, h.few) in
        ap (λ (n : ObjName). (n, bytes) ∷ remove_entry (same_name name) c.entries) (sym (same_name-is name e.0 f.1))
        ∙ ap (λ (l : List Object). (name, bytes) ∷ l) (sym (whole_front 63 (remove_entry (same_name name) c.entries) few))

-- what holds of the kit's cache holds of it after a put, whether or not memory ran out
pub after_put : {T E : Type 0} (r : Result T E) (old new : LruCache ObjName (Option (List ℕ))) (name : ObjName) (bytes : Option (List ℕ))
    → OnOk r (new ≡ lru_cache (put_entries same_name old name bytes) old.cap) → OnErr r (new ≡ old)
    → old.cap ≡ 64 → AreObjects old.entries → IsSpelled name bytes → (new.cap ≡ 64) × AreObjects new.entries
after_put (Ok x) old new name bytes ok err cap h spelled =
    rw ok (cap, subst AreObjects (sym (put_is_placed old name bytes cap h)) (objects_placed name bytes old.entries h spelled))
after_put (Err e) old new name bytes ok err cap h spelled = rw err (cap, h)
