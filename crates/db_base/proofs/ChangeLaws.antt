-- Two changes of one key in one.
use Rattle.std.proofs.Common.{◌≡◌, ℕ, ◌+◌, ◌%◌, ◌^◌, ◌==◌, Bool, true, false, if◌then◌else◌, List, length, Option, Some, None, refl, sym, ap, ◌∙◌, lit<, arith, w64}
use Rattle.std.specs.Int.{to_be_bytes, from_be_bytes}
use Rattle.std.proofs.Math.Nat.{mod-add-mod, add-mod-mod, add_assoc, mod-lt}
use Rattle.std.proofs.lemmas.Nat.{from_be_bytes-to_be_bytes_8}
use Rattle.std.specs.Option.{IfSome}
use Rattle.db_base.specs.Key.{IsPayload, IsAttr}
use Rattle.db_base.specs.Value.{Value}
use Rattle.db_base.specs.Change.{act, added, net, payload_set_by, attr_of, plus}
use Rattle.db_base.specs.declared.change.Change.{Change}
use Rattle.db_base.specs.declared.change.Change.TheVariants.{Insert, Update, Delete, Add}

added-added : (a b c : ℕ) → added (added a b) c ≡ added a (added b c)
added-added a b c = mod-add-mod (a + b) (2 ^ 64) c ∙ ap (λ (n : ℕ). n % 2 ^ 64) (add_assoc a b c) ∙ sym (add-mod-mod a (b + c) (2 ^ 64))

-- two amounts added are their sum added
pub plus-plus : (p : List ℕ) (a b : ℕ) → plus (plus p a) b ≡ plus p (added a b)
plus-plus p a b = on (length p == 8) refl
  where
    n : ℕ
    n = added (from_be_bytes w64 p) a

    on : (is : Bool) → (length p == 8) ≡ is → plus (plus p a) b ≡ plus p (added a b)
    on true e =
        ap (λ is. plus (if is then to_be_bytes w64 n else p) b) e
        ∙ ap (λ (m : ℕ). to_be_bytes w64 (added m b)) (from_be_bytes-to_be_bytes_8 n (mod-lt (from_be_bytes w64 p + a) (lit< tt)))
        ∙ ap (to_be_bytes w64) (added-added (from_be_bytes w64 p) a b)
        ∙ sym (ap (λ is. if is then to_be_bytes w64 (added (from_be_bytes w64 p) (added a b)) else p) e)
    on false e =
        ap (λ is. plus (if is then to_be_bytes w64 n else p) b) e
        ∙ ap (λ is. if is then to_be_bytes w64 (added (from_be_bytes w64 p) b) else p) e
        ∙ sym (ap (λ is. if is then to_be_bytes w64 (added (from_be_bytes w64 p) (added a b)) else p) e)

-- two changes act as their net change
pub act-act : (old : Option Value) (first second : Change) → act (act old first) second ≡ act old (net first second)
act-act old first (Insert key payload attr) = refl
act-act old (Insert key old_payload attr) (Update other payload) = refl
act-act None (Update key old_payload) (Update other payload) = refl
act-act (Some was) (Update key old_payload) (Update other payload) = refl
act-act old (Delete key) (Update other payload) = refl
act-act None (Add key amount) (Update other payload) = refl
act-act (Some was) (Add key amount) (Update other payload) = refl
act-act old first (Delete key) = refl
act-act old (Insert key payload attr) (Add other more) = refl
act-act None (Update key payload) (Add other more) = refl
act-act (Some was) (Update key payload) (Add other more) = refl
act-act old (Delete key) (Add other more) = refl
act-act None (Add key amount) (Add other more) = refl
act-act (Some was) (Add key amount) (Add other more) = ap (λ (p : List ℕ). Some (paired p)) (plus-plus was.payload amount more)
  where
    paired : List ℕ → Value
    paired p = record { payload = p; attr = was.attr }

plus-payload : (p : List ℕ) (amount : ℕ) → IsPayload p → IsPayload (plus p amount)
plus-payload p amount h = on (length p == 8)
  where
    on : (is : Bool) → IsPayload (if is then to_be_bytes w64 (added (from_be_bytes w64 p) amount) else p)
    on true = omega arith
    on false = h

-- a change leaves a payload, where it brings one and finds one
pub act-payload : (old : Option Value) (c : Change) → IfSome old (λ v. IsPayload v.payload) → IsPayload (payload_set_by c)
    → IfSome (act old c) (λ v. IsPayload v.payload)
act-payload old (Insert key payload attr) was h = h
act-payload None (Update key payload) was h = tt
act-payload (Some v) (Update key payload) was h = h
act-payload old (Delete key) was h = tt
act-payload None (Add key amount) was h = tt
act-payload (Some v) (Add key amount) was h = plus-payload v.payload amount was

-- a change leaves an attribute or none, where it brings and finds no other
pub act-attr : (old : Option Value) (c : Change) → IfSome old (λ v. IfSome v.attr IsAttr) → IfSome (attr_of c) IsAttr
    → IfSome (act old c) (λ v. IfSome v.attr IsAttr)
act-attr old (Insert key payload attr) was h = h
act-attr None (Update key payload) was h = tt
act-attr (Some v) (Update key payload) was h = was
act-attr old (Delete key) was h = tt
act-attr None (Add key amount) was h = tt
act-attr (Some v) (Add key amount) was h = was
