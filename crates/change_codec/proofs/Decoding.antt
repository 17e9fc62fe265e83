-- What is decoded is spelled so, and what is spelled so is decoded.
use Rattle.std.proofs.Common.{◌-◌, length, ◌≡◌, ℕ, Bool, true, false, cond, List, Some, None, Result, Ok, Err, refl, ap, sym, subst, ◌∙◌}
use Rattle.std.specs.Prelude.{◌&&◌}
use Rattle.std.specs.Str.{bytes_eq}
use Rattle.std.proofs.lemmas.Bool.{and_parts, and_from}
use Rattle.std.proofs.lemmas.Slice.Eq.{bytes_eq-Decides}
use Rattle.byte_format.specs.Format.{Format}
use Rattle.byte_format.specs.Whole.{whole, place_in, offset, IsSpelling, IsExact}
use Rattle.byte_format.proofs.Steps.{ok_is}
use Rattle.byte_format.specs.Gives.{Fails}
use Rattle.byte_format.specs.declared.stop.Stop.{Stop}
use Rattle.byte_format.specs.declared.stop.ReadFault.{ReadFault}
use Rattle.byte_format.specs.declared.stop.ReadFault.TheVariants.{Stopped}
use Rattle.byte_format.proofs.Wholes.{whole_only}
use Rattle.change_codec.specs.Decoded.{if_spelled, decoded}

spelled : {A : Type 0} (f : Format A) (bytes : List ℕ) (r : Result A ℕ) (v : A) → if_spelled f bytes r ≡ Some v → IsSpelling f bytes v
spelled {A = A} f bytes (Ok w) v h = on (f.fits w && bytes_eq (f.spelling w) bytes) refl h
  where
    on : (b : Bool) → (f.fits w && bytes_eq (f.spelling w) bytes) ≡ b → cond b (Some w) None ≡ Some v → IsSpelling f bytes v
    on true is h =
        let p = and_parts (f.fits w) (bytes_eq (f.spelling w) bytes) is in
        let same : f.spelling w ≡ bytes = (bytes_eq-Decides (f.spelling w) bytes).0 p.1 in
        let e : w ≡ v = cc in
        subst (λ (x : A). IsSpelling f bytes x) e (record { fits = p.0; is = sym same })
    on false is h = absurd cc
spelled f bytes (Err left) v h = absurd cc

-- what is decoded is spelled so
pub decoded_spells : {A : Type 0} (f : Format A) (bytes : List ℕ) (v : A) → decoded f bytes ≡ Some v → IsSpelling f bytes v
decoded_spells f bytes v h = spelled f bytes (whole f bytes) v h

-- what is spelled so is decoded
pub decoded-spelling : {A : Type 0} (f : Format A) → IsExact f → (bytes : List ℕ) (v : A) → IsSpelling f bytes v → decoded f bytes ≡ Some v
decoded-spelling f e bytes v s =
    ap (if_spelled f bytes) (whole_only f e bytes v s)
    ∙ ap (λ (b : Bool). cond b (Some v) None) (and_from (f.fits v) (bytes_eq (f.spelling v) bytes) s.fits ((bytes_eq-Decides (f.spelling v) bytes).1 (sym s.is)))

-- bytes that were refused decode to nothing
pub decoded-err : {A : Type 0} (f : Format A) (bytes : List ℕ) (left : ℕ) → whole f bytes ≡ Err left → decoded f bytes ≡ None
decoded-err f bytes left h = ap (if_spelled f bytes) h

-- bytes that were refused spell nothing
pub refused_spells : {A : Type 0} (f : Format A) → IsExact f → (bytes : List ℕ) (left : ℕ) (v : A) → whole f bytes ≡ Err left → IsSpelling f bytes v → ⊥
refused_spells f e bytes left v h s = let read = whole_only f e bytes v s in cc

-- where bytes were refused
pub offset-err : {A : Type 0} (f : Format A) (bytes : List ℕ) (left : ℕ) → whole f bytes ≡ Err left → length bytes - left ≡ offset f bytes
offset-err f bytes left h = sym (ap (place_in bytes) h)

-- the value that was read is the one that is spelled
pub read_spells : {A : Type 0} (f : Format A) → IsExact f → (bytes : List ℕ) (v w : A) → whole f bytes ≡ Ok v → IsSpelling f bytes w → v ≡ w
read_spells f e bytes v w h s = ok_is v w (sym h ∙ whole_only f e bytes w s)

-- a reader that stopped read what its format reads
pub stopped_at : {Y : Type 0} (reading : Result Y ℕ) (fault : ReadFault) (stop : Stop) → fault ≡ Stopped stop → Fails fault reading → reading ≡ Err stop.left
stopped_at reading fault stop is h = subst (λ (f : ReadFault). Fails f reading) is h
