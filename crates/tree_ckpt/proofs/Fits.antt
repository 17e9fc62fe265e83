-- What was read fits, whatever the bytes are.
use Rattle.std.proofs.Common.{◌≡◌, ◌-◌, ℕ, zero, suc, Bool, true, false, cond, List, [], ◌∷◌, length, Option, Some, None, Result, Ok, Err, refl, sym, ap, subst, ◌∙◌, arith}
use Rattle.std.specs.Prelude.{◌==◌, ◌&&◌, nat_le, take, drop}
use Rattle.std.specs.Int.{Width, w8, w64}
use Rattle.std.specs.Result.{result_ok}
use Rattle.std.proofs.lemmas.Bool.{and_from, and_parts, leb-true}
use Rattle.std.proofs.lemmas.List.{length-take-le}
use Rattle.byte_format.specs.Format.{Format, ◌>>=◌, greatest, guarded, in_range, number, number_at, unsigned_at, text, text_at, ruled, behind, ◌then◌, seen_as, list_of, list_from, list_at, list_fits, more_at, only_where, option_fits, flagged, maybe}
use Rattle.byte_format.specs.Whole.{whole}
use Rattle.node_codec.specs.Node.{Entry, entry, may_stand, client_number, least_client}
use Rattle.node_codec.specs.Tree.{Tree, tree_of, tree_format, tree_fields, tree_of_fields, fields_of_tree, HasTreeSpelling, TreeFields}
use Rattle.tree_ckpt.proofs.Fences.{bound, of_ok, seen_read, behind_read, then_read, whole_read}
use Rattle.tree_ckpt.proofs.Nodes.{guard_read, ruled_read}

-- a format reads what fits alone
abbrev pub ReadsFit : {A : Type 0} → Format A → Type 0
ReadsFit {A} f = (bytes : List ℕ) (y : A × List ℕ) → f.reading bytes ≡ Ok y → f.fits y.0 ≡ true

number_fits : (w : Width) (least most : ℕ) → ReadsFit (number w least most)
unfolding number_at
number_fits w least most bytes y e =
    let b = bound (unsigned_at w bytes) (λ (n : ℕ × List ℕ). guarded (in_range least most n.0) bytes n) y e in
    let g = guard_read (in_range least most b.0.0) bytes b.0 y b.2 in
    subst (λ (n : ℕ × List ℕ). in_range least most n.0 ≡ true) g.1 g.0

pub text_fits : (w : Width) (least most : ℕ) → ReadsFit (text w least most)
unfolding text_at
text_fits w least most bytes y e =
    let b = bound (number_at w least most bytes) (λ (n : ℕ × List ℕ). guarded (nat_le n.0 (length n.1)) bytes (take n.0 n.1, drop n.0 n.1)) y e in
    let n : in_range least most b.0.0 ≡ true = number_fits w least most bytes b.0 b.1 in
    let g = guard_read (nat_le b.0.0 (length b.0.1)) bytes (take b.0.0 b.0.1, drop b.0.0 b.0.1) y b.2 in
    let whole : length (take b.0.0 b.0.1) ≡ b.0.0 = length-take-le b.0.0 b.0.1 (leb-true b.0.0 (length b.0.1) g.0) in
    subst (λ (x : List ℕ × List ℕ). in_range least most (length x.0) ≡ true) g.1 (ap (in_range least most) whole ∙ n)

pub ruled_fits : {A : Type 0} (rule : A → Bool) (f : Format A) → ReadsFit f → ReadsFit (ruled rule f)
ruled_fits rule f h bytes y e =
    let r = ruled_read rule f bytes y e in
    and_from (f.fits y.0) (rule y.0) (h bytes y r.0) r.1

pub then_fits : {A B : Type 0} (f : Format A) (g : A → Format B) → ReadsFit f → ((a : A) → ReadsFit (g a)) → ReadsFit (f then g)
then_fits f g h k bytes y e =
    let t = then_read f g bytes y e in
    and_from (f.fits y.0.0) ((g y.0.0).fits y.0.1) (h bytes (y.0.0, t.0) t.1) (k y.0.0 t.0 (y.0.1, y.1) t.2)

behind_fits : {A : Type 0} (mark : ℕ) (f : Format A) → ReadsFit f → ReadsFit (behind mark f)
behind_fits mark f h bytes y e = let b = behind_read mark f bytes y e in h b.0 y b.1

pub seen_fits : {A B : Type 0} (view : A → B) (back : B → A) (f : Format A) → ((x : A) → back (view x) ≡ x) → ReadsFit f → ReadsFit (seen_as view back f)
seen_fits {A} {B} view back f again h bytes y e =
    let s = seen_read view back f bytes y e in
    subst (λ (x : B). f.fits (back x) ≡ true) s.2 (ap f.fits (again s.0.0) ∙ h bytes s.0 s.1)

-- a field that is there exactly where it is said
pub only_where_fits : {A : Type 0} (there : Bool) (f : Format A) → ReadsFit f → ReadsFit (only_where there f)
only_where_fits {A} true f h bytes y e =
    let b = bound (f.reading bytes) (λ (x : A × List ℕ). Ok (Some x.0, x.1)) y e in
    subst (λ (x : Option A × List ℕ). option_fits true f x.0 ≡ true) (of_ok (Some b.0.0, b.0.1) y b.2) (h bytes b.0 b.1)
only_where_fits {A} false f h bytes y e = subst (λ (x : Option A × List ℕ). option_fits false f x.0 ≡ true) (of_ok (None, bytes) y e) refl

-- the flag is told by whether the field is there
flagged_again : {A : Type 0} (f : Format A) (x : ℕ × Option A) → (in_range 0 1 x.0 && option_fits (x.0 == 1) f x.1) ≡ true → flagged x.1 ≡ x
flagged_again f (zero, None) h = refl
flagged_again f (zero, Some v) h = absurd cc
flagged_again f (suc zero, None) h = absurd cc
flagged_again f (suc zero, Some v) h = refl
flagged_again f (suc (suc n), x) h =
    let p = and_parts (in_range 0 1 (suc (suc n))) (option_fits (suc (suc n) == 1) f x) h in
    let q = and_parts (nat_le 0 (suc (suc n))) (nat_le (suc (suc n)) 1) p.0 in
    absurd (omega (arith, leb-true (suc (suc n)) 1 q.1))

-- a field that may be there
pub maybe_fits : {A : Type 0} (f : Format A) → ReadsFit f → ReadsFit (maybe f)
maybe_fits {A} f h bytes y e =
    let g : Format (ℕ × Option A) = number w8 0 1 then λ (there : ℕ). only_where (there == 1) f in
    let s = seen_read (λ (x : ℕ × Option A). x.1) flagged g bytes y e in
    let fits : g.fits s.0.0 ≡ true =
    then_fits (number w8 0 1) (λ (there : ℕ). only_where (there == 1) f) (number_fits w8 0 1) (λ there. only_where_fits (there == 1) f h) bytes s.0 s.1 in
    subst (λ (o : Option A). g.fits (flagged o) ≡ true) s.2 (ap g.fits (flagged_again f s.0.0 fits) ∙ fits)

-- an item follows where there may be none
more_is : (bytes : List ℕ) (y : Bool × List ℕ) → more_at false bytes ≡ Ok y → y.0 ≡ true
unfolding more_at
more_is [] y e = absurd (cc (e))
more_is (b ∷ rest) y e = on (b == 1) (b == 0) e where
  on : (c d : Bool) → cond c (Ok (true, rest)) (cond (d && false) (Ok (false, rest)) (Err (length (b ∷ rest)))) ≡ Ok y → y.0 ≡ true
  on true d f = sym (ap (λ (x : Bool × List ℕ). x.0) (of_ok (true, rest) y f))
  on false true f = absurd (cc (f))
  on false false f = absurd (cc (f))

more_may : (may_end : Bool) (bytes : List ℕ) (y : Bool × List ℕ) → more_at may_end bytes ≡ Ok y → y.0 ≡ false → may_end ≡ true
more_may true bytes y e none = refl
more_may false bytes y e none = absurd (let some : y.0 ≡ true = more_is bytes y e in cc)

items_fit : {A : Type 0} (item : Option A → Format A) → ((b : Option A) → ReadsFit (item b)) → (room : ℕ) (may_end : Bool) (before : Option A) (bytes : List ℕ) (y : List A × List ℕ)
    → list_from room may_end item before bytes ≡ Ok y → list_fits may_end item before y.0 ≡ true
items_fit item each zero may_end before bytes y e = absurd (cc (e))
items_fit {A} item each (suc room) may_end before bytes y e =
    let m = bound (more_at may_end bytes) (λ (more : Bool × List ℕ). cond more.0
    ((item before).reading more.1 >>= λ (x : A × List ℕ). list_from room true item (Some x.0) x.1 >>= λ (xs : List A × List ℕ). Ok (x.0 ∷ xs.0, xs.1)) (Ok ([], more.1))) y e in
    on m.0.0 m.0.1 (more_may may_end bytes m.0 m.1) m.2 (λ b rest z f. items_fit item each room true b rest z f) where
      on : (more : Bool) (then_on : List ℕ) → (more ≡ false → may_end ≡ true)
          → cond more ((item before).reading then_on >>= λ (x : A × List ℕ). list_from room true item (Some x.0) x.1 >>= λ (xs : List A × List ℕ). Ok (x.0 ∷ xs.0, xs.1)) (Ok ([], then_on)) ≡ Ok y
          → ((b : Option A) (rest : List ℕ) (z : List A × List ℕ) → list_from room true item b rest ≡ Ok z → list_fits true item b z.0 ≡ true)
          → list_fits may_end item before y.0 ≡ true
      on false then_on may f rest = subst (λ (x : List A × List ℕ). list_fits may_end item before x.0 ≡ true) (of_ok ([], then_on) y f) (may refl)
      on true then_on may f rest =
          let first = bound ((item before).reading then_on) (λ (x : A × List ℕ). list_from room true item (Some x.0) x.1 >>= λ (xs : List A × List ℕ). Ok (x.0 ∷ xs.0, xs.1)) y f in
          let second = bound (list_from room true item (Some first.0.0) first.0.1) (λ (xs : List A × List ℕ). Ok (first.0.0 ∷ xs.0, xs.1)) y first.2 in
          subst (λ (x : List A × List ℕ). list_fits may_end item before x.0 ≡ true) (of_ok (first.0.0 ∷ second.0.0, second.0.1) y second.2)
          (and_from ((item before).fits first.0.0) (list_fits true item (Some first.0.0) second.0.0) (each before then_on first.0 first.1)
          (rest (Some first.0.0) first.0.1 second.0 second.1))

pub list_of_fits : {A : Type 0} (may_end : Bool) (item : Option A → Format A) (before : Option A) → ((b : Option A) → ReadsFit (item b)) → ReadsFit (list_of may_end item before)
unfolding list_at
list_of_fits may_end item before each bytes y e = items_fit item each (suc (length bytes)) may_end before bytes y e

pub entry_fits : (low : List ℕ) (high : Option (List ℕ)) (last : ℕ) (before : Option Entry) → ReadsFit (entry low high last before)
entry_fits low high last before =
    then_fits (ruled (may_stand low high before) (text w8 0 64)) (λ (k : List ℕ). ruled (λ (page : ℕ). nat_le page last) (number w64 1 greatest))
    (ruled_fits (may_stand low high before) (text w8 0 64) (text_fits w8 0 64))
    (λ k. ruled_fits (λ (page : ℕ). nat_le page last) (number w64 1 greatest) (number_fits w64 1 greatest))

client_fits : (before : Option (ℕ × ℕ)) → ReadsFit (client_number before)
client_fits before = then_fits (number w8 (least_client before) 64) (λ (c : ℕ). number w64 1 greatest) (number_fits w8 (least_client before) 64) (λ c. number_fits w64 1 greatest)

pub entries_fit : (low : List ℕ) (high : Option (List ℕ)) (last : ℕ) → ReadsFit (list_of false (entry low high last) None)
entries_fit low high last = list_of_fits false (entry low high last) None (entry_fits low high last)

-- ---- a tree object

abbrev tree_lists : ℕ → Format (List (ℕ × ℕ) × List Entry)
tree_lists next = list_of true client_number None then λ cursor. list_of false (entry [] None (next - 1)) None

abbrev tree_level : ℕ → Format (ℕ × (List (ℕ × ℕ) × List Entry))
tree_level next = number w8 1 255 then λ level. tree_lists next

abbrev tree_next : Format (ℕ × (ℕ × (List (ℕ × ℕ) × List Entry)))
tree_next = number w64 2 greatest then λ next. tree_level next

lists_fit : (next : ℕ) → ReadsFit (tree_lists next)
lists_fit next =
    then_fits (list_of true client_number None) (λ (cursor : List (ℕ × ℕ)). list_of false (entry [] None (next - 1)) None) (list_of_fits true client_number None client_fits)
    (λ cursor. entries_fit [] None (next - 1))

level_fits : (next : ℕ) → ReadsFit (tree_level next)
level_fits next = then_fits (number w8 1 255) (λ (level : ℕ). tree_lists next) (number_fits w8 1 255) (λ level. lists_fit next)

next_fits : ReadsFit tree_next
next_fits = then_fits (number w64 2 greatest) (λ (next : ℕ). tree_level next) (number_fits w64 2 greatest) level_fits

fields_fit : ReadsFit tree_fields
fields_fit =
    behind_fits 0x54 (behind 1 (number w64 1 greatest then λ (version : ℕ). tree_next))
    (behind_fits 1 (number w64 1 greatest then λ (version : ℕ). tree_next) (then_fits (number w64 1 greatest) (λ (version : ℕ). tree_next) (number_fits w64 1 greatest) (λ version. next_fits)))

again : (x : TreeFields) → fields_of_tree (tree_of_fields x) ≡ x
again x = refl

whole_fits : (bytes : List ℕ) (t : Tree) → whole tree_format bytes ≡ Ok t → HasTreeSpelling t
whole_fits bytes t e =
    let w = whole_read tree_format bytes t e in
    subst HasTreeSpelling w.2 (seen_fits tree_of_fields fields_of_tree tree_fields again fields_fit bytes w.0 w.1)

pub tree_read_fits : (bytes : List ℕ) (t : Tree) → tree_of bytes ≡ Some t → HasTreeSpelling t
unfolding tree_of
tree_read_fits bytes t e = on (whole tree_format bytes) refl e where
  on : (r : Result Tree ℕ) → whole tree_format bytes ≡ r → result_ok r ≡ Some t → HasTreeSpelling t
  on (Ok u) f g = let same : u ≡ t = cc (g) in subst HasTreeSpelling same (whole_fits bytes u f)
  on (Err left) f g = absurd (cc (g))
