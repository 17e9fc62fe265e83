-- Reading a list item after item, as a loop does.
use Rattle.std.proofs.Common.{◌≡◌, ℕ, zero, suc, ◌+◌, ◌-◌, ◌<◌, ◌≤◌, Bool, true, false, List, [], ◌∷◌, ◌++◌, length, Option, Some, None, Result, Ok, Err, refl, sym, ap, ◌∙◌, append_assoc, arith}
use Rattle.std.specs.Prelude.{slice_get}
use Rattle.std.proofs.lemmas.List.{length-append}
use Rattle.byte_format.specs.Format.{Reading, ◌>>=◌, Format, more_at, list_from, list_at}
use Rattle.byte_format.specs.Whole.{IsBytes, IsExact}
use Rattle.byte_format.specs.Gives.{behind_it, Fails}
use Rattle.byte_format.specs.declared.stop.ReadFault.{ReadFault}
use Rattle.byte_format.specs.declared.stop.ReadFault.TheVariants.{Stopped, Memory}
use Rattle.byte_format.proofs.Steps.{IsBytes-along, IsBytes-behind, IsBytes-rest}
use Rattle.byte_format.proofs.Lists.{more_takes, list_behind, list_from-suc}

-- what is left gives the total
pub record IsOnTheWay {A : Type 0} (item : Option A → Format A) (total : Result (List ℕ) ℕ) (may_end : Bool) (before : Option A) (rest : List ℕ) : Type 0 where
  pub fits : IsBytes rest
  pub room : ℕ
  pub enough : length rest < room
  pub same : behind_it (list_from room may_end item before rest) ≡ total

pub begins : {A : Type 0} (item : Option A → Format A) (may_end : Bool) (before : Option A) (bytes : List ℕ) → IsBytes bytes → IsOnTheWay item (behind_it (list_at may_end item before bytes)) may_end before bytes
unfolding list_at
begins item may_end before bytes fits = record { fits = fits; room = suc (length bytes); enough = omega arith; same = refl }

-- a list read at the front of what is left, with room for one item at least
opened : {A : Type 0} (item : Option A → Format A) (may_end : Bool) (before : Option A) (rest : List ℕ) (more : Bool × List ℕ) (room : ℕ) → length rest < room → more_at may_end rest ≡ Ok more
    → (m : ℕ) × (room ≡ suc m) × (list_from room may_end item before rest ≡ list_behind m item before more)
opened item may_end before rest more zero short h = absurd (omega arith)
opened item may_end before rest more (suc m) short h = (m, refl, list_from-suc m may_end item before rest more h)

behind_cons : {A : Type 0} (x : A) (r : Reading (List A)) → behind_it (r >>= λ xs. Ok (x ∷ xs.0, xs.1)) ≡ behind_it r
behind_cons x (Ok xs) = refl
behind_cons x (Err d) = refl

-- the bytes of an item are behind a continuation byte, and what is left is shorter
pub record IsNext (rest after : List ℕ) : Type 0 where
  pub fits : IsBytes after
  pub less : length after + 1 ≤ length rest

pub next_of : {A : Type 0} (item : Option A → Format A) → ((b : Option A) → IsExact (item b)) → (may_end : Bool) (before : Option A) (rest behind : List ℕ) (x : A) (after : List ℕ) → IsBytes rest
    → more_at may_end rest ≡ Ok (true, behind) → (item before).reading behind ≡ Ok (x, after) → IsNext rest after
next_of item each may_end before rest behind x after fits more read =
    let m = (more_takes may_end rest (true, behind) more).0 in
    let p = (each before).takes behind (x, after) (IsBytes-rest 1 behind (IsBytes-along rest _ m fits)) read in
    record {
      fits = IsBytes-behind ((item before).spelling x) after (IsBytes-along behind _ p.1 (IsBytes-rest 1 behind (IsBytes-along rest _ m fits)));
      less = omega (arith, ap length m, ap length p.1, length-append ((item before).spelling x) after);
    }

pub goes_on : {A : Type 0} (item : Option A → Format A) → ((b : Option A) → IsExact (item b)) → (total : Result (List ℕ) ℕ) (may_end : Bool) (before : Option A) (rest behind : List ℕ) (x : A) (after : List ℕ) → IsOnTheWay item total may_end before rest
    → more_at may_end rest ≡ Ok (true, behind) → (item before).reading behind ≡ Ok (x, after) → IsOnTheWay item total true (Some x) after
goes_on item each total may_end before rest behind x after way more read =
    let n = next_of item each may_end before rest behind x after way.fits more read in
    let o = opened item may_end before rest (true, behind) way.room way.enough more in
    let one : behind_it (list_from way.room may_end item before rest) ≡ behind_it (list_from o.0 true item (Some x) after) =
    ap behind_it o.2 ∙ rw read (behind_cons x (list_from o.0 true item (Some x) after)) in
    record { fits = n.fits; room = o.0; enough = omega (arith, way.enough, o.1, n.less); same = sym one ∙ way.same }

pub ends : {A : Type 0} (item : Option A → Format A) (total : Result (List ℕ) ℕ) (may_end : Bool) (before : Option A) (rest behind : List ℕ) → IsOnTheWay item total may_end before rest
    → more_at may_end rest ≡ Ok (false, behind) → total ≡ Ok behind
ends item total may_end before rest behind way more =
    let o = opened item may_end before rest (false, behind) way.room way.enough more in
    sym way.same ∙ ap behind_it o.2

-- ---- the same with the items kept

abbrev pub with_front : {A : Type 0} → List A → Reading (List A) → Reading (List A)
with_front front r = r >>= λ xs. Ok (front ++ xs.0, xs.1)

abbrev pub last_of : {A : Type 0} → List A → Option A
last_of xs = slice_get xs (length xs - 1)

push_get : {A : Type 0} (xs : List A) (x : A) → slice_get (xs ++ x ∷ []) (length xs) ≡ Some x
push_get [] x = refl
push_get (y ∷ ys) x = push_get ys x

pub last_of-push : {A : Type 0} (xs : List A) (x : A) → last_of (xs ++ x ∷ []) ≡ Some x
last_of-push xs x = ap (slice_get (xs ++ x ∷ [])) (omega (arith, length-append xs (x ∷ []))) ∙ push_get xs x

pub record IsKept {A : Type 0} (item : Option A → Format A) (total : Reading (List A)) (may_end : Bool) (items : List A) (rest : List ℕ) : Type 0 where
  pub fits : IsBytes rest
  pub room : ℕ
  pub enough : length rest < room
  pub same : with_front items (list_from room may_end item (last_of items) rest) ≡ total

with_no_front : {A : Type 0} (r : Reading (List A)) → with_front [] r ≡ r
with_no_front (Ok xs) = refl
with_no_front (Err d) = refl

pub begins_kept : {A : Type 0} (item : Option A → Format A) (may_end : Bool) (bytes : List ℕ) → IsBytes bytes → IsKept item (list_at may_end item None bytes) may_end [] bytes
unfolding list_at
begins_kept item may_end bytes fits = record { fits = fits; room = suc (length bytes); enough = omega arith; same = with_no_front _ }

front_cons : {A : Type 0} (front : List A) (x : A) (r : Reading (List A)) → with_front front (r >>= λ xs. Ok (x ∷ xs.0, xs.1)) ≡ with_front (front ++ x ∷ []) r
front_cons {A = A} front x (Ok xs) = ap (λ (ys : List A). Ok (ys, xs.1)) (sym (append_assoc front (x ∷ []) xs.0))
front_cons front x (Err d) = refl

pub goes_on_kept : {A : Type 0} (item : Option A → Format A) → ((b : Option A) → IsExact (item b)) → (total : Reading (List A)) (may_end : Bool) (items : List A) (rest behind : List ℕ) (x : A) (after : List ℕ) → IsKept item total may_end items rest
    → more_at may_end rest ≡ Ok (true, behind) → (item (last_of items)).reading behind ≡ Ok (x, after) → IsKept item total true (items ++ x ∷ []) after
goes_on_kept {A = A} item each total may_end items rest behind x after way more read =
    let n = next_of item each may_end (last_of items) rest behind x after way.fits more read in
    let o = opened item may_end (last_of items) rest (true, behind) way.room way.enough more in
    let one : with_front items (list_from way.room may_end item (last_of items) rest) ≡ with_front (items ++ x ∷ []) (list_from o.0 true item (Some x) after) =
    ap (with_front items) o.2 ∙ rw read (front_cons items x (list_from o.0 true item (Some x) after)) in
    record {
      fits = n.fits;
      room = o.0;
      enough = omega (arith, way.enough, o.1, n.less);
      same = ap (λ (b : Option A). with_front (items ++ x ∷ []) (list_from o.0 true item b after)) (last_of-push items x) ∙ sym one ∙ way.same;
    }

pub item_fails_kept : {A : Type 0} (item : Option A → Format A) (total : Reading (List A)) (may_end : Bool) (items : List A) (rest behind : List ℕ) (left : ℕ) → IsKept item total may_end items rest
    → more_at may_end rest ≡ Ok (true, behind) → (item (last_of items)).reading behind ≡ Err left → total ≡ Err left
item_fails_kept item total may_end items rest behind left way more read =
    let o = opened item may_end (last_of items) rest (true, behind) way.room way.enough more in
    sym way.same ∙ ap (with_front items) o.2 ∙ rw read refl

-- a fault of an item is the fault of the list
pub item_faults : {A : Type 0} (fault : ReadFault) (item : Option A → Format A) (total : Reading (List A)) (may_end : Bool) (items : List A) (rest behind : List ℕ) → IsKept item total may_end items rest
    → more_at may_end rest ≡ Ok (true, behind) → Fails fault ((item (last_of items)).reading behind) → Fails fault total
item_faults (Stopped stop) item total may_end items rest behind way more read = item_fails_kept item total may_end items rest behind stop.left way more read
item_faults Memory item total may_end items rest behind way more read = tt
