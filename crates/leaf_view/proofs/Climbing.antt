-- Records read in order stand where the first and the last of them do.
use Rattle.std.proofs.Common.{◌≡◌, ℕ, ◌+◌, ◌≤◌, Bool, true, false, List, length, ◌++◌, Option, Some, None, Ok, refl, sym, ap, subst, ◌∙◌}
use Rattle.std.specs.Prelude.{◌&&◌, not}
use Rattle.std.specs.Ordering.{is_lt}
use Rattle.std.specs.declared.cmp.Ordering.{Ordering}
use Rattle.std.specs.declared.cmp.Ordering.TheVariants.{Less, Equal, Greater}
use Rattle.std.proofs.lemmas.Bool.{and_parts, and_from}
use Rattle.std.proofs.lemmas.Cmp.{nat_list_cmp_total}
use Rattle.byte_format.specs.Format.{in_range, list_at, more_at}
use Rattle.byte_format.specs.Gives.{behind_it}
use Rattle.byte_format.specs.Order.{bytes_below, bytes_cmp, below_bound}
use Rattle.byte_format.specs.Whole.{IsBytes}
use Rattle.byte_format.proofs.Loops.{IsOnTheWay, begins, next_of, goes_on, ends}
use Rattle.byte_format.proofs.Lists.{more_takes}
use Rattle.byte_format.proofs.Steps.{IsBytes-along, IsBytes-rest}
use Rattle.leaf_view.specs.Leaf.{Entry, attribute, key_stands, record_item, plain_entry}
use Rattle.leaf_view.specs.Ascent.{comes_next, last_below}
use Rattle.leaf_view.proofs.Exact.{record_exact, plain_entry_exact}

less_of : (a b : List ℕ) → bytes_below a b ≡ true → bytes_cmp a b ≡ Less
less_of a b h = on (bytes_cmp a b) h
  where
    on : (o : Ordering) → is_lt o ≡ true → o ≡ Less
    on Less h = refl
    on Equal h = absurd cc
    on Greater h = absurd cc

below_trans : (a b c : List ℕ) → bytes_below a b ≡ true → bytes_below b c ≡ true → bytes_below a c ≡ true
below_trans a b c p q = ap is_lt (nat_list_cmp_total.trans a b c (less_of a b p) (less_of b c q))

-- what stands above a key that is not below low is not below low
stays_from : (low a b : List ℕ) → bytes_below a low ≡ false → bytes_below a b ≡ true → bytes_below b low ≡ false
stays_from low a b from above = on (bytes_below b low) refl
  where
    on : (o : Bool) → bytes_below b low ≡ o → o ≡ false
    on false is = refl
    on true is = absurd (cc (from, below_trans a b low above is))

-- what stands below a key that is below the bound is below the bound
stays_below : (high : Option (List ℕ)) (a b : List ℕ) → bytes_below a b ≡ true → below_bound b high ≡ true → below_bound a high ≡ true
stays_below None a b below h = refl
stays_below (Some c) a b below h = below_trans a b c below h

not_true : (b : Bool) → not b ≡ true → b ≡ false
not_true false h = refl
not_true true h = absurd cc

-- no record so far is below low
abbrev pub IsFrom : List ℕ → Option Entry → Type 0
IsFrom low None = Unit {0}
IsFrom low (Some e) = bytes_below e.key low ≡ false

next_from : (low : List ℕ) (before : Option Entry) (x : Entry) → IsFrom low before → comes_next low before x.key ≡ true → bytes_below x.key low ≡ false
next_from low None x from next = not_true (bytes_below x.key low) next
next_from low (Some e) x from next = stays_from low e.key x.key from next

next_under : (low : List ℕ) (high : Option (List ℕ)) (before : Option Entry) (x : Entry) → comes_next low before x.key ≡ true → below_bound x.key high ≡ true → last_below before high ≡ true
next_under low high None x next under = refl
next_under low high (Some e) x next under = stays_below high e.key x.key next under

next_stands : (low : List ℕ) (high : Option (List ℕ)) (before : Option Entry) (x : Entry) → IsFrom low before → comes_next low before x.key ≡ true → below_bound x.key high ≡ true → key_stands low high before x.key ≡ true
next_stands low high None x from next under = and_from _ _ (and_from _ _ next under) refl
next_stands low high (Some e) x from next under = and_from _ _ (and_from _ _ (ap not (stays_from low e.key x.key from next)) under) next

narrow_fits : (format : ℕ) (low : List ℕ) (high : Option (List ℕ)) (before : Option Entry) (x : Entry) → key_stands low high before x.key ≡ true → (plain_entry format).fits x ≡ true → (record_item format low high before).fits x ≡ true
unfolding record_item plain_entry
narrow_fits format low high before x stands h =
    let p = and_parts (in_range 1 64 (length x.key)) (in_range 0 1024 (length x.value.payload) && (attribute format).fits x.value.attr) h in
    and_from _ _ (and_from _ _ p.0 stands) p.1

alike : (format : ℕ) (low : List ℕ) (high : Option (List ℕ)) (before : Option Entry) (x : Entry) (after : List ℕ) → (plain_entry format).spelling x ++ after ≡ (record_item format low high before).spelling x ++ after
unfolding record_item plain_entry
alike format low high before x after = refl

-- a record that is read, and stands where it may
narrowed : (format : ℕ) (low : List ℕ) (high : Option (List ℕ)) (before : Option Entry) (bytes : List ℕ) (x : Entry) (after : List ℕ) → IsBytes bytes
    → key_stands low high before x.key ≡ true → (plain_entry format).reading bytes ≡ Ok (x, after) → (record_item format low high before).reading bytes ≡ Ok (x, after)
narrowed format low high before bytes x after fits stands read =
    let p = (plain_entry_exact format).takes bytes (x, after) fits read in
    let again = (record_exact format low high before).again x after (narrow_fits format low high before x stands p.0) in
    subst (λ bs. (record_item format low high before).reading bs ≡ Ok (x, after)) (sym (p.1 ∙ alike format low high before x after)) again

-- records in order so far: if the last of them is below the bound, they are read as the leaf's are
pub record IsAscent (format : ℕ) (low : List ℕ) (high : Option (List ℕ)) (bytes : List ℕ) (before : Option Entry) (rest : List ℕ) : Type 0 where
  pub fits : IsBytes rest
  pub from : IsFrom low before
  pub way : last_below before high ≡ true → IsOnTheWay (record_item format low high) (behind_it (list_at true (record_item format low high) None bytes)) true before rest

pub starts : (format : ℕ) (low : List ℕ) (high : Option (List ℕ)) (bytes : List ℕ) → IsBytes bytes → IsAscent format low high bytes None bytes
starts format low high bytes fits = record { fits = fits; from = tt; way = λ under. begins (record_item format low high) true None bytes fits }

pub climbs : (format : ℕ) (low : List ℕ) (high : Option (List ℕ)) (bytes : List ℕ) (before : Option Entry) (rest behind : List ℕ) (x : Entry) (after : List ℕ) → IsAscent format low high bytes before rest
    → more_at true rest ≡ Ok (true, behind) → (plain_entry format).reading behind ≡ Ok (x, after) → comes_next low before x.key ≡ true → IsAscent format low high bytes (Some x) after
climbs format low high bytes before rest behind x after ascent more read next =
    let behind_fits = IsBytes-rest 1 behind (IsBytes-along rest _ (more_takes true rest (true, behind) more).0 ascent.fits) in
    record {
      fits = (next_of (λ _. plain_entry format) (λ _. plain_entry_exact format) true before rest behind x after ascent.fits more read).fits;
      from = next_from low before x ascent.from next;
      way = λ under. goes_on (record_item format low high) (record_exact format low high) _ true before rest behind x after (ascent.way (next_under low high before x next under)) more
          (narrowed format low high before behind x after behind_fits (next_stands low high before x ascent.from next under) read);
    }

pub shortens : (format : ℕ) (rest behind : List ℕ) (x : Entry) (after : List ℕ) → IsBytes rest → more_at true rest ≡ Ok (true, behind) → (plain_entry format).reading behind ≡ Ok (x, after) → length after + 1 ≤ length rest
shortens format rest behind x after fits more read = (next_of (λ _. plain_entry format) (λ _. plain_entry_exact format) true None rest behind x after fits more read).less

pub arrives : (format : ℕ) (low : List ℕ) (high : Option (List ℕ)) (bytes : List ℕ) (before : Option Entry) (rest behind : List ℕ) → IsAscent format low high bytes before rest
    → more_at true rest ≡ Ok (false, behind) → last_below before high ≡ true → behind_it (list_at true (record_item format low high) None bytes) ≡ Ok behind
arrives format low high bytes before rest behind ascent more under = ends (record_item format low high) _ true before rest behind (ascent.way under) more
