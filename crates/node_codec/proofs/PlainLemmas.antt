-- Lists whose items ask for nothing of the item before them: item after item, and as what is left of lists with rules.
use Rattle.std.proofs.Common.{◌≡◌, ℕ, zero, suc, ◌<◌, ◌≤◌, Bool, true, false, cond, eqb, List, [], ◌∷◌, ◌++◌, length, take, ◌-◌, Option, Some, None, Result, Ok, Err, refl, sym, ap, ◌∙◌, arith}
use Rattle.std.specs.Prelude.{◌&&◌}
use Rattle.byte_format.specs.Format.{Reading, ◌>>=◌, Format, more_at, list_fits, list_spelling, list_from, list_at}
use Rattle.byte_format.specs.Whole.{IsBytes, IsExact}
use Rattle.std.specs.Prelude.{IfOk}
use Rattle.std.proofs.lemmas.List.{length-append, append-nil, take_at}
use Rattle.std.specs.Borrow.{Bor}
use Rattle.byte_format.specs.declared.stop.Stop.{Stop}
use Rattle.byte_format.specs.Gives.{Gives, behind_it}
use Rattle.byte_format.proofs.Steps.{bind_ok, ok_is, never_err, IsBytes-along, IsBytes-behind, IsBytes-rest}
use Rattle.byte_format.proofs.Lists.{more_takes, list_next, list_behind, list_from-suc, list_takes, length-list_spelling, list_exact}
use Rattle.node_codec.specs.Plain.{plain_list, items_read, rest_read, items_of, behind_of, IsList, IsWholeList, IsFirst}

-- ---- what is read is the list

pub items_of-read : {A : Type 0} (f : Format A) (bytes : List ℕ) (xs : List A) (rest : List ℕ) → plain_list f bytes ≡ Ok (xs, rest) → items_of f bytes ≡ xs
unfolding items_of
items_of-read f bytes xs rest h = ap items_read h

pub behind_of-read : {A : Type 0} (f : Format A) (bytes : List ℕ) (xs : List A) (rest : List ℕ) → plain_list f bytes ≡ Ok (xs, rest) → behind_of f bytes ≡ rest
unfolding behind_of
behind_of-read f bytes xs rest h = ap rest_read h

pub list_read : {A : Type 0} (f : Format A) (bytes : List ℕ) (xs : List A) (rest : List ℕ) → plain_list f bytes ≡ Ok (xs, rest) → IsList f bytes
list_read f bytes xs rest h = record { reads = rw (items_of-read f bytes xs rest h, behind_of-read f bytes xs rest h) h }

pub whole_list_read : {A : Type 0} (f : Format A) (bytes : List ℕ) (xs : List A) → plain_list f bytes ≡ Ok (xs, []) → IsWholeList f bytes
whole_list_read f bytes xs h = record { reads = rw (items_of-read f bytes xs [] h) h }

pub list_from_whole : {A : Type 0} (f : Format A) (bytes : List ℕ) → IsWholeList f bytes → IsList f bytes
list_from_whole f bytes w = list_read f bytes (items_of f bytes) [] w.reads

-- ---- item after item

fits_anew : {A : Type 0} (f : Format A) (b c : Option A) (xs : List A) → list_fits true (λ _. f) b xs ≡ list_fits true (λ _. f) c xs
fits_anew f b c [] = refl
fits_anew f b c (x ∷ xs) = refl

spelling_anew : {A : Type 0} (f : Format A) (b c : Option A) (xs : List A) → list_spelling (λ _. f) b xs ≡ list_spelling (λ _. f) c xs
spelling_anew f b c [] = refl
spelling_anew f b c (x ∷ xs) = refl

-- a list that was read with some room is a list
read_anew : {A : Type 0} (f : Format A) → IsExact f → (room : ℕ) (before : Option A) (bytes : List ℕ) (x : List A × List ℕ) → IsBytes bytes → list_from room true (λ _. f) before bytes ≡ Ok x → plain_list f bytes ≡ Ok x
read_anew f e room before bytes x fits h =
    let p = list_takes (λ _. f) (λ _. e) room true before bytes x fits h in
    let is : bytes ≡ list_spelling (λ _. f) None x.0 ++ x.1 = p.1 ∙ ap (λ (s : List ℕ). s ++ x.1) (spelling_anew f before None x.0) in
    let again = (list_exact true (λ _. f) None (λ _. e)).again x.0 x.1 (fits_anew f None before x.0 ∙ p.0) in
    ap (plain_list f) is ∙ again

-- a list opens with what its first byte says
opens : {A : Type 0} (f : Format A) (bytes : List ℕ) (more : Bool × List ℕ) → more_at true bytes ≡ Ok more → plain_list f bytes ≡ list_behind (length bytes) (λ _. f) None more
unfolding list_at
opens f bytes more h = list_from-suc (length bytes) true (λ _. f) None bytes more h

pub first_item : {A : Type 0} (f : Format A) → IsExact f → (bytes behind : List ℕ) (x : A) (after : List ℕ) → IsBytes bytes → IsList f bytes
    → more_at true bytes ≡ Ok (true, behind) → f.reading behind ≡ Ok (x, after) → IsFirst f bytes x after
first_item {A = A} f e bytes behind x after fits l more read =
    let m = (more_takes true bytes (true, behind) more).0 in
    let behind_fits = IsBytes-rest 1 behind (IsBytes-along bytes _ m fits) in
    let p = e.takes behind (x, after) behind_fits read in
    let after_fits = IsBytes-behind (f.spelling x) after (IsBytes-along behind _ p.1 behind_fits) in
    let rest : Reading (List A) = list_from (length bytes) true (λ _. f) (Some x) after in
    let opened : plain_list f bytes ≡ (rest >>= λ xs. Ok (x ∷ xs.0, xs.1)) = opens f bytes (true, behind) more ∙ rw read refl in
    let b = bind_ok rest (λ (xs : List A × List ℕ). Ok (x ∷ xs.0, xs.1)) (items_of f bytes, behind_of f bytes) (sym opened ∙ l.reads) in
    let r : plain_list f after ≡ Ok (b.0.0, b.0.1) = read_anew f e (length bytes) (Some x) after b.0 after_fits b.1 in
    let whole : plain_list f bytes ≡ Ok (x ∷ b.0.0, b.0.1) = opened ∙ ap (λ (r : Reading (List A)). r >>= λ xs. Ok (x ∷ xs.0, xs.1)) b.1 in
    record {
      items = items_of-read f bytes (x ∷ b.0.0) b.0.1 whole ∙ ap (λ (xs : List A). x ∷ xs) (sym (items_of-read f after b.0.0 b.0.1 r));
      behind = behind_of-read f bytes (x ∷ b.0.0) b.0.1 whole ∙ sym (behind_of-read f after b.0.0 b.0.1 r);
      list = list_read f after b.0.0 b.0.1 r;
      fits = after_fits;
    }

pub no_item : {A : Type 0} (f : Format A) (bytes behind : List ℕ) → more_at true bytes ≡ Ok (false, behind) → items_of f bytes ≡ []
no_item f bytes behind more = items_of-read f bytes [] behind (opens f bytes (false, behind) more)

-- where no list begins
no_list : {A : Type 0} (f : Format A) (bytes : List ℕ) (left : ℕ) → more_at true bytes ≡ Err left → plain_list f bytes ≡ Err left
unfolding list_at
no_list f bytes left more = rw more refl

-- a list does not stop
pub never_stops : {A : Type 0} (f : Format A) (bytes : List ℕ) (left : ℕ) → IsList f bytes → more_at true bytes ≡ Err left → ⊥
never_stops f bytes left l more = never_err (items_of f bytes, behind_of f bytes) left (sym l.reads ∙ no_list f bytes left more)

stops_in_item : {A : Type 0} (f : Format A) (bytes behind : List ℕ) (left : ℕ) → IsList f bytes → more_at true bytes ≡ Ok (true, behind) → f.reading behind ≡ Err left → ⊥
stops_in_item f bytes behind left l more read =
    let stopped : plain_list f bytes ≡ Err left = opens f bytes (true, behind) more ∙ rw read refl in
    never_err (items_of f bytes, behind_of f bytes) left (sym l.reads ∙ stopped)

-- ---- the same where a test says which byte it was

along_true : (bytes behind : List ℕ) (more : Bool) → more_at true bytes ≡ Ok (more, behind) → more ≡ true → more_at true bytes ≡ Ok (true, behind)
along_true bytes behind more h e = h ∙ ap (λ (b : Bool). Ok (b, behind)) e

pub first_of : {A : Type 0} (f : Format A) → IsExact f → (bytes behind : List ℕ) (more : Bool) (x : A) (after : List ℕ) → IsBytes bytes → IsList f bytes
    → more_at true bytes ≡ Ok (more, behind) → more ≡ true → f.reading behind ≡ Ok (x, after) → IsFirst f bytes x after
first_of f e bytes behind more x after fits l h is read = first_item f e bytes behind x after fits l (along_true bytes behind more h is) read

pub none_of : {A : Type 0} (f : Format A) (bytes behind : List ℕ) (more : Bool) → more_at true bytes ≡ Ok (more, behind) → more ≡ false → items_of f bytes ≡ []
none_of f bytes behind more h is = no_item f bytes behind (h ∙ ap (λ (b : Bool). Ok (b, behind)) is)

pub never_stops_in_item : {A : Type 0} (f : Format A) (bytes behind : List ℕ) (more : Bool) (left : ℕ) → IsList f bytes → more_at true bytes ≡ Ok (more, behind) → more ≡ true → f.reading behind ≡ Err left → ⊥
never_stops_in_item f bytes behind more left l h is read = stops_in_item f bytes behind left l (along_true bytes behind more h is) read

-- ---- a list with rules is a list without them

more_loosened : (may_end : Bool) (bytes : List ℕ) (x : Bool × List ℕ) → more_at may_end bytes ≡ Ok x → more_at true bytes ≡ Ok x
unfolding more_at
more_loosened true bytes x h = h
more_loosened false [] x h = absurd cc
more_loosened false (b ∷ bs) x h = on (eqb b 1) (eqb b 0) h
  where
    on : (one none : Bool) → cond {A = Reading Bool} one (Ok (true, bs)) (cond (none && false) (Ok (false, bs)) (Err (length (b ∷ bs)))) ≡ Ok x → cond {A = Reading Bool} one (Ok (true, bs)) (cond (none && true) (Ok (false, bs)) (Err (length (b ∷ bs)))) ≡ Ok x
    on true none h = h
    on false true h = absurd cc
    on false false h = absurd cc

-- what an item is read as by its rules it is read as without them
abbrev pub Loosens : {A : Type 0} → (Option A → Format A) → Format A → Type 0
Loosens {A} item f = (before : Option A) (bytes : List ℕ) (x : A × List ℕ) → (item before).reading bytes ≡ Ok x → f.reading bytes ≡ Ok x

loosened : {A : Type 0} (item : Option A → Format A) (f : Format A) → Loosens item f → (room : ℕ) (may_end : Bool) (before : Option A) (bytes : List ℕ) (x : List A × List ℕ)
    → list_from room may_end item before bytes ≡ Ok x → list_from room true (λ _. f) before bytes ≡ Ok x
loosened item f l zero may_end before bytes x h = absurd cc
loosened {A = A} item f l (suc room) may_end before bytes x h =
    let after : Bool × List ℕ → Reading (List A) = λ more. cond more.0 (list_next room item before more.1) (Ok ([], more.1)) in
    let a = bind_ok (more_at may_end bytes) after x h in
    list_from-suc room true (λ _. f) before bytes a.0 (more_loosened may_end bytes a.0 a.1) ∙ on (loosened item f l room true) a.0.0 a.0.1 a.2
  where
    on : ((b : Option A) (bs : List ℕ) (y : List A × List ℕ) → list_from room true item b bs ≡ Ok y → list_from room true (λ _. f) b bs ≡ Ok y) → (more : Bool) (rest : List ℕ)
        → cond {A = Reading (List A)} more (list_next room item before rest) (Ok ([], rest)) ≡ Ok x → list_behind room (λ _. f) before (more, rest) ≡ Ok x
    on ih false rest h = h
    on ih true rest h =
        let a = bind_ok ((item before).reading rest) (λ (y : A × List ℕ). list_from room true item (Some y.0) y.1 >>= λ ys. Ok (y.0 ∷ ys.0, ys.1)) x h in
        let b = bind_ok (list_from room true item (Some a.0.0) a.0.1) (λ (ys : List A × List ℕ). Ok (a.0.0 ∷ ys.0, ys.1)) x a.2 in
        rw (l before rest a.0 a.1, ih (Some a.0.0) a.0.1 b.0 b.1) b.2

pub list_loosened : {A : Type 0} (item : Option A → Format A) (f : Format A) → Loosens item f → (may_end : Bool) (bytes : List ℕ) (x : List A × List ℕ) → list_at may_end item None bytes ≡ Ok x → plain_list f bytes ≡ Ok x
unfolding list_at
list_loosened item f l may_end bytes x h = loosened item f l (suc (length bytes)) may_end None bytes x h

behind_ok : {A : Type 0} (r : Reading A) (rest : List ℕ) → behind_it r ≡ Ok rest → (x : A) × (r ≡ Ok (x, rest))
behind_ok (Ok x) rest h = (x.0, ap (λ (bs : List ℕ). Ok (x.0, bs)) (ok_is x.1 rest h))
behind_ok (Err d) rest h = absurd cc

pub behind_err : {A : Type 0} (r : Reading A) (left : ℕ) → behind_it r ≡ Err left → r ≡ Err left
behind_err (Ok x) left h = absurd cc
behind_err (Err d) left h = cc

-- the list that was skipped
pub skipped : {A : Type 0} (item : Option A → Format A) (f : Format A) → Loosens item f → (may_end : Bool) (bytes rest : List ℕ) → behind_it (list_at may_end item None bytes) ≡ Ok rest
    → (list_at may_end item None bytes ≡ Ok (items_of f bytes, rest)) × (plain_list f bytes ≡ Ok (items_of f bytes, rest))
skipped item f l may_end bytes rest h =
    let a = behind_ok (list_at may_end item None bytes) rest h in
    let p = list_loosened item f l may_end bytes (a.0, rest) a.1 in
    let i = items_of-read f bytes a.0 rest p in
    (rw i a.1, rw i p)

-- ---- a list apart from what follows it

pub rest_no_longer : {A : Type 0} (f : Format A) → IsExact f → (bytes : List ℕ) (xs : List A) (rest : List ℕ) → IsBytes bytes → plain_list f bytes ≡ Ok (xs, rest) → length rest ≤ length bytes
rest_no_longer f e bytes xs rest fits h =
    let p = (list_exact true (λ _. f) None (λ _. e)).takes bytes (xs, rest) fits h in
    omega (arith, ap length p.1, length-append (list_spelling (λ _. f) None xs) rest)

pub list_alone : {A : Type 0} (f : Format A) → IsExact f → (bytes : List ℕ) (xs : List A) (rest list : List ℕ) → IsBytes bytes → plain_list f bytes ≡ Ok (xs, rest) → list ≡ take (length bytes - length rest) bytes → plain_list f list ≡ Ok (xs, [])
list_alone f e bytes xs rest list fits h is =
    let p = (list_exact true (λ _. f) None (λ _. e)).takes bytes (xs, rest) fits h in
    let spelling = list_spelling (λ _. f) None xs in
    let len : length spelling ≡ length bytes - length rest = omega (arith, ap length p.1, length-append spelling rest) in
    let alone : list ≡ spelling ++ [] = is ∙ ap (take (length bytes - length rest)) p.1 ∙ take_at spelling rest (length bytes - length rest) len ∙ sym (append-nil spelling) in
    ap (plain_list f) alone ∙ (list_exact true (λ _. f) None (λ _. e)).again xs [] p.0

-- the bytes of a whole list are its spelling
pub whole_list_is : {A : Type 0} (f : Format A) → IsExact f → (bytes : List ℕ) → IsBytes bytes → IsWholeList f bytes → bytes ≡ list_spelling (λ _. f) None (items_of f bytes)
whole_list_is f e bytes fits w =
    ((list_exact true (λ _. f) None (λ _. e)).takes bytes (items_of f bytes, []) fits w.reads).1 ∙ append-nil (list_spelling (λ _. f) None (items_of f bytes))

-- a spelling is a whole list
pub spelling_read : {A : Type 0} (f : Format A) → IsExact f → (bytes : List ℕ) (xs : List A) → list_fits true (λ _. f) None xs ≡ true → bytes ≡ list_spelling (λ _. f) None xs → plain_list f bytes ≡ Ok (xs, [])
spelling_read f e bytes xs fits is =
    ap (plain_list f) (is ∙ sym (append-nil (list_spelling (λ _. f) None xs))) ∙ (list_exact true (λ _. f) None (λ _. e)).again xs [] fits

pub whole_from_list : {A : Type 0} (f : Format A) (bytes : List ℕ) → IsList f bytes → behind_of f bytes ≡ [] → IsWholeList f bytes
whole_from_list f bytes l nothing = record { reads = l.reads ∙ ap (λ (r : List ℕ). Ok (items_of f bytes, r)) nothing }

pub behind_whole : {A : Type 0} (f : Format A) (bytes : List ℕ) → IsWholeList f bytes → behind_of f bytes ≡ []
behind_whole f bytes w = behind_of-read f bytes (items_of f bytes) [] w.reads

-- the list behind the first item of a whole list
pub whole_behind : {A : Type 0} (f : Format A) (bytes : List ℕ) (x : A) (after : List ℕ) → IsWholeList f bytes → IsFirst f bytes x after → IsWholeList f after
whole_behind f bytes x after w first = whole_from_list f after first.list (sym first.behind ∙ behind_whole f bytes w)

-- a list has fewer items than bytes
pub fewer_items : {A : Type 0} (f : Format A) → IsExact f → (bytes : List ℕ) → IsBytes bytes → IsWholeList f bytes → length (items_of f bytes) < length bytes
fewer_items f e bytes fits w = omega (arith, length-list_spelling (λ _. f) None (items_of f bytes), ap length (whole_list_is f e bytes fits w))

-- what a function that skips a list returns
pub skip_gives : {A : Type 0} (item : Option A → Format A) (f : Format A) → Loosens item f → (may_end : Bool) (bytes : List ℕ) (r : Result (Bor (List ℕ)) Stop)
    → Gives (λ x. x.now) r (behind_it (list_at may_end item None bytes)) → Gives (λ rest. (items_of f bytes, rest.now)) r (list_at may_end item None bytes)
skip_gives item f l may_end bytes (Ok rest) h = (skipped item f l may_end bytes rest.now h).0
skip_gives item f l may_end bytes (Err stop) h = behind_err (list_at may_end item None bytes) stop.left h

pub skip_listed : {A : Type 0} (item : Option A → Format A) (f : Format A) → Loosens item f → (may_end : Bool) (bytes : List ℕ) (r : Result (Bor (List ℕ)) Stop)
    → Gives (λ x. x.now) r (behind_it (list_at may_end item None bytes)) → IfOk r (λ rest. plain_list f bytes ≡ Ok (items_of f bytes, rest.now))
skip_listed item f l may_end bytes (Ok rest) h = (skipped item f l may_end bytes rest.now h).1
skip_listed item f l may_end bytes (Err stop) h = tt
