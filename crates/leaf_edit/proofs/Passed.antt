-- Records passed before a change.
use Rattle.std.proofs.Common.{◌≡◌, ℕ, ◌+◌, ◌-◌, ◌<◌, ◌≤◌, ◌^◌, true, List, [], ◌∷◌, ◌++◌, length, take, drop, Option, Some, None, refl, sym, ap, subst, ◌∙◌, arith, append_assoc}
use Rattle.std.specs.Prelude.{IsTrue, vec_len}
use Rattle.std.specs.Global.{Vec}
use Rattle.std.specs.List.{AllByRecursion}
use Rattle.std.specs.Option.{option_to_list, SomeIff}
use Rattle.std.specs.Vec.{vec_capacity}
use Rattle.std.proofs.lemmas.List.{length-append, take-append-drop}
use Rattle.db_base.specs.Change.{key_of}
use Rattle.byte_format.specs.Adds.{Adds}
use Rattle.byte_format.specs.Order.{bytes_below}
use Rattle.leaf_view.specs.Leaf.{Entry}
use Rattle.leaf_view.specs.Spelled.{records_spelling}
use Rattle.log_codec.specs.declared.record.PuItem.{PuItem}
use Rattle.leaf_edit.specs.Edited.{edited_by}
use Rattle.leaf_edit.specs.Merging.{AllAbove, AreChanges, AreRecords, Steps}
use Rattle.leaf_edit.specs.Passing.{Leaps, Passes}
use Rattle.leaf_edit.specs.Sizes.{entries_size, entry_size, entry_size_of, IsSize}
use Rattle.leaf_edit.specs.Spelled.{entries_bytes, entry_bytes, entry_bytes_of, run_bytes}
use Rattle.leaf_edit.proofs.Edits.{passes}
use Rattle.leaf_edit.proofs.CutFits.{rest-step}
use Rattle.leaf_edit.proofs.Sizes.{adds-room, entries-size, entry-size, known-size}
use Rattle.leaf_edit.proofs.Spellings.{records-spelled}
use Rattle.leaf_edit.proofs.Stepping.{above-first, tail-records}

-- ---- one record after another

pub passes-none : (key : List ℕ) (es : List Entry) → AreRecords es → Passes key es [] es
passes-none key es h = record { is = refl; below = tt; records = h }

all-append : (P : Entry → Type 0) (front : List Entry) (e : Entry) → AllByRecursion P front → P e → AllByRecursion P (front ++ e ∷ [])
all-append P [] e all here = (here, tt)
all-append P (f ∷ front) e all here = (all.0, all-append P front e all.1 here)

pub passes-one : (key : List ℕ) (es front left left' : List Entry) (e : Entry) (rest : List Entry) → Passes key es front left → left' ≡ left → left' ≡ e ∷ rest
    → bytes_below e.key key ≡ true → Passes key es (front ++ e ∷ []) rest
passes-one key es front left left' e rest h same split below = record {
  is = h.is ∙ (ap (λ l. front ++ l) (sym same ∙ split) ∙ sym (append_assoc front (e ∷ []) rest));
  below = all-append (λ e. IsTrue (bytes_below e.key key)) front e h.below below;
  records = tail-records e rest (subst AreRecords (sym same ∙ split) h.records);
}

-- ---- their bytes

take-front : (front behind : List ℕ) → take (length front) (front ++ behind) ≡ front
take-front [] behind = refl
take-front (x ∷ front) behind = ap (λ l. x ∷ l) (take-front front behind)

pub before-is : (bytes last front : List ℕ) → bytes ≡ front ++ last → take (length bytes - length last) bytes ≡ front
before-is bytes last front is =
    ap (λ n. take n bytes) (count (length bytes) (length front) (length last) (ap (λ l. length l) is ∙ length-append front last))
    ∙ (ap (λ l. take (length front) l) is ∙ take-front front last)
  where
    count : (n m k : ℕ) → n ≡ m + k → n - k ≡ m
    count n m k e = omega arith

run-before : (front rest : List Entry) → entries_bytes (front ++ rest) ≡ run_bytes front ++ entries_bytes rest
run-before [] rest = refl
run-before (e ∷ front) rest = ap (λ l. entry_bytes e ++ l) (run-before front rest) ∙ sym (append_assoc (entry_bytes e) (run_bytes front) (entries_bytes rest))

-- the bytes of records begin with those of the ones that are passed
pub run-front : (key : List ℕ) (es front rest : List Entry) (bytes last : List ℕ) → Passes key es front rest → bytes ≡ records_spelling 2 es → last ≡ records_spelling 2 rest
    → bytes ≡ run_bytes front ++ last
run-front key es front rest bytes last h is_bytes is_last =
    is_bytes ∙ (records-spelled None es ∙ (ap entries_bytes h.is ∙ (run-before front rest ∙ ap (λ l. run_bytes front ++ l) (sym (is_last ∙ records-spelled None rest)))))

pub taken-front : (n : ℕ) (es : List Entry) (bytes last : List ℕ) → bytes ≡ records_spelling 2 es → last ≡ records_spelling 2 (drop n es)
    → bytes ≡ run_bytes (take n es) ++ last
taken-front n es bytes last is_bytes is_last =
    is_bytes ∙ (records-spelled None es ∙ (ap entries_bytes (sym (take-append-drop n es)) ∙ (run-before (take n es) (drop n es) ∙ ap (λ l. run_bytes (take n es) ++ l) (sym (is_last ∙ records-spelled None (drop n es))))))

run-ended : (front : List Entry) → run_bytes front ++ 0 ∷ [] ≡ entries_bytes front
run-ended [] = refl
run-ended (e ∷ front) = append_assoc (entry_bytes e) (run_bytes front) (0 ∷ []) ∙ ap (λ l. entry_bytes e ++ l) (run-ended front)

pub front-added : (out mid bytes : List ℕ) (front : List Entry) → mid ≡ out ++ bytes → bytes ≡ run_bytes front → mid ++ 0 ∷ [] ≡ out ++ entries_bytes front
front-added out mid bytes front added is =
    ap (λ l. l ++ 0 ∷ []) added ∙ (append_assoc out bytes (0 ∷ []) ∙ ap (λ l. out ++ l) (ap (λ l. l ++ 0 ∷ []) is ∙ run-ended front))

-- ---- a step behind them

passes-all : (front rest : List Entry) (xs : List PuItem) → AllByRecursion (λ e. AllAbove e.key xs) front → edited_by (front ++ rest) xs ≡ front ++ edited_by rest xs
passes-all [] rest xs all = refl
passes-all (e ∷ front) rest xs all = passes e (front ++ rest) xs all.0 ∙ ap (λ l. e ∷ l) (passes-all front rest xs all.1)

above-all : (front : List Entry) (x : PuItem) (xs : List PuItem) → AreChanges (x ∷ xs) → AllByRecursion (λ e. IsTrue (bytes_below e.key (key_of x.rec.change))) front
    → AllByRecursion (λ e. AllAbove e.key (x ∷ xs)) front
above-all [] x xs h all = tt
above-all (e ∷ front) x xs h all = (above-first e x xs h all.0, above-all front x xs h all.1)

known-bytes : (known : Option Entry) (es : List Entry) → entries_bytes (option_to_list known ++ es) ≡ entry_bytes_of known ++ entries_bytes es
known-bytes None es = refl
known-bytes (Some e) es = refl

pub leaps : (es rest : List Entry) (xs : List PuItem) (x : PuItem) (ys : List PuItem) (key passed : List ℕ) (front : List Entry) (known : Option Entry) (es' : List Entry) (xs' : List PuItem)
    → xs ≡ x ∷ ys → AreChanges xs → key ≡ key_of x.rec.change → Passes key es front rest → passed ≡ run_bytes front → Steps rest xs known es' xs' → Leaps es xs passed known es' xs'
leaps es rest xs x ys key passed front known es' xs' splits changes same h bytes s = record {
  is = ap (λ l. entries_bytes (edited_by l xs)) h.is
      ∙ (ap entries_bytes (passes-all front rest xs above)
      ∙ (run-before front (edited_by rest xs)
      ∙ (ap (λ l. l ++ entries_bytes (edited_by rest xs)) (sym bytes)
      ∙ ap (λ l. passed ++ l) (ap entries_bytes s.is ∙ known-bytes known (edited_by es' xs')))));
  sized = s.sized;
  records = s.records;
  changes = s.changes;
  shorter = omega (arith, s.shorter, ap (λ l. length l) h.is, length-append front rest);
}
  where
    above : AllByRecursion (λ e. AllAbove e.key xs) front
    above =
        let A : List PuItem → Type 0 = λ xs. AllByRecursion (λ e. AllAbove e.key xs) front in
        let K : List ℕ → Type 0 = λ key. AllByRecursion (λ e. IsTrue (bytes_below e.key key)) front in
        subst A (sym splits) (above-all front x ys (subst AreChanges splits changes) (subst K same h.below))

-- ---- what is appended at a step

pub leap-size : (es left : List Entry) (xs coming : List PuItem) (passed : List ℕ) (known : Option Entry) (es' : List Entry) (xs' : List PuItem)
    → es ≡ left → xs ≡ coming → Leaps es xs passed known es' xs'
    → entries_size (edited_by left coming) ≡ length passed + (entry_size_of known + entries_size (edited_by es' xs'))
leap-size es left xs coming passed known es' xs' hes hxs h =
    ap (λ (l : List Entry). entries_size (edited_by l coming)) (sym hes)
    ∙ (ap (λ (l : List PuItem). entries_size (edited_by es l)) (sym hxs)
    ∙ omega (
      arith,
      entries-size (edited_by es xs),
      entries-size (edited_by es' xs'),
      known-size known,
      ap (λ l. length l) h.is,
      length-append passed (entry_bytes_of known ++ entries_bytes (edited_by es' xs')),
      length-append (entry_bytes_of known) (entries_bytes (edited_by es' xs')),
    ))

-- behind the bytes that were passed
pub leap-room : (out mid : Vec ℕ) (es left : List Entry) (xs coming : List PuItem) (passed : List ℕ) (known : Option Entry) (es' : List Entry) (xs' : List PuItem)
    → es ≡ left → xs ≡ coming → Leaps es xs passed known es' xs' → Adds out mid passed
    → vec_len out + entries_size (edited_by left coming) ≤ vec_capacity out
    → vec_len mid + (entry_size_of known + entries_size (edited_by es' xs')) ≤ vec_capacity mid
leap-room out mid es left xs coming passed known es' xs' hes hxs h added room =
    adds-room out mid passed (length passed) (entry_size_of known + entries_size (edited_by es' xs')) added refl
    (omega (arith, leap-size es left xs coming passed known es' xs' hes hxs h))

pub leap-added : (out mid new : Vec ℕ) (start : List ℕ) (es left : List Entry) (xs coming : List PuItem) (passed : List ℕ) (known : Option Entry) (es' : List Entry) (xs' : List PuItem)
    → es ≡ left → xs ≡ coming → Leaps es xs passed known es' xs' → Adds out mid passed → Adds mid new (entry_bytes_of known)
    → out.items ++ entries_bytes (edited_by left coming) ≡ start → vec_len out + entries_size (edited_by left coming) ≤ vec_capacity out
    → (new.items ++ entries_bytes (edited_by es' xs') ≡ start) × (vec_len new + entries_size (edited_by es' xs') ≤ vec_capacity new)
leap-added out mid new start es left xs coming passed known es' xs' hes hxs h first second before room = (
  ap (λ l. l ++ entries_bytes (edited_by es' xs')) (second.items ∙ ap (λ l. l ++ entry_bytes_of known) first.items)
      ∙ (append_assoc (out.items ++ passed) (entry_bytes_of known) (entries_bytes (edited_by es' xs'))
      ∙ (append_assoc out.items passed (entry_bytes_of known ++ entries_bytes (edited_by es' xs'))
      ∙ (ap (λ l. out.items ++ l) (sym split) ∙ before))),
  adds-room mid new (entry_bytes_of known) (entry_size_of known) (entries_size (edited_by es' xs')) second (known-size known)
      (leap-room out mid es left xs coming passed known es' xs' hes hxs h first room),
)
  where
    split : entries_bytes (edited_by left coming) ≡ passed ++ (entry_bytes_of known ++ entries_bytes (edited_by es' xs'))
    split = ap (λ (l : List Entry). entries_bytes (edited_by l coming)) (sym hes) ∙ (ap (λ (l : List PuItem). entries_bytes (edited_by es l)) (sym hxs) ∙ h.is)

-- ---- all that is left

pub all-size : (es : List Entry) (bytes : List ℕ) → bytes ≡ records_spelling 2 es → length bytes ≡ entries_size es
all-size es bytes is = ap (λ l. length l) (is ∙ records-spelled None es) ∙ entries-size es

pub all-bytes : (es : List Entry) (bytes : List ℕ) → bytes ≡ records_spelling 2 es → bytes ≡ entries_bytes es
all-bytes es bytes is = is ∙ records-spelled None es

pub each-added : (out new : Vec ℕ) (start : List ℕ) (all : List Entry) (e : Entry) (rest : List Entry) → all ≡ e ∷ rest → AreRecords all
    → out.items ++ entries_bytes all ≡ start → vec_len out + entries_size all ≤ vec_capacity out → Adds out new (entry_bytes e)
    → AreRecords rest × ((new.items ++ entries_bytes rest ≡ start) × (vec_len new + entries_size rest ≤ vec_capacity new))
each-added out new start all e rest is records before room added =
    let p = rest-step out.items new.items start all e rest is records before added.items in
    (p.0, (p.1, adds-room out new (entry_bytes e) (entry_size e) (entries_size rest) added (entry-size e) (omega (arith, ap entries_size is))))

-- a sum that was tried
pub tried-size : (r : Option ℕ) (n m : ℕ) → SomeIff r (n < 2 ^ 64) n → n ≡ m → IsSize r m
tried-size None n m h e = omega (arith, h)
tried-size (Some k) n m h e = omega (arith, h)
