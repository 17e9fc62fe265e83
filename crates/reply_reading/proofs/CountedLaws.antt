-- Lists behind their length, and reports: what is read is spelled so, and each spelling is read.
use Rattle.std.proofs.Common.{◌≡◌, ℕ, zero, suc, ◌-◌, ◌^◌, ◌<◌, ◌≤◌, Bool, true, false, ◌&&◌, nat_le, List, [], ◌∷◌, ◌++◌, length, map, Option, Some, None, Err, refl, sym, ap, ◌∙◌, inl, inr, arith, append_assoc, append-nil}
use Rattle.std.specs.Prelude.{codes, option_map, IfSome}
use Rattle.std.specs.Fmt.{decimal}
use Rattle.std.specs.Str.{bytes_eq}
use Rattle.std.proofs.lemmas.Bool.{and_parts, leb-true, le-leb}
use Rattle.std.proofs.lemmas.Option.{same_Some, cond_some}
use Rattle.std.proofs.lemmas.Slice.Eq.{bytes_eq-Decides}
use Rattle.db_base.specs.Key.{IsKey, IsPayload, IsAttr}
use Rattle.db_base.specs.declared.change.Change.{Change}
use Rattle.db_base.specs.declared.change.Change.TheVariants.{Insert, Update, Delete, Add}
use Rattle.db_base.specs.declared.pair.Pair.{Pair}
use Rattle.report_types.specs.declared.entry.Entry.{Entry}
use Rattle.report_types.specs.declared.report.Report.{Report}
use Rattle.report_types.specs.declared.stored.Stored.{Stored}
use Rattle.words.specs.declared.fault.TextFault.{TextFault}
use Rattle.words.specs.declared.fault.TextFault.TheVariants.{NotInGrammar}
use Rattle.words.specs.Word.{hexadecimal, AreBytes, Reads}
use Rattle.words.specs.Line.{◌>>=◌, parts_of, text_of, word_at, number_at, bytes_at, end_at, last_words, last_of, one_of}
use Rattle.words.proofs.Shapes.{bind_some, number_at-takes, number_at-again, bytes_at-takes, bytes_at-again, end_at-takes, end_at-again, last_of-takes, last_of-again, one_of-takes, one_of-again, two_of-takes, two_of-again}
use Rattle.words.proofs.Splitting.{is_hex_byte, lacks-hexadecimal, parts_of-text_of, text_of-parts_of}
use Rattle.reply_text.specs.Reply.{pair_word, stored_words, change_words, entry_words, section_lines}
use Rattle.reply_reading.specs.Naming.{client_of, tree_alone}
use Rattle.reply_reading.specs.Counted.{counted, pair_of, pair_by, stored_of, stored_by, scan_of, key_of, payload_of, attr_of, key_alone, record_alone, insert_alone, sum_alone, change_by, change_of, entry_of, entry_by, named, count_at, section_at, left_of, report_of}
use Rattle.reply_text.specs.Grammar.{AreAll, IsRecord, IsStored, IsAttribute, IsBlindChange, IsEntryOf, IsListOf, IsReport}
use Rattle.reply_reading.proofs.Steps.{behind, before, mapped, chosen, nothing, spelled, word_at-takes, word_at-none, refused}
use Rattle.reply_reading.proofs.Visible.{visible, all_visible, both_true, visible_number, visible_bytes, visible-text_of, lack_spaces}
use Rattle.reply_reading.proofs.NameLaws.{small_client, client_of-takes, client_of-again, tree_alone-takes, tree_alone-again}

-- ---- counted lists

-- what the reader of an item owes
pub record IsReader {A : Type 0} (item : List ℕ → Option A) (Is : A → Type 0) (spell : A → List ℕ) : Type 0 where
  pub takes : (text : List ℕ) (x : A) → item text ≡ Some x → Is x × (text ≡ spell x)
  pub again : (x : A) → Is x → item (spell x) ≡ Some x

counted-takes : {A : Type 0} (item : List ℕ → Option A) (Is : A → Type 0) (spell : A → List ℕ) → IsReader item Is spell → (n : ℕ) (texts : List (List ℕ)) (x : List A × List (List ℕ)) → counted item n texts ≡ Some x → AreAll Is x.0 × (length x.0 ≡ n) × (texts ≡ map spell x.0 ++ x.1)
unfolding counted
counted-takes item Is spell r zero texts x e =
    let same : ([], texts) ≡ x = same_Some ([], texts) x e in
    rw (← same) (tt, refl, refl)
counted-takes item Is spell r (suc n) [] x e = absurd cc
counted-takes item Is spell r (suc n) (text ∷ texts) x e =
    let a = bind_some (item text) _ x e in
    let b = bind_some (counted item n texts) _ x a.2 in
    let first = r.takes text a.0 a.1 in
    let rest = counted-takes item Is spell r n texts b.0 b.1 in
    let same : (a.0 ∷ b.0.0, b.0.1) ≡ x = same_Some (a.0 ∷ b.0.0, b.0.1) x b.2 in
    rw (← same) ((first.0, rest.0), ap suc rest.1, before texts first.1 ∙ behind _ rest.2)

counted-again : {A : Type 0} (item : List ℕ → Option A) (Is : A → Type 0) (spell : A → List ℕ) → IsReader item Is spell → (items : List A) (rest : List (List ℕ)) → AreAll Is items → counted item (length items) (map spell items ++ rest) ≡ Some (items, rest)
unfolding counted
counted-again item Is spell r [] rest h = refl
counted-again item Is spell r (x ∷ items) rest h = rw (r.again x h.0, counted-again item Is spell r items rest h.1) refl

-- ---- the loop that reads them

-- the items before, and those of the rest
abbrev pub ahead : {A : Type 0} → List A → Option (List A × List (List ℕ)) → Option (List A × List (List ℕ))
ahead front None = None
ahead front (Some x) = Some (front ++ x.0, x.1)

pub counted-more : {A : Type 0} (item : List ℕ → Option A) (front : List A) (text : List ℕ) (texts : List (List ℕ)) (n : ℕ) (x : A) → 0 < n → item text ≡ Some x → ahead (front ++ x ∷ []) (counted item (n - 1) texts) ≡ ahead front (counted item n (text ∷ texts))
unfolding counted
counted-more item front text texts zero x some e = absurd (omega arith)
counted-more {A = A} item front text texts (suc n) x some e =
    let less : suc n - 1 ≡ n = omega arith in
    rw (less, e) (on (counted item n texts))
  where
    on : (o : Option (List A × List (List ℕ))) → ahead (front ++ x ∷ []) o ≡ ahead front (o >>= (λ rest. Some (x ∷ rest.0, rest.1)))
    on None = refl
    on (Some r) = ap (λ (l : List A). Some (l, r.1)) (append_assoc front (x ∷ []) r.0)

pub counted-none : {A : Type 0} (item : List ℕ → Option A) (front : List A) (text : List ℕ) (texts : List (List ℕ)) (n : ℕ) → 0 < n → item text ≡ None → ahead front (counted item n (text ∷ texts)) ≡ None
unfolding counted
counted-none item front text texts zero some e = absurd (omega arith)
counted-none item front text texts (suc n) some e = rw e refl

pub counted-short : {A : Type 0} (item : List ℕ → Option A) (front : List A) (n : ℕ) → 0 < n → ahead front (counted item n []) ≡ None
unfolding counted
counted-short item front zero some = absurd (omega arith)
counted-short item front (suc n) some = refl

pub counted-end : {A : Type 0} (item : List ℕ → Option A) (front : List A) (texts : List (List ℕ)) (n : ℕ) → n ≤ 0 → ahead front (counted item n texts) ≡ Some (front, texts)
unfolding counted
counted-end {A = A} item front texts zero none = ap (λ (l : List A). Some (l, texts)) (append-nil front)
counted-end item front texts (suc n) none = absurd (omega arith)

-- the steps of that loop, from what it has read and what is left, to the whole
module _ {A : Type 0} (item : List ℕ → Option A) (front : List A) (left : List (List ℕ)) (n : ℕ) (whole : Option (List A × List (List ℕ))) (invariant : ahead front (counted item n left) ≡ whole) where
  -- one item more
  pub loop_more : (new : List A) (text : List ℕ) (rest : List (List ℕ)) (x : A) → 0 < n → word_at left ≡ Some (text, rest) → item text ≡ Some x → new ≡ front ++ x ∷ [] → ahead new (counted item (n - 1) rest) ≡ whole
  loop_more new text rest x some at read e =
      let left_is : left ≡ text ∷ rest = word_at-takes left (text, rest) at in
      rw e (counted-more item front text rest n x some read ∙ ap (λ (texts : List (List ℕ)). ahead front (counted item n texts)) (sym left_is) ∙ invariant)

  -- no text is left
  pub loop_short : (e : TextFault) → 0 < n → Reads (Err e) (word_at left) → e ≡ NotInGrammar → whole ≡ None
  loop_short e some at bad =
      let left_is : left ≡ [] = word_at-none left (refused e (word_at left) at bad) in
      sym invariant ∙ ap (λ (texts : List (List ℕ)). ahead front (counted item n texts)) left_is ∙ counted-short item front n some

  -- a text is no item
  pub loop_bad : (e : TextFault) (text : List ℕ) (rest : List (List ℕ)) → 0 < n → word_at left ≡ Some (text, rest) → Reads (Err e) (item text) → e ≡ NotInGrammar → whole ≡ None
  loop_bad e text rest some at read bad =
      let left_is : left ≡ text ∷ rest = word_at-takes left (text, rest) at in
      sym invariant ∙ ap (λ (texts : List (List ℕ)). ahead front (counted item n texts)) left_is ∙ counted-none item front text rest n some (refused e (item text) read bad)

  -- all are read
  pub loop_end : n ≤ 0 → whole ≡ Some (front, left)
  loop_end none = sym invariant ∙ counted-end item front left n none

-- ---- records

-- a record as two words
abbrev pair_words : Pair → List (List ℕ)
pair_words p = hexadecimal p.key ∷ hexadecimal p.payload ∷ []

pair_of-takes : (parts : List (List ℕ)) (p : Pair) → pair_of parts ≡ Some p → IsRecord p × (parts ≡ hexadecimal p.key ∷ hexadecimal p.payload ∷ [])
unfolding pair_of
pair_of-takes parts p e =
    let a = bind_some (bytes_at parts) _ p e in
    let b = bind_some (bytes_at a.0.1) _ p a.2 in
    let z = bind_some (end_at b.0.1) _ p b.2 in
    let key = bytes_at-takes parts a.0 a.1 in
    let payload = bytes_at-takes a.0.1 b.0 b.1 in
    let end = end_at-takes b.0.1 z.0 z.1 in
    let pair : Pair = record { key = a.0.0; payload = b.0.0 } in
    let same : pair ≡ p = same_Some pair p z.2 in
    rw (← same) ((key.0, payload.0), key.1 ∙ behind _ (payload.1 ∙ behind _ end))

pair_of-again : (p : Pair) → IsRecord p → pair_of (hexadecimal p.key ∷ hexadecimal p.payload ∷ []) ≡ Some p
unfolding pair_of
pair_of-again p h = rw (bytes_at-again p.key (hexadecimal p.payload ∷ []) h.0, bytes_at-again p.payload [] h.1, end_at-again) refl

-- records behind any separator that is no byte of theirs
pair-reader : (separator : ℕ) → is_hex_byte separator ≡ false → IsReader (pair_by separator) IsRecord (λ p. text_of separator (pair_words p))
pair-reader separator out = record { takes = takes; again = again }
  where
    takes : (text : List ℕ) (p : Pair) → pair_by separator text ≡ Some p → IsRecord p × (text ≡ text_of separator (pair_words p))
    takes text p e =
        let t = pair_of-takes (parts_of separator text) p e in
        (t.0, sym (text_of-parts_of separator text) ∙ ap (text_of separator) t.1)

    again : (p : Pair) → IsRecord p → pair_by separator (text_of separator (pair_words p)) ≡ Some p
    again p h =
        let parts = parts_of-text_of separator (hexadecimal p.key) (hexadecimal p.payload ∷ []) (rw (lacks-hexadecimal separator p.key h.0 out, lacks-hexadecimal separator p.payload h.1 out) refl) in
        ap pair_of parts ∙ pair_of-again p h

-- a last word, or none, is visible
visible_last : (last : Option (List ℕ)) → IfSome last AreBytes → all_visible (last_words last) ≡ true
visible_last None h = refl
visible_last (Some bytes) h = rw (visible_bytes bytes h) refl

stored_visible : (s : Stored) → IsStored s → all_visible (stored_words s) ≡ true
stored_visible s h = rw (visible_bytes s.key h.0, visible_bytes s.payload h.1, visible_last s.attr h.2) refl

stored_of-takes : (words : List (List ℕ)) (s : Stored) → stored_of words ≡ Some s → IsStored s × (words ≡ stored_words s)
unfolding stored_of
stored_of-takes words s e =
    let a = bind_some (bytes_at words) _ s e in
    let b = bind_some (bytes_at a.0.1) _ s a.2 in
    let l = bind_some (last_of b.0.1) _ s b.2 in
    let key = bytes_at-takes words a.0 a.1 in
    let payload = bytes_at-takes a.0.1 b.0 b.1 in
    let attr = last_of-takes b.0.1 l.0 l.1 in
    let stored : Stored = record { key = a.0.0; payload = b.0.0; attr = l.0 } in
    let same : stored ≡ s = same_Some stored s l.2 in
    rw (← same) ((key.0, payload.0, attr.0), key.1 ∙ behind _ (payload.1 ∙ behind _ attr.1))

stored_of-again : (s : Stored) → IsStored s → stored_of (stored_words s) ≡ Some s
unfolding stored_of
stored_of-again s h = rw (bytes_at-again s.key (hexadecimal s.payload ∷ last_words s.attr) h.0, bytes_at-again s.payload (last_words s.attr) h.1, last_of-again s.attr h.2) refl

-- records of leaves
stored-reader : IsReader stored_by IsStored (λ s. text_of 32 (stored_words s))
stored-reader = record { takes = takes; again = again }
  where
    takes : (text : List ℕ) (s : Stored) → stored_by text ≡ Some s → IsStored s × (text ≡ text_of 32 (stored_words s))
    takes text s e =
        let t = stored_of-takes (parts_of 32 text) s e in
        (t.0, sym (text_of-parts_of 32 text) ∙ ap (text_of 32) t.1)

    again : (s : Stored) → IsStored s → stored_by (text_of 32 (stored_words s)) ≡ Some s
    again s h =
        let parts = parts_of-text_of 32 (hexadecimal s.key) (hexadecimal s.payload ∷ last_words s.attr) (lack_spaces (stored_words s) (stored_visible s h)) in
        ap stored_of parts ∙ stored_of-again s h

pub scan_of-takes : (words : List (List ℕ)) (pairs : List Pair) → scan_of words ≡ Some pairs → IsListOf IsRecord pairs × (words ≡ decimal (length pairs) ∷ map pair_word pairs)
unfolding scan_of
scan_of-takes words pairs e =
    let a = bind_some (number_at words) _ pairs e in
    let b = bind_some (counted (pair_by 61) a.0.0 a.0.1) _ pairs a.2 in
    let z = bind_some (end_at b.0.1) _ pairs b.2 in
    let count = number_at-takes words a.0 a.1 in
    let items = counted-takes (pair_by 61) IsRecord (λ p. text_of 61 (pair_words p)) (pair-reader 61 refl) a.0.0 a.0.1 b.0 b.1 in
    let end = end_at-takes b.0.1 z.0 z.1 in
    let same : b.0.0 ≡ pairs = same_Some b.0.0 pairs z.2 in
    let small : a.0.0 < 2 ^ 64 = count.0 in
    rw (← same) ((items.0, rw (sym items.1) at small), count.1 ∙ before a.0.1 (ap decimal (sym items.1)) ∙ behind _ (items.2 ∙ ap (λ (t : List (List ℕ)). map pair_word b.0.0 ++ t) end ∙ append-nil _))

pub scan_of-again : (pairs : List Pair) → IsListOf IsRecord pairs → scan_of (decimal (length pairs) ∷ map pair_word pairs) ≡ Some pairs
unfolding scan_of
scan_of-again pairs h =
    let items : counted (pair_by 61) (length pairs) (map pair_word pairs) ≡ Some (pairs, []) =
    ap (counted (pair_by 61) (length pairs)) (sym (append-nil (map pair_word pairs))) ∙ counted-again (pair_by 61) IsRecord (λ p. text_of 61 (pair_words p)) (pair-reader 61 refl) pairs [] h.0 in
    rw (number_at-again (length pairs) (map pair_word pairs) h.1, items, end_at-again) refl

-- ---- changes

key_of-takes : (bytes x : List ℕ) → key_of bytes ≡ Some x → (bytes ≡ x) × IsKey x
unfolding key_of
key_of-takes bytes x e =
    let taken = cond_some (nat_le 1 (length bytes) && nat_le (length bytes) 64) bytes x e in
    let parts = and_parts (nat_le 1 (length bytes)) (nat_le (length bytes) 64) taken.0 in
    let low : 1 ≤ length bytes = leb-true _ _ parts.0 in
    let is : IsKey bytes = record { some = omega arith; short = leb-true _ _ parts.1 } in
    (taken.1, rw taken.1 at is)

key_of-again : (bytes : List ℕ) → IsKey bytes → key_of bytes ≡ Some bytes
unfolding key_of
key_of-again bytes h =
    let some : 1 ≤ length bytes = omega (arith, h.some) in
    let low : nat_le 1 (length bytes) ≡ true = le-leb _ _ some in
    let high : nat_le (length bytes) 64 ≡ true = le-leb _ _ h.short in
    rw (low, high) refl

payload_of-takes : (bytes x : List ℕ) → payload_of bytes ≡ Some x → (bytes ≡ x) × IsPayload x
unfolding payload_of
payload_of-takes bytes x e =
    let taken = cond_some (nat_le (length bytes) 1024) bytes x e in
    let is : IsPayload bytes = leb-true _ _ taken.0 in
    (taken.1, rw taken.1 at is)

payload_of-again : (bytes : List ℕ) → IsPayload bytes → payload_of bytes ≡ Some bytes
unfolding payload_of
payload_of-again bytes h =
    let high : nat_le (length bytes) 1024 ≡ true = le-leb _ _ h in
    rw high refl

key_alone-takes : (words : List (List ℕ)) (key : List ℕ) → key_alone words ≡ Some key → (IsKey key × AreBytes key) × (words ≡ hexadecimal key ∷ [])
unfolding key_alone
key_alone-takes words key e =
    let a = bind_some (bytes_at words) _ key e in
    let z = bind_some (end_at a.0.1) _ key a.2 in
    let bytes = bytes_at-takes words a.0 a.1 in
    let end = end_at-takes a.0.1 z.0 z.1 in
    let k = key_of-takes a.0.0 key z.2 in
    let are : AreBytes a.0.0 = bytes.0 in
    ((k.1, rw k.0 at are), bytes.1 ∙ before a.0.1 (ap hexadecimal k.0) ∙ behind _ end)

key_alone-again : (key : List ℕ) → IsKey key → AreBytes key → key_alone (hexadecimal key ∷ []) ≡ Some key
unfolding key_alone
key_alone-again key k h = rw (bytes_at-again key [] h, end_at-again) (key_of-again key k)

record_alone-takes : (words : List (List ℕ)) (x : List ℕ × List ℕ) → record_alone words ≡ Some x → (IsKey x.0 × AreBytes x.0) × (IsPayload x.1 × AreBytes x.1) × (words ≡ hexadecimal x.0 ∷ hexadecimal x.1 ∷ [])
unfolding record_alone
record_alone-takes words x e =
    let a = bind_some (bytes_at words) _ x e in
    let b = bind_some (bytes_at a.0.1) _ x a.2 in
    let z = bind_some (end_at b.0.1) _ x b.2 in
    let k = bind_some (key_of a.0.0) _ x z.2 in
    let p = bind_some (payload_of b.0.0) _ x k.2 in
    let first = bytes_at-takes words a.0 a.1 in
    let second = bytes_at-takes a.0.1 b.0 b.1 in
    let end = end_at-takes b.0.1 z.0 z.1 in
    let key = key_of-takes a.0.0 k.0 k.1 in
    let payload = payload_of-takes b.0.0 p.0 p.1 in
    let key_bytes : AreBytes a.0.0 = first.0 in
    let payload_bytes : AreBytes b.0.0 = second.0 in
    let same : (k.0, p.0) ≡ x = same_Some (k.0, p.0) x p.2 in
    rw (← same) ((key.1, rw key.0 at key_bytes), (payload.1, rw payload.0 at payload_bytes), first.1 ∙ before a.0.1 (ap hexadecimal key.0) ∙ behind _ (second.1 ∙ before b.0.1 (ap hexadecimal payload.0) ∙ behind _ end))

record_alone-again : (key payload : List ℕ) → IsKey key → AreBytes key → IsPayload payload → AreBytes payload → record_alone (hexadecimal key ∷ hexadecimal payload ∷ []) ≡ Some (key, payload)
unfolding record_alone
record_alone-again key payload k kb p pb = rw (bytes_at-again key (hexadecimal payload ∷ []) kb, bytes_at-again payload [] pb, end_at-again, key_of-again key k, payload_of-again payload p) refl

attr_of-takes : (last x : Option (List ℕ)) → attr_of last ≡ Some x → IfSome last AreBytes → (last ≡ x) × IsAttribute x
unfolding attr_of
attr_of-takes None x e h = let same : None ≡ x = same_Some None x e in (same, rw (← same) tt)
attr_of-takes (Some bytes) x e h =
    let taken = cond_some (nat_le 1 (length bytes) && nat_le (length bytes) 32) (Some bytes) x e in
    let parts = and_parts (nat_le 1 (length bytes)) (nat_le (length bytes) 32) taken.0 in
    let low : 1 ≤ length bytes = leb-true _ _ parts.0 in
    let is : IsAttr bytes = record { some = omega arith; short = leb-true _ _ parts.1 } in
    (taken.1, rw (← taken.1) (is, h))

attr_of-again : (attr : Option (List ℕ)) → IsAttribute attr → attr_of attr ≡ Some attr
unfolding attr_of
attr_of-again None h = refl
attr_of-again (Some bytes) h =
    let some : 1 ≤ length bytes = omega (arith, h.0.some) in
    let low : nat_le 1 (length bytes) ≡ true = le-leb _ _ some in
    let high : nat_le (length bytes) 32 ≡ true = le-leb _ _ h.0.short in
    rw (low, high) refl

-- an attribute is of bytes
attr_bytes : (attr : Option (List ℕ)) → IsAttribute attr → IfSome attr AreBytes
attr_bytes None h = tt
attr_bytes (Some bytes) h = h.1

insert_alone-takes : (words : List (List ℕ)) (x : List ℕ × List ℕ × Option (List ℕ)) → insert_alone words ≡ Some x → (IsKey x.0 × AreBytes x.0) × (IsPayload x.1 × AreBytes x.1) × IsAttribute x.2 × (words ≡ hexadecimal x.0 ∷ hexadecimal x.1 ∷ last_words x.2)
unfolding insert_alone
insert_alone-takes words x e =
    let a = bind_some (bytes_at words) _ x e in
    let b = bind_some (bytes_at a.0.1) _ x a.2 in
    let l = bind_some (last_of b.0.1) _ x b.2 in
    let k = bind_some (key_of a.0.0) _ x l.2 in
    let p = bind_some (payload_of b.0.0) _ x k.2 in
    let t = bind_some (attr_of l.0) _ x p.2 in
    let first = bytes_at-takes words a.0 a.1 in
    let second = bytes_at-takes a.0.1 b.0 b.1 in
    let last = last_of-takes b.0.1 l.0 l.1 in
    let key = key_of-takes a.0.0 k.0 k.1 in
    let payload = payload_of-takes b.0.0 p.0 p.1 in
    let attr = attr_of-takes l.0 t.0 t.1 last.0 in
    let key_bytes : AreBytes a.0.0 = first.0 in
    let payload_bytes : AreBytes b.0.0 = second.0 in
    let same : (k.0, p.0, t.0) ≡ x = same_Some (k.0, p.0, t.0) x t.2 in
    rw (← same) ((key.1, rw key.0 at key_bytes), (payload.1, rw payload.0 at payload_bytes), attr.1, first.1 ∙ before a.0.1 (ap hexadecimal key.0) ∙ behind _ (second.1 ∙ before b.0.1 (ap hexadecimal payload.0) ∙ behind _ (last.1 ∙ ap last_words attr.0)))

insert_alone-again : (key payload : List ℕ) (attr : Option (List ℕ)) → IsKey key → AreBytes key → IsPayload payload → AreBytes payload → IsAttribute attr → insert_alone (hexadecimal key ∷ hexadecimal payload ∷ last_words attr) ≡ Some (key, payload, attr)
unfolding insert_alone
insert_alone-again key payload attr k kb p pb a =
    rw (bytes_at-again key (hexadecimal payload ∷ last_words attr) kb, bytes_at-again payload (last_words attr) pb, last_of-again attr (attr_bytes attr a), key_of-again key k, payload_of-again payload p, attr_of-again attr a) refl

sum_alone-takes : (words : List (List ℕ)) (x : List ℕ × ℕ) → sum_alone words ≡ Some x → (IsKey x.0 × AreBytes x.0) × (x.1 < 2 ^ 64) × (words ≡ hexadecimal x.0 ∷ decimal x.1 ∷ [])
unfolding sum_alone
sum_alone-takes words x e =
    let a = bind_some (bytes_at words) _ x e in
    let n = bind_some (number_at a.0.1) _ x a.2 in
    let z = bind_some (end_at n.0.1) _ x n.2 in
    let k = bind_some (key_of a.0.0) _ x z.2 in
    let first = bytes_at-takes words a.0 a.1 in
    let second = number_at-takes a.0.1 n.0 n.1 in
    let end = end_at-takes n.0.1 z.0 z.1 in
    let key = key_of-takes a.0.0 k.0 k.1 in
    let key_bytes : AreBytes a.0.0 = first.0 in
    let same : (k.0, n.0.0) ≡ x = same_Some (k.0, n.0.0) x k.2 in
    rw (← same) ((key.1, rw key.0 at key_bytes), second.0, first.1 ∙ before a.0.1 (ap hexadecimal key.0) ∙ behind _ (second.1 ∙ behind _ end))

sum_alone-again : (key : List ℕ) (amount : ℕ) → IsKey key → AreBytes key → amount < 2 ^ 64 → sum_alone (hexadecimal key ∷ decimal amount ∷ []) ≡ Some (key, amount)
unfolding sum_alone
sum_alone-again key amount k kb small = rw (bytes_at-again key (decimal amount ∷ []) kb, number_at-again amount [] small, end_at-again, key_of-again key k) refl

change_by-takes : (kind : List ℕ) (words : List (List ℕ)) (c : Change) → change_by kind words ≡ Some c → IsBlindChange c × (kind ∷ words ≡ change_words c)
unfolding change_by
change_by-takes kind words c e =
    elim (chosen (bytes_eq kind (codes "insert")) _ _ _ e) [
      | inl h ↦ insert kind words c (spelled kind _ h.0) h.1
      | inr e1 ↦ elim (chosen (bytes_eq kind (codes "update")) _ _ _ e1.1) [
        | inl h ↦ update kind words c (spelled kind _ h.0) h.1
        | inr e2 ↦ elim (chosen (bytes_eq kind (codes "delete")) _ _ _ e2.1) [
          | inl h ↦ delete kind words c (spelled kind _ h.0) h.1
          | inr e3 ↦ elim (chosen (bytes_eq kind (codes "add")) _ _ _ e3.1) [
            | inl h ↦ add kind words c (spelled kind _ h.0) h.1
            | inr e4 ↦ absurd (nothing c e4.1)
          ]
        ]
      ]
    ]
  where
    insert : (kind : List ℕ) (words : List (List ℕ)) (c : Change) → kind ≡ codes "insert" → option_map (λ x. Insert x.0 x.1 x.2) (insert_alone words) ≡ Some c → IsBlindChange c × (kind ∷ words ≡ change_words c)
    insert kind words c k e =
        let m = mapped (λ (x : List ℕ × List ℕ × Option (List ℕ)). Insert x.0 x.1 x.2) (insert_alone words) c e in
        let x = insert_alone-takes words m.0 m.1 in
        rw (← m.2) ((x.0, x.1, x.2), before words k ∙ behind _ x.3)

    update : (kind : List ℕ) (words : List (List ℕ)) (c : Change) → kind ≡ codes "update" → option_map (λ x. Update x.0 x.1) (record_alone words) ≡ Some c → IsBlindChange c × (kind ∷ words ≡ change_words c)
    update kind words c k e =
        let m = mapped (λ (x : List ℕ × List ℕ). Update x.0 x.1) (record_alone words) c e in
        let x = record_alone-takes words m.0 m.1 in
        rw (← m.2) ((x.0, x.1), before words k ∙ behind _ x.2)

    delete : (kind : List ℕ) (words : List (List ℕ)) (c : Change) → kind ≡ codes "delete" → option_map Delete (key_alone words) ≡ Some c → IsBlindChange c × (kind ∷ words ≡ change_words c)
    delete kind words c k e =
        let m = mapped Delete (key_alone words) c e in
        let x = key_alone-takes words m.0 m.1 in
        rw (← m.2) (x.0, before words k ∙ behind _ x.1)

    add : (kind : List ℕ) (words : List (List ℕ)) (c : Change) → kind ≡ codes "add" → option_map (λ x. Add x.0 x.1) (sum_alone words) ≡ Some c → IsBlindChange c × (kind ∷ words ≡ change_words c)
    add kind words c k e =
        let m = mapped (λ (x : List ℕ × ℕ). Add x.0 x.1) (sum_alone words) c e in
        let x = sum_alone-takes words m.0 m.1 in
        rw (← m.2) ((x.0, x.1), before words k ∙ behind _ x.2)

change_of-takes : (words : List (List ℕ)) (c : Change) → change_of words ≡ Some c → IsBlindChange c × (words ≡ change_words c)
unfolding change_of
change_of-takes words c e =
    let k = bind_some (word_at words) _ c e in
    let by = change_by-takes k.0.0 k.0.1 c k.2 in
    (by.0, word_at-takes words k.0 k.1 ∙ by.1)

change_of-again : (c : Change) → IsBlindChange c → change_of (change_words c) ≡ Some c
unfolding change_of word_at change_by
change_of-again (Insert key payload attr) h = rw (insert_alone-again key payload attr h.0.0 h.0.1 h.1.0 h.1.1 h.2) refl
change_of-again (Update key payload) h = rw (record_alone-again key payload h.0.0 h.0.1 h.1.0 h.1.1) refl
change_of-again (Delete key) h = rw (key_alone-again key h.0 h.1) refl
change_of-again (Add key amount) h = rw (sum_alone-again key amount h.0.0 h.0.1 h.1) refl

visible_change : (c : Change) → IsBlindChange c → all_visible (change_words c) ≡ true
visible_change (Insert key payload attr) h = rw (visible_bytes key h.0.1, visible_bytes payload h.1.1, visible_last attr (attr_bytes attr h.2)) refl
visible_change (Update key payload) h = rw (visible_bytes key h.0.1, visible_bytes payload h.1.1) refl
visible_change (Delete key) h = rw (visible_bytes key h.1) refl
visible_change (Add key amount) h = rw (visible_bytes key h.0.1, visible_number amount h.1) refl

-- ---- entries

entry_of-takes : (tree : ℕ) (words : List (List ℕ)) (entry : Entry) → entry_of tree words ≡ Some entry → IsEntryOf tree entry × (words ≡ entry_words entry)
unfolding entry_of
entry_of-takes tree words entry e =
    let a = bind_some (number_at words) _ entry e in
    let c = bind_some (client_of a.0.0) _ entry a.2 in
    let p = bind_some (number_at a.0.1) _ entry c.2 in
    let t = bind_some (number_at p.0.1) _ entry p.2 in
    let d = bind_some (change_of t.0.1) _ entry t.2 in
    let number = number_at-takes words a.0 a.1 in
    let client = client_of-takes a.0.0 c.0 c.1 in
    let epoch = number_at-takes a.0.1 p.0 p.1 in
    let txn = number_at-takes p.0.1 t.0 t.1 in
    let change = change_of-takes t.0.1 d.0 d.1 in
    let whole : Entry = record { client = c.0; epoch = p.0.0; txn = t.0.0; tree = tree; change = d.0 } in
    let same : whole ≡ entry = same_Some whole entry d.2 in
    rw (← same) ((client.1, epoch.0, txn.0, refl, change.0), number.1 ∙ before a.0.1 (ap decimal client.0) ∙ behind _ (epoch.1 ∙ behind _ (txn.1 ∙ behind _ change.1)))

entry_of-again : (tree : ℕ) (entry : Entry) → IsEntryOf tree entry → entry_of tree (entry_words entry) ≡ Some entry
unfolding entry_of
entry_of-again tree entry h =
    rw (number_at-again entry.client (decimal entry.epoch ∷ decimal entry.txn ∷ change_words entry.change) (small_client entry.client h.0), client_of-again entry.client h.0, number_at-again entry.epoch (decimal entry.txn ∷ change_words entry.change) h.1, number_at-again entry.txn (change_words entry.change) h.2, change_of-again entry.change h.4, ← h.3) refl

visible_entry : (tree : ℕ) (entry : Entry) → IsEntryOf tree entry → all_visible (entry_words entry) ≡ true
visible_entry tree entry h = rw (visible_number entry.client (small_client entry.client h.0), visible_number entry.epoch h.1, visible_number entry.txn h.2, visible_change entry.change h.4) refl

entry-reader : (tree : ℕ) → IsReader (entry_by tree) (IsEntryOf tree) (λ entry. text_of 32 (entry_words entry))
entry-reader tree = record { takes = takes; again = again }
  where
    takes : (text : List ℕ) (entry : Entry) → entry_by tree text ≡ Some entry → IsEntryOf tree entry × (text ≡ text_of 32 (entry_words entry))
    takes text entry e =
        let t = entry_of-takes tree (parts_of 32 text) entry e in
        (t.0, sym (text_of-parts_of 32 text) ∙ ap (text_of 32) t.1)

    again : (entry : Entry) → IsEntryOf tree entry → entry_by tree (text_of 32 (entry_words entry)) ≡ Some entry
    again entry h =
        let parts : parts_of 32 (text_of 32 (entry_words entry)) ≡ entry_words entry = parts_of-text_of 32 (decimal entry.client) (decimal entry.epoch ∷ decimal entry.txn ∷ change_words entry.change) (lack_spaces (entry_words entry) (visible_entry tree entry h)) in
        ap (entry_of tree) parts ∙ entry_of-again tree entry h

-- ---- sections

named-takes : (name : List ℕ) (words rest : List (List ℕ)) → named name words ≡ Some rest → words ≡ name ∷ rest
unfolding named
named-takes name words rest e =
    let w = bind_some (word_at words) _ rest e in
    let taken = cond_some (bytes_eq w.0.0 name) w.0.1 rest w.2 in
    word_at-takes words w.0 w.1 ∙ before w.0.1 (spelled w.0.0 name taken.0) ∙ behind name taken.1

named-again : (name : List ℕ) (rest : List (List ℕ)) → named name (name ∷ rest) ≡ Some rest
unfolding named word_at
named-again name rest =
    let same : bytes_eq name name ≡ true = (bytes_eq-Decides name name).1 refl in
    rw same refl

-- the words of a line
line_words : (word : List ℕ) (words : List (List ℕ)) → all_visible (word ∷ words) ≡ true → parts_of 32 (text_of 32 (word ∷ words)) ≡ word ∷ words
line_words word words h = parts_of-text_of 32 word words (lack_spaces (word ∷ words) h)

count_at-takes : (name : List ℕ) (lines : List (List ℕ)) (x : ℕ × List (List ℕ)) → count_at name lines ≡ Some x → (x.0 < 2 ^ 64) × (lines ≡ text_of 32 (name ∷ decimal x.0 ∷ []) ∷ x.1)
unfolding count_at
count_at-takes name lines x e =
    let l = bind_some (word_at lines) _ x e in
    let w = bind_some (named name (parts_of 32 l.0.0)) _ x l.2 in
    let n = bind_some (one_of w.0) _ x w.2 in
    let words = named-takes name (parts_of 32 l.0.0) w.0 w.1 in
    let one = one_of-takes w.0 n.0 n.1 in
    let line : l.0.0 ≡ text_of 32 (name ∷ decimal n.0 ∷ []) = sym (text_of-parts_of 32 l.0.0) ∙ ap (text_of 32) (words ∙ behind name one.1) in
    let same : (n.0, l.0.1) ≡ x = same_Some (n.0, l.0.1) x n.2 in
    rw (← same) (one.0, word_at-takes lines l.0 l.1 ∙ before l.0.1 line)

count_at-again : (name : List ℕ) (n : ℕ) (lines : List (List ℕ)) → visible name ≡ true → n < 2 ^ 64 → count_at name (text_of 32 (name ∷ decimal n ∷ []) ∷ lines) ≡ Some (n, lines)
unfolding count_at word_at
count_at-again name n lines seen small =
    let words = line_words name (decimal n ∷ []) (rw (seen, visible_number n small) refl) in
    rw (words, named-again name (decimal n ∷ []), one_of-again n small) refl

section_at-takes : {A : Type 0} (item : List ℕ → Option A) (Is : A → Type 0) (spell : A → List ℕ) → IsReader item Is spell → (name : List ℕ) (lines : List (List ℕ)) (x : List A × List (List ℕ)) → section_at item name lines ≡ Some x → IsListOf Is x.0 × (lines ≡ text_of 32 (name ∷ decimal (length x.0) ∷ []) ∷ (map spell x.0 ++ x.1))
unfolding section_at
section_at-takes item Is spell r name lines x e =
    let n = bind_some (count_at name lines) _ x e in
    let count = count_at-takes name lines n.0 n.1 in
    let items = counted-takes item Is spell r n.0.0 n.0.1 x n.2 in
    let small : n.0.0 < 2 ^ 64 = count.0 in
    ((items.0, rw (sym items.1) at small), count.1 ∙ before n.0.1 (ap (λ (k : ℕ). text_of 32 (name ∷ decimal k ∷ [])) (sym items.1)) ∙ behind _ items.2)

section_at-again : {A : Type 0} (item : List ℕ → Option A) (Is : A → Type 0) (spell : A → List ℕ) → IsReader item Is spell → (name : List ℕ) (items : List A) (rest : List (List ℕ)) → visible name ≡ true → IsListOf Is items → section_at item name (text_of 32 (name ∷ decimal (length items) ∷ []) ∷ (map spell items ++ rest)) ≡ Some (items, rest)
unfolding section_at
section_at-again item Is spell r name items rest seen h =
    rw (count_at-again name (length items) (map spell items ++ rest) seen h.1) (counted-again item Is spell r items rest h.0)

-- the texts of items' lines and of those behind them
lines_of_items : {A : Type 0} (words : A → List (List ℕ)) (items : List A) (more : List (List (List ℕ))) → map (λ i. text_of 32 (words i)) items ++ map (text_of 32) more ≡ map (text_of 32) (map words items ++ more)
lines_of_items words [] more = refl
lines_of_items words (x ∷ items) more = behind (text_of 32 (words x)) (lines_of_items words items more)

-- the texts of a section's lines and of those behind them
section_texts : {A : Type 0} (name : List ℕ) (words : A → List (List ℕ)) (items : List A) (rest : List (List ℕ)) (more : List (List (List ℕ))) → rest ≡ map (text_of 32) more → text_of 32 (name ∷ decimal (length items) ∷ []) ∷ (map (λ i. text_of 32 (words i)) items ++ rest) ≡ map (text_of 32) (section_lines name words items ++ more)
section_texts {A = A} name words items rest more e =
    behind _ (ap (λ (t : List (List ℕ)). map (λ (i : A). text_of 32 (words i)) items ++ t) e ∙ lines_of_items words items more)

-- a section is read from its lines
section_again : {A : Type 0} (item : List ℕ → Option A) (Is : A → Type 0) (words : A → List (List ℕ)) → IsReader item Is (λ i. text_of 32 (words i)) → (name : List ℕ) (items : List A) (more : List (List (List ℕ))) → visible name ≡ true → IsListOf Is items → section_at item name (map (text_of 32) (section_lines name words items ++ more)) ≡ Some (items, map (text_of 32) more)
section_again item Is words r name items more seen h =
    ap (section_at item name) (sym (section_texts name words items (map (text_of 32) more) more refl)) ∙ section_at-again item Is (λ i. text_of 32 (words i)) r name items (map (text_of 32) more) seen h

-- ---- reports

left_of-takes : (lines : List (List ℕ)) (x : ℕ × ℕ) → left_of lines ≡ Some x → (x.0 < 2 ^ 64) × (x.1 < 2 ^ 64) × (lines ≡ map (text_of 32) ((codes "left" ∷ decimal x.0 ∷ decimal x.1 ∷ []) ∷ []))
unfolding left_of
left_of-takes lines x e =
    let l = bind_some (word_at lines) _ x e in
    let z = bind_some (end_at l.0.1) _ x l.2 in
    let w = bind_some (named (codes "left") (parts_of 32 l.0.0)) _ x z.2 in
    let words = named-takes (codes "left") (parts_of 32 l.0.0) w.0 w.1 in
    let two = two_of-takes w.0 x w.2 in
    let end = end_at-takes l.0.1 z.0 z.1 in
    (two.0, two.1, word_at-takes lines l.0 l.1 ∙ before l.0.1 (sym (text_of-parts_of 32 l.0.0) ∙ ap (text_of 32) (words ∙ behind _ two.2)) ∙ behind _ end)

left_of-again : (heads messages : ℕ) → heads < 2 ^ 64 → messages < 2 ^ 64 → left_of (map (text_of 32) ((codes "left" ∷ decimal heads ∷ decimal messages ∷ []) ∷ [])) ≡ Some (heads, messages)
unfolding left_of word_at
left_of-again heads messages h m =
    let words = line_words (codes "left") (decimal heads ∷ decimal messages ∷ []) (rw (visible_number heads h, visible_number messages m) refl) in
    rw (end_at-again, words, named-again (codes "left") (decimal heads ∷ decimal messages ∷ [])) (two_of-again heads messages h m)

-- the lines of a report behind its first one
abbrev pub left_line : Report → List (List (List ℕ))
left_line report = (codes "left" ∷ decimal report.heads ∷ decimal report.messages ∷ []) ∷ []

abbrev pub contents_lines : Report → List (List (List ℕ))
contents_lines report = section_lines (codes "contents") stored_words report.contents ++ left_line report

abbrev pub order_lines : Report → List (List (List ℕ))
order_lines report = section_lines (codes "order") entry_words report.order ++ contents_lines report

abbrev pub committed_lines : Report → List (List (List ℕ))
committed_lines report = section_lines (codes "committed") entry_words report.committed ++ order_lines report

pub report_of-takes : (words lines : List (List ℕ)) (report : Report) → report_of words lines ≡ Some report → IsReport report × (words ≡ decimal report.tree ∷ []) × (lines ≡ map (text_of 32) (committed_lines report))
unfolding report_of
report_of-takes words lines report e =
    let t = bind_some (tree_alone words) _ report e in
    let c = bind_some (section_at (entry_by t.0) (codes "committed") lines) _ report t.2 in
    let o = bind_some (section_at (entry_by t.0) (codes "order") c.0.1) _ report c.2 in
    let p = bind_some (section_at stored_by (codes "contents") o.0.1) _ report o.2 in
    let l = bind_some (left_of p.0.1) _ report p.2 in
    let tree = tree_alone-takes words t.0 t.1 in
    let committed = section_at-takes (entry_by t.0) (IsEntryOf t.0) (λ entry. text_of 32 (entry_words entry)) (entry-reader t.0) (codes "committed") lines c.0 c.1 in
    let order = section_at-takes (entry_by t.0) (IsEntryOf t.0) (λ entry. text_of 32 (entry_words entry)) (entry-reader t.0) (codes "order") c.0.1 o.0 o.1 in
    let contents = section_at-takes stored_by IsStored (λ s. text_of 32 (stored_words s)) stored-reader (codes "contents") o.0.1 p.0 p.1 in
    let left = left_of-takes p.0.1 l.0 l.1 in
    let whole : Report = record { tree = t.0; committed = c.0.0; order = o.0.0; contents = p.0.0; heads = l.0.0; messages = l.0.1 } in
    let same : whole ≡ report = same_Some whole report l.2 in
    let last : o.0.1 ≡ map (text_of 32) (contents_lines whole) = ◌∙◌ {c = map (text_of 32) (contents_lines whole)} contents.1 (section_texts (codes "contents") stored_words p.0.0 p.0.1 (left_line whole) left.2) in
    let middle : c.0.1 ≡ map (text_of 32) (order_lines whole) = ◌∙◌ {c = map (text_of 32) (order_lines whole)} order.1 (section_texts (codes "order") entry_words o.0.0 o.0.1 (contents_lines whole) last) in
    let first : lines ≡ map (text_of 32) (committed_lines whole) = ◌∙◌ {c = map (text_of 32) (committed_lines whole)} committed.1 (section_texts (codes "committed") entry_words c.0.0 c.0.1 (order_lines whole) middle) in
    let is : IsReport whole = record { tree = tree.0; committed = committed.0; order = order.0; contents = contents.0; heads = left.0; messages = left.1 } in
    rw (← same) (is, tree.1, first)

pub report_of-again : (report : Report) → IsReport report → report_of (decimal report.tree ∷ []) (map (text_of 32) (committed_lines report)) ≡ Some report
unfolding report_of
report_of-again report h =
    let tree = tree_alone-again report.tree h.tree in
    let committed = section_again (entry_by report.tree) (IsEntryOf report.tree) entry_words (entry-reader report.tree) (codes "committed") report.committed (order_lines report) refl h.committed in
    let order = section_again (entry_by report.tree) (IsEntryOf report.tree) entry_words (entry-reader report.tree) (codes "order") report.order (contents_lines report) refl h.order in
    let contents = section_again stored_by IsStored stored_words stored-reader (codes "contents") report.contents (left_line report) refl h.contents in
    let left = left_of-again report.heads report.messages h.heads h.messages in
    rw (tree, committed, order, contents, left) refl

-- ---- lines hold no line feed

-- whether each line's words are visible
abbrev pub lines_visible : List (List (List ℕ)) → Bool
lines_visible [] = true
lines_visible (line ∷ lines) = all_visible line && lines_visible lines

lines_visible-append : (a b : List (List (List ℕ))) → lines_visible a ≡ true → lines_visible b ≡ true → lines_visible (a ++ b) ≡ true
lines_visible-append [] b p q = q
lines_visible-append (line ∷ a) b p q =
    let parts = and_parts (all_visible line) (lines_visible a) p in
    both_true (all_visible line) (lines_visible (a ++ b)) parts.0 (lines_visible-append a b parts.1 q)

items_visible : {A : Type 0} (Is : A → Type 0) (words : A → List (List ℕ)) → ((x : A) → Is x → all_visible (words x) ≡ true) → (items : List A) → AreAll Is items → lines_visible (map words items) ≡ true
items_visible Is words each [] h = refl
items_visible Is words each (x ∷ items) h = both_true (all_visible (words x)) (lines_visible (map words items)) (each x h.0) (items_visible Is words each items h.1)

section_visible : {A : Type 0} (Is : A → Type 0) (words : A → List (List ℕ)) → ((x : A) → Is x → all_visible (words x) ≡ true) → (name : List ℕ) (items : List A) → visible name ≡ true → IsListOf Is items → lines_visible (section_lines name words items) ≡ true
section_visible Is words each name items seen h =
    both_true (all_visible (name ∷ decimal (length items) ∷ [])) (lines_visible (map words items)) (rw (seen, visible_number (length items) h.1) refl) (items_visible Is words each items h.0)

pair_visible : (p : Pair) → IsRecord p → all_visible (pair_words p) ≡ true
pair_visible p h = rw (visible_bytes p.key h.0, visible_bytes p.payload h.1) refl

pub report_visible : (report : Report) → IsReport report → lines_visible (committed_lines report) ≡ true
report_visible report h =
    let left : lines_visible (left_line report) ≡ true = rw (visible_number report.heads h.heads, visible_number report.messages h.messages) refl in
    let contents = lines_visible-append (section_lines (codes "contents") stored_words report.contents) (left_line report) (section_visible IsStored stored_words stored_visible (codes "contents") report.contents refl h.contents) left in
    let order = lines_visible-append (section_lines (codes "order") entry_words report.order) (contents_lines report) (section_visible (IsEntryOf report.tree) entry_words (visible_entry report.tree) (codes "order") report.order refl h.order) contents in
    lines_visible-append (section_lines (codes "committed") entry_words report.committed) (order_lines report) (section_visible (IsEntryOf report.tree) entry_words (visible_entry report.tree) (codes "committed") report.committed refl h.committed) order

pub scan_visible : (pairs : List Pair) → AreAll IsRecord pairs → all_visible (map pair_word pairs) ≡ true
scan_visible [] h = refl
scan_visible (p ∷ pairs) h =
    both_true (visible (pair_word p)) (all_visible (map pair_word pairs)) (visible-text_of 61 (pair_words p) refl (pair_visible p h.0)) (scan_visible pairs h.1)
