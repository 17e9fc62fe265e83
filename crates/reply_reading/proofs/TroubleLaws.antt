-- Troubles: what is read is spelled so, and each spelling is read.
use Rattle.std.proofs.Common.{◌≡◌, ℕ, ◌^◌, ◌<◌, true, List, [], ◌∷◌, Some, refl, ap, ◌∙◌}
use Rattle.std.specs.Prelude.{codes}
use Rattle.std.specs.Fmt.{decimal}
use Rattle.std.proofs.lemmas.Option.{same_Some}
use Rattle.db_base.specs.declared.trouble.Counter.{Counter}
use Rattle.db_base.specs.declared.trouble.Counter.TheVariants.{Epoch, Txn, Number, Version, Pages}
use Rattle.db_base.specs.declared.trouble.Trouble.{Trouble}
use Rattle.db_base.specs.declared.trouble.Trouble.TheVariants.{Failed, Late, Busy, Waiting, Stale, Absent, NotALeaf, Damaged, BadFence, Loop, Exhausted, Memory}
use Rattle.words.specs.Word.{hexadecimal}
use Rattle.words.specs.Line.{word_at, number_at, bytes_at, end_at, one_of, two_of, three_of}
use Rattle.words.proofs.Shapes.{bind_some, number_at-takes, number_at-again, bytes_at-takes, bytes_at-again, end_at-takes, end_at-again, one_of-takes, one_of-again, two_of-takes, two_of-again, three_of-takes, three_of-again}
use Rattle.reply_reading.specs.declared.trouble_kind.TroubleKind.{TroubleKind}
use Rattle.reply_reading.specs.declared.trouble_kind.TroubleKind.TheVariants as stop
use Rattle.reply_text.specs.Reply.{counter_word, trouble_words}
use Rattle.reply_reading.specs.Kind.{trouble_kind_of, trouble_kind_text, trouble_kinds, counter_of, counters}
use Rattle.reply_reading.specs.Naming.{page_of, page_alone, lock_of, place_of}
use Rattle.reply_reading.specs.Reading.{busy_of, stale_of, damaged_of, fence_of, exhausted_of, trouble_by, trouble_behind, trouble_of}
use Rattle.reply_text.specs.Grammar.{IsTrouble}
use Rattle.reply_reading.proofs.Steps.{behind, before, mapped, find_spelled, word_at-takes, alone-takes, alone-again}
use Rattle.reply_reading.proofs.Visible.{all_visible, visible, visible_number, visible_bytes}
use Rattle.reply_reading.proofs.NameLaws.{page_of-takes, page_of-again, page_alone-takes, page_alone-again, lock_of-takes, lock_of-again, place_of-takes, place_of-again, visible_lock, visible_place}

busy_of-takes : (words : List (List ℕ)) (t : Trouble) → busy_of words ≡ Some t → IsTrouble t × (codes "busy" ∷ words ≡ trouble_words t)
unfolding busy_of
busy_of-takes words t e =
    let w = bind_some (word_at words) _ t e in
    let l = bind_some (lock_of w.0.0) _ t w.2 in
    let n = bind_some (one_of w.0.1) _ t l.2 in
    let lock = lock_of-takes w.0.0 l.0 l.1 in
    let until = one_of-takes w.0.1 n.0 n.1 in
    let same : Busy l.0 n.0 ≡ t = same_Some (Busy l.0 n.0) t n.2 in
    rw (← same) ((lock.0, until.0), behind _ (word_at-takes words w.0 w.1 ∙ before w.0.1 lock.1 ∙ behind _ until.1))

stale_of-takes : (words : List (List ℕ)) (t : Trouble) → stale_of words ≡ Some t → IsTrouble t × (codes "stale" ∷ words ≡ trouble_words t)
unfolding stale_of
stale_of-takes words t e =
    let a = bind_some (three_of words) _ t e in
    let p = bind_some (page_of a.0.0) _ t a.2 in
    let three = three_of-takes words a.0 a.1 in
    let page = page_of-takes a.0.0 p.0 p.1 in
    let small : a.0.0 < 2 ^ 64 = three.0 in
    let same : Stale p.0 a.0.1 a.0.2 ≡ t = same_Some (Stale p.0 a.0.1 a.0.2) t p.2 in
    rw (← same) (((page.1, rw page.0 at small), three.1, three.2), behind _ (three.3 ∙ before _ (ap decimal page.0)))

damaged_of-takes : (words : List (List ℕ)) (t : Trouble) → damaged_of words ≡ Some t → IsTrouble t × (codes "damaged" ∷ words ≡ trouble_words t)
unfolding damaged_of
damaged_of-takes words t e =
    let w = bind_some (word_at words) _ t e in
    let p = bind_some (place_of w.0.0) _ t w.2 in
    let n = bind_some (one_of w.0.1) _ t p.2 in
    let place = place_of-takes w.0.0 p.0 p.1 in
    let offset = one_of-takes w.0.1 n.0 n.1 in
    let same : Damaged p.0 n.0 ≡ t = same_Some (Damaged p.0 n.0) t n.2 in
    rw (← same) ((place.0, offset.0), behind _ (word_at-takes words w.0 w.1 ∙ before w.0.1 place.1 ∙ behind _ offset.1))

fence_of-takes : (words : List (List ℕ)) (t : Trouble) → fence_of words ≡ Some t → IsTrouble t × (codes "bad-fence" ∷ words ≡ trouble_words t)
unfolding fence_of
fence_of-takes words t e =
    let a = bind_some (number_at words) _ t e in
    let b = bind_some (bytes_at a.0.1) _ t a.2 in
    let d = bind_some (bytes_at b.0.1) _ t b.2 in
    let z = bind_some (end_at d.0.1) _ t d.2 in
    let p = bind_some (page_of a.0.0) _ t z.2 in
    let number = number_at-takes words a.0 a.1 in
    let expected = bytes_at-takes a.0.1 b.0 b.1 in
    let found = bytes_at-takes b.0.1 d.0 d.1 in
    let end = end_at-takes d.0.1 z.0 z.1 in
    let page = page_of-takes a.0.0 p.0 p.1 in
    let small : a.0.0 < 2 ^ 64 = number.0 in
    let same : BadFence p.0 b.0.0 d.0.0 ≡ t = same_Some (BadFence p.0 b.0.0 d.0.0) t p.2 in
    rw (← same) (((page.1, rw page.0 at small), expected.0, found.0), behind _ (number.1 ∙ before a.0.1 (ap decimal page.0) ∙ behind _ (expected.1 ∙ behind _ (found.1 ∙ behind _ end))))

exhausted_of-takes : (words : List (List ℕ)) (t : Trouble) → exhausted_of words ≡ Some t → IsTrouble t × (codes "exhausted" ∷ words ≡ trouble_words t)
unfolding exhausted_of
exhausted_of-takes words t e =
    let w = bind_some (word_at words) _ t e in
    let z = bind_some (end_at w.0.1) _ t w.2 in
    let c = bind_some (counter_of w.0.0) _ t z.2 in
    let end = end_at-takes w.0.1 z.0 z.1 in
    let word : w.0.0 ≡ counter_word c.0 = find_spelled counter_word w.0.0 c.0 counters c.1 in
    let same : Exhausted c.0 ≡ t = same_Some (Exhausted c.0) t c.2 in
    rw (← same) (tt, behind _ (word_at-takes words w.0 w.1 ∙ before w.0.1 word ∙ behind _ end))

trouble_by-takes : (k : TroubleKind) (words : List (List ℕ)) (t : Trouble) → trouble_by k words ≡ Some t → IsTrouble t × (trouble_kind_text k ∷ words ≡ trouble_words t)
unfolding trouble_by
trouble_by-takes stop.Failed words t e =
    let a = alone-takes Failed t words e in
    rw (← a.0) (tt, behind _ a.1)
trouble_by-takes stop.Late words t e =
    let m = mapped (λ (x : ℕ × ℕ). Late x.0 x.1) (two_of words) t e in
    let x = two_of-takes words m.0 m.1 in
    rw (← m.2) ((x.0, x.1), behind _ x.2)
trouble_by-takes stop.Busy words t e = busy_of-takes words t e
trouble_by-takes stop.Waiting words t e =
    let m = mapped (λ (x : ℕ × ℕ). Waiting x.0 x.1) (two_of words) t e in
    let x = two_of-takes words m.0 m.1 in
    rw (← m.2) ((x.0, x.1), behind _ x.2)
trouble_by-takes stop.Stale words t e = stale_of-takes words t e
trouble_by-takes stop.Absent words t e =
    let m = mapped Absent (page_alone words) t e in
    let x = page_alone-takes words m.0 m.1 in
    rw (← m.2) (x.0, behind _ x.1)
trouble_by-takes stop.NotALeaf words t e =
    let m = mapped NotALeaf (page_alone words) t e in
    let x = page_alone-takes words m.0 m.1 in
    rw (← m.2) (x.0, behind _ x.1)
trouble_by-takes stop.Damaged words t e = damaged_of-takes words t e
trouble_by-takes stop.BadFence words t e = fence_of-takes words t e
trouble_by-takes stop.Loop words t e =
    let m = mapped Loop (page_alone words) t e in
    let x = page_alone-takes words m.0 m.1 in
    rw (← m.2) (x.0, behind _ x.1)
trouble_by-takes stop.Exhausted words t e = exhausted_of-takes words t e

pub trouble_behind-takes : (word : List ℕ) (words : List (List ℕ)) (t : Trouble) → trouble_behind word words ≡ Some t → IsTrouble t × (word ∷ words ≡ trouble_words t)
unfolding trouble_behind
trouble_behind-takes word words t e =
    let k = bind_some (trouble_kind_of word) _ t e in
    let first : word ≡ trouble_kind_text k.0 = find_spelled trouble_kind_text word k.0 trouble_kinds k.1 in
    let by = trouble_by-takes k.0 words t k.2 in
    (by.0, before words first ∙ by.1)

pub trouble_of-takes : (words : List (List ℕ)) (t : Trouble) → trouble_of words ≡ Some t → IsTrouble t × (words ≡ trouble_words t)
unfolding trouble_of
trouble_of-takes words t e =
    let w = bind_some (word_at words) _ t e in
    let rest = trouble_behind-takes w.0.0 w.0.1 t w.2 in
    (rest.0, word_at-takes words w.0 w.1 ∙ rest.1)

counter_of-again : (c : Counter) → counter_of (counter_word c) ≡ Some c
counter_of-again Epoch = refl
counter_of-again Txn = refl
counter_of-again Number = refl
counter_of-again Version = refl
counter_of-again Pages = refl

-- each spelling is read
pub trouble_of-again : (t : Trouble) → IsTrouble t → trouble_of (trouble_words t) ≡ Some t
unfolding trouble_of word_at trouble_behind trouble_by busy_of stale_of damaged_of fence_of exhausted_of
trouble_of-again Failed h = alone-again Failed
trouble_of-again (Late end now) h = rw (two_of-again end now h.0 h.1) refl
trouble_of-again (Busy lock until) h = rw (lock_of-again lock h.0, one_of-again until h.1) refl
trouble_of-again (Waiting have need) h = rw (two_of-again have need h.0 h.1) refl
trouble_of-again (Stale page least got) h = rw (three_of-again page least got h.0.1 h.1 h.2, page_of-again page h.0.0) refl
trouble_of-again (Absent page) h = rw (page_alone-again page h) refl
trouble_of-again (NotALeaf page) h = rw (page_alone-again page h) refl
trouble_of-again (Damaged place offset) h = rw (place_of-again place h.0, one_of-again offset h.1) refl
trouble_of-again (BadFence page expected found) h = rw (number_at-again page (hexadecimal expected ∷ hexadecimal found ∷ []) h.0.1, bytes_at-again expected (hexadecimal found ∷ []) h.1, bytes_at-again found [] h.2, end_at-again, page_of-again page h.0.0) refl
trouble_of-again (Loop page) h = rw (page_alone-again page h) refl
trouble_of-again (Exhausted what) h = rw (end_at-again, counter_of-again what) refl
trouble_of-again Memory h = absurd h

visible_counter : (c : Counter) → visible (counter_word c) ≡ true
visible_counter Epoch = refl
visible_counter Txn = refl
visible_counter Number = refl
visible_counter Version = refl
visible_counter Pages = refl

pub visible_trouble : (t : Trouble) → IsTrouble t → all_visible (trouble_words t) ≡ true
visible_trouble Failed h = refl
visible_trouble (Late end now) h = rw (visible_number end h.0, visible_number now h.1) refl
visible_trouble (Busy lock until) h = rw (visible_lock lock h.0, visible_number until h.1) refl
visible_trouble (Waiting have need) h = rw (visible_number have h.0, visible_number need h.1) refl
visible_trouble (Stale page least got) h = rw (visible_number page h.0.1, visible_number least h.1, visible_number got h.2) refl
visible_trouble (Absent page) h = rw (visible_number page h.1) refl
visible_trouble (NotALeaf page) h = rw (visible_number page h.1) refl
visible_trouble (Damaged place offset) h = rw (visible_place place h.0, visible_number offset h.1) refl
visible_trouble (BadFence page expected found) h = rw (visible_number page h.0.1, visible_bytes expected h.1, visible_bytes found h.2) refl
visible_trouble (Loop page) h = rw (visible_number page h.1) refl
visible_trouble (Exhausted what) h = rw (visible_counter what) refl
visible_trouble Memory h = absurd h
