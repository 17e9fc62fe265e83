-- A text that was read up to some line.
use Rattle.std.proofs.Common.{◌≡◌, ℕ, ◌+◌, ◌*◌, ◌≤◌, Bool, true, false, eqb, List, [], ◌∷◌, ◌++◌, length, Option, Some, None, Result, Ok, Err, IfOk, refl, sym, ap, ◌∙◌, subst, inr, arith, append_assoc, append-nil, length-append}
use Rattle.std.specs.Prelude.{IsSome, IfErr}
use Rattle.std.proofs.lemmas.Bool.{eqb-true}
use Rattle.std.proofs.lemmas.List.{nil_from_length}
use Rattle.std.proofs.lemmas.Option.{same_Some}
use Rattle.words.specs.Line.{parts_of}
use Rattle.words.proofs.Shapes.{bind_some}
use Rattle.dump_text.specs.declared.dump.Dump.{Dump}
use Rattle.dump_text.specs.declared.dump.DumpedTree.{DumpedTree}
use Rattle.dump_text.specs.declared.fault.DumpFault.{DumpFault}
use Rattle.dump_text.specs.declared.fault.DumpFault.TheVariants.{BadLine, Memory}
use Rattle.dump_text.specs.declared.reading.PartialTree.{PartialTree}
use Rattle.dump_text.specs.declared.reading.Reading.{Reading}
use Rattle.dump_text.specs.BadLine.{line_feeds, AreLines, IsBadLine}
use Rattle.dump_text.specs.Reading.{IsReadTo}
use Rattle.dump_text.specs.Steps.{with_tree_line, with_record_line, step}
use Rattle.dump_text.specs.Text.{dump_text, IsDump, Begins}
use Rattle.dump_text.specs.Words.{tree_of_words, stored_of_words}
use Rattle.dump_text.proofs.Continuing.{Continues, MaySome, LeadsOn, leads_on, whole_ends, partial_goes_on}
use Rattle.dump_text.proofs.Feeds.{feeds_both, one_more, begins_so}
use Rattle.dump_text.proofs.States.{read_text, IsSound, MayBePartial, advances, begins}
use Rattle.dump_text.proofs.WordLaws.{tree_some, stored_some}

pub record Reached (text left : List ℕ) (reading : Reading) (n : ℕ) : Type 0 where
  pub before : List ℕ
  pub is : text ≡ before ++ left
  pub ended : AreLines before
  pub count : n ≡ line_feeds before
  pub twice : 2 * n ≤ length before
  pub sound : IsSound reading.trees reading.partial
  pub read : before ≡ read_text reading.trees reading.partial
  pub only : (rest : List ℕ) (all : List DumpedTree) → IsDump (before ++ rest) all → Continues reading.trees reading.partial rest all

-- what stands behind a line of a text
behind_line : (before line rest : List ℕ) → (before ++ line ++ 10 ∷ []) ++ rest ≡ before ++ (line ++ 10 ∷ rest)
behind_line before line rest = simp append_assoc

some_of : (trees : List DumpedTree) (partial : Option PartialTree) → MayBePartial trees partial → MaySome partial
some_of trees None h = tt
some_of trees (Some p) h = h.some

-- no line is empty
no_tree_line : (trees : List DumpedTree) (r : Reading) → with_tree_line trees [] ≡ Some r → ⊥
unfolding with_tree_line
no_tree_line trees r e = let t = bind_some (tree_of_words (parts_of 32 [])) _ r e in tree_some t.0 t.1

no_record_line : (trees : List DumpedTree) (p : PartialTree) (r : Reading) → with_record_line trees p [] ≡ Some r → ⊥
unfolding with_record_line
no_record_line trees p r e = let t = bind_some (stored_of_words (parts_of 32 [])) _ r e in stored_some t.0 t.1

line_some : (trees : List DumpedTree) (partial : Option PartialTree) (line : List ℕ) (r : Reading) → step trees partial line ≡ Some r → 1 ≤ length line
line_some trees partial (b ∷ line) r e = omega arith
line_some trees None [] r e = absurd (no_tree_line trees r e)
line_some trees (Some p) [] r e = absurd (no_record_line trees p r e)

-- how a dump goes on behind one more line
on_behind : (trees : List DumpedTree) (partial : Option PartialTree) (line rest : List ℕ) (next : Reading) (all : List DumpedTree) → step trees partial line ≡ Some next → LeadsOn trees partial line rest all → Continues next.trees next.partial rest all
on_behind trees partial line rest next all e on =
    subst (λ (r : Reading). Continues r.trees r.partial rest all) (same_Some on.next next (sym on.may ∙ e)) on.on

pub further : (text left line rest : List ℕ) (reading next : Reading) (n : ℕ) → Reached text left reading n → left ≡ line ++ 10 ∷ rest → line_feeds line ≡ 0 → step reading.trees reading.partial line ≡ Some next → Reached text rest next (n + 1)
further text left line rest reading next n r is free e =
    let a = advances reading.trees reading.partial line next r.sound e in
    let more = line_some reading.trees reading.partial line next e in
    let feeds = one_more r.before line free in
    let twice = r.twice in
    let count = r.count in
    let long : length (r.before ++ line ++ 10 ∷ []) ≡ length r.before + length line + 1 = simp length-append (omega arith) in
    record {
      before = r.before ++ line ++ 10 ∷ [];
      is = r.is ∙ ap (λ (x : List ℕ). r.before ++ x) is ∙ sym (behind_line r.before line rest);
      ended = inr (r.before ++ line, refl);
      count = omega arith;
      twice = omega arith;
      sound = a.sound;
      read = append_assoc r.before line (10 ∷ []) ∙ ap (λ (x : List ℕ). x ++ (line ++ 10 ∷ [])) r.read ∙ sym a.text;
      only = λ more all d.
          let whole : IsDump (r.before ++ (line ++ 10 ∷ more)) all = subst (λ (x : List ℕ). IsDump x all) (behind_line r.before line more) d in
          on_behind reading.trees reading.partial line more next all e
          (leads_on reading.trees reading.partial line more all whole.in_range whole.dumpable free (some_of reading.trees reading.partial r.sound.partial) (r.only (line ++ 10 ∷ more) all whole));
    }

-- a line that may not stand there
pub bad_line : (text left line rest : List ℕ) (reading : Reading) (n : ℕ) → Reached text left reading n → left ≡ line ++ 10 ∷ rest → line_feeds line ≡ 0 → step reading.trees reading.partial line ≡ None → IsBadLine text (n + 1)
bad_line text left line rest reading n r is free e = record {
  before = r.before;
  rest = left;
  is = r.is;
  lines = r.ended;
  number = ap (λ (k : ℕ). k + 1) r.count;
  begins = subst Begins (sym r.read) (begins reading.trees reading.partial r.sound);
  stops = λ other more at b.
      let z = begins_so line other rest more free (sym at ∙ is) in
      let same : (r.before ++ other ++ 10 ∷ []) ++ b.more ≡ r.before ++ (line ++ 10 ∷ (z.0 ++ b.more)) =
      ap (λ (x : List ℕ). x ++ b.more) (append_assoc r.before other (10 ∷ []) ∙ ap (λ (x : List ℕ). r.before ++ x) z.1)
      ∙ append_assoc r.before (line ++ 10 ∷ z.0) b.more
      ∙ ap (λ (x : List ℕ). r.before ++ x) (append_assoc line (10 ∷ z.0) b.more) in
      never (z.0 ++ b.more) b.trees (subst (λ (x : List ℕ). IsDump x b.trees) same b.whole);
  none = λ trees d. never rest trees (subst (λ (x : List ℕ). IsDump x trees) (r.is ∙ ap (λ (x : List ℕ). r.before ++ x) is) d);
}
  where
    never : (more : List ℕ) (all : List DumpedTree) → IsDump (r.before ++ (line ++ 10 ∷ more)) all → ⊥
    never more all whole =
        let on = leads_on reading.trees reading.partial line more all whole.in_range whole.dumpable free (some_of reading.trees reading.partial r.sound.partial) (r.only (line ++ 10 ∷ more) all whole) in
        nothing on.next (sym e ∙ on.may)
      where
        nothing : (s : Reading) → None ≡ Some s → ⊥
        nothing s e = absurd cc

-- behind the last line a dump has no more text and no missing record
pub ends : (left : List ℕ) (trees : List DumpedTree) (partial : Option PartialTree) (all : List DumpedTree) → MaySome partial → line_feeds left ≡ 0 → Continues trees partial left all → (left ≡ []) × (partial ≡ None) × (all ≡ trees)
ends left trees None all some free on = let e = whole_ends trees left all on free in (e.0, refl, e.1)
ends left trees (Some p) all some free on = absurd (partial_goes_on trees p left all some on free)

-- a text that ends too early, or within a line
pub bad_end : (text left : List ℕ) (reading : Reading) (n : ℕ) → Reached text left reading n → line_feeds left ≡ 0 → (left ≡ [] → IsSome reading.partial) → IsBadLine text (n + 1)
bad_end text left reading n r free early = record {
  before = r.before;
  rest = left;
  is = r.is;
  lines = r.ended;
  number = ap (λ (k : ℕ). k + 1) r.count;
  begins = subst Begins (sym r.read) (begins reading.trees reading.partial r.sound);
  stops = λ other more at b.
      let feeds = feeds_both other (10 ∷ more) in
      let same : line_feeds left ≡ line_feeds (other ++ 10 ∷ more) = ap line_feeds at in
      let one : line_feeds (10 ∷ more) ≡ 1 + line_feeds more = refl in
      omega arith;
  none = λ trees d.
      let e = ends left reading.trees reading.partial trees (some_of reading.trees reading.partial r.sound.partial) free (r.only left trees (subst (λ (x : List ℕ). IsDump x trees) r.is d)) in
      both reading.partial e.1 (early e.0);
}
  where
    both : (partial : Option PartialTree) → partial ≡ None → IsSome partial → ⊥
    both None e some = absurd cc
    both (Some p) e some = absurd cc

-- a text that was read whole is the text of a dump
pub read_whole : (text : List ℕ) (reading : Reading) (n : ℕ) → Reached text [] reading n → reading.partial ≡ None → IsDump text reading.trees
read_whole text reading n r none = record {
  in_range = r.sound.in_range;
  dumpable = r.sound.dumpable;
  is = r.is ∙ append-nil r.before ∙ r.read ∙ ap (λ (p : Option PartialTree). read_text reading.trees p) none ∙ append-nil (dump_text reading.trees);
}

-- and of no other
pub read_only : (text : List ℕ) (reading : Reading) (n : ℕ) (all : List DumpedTree) → Reached text [] reading n → IsDump text all → reading.trees ≡ all
read_only text reading n all r d =
    let e = ends [] reading.trees reading.partial all (some_of reading.trees reading.partial r.sound.partial) refl (r.only [] all (subst (λ (x : List ℕ). IsDump x all) r.is d)) in
    sym e.2

-- ---- what a reading answers

-- what stopped it
pub stopped_only : (text : List ℕ) (r : Result Dump DumpFault) (e : DumpFault) → r ≡ Err e → ((n : ℕ) → e ≡ BadLine n → IsBadLine text n) → (trees : List DumpedTree) → IsDump text trees → IsReadTo r trees
stopped_only text (Ok d) e is bad trees dump = absurd cc
stopped_only text (Err (BadLine n)) e is bad trees dump = absurd ((bad n (cc)).none trees dump)
stopped_only text (Err Memory) e is bad trees dump = tt

pub stopped_bad : (text : List ℕ) (r : Result Dump DumpFault) (e : DumpFault) → r ≡ Err e → ((n : ℕ) → e ≡ BadLine n → IsBadLine text n) → (n : ℕ) → r ≡ Err (BadLine n) → IsBadLine text n
stopped_bad text r e is bad n same = bad n (cc)

-- a text that was read to its end
pub whole_found : (text left : List ℕ) (reading : Reading) (n : ℕ) (r : Result Dump DumpFault) → Reached text left reading n → left ≡ [] → IfOk r (λ d. (d.trees ≡ reading.trees) × (reading.partial ≡ None)) → IfOk r (λ d. IsDump text d.trees)
whole_found text left reading n (Ok d) reached none ok =
    let at : Reached text [] reading n = subst (λ (x : List ℕ). Reached text x reading n) none reached in
    subst (IsDump text) (sym ok.0) (read_whole text reading n at ok.1)
whole_found text left reading n (Err e) reached none ok = tt

pub whole_only : (text left : List ℕ) (reading : Reading) (n : ℕ) (r : Result Dump DumpFault) → Reached text left reading n → left ≡ [] → IfOk r (λ d. (d.trees ≡ reading.trees) × (reading.partial ≡ None)) → IfErr r (λ e. (e ≡ BadLine (n + 1)) × IsSome reading.partial)
    → (trees : List DumpedTree) → IsDump text trees → IsReadTo r trees
whole_only text left reading n (Ok d) reached none ok bad trees dump =
    let at : Reached text [] reading n = subst (λ (x : List ℕ). Reached text x reading n) none reached in
    ok.0 ∙ read_only text reading n trees at dump
whole_only text left reading n (Err (BadLine k)) reached none ok bad trees dump =
    (bad_end text left reading n reached (ap line_feeds none) (λ e. bad.1)).none trees dump
whole_only text left reading n (Err Memory) reached none ok bad trees dump = tt

pub whole_bad : (text left : List ℕ) (reading : Reading) (n : ℕ) (r : Result Dump DumpFault) → Reached text left reading n → left ≡ [] → IfErr r (λ e. (e ≡ BadLine (n + 1)) × IsSome reading.partial)
    → (k : ℕ) → r ≡ Err (BadLine k) → IsBadLine text k
whole_bad text left reading n (Ok d) reached none bad k e = absurd cc
whole_bad text left reading n (Err f) reached none bad k e =
    let same : n + 1 ≡ k = number (sym bad.0 ∙ (cc)) in
    subst (IsBadLine text) same (bad_end text left reading n reached (ap line_feeds none) (λ e. bad.1))
  where
    number : {a b : ℕ} → BadLine a ≡ BadLine b → a ≡ b
    number e = cc

-- whether a text is empty
pub empty_is : (left : List ℕ) (b : Bool) → b ≡ eqb (length left) 0 → b ≡ true → left ≡ []
empty_is left b e t = nil_from_length left (eqb-true (length left) 0 (sym e ∙ t))

filled : (left : List ℕ) (b : Bool) → b ≡ eqb (length left) 0 → b ≡ false → left ≡ [] → ⊥
filled [] b e f is = absurd cc
filled (x ∷ left) b e f is = absurd cc

pub bad_within : (text left : List ℕ) (reading : Reading) (n : ℕ) (b : Bool) → Reached text left reading n → line_feeds left ≡ 0 → b ≡ eqb (length left) 0 → b ≡ false → IsBadLine text (n + 1)
bad_within text left reading n b reached free e f = bad_end text left reading n reached free (λ none. absurd (filled left b e f none))
