-- Replies: what is read is spelled so, and each spelling is read.
use Rattle.std.proofs.Common.{◌≡◌, ℕ, ◌^◌, ◌<◌, true, List, [], ◌∷◌, length, map, Option, Some, None, Result, Ok, Err, refl, sym, ap, ◌∙◌, inl, inr, lit<, eqb, eq-eqb, IfOk}
use Rattle.std.specs.Prelude.{codes, option_map}
use Rattle.std.specs.Fmt.{decimal}
use Rattle.std.specs.Str.{bytes_eq}
use Rattle.std.proofs.lemmas.Bool.{and_parts, eqb-true}
use Rattle.std.proofs.lemmas.Option.{same_Some, cond_some}
use Rattle.db_base.specs.Refusal.{number_of_refusal}
use Rattle.db_base.specs.declared.refusal.Refusal.{Refusal}
use Rattle.db_base.specs.declared.refusal.Refusal.TheVariants.{EmptyKey, LongKey, LongPayload, TooManyChanges, BadNumber, NotOpen, AtWork, Broken, AlreadyOpen, NotWorking, BadAttr, LongEntry}
use Rattle.db_base.specs.declared.trouble.CommitAnswer.{CommitAnswer}
use Rattle.db_base.specs.declared.trouble.CommitAnswer.TheVariants.{Committed, NotCommitted, InDoubt, CommittedOpen}
use Rattle.db_base.specs.declared.trouble.Trouble.{Trouble}
use Rattle.db_base.specs.declared.trouble.Trouble.TheVariants as trouble
use Rattle.words.specs.declared.fault.TextFault.{TextFault}
use Rattle.words.specs.declared.fault.TextFault.TheVariants.{NotInGrammar, Memory}
use Rattle.words.specs.Word.{hexadecimal, AreBytes, Reads, IsReadTo}
use Rattle.words.specs.Line.{parts_of, text_of, word_at, number_at, bytes_at, end_at, one_of, two_of, three_of}
use Rattle.words.proofs.Shapes.{bind_some, number_at-takes, number_at-again, bytes_at-takes, bytes_at-again, end_at-takes, end_at-again, one_of-takes, one_of-again, two_of-takes, two_of-again, three_of-takes, three_of-again}
use Rattle.words.proofs.Splitting.{lacks, all_lack, parts_of-text_of, text_of-parts_of}
use Rattle.reply_text.specs.declared.reply.Reply.{Reply}
use Rattle.reply_text.specs.declared.reply.Reply.TheVariants as reply
use Rattle.reply_reading.specs.declared.reply_kind.ReplyKind.{ReplyKind}
use Rattle.reply_reading.specs.declared.reply_kind.ReplyKind.TheVariants as answer
use Rattle.reply_text.specs.Reply.{refusal_word, trouble_words, commit_words, pair_word, reply_lines}
use Rattle.reply_reading.specs.Kind.{reply_kind_of, reply_kind_text, reply_kinds, refusal_of, refusals}
use Rattle.reply_reading.specs.Counted.{scan_of, report_of}
use Rattle.reply_reading.specs.Reading.{alone, trouble_behind, trouble_of, refused_of, bytes_alone, reply_by, reply_or_trouble, reply_behind, alone_reply, reply_of_words, reply_of_lines}
use Rattle.reply_text.specs.Grammar.{IsTrouble, IsCommit, IsInRange, IsReply}
use Rattle.reply_reading.proofs.Steps.{behind, before, mapped, chosen, nothing, spelled, find_spelled, word_at-takes, alone-takes, alone-again}
use Rattle.reply_reading.proofs.Visible.{visible, all_visible, both_true, visible_number, visible_bytes, lack_spaces, line_lacks_feed}
use Rattle.reply_reading.proofs.NameLaws.{small_tree}
use Rattle.reply_reading.proofs.TroubleLaws.{trouble_behind-takes, trouble_of-takes, trouble_of-again, visible_trouble}
use Rattle.reply_reading.proofs.CountedLaws.{scan_of-takes, scan_of-again, committed_lines, report_of-takes, report_of-again, lines_visible, report_visible, scan_visible}

-- ---- replies of one line

refused_of-takes : (words : List (List ℕ)) (r : Refusal) → refused_of words ≡ Some r → words ≡ decimal (number_of_refusal r) ∷ refusal_word r ∷ []
unfolding refused_of
refused_of-takes words r e =
    let n = bind_some (number_at words) _ r e in
    let w = bind_some (word_at n.0.1) _ r n.2 in
    let z = bind_some (end_at w.0.1) _ r w.2 in
    let f = bind_some (refusal_of w.0.0) _ r z.2 in
    let number = number_at-takes words n.0 n.1 in
    let end = end_at-takes w.0.1 z.0 z.1 in
    let word : w.0.0 ≡ refusal_word f.0 = find_spelled refusal_word w.0.0 f.0 refusals f.1 in
    let taken = cond_some (eqb (number_of_refusal f.0) n.0.0) f.0 r f.2 in
    let same : number_of_refusal f.0 ≡ n.0.0 = eqb-true (number_of_refusal f.0) n.0.0 taken.0 in
    rw (← taken.1) (number.1 ∙ before n.0.1 (ap decimal (sym same)) ∙ behind _ (word_at-takes n.0.1 w.0 w.1 ∙ before w.0.1 word ∙ behind _ end))

small_number : (r : Refusal) → number_of_refusal r < 2 ^ 64
small_number EmptyKey = lit< tt
small_number LongKey = lit< tt
small_number LongPayload = lit< tt
small_number TooManyChanges = lit< tt
small_number BadNumber = lit< tt
small_number NotOpen = lit< tt
small_number AtWork = lit< tt
small_number Broken = lit< tt
small_number AlreadyOpen = lit< tt
small_number NotWorking = lit< tt
small_number BadAttr = lit< tt
small_number LongEntry = lit< tt

refusal_of-again : (r : Refusal) → refusal_of (refusal_word r) ≡ Some r
refusal_of-again EmptyKey = refl
refusal_of-again LongKey = refl
refusal_of-again LongPayload = refl
refusal_of-again TooManyChanges = refl
refusal_of-again BadNumber = refl
refusal_of-again NotOpen = refl
refusal_of-again AtWork = refl
refusal_of-again Broken = refl
refusal_of-again AlreadyOpen = refl
refusal_of-again NotWorking = refl
refusal_of-again BadAttr = refl
refusal_of-again LongEntry = refl

refused_of-again : (r : Refusal) → refused_of (decimal (number_of_refusal r) ∷ refusal_word r ∷ []) ≡ Some r
unfolding refused_of word_at
refused_of-again r =
    let same : eqb (number_of_refusal r) (number_of_refusal r) ≡ true = eq-eqb _ _ refl in
    rw (number_at-again (number_of_refusal r) (refusal_word r ∷ []) (small_number r), end_at-again, refusal_of-again r, same) refl

bytes_alone-takes : (words : List (List ℕ)) (bytes : List ℕ) → bytes_alone words ≡ Some bytes → AreBytes bytes × (words ≡ hexadecimal bytes ∷ [])
unfolding bytes_alone
bytes_alone-takes words bytes e =
    let a = bind_some (bytes_at words) _ bytes e in
    let z = bind_some (end_at a.0.1) _ bytes a.2 in
    let first = bytes_at-takes words a.0 a.1 in
    let end = end_at-takes a.0.1 z.0 z.1 in
    let same : a.0.0 ≡ bytes = same_Some a.0.0 bytes z.2 in
    rw (← same) (first.0, first.1 ∙ behind _ end)

bytes_alone-again : (bytes : List ℕ) → AreBytes bytes → bytes_alone (hexadecimal bytes ∷ []) ≡ Some bytes
unfolding bytes_alone
bytes_alone-again bytes h = rw (bytes_at-again bytes [] h, end_at-again) refl

-- a line and no other
single : {a b : List (List ℕ)} → a ≡ b → a ∷ [] ≡ b ∷ []
single e = ap (λ (line : List (List ℕ)). line ∷ []) e

-- a reply that is a word alone
word_takes : (word : List ℕ) (x r : Reply) (words : List (List ℕ)) → IsInRange x → (word ∷ []) ∷ [] ≡ reply_lines x → alone x words ≡ Some r → IsInRange r × ((word ∷ words) ∷ [] ≡ reply_lines r)
word_takes word x r words is at e =
    let a = alone-takes x r words e in
    rw (← a.0) (is, single (behind word a.1) ∙ at)

reply_by-takes : (k : ReplyKind) (words : List (List ℕ)) (r : Reply) → reply_by k words ≡ Some r → IsInRange r × ((reply_kind_text k ∷ words) ∷ [] ≡ reply_lines r)
unfolding reply_by
reply_by-takes answer.Begun words r e = word_takes _ reply.Begun r words tt refl e
reply_by-takes answer.Called words r e = word_takes _ reply.Called r words tt refl e
reply_by-takes answer.Noted words r e = word_takes _ reply.Noted r words tt refl e
reply_by-takes answer.Aborted words r e = word_takes _ reply.Aborted r words tt refl e
reply_by-takes answer.Crashed words r e = word_takes _ reply.Crashed r words tt refl e
reply_by-takes answer.Waited words r e = word_takes _ reply.Waited r words tt refl e
reply_by-takes answer.Refused words r e =
    let m = mapped reply.Refused (refused_of words) r e in
    rw (← m.2) (tt, single (behind _ (refused_of-takes words m.0 m.1)))
reply_by-takes answer.Opened words r e =
    let m = mapped reply.Opened (one_of words) r e in
    let x = one_of-takes words m.0 m.1 in
    rw (← m.2) (x.0, single (behind _ x.1))
reply_by-takes answer.Closed words r e = word_takes _ reply.Closed r words tt refl e
reply_by-takes answer.Renewed words r e =
    let m = mapped reply.Renewed (one_of words) r e in
    let x = one_of-takes words m.0 m.1 in
    rw (← m.2) (x.0, single (behind _ x.1))
reply_by-takes answer.Committed words r e =
    let m = mapped (λ (txn : ℕ). reply.Commit (Committed txn)) (one_of words) r e in
    let x = one_of-takes words m.0 m.1 in
    rw (← m.2) (x.0, single (behind _ x.1))
reply_by-takes answer.InDoubt words r e = word_takes _ (reply.Commit InDoubt) r words tt refl e
reply_by-takes answer.NotCommitted words r e =
    let m = mapped (λ (t : Trouble). reply.Commit (NotCommitted t)) (trouble_of words) r e in
    let x = trouble_of-takes words m.0 m.1 in
    rw (← m.2) (x.0, single (behind _ x.1))
reply_by-takes answer.CommittedOpen words r e =
    let m = mapped (λ (t : Trouble). reply.Commit (CommittedOpen t)) (trouble_of words) r e in
    let x = trouble_of-takes words m.0 m.1 in
    rw (← m.2) (x.0, single (behind _ x.1))
reply_by-takes answer.Done words r e =
    let m = mapped (λ (x : ℕ × ℕ × ℕ). reply.Done (record { applied = x.0; deleted = x.1; left = x.2 })) (three_of words) r e in
    let x = three_of-takes words m.0 m.1 in
    rw (← m.2) ((x.0, x.1, x.2), single (behind _ x.3))
reply_by-takes answer.Value words r e =
    let m = mapped reply.Value (bytes_alone words) r e in
    let x = bytes_alone-takes words m.0 m.1 in
    rw (← m.2) (x.0, single (behind _ x.1))
reply_by-takes answer.NoValue words r e = word_takes _ reply.NoValue r words tt refl e
reply_by-takes answer.Scan words r e =
    let m = mapped reply.Scan (scan_of words) r e in
    let x = scan_of-takes words m.0 m.1 in
    rw (← m.2) (x.0, single (behind _ x.1))
reply_by-takes answer.Settled words r e =
    let m = mapped reply.Settled (one_of words) r e in
    let x = one_of-takes words m.0 m.1 in
    rw (← m.2) (x.0, single (behind _ x.1))
reply_by-takes answer.Swept words r e =
    let m = mapped (λ (x : ℕ × ℕ). reply.Swept x.0 x.1) (two_of words) r e in
    let x = two_of-takes words m.0 m.1 in
    rw (← m.2) ((x.0, x.1), single (behind _ x.2))
reply_by-takes answer.Worked words r e =
    let m = mapped (λ (x : ℕ × ℕ). reply.Worked x.0 x.1) (two_of words) r e in
    let x = two_of-takes words m.0 m.1 in
    rw (← m.2) ((x.0, x.1), single (behind _ x.2))
reply_by-takes answer.NotSettled words r e =
    let m = mapped reply.NotSettled (trouble_of words) r e in
    let x = trouble_of-takes words m.0 m.1 in
    rw (← m.2) (x.0, single (behind _ x.1))

reply_or_trouble-takes : (o : Option ReplyKind) (word : List ℕ) (words : List (List ℕ)) (r : Reply) → reply_kind_of word ≡ o → reply_or_trouble o word words ≡ Some r → IsInRange r × ((word ∷ words) ∷ [] ≡ reply_lines r)
unfolding reply_or_trouble
reply_or_trouble-takes None word words r k e =
    let m = mapped reply.Trouble (trouble_behind word words) r e in
    let x = trouble_behind-takes word words m.0 m.1 in
    rw (← m.2) (x.0, single x.1)
reply_or_trouble-takes (Some kind) word words r k e =
    let first : word ≡ reply_kind_text kind = find_spelled reply_kind_text word kind reply_kinds k in
    let by = reply_by-takes kind words r e in
    (by.0, single (before words first) ∙ by.1)

reply_behind-takes : (word : List ℕ) (words : List (List ℕ)) (r : Reply) → reply_behind word words ≡ Some r → IsInRange r × ((word ∷ words) ∷ [] ≡ reply_lines r)
unfolding reply_behind
reply_behind-takes word words r e = reply_or_trouble-takes (reply_kind_of word) word words r refl e

-- ---- replies of lines

alone_reply-takes : (o : Option Reply) (lines : List (List ℕ)) (r : Reply) → alone_reply o lines ≡ Some r → (o ≡ Some r) × (lines ≡ [])
unfolding alone_reply
alone_reply-takes o lines r e =
    let z = bind_some (end_at lines) _ r e in
    (z.2, end_at-takes lines z.0 z.1)

reply_of_words-takes : (words lines : List (List ℕ)) (r : Reply) → reply_of_words words lines ≡ Some r → IsInRange r × (text_of 32 words ∷ lines ≡ map (text_of 32) (reply_lines r))
unfolding reply_of_words
reply_of_words-takes words lines r e =
    let w = bind_some (word_at words) _ r e in
    let first = word_at-takes words w.0 w.1 in
    elim (chosen (bytes_eq w.0.0 (codes "report")) (option_map reply.Report (report_of w.0.1 lines)) (alone_reply (reply_behind w.0.0 w.0.1) lines) (Some r) w.2) [
      | inl h ↦
          let m = mapped reply.Report (report_of w.0.1 lines) r h.1 in
          let x = report_of-takes w.0.1 lines m.0 m.1 in
          let words_are : words ≡ codes "report" ∷ decimal m.0.tree ∷ [] = first ∙ before w.0.1 (spelled w.0.0 _ h.0) ∙ behind _ x.1 in
          rw (← m.2) (x.0, before lines (ap (text_of 32) words_are) ∙ behind _ x.2)
      | inr h ↦
          let a = alone_reply-takes (reply_behind w.0.0 w.0.1) lines r h.1 in
          let by = reply_behind-takes w.0.0 w.0.1 r a.0 in
          (by.0, before lines (ap (text_of 32) first) ∙ behind _ a.1 ∙ ap (map (text_of 32)) by.1)
    ]

reply_of_lines-takes : (lines : List (List ℕ)) (r : Reply) → reply_of_lines lines ≡ Some r → IsInRange r × (lines ≡ map (text_of 32) (reply_lines r))
unfolding reply_of_lines
reply_of_lines-takes lines r e =
    let l = bind_some (word_at lines) _ r e in
    let by = reply_of_words-takes (parts_of 32 l.0.0) l.0.1 r l.2 in
    (by.0, word_at-takes lines l.0 l.1 ∙ before l.0.1 (sym (text_of-parts_of 32 l.0.0)) ∙ by.1)

-- ---- each spelling is read

-- a first line of visible words, and the others
at_first : (words lines : List (List ℕ)) (r : Reply) → all_visible words ≡ true → reply_of_words words lines ≡ Some r → reply_of_lines (text_of 32 words ∷ lines) ≡ Some r
unfolding reply_of_lines reply_of_words word_at
at_first [] lines r seen e = absurd (nothing r e)
at_first (word ∷ words) lines r seen e = rw (parts_of-text_of 32 word words (lack_spaces (word ∷ words) seen)) e

-- a trouble is a reply of its own
trouble_again : (t : Trouble) → IsTrouble t → reply_of_words (trouble_words t) [] ≡ option_map reply.Trouble (trouble_of (trouble_words t))
unfolding reply_of_words word_at alone_reply reply_behind reply_or_trouble trouble_of
trouble_again trouble.Failed h = rw end_at-again refl
trouble_again (trouble.Late end now) h = rw end_at-again refl
trouble_again (trouble.Busy lock until) h = rw end_at-again refl
trouble_again (trouble.Waiting have need) h = rw end_at-again refl
trouble_again (trouble.Stale page least got) h = rw end_at-again refl
trouble_again (trouble.Absent page) h = rw end_at-again refl
trouble_again (trouble.NotALeaf page) h = rw end_at-again refl
trouble_again (trouble.Damaged place offset) h = rw end_at-again refl
trouble_again (trouble.BadFence page expected found) h = rw end_at-again refl
trouble_again (trouble.Loop page) h = rw end_at-again refl
trouble_again (trouble.Exhausted what) h = rw end_at-again refl
trouble_again trouble.Memory h = absurd h

commit_again : (c : CommitAnswer) → IsCommit c → reply_of_words (commit_words c) [] ≡ Some (reply.Commit c)
unfolding reply_of_words word_at alone_reply reply_behind reply_or_trouble reply_by
commit_again (Committed txn) h = rw (end_at-again, one_of-again txn h) refl
commit_again (NotCommitted t) h = rw (end_at-again, trouble_of-again t h) refl
commit_again InDoubt h = rw end_at-again (alone-again (reply.Commit InDoubt))
commit_again (CommittedOpen t) h = rw (end_at-again, trouble_of-again t h) refl

visible_commit : (c : CommitAnswer) → IsCommit c → all_visible (commit_words c) ≡ true
visible_commit (Committed txn) h = rw (visible_number txn h) refl
visible_commit (NotCommitted t) h = rw (visible_trouble t h) refl
visible_commit InDoubt h = refl
visible_commit (CommittedOpen t) h = rw (visible_trouble t h) refl

visible_refusal : (r : Refusal) → visible (refusal_word r) ≡ true
visible_refusal EmptyKey = refl
visible_refusal LongKey = refl
visible_refusal LongPayload = refl
visible_refusal TooManyChanges = refl
visible_refusal BadNumber = refl
visible_refusal NotOpen = refl
visible_refusal AtWork = refl
visible_refusal Broken = refl
visible_refusal AlreadyOpen = refl
visible_refusal NotWorking = refl
visible_refusal BadAttr = refl
visible_refusal LongEntry = refl

-- a reply of a word alone
word_again : (word : List ℕ) (x : Reply) → reply_of_words (word ∷ []) [] ≡ alone x [] → all_visible (word ∷ []) ≡ true → reply_of_lines (text_of 32 (word ∷ []) ∷ []) ≡ Some x
word_again word x e seen = at_first (word ∷ []) [] x seen (e ∙ alone-again x)

reply_of_lines-again : (r : Reply) → IsInRange r → reply_of_lines (map (text_of 32) (reply_lines r)) ≡ Some r
unfolding reply_of_words word_at alone_reply reply_behind reply_or_trouble reply_by
reply_of_lines-again reply.Begun h = word_again (codes "begun") reply.Begun (rw end_at-again refl) refl
reply_of_lines-again reply.Called h = word_again (codes "called") reply.Called (rw end_at-again refl) refl
reply_of_lines-again reply.Noted h = word_again (codes "noted") reply.Noted (rw end_at-again refl) refl
reply_of_lines-again reply.Aborted h = word_again (codes "aborted") reply.Aborted (rw end_at-again refl) refl
reply_of_lines-again reply.Crashed h = word_again (codes "crashed") reply.Crashed (rw end_at-again refl) refl
reply_of_lines-again reply.Waited h = word_again (codes "waited") reply.Waited (rw end_at-again refl) refl
reply_of_lines-again (reply.Refused refusal) h = at_first (codes "refused" ∷ decimal (number_of_refusal refusal) ∷ refusal_word refusal ∷ []) [] _ (rw (visible_number (number_of_refusal refusal) (small_number refusal), visible_refusal refusal) refl) (rw (end_at-again, refused_of-again refusal) refl)
reply_of_lines-again (reply.Opened epoch) h = at_first (codes "opened" ∷ decimal epoch ∷ []) [] _ (rw (visible_number epoch h) refl) (rw (end_at-again, one_of-again epoch h) refl)
reply_of_lines-again reply.Closed h = word_again (codes "closed") reply.Closed (rw end_at-again refl) refl
reply_of_lines-again (reply.Renewed end) h = at_first (codes "renewed" ∷ decimal end ∷ []) [] _ (rw (visible_number end h) refl) (rw (end_at-again, one_of-again end h) refl)
reply_of_lines-again (reply.Commit answer) h = at_first (commit_words answer) [] _ (visible_commit answer h) (commit_again answer h)
reply_of_lines-again (reply.Done answer) h = at_first (codes "done" ∷ decimal answer.applied ∷ decimal answer.deleted ∷ decimal answer.left ∷ []) [] _ (rw (visible_number answer.applied h.0, visible_number answer.deleted h.1, visible_number answer.left h.2) refl) (rw (end_at-again, three_of-again answer.applied answer.deleted answer.left h.0 h.1 h.2) refl)
reply_of_lines-again (reply.Value payload) h = at_first (codes "value" ∷ hexadecimal payload ∷ []) [] _ (rw (visible_bytes payload h) refl) (rw (end_at-again, bytes_alone-again payload h) refl)
reply_of_lines-again reply.NoValue h = word_again (codes "none") reply.NoValue (rw end_at-again refl) refl
reply_of_lines-again (reply.Scan pairs) h = at_first (codes "scan" ∷ decimal (length pairs) ∷ map pair_word pairs) [] _ (rw (visible_number (length pairs) h.1, scan_visible pairs h.0) refl) (rw (end_at-again, scan_of-again pairs h) refl)
reply_of_lines-again (reply.Settled calls) h = at_first (codes "settled" ∷ decimal calls ∷ []) [] _ (rw (visible_number calls h) refl) (rw (end_at-again, one_of-again calls h) refl)
reply_of_lines-again (reply.Swept kept removed) h = at_first (codes "swept" ∷ decimal kept ∷ decimal removed ∷ []) [] _ (rw (visible_number kept h.0, visible_number removed h.1) refl) (rw (end_at-again, two_of-again kept removed h.0 h.1) refl)
reply_of_lines-again (reply.Worked done passed) h = at_first (codes "worked" ∷ decimal done ∷ decimal passed ∷ []) [] _ (rw (visible_number done h.0, visible_number passed h.1) refl) (rw (end_at-again, two_of-again done passed h.0 h.1) refl)
reply_of_lines-again (reply.NotSettled t) h = at_first (codes "not-settled" ∷ trouble_words t) [] _ (rw (visible_trouble t h) refl) (rw (end_at-again, trouble_of-again t h) refl)
reply_of_lines-again (reply.Trouble t) h = at_first (trouble_words t) [] _ (visible_trouble t h) (trouble_again t h ∙ ap (option_map reply.Trouble) (trouble_of-again t h))
reply_of_lines-again (reply.Report report) h = at_first (codes "report" ∷ decimal report.tree ∷ []) (map (text_of 32) (committed_lines report)) _ (rw (visible_number report.tree (small_tree report.tree h.tree)) refl) (rw (report_of-again report h) refl)

-- ---- lines

visible_lines : (r : Reply) → IsInRange r → lines_visible (reply_lines r) ≡ true
visible_lines reply.Begun h = refl
visible_lines reply.Called h = refl
visible_lines reply.Noted h = refl
visible_lines reply.Aborted h = refl
visible_lines reply.Crashed h = refl
visible_lines reply.Waited h = refl
visible_lines (reply.Refused refusal) h = rw (visible_number (number_of_refusal refusal) (small_number refusal), visible_refusal refusal) refl
visible_lines (reply.Opened epoch) h = rw (visible_number epoch h) refl
visible_lines reply.Closed h = refl
visible_lines (reply.Renewed end) h = rw (visible_number end h) refl
visible_lines (reply.Commit answer) h = rw (visible_commit answer h) refl
visible_lines (reply.Done answer) h = rw (visible_number answer.applied h.0, visible_number answer.deleted h.1, visible_number answer.left h.2) refl
visible_lines (reply.Value payload) h = rw (visible_bytes payload h) refl
visible_lines reply.NoValue h = refl
visible_lines (reply.Scan pairs) h = rw (visible_number (length pairs) h.1, scan_visible pairs h.0) refl
visible_lines (reply.Settled calls) h = rw (visible_number calls h) refl
visible_lines (reply.Swept kept removed) h = rw (visible_number kept h.0, visible_number removed h.1) refl
visible_lines (reply.Worked done passed) h = rw (visible_number done h.0, visible_number passed h.1) refl
visible_lines (reply.NotSettled t) h = rw (visible_trouble t h) refl
visible_lines (reply.Trouble t) h = rw (visible_trouble t h) refl
visible_lines (reply.Report report) h = both_true (all_visible (codes "report" ∷ decimal report.tree ∷ [])) (lines_visible (committed_lines report)) (rw (visible_number report.tree (small_tree report.tree h.tree)) refl) (report_visible report h)

lines_lack_feed : (lines : List (List (List ℕ))) → lines_visible lines ≡ true → all_lack 10 (map (text_of 32) lines) ≡ true
lines_lack_feed [] h = refl
lines_lack_feed (line ∷ lines) h =
    let parts = and_parts (all_visible line) (lines_visible lines) h in
    both_true (lacks 10 (text_of 32 line)) (all_lack 10 (map (text_of 32) lines)) (line_lacks_feed line parts.0) (lines_lack_feed lines parts.1)

-- lines that are read, and hold no line feed, are the parts of their text
lines_again : (lines : List (List ℕ)) (r : Reply) → reply_of_lines lines ≡ Some r → all_lack 10 lines ≡ true → parts_of 10 (text_of 10 lines) ≡ lines
unfolding reply_of_lines word_at
lines_again [] r e lack = absurd (nothing r e)
lines_again (line ∷ lines) r e lack = parts_of-text_of 10 line lines lack

-- ---- whole texts

-- what is read is spelled so
pub read_found : (text : List ℕ) (result : Result Reply TextFault) → Reads result (reply_of_lines (parts_of 10 text)) → IfOk result (IsReply text)
read_found text (Ok r) h =
    let taken = reply_of_lines-takes (parts_of 10 text) r h in
    record { in_range = taken.0; is = sym (text_of-parts_of 10 text) ∙ ap (text_of 10) taken.1 }
read_found text (Err NotInGrammar) h = tt
read_found text (Err Memory) h = tt

-- what is read of lines that are read
read_to : (result : Result Reply TextFault) (o : Option Reply) (r : Reply) → Reads result o → o ≡ Some r → IsReadTo result r
read_to (Ok x) o r h at = inl (ap (λ (v : Reply). Ok v) (same_Some x r (sym h ∙ at)))
read_to (Err NotInGrammar) o r h at = absurd (nothing r (sym h ∙ at))
read_to (Err Memory) o r h at = inr refl

-- the lines of a text that spells a reply are read to it
text_again : (text : List ℕ) (r : Reply) → IsReply text r → reply_of_lines (parts_of 10 text) ≡ Some r
text_again text r spelled =
    let again = reply_of_lines-again r spelled.in_range in
    let lack = lines_lack_feed (reply_lines r) (visible_lines r spelled.in_range) in
    let lines : parts_of 10 text ≡ map (text_of 32) (reply_lines r) = ap (parts_of 10) spelled.is ∙ lines_again (map (text_of 32) (reply_lines r)) r again lack in
    ap reply_of_lines lines ∙ again

-- what is spelled so is read
pub read_only : (text : List ℕ) (result : Result Reply TextFault) → Reads result (reply_of_lines (parts_of 10 text)) → (r : Reply) → IsReply text r → IsReadTo result r
read_only text result h r spelled = read_to result (reply_of_lines (parts_of 10 text)) r h (text_again text r spelled)
