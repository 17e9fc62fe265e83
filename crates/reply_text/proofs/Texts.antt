-- Texts of words that are joined.
use Rattle.std.proofs.Common.{◌≡◌, ℕ, List, [], ◌∷◌, ◌++◌, map, refl, sym, ap, ◌∙◌, append_assoc, append-nil, length}
use Rattle.std.specs.Fmt.{decimal}
use Rattle.words.specs.Line.{text_of}
use Rattle.db_base.specs.declared.change.Change.{Change}
use Rattle.db_base.specs.declared.change.Change.TheVariants.{Insert, Update, Delete, Add}
use Rattle.db_base.specs.declared.trouble.Trouble.{Trouble}
use Rattle.db_base.specs.declared.trouble.Trouble.TheVariants.{Failed, Late, Busy, Waiting, Stale, Absent, NotALeaf, Damaged, BadFence, Loop, Exhausted, Memory}
use Rattle.report_types.specs.declared.entry.Entry.{Entry}
use Rattle.std.specs.Prelude.{codes}
use Rattle.report_types.specs.declared.report.Report.{Report}
use Rattle.reply_text.specs.Reply.{trouble_words, HasText, behind_each, change_words, entry_words, stored_words, report_lines, section_lines}

-- a kind with a trouble behind it
pub text_of_trouble : (kind : List ℕ) (trouble : Trouble) → HasText trouble → text_of 32 (kind ∷ trouble_words trouble) ≡ kind ++ (32 ∷ text_of 32 (trouble_words trouble))
text_of_trouble kind Failed h = refl
text_of_trouble kind (Late end now) h = refl
text_of_trouble kind (Busy lock until) h = refl
text_of_trouble kind (Waiting have need) h = refl
text_of_trouble kind (Stale page least got) h = refl
text_of_trouble kind (Absent page) h = refl
text_of_trouble kind (NotALeaf page) h = refl
text_of_trouble kind (Damaged place offset) h = refl
text_of_trouble kind (BadFence page expected found) h = refl
text_of_trouble kind (Loop page) h = refl
text_of_trouble kind (Exhausted what) h = refl
text_of_trouble kind Memory h = absurd h

-- a word with a change behind it
text_of_change : (word : List ℕ) (change : Change) → text_of 32 (word ∷ change_words change) ≡ word ++ (32 ∷ text_of 32 (change_words change))
text_of_change word (Insert key payload attr) = refl
text_of_change word (Update key payload) = refl
text_of_change word (Delete key) = refl
text_of_change word (Add key amount) = refl

-- an entry's text ends with that of its change
pub text_of_entry : (entry : Entry) → text_of 32 (entry_words entry) ≡ decimal entry.client ++ (32 ∷ (decimal entry.epoch ++ (32 ∷ (decimal entry.txn ++ (32 ∷ text_of 32 (change_words entry.change))))))
text_of_entry entry = ap (λ (t : List ℕ). decimal entry.client ++ (32 ∷ (decimal entry.epoch ++ (32 ∷ t)))) (text_of_change (decimal entry.txn) entry.change)

-- a text, and those behind it
pub text_of_behind : (separator : ℕ) (text : List ℕ) (texts : List (List ℕ)) → text_of separator (text ∷ texts) ≡ text ++ behind_each separator texts
text_of_behind separator text [] = sym (append-nil text)
text_of_behind separator text (next ∷ texts) = ap (λ (t : List ℕ). text ++ (separator ∷ t)) (text_of_behind separator next texts)

-- a scan's text
pub text_of_scan : (name count : List ℕ) (words : List (List ℕ)) → text_of 32 (name ∷ count ∷ words) ≡ (name ++ (32 ∷ count)) ++ behind_each 32 words
text_of_scan name count words = ap (λ (t : List ℕ). name ++ (32 ∷ t)) (text_of_behind 32 count words) ∙ sym (append_assoc name (32 ∷ count) (behind_each 32 words))

-- the lines of a list, and those behind them
items_text : {A : Type 0} (words : A → List (List ℕ)) (items : List A) (rest : List (List (List ℕ))) → behind_each 10 (map (text_of 32) (map words items ++ rest)) ≡ behind_each 10 (map (λ i. text_of 32 (words i)) items) ++ behind_each 10 (map (text_of 32) rest)
items_text words [] rest = refl
items_text {A = A} words (x ∷ items) rest =
    ap (λ (t : List ℕ). 10 ∷ (text_of 32 (words x) ++ t)) (items_text words items rest)
    ∙ ap (λ (t : List ℕ). 10 ∷ t) (sym (append_assoc (text_of 32 (words x)) (behind_each 10 (map (λ (i : A). text_of 32 (words i)) items)) (behind_each 10 (map (text_of 32) rest))))

-- the parts of a report's text, regrouped
regroup : (t s1 e1 s2 e2 s3 e3 z : List ℕ) → ((((((t ++ s1) ++ e1) ++ s2) ++ e2) ++ s3) ++ e3) ++ z ≡ t ++ (s1 ++ (e1 ++ (s2 ++ (e2 ++ (s3 ++ (e3 ++ z))))))
regroup t s1 e1 s2 e2 s3 e3 z = simp append_assoc

-- the text of a list's lines behind the line of its name and length, and of what is behind them
section_text : {A : Type 0} (name : List ℕ) (words : A → List (List ℕ)) (items : List A) (rest : List (List (List ℕ))) (text : List ℕ) → behind_each 10 (map (text_of 32) rest) ≡ text → behind_each 10 (map (text_of 32) (section_lines name words items ++ rest)) ≡ 10 ∷ (text_of 32 (name ∷ decimal (length items) ∷ []) ++ (behind_each 10 (map (λ i. text_of 32 (words i)) items) ++ text))
section_text {A = A} name words items rest text e =
    ap (λ (t : List ℕ). 10 ∷ (text_of 32 (name ∷ decimal (length items) ∷ []) ++ t))
    (items_text words items rest ∙ ap (λ (t : List ℕ). behind_each 10 (map (λ (i : A). text_of 32 (words i)) items) ++ t) e)

-- a report's text from its parts
pub report_whole : (report : Report) (t0 t1 t2 t3 t4 t5 t6 t7 : List ℕ)
    → t0 ≡ text_of 32 (codes "report" ∷ decimal report.tree ∷ [])
    → t1 ≡ t0 ++ (10 ∷ text_of 32 (codes "committed" ∷ decimal (length report.committed) ∷ []))
    → t2 ≡ t1 ++ behind_each 10 (map (λ e. text_of 32 (entry_words e)) report.committed)
    → t3 ≡ t2 ++ (10 ∷ text_of 32 (codes "order" ∷ decimal (length report.order) ∷ []))
    → t4 ≡ t3 ++ behind_each 10 (map (λ e. text_of 32 (entry_words e)) report.order)
    → t5 ≡ t4 ++ (10 ∷ text_of 32 (codes "contents" ∷ decimal (length report.contents) ∷ []))
    → t6 ≡ t5 ++ behind_each 10 (map (λ s. text_of 32 (stored_words s)) report.contents)
    → t7 ≡ t6 ++ (10 ∷ text_of 32 (codes "left" ∷ decimal report.heads ∷ decimal report.messages ∷ []))
    → t7 ≡ text_of 10 (map (text_of 32) (report_lines report))
report_whole report t0 t1 t2 t3 t4 t5 t6 t7 h0 h1 h2 h3 h4 h5 h6 h7 =
    let left : List (List (List ℕ)) = (codes "left" ∷ decimal report.heads ∷ decimal report.messages ∷ []) ∷ [] in
    let last = text_of 32 (codes "left" ∷ decimal report.heads ∷ decimal report.messages ∷ []) in
    let contents = section_text (codes "contents") stored_words report.contents left (10 ∷ last) (ap (λ (t : List ℕ). 10 ∷ t) (append-nil last)) in
    let order = section_text (codes "order") entry_words report.order (section_lines (codes "contents") stored_words report.contents ++ left) _ contents in
    let committed = section_text (codes "committed") entry_words report.committed (section_lines (codes "order") entry_words report.order ++ (section_lines (codes "contents") stored_words report.contents ++ left)) _ order in
    let rest = section_lines (codes "committed") entry_words report.committed ++ (section_lines (codes "order") entry_words report.order ++ (section_lines (codes "contents") stored_words report.contents ++ left)) in
    let first = text_of 32 (codes "report" ∷ decimal report.tree ∷ []) in
    let whole = text_of_behind 10 first (map (text_of 32) rest) ∙ ap (λ (t : List ℕ). first ++ t) committed in
    rw (h7, h6, h5, h4, h3, h2, h1, h0) (regroup first (10 ∷ text_of 32 (codes "committed" ∷ decimal (length report.committed) ∷ [])) (behind_each 10 (map (λ e. text_of 32 (entry_words e)) report.committed)) (10 ∷ text_of 32 (codes "order" ∷ decimal (length report.order) ∷ [])) (behind_each 10 (map (λ e. text_of 32 (entry_words e)) report.order)) (10 ∷ text_of 32 (codes "contents" ∷ decimal (length report.contents) ∷ [])) (behind_each 10 (map (λ s. text_of 32 (stored_words s)) report.contents)) (10 ∷ last) ∙ sym whole)
