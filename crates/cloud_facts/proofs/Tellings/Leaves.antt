-- A leaf lands with a run applied, whole or cut.
use Rattle.std.proofs.Common.{◌≡◌, ◌≢◌, ◌+◌, ◌==◌, ◌&&◌, ℕ, zero, suc, Bool, true, false, cond, max, List, [], ◌∷◌, ◌++◌, map, None, refl, sym, ap, subst, ◌∙◌, ◌⊎◌, inl, inr}
use Rattle.std.specs.Prelude.{slice_get, filter, nat_lt}
use Rattle.std.specs.List.{AllByRecursion}
use Rattle.std.proofs.lemmas.Bool.{eqb-true, eqb-false, eq-eqb}
use Rattle.byte_format.specs.Order.{bytes_below}
use Rattle.db_base.specs.Change.{key_of}
use Rattle.db_base.specs.declared.names.ObjName.TheVariants as object
use Rattle.cloud_facts.specs.Words.{Entry as Change, PuItem, Leaf, CloudState, Caller, Book, Link, Node, Leafy, IsIn, nodes_of, store_of}
use Rattle.cloud_trait.specs.State.{landed as put}
use Rattle.history.specs.Fold.{Records, fold_onto}
use Rattle.leaf_edit.specs.Acted.{acted_by}
use Rattle.leaf_edit.specs.Applied.{applied}
use Rattle.leaf_edit.specs.Edited.{edited, edited_by}
use Rattle.leaf_edit.specs.Lacked.{is_lacked, lacked}
use Rattle.leaf_edit.specs.Raised.{greatest_of}
use Rattle.leaf_edit.proofs.Edits.{edited-ascends}
use Rattle.leaf_edit.proofs.Values.{value_of-edited_by}
use Rattle.leaf_view.specs.Fits.{Ascend, entry_below}
use Rattle.leaf_view.specs.Leaf.{Entry, IsLeaf}
use Rattle.leaf_view.specs.Lookup.{empty_leaf, holds, value_of, number_of as done_number}
use Rattle.split_plan.specs.Part.{LeafPart, leaf_of_part, part_of_leaf, record_key}
use Rattle.cloud_facts.specs.Book.Book.{with_pieces}
use Rattle.cloud_facts.specs.Book.Effects.{done_after, Taking, after_leaf, lacking, is_lacking, taken_entry}
use Rattle.cloud_facts.specs.Book.Tally.{at2}
use Rattle.cloud_facts.specs.Book.Telling.{tally_of, last_or, leaf_in, newest_leaf, page_from, page_for, leaf_for, cursor_of, gone_of}
use Rattle.cloud_facts.specs.Chains.Chain.{AreLevels, AreVersions, AreNewest}
use Rattle.cloud_facts.specs.Chains.Landing.{LandsOn, LandsLeaf}
use Rattle.cloud_facts.specs.Chains.Links.{low_after}
use Rattle.cloud_facts.proofs.Chains.Pieces.{in_first, in_rest, in_cases, none_in}
use Rattle.cloud_facts.specs.Chains.Cuts.{links_on, HaveLanded, leaf_node}
use Rattle.cloud_facts.specs.Tellings.Pieces.{right_of, leaf_parts, left_leaf, leaf_links}
use Rattle.cloud_facts.specs.Tellings.Taking.{leaf_take, taking_of, LandsTaken}
use Rattle.cloud_facts.specs.Tellings.Told.{Tells, own_of}
use Rattle.cloud_facts.proofs.Tellings.Cuts.{AreAt, Finds, cut_finds}
use Rattle.cloud_facts.proofs.Tellings.Easy.{alike}
use Rattle.cloud_facts.proofs.Tellings.Fences.{Rises, lows_under, cut_common, cut_version, cut_lands, all_common}
use Rattle.cloud_facts.proofs.Tellings.Finding as finding
use Rattle.cloud_facts.proofs.Tellings.Folds.{fold_acts, fold_elsewhere, acts_beside, lacked_beside}
use Rattle.cloud_facts.proofs.Tellings.Names.{at2_same, at2_other}
use Rattle.cloud_facts.proofs.Tellings.Nodes.{page_nodes, newest_here, newest_there, page_cursors, page_gone}
use Rattle.cloud_facts.proofs.Tellings.Ranges.{IsBetween, low_of_first, held, unheld, goes_here, GoesPast, goes_past}
use Rattle.cloud_facts.proofs.Tellings.Tables.{AreOfClients, raises_all}
use Rattle.cloud_facts.proofs.Tellings.Walks.{Split, with_pieces-split}

-- what has a spelling as a leaf: records in order, and a table of clients
pub record IsSound (l : Leaf) : Type 0 where
  pub ascends : Ascend entry_below None l.records
  pub clients : AreOfClients l.done

edited_by_ascends : (es : List Entry) (xs : List PuItem) → Ascend entry_below None es → Ascend entry_below None (edited_by es xs)
edited_by_ascends es [] up = up
edited_by_ascends es (x ∷ xs) up = edited_by_ascends (edited es x.rec.change) xs (edited-ascends None es x.rec.change up tt)

-- the left piece has the table of the whole
left_done : (sizes : List ℕ) (free : ℕ) (l : Leaf) → (left_leaf sizes free l).done ≡ l.done
left_done sizes free l = cut_common record_key (part_of_leaf l) sizes free (part_of_leaf l)

module _ (who : Caller) (book : Book) (order : List Change) (s : CloudState) (tree page : ℕ) (queue : ℕ) (run : List PuItem) (sizes : List ℕ) (free : ℕ)
    (bytes : List ℕ) (height : ℕ)
    (lv : AreLevels (book.chain tree) height) (vs : AreVersions (book.chain tree) (nodes_of s tree)) (nw : AreNewest (book.chain tree) (nodes_of s tree))
    (some : page ≢ 0) (sound : IsSound (newest_leaf (nodes_of s) tree page))
    (takes : LandsTaken (book.chain tree) (nodes_of s tree) (leaf_take page (newest_leaf (nodes_of s) tree page) queue run sizes free))
    (rise : AllByRecursion Rises (leaf_parts sizes free (applied (newest_leaf (nodes_of s) tree page) queue run)))
    (is : IsLeaf bytes (left_leaf sizes free (applied (newest_leaf (nodes_of s) tree page) queue run))) where
  -- the leaf before, the whole leaf with the run, the piece that lands, and the links of the others
  abbrev old : Leaf
  old = newest_leaf (nodes_of s) tree page

  abbrev whole : Leaf
  whole = applied old queue run

  abbrev left : Leaf
  left = left_leaf sizes free whole

  abbrev pieces : List Link
  pieces = leaf_links sizes free whole

  abbrev links : List Link
  links = book.chain tree 0

  abbrev after : Book
  after = record book { chain = at2 tree 0 (with_pieces page pieces links) book.chain }

  abbrev later : ℕ → ℕ → List Node
  later = nodes_of (put who (object.Page tree page) bytes s)

  -- the links before that of the page, and those behind it
  abbrev split : Split links takes.linked.place takes.linked.link
  split = finding.split book s tree page height lv vs nw takes.linked

  abbrev between : IsBetween old takes.linked.link.low (slice_get split.rest 0)
  between = finding.between book s tree page height lv vs nw takes.linked

  -- where a key goes, before and after
  goes_before : (key : List ℕ) → page_for book tree key ≡ page_from 1 key (split.front ++ takes.linked.link ∷ split.rest)
  goes_before = finding.goes_before book s tree page height lv vs nw takes.linked

  goes_after : (key : List ℕ) → page_for after tree key ≡ page_from 1 key (split.front ++ takes.linked.link ∷ (pieces ++ split.rest))
  goes_after key =
      ap (page_from 1 key) (at2_same tree 0 (with_pieces page pieces links) book.chain tree 0 refl refl)
      ∙ ap (λ (ls : List Link). page_from 1 key (with_pieces page pieces ls)) split.is
      ∙ ap (page_from 1 key) (with_pieces-split page pieces split.front takes.linked.link split.rest takes.linked.page_is split.front_other)

  -- ---- keys of the leaf

  found_before : (key : List ℕ) → holds old key ≡ true → leaf_for book (nodes_of s) tree key ≡ old
  found_before = finding.found_before book s tree page height lv vs nw takes.linked

  pieces_at : (from : ℕ) (ps : List LeafPart) → HaveLanded leaf_node (nodes_of s tree) from ps → ((a : Link) → IsIn (links_on from ps) a → a.page ≢ page)
      → AreAt (newest_leaf later tree) from ps
  pieces_at from [] landed apart = tt
  pieces_at from (p ∷ ps) landed apart = (
    newest_there who tree page bytes (Leafy left) s is tree from (λ e. apart (record { low = p.low; page = from }) (in_first _ (links_on (from + 1) ps)) e.1)
        ∙ ap (λ (ns : List Node). leaf_in (last_or (Leafy empty_leaf) ns)) landed.0,
    pieces_at (from + 1) ps landed.1 (λ a k. apart a (in_rest (record { low = p.low; page = from }) (links_on (from + 1) ps) a k)),
  )

  pieces_apart : (a : Link) → IsIn pieces a → a.page ≢ page
  pieces_apart a k e = takes.unlinked a k 0 takes.linked.link (takes.linked.place, takes.linked.linked) (takes.linked.page_is ∙ sym e)

  found_after : (key : List ℕ) → holds old key ≡ true → Finds (leaf_for after later tree key) (part_of_leaf whole) key
  found_after key h =
      let p = held old takes.linked.link split.rest key between h in
      let goes : page_for after tree key ≡ page_from page key (pieces ++ split.rest) =
      goes_after key ∙ goes_here key split.front takes.linked.link (pieces ++ split.rest) split.below p.0
      ∙ ap (λ (q : ℕ). page_from q key (pieces ++ split.rest)) takes.linked.page_is in
      subst (λ (q : ℕ). Finds (newest_leaf later tree q) (part_of_leaf whole) key) (sym goes)
      (cut_finds (newest_leaf later tree) (part_of_leaf whole) sizes takes.last free page (part_of_leaf whole) takes.can
      (edited_by_ascends old.records (lacked old queue run) sound.ascends)
      (newest_here who tree page bytes (Leafy left) s is)
      (pieces_at free (right_of (leaf_parts sizes free whole)) takes.landed pieces_apart) key split.rest p.1)

  -- ---- other keys

  within : (next : Link) (behind : List Link) → split.rest ≡ next ∷ behind → AllByRecursion (λ a. bytes_below a.low next.low ≡ true) pieces
  within next behind e =
      lows_under record_key sizes free free (part_of_leaf whole) next.low (between.high ∙ ap (λ (ls : List Link). low_after (slice_get ls 0)) e) rise

  past : (key : List ℕ) → holds old key ≡ false → GoesPast key takes.linked.link.page split.front takes.linked.link pieces split.rest
  past key h =
      goes_past key split.front takes.linked.link pieces split.rest split.below split.front_other split.rest_other
      (low_of_first (book.chain tree) (nodes_of s tree) height lv vs nw takes.linked.link (takes.linked.place, takes.linked.linked)) within
      (unheld old takes.linked.link split.rest key between h)

  -- a key that the leaf does not hold finds the leaf that it found
  stays_here : (key : List ℕ) → holds old key ≡ false → leaf_for after later tree key ≡ leaf_for book (nodes_of s) tree key
  stays_here key h =
      let g = past key h in
      ap (newest_leaf later tree) (goes_after key ∙ g.same ∙ sym (goes_before key))
      ∙ newest_there who tree page bytes (Leafy left) s is tree (page_for book tree key) (λ e. g.other (sym (goes_before key) ∙ e.1 ∙ sym takes.linked.page_is))

  stays_there : (t : ℕ) (key : List ℕ) → t ≢ tree → leaf_for after later t key ≡ leaf_for book (nodes_of s) t key
  stays_there t key ne =
      ap (λ (ls : List Link). newest_leaf later t (page_from 1 key ls)) (at2_other tree 0 (with_pieces page pieces links) book.chain t 0 ne)
      ∙ newest_there who tree page bytes (Leafy left) s is t (page_for book t key) (λ e. ne e.0)

  -- ---- what is told

  abbrev taking : Taking
  taking = taking_of tree (leaf_take page old queue run sizes free)

  done_here : (key : List ℕ) (q c : ℕ) → holds old key ≡ true
      → done_number (leaf_for after later tree key).done q c
      ≡ cond (q == queue) (max (done_number (leaf_for book (nodes_of s) tree key).done q c) (greatest_of run c))
      (done_number (leaf_for book (nodes_of s) tree key).done q c)
  done_here key q c h =
      ap (λ ds. done_number ds q c) (found_after key h).done
      ∙ raises_all old.done queue run sound.clients takes.clients q c
      ∙ ap (λ (l : Leaf). cond (q == queue) (max (done_number l.done q c) (greatest_of run c)) (done_number l.done q c)) (sym (found_before key h))

  done_told : (t : ℕ) (key : List ℕ) (q c : ℕ) → done_number (leaf_for after later t key).done q c
      ≡ cond (((t == tree) && (q == queue)) && holds old key) (max (done_number (leaf_for book (nodes_of s) t key).done q c) (greatest_of run c))
      (done_number (leaf_for book (nodes_of s) t key).done q c)
  done_told t key q c = on (t == tree) refl (holds old key) refl (q == queue) refl
    where
      Goal : ℕ → Bool → Type 0
      Goal x b = done_number (leaf_for after later x key).done q c
          ≡ cond b (max (done_number (leaf_for book (nodes_of s) x key).done q c) (greatest_of run c)) (done_number (leaf_for book (nodes_of s) x key).done q c)

      here : t ≡ tree → (b : Bool) → Goal tree b → Goal t b
      here e b g = subst (λ (x : ℕ). Goal x b) (sym e) g

      on : (u : Bool) → (t == tree) ≡ u → (h : Bool) → holds old key ≡ h → (v : Bool) → (q == queue) ≡ v → Goal t ((u && v) && h)
      on true e true f true g = here (eqb-true t tree e) true (subst (λ (b : Bool). Goal tree b) g (done_here key q c f))
      on true e true f false g = here (eqb-true t tree e) false (subst (λ (b : Bool). Goal tree b) g (done_here key q c f))
      on true e false f true g = here (eqb-true t tree e) false (ap (λ (l : Leaf). done_number l.done q c) (stays_here key f))
      on true e false f false g = here (eqb-true t tree e) false (ap (λ (l : Leaf). done_number l.done q c) (stays_here key f))
      on false e h f v g = ap (λ (l : Leaf). done_number l.done q c) (stays_there t key (eqb-false t tree e))

  -- the leaf lacks what is lacking
  lacks : lacking (tally_of book s) taking ≡ lacked old queue run
  lacks = λ i. filter (λ x. same x i) run
    where
      same : (x : PuItem) → is_lacking (tally_of book s) taking x ≡ is_lacked old queue x
      same x = on (holds old (key_of x.rec.change)) refl
        where
          on : (h : Bool) → holds old (key_of x.rec.change) ≡ h
              → (h && nat_lt (done_number (leaf_for book (nodes_of s) tree (key_of x.rec.change)).done queue x.rec.client) x.rec.number)
              ≡ (h && nat_lt (done_number old.done queue x.rec.client) x.rec.number)
          on true e = ap (λ (l : Leaf). nat_lt (done_number l.done queue x.rec.client) x.rec.number) (found_before (key_of x.rec.change) e)
          on false e = refl

  abbrev values : ℕ → Records
  values t key = value_of key (leaf_for book (nodes_of s) t key).records

  value_told : (t : ℕ) (key : List ℕ)
      → value_of key (leaf_for after later t key).records ≡ fold_onto (values t) (map (taken_entry tree) (lacking (tally_of book s) taking)) t key
  value_told t key =
      on (t == tree) refl (holds old key) refl ∙ ap (λ (xs : List PuItem). fold_onto (values t) (map (taken_entry tree) xs) t key) (sym lacks)
    where
      Goal : ℕ → Type 0
      Goal x = value_of key (leaf_for after later x key).records ≡ fold_onto (values x) (map (taken_entry tree) (lacked old queue run)) x key

      here : t ≡ tree → Goal tree → Goal t
      here e g = subst Goal (sym e) g

      on : (u : Bool) → (t == tree) ≡ u → (h : Bool) → holds old key ≡ h → Goal t
      on true e true f =
          here (eqb-true t tree e)
          ((found_after key f).value
          ∙ value_of-edited_by key old.records (lacked old queue run) sound.ascends
          ∙ ap (λ (l : Leaf). acted_by key (value_of key l.records) (lacked old queue run)) (sym (found_before key f))
          ∙ sym (fold_acts tree (values tree) (lacked old queue run) key))
      on true e false f =
          here (eqb-true t tree e)
          (ap (λ (l : Leaf). value_of key l.records) (stays_here key f)
          ∙ sym (acts_beside key (values tree key) (lacked old queue run) (lacked_beside old queue run key f))
          ∙ sym (fold_acts tree (values tree) (lacked old queue run) key))
      on false e h f =
          ap (λ (l : Leaf). value_of key l.records) (stays_there t key (eqb-false t tree e))
          ∙ sym (ap (λ (r : Records). r key) (fold_elsewhere tree t (values t) (lacked old queue run) (λ x. eqb-false t tree e (sym x))))

  cursor_is : (p c : ℕ) → p ≢ 0 → cursor_of s tree p c ≡ done_number (newest_leaf (nodes_of s) tree p).done p c
  cursor_is zero c ne = absurd (ne refl)
  cursor_is (suc p) c ne = refl

  cursor_here : (c : ℕ) → own_of page (Leafy left) c ≡ cond (page == queue) (max (cursor_of s tree page c) (greatest_of run c)) (cursor_of s tree page c)
  cursor_here c =
      ap (λ ds. done_number ds page c) (left_done sizes free whole)
      ∙ raises_all old.done queue run sound.clients takes.clients page c
      ∙ ap (λ (n : ℕ). cond (page == queue) (max n (greatest_of run c)) n) (sym (cursor_is page c some))

  cursor_told : (t q c : ℕ) → cursor_of (put who (object.Page tree page) bytes s) t q c
      ≡ cond (((t == tree) && (q == queue)) && (q == page)) (max (cursor_of s t q c) (greatest_of run c)) (cursor_of s t q c)
  cursor_told t q c = page_cursors who tree page bytes (Leafy left) s is some t q c ∙ on (t == tree) refl (q == page) refl (q == queue) refl
    where
      Goal : ℕ → ℕ → Bool → Type 0
      Goal x p b = own_of page (Leafy left) c ≡ cond b (max (cursor_of s x p c) (greatest_of run c)) (cursor_of s x p c)

      here : t ≡ tree → q ≡ page → (b : Bool) → (q == queue) ≡ b → Goal t q b
      here e f b g =
          subst (λ (x : ℕ). Goal x q b) (sym e)
          (subst (λ (p : ℕ). Goal tree p b) (sym f) (subst (λ (v : Bool). Goal tree page v) (ap (λ (p : ℕ). p == queue) (sym f) ∙ g) (cursor_here c)))

      on : (u : Bool) → (t == tree) ≡ u → (v : Bool) → (q == page) ≡ v → (w : Bool) → (q == queue) ≡ w
          → cond (u && v) (own_of page (Leafy left)) (cursor_of s t q) c
          ≡ cond ((u && w) && v) (max (cursor_of s t q c) (greatest_of run c)) (cursor_of s t q c)
      on true e true f true g = here (eqb-true t tree e) (eqb-true q page f) true g
      on true e true f false g = here (eqb-true t tree e) (eqb-true q page f) false g
      on true e false f true g = refl
      on true e false f false g = refl
      on false e v f w g = refl

  pub leaf_tells : gone_of s tree page ≡ false → Tells (put who (object.Page tree page) bytes s) (after_leaf taking (store_of book order s))
  leaf_tells there = alike _ _ (record {
    head = λ c. refl;
    logged = λ c. refl;
    posts = λ t p. refl;
    cursor = cursor_told;
    done = done_told;
    value = value_told;
    nodes = page_nodes who tree page bytes (Leafy left) s is;
    gone = page_gone who tree page bytes (Leafy left) s is there;
    roots = λ t. refl;
  })

  -- ---- what must be known of a leaf that takes a run

  -- the table of the left piece is that of its keys with the run
  pub table_is : (key : List ℕ) → holds old key ≡ true → (q c : ℕ) → done_number left.done q c ≡ done_after taking (tally_of book s).done tree key q c
  table_is key h q c =
      ap (λ ds. done_number ds q c) (left_done sizes free whole)
      ∙ raises_all old.done queue run sound.clients takes.clients q c
      ∙ ap (λ (l : Leaf). cond (q == queue) (max (done_number l.done q c) (greatest_of run c)) (done_number l.done q c)) (sym (found_before key h))
      ∙ ap (λ (b : Bool). cond b (max (done_number (leaf_for book (nodes_of s) tree key).done q c) (greatest_of run c))
      (done_number (leaf_for book (nodes_of s) tree key).done q c)) (sym test)
    where
      on : (v : Bool) → ((true && v) && true) ≡ v
      on true = refl
      on false = refl

      test : (((tree == tree) && (q == queue)) && holds old key) ≡ (q == queue)
      test = (λ i. ((eq-eqb tree tree refl i) && (q == queue)) && h i) ∙ on (q == queue)

  -- the left piece lands on the page of its link, and the others behind it
  pub lands_on : LandsOn (book.chain tree) (nodes_of s tree) 0 page (Leafy left) pieces
  lands_on =
      let next = finding.between_next book s tree page height lv vs nw takes.linked in
      subst (λ (p : ℕ). LandsOn (book.chain tree) (nodes_of s tree) 0 p (Leafy left) pieces) takes.linked.page_is
      (cut_lands record_key leaf_node (record { low = λ p. refl; right = λ p. refl; high = λ p. refl })
      (book.chain tree) (nodes_of s tree) 0 sizes free (part_of_leaf whole) (λ q e. refl)
      takes.linked.place takes.linked.link takes.linked.linked next.low (record { right = next.right; high = next.high }) rise tt takes.landed takes.unlinked)

  -- the tables of the pieces are that of the whole
  tables_are : (from : ℕ) (ps : List LeafPart) → HaveLanded leaf_node (nodes_of s tree) from ps → AllByRecursion (λ (p : LeafPart). p.common ≡ whole.done) ps
      → (piece : Link) (l : Leaf) → IsIn (links_on from ps) piece → nodes_of s tree piece.page ≡ Leafy l ∷ [] → l.done ≡ whole.done
  tables_are from [] landed same piece l h k = absurd (none_in piece h)
  tables_are from (p ∷ ps) landed same piece l h k =
      on (tables_are (from + 1) ps landed.1 same.1 piece l) (in_cases (record { low = p.low; page = from }) (links_on (from + 1) ps) piece h)
    where
      on : (IsIn (links_on (from + 1) ps) piece → nodes_of s tree piece.page ≡ Leafy l ∷ [] → l.done ≡ whole.done)
          → (record { low = p.low; page = from } ≡ piece) ⊎ IsIn (links_on (from + 1) ps) piece → l.done ≡ whole.done
      on again (inr j) = again j k
      on again (inl e) =
          let both : leaf_node p ∷ [] ≡ Leafy l ∷ [] = sym landed.0 ∙ ap (λ (a : Link). nodes_of s tree a.page) e ∙ k in
          let one : leaf_of_part p ≡ l = cc in
          ap (λ (m : Leaf). m.done) (sym one) ∙ same.0

  pub lands_leaf : LandsLeaf (store_of book order s) taking
  lands_leaf = record {
    lands = lands_on;
    table = λ piece l h k q c.
        ap (λ ds. done_number ds q c)
        (tables_are free (right_of (leaf_parts sizes free whole)) takes.landed
        (all_common record_key sizes free (part_of_leaf whole)) piece l h k ∙ sym (left_done sizes free whole));
  }

  -- its version is the next one
  pub left_version : left.version ≡ old.version + 1
  left_version = cut_version record_key (part_of_leaf whole) sizes free (part_of_leaf whole)
