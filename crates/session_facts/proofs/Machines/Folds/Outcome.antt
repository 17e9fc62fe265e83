-- What each put of a leaf and its pieces leaves, whether it landed or not.
use Rattle.std.proofs.Common.{◌≡◌, ◌+◌, ◌<◌, ◌==◌, ◌⊎◌, inl, inr, ℕ, Bool, true, false, cond, ◌&&◌, nat_lt, List, [], ◌∷◌, ◌++◌, length, map, filter, reverse, Option, Some, None, Result, Ok, refl, sym, ap, subst, ◌∙◌, arith}
use Rattle.std.specs.Prelude.{is_none}
use Rattle.std.proofs.lemmas.Bool.{ne_eqb}
use Rattle.std.proofs.lemmas.List.{append-nil, length-reverse}
use Rattle.cloud_facts.specs.Chains.Chain.{IsChained}
use Rattle.cloud_facts.specs.Chains.Links.{top_of}
use Rattle.cloud_facts.specs.Calls.Acting.{footing, actor, Aside, Outcome}
use Rattle.cloud_facts.specs.Words.{IsClient, IsTree, Trouble, ObjName, Entry, PuItem, Leaf, Answer, CloudState, called, Caller, Claim, Lasts, Ask, PutHeld, done_of, Book, Store, at, IsIn, nodes_of, roots_of, store_of, IsCall, StandsUnder}
use Rattle.cloud_facts.specs.Calls.Looks.{audit_of}
use Rattle.cloud_facts.proofs.Calls.Calls.{permitted, put_cases, put_lasts}
use Rattle.cloud_trait.specs.Ask.{Lands}
use Rattle.db_base.specs.Change.{key_of}
use Rattle.db_base.specs.declared.names.Lock.TheVariants as lock
use Rattle.db_base.specs.declared.names.ObjName.TheVariants as object
use Rattle.history.specs.Audited.{applied_entry}
use Rattle.cloud_facts.specs.Homes.Homes.{Part, Parts, HomesHold}
use Rattle.cloud_facts.proofs.Homes.HomeLemmas.{keeps_part, aside_keeps}
use Rattle.leaf_edit.specs.Lacked.{is_lacked, lacked}
use Rattle.tree_phases.specs.declared.folding.Folding.{Folding}
use Rattle.tree_phases.specs.Folding.{FoldingStep, folding_ask, folding_next, landed, counted}
use Rattle.leaf_view.specs.Lookup.{holds, number_of as done_number}
use Rattle.split_plan.specs.declared.put_list.PagePut.{PagePut}
use Rattle.split_plan.specs.Part.{LeafPart}
use Rattle.split_plan.specs.Plan.{put_of, on_pages, leaf_bytes}
use Rattle.cloud_facts.specs.Book.Effects.{is_lacking, lacking, taken_entries}
use Rattle.cloud_facts.specs.Book.Telling.{leaf_in, newest_leaf, newest_root}
use Rattle.cloud_facts.proofs.Tellings.Finding.{found_before}
use Rattle.tree_ckpt.proofs.LeafOutcomes.{works}
use Rattle.tree_ckpt.proofs.LeafOutcomes as step
use Rattle.tree_ckpt.proofs.Tours.{page_left}
use Rattle.tree_phases.specs.Placing.{has_nothing, has_one_page}
use Rattle.tree_phases.specs.Read.{tree_held}
use Rattle.session_facts.specs.Machines.Folds.Knows.{PutsPieces}
use Rattle.session_facts.specs.Machines.Folds.Nexts.{fold_note, KnowsStep}
use Rattle.cloud_facts.specs.Calls.Links.{HasTreeLease}
use Rattle.session_facts.specs.Machines.Trees.Leaves.{KnowsRest, IsPutting}
use Rattle.session_facts.proofs.Machines.Folds.Puts.{page_asked, root_asked, piece_lands, piece_is_new, piece_after, left_lands, left_taken, left_after}
use Rattle.session_facts.proofs.Machines.Folds.Landed.{reserving_putting, piece_putting, left_rest}
use Rattle.session_facts.proofs.Machines.TreeCheckpoints.RunLengths.{run_length}
use Rattle.session_facts.proofs.Machines.Folds.Reserves.{reserving_lands, reserving_version, reserving_after}
use Rattle.session_facts.proofs.Machines.Folds.Pieces.{taken}
use Rattle.session_facts.proofs.Machines.Trees.Placings.{last_cases, puts_more}
use Rattle.cloud_facts.proofs.Calls.Outcomes.{stays, put_landed}

module _ (who : Caller) (s t : CloudState) (book : Book) (order : List Entry) (parts : Parts) (mine : List Claim) (lease : Claim) (f : Folding) (ids : List ℕ) (reply : Answer)
    (stands : StandsUnder book order s) (homes : HomesHold (store_of book order s).tally t.now parts) (held : IsIn mine lease) (lock_is : lease.lock ≡ lock.Tree f.chart.tree)
    (p : IsPutting (store_of book order s) t.now lease f ids) (call : IsCall who (folding_ask f lease) reply s t) where
  abbrev st : Store
  st = store_of book order s

  abbrev tree : ℕ
  tree = f.chart.tree

  abbrev run : List PuItem
  run = f.chart.run.items

  abbrev of_tree : IsTree tree
  of_tree = p.tree

  abbrev clients : (x : PuItem) → IsIn run x → IsClient x.rec.client
  clients = p.took.clients

  abbrev cursor : List (ℕ × ℕ)
  cursor = (tree_held f.chart.root).cursor

  abbrev k : PutsPieces st t.now lease f run
  k = p.puts

  newest : Lasts t.now lease → top_of (roots_of s tree) ≡ tree_held f.chart.root
  newest = p.root.newest

  abbrev own : Part
  own = parts who.session

  abbrev Known : Store → ℕ → Part → Type 0
  Known = Aside st own (λ u now. KnowsStep u now lease ids (folding_next f reply))

  abbrev OutAt : Ask → Type 0
  OutAt ask = Outcome (footing book order s) t (actor parts who.session mine) ask (fold_note f ask) Known

  still : HomesHold st.tally t.now (at who.session own parts)
  still = keeps_part st.tally t.now parts who.session own refl homes

  call_at : (ask : Ask) → folding_ask f lease ≡ ask → IsCall who ask reply s t
  call_at ask is = subst (λ (q : Ask). IsCall who q reply s t) is call

  -- where a put leads, by whether it was done and whether it was the last
  put_leads : (u : Store) → has_nothing f.placing ≡ false → (done_of reply ≡ Ok tt → has_one_page f.placing ≡ false → IsPutting u t.now lease (landed f) ids)
      → (done_of reply ≡ Ok tt → has_one_page f.placing ≡ true → KnowsRest u t.now lease (counted (landed f)).chart ids) → KnowsStep u t.now lease ids (folding_next f reply)
  put_leads u some goes ends = on (works f reply)
    where
      lands : {g : Result (Unit {0}) Trouble} {next : FoldingStep} → done_of reply ≡ g → step.Lands f g next → KnowsStep u t.now lease ids next
      lands e (step.not_put trouble) = tt
      lands e (step.lands x more) = goes e more
      lands e (step.is_put x last) = ends e last

      on : {next : FoldingStep} → step.Works f reply next → KnowsStep u t.now lease ids next
      on (step.gets nothing r) = absurd (cc (some, nothing))
      on (step.puts full l) = lands refl l

  -- it was not done
  not_put : (u : Store) → has_nothing f.placing ≡ false → (done_of reply ≡ Ok tt → ⊥) → KnowsStep u t.now lease ids (folding_next f reply)
  not_put u some never = put_leads u some (λ done. absurd (never done)) (λ done. absurd (never done))

  has_lease : Lasts t.now lease → HasTreeLease mine t.now tree
  has_lease lasts = record { lease = lease; held = held; lock_is = lock_is; lasts = lasts }

  -- ---- the reservation

  module _ (bytes : List ℕ) (some : f.placing.reserved ≡ Some bytes) where
    abbrev root_put : Ask
    root_put = PutHeld (object.Tree tree) bytes lease None

    full : has_nothing f.placing ≡ false
    full = ap (λ (o : Option (List ℕ)). is_none o && (length f.placing.puts == 0)) some

    more : has_one_page f.placing ≡ false
    more = ap (λ (o : Option (List ℕ)). is_none o && (length f.placing.puts == 1)) some

    pub reserving_outcome : OutAt root_put
    reserving_outcome = on (put_cases who (object.Tree tree) bytes lease None reply s t (call_at root_put (root_asked f lease bytes some)))
      where
        landed_so : Lands who root_put (called who t.now s) t → OutAt root_put
        landed_so lands =
            let root = newest (put_lasts who (object.Tree tree) bytes lease None (called who t.now s) t lands) in
            let su = reserving_after book order s stands t.now lease f of_tree run k root bytes some in
            put_landed who book order s t parts mine (fold_note f root_put) Known (object.Tree tree) bytes lease None su lands stands
            (reserving_lands book order s stands t.now lease f of_tree run k root bytes some who (run_length st tree cursor f.chart.run ids p.took))
            (reserving_version book order s stands t.now lease f of_tree run k root bytes some) tt tt own
            (aside_keeps st.tally su.tally t.now (at who.session own parts) refl refl still)
            (record {
              part_is = refl;
              heads = λ client. refl;
              knows = put_leads su full (λ done one. reserving_putting book order s stands t.now lease f ids p root bytes some) (λ done last. absurd (cc (more, last)));
            })
            refl

        on : ((t ≡ called who t.now s) × (done_of reply ≡ Ok tt → ⊥)) ⊎ Lands who root_put (called who t.now s) t → OutAt root_put
        on (inl q) =
            stays who book order s t parts mine root_put (fold_note f root_put) Known q.0 stands own still
            (record { part_is = refl; heads = λ client. refl; knows = not_put st full q.1 })
        on (inr lands) = landed_so lands

  -- ---- the pages

  -- a put under both leases
  both_last : (name : ObjName) (bytes : List ℕ) → Lands who (PutHeld name bytes lease (Some f.lease)) (called who t.now s) t → Lasts t.now lease × Lasts t.now f.lease
  both_last name bytes lands = (permitted who (PutHeld name bytes lease (Some f.lease)) (called who t.now s) t lands)

  full_with : (x : PagePut) (xs : List PagePut) → f.placing.puts ≡ x ∷ xs → has_nothing f.placing ≡ false
  full_with x xs puts = page_left f.placing (subst (λ (l : List PagePut). 0 < length l) (sym puts) (omega arith))

  module _ (none : f.placing.reserved ≡ None) where
    -- more than one page is to be put
    one_page : (x y : PagePut) (xs : List PagePut) → f.placing.puts ≡ x ∷ y ∷ xs → has_one_page f.placing ≡ false
    one_page x y xs puts =
        ap (λ (o : Option (List ℕ)). is_none o && (length f.placing.puts == 1)) none
        ∙ (ap (λ (l : List PagePut). length l == 1) puts ∙ ne_eqb (length (x ∷ y ∷ xs)) 1 (λ e. absurd (omega (arith, e))))

    module _ (middle : List LeafPart) (last : LeafPart) (is : k.placing.middle ≡ middle ++ last ∷ []) where
      abbrev number : ℕ
      number = k.first + length middle

      abbrev piece_put : Ask
      piece_put = PutHeld (object.Page tree number) (leaf_bytes last) lease (Some f.lease)

      abbrev others : List PagePut
      others = reverse (map (put_of leaf_bytes) (on_pages f.page k.first (k.placing.front ∷ middle)))

      puts : f.placing.puts ≡ record { page = number; bytes = leaf_bytes last } ∷ others
      puts =
          k.placing.puts_are
          ∙ (ap (λ (m : List LeafPart). reverse (map (put_of leaf_bytes) (on_pages f.page k.first (k.placing.front ∷ m)))) is
          ∙ puts_more leaf_bytes f.page k.first k.placing.front middle last)

      not_last : has_one_page f.placing ≡ false
      not_last = on others refl
        where
          on : (l : List PagePut) → others ≡ l → has_one_page f.placing ≡ false
          on [] e =
              let n = sym (length-reverse (map (put_of leaf_bytes) (on_pages f.page k.first (k.placing.front ∷ middle)))) ∙ ap length e in
              absurd (omega (arith, n))
          on (y ∷ ys) e = one_page (record { page = number; bytes = leaf_bytes last }) y ys (puts ∙ ap (λ (l : List PagePut). record { page = number; bytes = leaf_bytes last } ∷ l) e)

      pub piece_outcome : OutAt piece_put
      piece_outcome =
          on (put_cases who (object.Page tree number) (leaf_bytes last) lease (Some f.lease) reply s t
          (call_at piece_put (page_asked f lease (record { page = number; bytes = leaf_bytes last }) others none puts)))
        where
          full : has_nothing f.placing ≡ false
          full = full_with (record { page = number; bytes = leaf_bytes last }) others puts

          noted : fold_note f piece_put (audit_of book order) ≡ audit_of book order
          noted =
              ap (λ (b : Bool). audit_of book (order ++ map (applied_entry tree) (cond b f.lacked []))) not_last
              ∙ ap (audit_of book) (append-nil order)

          landed_so : Lands who piece_put (called who t.now s) t → OutAt piece_put
          landed_so lands =
              let both = both_last (object.Page tree number) (leaf_bytes last) lands in
              let su = piece_after book order s stands t.now lease f of_tree run clients k none both.0 both.1 who middle last is in
              put_landed who book order s t parts mine (fold_note f piece_put) Known (object.Page tree number) (leaf_bytes last) lease (Some f.lease) su lands stands
              (piece_lands book order s stands t.now lease f of_tree run clients k none both.0 both.1 who middle last is)
              (piece_is_new book order s stands t.now lease f of_tree run clients k none both.0 both.1 who middle last is) tt tt own
              (aside_keeps st.tally su.tally t.now (at who.session own parts) refl refl still)
              (record {
                part_is = refl;
                heads = λ client. refl;
                knows = put_leads su full (λ done one. piece_putting book order s stands t.now lease f ids p none both.0 both.1 middle last is) (λ done one. absurd (cc (not_last, one)));
              })
              noted

          on : ((t ≡ called who t.now s) × (done_of reply ≡ Ok tt → ⊥)) ⊎ Lands who piece_put (called who t.now s) t → OutAt piece_put
          on (inl q) =
              stays who book order s t parts mine piece_put (fold_note f piece_put) Known q.0 stands own still
              (record { part_is = refl; heads = λ client. refl; knows = not_put st full q.1 })
          on (inr lands) = landed_so lands

    module _ (is : k.placing.middle ≡ []) where
      abbrev left_bytes : List ℕ
      left_bytes = leaf_bytes k.placing.front

      abbrev left_put : Ask
      left_put = PutHeld (object.Page tree f.page) left_bytes lease (Some f.lease)

      abbrev old : Leaf
      old = newest_leaf (nodes_of s) tree f.page

      lone_put : f.placing.puts ≡ record { page = f.page; bytes = left_bytes } ∷ []
      lone_put = k.placing.puts_are ∙ ap (λ (m : List LeafPart). reverse (map (put_of leaf_bytes) (on_pages f.page k.first (k.placing.front ∷ m)))) is

      at_last : has_one_page f.placing ≡ true
      at_last =
          ap (λ (o : Option (List ℕ)). is_none o && (length f.placing.puts == 1)) none
          ∙ ap (λ (l : List PagePut). length l == 1) lone_put

      -- what the store says is lacked is what the leaf lacks
      lacking_is : lacking st.tally (taken book order s stands tree f.page of_tree run clients k.linked k.first) ≡ lacked old 0 run
      lacking_is = ap (λ p. filter p run) (λ i x. same x i)
        where
          chained : IsChained (book.chain tree) (nodes_of s tree) (roots_of s tree) (st.tally.done tree) (st.tally.cursor tree 0)
          chained = stands.holds.chains tree of_tree

          same : (x : PuItem) → is_lacking st.tally (taken book order s stands tree f.page of_tree run clients k.linked k.first) x ≡ is_lacked old 0 x
          same x = on (holds old (key_of x.rec.change)) refl
            where
              on : (b : Bool) → holds old (key_of x.rec.change) ≡ b
                  → (b && nat_lt (st.tally.done tree (key_of x.rec.change) 0 x.rec.client) x.rec.number) ≡ (b && nat_lt (done_number old.done 0 x.rec.client) x.rec.number)
              on true e =
                  ap (λ (l : Leaf). nat_lt (done_number l.done 0 x.rec.client) x.rec.number)
                  (found_before book s tree f.page (newest_root (roots_of s) tree).level chained.levels chained.versions chained.newest k.linked (key_of x.rec.change) e)
              on false e = refl

      pub left_outcome : OutAt left_put
      left_outcome =
          on (put_cases who (object.Page tree f.page) left_bytes lease (Some f.lease) reply s t
          (call_at left_put (page_asked f lease (record { page = f.page; bytes = left_bytes }) [] none lone_put)))
        where
          full : has_nothing f.placing ≡ false
          full = full_with (record { page = f.page; bytes = left_bytes }) [] lone_put

          landed_so : Lands who left_put (called who t.now s) t → OutAt left_put
          landed_so lands =
              let both = both_last (object.Page tree f.page) left_bytes lands in
              let su = left_after book order s stands t.now lease f of_tree run clients k none both.0 both.1 who is in
              put_landed who book order s t parts mine (fold_note f left_put) Known (object.Page tree f.page) left_bytes lease (Some f.lease) su lands stands
              (left_lands book order s stands t.now lease f of_tree run clients k none both.0 both.1 who is cursor p.took.received f.chart.run.top p.took.is_run p.took.behind p.took.items)
              (left_taken book order s stands t.now lease f of_tree run clients k none both.0 both.1 who is cursor p.took.received f.chart.run.top p.took.is_run p.took.behind p.took.items) tt
              (inr (has_lease both.0)) own
              (aside_keeps st.tally su.tally t.now (at who.session own parts) refl refl still)
              (record {
                part_is = refl;
                heads = λ client. refl;
                knows = put_leads su full (λ done more. absurd (cc (at_last, more))) (λ done one. left_rest book order s stands t.now lease f ids p none both.0 both.1 is);
              })
              (noted both.1)
            where
              noted : Lasts t.now f.lease
                  → fold_note f left_put (audit_of book order) ≡ audit_of book (order ++ taken_entries st.tally (taken book order s stands tree f.page of_tree run clients k.linked k.first))
              noted lasts =
                  ap (λ (b : Bool). audit_of book (order ++ map (applied_entry tree) (cond b f.lacked []))) at_last
                  ∙ ap (λ (xs : List PuItem). audit_of book (order ++ map (applied_entry tree) xs))
                  (k.lacks ∙ (ap (λ (l : Leaf). lacked l 0 run) (ap leaf_in (sym (k.newest lasts).is)) ∙ sym lacking_is))

          on : ((t ≡ called who t.now s) × (done_of reply ≡ Ok tt → ⊥)) ⊎ Lands who left_put (called who t.now s) t → OutAt left_put
          on (inl q) =
              stays who book order s t parts mine left_put (fold_note f left_put) Known q.0 stands own still
              (record { part_is = refl; heads = λ client. refl; knows = not_put st full q.1 })
          on (inr lands) = landed_so lands

  -- ---- the put in hand

  pub put_outcome : OutAt (folding_ask f lease)
  put_outcome = on f.placing.reserved refl
    where
      by_pieces : f.placing.reserved ≡ None → (k.placing.middle ≡ []) ⊎ ((front : List LeafPart) × (last : LeafPart) × (k.placing.middle ≡ front ++ last ∷ []))
          → OutAt (folding_ask f lease)
      by_pieces none (inl is) = subst OutAt (sym (page_asked f lease (record { page = f.page; bytes = leaf_bytes k.placing.front }) [] none (lone_put none is))) (left_outcome none is)
      by_pieces none (inr (front, last, is)) =
          subst OutAt (sym (page_asked f lease (record { page = k.first + length front; bytes = leaf_bytes last }) (others none front last is) none (puts none front last is))) (piece_outcome none front last is)

      on : (o : Option (List ℕ)) → f.placing.reserved ≡ o → OutAt (folding_ask f lease)
      on (Some bytes) some = subst OutAt (sym (root_asked f lease bytes some)) (reserving_outcome bytes some)
      on None none = by_pieces none (last_cases k.placing.middle)
