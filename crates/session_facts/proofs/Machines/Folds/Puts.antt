-- The puts of a leaf under both leases: what each rests on, and what is known behind it.
use Rattle.std.proofs.Common.{◌≡◌, ◌≢◌, ◌+◌, ◌<◌, ◌≤◌, ◌⊎◌, inl, inr, ℕ, true, List, [], ◌∷◌, ◌++◌, length, map, reverse, drop, Option, Some, None, refl, sym, ap, subst, ◌∙◌, arith, append_assoc, length-append}
use Rattle.std.specs.Prelude.{unwrap_or}
use Rattle.std.specs.List.{AllByRecursion}
use Rattle.cloud_facts.specs.Chains.Cuts.{leaf_node}
use Rattle.cloud_facts.specs.Chains.Links.{top_of}
use Rattle.cloud_facts.specs.Words.{IsClient, IsTree, Entry, PuItem, Leaf, CloudState, Caller, Claim, Lasts, GetHeld, PutHeld, Book, Store, Node, Leafy, IsIn, nodes_of, roots_of, store_of, StandsUnder}
use Rattle.cloud_facts.specs.Calls.Standing.{IsTaken}
use Rattle.db_base.specs.Change.{key_of}
use Rattle.db_base.specs.Cursor.{number_of}
use Rattle.db_base.specs.declared.names.ObjName.TheVariants as object
use Rattle.cloud_facts.specs.Landings.Landing.{Landing}
use Rattle.cloud_facts.specs.Landings.Landing as landing
use Rattle.leaf_edit.specs.Applied.{applied}
use Rattle.tree_phases.specs.declared.folding.Folding.{Folding}
use Rattle.tree_phases.specs.Folding.{folding_ask, landed}
use Rattle.leaf_view.specs.Lookup.{empty_leaf, holds}
use Rattle.run_cursor.specs.Run.{IsRun}
use Rattle.split_plan.specs.declared.put_list.PagePut.{PagePut}
use Rattle.split_plan.specs.Part.{LeafPart}
use Rattle.split_plan.specs.Plan.{IsLeafPart, put_of, on_pages, leaf_bytes, leaf_pieces}
use Rattle.cloud_facts.specs.Book.Effects.{after_leaf, after_page}
use Rattle.cloud_facts.specs.Book.Premises.{IsItemOf}
use Rattle.cloud_facts.specs.Book.Telling.{last_or, leaf_in, gone_of, newest_leaf}
use Rattle.cloud_facts.proofs.Tellings.Names.{at2_same, at2_beside}
use Rattle.tree_phases.specs.Placing.{put_next, put_first, puts_after}
use Rattle.tree_phases.specs.Read.{tree_held}
use Rattle.session_facts.specs.Machines.Folds.Knows.{IsDone, AreDoneTo, Reserves, PutsPieces}
use Rattle.session_facts.specs.Machines.Trees.Placings.{AreReserved, numbered}
use Rattle.session_facts.proofs.Machines.Folds.Pieces.{taken, piece_landing, piece_version, leaf_landing, is_taken, run_applied, still_applied}
use Rattle.session_facts.proofs.Machines.Trees.Placings.{puts_more, piece_landed}

-- the put in hand is that of the first page, where nothing is to be reserved
pub page_asked : (f : Folding) (lease : Claim) (x : PagePut) (xs : List PagePut) → f.placing.reserved ≡ None → f.placing.puts ≡ x ∷ xs
    → folding_ask f lease ≡ PutHeld (object.Page f.chart.tree x.page) x.bytes lease (Some f.lease)
page_asked f lease x xs none puts =
    ap (λ (o : Option (List ℕ)). unwrap_or (put_first f.chart.tree lease (put_next f.chart.tree lease (Some f.lease) f.placing.puts) o) (GetHeld (object.Page f.chart.tree f.page) f.lease)) none
    ∙ ap (λ (l : List PagePut). unwrap_or (put_next f.chart.tree lease (Some f.lease) l) (GetHeld (object.Page f.chart.tree f.page) f.lease)) puts

-- and that of the root where numbers are
pub root_asked : (f : Folding) (lease : Claim) (bytes : List ℕ) → f.placing.reserved ≡ Some bytes → folding_ask f lease ≡ PutHeld (object.Tree f.chart.tree) bytes lease None
root_asked f lease bytes some =
    ap (λ (o : Option (List ℕ)). unwrap_or (put_first f.chart.tree lease (put_next f.chart.tree lease (Some f.lease) f.placing.puts) o) (GetHeld (object.Page f.chart.tree f.page) f.lease)) some

module _ (book : Book) (order : List Entry) (s : CloudState) (stands : StandsUnder book order s) (now : ℕ) (lease : Claim) (f : Folding) (of_tree : IsTree f.chart.tree) (run : List PuItem)
    (clients : (x : PuItem) → IsIn run x → IsClient x.rec.client) (k : PutsPieces (store_of book order s) now lease f run) (none : f.placing.reserved ≡ None) (lasts : Lasts now lease)
    (leaf_lasts : Lasts now f.lease) where
  abbrev st : Store
  st = store_of book order s

  abbrev tree : ℕ
  tree = f.chart.tree

  abbrev old : Leaf
  old = newest_leaf (nodes_of s) tree f.page

  abbrev front : LeafPart
  front = k.placing.front

  abbrev behind : List LeafPart
  behind = k.placing.behind

  -- the leaf that was read is the newest
  same : k.leaf ≡ old
  same = ap leaf_in (sym (k.newest leaf_lasts).is)

  reserved : AreReserved leaf_node (book.chain tree) (nodes_of s tree) (gone_of s tree) (top_of (roots_of s tree)).next (numbered k.first k.placing.middle behind)
  reserved = subst (λ (o : Option (List ℕ)). Reserves st (Lasts now lease) tree (tree_held f.chart.root) (numbered k.first k.placing.middle behind) o) none k.reserves lasts

  pub fit : AllByRecursion IsLeafPart (leaf_pieces k.first (applied old 0 run))
  fit = subst (λ (l : Leaf). AllByRecursion IsLeafPart (leaf_pieces k.first (applied l 0 run))) same k.fit

  pieces : leaf_pieces k.first (applied old 0 run) ≡ front ∷ (k.placing.middle ++ behind)
  pieces = ap (λ (l : Leaf). leaf_pieces k.first (applied l 0 run)) (sym same) ∙ k.placing.pieces_are

  -- ---- a right piece

  module _ (who : Caller) (middle : List LeafPart) (last : LeafPart) (is : k.placing.middle ≡ middle ++ last ∷ []) where
    abbrev number : ℕ
    number = k.first + length middle

    pub reserved_last : AreReserved leaf_node (book.chain tree) (nodes_of s tree) (gone_of s tree) (top_of (roots_of s tree)).next (numbered k.first (middle ++ last ∷ []) behind)
    reserved_last = subst (λ (m : List LeafPart). AreReserved leaf_node (book.chain tree) (nodes_of s tree) (gone_of s tree) (top_of (roots_of s tree)).next (numbered k.first m behind)) is reserved

    pub within : number < k.first + length (middle ++ last ∷ [])
    within = let more = length-append middle (last ∷ []) in omega (arith, more)

    pub puts_are : f.placing.puts ≡ record { page = number; bytes = leaf_bytes last } ∷ reverse (map (put_of leaf_bytes) (on_pages f.page k.first (front ∷ middle)))
    puts_are =
        k.placing.puts_are
        ∙ (ap (λ (m : List LeafPart). reverse (map (put_of leaf_bytes) (on_pages f.page k.first (front ∷ m)))) is ∙ puts_more leaf_bytes f.page k.first front middle last)

    pub pieces_last : leaf_pieces k.first (applied old 0 run) ≡ front ∷ ((middle ++ last ∷ []) ++ behind)
    pieces_last = pieces ∙ ap (λ (m : List LeafPart). front ∷ (m ++ behind)) is

    abbrev pub piece_after : Store
    piece_after = after_page tree number (leaf_node last) (landing.own_of number (leaf_node last)) st

    -- it lands as the first version of a page that is in no chain
    abbrev pub piece_lands : Landing who st (PutHeld (object.Page tree number) (leaf_bytes last) lease (Some f.lease)) piece_after
    piece_lands =
        piece_landing book order s stands tree f.page of_tree run clients k.linked k.first who lease (Some f.lease) front middle last behind pieces_last fit reserved_last number refl within

    pub piece_is_new : last.version ≡ 1
    piece_is_new =
        piece_version book order s stands tree f.page of_tree run clients k.linked k.first who lease (Some f.lease) front middle last behind pieces_last fit reserved_last number refl within

    pub other : f.page ≢ number
    other e =
        reserved_last.unlinked number (omega arith) (let w = within in omega (arith, w)) 0 k.linked.link (k.linked.place, k.linked.linked) (k.linked.page_is ∙ e)

    pub page_stays : (p : ℕ) → p ≢ number → piece_after.tally.nodes tree p ≡ nodes_of s tree p
    page_stays p ne = at2_beside tree number (nodes_of s tree number ++ leaf_node last ∷ []) (nodes_of s) tree p ne

    abbrev pub piece_known : PutsPieces piece_after now lease (landed f) run
    piece_known = record {
      leaf = k.leaf;
      linked = k.linked;
      newest = λ still.
          let was = k.newest still in
          let here = page_stays f.page other in
          record { is = ap (λ (ns : List Node). last_or (Leafy empty_leaf) ns) here ∙ was.is; absent = λ empty. was.absent (sym here ∙ empty) };
      few = k.few;
      first = k.first;
      fit = k.fit;
      placing = record {
        front = front;
        middle = middle;
        behind = last ∷ behind;
        pieces_are = k.placing.pieces_are ∙ (ap (λ (m : List LeafPart). front ∷ (m ++ behind)) is ∙ ap (λ (l : List LeafPart). front ∷ l) (append_assoc middle (last ∷ []) behind));
        puts_are = ap (λ (o : Option (List ℕ)). puts_after o f.placing.puts) none ∙ ap (λ (l : List PagePut). drop 1 l) puts_are;
      };
      reserves = λ still.
          piece_landed leaf_node (book.chain tree) (nodes_of s tree) (piece_after.tally.nodes tree) (gone_of s tree) (top_of (roots_of s tree)).next k.first middle last behind
          (at2_same tree number (nodes_of s tree number ++ leaf_node last ∷ []) (nodes_of s) tree number refl refl) page_stays reserved_last;
      lacks = k.lacks;
      rest = k.rest;
    }

  -- ---- the leaf itself

  module _ (who : Caller) (is : k.placing.middle ≡ []) where
    pub reserved_none : AreReserved leaf_node (book.chain tree) (nodes_of s tree) (gone_of s tree) (top_of (roots_of s tree)).next (numbered k.first [] behind)
    reserved_none = subst (λ (m : List LeafPart). AreReserved leaf_node (book.chain tree) (nodes_of s tree) (gone_of s tree) (top_of (roots_of s tree)).next (numbered k.first m behind)) is reserved

    pub pieces_left : leaf_pieces k.first (applied old 0 run) ≡ front ∷ behind
    pieces_left = pieces ∙ ap (λ (m : List LeafPart). front ∷ (m ++ behind)) is

    abbrev pub left_after : Store
    left_after = after_leaf (taken book order s stands tree f.page of_tree run clients k.linked k.first) st

    module _ (cursor : List (ℕ × ℕ)) (received : List PuItem) (top : List (ℕ × ℕ)) (is_run : IsRun cursor received run top)
        (covered : (client : ℕ) → IsClient client → number_of cursor client ≤ st.tally.cursor tree 0 client) (items : (x : PuItem) → IsIn received x → IsItemOf st tree 0 x) where
      -- it lands as its page's leaf with the run, cut or whole
      abbrev pub left_lands : Landing who st (PutHeld (object.Page tree f.page) (leaf_bytes front) lease (Some f.lease)) left_after
      left_lands =
          leaf_landing book order s stands tree f.page of_tree run clients k.linked k.first who lease (Some f.lease) front behind pieces_left fit reserved_none cursor received top is_run covered items

      pub left_taken : IsTaken st (taken book order s stands tree f.page of_tree run clients k.linked k.first)
      left_taken =
          is_taken book order s stands tree f.page of_tree run clients k.linked k.first who lease (Some f.lease) front behind pieces_left fit reserved_none cursor received top is_run covered items

    -- then all records are applied that are handled
    pub left_done : AreDoneTo left_after tree run f.chart.from
    left_done x there below = on (k.rest x there below)
      where
        on : IsDone st tree x ⊎ (holds k.leaf (key_of x.rec.change) ≡ true) → IsDone left_after tree x
        on (inl done) = still_applied book order s stands tree f.page of_tree run clients k.linked k.first x done
        on (inr range) =
            run_applied book order s stands tree f.page of_tree run clients k.linked k.first x there
            (ap (λ (l : Leaf). holds l (key_of x.rec.change)) (sym same) ∙ range)
