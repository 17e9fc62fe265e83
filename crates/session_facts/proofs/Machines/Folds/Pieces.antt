-- The pieces of a leaf that takes a run: they have spellings, and each lands as what it is.
use Rattle.std.proofs.Common.{◌≡◌, ◌+◌, ◌<◌, ◌≤◌, ◌==◌, ℕ, zero, suc, Bool, true, false, cond, List, [], ◌∷◌, ◌++◌, length, max, Option, refl, sym, ap, subst, arith, inl}
use Rattle.std.specs.Prelude.{◌&&◌}
use Rattle.std.specs.List.{AllByRecursion}
use Rattle.std.proofs.lemmas.Bool.{and_from, eq-eqb}
use Rattle.byte_format.specs.Format.{greatest}
use Rattle.cloud_facts.specs.Chains.Chain.{IsUnlinked}
use Rattle.cloud_facts.specs.Chains.Cuts.{links_on, HaveLanded, leaf_node}
use Rattle.cloud_facts.specs.Chains.Landing.{LandsNew, LandsLeaf}
use Rattle.cloud_facts.specs.Chains.Links.{top_of}
use Rattle.cloud_facts.specs.Words.{IsClient, IsTree, Entry, PuItem, Leaf, CloudState, Caller, Claim, PutHeld, Book, Store, IsIn, nodes_of, roots_of, store_of, StandsUnder}
use Rattle.cloud_facts.specs.Calls.Standing.{IsTaken}
use Rattle.db_base.specs.Change.{key_of}
use Rattle.db_base.specs.Cursor.{number_of}
use Rattle.db_base.specs.declared.names.ObjName.TheVariants as object
use Rattle.cloud_facts.specs.Landings.Landing.{Landing, puts_page, puts_leaf}
use Rattle.cloud_facts.specs.Landings.Landing as landing
use Rattle.leaf_edit.proofs.CutFits.{left-formed, right-formed}
use Rattle.leaf_edit.specs.Applied.{applied}
use Rattle.leaf_edit.specs.Cut.{left_part, right_part}
use Rattle.leaf_edit.specs.Raised.{raised, greatest_of}
use Rattle.leaf_view.specs.Fits.{IsWellFormed, IsVersion}
use Rattle.leaf_view.specs.Leaf.{IsLeaf}
use Rattle.leaf_view.specs.Lookup.{holds}
use Rattle.leaf_view.proofs.Split.{fits_leaf}
use Rattle.run_cursor.specs.Run.{IsRun}
use Rattle.session_facts.proofs.Machines.Runs.Received.{each_in}
use Rattle.session_facts.proofs.Machines.Runs.Taken.{consecutive, run_in, upto_greatest}
use Rattle.split_plan.proofs.Buffers.{left-leaf, right-leaf}
use Rattle.split_plan.proofs.Cutting.{can-behind, pieces-are-a-cut}
use Rattle.split_plan.specs.Cut.{IsNewPart, BeginAs, IsCut, cut_by}
use Rattle.split_plan.specs.Part.{LeafPart, part_of_leaf, leaf_of_part, record_key}
use Rattle.split_plan.specs.Plan.{IsLeafPart, leaf_bytes, leaf_pieces}
use Rattle.split_plan.specs.Sizes.{CanCut, cuts_of}
use Rattle.cloud_facts.specs.Book.Effects.{Taking, after_leaf, after_page}
use Rattle.cloud_facts.specs.Book.Premises.{IsItemOf, Takes, LandsFirst, AreThere}
use Rattle.cloud_facts.specs.Book.Telling.{gone_of, newest_leaf}
use Rattle.cloud_facts.proofs.Book.Places.{in_front, in_behind}
use Rattle.cloud_facts.specs.Tellings.Pieces.{first_part, right_of, left_leaf}
use Rattle.cloud_facts.specs.Tellings.Taking.{leaf_take, AreClients, IsLinked, LandsTaken, taking_of}
use Rattle.cloud_facts.proofs.Tellings.Laws.{cut_taken, taken_lands}
use Rattle.cloud_facts.proofs.Tellings.Ready.{taken_takes, piece_first}
use Rattle.session_facts.specs.Machines.Trees.Placings.{numbered, AreReserved}
use Rattle.session_facts.proofs.Machines.Trees.Placings.{on_range}

-- ---- spellings

-- a leaf is put in format 2, whatever it was read in
pub put-formed : (l : Leaf) → IsWellFormed l → IsWellFormed (record l { format = 2 })
put-formed l formed = record {
  format = inl refl;
  low = formed.low;
  right = formed.right;
  high = formed.high;
  done = formed.done;
  done_ascends = formed.done_ascends;
  records = formed.records;
  records_ascend = formed.records_ascend;
}

-- the pieces of a leaf that is well formed have spellings
pub leaf_parts_fit : (sizes : List ℕ) (last free : ℕ) (l : Leaf) → CanCut sizes last (length l.records) → 1 ≤ free → free + length sizes ≤ greatest → IsVersion l.version
    → IsWellFormed l → AllByRecursion IsLeafPart (cut_by record_key sizes free (part_of_leaf l))
leaf_parts_fit [] last free l can some room version formed = (record { fits = fits_leaf (record l { format = 2 }) version (put-formed l formed) }, tt)
leaf_parts_fit (n ∷ sizes) last free l can some room version formed = (
  subst IsLeafPart (left-leaf n free l) (record { fits = fits_leaf (left_part n free l) version (left-formed n free l can.0 can.1 some (omega (arith, room)) formed) }),
  subst (λ (p : LeafPart). AllByRecursion IsLeafPart (cut_by record_key sizes (free + 1) p)) (right-leaf n l)
      (leaf_parts_fit sizes last (free + 1) (right_part n l) (can-behind n sizes last l.records can) (omega arith) (omega (arith, room))
      (record { some = omega arith; most = omega arith }) (right-formed n l can.1 formed)),
)

-- ---- a piece of the cut

clients_of : (run : List PuItem) → ((x : PuItem) → IsIn run x → IsClient x.rec.client) → AreClients run
clients_of [] each = tt
clients_of (x ∷ xs) each = (each x (zero, refl), clients_of xs (λ y is. each y (suc is.0, is.1)))

-- a piece behind the first is a new page
new_of : (whole : LeafPart) (front : LeafPart) (rest : List LeafPart) → BeginAs record_key whole (front ∷ rest) → (p : LeafPart) → IsIn rest p → p.version ≡ 1
new_of whole front rest begins p there = (each_in (IsNewPart record_key) rest begins.2 p there).version

module _ (book : Book) (order : List Entry) (s : CloudState) (stands : StandsUnder book order s) (tree page : ℕ) (of_tree : IsTree tree)
    (run : List PuItem) (clients : (x : PuItem) → IsIn run x → IsClient x.rec.client) (linked : IsLinked (book.chain tree 0) page) (first : ℕ) where
  abbrev st : Store
  st = store_of book order s

  abbrev old : Leaf
  old = newest_leaf (nodes_of s) tree page

  abbrev whole : Leaf
  whole = applied old 0 run

  abbrev pub taken : Taking
  taken = taking_of tree (leaf_take page old 0 run (cuts_of (length whole.records)) first)

  is_cut : IsCut record_key first (part_of_leaf whole) (leaf_pieces first whole)
  is_cut = pieces-are-a-cut record_key first (part_of_leaf whole)

  -- ---- a right piece lands on its number

  module _ (who : Caller) (one : Claim) (two : Option Claim) (front : LeafPart) (middle : List LeafPart) (last : LeafPart) (behind : List LeafPart)
      (pieces : leaf_pieces first whole ≡ front ∷ ((middle ++ last ∷ []) ++ behind)) (fit : AllByRecursion IsLeafPart (leaf_pieces first whole))
      (reserved : AreReserved leaf_node (book.chain tree) (nodes_of s tree) (gone_of s tree) (top_of (roots_of s tree)).next (numbered first (middle ++ last ∷ []) behind))
      (number : ℕ) (number_is : number ≡ first + length middle) (within : number < first + length (middle ++ last ∷ [])) where
    there : IsIn ((middle ++ last ∷ []) ++ behind) last
    there = in_front (middle ++ last ∷ []) behind last (in_behind middle (last ∷ []) last (zero, refl))

    at : IsIn (leaf_pieces first whole) last
    at = subst (λ (ps : List LeafPart). IsIn ps last) (sym pieces) (suc there.0, there.1)

    pub piece_version : last.version ≡ 1
    piece_version =
        new_of (part_of_leaf whole) front ((middle ++ last ∷ []) ++ behind) (subst (BeginAs record_key (part_of_leaf whole)) pieces is_cut.begins) last there

    table : last.common ≡ raised old.done 0 run
    table = each_in (λ (p : LeafPart). p.common ≡ whole.done) (leaf_pieces first whole) is_cut.common last at

    above : 1 < number
    above = reserved.above number (omega (arith, number_is)) (omega (arith, within))

    unlinked : IsUnlinked (book.chain tree) number
    unlinked = reserved.unlinked number (omega (arith, number_is)) (omega (arith, within))

    pub piece_lands_first : LandsFirst st tree number (landing.own_of number (leaf_node last))
    piece_lands_first =
        piece_first book order s tree of_tree stands.holds.chains stands.decodes page 0 run number (leaf_of_part last) linked (clients_of run clients) table
        (λ e. absurd (omega (arith, above, e))) above unlinked

    pub lands_new : LandsNew st tree number (leaf_node last)
    lands_new = record {
      absent = reserved.absent number (omega (arith, number_is)) within;
      reserved = let w = reserved.within in omega (arith, w, within);
      names = tt;
    }

    pub piece_spells : IsLeaf (leaf_bytes last) (leaf_of_part last)
    piece_spells = record { fits = (each_in IsLeafPart (leaf_pieces first whole) fit last at).fits; is = refl }

    abbrev pub piece_landing : Landing who st (PutHeld (object.Page tree number) (leaf_bytes last) one two) (after_page tree number (leaf_node last) (landing.own_of number (leaf_node last)) st)
    piece_landing = puts_page tree number (leaf_node last) (leaf_bytes last) one two of_tree piece_spells piece_lands_first lands_new

  -- ---- the left piece lands on the leaf's page

  module _ (who : Caller) (one : Claim) (two : Option Claim) (front : LeafPart) (behind : List LeafPart) (pieces : leaf_pieces first whole ≡ front ∷ behind)
      (fit : AllByRecursion IsLeafPart (leaf_pieces first whole))
      (reserved : AreReserved leaf_node (book.chain tree) (nodes_of s tree) (gone_of s tree) (top_of (roots_of s tree)).next (numbered first [] behind))
      (cursor : List (ℕ × ℕ)) (received : List PuItem) (top : List (ℕ × ℕ)) (is_run : IsRun cursor received run top)
      (covered : (client : ℕ) → IsClient client → number_of cursor client ≤ st.tally.cursor tree 0 client)
      (items : (x : PuItem) → IsIn received x → IsItemOf st tree 0 x) where
    rest : right_of (leaf_pieces first whole) ≡ behind
    rest = ap right_of pieces

    pub lands_taken : LandsTaken (book.chain tree) (nodes_of s tree) (leaf_take page old 0 run (cuts_of (length whole.records)) first)
    lands_taken =
        cut_taken (book.chain tree) (nodes_of s tree) page old 0 run first (clients_of run clients) linked
        (subst (λ (ps : List LeafPart). HaveLanded leaf_node (nodes_of s tree) first ps) (sym rest)
        (subst (λ (n : ℕ). HaveLanded leaf_node (nodes_of s tree) n behind) start reserved.landed))
        (λ piece is.
        let r = on_range first behind piece (subst (λ (ps : List LeafPart). IsIn (links_on first ps) piece) rest is) in
        reserved.unlinked piece.page r.0 (let high = r.1 in omega (arith, high)))
      where
        start : first + 0 ≡ first
        start = omega arith

    pub pieces_there : AreThere st tree taken.pieces
    pieces_there piece is =
        let r = on_range first behind piece (subst (λ (ps : List LeafPart). IsIn (links_on first ps) piece) rest is) in
        reserved.there piece.page r.0 (let high = r.1 in omega (arith, high))

    left_is : leaf_of_part front ≡ left_leaf (cuts_of (length whole.records)) first whole
    left_is = ap (λ (ps : List LeafPart). leaf_of_part (first_part (part_of_leaf whole) ps)) (sym pieces)

    pub left_spells : IsLeaf (leaf_bytes front) (left_leaf (cuts_of (length whole.records)) first whole)
    left_spells =
        subst (IsLeaf (leaf_bytes front)) left_is
        (record {
          fits = (each_in IsLeafPart (leaf_pieces first whole) fit front (subst (λ (ps : List LeafPart). IsIn ps front) (sym pieces) (zero, refl))).fits;
          is = refl;
        })

    pub is_taken : IsTaken st taken
    is_taken = record { sizes = cuts_of (length whole.records); free = first; is = refl; lands = lands_taken }

    pub takes : Takes st taken
    takes =
        taken_takes book order s tree of_tree stands.holds.chains stands.decodes who page 0 run (cuts_of (length whole.records)) first (leaf_bytes front) lands_taken left_spells
        (λ x is. items x (run_in cursor received run top is_run x is))
        (λ client is. (number_of cursor client, consecutive st tree 0 cursor received run top is_run covered client is)) is_run.sorted
        (λ same x is out. absurd (never same))
      where
        never : 0 ≡ page → ⊥
        never same =
            let some = (((stands.holds.chains tree of_tree).pages.linked) 0 linked.link (linked.place, linked.linked)).0 in
            let is = linked.page_is in
            omega (arith, some, is, same)

    pub leaf_lands : LandsLeaf st taken
    leaf_lands =
        taken_lands book order s tree of_tree stands.holds.chains stands.decodes who page 0 run (cuts_of (length whole.records)) first (leaf_bytes front) lands_taken left_spells

    abbrev pub leaf_landing : Landing who st (PutHeld (object.Page tree page) (leaf_bytes front) one two) (after_leaf taken st)
    leaf_landing = puts_leaf taken (leaf_bytes front) one two left_spells takes leaf_lands pieces_there

  -- ---- what is applied then

  -- the records of the run in the leaf's range
  pub run_applied : (x : PuItem) → IsIn run x → holds old (key_of x.rec.change) ≡ true
      → x.rec.number ≤ (after_leaf taken st).tally.done tree (key_of x.rec.change) 0 x.rec.client
  run_applied x is within =
      subst (λ b. x.rec.number ≤ cond b (max (st.tally.done tree (key_of x.rec.change) 0 x.rec.client) (greatest_of run x.rec.client)) (st.tally.done tree (key_of x.rec.change) 0 x.rec.client))
      (sym here) (let upto = upto_greatest run x is in omega (arith, upto))
    where
      here : ((tree == tree) && (0 == 0)) && holds old (key_of x.rec.change) ≡ true
      here = and_from ((tree == tree) && (0 == 0)) (holds old (key_of x.rec.change)) (and_from (tree == tree) (0 == 0) (eq-eqb tree tree refl) refl) within

  -- and what was applied before
  pub still_applied : (x : PuItem) → x.rec.number ≤ st.tally.done tree (key_of x.rec.change) 0 x.rec.client
      → x.rec.number ≤ (after_leaf taken st).tally.done tree (key_of x.rec.change) 0 x.rec.client
  still_applied x before = on (((tree == tree) && (0 == 0)) && holds old (key_of x.rec.change))
    where
      on : (b : Bool) → x.rec.number ≤ cond b (max (st.tally.done tree (key_of x.rec.change) 0 x.rec.client) (greatest_of run x.rec.client)) (st.tally.done tree (key_of x.rec.change) 0 x.rec.client)
      on true = omega (arith, before)
      on false = before
