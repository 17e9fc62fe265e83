-- The puts of the way up: which is in hand, and what is owed for it where it lands.
use Rattle.std.proofs.Common.{◌≡◌, ◌<◌, ◌≤◌, ◌==◌, ℕ, Bool, true, false, not, ◌&&◌, ◌||◌, List, [], ◌∷◌, length, map, reverse, Option, Some, None, Ok, refl, sym, ap, ◌∙◌, arith}
use Rattle.std.specs.Prelude.{unwrap_or, is_none, is_some}
use Rattle.std.proofs.lemmas.Bool.{ne_eqb}
use Rattle.std.proofs.lemmas.List.{length-reverse}
use Rattle.cloud_facts.specs.Chains.Chain.{IsUnlinked}
use Rattle.cloud_facts.specs.Chains.Cuts.{inner_node}
use Rattle.cloud_facts.specs.Chains.Links.{top_of, newest_node, NodeNames}
use Rattle.cloud_facts.specs.Calls.Acting.{Footing, store_on}
use Rattle.cloud_facts.specs.Calls.Looks.{audit_of}
use Rattle.cloud_facts.specs.Words.{IsTree, ObjName, Entry, Inner, CloudState, Caller, Claim, PutHeld, Goes, Ends, Stops, Book, Store, Node, Leafy, Branch, nodes_of, roots_of, store_of, StandsUnder}
use Rattle.cloud_facts.specs.Calls.Standing.{Follows, Commits}
use Rattle.db_base.specs.declared.names.ObjName.TheVariants as object
use Rattle.cloud_facts.specs.Homes.Homes.{Part as Home}
use Rattle.cloud_facts.specs.Landings.Landing.{Landing, puts_page}
use Rattle.cloud_facts.specs.Landings.Landing as landing
use Rattle.leaf_view.specs.Lookup.{empty_leaf}
use Rattle.node_codec.specs.Inner.{IsInner, HasInnerSpelling, inner_bytes}
use Rattle.split_plan.specs.declared.put_list.PagePut.{PagePut}
use Rattle.split_plan.specs.Part.{NodePart, node_of_part}
use Rattle.split_plan.specs.Plan.{IsNodePart, node_bytes, put_of, on_pages}
use Rattle.cloud_facts.specs.Book.Effects.{after_page}
use Rattle.cloud_facts.specs.Book.Telling.{last_or}
use Rattle.cloud_facts.proofs.Tellings.Ready.{branch_first}
use Rattle.tree_phases.specs.Placing.{put_next, put_first, has_nothing}
use Rattle.tree_phases.specs.Reserve.{version_spent}
use Rattle.tree_phases.specs.declared.rising.Rising.{Rising}
use Rattle.tree_phases.specs.Rising.{RisingStep, last_ask, rising_ask, rise, landed, put_landed}
use Rattle.tree_ckpt.proofs.RiseOutcomes.{Lands, lands, rises_rise}
use Rattle.tree_ckpt.proofs.RiseOutcomes as climb
use Rattle.cloud_facts.specs.Calls.Links.{in_hand_at, OwesLease}
use Rattle.session_facts.specs.Machines.Risings.Knows.{RisesOn}

-- ---- the put in hand

pub reserving_asked : (r : Rising) (lease : Claim) (bytes : List ℕ) → r.placing.reserved ≡ Some bytes → rising_ask r lease ≡ PutHeld (object.Tree r.chart.tree) bytes lease None
reserving_asked r lease bytes some =
    ap (λ (o : Option (List ℕ)). unwrap_or (put_first r.chart.tree lease (put_next r.chart.tree lease None r.placing.puts) o) (last_ask r lease r.last)) some

pub page_asked : (r : Rising) (lease : Claim) (x : PagePut) (xs : List PagePut) → r.placing.reserved ≡ None → r.placing.puts ≡ x ∷ xs
    → rising_ask r lease ≡ PutHeld (object.Page r.chart.tree x.page) x.bytes lease None
page_asked r lease x xs none puts =
    ap (λ (o : Option (List ℕ)). unwrap_or (put_first r.chart.tree lease (put_next r.chart.tree lease None r.placing.puts) o) (last_ask r lease r.last)) none
    ∙ ap (λ (l : List PagePut). unwrap_or (put_next r.chart.tree lease None l) (last_ask r lease r.last)) puts

pub last_asked : (r : Rising) (lease : Claim) (bytes : List ℕ) → r.placing.reserved ≡ None → r.placing.puts ≡ [] → r.last ≡ Some bytes
    → rising_ask r lease ≡ PutHeld (object.Tree r.chart.tree) bytes lease None
last_asked r lease bytes none empty last =
    ap (λ (o : Option (List ℕ)). unwrap_or (put_first r.chart.tree lease (put_next r.chart.tree lease None r.placing.puts) o) (last_ask r lease r.last)) none
    ∙ (ap (λ (l : List PagePut). unwrap_or (put_next r.chart.tree lease None l) (last_ask r lease r.last)) empty ∙ ap (last_ask r lease) last)

-- ---- where it leads

pub some_left : (puts : List PagePut) → (puts ≡ [] → ⊥) → (length puts == 0) ≡ false
some_left [] some = absurd (some refl)
some_left (x ∷ xs) some = ne_eqb (length (x ∷ xs)) 0 (λ e. absurd (omega (arith, e)))

pub has_page : (r : Rising) → (r.placing.puts ≡ [] → ⊥) → has_nothing r.placing ≡ false
has_page r some = on (is_none r.placing.reserved)
  where
    on : (b : Bool) → (b && (length r.placing.puts == 0)) ≡ false
    on true = some_left r.placing.puts some
    on false = refl

pub has_reservation : (r : Rising) (bytes : List ℕ) → r.placing.reserved ≡ Some bytes → has_nothing r.placing ≡ false
has_reservation r bytes some = ap (λ (o : Option (List ℕ)). is_none o && (length r.placing.puts == 0)) some

-- another page
pub goes_on : (r : Rising) → has_nothing r.placing ≡ false → ((landed r).placing.puts ≡ [] → ⊥) → put_landed r ≡ Goes (landed r)
goes_on r full more = on (lands r (Ok tt))
  where
    left : has_nothing (landed r).placing ≡ false
    left = some_left (landed r).placing.puts more

    on : {next : RisingStep} → Lands r (Ok tt) next → next ≡ Goes (landed r)
    on (climb.is_last x none) = absurd (cc (none, full))
    on (climb.more x some rising) = refl
    on (climb.cut_short x some nothing last spent) = absurd (let e = left in cc (nothing, e))
    on (climb.goes_on x some nothing between up) = absurd (let e = left in cc (nothing, e))

-- what is left is put before the last root
pub goes_last : (r : Rising) (bytes : List ℕ) → has_nothing r.placing ≡ false → r.last ≡ Some bytes → (has_nothing (landed r).placing && r.is_spent) ≡ false → put_landed r ≡ Goes (landed r)
goes_last r bytes full last more = on (lands r (Ok tt))
  where
    on : {next : RisingStep} → Lands r (Ok tt) next → next ≡ Goes (landed r)
    on (climb.is_last x none) = absurd (cc (none, full))
    on (climb.more x some rising) = refl
    on (climb.cut_short x some nothing behind spent) = absurd (let both : true ≡ false = sym (ap (λ (b : Bool). b && r.is_spent) nothing ∙ spent) ∙ more in cc (both))
    on (climb.goes_on x some nothing between up) = absurd (let none : None ≡ Some bytes = sym between ∙ last in cc (none))

never_rising : (nothing spent some : Bool) → (nothing && spent) ≡ true → (not nothing || (some && not spent)) ≡ true → ⊥
never_rising true true true e rising = absurd (cc (rising))
never_rising true true false e rising = absurd (cc (rising))
never_rising true false some e rising = absurd (cc (e))
never_rising false spent some e rising = absurd (cc (e))

-- no version is left for it
pub stops_last : (r : Rising) (bytes : List ℕ) → has_nothing r.placing ≡ false → r.last ≡ Some bytes → (has_nothing (landed r).placing && r.is_spent) ≡ true
    → put_landed r ≡ Stops (landed r) version_spent
stops_last r bytes full last none = on (lands r (Ok tt))
  where
    on : {next : RisingStep} → Lands r (Ok tt) next → next ≡ Stops (landed r) version_spent
    on (climb.is_last x nothing) = absurd (cc (nothing, full))
    on (climb.more x some rising) = absurd (never_rising (has_nothing (landed r).placing) r.is_spent (is_some r.last) none rising)
    on (climb.cut_short x some nothing behind spent) = refl
    on (climb.goes_on x some nothing between up) = absurd (let clash : None ≡ Some bytes = sym between ∙ last in cc (clash))

pub never_both : (b spent : Bool) → spent ≡ false → (b && spent) ≡ false
never_both true spent e = e
never_both false spent e = refl

-- nothing is left of a node
pub goes_up : (r : Rising) → has_nothing r.placing ≡ false → (landed r).placing.puts ≡ [] → r.last ≡ None → put_landed r ≡ rise (landed r)
goes_up r full empty none = on (lands r (Ok tt))
  where
    gone : has_nothing (landed r).placing ≡ true
    gone = ap (λ (l : List PagePut). length l == 0) empty

    on : {next : RisingStep} → Lands r (Ok tt) next → next ≡ rise (landed r)
    on (climb.is_last x nothing) = absurd (cc (nothing, full))
    on (climb.more x some rising) =
        absurd (let never : false ≡ true = sym (ap (λ (b : Bool). not b || (is_some r.last && not r.is_spent)) gone ∙ ap (λ (o : Option (List ℕ)). is_some o && not r.is_spent) none) ∙ rising in
        cc (never))
    on (climb.cut_short x some nothing behind spent) = absurd (let no : is_some r.last ≡ false = ap (λ (o : Option (List ℕ)). is_some o) none in cc (behind, no))
    on (climb.goes_on x some nothing between up) = sym (rises_rise up)

-- nothing is left at all
pub ends_now : (r : Rising) → r.placing.reserved ≡ None → r.placing.puts ≡ [] → put_landed r ≡ Ends r tt
ends_now r none empty = on (lands r (Ok tt))
  where
    gone : has_nothing r.placing ≡ true
    gone = ap (λ (o : Option (List ℕ)). is_none o && (length r.placing.puts == 0)) none ∙ ap (λ (l : List PagePut). length l == 0) empty

    on : {next : RisingStep} → Lands r (Ok tt) next → next ≡ Ends r tt
    on (climb.is_last x nothing) = refl
    on (climb.more x some rising) = absurd (let e = gone in cc (some, e))
    on (climb.cut_short x some nothing behind spent) = absurd (let e = gone in cc (some, e))
    on (climb.goes_on x some nothing between up) = absurd (let e = gone in cc (some, e))

-- the piece of a page is still to be put
pub some_puts : (bytes : NodePart → List ℕ) (page first : ℕ) (front : NodePart) (middle : List NodePart) → reverse (map (put_of bytes) (on_pages page first (front ∷ middle))) ≡ [] → ⊥
some_puts bytes page first front middle e =
    let n = sym (length-reverse (map (put_of bytes) (on_pages page first (front ∷ middle)))) ∙ ap length e in
    absurd (omega (arith, n))

-- a list of some pieces has some puts
pub no_puts : (bytes : NodePart → List ℕ) (page first : ℕ) (middle : List NodePart) → 1 ≤ length middle → reverse (map (put_of bytes) (on_pages page first middle)) ≡ [] → ⊥
no_puts bytes page first [] some e = absurd (omega (arith, some))
no_puts bytes page first (front ∷ middle) some e = some_puts bytes page first front middle e

-- ---- where it lands

-- what a session holds at a clock: its part, and the leases in hand
pub record Holder : Type 0 where
  pub own : Home
  pub mine : List Claim
  pub now : ℕ

abbrev pub holder : Home → List Claim → ℕ → Holder
holder own mine now = record { own = own; mine = mine; now = now }

-- a way up, by the lease of its tree, and the messages that its run took
pub record Ascent : Type 0 where
  pub lease : Claim
  pub rising : Rising
  pub ids : List ℕ

abbrev pub ascent : Claim → Rising → List ℕ → Ascent
ascent lease r ids = record { lease = lease; rising = r; ids = ids }

-- the store after a put under the tree's lease, on what it rests, and where it leads; only the tree's objects change
pub record RisingEffect (on : Footing) (who : Caller) (by : Holder) (up : Ascent) (name : ObjName) (bytes : List ℕ) : Type 0 where
  pub after : Store
  pub lands : Landing who (store_on on) (PutHeld name bytes up.lease None) after
  pub follows : Follows who (store_on on) (PutHeld name bytes up.lease None) after lands
  pub commits : Commits who (store_on on) by.own (PutHeld name bytes up.lease None) after lands
  pub owes : OwesLease (in_hand_at by.mine by.now) who (store_on on) (PutHeld name bytes up.lease None) after lands
  pub heads : after.tally.head ≡ (store_on on).tally.head
  pub logged : after.tally.logged ≡ (store_on on).tally.logged
  pub noted : audit_of after.book after.order ≡ audit_of on.book on.order
  pub known : (u : CloudState) → StandsUnder after.book after.order u → store_of after.book after.order u ≡ after → RisesOn after by.now up.lease up.ids (put_landed up.rising)

-- ---- a new piece

pub inner_spelled : (n : Inner) → HasInnerSpelling n → IsInner (inner_bytes n) n
unfolding inner_bytes
inner_spelled n fits = record { fits = fits; is = refl }

-- a page without a version holds no inner node
pub no_branch : (nodes : ℕ → List Node) (page : ℕ) (n : Inner) → nodes page ≡ [] → newest_node nodes page ≡ Branch n → ⊥
no_branch nodes page n none is =
    let no : newest_node (λ p. []) page ≡ Branch n = ap (λ (ns : List Node). last_or (Leafy empty_leaf) ns) (sym none) ∙ is in
    absurd (cc)

module _ (book : Book) (order : List Entry) (s : CloudState) (stands : StandsUnder book order s) (tree : ℕ) (of_tree : IsTree tree) (number : ℕ) (p : NodePart) (fits : IsNodePart p)
    (names : NodeNames (book.chain tree) (inner_node p)) (absent : nodes_of s tree number ≡ []) (above : 1 < number) (unlinked : IsUnlinked (book.chain tree) number)
    (below : number < (top_of (roots_of s tree)).next) where
  abbrev st : Store
  st = store_of book order s

  abbrev pub piece_after : Store
  piece_after = after_page tree number (inner_node p) (landing.own_of number (inner_node p)) st

  -- it lands as the first version of a page that is in no chain
  abbrev pub piece_lands : (who : Caller) (one : Claim) (two : Option Claim) → Landing who st (PutHeld (object.Page tree number) (node_bytes p) one two) piece_after
  piece_lands who one two =
      puts_page tree number (inner_node p) (node_bytes p) one two of_tree (inner_spelled (node_of_part p) fits.fits)
      (branch_first book order s tree of_tree stands.holds.chains stands.decodes number (node_of_part p) above unlinked)
      (record { absent = absent; reserved = below; names = names })
