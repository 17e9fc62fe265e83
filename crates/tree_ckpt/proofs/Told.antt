-- The low keys of the links that are known were brought by calls, or are those of pieces that were put: at most two for each call.
use Rattle.std.proofs.Common.{◌≡◌, ◌+◌, ◌*◌, ◌≤◌, ◌⊎◌, ℕ, List, [], ◌∷◌, ◌++◌, length, Option, Some, None, refl, sym, ap, subst, ◌∙◌, inl, inr, arith}
use Rattle.std.specs.Prelude.{map, drop}
use Rattle.std.proofs.lemmas.List.{length-append, length-map, length-reverse}
use Rattle.cloud_trait.specs.declared.answer.Answer.TheVariants as call
use Rattle.cloud_trait.specs.Ask.{GetHeld, Take}
use Rattle.db_base.specs.declared.names.Lock.TheVariants as lock
use Rattle.db_base.specs.declared.names.ObjName.TheVariants as object
use Rattle.node_codec.specs.Inner.{Inner, inner_of}
use Rattle.node_codec.specs.Tree.{Tree}
use Rattle.split_plan.specs.Part.{Part}
use Rattle.split_plan.specs.Plan.{put_of, entry_of, on_pages}
use Rattle.tree_phases.specs.Kept.{links_at}
use Rattle.tree_ckpt.specs.Causes.{Calls, WasGot}
use Rattle.tree_ckpt.specs.Working.{IsAmong, done_over, page_puts, reserved_before, puts_of, PutsPieces, form_of, Outcome, Planned, Spared, Passed, Visit, placing_of, held_over, visits_over, IsTurn, AreTurns, IsLeft, AreVisits, links_from, links_behind, Climb, climbs_over, links_above, AreClimbs}
use Rattle.tree_ckpt.proofs.Words.{Answer, Ask, Claim, NewEntry, PagePut, Placing, Link, Taken}
use Rattle.tree_ckpt.proofs.Added.{AreWithin}
use Rattle.tree_ckpt.proofs.Entries.{among_front, among_back, among_either}

-- the low keys of links are among a few, at most two for each of so many calls
pub record AreTold (links : List Link) (calls : ℕ) : Type 0 where
  pub lows : List (List ℕ)
  pub within : AreWithin lows links
  pub few : length lows ≤ 2 * calls

-- ---- high keys of nodes that were got

abbrev one_of : Option (List ℕ) → List (List ℕ)
one_of (Some high) = high ∷ []
one_of None = []

abbrev high_of : Option Inner → List (List ℕ)
high_of (Some n) = one_of n.high
high_of None = []

abbrev high_got : Option (List ℕ) → List (List ℕ)
high_got (Some bytes) = high_of (inner_of bytes)
high_got None = []

abbrev high_in : Answer → List (List ℕ)
high_in (call.Got got) = high_got got
high_in a = []

abbrev highs : Calls → List (List ℕ)
highs [] = []
highs (c ∷ cs) = high_in c.1 ++ highs cs

one_high : (a : Answer) → length (high_in a) ≤ 1
one_high (call.Got (Some bytes)) = on (inner_of bytes) where
  in_node : (high : Option (List ℕ)) → length (one_of high) ≤ 1
  in_node (Some high) = omega arith
  in_node None = omega arith

  on : (n : Option Inner) → length (high_of n) ≤ 1
  on (Some n) = in_node n.high
  on None = omega arith
one_high (call.Got None) = omega arith
one_high a = omega arith

few_highs : (cs : Calls) → length (highs cs) ≤ length cs
few_highs [] = omega arith
few_highs (c ∷ cs) =
    let both = length-append (high_in c.1) (highs cs) in
    let one = one_high c.1 in
    let rest = few_highs cs in
    omega (arith, both, one, rest)

high_told : (tree page : ℕ) (bytes : List ℕ) (n : Inner) (low : List ℕ) (cs : Calls) → inner_of bytes ≡ Some n → n.high ≡ Some low → WasGot (object.Page tree page) (Some bytes) cs
    → IsAmong low (highs cs)
high_told tree page bytes n low [] reads high got = absurd got
high_told tree page bytes n low (c ∷ cs) reads high (inr got) = among_back low (high_in c.1) (highs cs) (high_told tree page bytes n low cs reads high got)
high_told tree page bytes n low (c ∷ cs) reads high (inl b) =
    among_front low (high_in c.1) (highs cs)
    (subst (λ (x : Ask × Answer). IsAmong low (high_in x.1)) (sym b.1)
    (subst (λ (o : Option Inner). IsAmong low (high_of o)) (sym reads) (subst (λ (o : Option (List ℕ)). IsAmong low (one_of o)) (sym high) (inl refl))))

turn_told : (tree : ℕ) (cs : Calls) (l : Link) → IsTurn tree cs l → IsAmong l.low (highs cs)
turn_told tree cs l t = high_told tree t.0 t.2.0 t.1 l.low cs t.2.1 t.4.0 t.2.2

turns_told : (tree : ℕ) (cs : Calls) (ls : List Link) → AreTurns tree cs ls → AreWithin (highs cs) ls
turns_told tree cs [] are l is = absurd is
turns_told tree cs (x ∷ ls) are l (inl same) = subst (λ (y : Link). IsAmong y.low (highs cs)) same (turn_told tree cs x are.0)
turns_told tree cs (x ∷ ls) are l (inr is) = turns_told tree cs ls are.1 l is

-- ---- calls that were made since

done_keeps : (low : List ℕ) (asks : List Ask) (rest : Calls) → IsAmong low (highs rest) → IsAmong low (highs (done_over asks rest))
done_keeps low [] rest is = is
done_keeps low (ask ∷ asks) rest is = done_keeps low asks ((ask, call.Done) ∷ rest) is

looks_keep : (low : List ℕ) (looks rest : Calls) → IsAmong low (highs rest) → IsAmong low (highs (looks ++ rest))
looks_keep low [] rest is = is
looks_keep low (c ∷ looks) rest is = among_back low (high_in c.1) (highs (looks ++ rest)) (looks_keep low looks rest is)

pub done_many : (asks : List Ask) (rest : Calls) → length (done_over asks rest) ≡ length asks + length rest
done_many [] rest = omega arith
done_many (ask ∷ asks) rest = let more = done_many asks ((ask, call.Done) ∷ rest) in omega (arith, more)

puts_many : (tree : ℕ) (one : Claim) (two : Option Claim) (puts : List PagePut) → length (page_puts tree one two puts) ≡ length puts
puts_many tree one two [] = refl
puts_many tree one two (x ∷ puts) = let rest = puts_many tree one two puts in omega (arith, rest)

pub some_puts : (tree : ℕ) (one : Claim) (two : Option Claim) (p : Placing) → length p.puts ≤ length (puts_of tree one two p)
some_puts tree one two p = on p.reserved (puts_many tree one two p.puts) where
  on : (reserved : Option (List ℕ)) → length (page_puts tree one two p.puts) ≡ length p.puts
      → length p.puts ≤ length (reserved_before tree one reserved (page_puts tree one two p.puts))
  on (Some bytes) many = omega (arith, many)
  on None many = omega (arith, many)

-- ---- new pieces

abbrev low_of : NewEntry → List ℕ
low_of e = e.low

piece_told : (level : ℕ) (es : List NewEntry) (l : Link) → IsAmong l (links_at level es) → IsAmong l.low (map low_of es)
piece_told level [] l is = absurd is
piece_told level (e ∷ es) l (inl same) = inl (ap (λ (x : Link). x.low) same)
piece_told level (e ∷ es) l (inr is) = inr (piece_told level es l is)

fewer_first : {X : Type 0} (xs : List X) → length (drop 1 xs) ≤ length xs
fewer_first [] = omega arith
fewer_first (x ∷ xs) = omega arith

-- there are no more of them than pages that are put
few_pieces : {A X : Type 0} (key : A → List ℕ) (bytes : Part A X → List ℕ) (root : Tree) (page : ℕ) (whole : Part A X) (placing : Placing) (named : List NewEntry)
    → PutsPieces (form_of key bytes) root page whole placing named → length (map low_of named) ≤ length placing.puts
few_pieces {A} {X} key bytes root page whole placing named p =
    let pages : List (ℕ × Part A X) = on_pages page p.first p.pieces in
    let lows = length-map named low_of in
    let entries : length named ≡ length (drop 1 (map entry_of pages)) = ap (λ (es : List NewEntry). length es) p.entries in
    let fewer = fewer_first (map entry_of pages) in
    let of_pages = length-map pages entry_of in
    let puts : length placing.puts ≡ length pages =
    ap (λ (xs : List PagePut). length xs) p.puts ∙ (length-reverse (map (put_of bytes) pages) ∙ length-map pages (put_of bytes)) in
    omega (arith, lows, entries, fewer, of_pages, puts)

-- ---- visits

abbrev lows_of : Outcome → List (List ℕ)
lows_of (Planned p) = map low_of p.entries
lows_of Spared = []
lows_of (Passed link) = link.low ∷ []

abbrev leaf_lows : List Visit → List (List ℕ)
leaf_lows [] = []
leaf_lows (v ∷ vs) = lows_of v.outcome ++ leaf_lows vs

abbrev visit_lows : ℕ → Claim → List Visit → List (List ℕ)
visit_lows tree one vs = highs (visits_over tree one vs []) ++ leaf_lows vs

module _ (tree : ℕ) (one : Claim) (run : Taken) (got : Option (List ℕ)) where
  -- what was told before a visit is told behind it
  visit_keeps : (v : Visit) (vs : List Visit) (low : List ℕ) → IsAmong low (highs (v.looks ++ visits_over tree one vs [])) → IsAmong low (highs (visits_over tree one (v ∷ vs) []))
  visit_keeps v vs low is =
      among_back low (high_in v.freed) (highs (held_over tree one v (visits_over tree one vs [])))
      (done_keeps low (puts_of tree one (Some v.lease) (placing_of v.outcome))
      ((GetHeld (object.Page tree v.page) v.lease, call.Got v.got) ∷ (Take (lock.Page tree v.page) 30, call.Given v.lease) ∷ v.looks ++ visits_over tree one vs [])
      (among_back low (high_in (call.Got v.got)) (highs (v.looks ++ visits_over tree one vs [])) is))

  old_told : (v : Visit) (vs : List Visit) (low : List ℕ) → IsAmong low (visit_lows tree one vs) → IsAmong low (visit_lows tree one (v ∷ vs))
  old_told v vs low is = on (among_either low (highs (visits_over tree one vs [])) (leaf_lows vs) is) where
    on : IsAmong low (highs (visits_over tree one vs [])) ⊎ IsAmong low (leaf_lows vs) → IsAmong low (visit_lows tree one (v ∷ vs))
    on (inl high) =
        among_front low (highs (visits_over tree one (v ∷ vs) [])) (leaf_lows (v ∷ vs))
        (visit_keeps v vs low (looks_keep low v.looks (visits_over tree one vs []) high))
    on (inr leaf) = among_back low (highs (visits_over tree one (v ∷ vs) [])) (leaf_lows (v ∷ vs)) (among_back low (lows_of v.outcome) (leaf_lows vs) leaf)

  new_told : (v : Visit) (vs : List Visit) (low : List ℕ) → IsAmong low (lows_of v.outcome) → IsAmong low (visit_lows tree one (v ∷ vs))
  new_told v vs low is = among_back low (highs (visits_over tree one (v ∷ vs) [])) (leaf_lows (v ∷ vs)) (among_front low (lows_of v.outcome) (leaf_lows vs) is)

  outcome_told : (v : Visit) (vs : List Visit) (outcome : Outcome) → ((low : List ℕ) → IsAmong low (lows_of outcome) → IsAmong low (visit_lows tree one (v ∷ vs)))
      → (links : List Link) → AreWithin (visit_lows tree one (v ∷ vs)) links → AreWithin (visit_lows tree one (v ∷ vs)) (links_from outcome links)
  outcome_told v vs (Planned p) new links old l is = on (among_either l links (links_at 1 p.entries) is) where
    on : IsAmong l links ⊎ IsAmong l (links_at 1 p.entries) → IsAmong l.low (visit_lows tree one (v ∷ vs))
    on (inl there) = old l there
    on (inr piece) = new l.low (piece_told 1 p.entries l piece)
  outcome_told v vs Spared new links old l is = old l is
  outcome_told v vs (Passed link) new links old l is = on (among_either l links (link ∷ []) is) where
    on : IsAmong l links ⊎ IsAmong l (link ∷ []) → IsAmong l.low (visit_lows tree one (v ∷ vs))
    on (inl there) = old l there
    on (inr (inl same)) = new l.low (inl (ap (λ (x : Link). x.low) same))
    on (inr (inr never)) = absurd never

  pub visits_told : (vs : List Visit) → AreVisits tree one run got vs → AreWithin (visit_lows tree one vs) (links_behind vs)
  visits_told [] are = λ l is. absurd is
  visits_told (v ∷ vs) are = outcome_told v vs v.outcome (new_told v vs) (links_behind vs ++ v.turns) (both (visits_told vs are.1)) where
    both : AreWithin (visit_lows tree one vs) (links_behind vs) → AreWithin (visit_lows tree one (v ∷ vs)) (links_behind vs ++ v.turns)
    both before l is = on (among_either l (links_behind vs) v.turns is) where
      on : IsAmong l (links_behind vs) ⊎ IsAmong l v.turns → IsAmong l.low (visit_lows tree one (v ∷ vs))
      on (inl there) = old_told v vs l.low (before l there)
      on (inr turn) =
          among_front l.low (highs (visits_over tree one (v ∷ vs) [])) (leaf_lows (v ∷ vs))
          (visit_keeps v vs l.low (turns_told tree (v.looks ++ visits_over tree one vs []) v.turns are.0.turns l turn))

  few_lows : (root : Option (List ℕ)) (v : Visit) (outcome : Outcome) → IsLeft run root v.page v.leaf outcome → length (lows_of outcome) ≤ length (puts_of tree one (Some v.lease) (placing_of outcome)) + 1
  few_lows root v (Planned p) left =
      let few = few_pieces _ _ _ _ _ p.placing p.entries left.1 in
      let some = some_puts tree one (Some v.lease) p.placing in
      omega (arith, few, some)
  few_lows root v Spared left = omega arith
  few_lows root v (Passed link) left = omega arith

  few_leaf_lows : (vs : List Visit) → AreVisits tree one run got vs → length (leaf_lows vs) ≤ length (visits_over tree one vs [])
  few_leaf_lows [] are = omega arith
  few_leaf_lows (v ∷ vs) are =
      let both = length-append (lows_of v.outcome) (leaf_lows vs) in
      let own = few_lows _ v v.outcome are.0.left in
      let rest = few_leaf_lows vs are.1 in
      let looks = length-append v.looks (visits_over tree one vs []) in
      let puts = done_many (puts_of tree one (Some v.lease) (placing_of v.outcome))
      ((GetHeld (object.Page tree v.page) v.lease, call.Got v.got) ∷ (Take (lock.Page tree v.page) 30, call.Given v.lease) ∷ v.looks ++ visits_over tree one vs []) in
      omega (arith, both, own, rest, looks, puts)

  -- ---- the way up

  abbrev node_lows : List Climb → List (List ℕ)
  node_lows [] = []
  node_lows (u ∷ us) = map low_of u.plan.entries ++ node_lows us

  climbs_told : (cs : Calls) (root : Option (List ℕ)) (lows : List (List ℕ)) (links : List Link) (us : List Climb) → AreWithin lows links
      → AreWithin (lows ++ node_lows us) (links_above links us)
  climbs_told cs root lows links [] within l is = among_front l.low lows [] (within l is)
  climbs_told cs root lows links (u ∷ us) within l is =
      on (among_either l (links_above links us) (links_at (u.node.level + 1) u.plan.entries) is) (climbs_told cs root lows links us within l) where
        old : IsAmong l.low lows ⊎ IsAmong l.low (node_lows us) → IsAmong l.low (lows ++ node_lows (u ∷ us))
        old (inl there) = among_front l.low lows (node_lows (u ∷ us)) there
        old (inr there) = among_back l.low lows (node_lows (u ∷ us)) (among_back l.low (map low_of u.plan.entries) (node_lows us) there)

        on : IsAmong l (links_above links us) ⊎ IsAmong l (links_at (u.node.level + 1) u.plan.entries)
            → (IsAmong l (links_above links us) → IsAmong l.low (lows ++ node_lows us)) → IsAmong l.low (lows ++ node_lows (u ∷ us))
        on (inl there) rest = old (among_either l.low lows (node_lows us) (rest there))
        on (inr piece) rest =
            among_back l.low lows (node_lows (u ∷ us))
            (among_front l.low (map low_of u.plan.entries) (node_lows us) (piece_told (u.node.level + 1) u.plan.entries l piece))

  few_node_lows : (cs : Calls) (root : Option (List ℕ)) (links : List Link) (below : Calls) (us : List Climb) → AreClimbs tree cs root links us
      → length (node_lows us) + length below ≤ length (climbs_over tree one us below)
  few_node_lows cs root links below [] are = omega arith
  few_node_lows cs root links below (u ∷ us) are =
      let both = length-append (map low_of u.plan.entries) (node_lows us) in
      let few = few_pieces _ _ _ _ _ u.plan.placing u.plan.entries are.3.2 in
      let some = some_puts tree one None u.plan.placing in
      let puts = done_many (puts_of tree one None u.plan.placing) (climbs_over tree one us below) in
      let rest = few_node_lows cs root links below us are.4 in
      omega (arith, both, few, some, puts, rest)

  pub up_told : (vs : List Visit) (us : List Climb) → AreVisits tree one run got vs → (cs : Calls) (root : Option (List ℕ)) → AreClimbs tree cs root (links_behind vs) us
      → AreTold (links_above (links_behind vs) us) (length (climbs_over tree one us (visits_over tree one vs [])))
  up_told vs us are cs root climbs = record {
    lows = visit_lows tree one vs ++ node_lows us;
    within = climbs_told cs root (visit_lows tree one vs) (links_behind vs) us (visits_told vs are);
    few =
        let both = length-append (visit_lows tree one vs) (node_lows us) in
        let visits = length-append (highs (visits_over tree one vs [])) (leaf_lows vs) in
        let high = few_highs (visits_over tree one vs []) in
        let leaf = few_leaf_lows vs are in
        let node = few_node_lows cs root (links_behind vs) (visits_over tree one vs []) us climbs in
        omega (arith, both, visits, high, leaf, node);
  }
