-- What a step of a look-up means by the whole run: at its end the records are found in the leaves at which its walks ended.
use Rattle.std.proofs.Common.{◌≡◌, ℕ, Bool, true, false, List, [], ◌∷◌, ◌++◌, Option, Some, None, unwrap_or, append_assoc, append-nil, refl, ap, sym, subst, ◌∙◌}
use Rattle.std.specs.Prelude.{if◌then◌else◌}
use Rattle.std.specs.List.{AllByRecursion}
use Rattle.byte_format.specs.Order.{below_bound}
use Rattle.db_base.specs.Ids.{index_of}
use Rattle.db_base.specs.declared.names.ObjName.TheVariants as object
use Rattle.attr_index.proofs.Words.{Stage, Index, Records, Caller, Deed, Ends, Goes, Next, Stops, Seen, Turn, Ended, More, Stopped, Pair, Leaf, holds}
use Rattle.cloud_trait.specs.declared.answer.Answer.{Answer}
use Rattle.cloud_trait.specs.Ask.{Get}
use Rattle.cloud_trait.specs.Machine.{LeadsBy, Took, IsMade}
use Rattle.page_cache.specs.Cache.{Cache}
use Rattle.page_cache.specs.Held.{leaf_at}
use Rattle.tree_walk.specs.Moves.{Moves}
use Rattle.tree_walk.specs.Stepped.{Stepped as StepsWalk}
use Rattle.tree_walk.specs.Walk.{Walk, IsWalk, IsAtLeaf, sought, new_walk, walk_ready, walk_next}
use Rattle.tree_walk.specs.Walk.{KeepsServed as KeepsWalked}
use Rattle.tree_walk.proofs.Leaves.{ends_at}
use Rattle.tree_walk.proofs.Served.{IsServedBy, end_served}
use Rattle.tree_walk.proofs.Stays.{WalksBeside, next_walks, ready_walks}
use Rattle.range_scan.specs.Meaning.{IsGot, IsPast}
use Rattle.range_scan.proofs.Meaning.{served_by}
use Rattle.attr_index.specs.Look.{Query, Own, Look, look_asks, bound_of, set_out, walks, new_look, look_ready, to_first, keys_in, behind_leaf, with_keys, found_in_leaf, with_found, leaf_read_at, leaf_read, walked_by, walked, look_next}
use Rattle.attr_index.specs.Meaning.{Visit, leaf_of, leaf_by, visited, Looked, tree_at, IsVisit, Continues, AreMeeting, EndsPast, IsOfStage, listed_of, found_of, AreAscending, IsFound}
use Rattle.attr_index.specs.Stepped.{deed_of, Means}
use Rattle.attr_index.proofs.Ascents.{each_by, each_back, Ascends}
use Rattle.attr_index.proofs.Listings.{HoldsKey, listed_ascend, read_of, read_more, found_are_ascending}

-- ---- what holds of a look-up

-- the leaves are of the index and meet, and what they list is all that it has
pub record IsListing (q : Query) (own : Own) (vs : List Visit) (keys : List (List ℕ)) (pairs : List Pair) : Type 0 where
  pub of_index : AllByRecursion (IsOfStage Index) vs
  pub meeting : AreMeeting q vs
  pub listed : keys ≡ listed_of q own vs
  pub none_found : pairs ≡ []

-- the leaves of the index are all there; of the records that they list these are to be read still, and those before them were read
pub record IsReading (q : Query) (own : Own) (vs : List Visit) (keys : List (List ℕ)) (pairs : List Pair) : Type 0 where
  pub index : List Visit
  pub records : List Visit
  pub are : vs ≡ records ++ index
  pub of_index : AllByRecursion (IsOfStage Index) index
  pub of_records : AllByRecursion (IsOfStage Records) records
  pub meeting : AreMeeting q index
  pub past : EndsPast q index
  pub listed : read_of records ++ keys ≡ listed_of q own index
  pub found : pairs ≡ found_of q own records

-- by what its walk is for, and the key to which that leads
abbrev pub IsAmid : Query → Own → List Visit → Stage → List ℕ → List (List ℕ) → List Pair → Type 0
IsAmid q own vs Index key keys pairs = IsListing q own vs keys pairs × Continues q key vs
IsAmid q own vs Records key keys pairs = IsReading q own vs (key ∷ keys) pairs

pub record Holds (q : Query) (own : Own) (vs : List Visit) (l : Look) : Type 0 where
  pub query : l.query ≡ q
  pub tree : l.walk.tree ≡ tree_at q l.stage
  pub walk : IsWalk l.walk
  pub each : AllByRecursion (IsVisit q) vs
  pub amid : IsAmid q own vs l.stage (sought l.walk) l.listed l.pairs

-- .. where it goes on, and what its end is
abbrev pub Leads : Query → Own → List Visit → Next (Look × Cache) (Unit {0}) → Type 0
Leads q own vs (Goes n) = Holds q own vs n.0
Leads q own vs (Ends n done) = IsFound q own vs n.0.pairs
Leads q own vs (Stops n t) = Unit {0}

-- ---- setting out

walks_leads : (q : Query) (own : Own) (vs : List Visit) (l : Look) (tree : ℕ) (key : List ℕ) (c : Cache) → l.query ≡ q → tree ≡ tree_at q l.stage
    → AllByRecursion (IsVisit q) vs → IsAmid q own vs l.stage key l.listed l.pairs → Leads q own vs (walks l (new_walk tree (Some key) false) c)
walks_leads q own vs l tree key c query at each amid = on (walk_ready (new_walk tree (Some key) false, c)) (ready_walks tree (Some key) false c) where
  on : (x : Next (Walk × Cache) ℕ) → WalksBeside tree (Some key) x → Leads q own vs (set_out l x)
  on (Goes m) (ok, to) =
      let same : key ≡ sought m.0 = sym (ap (λ (o : Option (List ℕ)). unwrap_or o []) to.1) in
      let now = subst (λ (k : List ℕ). IsAmid q own vs l.stage k l.listed l.pairs) same amid in
      record { query = query; tree = to.0 ∙ at; walk = ok; each = each; amid = now }
  on (Ends m page) to = tt
  on (Stops m t) to = tt

ready_leads : (q : Query) (own : Own) (c : Cache) → Leads q own [] (look_ready q c)
ready_leads q own c =
    walks_leads q own [] (new_look q) _ _ c refl refl tt (record { of_index = tt; meeting = tt; listed = refl; none_found = refl }, refl)

-- all is read: what was found ascends as what the index lists
is_found : (q : Query) (own : Own) (vs : List Visit) (pairs : List Pair) → AllByRecursion (IsVisit q) vs → IsReading q own vs [] pairs
    → IsFound q own vs pairs
is_found q own vs pairs each r =
    let listed : read_of r.records ≡ listed_of q own r.index = sym (append-nil (read_of r.records)) ∙ r.listed in
    let visits : AllByRecursion (IsVisit q) r.index = each_back (IsVisit q) r.records r.index (subst (AllByRecursion (IsVisit q)) r.are each) in
    let held : AllByRecursion HoldsKey r.index = each_by (IsVisit q) HoldsKey (λ v h. h.holds_key) r.index visits in
    let up : Ascends (λ k. k) (read_of r.records) = subst (Ascends (λ k. k)) (sym listed) (listed_ascend q own r.index r.meeting held) in
    record {
      index = r.index;
      records = r.records;
      are = r.are;
      of_index = r.of_index;
      of_records = r.of_records;
      each = each;
      meeting = r.meeting;
      past = r.past;
      listed = listed;
      found = r.found;
      ascending = subst AreAscending (sym r.found) (found_are_ascending q own r.records up);
    }

to_first_leads : (q : Query) (own : Own) (vs : List Visit) (l : Look) (keys : List (List ℕ)) (c : Cache) → l.query ≡ q → AllByRecursion (IsVisit q) vs
    → IsReading q own vs keys l.pairs → Leads q own vs (to_first l keys c)
to_first_leads q own vs l [] c query each reading = is_found q own vs l.pairs each reading
to_first_leads q own vs l (key ∷ keys) c query each reading =
    walks_leads q own vs (record l { stage = Records; listed = keys }) l.query.tree key c query (ap (λ (x : Query). x.tree) query) each reading

-- ---- behind a leaf

-- the index is all there
now_reading : (q : Query) (own : Own) (vs : List Visit) (keys : List (List ℕ)) (pairs : List Pair) → IsListing q own vs keys pairs → EndsPast q vs
    → IsReading q own vs keys pairs
now_reading q own vs keys pairs h past = record {
  index = vs;
  records = [];
  are = refl;
  of_index = h.of_index;
  of_records = tt;
  meeting = h.meeting;
  past = past;
  listed = h.listed;
  found = h.none_found;
}

past_leads : (q : Query) (own : Own) (v : Visit) (vs : List Visit) (l : Look) (high : Option (List ℕ)) (c : Cache) → l.query ≡ q → v.leaf.high ≡ high
    → AllByRecursion (IsVisit q) (v ∷ vs) → IsListing q own (v ∷ vs) l.listed l.pairs → IsPast (bound_of q) high
    → Leads q own (v ∷ vs) (to_first l l.listed c)
past_leads q own v vs l high c query at each listing past =
    let ends : EndsPast q (v ∷ vs) = subst (IsPast (bound_of q)) (sym at) past in
    to_first_leads q own (v ∷ vs) l l.listed c query each (now_reading q own (v ∷ vs) l.listed l.pairs listing ends)

-- .. or one more leaf of it follows
behind_leads : (q : Query) (own : Own) (v : Visit) (vs : List Visit) (l : Look) (high : Option (List ℕ)) (c : Cache) → l.query ≡ q → l.stage ≡ Index
    → v.leaf.high ≡ high → AllByRecursion (IsVisit q) (v ∷ vs) → IsListing q own (v ∷ vs) l.listed l.pairs
    → Leads q own (v ∷ vs) (behind_leaf l high c)
behind_leads q own v vs l None c query at high each listing = past_leads q own v vs l None c query high each listing tt
behind_leads q own v vs l (Some key) c query at high each listing = on (below_bound key (bound_of l.query)) same where
  same : below_bound key (bound_of q) ≡ below_bound key (bound_of l.query)
  same = ap (λ (x : Query). below_bound key (bound_of x)) (sym query)

  tree : index_of l.query.tree ≡ tree_at q l.stage
  tree = ap (λ (x : Query). index_of x.tree) query ∙ ap (tree_at q) (sym at)

  on : (b : Bool) → below_bound key (bound_of q) ≡ b
      → Leads q own (v ∷ vs) (if b then walks l (new_walk (index_of l.query.tree) (Some key) false) c else to_first l l.listed c)
  on true is =
      let amid : IsAmid q own (v ∷ vs) Index key l.listed l.pairs = (listing, (high, is)) in
      let now = subst (λ (s : Stage). IsAmid q own (v ∷ vs) s key l.listed l.pairs) (sym at) amid in
      walks_leads q own (v ∷ vs) l (index_of l.query.tree) key c query tree each now
  on false is = past_leads q own v vs l (Some key) c query high each listing is

abbrev visit_at : Stage → List ℕ → Deed → Leaf → Visit
visit_at stage key d leaf = record { stage = stage; key = key; deed = d; leaf = leaf }

leaf_leads : (q : Query) (own : Own) (vs : List Visit) (stage : Stage) (key : List ℕ) (d : Deed) (leaf : Leaf) (l : Look) (c : Cache) → l.query ≡ q
    → l.stage ≡ stage → sought l.walk ≡ key → IsVisit q (visit_at stage key d leaf) → AllByRecursion (IsVisit q) vs
    → IsAmid q own vs stage key l.listed l.pairs → Leads q own (visit_at stage key d leaf ∷ vs) (leaf_read_at stage l own leaf c)
leaf_leads q own vs Index key d leaf l c query at led visit each (listing, continues) =
    behind_leads q own (visit_at Index key d leaf) vs (with_keys l own leaf) leaf.high c query at refl (visit, each) (record {
      of_index = (refl, listing.of_index);
      meeting = (continues, listing.meeting);
      listed = ap (λ (keys : List (List ℕ)). keys ++ keys_in l.query own (sought l.walk) leaf) listing.listed
          ∙ (ap (λ (x : Query). listed_of q own vs ++ keys_in x own (sought l.walk) leaf) query
          ∙ ap (λ (k : List ℕ). listed_of q own vs ++ keys_in q own k leaf) led);
      none_found = listing.none_found;
    })
leaf_leads q own vs Records key d leaf l c query at led visit each reading =
    let v : Visit = visit_at Records key d leaf in
    to_first_leads q own (v ∷ vs) (with_found l own leaf) l.listed c query (visit, each) (record {
      index = reading.index;
      records = v ∷ reading.records;
      are = ap (λ (xs : List Visit). v ∷ xs) reading.are;
      of_index = reading.of_index;
      of_records = (refl, reading.of_records);
      meeting = reading.meeting;
      past = reading.past;
      listed = ap (λ (keys : List (List ℕ)). keys ++ l.listed) (read_more v reading.records)
          ∙ (append_assoc (read_of reading.records) (key ∷ []) l.listed ∙ reading.listed);
      found = ap (λ (pairs : List Pair). pairs ++ found_in_leaf l.query own (sought l.walk) leaf) reading.found
          ∙ (ap (λ (x : Query). found_of q own reading.records ++ found_in_leaf x own (sought l.walk) leaf) query
          ∙ ap (λ (k : List ℕ). found_of q own reading.records ++ found_in_leaf q own k leaf) led);
    })

-- ---- a call

-- the leaf at which its walk ended is the one that the call served, and holds the key
is_visit : (q : Query) (m : Look × Cache) (d : Deed) (n : Walk × Cache) (page : ℕ) (served : IsServedBy m.0.walk d.answer n page) → IsMade d
    → d.ask ≡ look_asks m → n.0.tree ≡ tree_at q m.0.stage → sought n.0 ≡ sought m.0.walk → IsAtLeaf n.0 n.1 page
    → IsVisit q (visit_at m.0.stage (sought m.0.walk) d served.leaf)
is_visit q m d n page served made asked tree same at =
    let kept : ◌≡◌ {A = Option Leaf} (Some at.leaf) (Some served.leaf) = sym at.kept ∙ (ap (leaf_at n.1) (sym at.in_hand) ∙ served.kept) in
    let leaf : at.leaf ≡ served.leaf = cc (kept) in
    let got : IsGot (tree_at q m.0.stage) d.ask d.answer served.leaf =
    record {
      page = page;
      got = served.bytes;
      asked = asked ∙ (served.asked ∙ ap (λ (t : ℕ). Get (object.Page t page)) tree);
      answered = served.answered;
      spelled = served.spelled;
    } in
    record {
      served = served_by (tree_at q m.0.stage) d served.leaf made got;
      holds_key = subst (λ (k : List ℕ). holds served.leaf k ≡ true) same (subst (λ (x : Leaf). holds x (sought n.0) ≡ true) leaf at.holds);
    }

next_leads : (q : Query) (own : Own) (vs : List Visit) (m : Look × Cache) (d : Deed) → Holds q own vs m.0 → d.ask ≡ look_asks m → IsMade d
    → Leads q own (visited m.0 d (leaf_by m d) vs) (look_next own m d.answer)
next_leads q own vs m d h asked made = on (walk_next (m.0.walk, m.1) d.answer) refl stays where
  stays : WalksBeside (tree_at q m.0.stage) m.0.walk.key (walk_next (m.0.walk, m.1) d.answer)
  stays = next_walks (tree_at q m.0.stage) m.0.walk.key (m.0.walk, m.1) d.answer (h.tree, refl)

  sought_by : (w : Walk) → w.key ≡ m.0.walk.key → sought w ≡ sought m.0.walk
  sought_by w same = ap (λ (o : Option (List ℕ)). unwrap_or o []) same

  on : (x : Next (Walk × Cache) ℕ) → walk_next (m.0.walk, m.1) d.answer ≡ x → WalksBeside (tree_at q m.0.stage) m.0.walk.key x
      → Leads q own (visited m.0 d (leaf_of x) vs) (walked m.0 own x)
  on (Goes n) is (ok, to) = record {
    query = h.query;
    tree = to.0;
    walk = ok;
    each = h.each;
    amid = subst (λ (k : List ℕ). IsAmid q own vs m.0.stage k m.0.listed m.0.pairs) (sym (sought_by n.0 to.1)) h.amid;
  }
  on (Ends n page) is to =
      let served : IsServedBy m.0.walk d.answer n page = end_served (m.0.walk, m.1) n d.answer page h.walk is in
      let visit = is_visit q m d n page served made asked to.0 (sought_by n.0 to.1) (ends_at (m.0.walk, m.1) n d.answer page h.walk is) in
      let now : Look = record m.0 { walk = n.0 } in
      subst (λ (o : Option Leaf). Leads q own (visited m.0 d o vs) (leaf_read now own o n.1)) (sym served.kept)
      (leaf_leads q own vs m.0.stage (sought m.0.walk) d served.leaf now n.1 h.query refl (sought_by n.0 to.1) visit h.each h.amid)
  on (Stops n t) is to = tt

-- ---- the whole run

pub looked_holds : (q : Query) (own : Own) (h : List Deed) (vs : List Visit) (m : Look × Cache) → Looked q own h vs m → Holds q own vs m.0
looked_holds q own [] vs m (c, none, ready) =
    subst (λ (xs : List Visit). Holds q own xs m.0) (sym none) (subst (Leads q own []) ready (ready_leads q own c))
looked_holds q own (d ∷ h) vs m (from, before, came, asked, made, goes, are) =
    let leads = next_leads q own before from d (looked_holds q own h before from came) asked made in
    subst (λ (xs : List Visit). Holds q own xs m.0) (sym are) (subst (Leads q own (visited from.0 d (leaf_by from d) before)) goes leads)

-- a step of its walk, and what it went on to from there, is where the answer leads
pub look_moves : (own : Own) (old new : Look × Cache) (turn : Turn (Unit {0})) (a : Answer) (walk : Walk × Cache) (moved : Turn ℕ)
    → Took (LeadsBy walk_next) KeepsWalked (old.0.walk, old.1) a walk moved → Moves (walked_by old.0 own walk moved) new turn
    → Moves (look_next own old a) new turn
look_moves own old new turn a walk More took goes = subst (λ (x : Next (Walk × Cache) ℕ). Moves (walked old.0 own x) new turn) (sym took) goes
look_moves own old new turn a walk (Ended page) took goes =
    subst (λ (x : Next (Walk × Cache) ℕ). Moves (walked old.0 own x) new turn) (sym took) goes
look_moves own old new More a walk (Stopped t) took goes = absurd (cc (goes))
look_moves own old new (Ended done) a walk (Stopped t) took goes = absurd (cc (goes))
look_moves own old new (Stopped u) a walk (Stopped t) took goes = λ other.
    let stops = goes other in
    let same : t ≡ u = cc (stops) in
    ap (walked old.0 own) (took.0 (λ memory. other (sym same ∙ memory))) ∙ stops

pub meant : (own : Own) (who : Caller) (before after : Seen) (old new : Look × Cache) (turn : Turn (Unit {0})) (walk : Walk × Cache) (moved : Turn ℕ)
    → (walked : StepsWalk who before after (old.0.walk, old.1) walk moved) → Moves (walked_by old.0 own walk moved) new turn
    → (q : Query) (h : List Deed) (vs : List Visit) → Looked q own h vs old
    → (let d : Deed = deed_of who old walked.answer before after in Means q own (visited old.0 d (leaf_by old d) vs) new.0 turn)
meant own who before after old new turn walk moved walked goes q h vs came =
    on turn (look_moves own old new turn walked.answer walk moved walked.took goes)
  where
    d : Deed
    d = deed_of who old walked.answer before after

    leads : Leads q own (visited old.0 d (leaf_by old d) vs) (look_next own old d.answer)
    leads = next_leads q own vs old d (looked_holds q own h vs old came) refl walked.made

    on : (t : Turn (Unit {0})) → Moves (look_next own old walked.answer) new t → Means q own (visited old.0 d (leaf_by old d) vs) new.0 t
    on More is =
        let stays : Holds q own (visited old.0 d (leaf_by old d) vs) new.0 = subst (Leads q own (visited old.0 d (leaf_by old d) vs)) is leads in
        stays.query
    on (Ended done) is = subst (Leads q own (visited old.0 d (leaf_by old d) vs)) is leads
    on (Stopped t) is = tt
