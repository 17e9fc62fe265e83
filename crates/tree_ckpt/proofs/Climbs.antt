-- How the work of a tree checkpoint goes up.
use Rattle.std.proofs.Common.{◌≡◌, ◌≤◌, ◌+◌, ℕ, Bool, true, false, List, [], ◌∷◌, ◌++◌, length, Option, Some, None, Result, Ok, Err, refl, sym, ap, subst, ◌∙◌, inl, inr, arith}
use Rattle.std.specs.Prelude.{◌==◌, ◌||◌, ◌&&◌, drop, not, is_some, slice_get, unwrap_or}
use Rattle.std.specs.List.{AllByRecursion}
use Rattle.db_base.specs.declared.names.ObjName.TheVariants as object
use Rattle.db_base.specs.declared.names.QueueName.TheVariants as queue
use Rattle.cloud_trait.specs.declared.answer.Answer.TheVariants as call
use Rattle.cloud_trait.specs.Ask.{GetHeld, PutHeld, Receive}
use Rattle.tree_phases.specs.Kept.{links_at}
use Rattle.tree_phases.specs.Placing.{put_in_hand, landed_root, landed_placing, has_nothing}
use Rattle.tree_phases.specs.Read.{tree_held}
use Rattle.node_codec.specs.Inner.{Inner, inner_of}
use Rattle.node_codec.specs.Tree.{Tree}
use Rattle.tree_phases.specs.Nodes.{node_plan, is_touched, touched_at}
use Rattle.tree_phases.specs.Rising as rise
use Rattle.tree_ckpt.specs.Moves.{next_key}
use Rattle.tree_ckpt.specs.Work.{take_tree}
use Rattle.tree_ckpt.specs.Causes.{Calls, WasGot}
use Rattle.tree_ckpt.specs.Meaning.{Opening, opening_calls}
use Rattle.tree_ckpt.specs.Working.{done_over, puts_of, Visit, visits_over, root_behind, links_behind, looks_of, AreVisits, lacked_on, Climb, climbs_over, root_above, links_above, AreClimbs, HasLevel, PutsNode, raised_root, PutsRoot, IsAmong, IsUnder, link_to, leaf_place, node_place, IsInRange, IsNamed, HasClimbed, HasRisen, IsOfRoot, IsPut, Worked, worked_calls, IsWorked}
use Rattle.tree_ckpt.proofs.Words.{Trouble, Taken, Answer, Claim, Next, Goes, Ends, Stops, done_of, Ask, PagePut, Chart, KeptNode, Placing, Link, Rising, PagePlan, RootPlan}
use Rattle.tree_ckpt.proofs.Answers.{done_is}
use Rattle.tree_ckpt.proofs.Brought.{IsKeptNode, AreKept}
use Rattle.tree_ckpt.proofs.Covers.{AreHandled, all_handled}
use Rattle.tree_ckpt.proofs.Folds.{not_empty}
use Rattle.tree_ckpt.proofs.Pieces.{node_puts, root_puts}
use Rattle.tree_ckpt.proofs.RiseOutcomes.{IsRising, Rises, Lands, rises, lands}
use Rattle.tree_ckpt.proofs.RiseOutcomes as step
use Rattle.tree_ckpt.proofs.Rises.{kept_at}
use Rattle.tree_ckpt.proofs.Tours.{AreNoted, RestsAt, put_in_turn, none_left}
use Rattle.tree_ckpt.proofs.Named.{climbs_name, known_touches}
use Rattle.tree_ckpt.proofs.Above.{right_known, new_known, new_page, named_above, climb_holds, leaf_holds, news_named}
use Rattle.tree_ckpt.proofs.Under.{visits_level, climbs_level, followed_under, leaves_under, nodes_under}
use Rattle.tree_ckpt.proofs.Entries.{root_names}
use Rattle.tree_ckpt.proofs.Whole.{IsPlacedIn, PlacedTo, AllFrom, from_later, from_there, rising_from, none_placed, placed_next, placed_there, all_placed, noted_put}

-- ---- what was got was got by the work

got_at_work : (tree page : ℕ) (v : Option (List ℕ)) (of : ℕ) (lease : Claim) (o : Opening) (work : Calls)
    → WasGot (object.Page tree page) v (work ++ opening_calls of lease o) → WasGot (object.Page tree page) v work
got_at_work tree page v of lease o [] (inl b) =
    absurd (let e : Receive (queue.TreePu of) 256 ≡ GetHeld (object.Page tree page) b.0 = ap (λ (c : Ask × Answer). c.0) b.1 in cc (e))
got_at_work tree page v of lease o [] (inr (inl b)) =
    absurd (let e : GetHeld (object.Tree of) lease ≡ GetHeld (object.Page tree page) b.0 = ap (λ (c : Ask × Answer). c.0) b.1 in cc (e))
got_at_work tree page v of lease o [] (inr (inr (inl b))) =
    absurd (let e : take_tree of ≡ GetHeld (object.Page tree page) b.0 = ap (λ (c : Ask × Answer). c.0) b.1 in cc (e))
got_at_work tree page v of lease o [] (inr (inr (inr x))) = absurd x
got_at_work tree page v of lease o (c ∷ cs) (inl b) = inl b
got_at_work tree page v of lease o (c ∷ cs) (inr h) = inr (got_at_work tree page v of lease o cs h)

pub kept_at_work : (tree : ℕ) (ks : List KeptNode) (of : ℕ) (lease : Claim) (o : Opening) (work : Calls) → AreKept tree ks (work ++ opening_calls of lease o) → AreKept tree ks work
kept_at_work tree [] of lease o work h = tt
kept_at_work tree (k ∷ ks) of lease o work h = (
  (got_at_work tree k.page (Some k.bytes) of lease o work h.0.0, h.0.1),
  kept_at_work tree ks of lease o work h.1,
)

-- ---- what is known

-- the visits below, the nodes that they got, and the nodes that are planned
pub record Ups (lease : Claim) (tree : ℕ) (run : Taken) (count : ℕ) (nodes : List KeptNode) (found : List Link) (o : Opening) : Type 0 where
  pub visits : List Visit
  pub are : AreVisits tree lease run o.got visits
  pub applied : count ≡ lacked_on run visits
  pub covers : AreHandled run.items visits
  pub kept : AreKept tree nodes (visits_over tree lease visits [])
  pub noted : AreNoted tree (looks_of visits) nodes
  pub climbs : List Climb
  pub climbed : AreClimbs tree (visits_over tree lease visits []) (root_behind o.got visits) (links_behind visits) climbs
  pub linked : found ≡ links_above (links_behind visits) climbs

-- nodes that are put have no higher level than those from a place on
abbrev AreUnder : List Climb → List KeptNode → ℕ → Type 0
AreUnder climbs nodes at = AllByRecursion (λ u. AllFrom (λ k. u.node.level ≤ k.level) nodes at) climbs

under_later : (climbs : List Climb) (nodes : List KeptNode) (at more : ℕ) → AreUnder climbs nodes at → AreUnder climbs nodes (at + more)
under_later [] nodes at more h = tt
under_later (u ∷ us) nodes at more h = (from_later (λ k. u.node.level ≤ k.level) nodes at more h.0, under_later us nodes at more h.1)

all_under : (climbs : List Climb) (nodes : List KeptNode) (at : ℕ) (n : KeptNode) → AreUnder climbs nodes at → slice_get nodes at ≡ Some n
    → AllByRecursion (λ v. v.node.level ≤ n.level) climbs
all_under [] nodes at n h e = tt
all_under (u ∷ us) nodes at n h e = (from_there (λ k. u.node.level ≤ k.level) nodes at n h.0 e, all_under us nodes at n h.1 e)

kept_levels : (tree : ℕ) (ks : List KeptNode) (cs : Calls) → AreKept tree ks cs → AllByRecursion HasLevel ks
kept_levels tree [] cs h = tt
kept_levels tree (k ∷ ks) cs h = (h.0.1, kept_levels tree ks cs h.1)

-- which nodes were put: those up to a place before the last plan, and all behind it
abbrev Placed : ℕ → List Visit → List Climb → List KeptNode → ℕ → Option (List ℕ) → Type 0
Placed tree visits climbs nodes at None = PlacedTo tree (links_behind visits) climbs nodes at × AreUnder climbs nodes at
Placed tree visits climbs nodes at (Some bytes) = AllByRecursion (IsPlacedIn tree (links_behind visits) climbs) nodes

abbrev pub UpsAt : Claim → Chart → Opening → Type 0
UpsAt lease c o = Ups lease c.tree c.run c.applied c.nodes c.links o

-- the puts of the newest plan are under way, those of a node or of the tree object
abbrev pub UpTo : Bool → ℕ → Claim → List (ℕ × ℕ) → Placing → Option (List ℕ) → Option (List ℕ) → List Link → Calls → Calls → Option (List ℕ) → Type 0
UpTo spent tree lease top p root stood links below work None = (landed_root p root ≡ stood) × (done_over (puts_of tree lease None p) work ≡ below)
UpTo spent tree lease top p root stood links below work (Some bytes) =
    (last : RootPlan) × (bytes ≡ last.last) × (spent ≡ false → PutsRoot (tree_held stood) (raised_root (tree_held stood) links top) last)
    × (done_over (puts_of tree lease None p) work ≡ done_over (puts_of tree lease None last.placing) below)

pub record Climbs (lease : Claim) (r : Rising) (o : Opening) (work : Calls) : Type 0 where
  pub ups : UpsAt lease r.chart o
  pub placed : Placed r.chart.tree ups.visits ups.climbs r.chart.nodes r.at r.last
  pub upto : UpTo r.is_spent r.chart.tree lease r.chart.run.top r.placing r.chart.root (root_above (root_behind o.got ups.visits) ups.climbs) (links_above (links_behind ups.visits) ups.climbs)
      (climbs_over r.chart.tree lease ups.climbs (visits_over r.chart.tree lease ups.visits [])) work r.last

-- all was put that was planned
pub record Ready (lease : Claim) (r : Rising) (o : Opening) (work : Calls) : Type 0 where
  pub ups : UpsAt lease r.chart o
  pub placed : PlacedTo r.chart.tree (links_behind ups.visits) ups.climbs r.chart.nodes r.at
  pub under : AreUnder ups.climbs r.chart.nodes r.at
  pub root : r.chart.root ≡ root_above (root_behind o.got ups.visits) ups.climbs
  pub calls : work ≡ climbs_over r.chart.tree lease ups.climbs (visits_over r.chart.tree lease ups.visits [])

-- ---- the next plan

-- where it goes on, the plan is under way
abbrev pub UpClimbs : Claim → Next Rising (Unit {0}) → Opening → Calls → Type 0
UpClimbs lease (Goes r) o work = Climbs lease r o work
UpClimbs lease (Ends r x) o work = ⊥
UpClimbs lease (Stops r t) o work = Unit {0}

module _ (lease : Claim) (r : Rising) (o : Opening) (work : Calls) (none : r.last ≡ None) (k : Ready lease r o work) where
  placed_now : PlacedTo r.chart.tree (links_behind k.ups.visits) k.ups.climbs r.chart.nodes (rise.next_touched r)
  placed_now =
      subst (λ (ls : List Link). PlacedTo r.chart.tree (links_behind k.ups.visits) k.ups.climbs r.chart.nodes (r.at + touched_at r.chart.tree ls (drop r.at r.chart.nodes)))
      (sym k.ups.linked) (placed_next r.chart.tree (links_behind k.ups.visits) k.ups.climbs r.chart.nodes r.at k.placed)

  under_now : AreUnder k.ups.climbs r.chart.nodes (rise.next_touched r)
  under_now = under_later k.ups.climbs r.chart.nodes r.at (touched_at r.chart.tree r.chart.links (drop r.at r.chart.nodes)) k.under

  node_climbs : (n : KeptNode) → rise.touched_node r ≡ Some n → IsKeptNode r.chart.tree n (visits_over r.chart.tree lease k.ups.visits []) → (p : PagePlan)
      → node_plan (tree_held r.chart.root) r.chart.tree n r.chart.links ≡ Ok p → UpClimbs lease (rise.put_node r (rise.next_touched r + 1) (n.level + 1) (Ok p)) o work
  node_climbs n there kept p e =
      let stood : Option (List ℕ) = root_above (root_behind o.got k.ups.visits) k.ups.climbs in
      let links : List Link = links_above (links_behind k.ups.visits) k.ups.climbs in
      let below : Calls = climbs_over r.chart.tree lease k.ups.climbs (visits_over r.chart.tree lease k.ups.visits []) in
      record {
        ups = record {
          visits = k.ups.visits;
          are = k.ups.are;
          applied = k.ups.applied;
          covers = k.ups.covers;
          kept = k.ups.kept;
          noted = k.ups.noted;
          climbs = record { node = n; plan = p } ∷ k.ups.climbs;
          climbed = (
            kept.0,
            kept.1,
            all_under k.ups.climbs r.chart.nodes (rise.next_touched r) n under_now there,
            subst (λ (ls : List Link). PutsNode (tree_held stood) n ls p) k.ups.linked
                (subst (λ (root : Option (List ℕ)). PutsNode (tree_held root) n r.chart.links p) k.root
                (node_puts (tree_held r.chart.root) r.chart.tree n r.chart.links p e)),
            k.ups.climbed,
          );
          linked = ap (λ (ls : List Link). ls ++ links_at (n.level + 1) p.entries) k.ups.linked;
        };
        placed = subst (λ (last : Option (List ℕ)).
            Placed r.chart.tree k.ups.visits (record { node = n; plan = p } ∷ k.ups.climbs) r.chart.nodes (rise.next_touched r + 1) last) (sym none) (
              placed_there r.chart.tree (links_behind k.ups.visits) (record { node = n; plan = p }) k.ups.climbs r.chart.nodes (rise.next_touched r) k.ups.noted.1
                  (kept_levels r.chart.tree r.chart.nodes (visits_over r.chart.tree lease k.ups.visits []) k.ups.kept) placed_now there,
              (rising_from r.chart.nodes (rise.next_touched r) n k.ups.noted.1 there, under_later k.ups.climbs r.chart.nodes (rise.next_touched r) 1 under_now),
            );
        upto = subst (λ (last : Option (List ℕ)).
            UpTo r.is_spent r.chart.tree lease r.chart.run.top p.placing r.chart.root (landed_root p.placing stood) (links ++ links_at (n.level + 1) p.entries)
            (done_over (puts_of r.chart.tree lease None p.placing) below) work last) (sym none)
            (ap (landed_root p.placing) k.root, ap (done_over (puts_of r.chart.tree lease None p.placing)) k.calls);
      }

  root_climbs : rise.touched_node r ≡ None → (p : RootPlan) → rise.last_plan r ≡ Ok p → UpClimbs lease (rise.put_root r (Ok p)) o work
  root_climbs gone p e =
      let stood : Option (List ℕ) = root_above (root_behind o.got k.ups.visits) k.ups.climbs in
      record {
        ups = record {
          visits = k.ups.visits;
          are = k.ups.are;
          applied = k.ups.applied;
          covers = k.ups.covers;
          kept = k.ups.kept;
          noted = k.ups.noted;
          climbs = k.ups.climbs;
          climbed = k.ups.climbed;
          linked = k.ups.linked;
        };
        placed = all_placed r.chart.tree (links_behind k.ups.visits) k.ups.climbs r.chart.nodes (rise.next_touched r) placed_now gone;
        upto = (
          p,
          refl,
          λ whole. subst (λ (ls : List Link). PutsRoot (tree_held stood) (raised_root (tree_held stood) ls r.chart.run.top) p) k.ups.linked
              (subst (λ (root : Option (List ℕ)). PutsRoot (tree_held root) (raised_root (tree_held root) r.chart.links r.chart.run.top) p) k.root
              (root_puts (tree_held r.chart.root) r.chart.links r.chart.run.top p e whole)),
          ap (done_over (puts_of r.chart.tree lease None p.placing)) k.calls,
        );
      }

  pub rise_climbs : {next : Next Rising (Unit {0})} → Rises r next → UpClimbs lease next o work
  rise_climbs (step.node_due n p there e) =
      node_climbs n there (kept_at r.chart.tree r.chart.nodes (rise.next_touched r) n (visits_over r.chart.tree lease k.ups.visits []) k.ups.kept there) p e
  rise_climbs (step.root_due p gone e) = root_climbs gone p e
  rise_climbs c = tt

-- behind the last leaf
pub begun_climbs : (lease : Claim) (c : Chart) (o : Opening) (work : Calls) → next_key c ≡ None → AreKept c.tree c.nodes work → RestsAt lease c o work
    → UpClimbs lease (rise.rise (rise.begun c)) o work
begun_climbs lease c o work all kept k = rise_climbs lease (rise.begun c) o work refl (record {
  ups = record {
    visits = k.visits;
    are = k.are;
    applied = k.applied;
    covers = all_handled c.from c.run.items k.visits all k.handled;
    kept = subst (λ (cs : Calls). AreKept c.tree c.nodes cs) k.calls kept;
    noted = k.noted;
    climbs = [];
    climbed = tt;
    linked = k.linked;
  };
  placed = none_placed c.tree (links_behind k.visits) [] c.nodes;
  under = tt;
  root = k.root;
  calls = k.calls;
}) (rises (rise.begun c))

-- ---- a put

-- the way up is done
pub record Risen (lease : Claim) (tree : ℕ) (run : Taken) (count : ℕ) (o : Opening) (work : Calls) : Type 0 where
  pub worked : Worked
  pub is : IsWorked tree lease run o.got worked
  pub calls : work ≡ worked_calls tree lease worked
  pub applied : count ≡ lacked_on run worked.visits

abbrev pub RiseClimbs : Claim → Rising → Next Rising (Unit {0}) → Opening → Calls → Type 0
RiseClimbs lease r (Goes e) o work = Climbs lease e o work
RiseClimbs lease r (Ends e x) o work = Risen lease r.chart.tree r.chart.run e.chart.applied o work
RiseClimbs lease r (Stops e t) o work = Unit {0}

goes_up : (lease : Claim) (r : Rising) (next : Next Rising (Unit {0})) (o : Opening) (work : Calls) → UpClimbs lease next o work → RiseClimbs lease r next o work
goes_up lease r (Goes e) o work h = h
goes_up lease r (Ends e x) o work h = absurd h
goes_up lease r (Stops e t) o work h = tt

none_in_hand : (p : Placing) (tree : ℕ) (one : Claim) (two : Option Claim) (other : Ask) → has_nothing p ≡ true → unwrap_or (put_in_hand p tree one two) other ≡ other
none_in_hand p tree one two other none = on p.reserved p.puts none where
  placing : Option (List ℕ) → List PagePut → Placing
  placing reserved puts = record { reserved = reserved; puts = puts }

  on : (reserved : Option (List ℕ)) (puts : List PagePut) → has_nothing (placing reserved puts) ≡ true → unwrap_or (put_in_hand (placing reserved puts) tree one two) other ≡ other
  on (Some bytes) puts e = absurd (cc (e))
  on None (x ∷ xs) e = absurd (let some : (length (x ∷ xs) == 0) ≡ false = not_empty (x ∷ xs) (omega arith) in cc)
  on None [] e = refl

some_last : (a b spent : Bool) → a ≡ true → (not a || (b && not spent)) ≡ true → (b ≡ true) × (spent ≡ false)
some_last true true true e h = absurd (cc (h))
some_last true true false e h = (refl, refl)
some_last true false spent e h = absurd (cc (h))
some_last false b spent e h = absurd (cc (e))

module _ (lease : Claim) (r : Rising) (o : Opening) (work : Calls) (k : Climbs lease r o work) where
  abbrev UpBy : Placing → Option (List ℕ) → Calls → Option (List ℕ) → Type 0
  UpBy p root calls last =
      UpTo r.is_spent r.chart.tree lease r.chart.run.top p root (root_above (root_behind o.got k.ups.visits) k.ups.climbs) (links_above (links_behind k.ups.visits) k.ups.climbs)
      (climbs_over r.chart.tree lease k.ups.climbs (visits_over r.chart.tree lease k.ups.visits [])) calls last

  same_level : (tree_held o.got).level ≡ (tree_held (root_above (root_behind o.got k.ups.visits) k.ups.climbs)).level
  same_level =
      sym (visits_level r.chart.tree lease r.chart.run o.got k.ups.visits k.ups.are)
      ∙ sym (climbs_level r.chart.tree (visits_over r.chart.tree lease k.ups.visits []) (root_behind o.got k.ups.visits) (links_behind k.ups.visits) k.ups.climbs k.ups.climbed)

  -- the put of the tree object
  last_climbs : has_nothing r.placing ≡ true → r.is_spent ≡ false → (last : Option (List ℕ)) → is_some last ≡ true
      → Placed r.chart.tree k.ups.visits k.ups.climbs r.chart.nodes r.at last → UpBy r.placing r.chart.root work last
      → Risen lease r.chart.tree r.chart.run r.chart.applied o ((rise.last_ask r lease last, call.Done) ∷ work)
  last_climbs nothing whole (Some bytes) some placed up =
      let root : Tree = tree_held (root_above (root_behind o.got k.ups.visits) k.ups.climbs) in
      let links : List Link = links_above (links_behind k.ups.visits) k.ups.climbs in
      let worked : Worked = record { visits = k.ups.visits; climbs = k.ups.climbs; last = up.0 } in
      let put : (page : ℕ) (bytes : List ℕ) (n : Inner) → WasGot (object.Page r.chart.tree page) (Some bytes) (looks_of k.ups.visits) → inner_of bytes ≡ Some n
      → is_touched n links ≡ true → IsPut page bytes k.ups.climbs =
      λ page bytes n got e touched.
      noted_put r.chart.tree (links_behind k.ups.visits) k.ups.climbs r.chart.nodes page bytes n placed (k.ups.noted.0 page bytes got) e touched in
      let named : (l : Link) → IsAmong l links → (page : ℕ) (bytes : List ℕ) (n : Inner) → WasGot (object.Page r.chart.tree page) (Some bytes) (looks_of k.ups.visits)
      → inner_of bytes ≡ Some n → IsInRange n l → IsNamed (HasClimbed page l.level k.ups.climbs) n.entries links l =
      λ l known page bytes n got e range.
      climbs_name r.chart.tree (visits_over r.chart.tree lease k.ups.visits []) (root_behind o.got k.ups.visits) (links_behind k.ups.visits) k.ups.climbs page bytes n l
      k.ups.climbed (put page bytes n got e (known_touches n l links known range)) e range known in
      let named_last : (l : Link) → IsAmong l links → IsOfRoot root l → IsNamed (HasRisen l.level up.0) root.entries links l =
      λ l known is. root_names root links r.chart.run.top up.0 l (up.2 whole) is known in
      let under : (v : Visit) → IsAmong v k.ups.visits → IsUnder r.chart.tree root (looks_of k.ups.visits) (link_to (leaf_place v.leaf.low v.page)) =
      λ v h. leaves_under r.chart.tree lease r.chart.run o.got root same_level k.ups.visits v k.ups.are h in
      let under_nodes : (page : ℕ) (bytes : List ℕ) (n : Inner) → WasGot (object.Page r.chart.tree page) (Some bytes) (looks_of k.ups.visits) → inner_of bytes ≡ Some n
      → IsUnder r.chart.tree root (looks_of k.ups.visits) (link_to (node_place page n)) =
      λ page bytes n h e. nodes_under r.chart.tree lease r.chart.run o.got root same_level k.ups.visits page bytes n k.ups.are h e in
      record {
        worked = worked;
        is = record {
          visits = k.ups.are;
          covers = k.ups.covers;
          climbs = k.ups.climbed;
          raises = put;
          named = named;
          named_last = named_last;
          rights = λ l h.
              named_above r.chart.tree o.got worked l (followed_under r.chart.tree lease r.chart.run o.got root same_level k.ups.visits l k.ups.are h)
              (named l (right_known l k.ups.visits k.ups.climbs h)) (named_last l (right_known l k.ups.visits k.ups.climbs h));
          reserved = λ l h. (
            new_known l k.ups.visits k.ups.climbs h,
            new_page r.chart.tree lease r.chart.run o.got (visits_over r.chart.tree lease k.ups.visits []) (links_behind k.ups.visits) k.ups.visits k.ups.climbs l k.ups.are
                k.ups.climbed h,
          );
          inside_leaf = λ v l h g. leaf_holds r.chart.tree lease r.chart.run o.got k.ups.visits v l k.ups.are h g;
          inside = λ u l h g.
              climb_holds r.chart.tree (visits_over r.chart.tree lease k.ups.visits []) (root_behind o.got k.ups.visits) (links_behind k.ups.visits) k.ups.climbs u l k.ups.climbed h g;
          under = under;
          under_nodes = under_nodes;
          news = λ l h.
              news_named r.chart.tree lease r.chart.run o.got worked k.ups.are k.ups.climbed under under_nodes l (named l (new_known l k.ups.visits k.ups.climbs h))
              (named_last l (new_known l k.ups.visits k.ups.climbs h)) h;
          last = up.2 whole;
        };
        calls =
            ap (λ (bs : List ℕ). (PutHeld (object.Tree r.chart.tree) bs lease None, call.Done) ∷ work) up.1
            ∙ ap (λ (cs : Calls). (PutHeld (object.Tree r.chart.tree) up.0.last lease None, call.Done) ∷ cs)
            (sym (none_left r.placing r.chart.tree lease None work nothing) ∙ up.3);
        applied = k.ups.applied;
      }
  last_climbs nothing whole None some placed up = absurd (cc (some))

  put_call : Ask × Answer
  put_call = (rise.rising_ask r lease, call.Done)

  turn : has_nothing r.placing ≡ false
      → done_over (puts_of r.chart.tree lease None (landed_placing r.placing)) (put_call ∷ work) ≡ done_over (puts_of r.chart.tree lease None r.placing) work
  unfolding put_call
  turn some = sym (put_in_turn r.placing r.chart.tree lease None (rise.last_ask r lease r.last) work some)

  landed_up : has_nothing r.placing ≡ false → (last : Option (List ℕ)) → UpBy r.placing r.chart.root work last
      → UpBy (landed_placing r.placing) (landed_root r.placing r.chart.root) (put_call ∷ work) last
  landed_up some (Some bytes) up = (up.0, up.1, up.2, turn some ∙ up.3)
  landed_up some None up = (up.0, turn some ∙ up.1)

  landed_climbs : has_nothing r.placing ≡ false → Climbs lease (rise.landed r) o (put_call ∷ work)
  landed_climbs some = record {
    ups = record {
      visits = k.ups.visits;
      are = k.ups.are;
      applied = k.ups.applied;
      covers = k.ups.covers;
      kept = k.ups.kept;
      noted = k.ups.noted;
      climbs = k.ups.climbs;
      climbed = k.ups.climbed;
      linked = k.ups.linked;
    };
    placed = k.placed;
    upto = landed_up some r.last k.upto;
  }

  ready_by : has_nothing r.placing ≡ false → has_nothing (landed_placing r.placing) ≡ true → (last : Option (List ℕ)) → is_some last ≡ false
      → Placed r.chart.tree k.ups.visits k.ups.climbs r.chart.nodes r.at last → UpBy r.placing r.chart.root work last → Ready lease (rise.landed r) o (put_call ∷ work)
  ready_by some nothing (Some bytes) none placed up = absurd (cc (none))
  ready_by some nothing None none placed up = record {
    ups = record {
      visits = k.ups.visits;
      are = k.ups.are;
      applied = k.ups.applied;
      covers = k.ups.covers;
      kept = k.ups.kept;
      noted = k.ups.noted;
      climbs = k.ups.climbs;
      climbed = k.ups.climbed;
      linked = k.ups.linked;
    };
    placed = placed.0;
    under = placed.1;
    root = up.0;
    calls = sym (none_left (landed_placing r.placing) r.chart.tree lease None (put_call ∷ work) nothing) ∙ turn some ∙ up.1;
  }

  lands_climb : {done : Result (Unit {0}) Trouble} {next : Next Rising (Unit {0})} → IsRising r → done ≡ Ok tt → Lands r done next → RiseClimbs lease r next o (put_call ∷ work)
  unfolding put_call
  lands_climb rising e (step.is_last x nothing) =
      subst (λ (ask : Ask). Risen lease r.chart.tree r.chart.run r.chart.applied o ((ask, call.Done) ∷ work))
      (sym (none_in_hand r.placing r.chart.tree lease None (rise.last_ask r lease r.last) nothing))
      (let both = some_last (has_nothing r.placing) (is_some r.last) r.is_spent nothing rising in last_climbs nothing both.1 r.last both.0 k.placed k.upto)
  lands_climb rising e (step.more x some up) = landed_climbs some
  lands_climb {next = next} rising e (step.goes_on x some nothing between up) =
      goes_up lease r next o (put_call ∷ work)
      (rise_climbs lease (rise.landed r) o (put_call ∷ work) between (ready_by some nothing r.last (ap (λ (last : Option (List ℕ)). is_some last) between) k.placed k.upto) up)
  lands_climb rising e c = tt

  risen_climbs : (a : Answer) → IsRising r → (done : Result (Unit {0}) Trouble) → done_of a ≡ done
      → RiseClimbs lease r (rise.risen_by r done) o ((rise.rising_ask r lease, a) ∷ work)
  unfolding put_call
  risen_climbs a rising (Ok x) e =
      subst (λ (b : Answer). RiseClimbs lease r (rise.put_landed r) o ((rise.rising_ask r lease, b) ∷ work)) (sym (done_is a x e)) (lands_climb rising refl (lands r (Ok tt)))
  risen_climbs a rising (Err t) e = tt

pub rising_climbs : (lease : Claim) (r : Rising) (a : Answer) (o : Opening) (work : Calls) → IsRising r → Climbs lease r o work
    → RiseClimbs lease r (rise.rising_next r a) o ((rise.rising_ask r lease, a) ∷ work)
rising_climbs lease r a o work rising k = risen_climbs lease r o work k a rising (done_of a) refl
