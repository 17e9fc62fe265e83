-- A scan ends at leaves whose ranges meet from the first one on, each as its call got it.
use Rattle.std.proofs.Common.{◌≡◌, ℕ, Bool, true, false, List, [], ◌∷◌, ◌++◌, Option, Some, None, unwrap_or, refl, ap, sym, subst, ◌∙◌, ◌⊎◌}
use Rattle.std.specs.Prelude.{if◌then◌else◌}
use Rattle.byte_format.specs.Order.{below_bound}
use Rattle.byte_format.proofs.OrderLemmas.{same_is}
use Rattle.db_base.specs.declared.names.ObjName.TheVariants as object
use Rattle.range_scan.proofs.Words.{Get, Caller, Ends, Goes, LeadsBy, Next, Stops, Took, Seen, Makes, Answer, Turn, Ended, More, Stopped, Leaf, holds, page_at}
use Rattle.cloud_trait.specs.declared.answer.Answer.TheVariants.{Got}
use Rattle.cloud_trait.specs.Ask.{Ask}
use Rattle.cloud_trait.specs.Machine.{Deed, IsMade}
use Rattle.cloud_trait.specs.State.{CloudState, newest, version_at}
use Rattle.cloud_trait.specs.Weather.{Rose}
use Rattle.page_cache.specs.Cache.{Cache, kept_at}
use Rattle.page_cache.specs.Held.{leaf_at, as_leaf}
use Rattle.page_cache.proofs.CacheLemmas.{accept_kept}
use Rattle.tree_walk.specs.Walk.{Spot, Walk, IsWalk, IsAtLeaf, object_of, walk_next}
use Rattle.tree_walk.proofs.Leaves.{ends_at}
use Rattle.tree_walk.proofs.Served.{IsServedBy as IsWalkServed, end_served, get_row, steady}
use Rattle.tree_walk.proofs.Stays.{IsTo, WalksBeside, next_walks, ready_walks}
use Rattle.range_scan.specs.Scan.{Scan, scan_object_at, scan_object, scan_asks, right_behind, is_wanted, goes_on, moved_on, scan_ready, scan_next, KeepsServed}
use Rattle.range_scan.specs.Causes.{deed_of}
use Rattle.range_scan.specs.Meaning.{Range, scan_of, range_of, Move, LedTo, Scanned, IsGot, IsServed as IsServedBy, leaves_of, AreServed, BeginsAt, Continues, AreMeeting, IsPast, IsLed, Means}
use Rattle.range_scan.proofs.Outcomes as step
use Rattle.range_scan.proofs.Outcomes.{IsRead, Reaches, EndsAt, GoesOn, Comes, comes, came_by, reached_kept, Readies, scan_readies}

-- ---- what holds of a scan

-- the right page in hand begins at the high key of the newest leaf, which is below the key at which the scan stops; while there is none,
-- there is no leaf yet
abbrev pub InHand : Range → List Leaf → Walk → Option Spot → Type 0
InHand r ls w None = IsWalk w × (ls ≡ [])
InHand r [] w (Some spot) = ⊥
InHand r (l ∷ ls) w (Some spot) = (l.high ≡ Some spot.low) × (below_bound spot.low r.to ≡ true) × (right_behind l.high (page_at l.right) ≡ Some spot)

pub record Holds (r : Range) (ls : List Leaf) (s : Scan) : Type 0 where
  pub to : s.to ≡ r.to
  pub walk : IsTo r.tree r.from s.walk
  pub hand : InHand r ls s.walk s.spot

-- while the walk is in hand, it is one
pub walk_of : (r : Range) (ls : List Leaf) (w : Walk) (o : Option Spot) → o ≡ None → InHand r ls w o → IsWalk w
walk_of r ls w None e h = h.0
walk_of r ls w (Some spot) e h = absurd (cc (e))

-- ---- where it ends

-- it is at this leaf, which its call got
pub record IsAtEnd (r : Range) (ls : List Leaf) (m : Scan × Cache) (a : Answer) (s : Scan) (c : Cache) (l : Leaf) (page : ℕ) : Type 0 where
  pub got : IsGot r.tree (scan_asks m) a l
  pub in_hand : scan_object s ≡ object.Page r.tree page
  pub continues : Continues r l ls
  pub to : s.to ≡ r.to
  pub walk : IsTo r.tree r.from s.walk

-- .. and noted what comes to its right
pub record HoldsAtEnd (r : Range) (ls : List Leaf) (m : Scan × Cache) (a : Answer) (n : Scan × Cache) (page : ℕ) : Type 0 where
  pub leaf : Leaf
  pub at : IsAtEnd r ls m a n.0 n.1 leaf page
  pub kept : leaf_at n.1 (object.Page r.tree page) ≡ Some leaf
  pub next : n.0.next ≡ right_behind leaf.high (page_at leaf.right)

begins : (from key : Option (List ℕ)) (l : Leaf) → key ≡ from → holds l (unwrap_or key []) ≡ true → (key ≡ None → l.low ≡ []) → BeginsAt from l
begins (Some from) key l e h left = subst (λ (k : Option (List ℕ)). holds l (unwrap_or k []) ≡ true) e h
begins None key l e h left = left e

-- the first leaf is the one that its walk led to
first_at_end : (r : Range) (ls : List Leaf) (m : Scan × Cache) (a : Answer) (w : Walk × Cache) (page : ℕ) (l : Leaf) → Holds r ls m.0 → m.0.spot ≡ None → walk_next (m.0.walk, m.1) a ≡ Ends w page
    → leaf_at w.1 (object_of w.0) ≡ Some l → IsAtEnd r ls m a (record m.0 { walk = w.0 }) w.1 l page
first_at_end r ls m a w page l h none e here =
    let hand : InHand r ls m.0.walk None = subst (InHand r ls m.0.walk) none h.hand in
    let served : IsWalkServed m.0.walk a w page = end_served (m.0.walk, m.1) w a page hand.0 e in
    let at : IsAtLeaf w.0 w.1 page = ends_at (m.0.walk, m.1) w a page hand.0 e in
    let there : IsTo r.tree r.from w.0 = subst (WalksBeside r.tree r.from) e (next_walks r.tree r.from (m.0.walk, m.1) a h.walk) in
    let page_there : object_of w.0 ≡ object.Page r.tree page = at.in_hand ∙ ap (λ (t : ℕ). object.Page t page) there.0 in
    let asked : scan_asks m ≡ Get (object.Page r.tree page) = ap (λ (o : Option Spot). Get (scan_object_at m.0 o)) none ∙ (served.asked ∙ ap (λ (t : ℕ). Get (object.Page t page)) there.0) in
    let spelled : as_leaf (Some served.bytes) ≡ Some l = served.spelled ∙ (sym served.kept ∙ here) in
    let same : ◌≡◌ {A = Option Leaf} (Some at.leaf) (Some l) = sym at.kept ∙ (ap (leaf_at w.1) (sym at.in_hand) ∙ here) in
    let leaf : at.leaf ≡ l = cc (same) in
    record {
      got = record { page = page; got = served.bytes; asked = asked; answered = served.answered; spelled = spelled };
      in_hand = ap (scan_object_at (record m.0 { walk = w.0 })) none ∙ page_there;
      continues = subst (Continues r l) (sym hand.1) (subst (BeginsAt r.from) leaf (begins r.from w.0.key at.leaf there.1 at.holds at.leftmost));
      to = h.to;
      walk = there;
    }

-- a further one is the right page in hand, which is as promised
right_at_end : (r : Range) (ls : List Leaf) (m : Scan × Cache) (a : Answer) (spot : Spot) (c : Cache) (l : Leaf) → Holds r ls m.0 → IsRead m a spot c l → l.low ≡ spot.low
    → IsAtEnd r ls m a (record m.0 { passed = m.0.passed ++ spot.page ∷ [] }) c l spot.page
right_at_end r ls m a spot c l h read low =
    let hand : scan_object m.0 ≡ object.Page r.tree spot.page = ap (scan_object_at m.0) read.in_hand ∙ ap (λ (t : ℕ). object.Page t spot.page) h.walk.0 in
    let brought : kept_at c (object.Page r.tree spot.page) ≡ Some read.got = ap (kept_at c) (sym hand) ∙ accept_kept m.1 (scan_object m.0) true read.got read.version c read.accepted in
    let there : leaf_at c (object.Page r.tree spot.page) ≡ Some l = ap (leaf_at c) (sym hand) ∙ read.kept in
    record {
      got = record { page = spot.page; got = read.got; asked = ap Get hand; answered = read.answered; spelled = sym (ap as_leaf brought) ∙ there };
      in_hand = hand;
      continues = on ls (subst (InHand r ls m.0.walk) read.in_hand h.hand);
      to = h.to;
      walk = h.walk;
    }
  where
    on : (ls : List Leaf) → InHand r ls m.0.walk (Some spot) → Continues r l ls
    on [] hand = absurd hand
    on (before ∷ ls) hand = (hand.0 ∙ ap (λ (k : List ℕ). Some k) (sym low), ap (λ (k : List ℕ). below_bound k r.to) low ∙ hand.1)

reached_end : (r : Range) (ls : List Leaf) (m : Scan × Cache) (a : Answer) (s : Scan) (c : Cache) (l : Leaf) (page : ℕ) → Holds r ls m.0 → Reaches m a s c l page → IsAtEnd r ls m a s c l page
reached_end r ls m a _ _ _ _ h (step.first w page l none e kept) = first_at_end r ls m a w page l h none e kept
reached_end r ls m a _ _ _ _ h (step.right spot c l read same) = right_at_end r ls m a spot c l h read (same_is l.low spot.low same)

ends_holding : (r : Range) (ls : List Leaf) (m : Scan × Cache) (a : Answer) (n : Scan × Cache) (page : ℕ) → Holds r ls m.0 → EndsAt m a n page → HoldsAtEnd r ls m a n page
ends_holding r ls m a n page h o =
    let at : IsAtEnd r ls m a o.at n.1 o.leaf o.at_page = reached_end r ls m a o.at n.1 o.leaf o.at_page h o.reached in
    let in_hand : scan_object o.at ≡ object.Page r.tree page = at.in_hand ∙ ap (λ (q : ℕ). object.Page r.tree q) (sym o.leaves.page_is) in
    let behind : Scan = record o.at { next = right_behind o.leaf.high (page_at o.leaf.right) } in
    let is_at : IsAtEnd r ls m a behind n.1 o.leaf page = record { got = at.got; in_hand = in_hand; continues = at.continues; to = at.to; walk = at.walk } in
    record {
      leaf = o.leaf;
      at = subst (λ (s : Scan). IsAtEnd r ls m a s n.1 o.leaf page) (sym o.leaves.is) is_at;
      kept = ap (leaf_at n.1) (sym in_hand) ∙ reached_kept m a o.at n.1 o.leaf o.at_page o.reached;
      next = ap (λ (s : Scan). s.next) o.leaves.is;
    }

-- ---- turns

abbrev pub Leads : Range → List Leaf → Scan × Cache → Answer → Next (Scan × Cache) ℕ → Type 0
Leads r ls m a (Goes n) = Holds r ls n.0
Leads r ls m a (Ends n page) = HoldsAtEnd r ls m a n page
Leads r ls m a (Stops n t) = Unit {0}

-- the walk in hand went on
walk_holds : (r : Range) (ls : List Leaf) (s : Scan) (w : Walk) → s.to ≡ r.to → s.spot ≡ None → ls ≡ [] → IsWalk w → IsTo r.tree r.from w → Holds r ls (record s { walk = w })
walk_holds r ls s w to none empty ok there = record { to = to; walk = there; hand = subst (InHand r ls w) (sym none) (ok, empty) }

next_leads : (r : Range) (ls : List Leaf) (m : Scan × Cache) (a : Answer) → Holds r ls m.0 → Leads r ls m a (scan_next m a)
next_leads r ls m a h = on (scan_next m a) (comes m a) where
  on : (x : Next (Scan × Cache) ℕ) → Comes m a x → Leads r ls m a x
  on (Goes n) o =
      let empty : ls ≡ [] = (subst (InHand r ls m.0.walk) o.none h.hand).1 in
      let (ok, there) = subst (WalksBeside r.tree r.from) o.walk (next_walks r.tree r.from (m.0.walk, m.1) a h.walk) in
      subst (Holds r ls) (sym o.is) (walk_holds r ls m.0 n.0.walk h.to o.none empty ok there)
  on (Ends n page) o = ends_holding r ls m a n page h o
  on (Stops n t) o = tt

-- the scan behind a leaf, where it goes on
moved_holds : (r : Range) (ls : List Leaf) (l : Leaf) (s : Scan) → s.to ≡ r.to → IsTo r.tree r.from s.walk → s.next ≡ right_behind l.high (page_at l.right) → goes_on s ≡ true
    → Holds r (l ∷ ls) (moved_on s)
moved_holds r ls l s to walk next going =
    let is : moved_on s ≡ record s { spot = s.next; next = None } = ap (λ (b : Bool). if b then record s { spot = s.next; next = None } else s) going in
    let wanted : is_wanted r.to (right_behind l.high (page_at l.right)) ≡ true = ap (λ (k : Option (List ℕ)). is_wanted k (right_behind l.high (page_at l.right))) (sym to) ∙ (ap (is_wanted s.to) (sym next) ∙ going) in
    let hand : InHand r (l ∷ ls) s.walk s.next = subst (InHand r (l ∷ ls) s.walk) (sym next) (on l.high refl (page_at l.right) refl wanted) in
    let P : Scan → Type 0 = Holds r (l ∷ ls) in
    subst P (sym is) (record { to = to; walk = walk; hand = hand }) where
      on : (high : Option (List ℕ)) → l.high ≡ high → (page : Option ℕ) → page_at l.right ≡ page → is_wanted r.to (right_behind high page) ≡ true
          → InHand r (l ∷ ls) s.walk (right_behind high page)
      on None e page right h = absurd (cc (h))
      on (Some high) e page right h = (e, h, ap (λ (k : Option (List ℕ)). right_behind k (page_at l.right)) e ∙ ap (right_behind (Some high)) right)

-- what a call answered that got a leaf landed, and is the newest where no stale get was counted
pub served_by : (tree : ℕ) (d : Deed) (l : Leaf) → IsMade d → IsGot tree d.ask d.answer l → IsServedBy tree d l
served_by tree d l made g = record {
  is_got = g;
  landed = λ s told. (row s told).0;
  newest_one = λ s told same. steady g.got (newest s (object.Page tree g.page)) d.before.counts.stale d.after.counts.stale (row s told).1 same;
}
  where
    got : Makes d.who (Get (object.Page tree g.page)) (Got g.got) d.before d.after
    got = subst (λ (k : Ask). Makes d.who k (Got g.got) d.before d.after) g.asked (subst (λ (b : Answer). Makes d.who d.ask b d.before d.after) g.answered made)

    row : (s : CloudState) → d.before.state ≡ Some s
        → ((k : ℕ) × (g.got ≡ version_at (s.versions (object.Page tree g.page)) k)) × ((g.got ≡ newest s (object.Page tree g.page)) ⊎ Rose d.before.counts.stale d.after.counts.stale)
    row s told = get_row d.who (object.Page tree g.page) g.got d.before d.after got s told

-- the scan, its leaves, and what served them
pub record Stands (r : Range) (h : List Move) (m : Scan × Cache) : Type 0 where
  pub holds : Holds r (leaves_of h) m.0
  pub served : AreServed r.tree h
  pub meeting : AreMeeting r (leaves_of h)

led_stands : (r : Range) (h : List Move) (m n : Scan × Cache) (x : Move) → Stands r h m → x.deed.ask ≡ scan_asks m → IsMade x.deed → LedTo m x.deed.answer x.behind n → Stands r (x ∷ h) n
led_stands r h m n x stands asked made led = on x.behind led where
  leads : Leads r (leaves_of h) m x.deed.answer (scan_next m x.deed.answer)
  leads = next_leads r (leaves_of h) m x.deed.answer stands.holds

  on : (o : Option Leaf) → LedTo m x.deed.answer o n → Stands r (record x { behind = o } ∷ h) n
  on None e = record { holds = subst (Leads r (leaves_of h) m x.deed.answer) e leads; served = (tt, stands.served); meeting = stands.meeting }
  on (Some l) (s, (page, e, kept, going, moved)) =
      let end : HoldsAtEnd r (leaves_of h) m x.deed.answer (s, n.1) page = subst (Leads r (leaves_of h) m x.deed.answer) e leads in
      let same : ◌≡◌ {A = Option Leaf} (Some end.leaf) (Some l) = sym end.kept ∙ (ap (leaf_at n.1) (sym end.at.in_hand) ∙ kept) in
      let leaf : end.leaf ≡ l = cc (same) in
      let G : Leaf → Type 0 = IsGot r.tree (scan_asks m) x.deed.answer in
      let A : Ask → Type 0 = λ a. IsGot r.tree a x.deed.answer l in
      let next : s.next ≡ right_behind l.high (page_at l.right) = end.next ∙ ap (λ (k : Leaf). right_behind k.high (page_at k.right)) leaf in
      record {
        holds = subst (Holds r (l ∷ leaves_of h)) (sym moved) (moved_holds r (leaves_of h) l s end.at.to end.at.walk next going);
        served = (served_by r.tree x.deed l made (subst A (sym asked) (subst G leaf end.at.got)), stands.served);
        meeting = (subst (λ (k : Leaf). Continues r k (leaves_of h)) leaf end.at.continues, stands.meeting);
      }

pub scanned_stands : (r : Range) (h : List Move) (m : Scan × Cache) → Scanned r h m → Stands r h m
scanned_stands r [] m (c, e) =
    let (ready, is) = subst (Readies (scan_of r, c)) e (scan_readies (scan_of r, c)) in
    let (ok, there) = subst (WalksBeside r.tree r.from) ready (ready_walks r.tree r.from false c) in
    record { holds = subst (Holds r []) (sym is) (walk_holds r [] (scan_of r) m.0.walk refl refl refl ok there); served = tt; meeting = tt }
scanned_stands r (x ∷ h) m (from, came, asked, made, led) = led_stands r h from m x (scanned_stands r h from came) asked made led

-- ---- what a step means

past_by : (to : Option (List ℕ)) (l : Leaf) (o : Option Spot) → o ≡ right_behind l.high (page_at l.right) → is_wanted to o ≡ false → IsPast to l.high
past_by to l o e h = on l.high (page_at l.right) (ap (is_wanted to) (sym e) ∙ h) where
  on : (high : Option (List ℕ)) (page : Option ℕ) → is_wanted to (right_behind high page) ≡ false → IsPast to high
  on None page h = tt
  on (Some high) page h = h

pub of_range : (r : Range) (s : Scan) → s.to ≡ r.to → IsTo r.tree r.from s.walk → range_of s ≡ r
of_range r s to walk =
    ap (λ (t : ℕ). record { tree = t; from = s.walk.key; to = s.to }) walk.0
    ∙ (ap (λ (k : Option (List ℕ)). record { tree = r.tree; from = k; to = s.to }) walk.1 ∙ ap (λ (k : Option (List ℕ)). record { tree = r.tree; from = r.from; to = k }) to)

-- a step keeps the range that is looked through, whatever led to it
ends_to : (m : Scan × Cache) (a : Answer) (s : Scan) (c : Cache) (l : Leaf) (page : ℕ) → Reaches m a s c l page → range_of s ≡ range_of m.0
ends_to m a _ _ _ _ (step.first w page l none e kept) =
    of_range (range_of m.0) (record m.0 { walk = w.0 }) refl (subst (WalksBeside m.0.walk.tree m.0.walk.key) e (next_walks m.0.walk.tree m.0.walk.key (m.0.walk, m.1) a (refl, refl)))
ends_to m a _ _ _ _ (step.right spot c l read same) = refl

pub ends_range : (m n : Scan × Cache) (a : Answer) (page : ℕ) → scan_next m a ≡ Ends n page → range_of n.0 ≡ range_of m.0
ends_range m n a page leads =
    let o : EndsAt m a n page = came_by m a (Ends n page) leads in ap range_of o.leaves.is ∙ ends_to m a o.at n.1 o.leaf o.at_page o.reached

pub goes_range : (m n : Scan × Cache) (a : Answer) → scan_next m a ≡ Goes n → range_of n.0 ≡ range_of m.0
goes_range m n a leads =
    let o : GoesOn m a n = came_by m a (Goes n) leads in
    let walk = subst (WalksBeside m.0.walk.tree m.0.walk.key) o.walk (next_walks m.0.walk.tree m.0.walk.key (m.0.walk, m.1) a (refl, refl)) in
    of_range (range_of m.0) n.0 (ap (λ (s : Scan). s.to) o.is) walk.1

pub ready_range : (r : Range) (c : Cache) (n : Scan × Cache) → scan_ready (scan_of r, c) ≡ Goes n → range_of n.0 ≡ r
ready_range r c n leads =
    let (ready, is) = subst (Readies (scan_of r, c)) leads (scan_readies (scan_of r, c)) in
    let walk = subst (WalksBeside r.tree r.from) ready (ready_walks r.tree r.from false c) in
    of_range r n.0 (ap (λ (s : Scan). s.to) is) walk.1

-- what led to the right page in hand
in_hand_led : (r : Range) (ls : List Leaf) (w : Walk) (o : Option Spot) → InHand r ls w o → IsLed ls o
in_hand_led r ls w None h = tt
in_hand_led r [] w (Some spot) h = absurd h
in_hand_led r (l ∷ ls) w (Some spot) h = h.2

pub scanned_led : (r : Range) (h : List Move) (m : Scan × Cache) → Scanned r h m → IsLed (leaves_of h) m.0.spot
scanned_led r h m came = let stands : Stands r h m = scanned_stands r h m came in in_hand_led r (leaves_of h) m.0.walk m.0.spot stands.holds.hand

-- a scan is of its range at each of its calls
pub scanned_range : (r : Range) (h : List Move) (m : Scan × Cache) → Scanned r h m → range_of m.0 ≡ r
scanned_range r h m came = let stands : Stands r h m = scanned_stands r h m came in of_range r m.0 stands.holds.to stands.holds.walk

pub next_means : (r : Range) (h : List Move) (who : Caller) (before after : Seen) (m n : Scan × Cache) (a : Answer) (turn : Turn ℕ) → Scanned r h m
    → Makes who (scan_asks m) a before after → Took (LeadsBy scan_next) KeepsServed m a n turn → Means r (deed_of who m a before after) n h turn
next_means r h who before after m n a More came made took =
    let stands : Stands r h m = scanned_stands r h m came in
    let holds : Holds r (leaves_of h) n.0 = subst (Leads r (leaves_of h) m a) took (next_leads r (leaves_of h) m a stands.holds) in
    of_range r n.0 holds.to holds.walk
next_means r h who before after m n a (Stopped t) came made took = tt
next_means r h who before after m n a (Ended page) came made took =
    let stands : Stands r h m = scanned_stands r h m came in
    let end : HoldsAtEnd r (leaves_of h) m a n page = subst (Leads r (leaves_of h) m a) took (next_leads r (leaves_of h) m a stands.holds) in
    record {
      leaf = end.leaf;
      served = served_by r.tree (deed_of who m a before after) end.leaf made end.at.got;
      in_hand = end.at.in_hand;
      kept = end.kept;
      of = of_range r n.0 end.at.to end.at.walk;
      earlier = stands.served;
      meeting = (end.at.continues, stands.meeting);
      last = λ off. past_by r.to end.leaf n.0.next end.next (ap (λ (k : Option (List ℕ)). is_wanted k n.0.next) (sym end.at.to) ∙ off);
    }
