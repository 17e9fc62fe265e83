-- Why the way down stops: what the calls brought, and where it is that the trouble is met.
use Rattle.std.proofs.Common.{◌≡◌, ◌≢◌, ℕ, true, false, List, [], ◌∷◌, Option, Some, None, Ok, Err, refl, sym, ap, subst, ◌∙◌, inl, inr, ◌⊎◌}
use Rattle.std.specs.Prelude.{◌-◌}
use Rattle.byte_format.specs.Order.{bytes_below, bytes_same}
use Rattle.byte_format.proofs.OrderLemmas.{same_is}
use Rattle.db_base.specs.declared.names.ObjName.TheVariants as object
use Rattle.db_base.specs.declared.names.Place.TheVariants as place
use Rattle.db_base.specs.declared.trouble.Trouble.{Trouble}
use Rattle.node_codec.specs.Inner.{Inner, inner_of}
use Rattle.cloud_trait.specs.declared.answer.Answer.TheVariants as call
use Rattle.tree_phases.specs.Read.{damaged, tree_held}
use Rattle.tree_phases.specs.declared.fork.Fork.TheVariants.{Right, Down}
use Rattle.tree_phases.specs.Fork.{bad_fence}
use Rattle.tree_phases.specs.Descent.{passed, kept_at, with_node}
use Rattle.tree_ckpt.specs.Moves.{root_entry, down_from}
use Rattle.tree_ckpt.specs.Causes.{Calls, Brings, WasGot, WasNode, Shows}
use Rattle.tree_ckpt.specs.Way.{IsFresh, IsPromised, behind, ComesOver, BreaksAt, BreaksFrom, from_root}
use Rattle.tree_ckpt.specs.Demands.{BreaksNode}
use Rattle.tree_ckpt.proofs.Words.{Answer, Next, Goes, Ends, Stops, Ask, Chart, KeptNode, Descent, Fork}
use Rattle.tree_ckpt.proofs.Brought.{Charted, OnWay, read_behind, seen_read, kept_with, kept_found, kept_node}
use Rattle.tree_ckpt.proofs.Lows.{ComesUpto, passed_upto, root_upto}
use Rattle.tree_ckpt.proofs.WayOutcomes.{Leads, Reads, Arrives, Gets, arrives, gets}
use Rattle.tree_ckpt.proofs.WayOutcomes as step

-- on the way down to a key
pub record KnowsWay (tree : ℕ) (d : Descent) (cs : Calls) : Type 0 where
  pub chart : Charted tree d.chart cs
  pub way : OnWay tree d.level d.low d.page d.visited cs
  pub upto : ComesUpto d

module _ (tree : ℕ) (cs : Calls) (ask : Ask) (a : Answer) where
  -- ---- behind a node

  passed_knows : (d : Descent) (n : Inner) (f : Fork) → KnowsWay tree d cs → WasNode tree d.page n cs → Leads d n f → KnowsWay tree (passed d f) cs
  passed_knows d n (Right low page) k w l = record {
    chart = record { same = k.chart.same; root = k.chart.root; nodes = k.chart.nodes };
    way = record {
      link = inr (inl (d.page, n, w, inr (sym l.promised.0, l.leads.0)));
      seen = read_behind tree d.visited d.page cs k.way.seen (w.0, w.2);
    };
    upto = l.leads.1;
  }
  passed_knows d n (Down low page) k w l = record {
    chart = k.chart;
    way = record {
      link = inr (inl (d.page, n, w, inl (ap (λ (m : ℕ). m - 1) (sym l.promised.0), (d.chart.key, l.leads.1))));
      seen = read_behind tree d.visited d.page cs k.way.seen (w.0, w.2);
    };
    upto = passed_upto d n (Down low page) l.leads;
  }

  -- ---- a node that is not what the link to it promised

  level_shows : (d : Descent) (n : Inner) → KnowsWay tree d cs → WasNode tree d.page n cs → n.level ≢ d.level → Shows tree cs ask a (damaged d.chart.tree d.page 10)
  level_shows d n k w other = inl (object.Page d.chart.tree d.page, refl, (k.chart.same, inr (inr (refl, (d.level, d.low, n, k.way.link, w, other)))))

  low_shows : (d : Descent) (n : Inner) → KnowsWay tree d cs → WasNode tree d.page n cs → bytes_same n.low d.low ≡ false → Shows tree cs ask a (bad_fence d.page d.low n.low)
  low_shows d n k w other = (other, (d.level, k.way.link, inl (n, w, refl)))

  page_is : (d : Descent) → KnowsWay tree d cs → place.Object (object.Page d.chart.tree d.page) ≡ place.Object (object.Page tree d.page)
  page_is d k = ap (λ (t : ℕ). place.Object (object.Page t d.page)) k.chart.same

  -- a low key as promised is not above the key
  never_high : {X : Type 0} (d : Descent) (n : Inner) → KnowsWay tree d cs → IsPromised d n → bytes_below d.chart.key n.low ≡ true → X
  never_high d n k promised below =
      absurd (let clash : true ≡ false = sym below ∙ ap (bytes_below d.chart.key) (same_is n.low d.low promised.1) ∙ k.upto in cc (clash))

  -- ---- over nodes that were got before

  kept_breaks : (d : Descent) (kept : KeptNode) {t : Trouble} → KnowsWay tree d cs → IsFresh d → kept_at d ≡ Some kept → Reads d kept.bytes (Err t)
      → Shows tree cs ask a t × BreaksAt tree d t
  kept_breaks d kept k fresh at (step.no_node none) =
      absurd (let level = (kept_found tree d.page d.chart.nodes kept cs k.chart.nodes at).0.1 in let clash : None ≡ Some level.0 = sym none ∙ level.1 in cc (clash))
  kept_breaks d kept k fresh at (step.other_level n is other) =
      (level_shows d n k (kept_node tree cs d kept n k.chart.nodes at is) other, (fresh, (n, (kept, at, is), other), page_is d k, refl))
  kept_breaks d kept k fresh at (step.other_low n is level other) =
      (low_shows d n k (kept_node tree cs d kept n k.chart.nodes at is) other, (fresh, (n, (kept, at, is), level, refl, other), refl, refl))
  kept_breaks d kept k fresh at (step.too_high n is promised below) = never_high d n k promised below

  abbrev Reaches : Descent → Descent → Type 0
  Reaches start d = (ns : List Inner) × ComesOver ns start d

  -- where the way goes on it is known, and so is the leaf that it ends at
  abbrev pub WayTells : Descent → Next Descent (Unit {0}) → Type 0
  WayTells start (Goes e) = KnowsWay tree e cs
  WayTells start (Ends e x) = KnowsWay tree e cs × (e.level ≡ 0)
  WayTells start (Stops e t) = Shows tree cs ask a t × BreaksFrom tree start t

  way_tells : {d : Descent} {next : Next Descent (Unit {0})} (start : Descent) → Reaches start d → KnowsWay tree d cs → Arrives d next → WayTells start next
  way_tells start comes k (step.at_leaf d level) = (k, level)
  way_tells start comes k (step.at_node d fresh none) = k
  way_tells start comes k (step.round d inner seen) =
      ((seen_read tree d.visited d.page cs k.way.seen seen, (d.level, d.low, k.way.link)), (d, comes.0, comes.1, (inner, seen, refl)))
  way_tells start comes k (step.breaks d kept t fresh at e r) = let b = kept_breaks d kept k fresh at r in (b.0, (d, comes.0, comes.1, b.1))
  way_tells start comes k (step.further d kept f p on) =
      way_tells start (p.node ∷ comes.0, (d, comes.1, (p.fresh, (kept, p.kept, p.reads), p.leads.promised, ap (passed d) p.leads.forked)))
      (passed_knows d p.node f k (kept_node tree cs d kept p.node k.chart.nodes p.kept p.reads) p.leads) on

  -- ---- from the tree object

  begun_knows : (c : Chart) → Charted tree c cs → KnowsWay tree (from_root c) cs
  begun_knows c k = record {
    chart = k;
    way = record { link = inl (tree_held c.root, k.root, refl, (c.key, refl)); seen = tt };
    upto = root_upto c;
  }

  pub down_tells : (c : Chart) → Charted tree c cs → WayTells (from_root c) (down_from c (root_entry c))
  down_tells c k = way_tells (from_root c) ([], refl) (begun_knows c k) (arrives (from_root c))

  -- ---- a node that is got

  -- it is no node as promised, or it leads to where the way is stopped
  abbrev pub NodeBreaks : Descent → Trouble → Type 0
  NodeBreaks d t =
      BreaksNode tree d a t
      ⊎ ((bytes : List ℕ) × (n : Inner) × (a ≡ call.Got (Some bytes)) × (inner_of bytes ≡ Some n) × IsPromised d n × BreaksFrom tree (behind (with_node d bytes) n) t)

  abbrev pub GotTells : Descent → Next Descent (Unit {0}) → Type 0
  GotTells d (Goes e) = KnowsWay tree e cs
  GotTells d (Ends e x) = KnowsWay tree e cs × (e.level ≡ 0)
  GotTells d (Stops e t) = Shows tree cs ask a t × NodeBreaks d t

  brought : (name : _) (got : Option (List ℕ)) → Brings name got (ask, a) → a ≡ call.Got got
  brought name got new = ap (λ (c : Ask × Answer). c.1) new.1

  got_breaks : (d : Descent) (bytes : List ℕ) {t : Trouble} → KnowsWay tree d cs → WasGot (object.Page tree d.page) (Some bytes) cs
      → Brings (object.Page tree d.page) (Some bytes) (ask, a) → Reads d bytes (Err t) → Shows tree cs ask a t × NodeBreaks d t
  got_breaks d bytes k got new (step.no_node none) = (
    inl (object.Page d.chart.tree d.page, refl, (k.chart.same, inl (bytes, new, inr (none, refl)))),
    inl (page_is d k, inl (inr (bytes, brought _ (Some bytes) new, none, refl))),
  )
  got_breaks d bytes k got new (step.other_level n is other) =
      (level_shows d n k (bytes, is, got) other, inl (page_is d k, inr (refl, (n, (bytes, brought _ (Some bytes) new, is), other))))
  got_breaks d bytes k got new (step.other_low n is level other) =
      (low_shows d n k (bytes, is, got) other, inl (refl, refl, (n, (bytes, brought _ (Some bytes) new, is), level, refl, other)))
  got_breaks d bytes k got new (step.too_high n is promised below) = never_high d n k promised below

  -- it is kept where it leads on
  got_way : (d : Descent) (bytes : List ℕ) (n : Inner) (f : Fork) → a ≡ call.Got (Some bytes) → inner_of bytes ≡ Some n → Leads d n f → (next : Next Descent (Unit {0}))
      → WayTells (passed (with_node d bytes) f) next → GotTells d next
  got_way d bytes n f new is l (Goes e) k = k
  got_way d bytes n f new is l (Ends e x) k = k
  got_way d bytes n f new is l (Stops e t) k =
      (k.0, inr (bytes, n, new, is, l.promised, subst (λ (g : Fork). BreaksFrom tree (passed (with_node d bytes) g) t) l.forked k.1))

  pub gets_tell : {d : Descent} {got : Option (List ℕ)} {next : Next Descent (Unit {0})} → KnowsWay tree d cs → WasGot (object.Page tree d.page) got cs
      → Brings (object.Page tree d.page) got (ask, a) → Gets d (Ok got) next → GotTells d next
  gets_tell {d = d} {next = next} k got new (step.goes_on bytes n f is l on) =
      let known : KnowsWay tree (with_node d bytes) cs = record {
        chart = record {
          same = k.chart.same;
          root = k.chart.root;
          nodes = kept_with tree (record { page = d.page; level = d.level; low = d.low; bytes = bytes }) d.chart.nodes cs (got, (n, is, l.promised.0)) k.chart.nodes;
        };
        way = k.way;
        upto = k.upto;
      } in
      let leads : Leads (with_node d bytes) n f = record { promised = l.promised; upto = l.upto; forked = l.forked; leads = l.leads } in
      got_way d bytes n f (brought _ (Some bytes) new) is l next
      (way_tells (passed (with_node d bytes) f) ([], refl) (passed_knows (with_node d bytes) n f known (bytes, is, got) leads) on)
  gets_tell {d = d} k got new (step.wrong bytes t r) = got_breaks d bytes k got new r
  gets_tell {d = d} k got new (step.no_root first) = (
    inl (object.Page d.chart.tree d.page, refl, (k.chart.same, inr (inl (first, refl, new)))),
    inl (page_is d k, inl (inl (first, refl, brought _ None new))),
  )
  gets_tell {d = d} k got new (step.absent other) = ((other, new, (d.level, d.low, k.way.link)), inl (refl, other, brought _ None new))
