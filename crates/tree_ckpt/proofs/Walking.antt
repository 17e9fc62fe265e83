-- A way that is stopped at a node that was got before stops the walk there.
use Rattle.std.proofs.Common.{◌≡◌, ◌≢◌, ℕ, true, false, List, [], ◌∷◌, Some, None, Result, Ok, Err, refl, sym, ap, subst, ◌∙◌}
use Rattle.byte_format.specs.Order.{bytes_below}
use Rattle.byte_format.proofs.OrderLemmas.{same_is}
use Rattle.db_base.specs.declared.names.ObjName.TheVariants as object
use Rattle.db_base.specs.declared.names.Place.{Place}
use Rattle.db_base.specs.declared.names.Place.TheVariants as place
use Rattle.db_base.specs.declared.trouble.Trouble.TheVariants as trouble
use Rattle.node_codec.specs.Inner.{Inner, inner_of}
use Rattle.run_cursor.specs.Covered.{is_seen}
use Rattle.tree_phases.specs.Read.{damaged}
use Rattle.tree_phases.specs.declared.fork.Fork.TheVariants.{Right, Down}
use Rattle.tree_phases.specs.Fork.{bad_fence, forked_on}
use Rattle.tree_phases.specs.Descent.{fork_of, passed, kept_at}
use Rattle.tree_ckpt.specs.Way.{IsFresh, WasKept, IsPromised, behind, ComesOver, BreaksAt, BreaksFrom}
use Rattle.tree_ckpt.proofs.Words.{Trouble, Next, Stops, KeptNode, Descent, Fork}
use Rattle.tree_ckpt.proofs.Lows.{ComesUpto, passed_upto}
use Rattle.tree_ckpt.proofs.WayOutcomes.{Leads, Reads, Arrives, node_leads, reads_fork}
use Rattle.tree_ckpt.proofs.WayOutcomes as way

-- ---- damage at a place

pub damage_same : (here where_it_is : Place) (at first : ℕ) → where_it_is ≡ here → at ≡ first → trouble.Damaged here first ≡ trouble.Damaged where_it_is at
damage_same here where_it_is at first one two = ap (λ (x : Place). trouble.Damaged x first) (sym one) ∙ ap (trouble.Damaged where_it_is) (sym two)

pub page_same : (tree mine page at first : ℕ) (where_it_is : Place) → mine ≡ tree → where_it_is ≡ place.Object (object.Page tree page) → at ≡ first
    → damaged mine page first ≡ trouble.Damaged where_it_is at
page_same tree mine page at first where_it_is same here there =
    ap (λ (x : ℕ). damaged x page first) same ∙ damage_same (place.Object (object.Page tree page)) where_it_is at first here there

pub fence_same : (mine page : ℕ) (low expected here found : List ℕ) → page ≡ mine → expected ≡ low → found ≡ here
    → trouble.BadFence mine low here ≡ trouble.BadFence page expected found
fence_same mine page low expected here found one two three =
    ap (λ (x : ℕ). trouble.BadFence x low here) (sym one)
    ∙ (ap (λ (x : List ℕ). trouble.BadFence page x here) (sym two) ∙ ap (trouble.BadFence page expected) (sym three))

-- ---- a node

-- a node that is what the link to it promised leads on
pub promised_leads : (d : Descent) (bytes : List ℕ) (n : Inner) → ComesUpto d → inner_of bytes ≡ Some n → IsPromised d n → Leads d n (forked_on d.chart.key n)
promised_leads d bytes n upto is promised = record {
  promised = promised;
  upto = ap (bytes_below d.chart.key) (same_is n.low d.low promised.1) ∙ upto;
  forked = refl;
  leads = node_leads d.chart.key bytes n is;
}

-- ---- behind a node

passed_tree : (d : Descent) (f : Fork) → (passed d f).chart.tree ≡ d.chart.tree
passed_tree d (Right low page) = refl
passed_tree d (Down low page) = refl

-- the way stays in the tree, and at a page whose low key is not above the key
pub record KeepsWay (d e : Descent) : Type 0 where
  pub tree : e.chart.tree ≡ d.chart.tree
  pub upto : ComesUpto e

pub behind_keeps : (d : Descent) (bytes : List ℕ) (n : Inner) → inner_of bytes ≡ Some n → KeepsWay d (behind d n)
behind_keeps d bytes n is = record { tree = passed_tree d (forked_on d.chart.key n); upto = passed_upto d n (forked_on d.chart.key n) (node_leads d.chart.key bytes n is) }

-- ---- over nodes that were got before

-- what a way comes to behind a node that was got before
abbrev OnwardFrom : Descent → Next Descent (Unit {0}) → Result Fork Trouble → Type 0
OnwardFrom d next (Ok f) = Arrives (passed d f) next
OnwardFrom d next (Err t) = next ≡ Stops d t

at_kept : {d : Descent} {next : Next Descent (Unit {0})} (k : KeptNode) → IsFresh d → kept_at d ≡ Some k → Arrives d next → OnwardFrom d next (fork_of d k.bytes)
at_kept k fresh at (way.at_leaf d level) = absurd (fresh.0 level)
at_kept k fresh at (way.at_node d new none) = absurd (let clash : None ≡ Some k = sym none ∙ at in cc (clash))
at_kept k fresh at (way.round d inner seen) = absurd (let clash : true ≡ false = sym seen ∙ fresh.1 in cc (clash))
at_kept k fresh at (way.breaks d kept t new there e r) =
    let is : Some kept ≡ Some k = sym there ∙ at in
    let same : kept ≡ k = cc (is) in
    subst (λ (m : KeptNode). OnwardFrom d (Stops d t) (fork_of d m.bytes)) same (subst (OnwardFrom d (Stops d t)) (sym e) refl)
at_kept {next = next} k fresh at (way.further d kept f p on) =
    let is : Some kept ≡ Some k = sym p.kept ∙ at in
    let same : kept ≡ k = cc (is) in
    subst (λ (m : KeptNode). OnwardFrom d next (fork_of d m.bytes)) same (subst (OnwardFrom d next) (sym p.forks) on)

-- it comes to the same from each place that it leads to
record ComesThere (next : Next Descent (Unit {0})) (start e : Descent) : Type 0 where
  arrives : Arrives e next
  keeps : KeepsWay start e

comes_over : {next : Next Descent (Unit {0})} (start e : Descent) (ns : List Inner) → ComesUpto start → ComesOver ns start e → Arrives start next → ComesThere next start e
comes_over {next = next} start e [] upto comes on =
    subst (ComesThere next start) (sym comes) (record { arrives = on; keeps = record { tree = refl; upto = upto } })
comes_over {next = next} start e (n ∷ ns) upto comes on =
    let d : Descent = comes.0 in
    let there : ComesThere next start d = comes_over start d ns upto comes.1 on in
    let kept : WasKept d n = comes.2.1 in
    let forks : fork_of d kept.0.bytes ≡ Ok (forked_on d.chart.key n) =
    reads_fork (way.leads n (forked_on d.chart.key n) kept.2 (promised_leads d kept.0.bytes n there.keeps.upto kept.2 comes.2.2)) in
    let keeps : KeepsWay d (behind d n) = behind_keeps d kept.0.bytes n kept.2 in
    subst (ComesThere next start) (sym comes.2.3) (record {
      arrives = subst (OnwardFrom d next) forks (at_kept kept.0 comes.2.0 kept.1 there.arrives);
      keeps = record { tree = keeps.tree ∙ there.keeps.tree; upto = keeps.upto };
    })

-- ---- what stops it there

-- a page to which it came before
stops_round : {d : Descent} {next : Next Descent (Unit {0})} → d.level ≢ 0 → is_seen d.visited d.page ≡ true → Arrives d next → next ≡ Stops d (trouble.Loop d.page)
stops_round inner seen (way.at_leaf d level) = absurd (inner level)
stops_round inner seen (way.at_node d fresh none) = absurd (let clash : true ≡ false = sym seen ∙ fresh.1 in cc (clash))
stops_round inner seen (way.round d above again) = refl
stops_round inner seen (way.breaks d k t fresh at e r) = absurd (let clash : true ≡ false = sym seen ∙ fresh.1 in cc (clash))
stops_round inner seen (way.further d k f p on) = absurd (let clash : true ≡ false = sym seen ∙ p.fresh.1 in cc (clash))

-- a node that is not what the link to it promised
stops_kept : {d : Descent} {n : Inner} {next : Next Descent (Unit {0})} (t u : Trouble) (fresh : IsFresh d) (kept : WasKept d n) → t ≡ u → Reads d kept.0.bytes (Err t) → Arrives d next
    → next ≡ Stops d u
stops_kept {d = d} {next = next} t u fresh kept e r on = subst (OnwardFrom d next) (reads_fork r) (at_kept kept.0 fresh kept.1 on) ∙ ap (Stops d) e

stops_at : (tree : ℕ) (d : Descent) (t : Trouble) (next : Next Descent (Unit {0})) → d.chart.tree ≡ tree → BreaksAt tree d t → Arrives d next → next ≡ Stops d t
stops_at tree d (trouble.Damaged where_it_is at) next same (fresh, (n, kept, other), there, is) on =
    stops_kept {n = n} (damaged d.chart.tree d.page 10) (trouble.Damaged where_it_is at) fresh kept (page_same tree d.chart.tree d.page at 10 where_it_is same there is)
    (way.other_level n kept.2 other) on
stops_at tree d (trouble.BadFence page expected found) next same (fresh, (n, kept, level, is, fence), here, low) on =
    stops_kept {n = n} (bad_fence d.page d.low n.low) (trouble.BadFence page expected found) fresh kept (fence_same d.page page d.low expected n.low found here low is)
    (way.other_low n kept.2 level fence) on
stops_at tree d (trouble.Loop page) next same b on = stops_round b.0 b.1 on ∙ ap (λ (p : ℕ). Stops d (trouble.Loop p)) (sym b.2)
stops_at tree d t next same b on = absurd b

pub way_stops : (tree : ℕ) (start : Descent) (t : Trouble) (next : Next Descent (Unit {0})) → start.chart.tree ≡ tree → ComesUpto start → BreaksFrom tree start t → Arrives start next
    → (e : Descent) × (next ≡ Stops e t)
way_stops tree start t next same upto (e, ns, comes, breaks) on =
    let there : ComesThere next start e = comes_over start e ns upto comes on in (e, stops_at tree e t next (there.keeps.tree ∙ same) breaks there.arrives)
