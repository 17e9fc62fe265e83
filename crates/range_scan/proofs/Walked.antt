-- While its walk is in hand, all calls of a scan are those of the walk.
use Rattle.std.proofs.Common.{◌≡◌, Bool, true, false, List, [], ◌∷◌, Option, Some, None, refl, ap, sym, subst, ◌∙◌}
use Rattle.std.specs.Prelude.{if◌then◌else◌}
use Rattle.range_scan.proofs.Words.{Get, Goes, Leaf}
use Rattle.page_cache.specs.Cache.{Cache}
use Rattle.tree_walk.specs.Walk.{Spot, asks}
use Rattle.range_scan.specs.Scan.{Scan, scan_object_at, is_wanted, goes_on, moved_on}
use Rattle.range_scan.specs.Meaning.{Range, scan_of, Move, LedTo, Scanned, IsWalked}
use Rattle.range_scan.proofs.Outcomes.{GoesOn, came_by, Readies, scan_readies}

-- behind a leaf a right page is in hand
moved_some : (s : Scan) → goes_on s ≡ true → (moved_on s).spot ≡ None → ⊥
moved_some s going none = on s.next going (sym (ap (λ (b : Bool). (if b then record s { spot = s.next; next = None } else s).spot) going) ∙ none) where
  on : (o : Option Spot) → is_wanted s.to o ≡ true → o ≡ None → ⊥
  on None wanted e = cc (wanted)
  on (Some next) wanted e = cc (e)

pub scanned_walked : (r : Range) (h : List Move) (m : Scan × Cache) → Scanned r h m → m.0.spot ≡ None → IsWalked h m
scanned_walked r [] m (c, e) none =
    let ready = subst (Readies (scan_of r, c)) e (scan_readies (scan_of r, c)) in
    record { start = (m.0.walk, m.1); begun = (r.tree, r.from, false, c, ready.0); walked = refl }
scanned_walked r (x ∷ h) m (from, came, asked, made, led) none = on x.behind led (scanned_walked r h from came) where
  on : (o : Option Leaf) → LedTo from x.deed.answer o m → (from.0.spot ≡ None → IsWalked h from) → IsWalked (x ∷ h) m
  on None e earlier =
      let goes : GoesOn from x.deed.answer m = came_by from x.deed.answer (Goes m) e in
      let before : IsWalked h from = earlier goes.none in
      let walk_asked : x.deed.ask ≡ asks (from.0.walk, from.1) = asked ∙ ap (λ (o : Option Spot). Get (scan_object_at from.0 o)) goes.none in
      record { start = before.start; begun = before.begun; walked = ((from.0.walk, from.1), before.walked, walk_asked, made, goes.walk) }
  on (Some l) (s, (page, e, kept, going, moved)) earlier = absurd (moved_some s going (ap (λ (k : Scan). k.spot) (sym moved) ∙ none))
