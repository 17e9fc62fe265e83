-- Where the turns of a scan lead, by those of its walk.
use Rattle.std.proofs.Common.{◌≡◌, ℕ, false, Option, Some, None, refl, ap, sym, subst, ◌∙◌}
use Rattle.std.specs.Prelude.{is_some}
use Rattle.range_scan.proofs.Words.{Get, Caller, Ends, Goes, LeadsBy, Next, Steps, Stops, Took, Seen, Makes, Answer, Turn, Ended, More, Stopped, Trouble, occasion_of}
use Rattle.page_cache.specs.Cache.{Cache}
use Rattle.tree_walk.specs.Moves.{Moves}
use Rattle.tree_walk.specs.Walk.{Spot, Walk, walk_next, ServesOn, walk_machine}
use Rattle.tree_walk.specs.Walk.{KeepsServed as KeepsWalked}
use Rattle.range_scan.specs.Scan.{Scan, scan_object_at, scan_beside, walked_on, walked_by, next_at, scan_next, KeepsServed, scan_machine}

-- what was done beside the cache
beside_moves : (n : Next Scan ℕ) (c : Cache) (new : Scan) (turn : Turn ℕ) → Moves n new turn → Moves (scan_beside (n, c)) (new, c) turn
beside_moves n c new More h = ap (λ (m : Next Scan ℕ). scan_beside (m, c)) h
beside_moves n c new (Ended page) h = ap (λ (m : Next Scan ℕ). scan_beside (m, c)) h
beside_moves n c new (Stopped t) h = λ other. ap (λ (m : Next Scan ℕ). scan_beside (m, c)) (h other)

-- the trouble of a stop
trouble_in : Trouble → Next Scan ℕ → Trouble
trouble_in d (Goes s) = d
trouble_in d (Ends s page) = d
trouble_in d (Stops s t) = t

same_trouble : (s new : Scan) (t u : Trouble) → ◌≡◌ {A = Next Scan ℕ} (Stops s t) (Stops new u) → t ≡ u
unfolding trouble_in
same_trouble s new t u e = ap (trouble_in t) e

-- a turn of the walk, and then the scan's own work
pub walked_moves : (s : Scan) (x : Next (Walk × Cache) ℕ) (w : Walk) (c : Cache) (turn result : Turn ℕ) (new : Scan) → Moves x (w, c) turn
    → Moves (walked_on (record s { walk = w }) c turn) new result → Moves (walked_by s x) (new, c) result
walked_moves s x w c More result new e h =
    let P : Next (Scan × Cache) ℕ → Type 0 = λ y. Moves y (new, c) result in
    subst P (sym (ap (walked_by s) e)) (beside_moves (walked_on (record s { walk = w }) c More) c new result h)
walked_moves s x w c (Ended page) result new e h =
    let P : Next (Scan × Cache) ℕ → Type 0 = λ y. Moves y (new, c) result in
    subst P (sym (ap (walked_by s) e)) (beside_moves (walked_on (record s { walk = w }) c (Ended page)) c new result h)
walked_moves s x w c (Stopped t) More new e h = absurd (cc (h))
walked_moves s x w c (Stopped t) (Ended page) new e h = absurd (cc (h))
walked_moves s x w c (Stopped t) (Stopped u) new e h =
    λ other. ap (walked_by s) (e (λ m. other (sym (same_trouble (record s { walk = w }) new t u (h other)) ∙ m)))
    ∙ ap (λ (m : Next Scan ℕ). scan_beside (m, c)) (h other)

took_moves : (m : Walk × Cache) (a : Answer) (n : Walk × Cache) (turn : Turn ℕ) → Took (LeadsBy walk_next) KeepsWalked m a n turn → Moves (walk_next m a) n turn
took_moves m a n More h = h
took_moves m a n (Ended page) h = h
took_moves m a n (Stopped t) h = h.0

moves_took : (m : Scan × Cache) (a : Answer) (n : Scan × Cache) (turn : Turn ℕ) → ServesOn m.1 n.1 → Moves (scan_next m a) n turn → Took (LeadsBy scan_next) KeepsServed m a n turn
moves_took m a n More on h = h
moves_took m a n (Ended page) on h = h
moves_took m a n (Stopped t) on h = (h, λ memory. on)

pub none_of : (o : Option Spot) → is_some o ≡ false → o ≡ None
none_of None e = refl
none_of (Some spot) e = absurd (cc (e))

-- a step of the walk is one of the scan
pub walk_steps : (who : Caller) (before after : Seen) (s : Scan) (c : Cache) (w : Walk) (d : Cache) (turn result : Turn ℕ) (new : Scan) → s.spot ≡ None
    → Steps walk_machine (occasion_of who before after) (s.walk, c) (w, d) turn → ServesOn c d
    → Moves (walked_on (record s { walk = w }) d turn) new result → Steps scan_machine (occasion_of who before after) (s, c) (new, d) result
walk_steps who before after s c w d turn result new e h on moved =
    let P : Option Spot → Type 0 = λ o. Moves (next_at o (s, c) h.answer) (new, d) result in
    let Q : Option Spot → Type 0 = λ o. Makes who (Get (scan_object_at s o)) h.answer before after in
    let walked : Moves (walked_by s (walk_next (s.walk, c) h.answer)) (new, d) result =
    walked_moves s (walk_next (s.walk, c) h.answer) w d turn result new (took_moves (s.walk, c) h.answer (w, d) turn h.took) moved in
    record { answer = h.answer; made = subst Q (sym e) h.made; took = moves_took (s, c) h.answer (new, d) result on (subst P (sym e) walked) }
