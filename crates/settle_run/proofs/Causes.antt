-- Why a settling stops, and that nothing else stops it.
use Rattle.std.proofs.Common.{◌≡◌, ℕ, [], Some, refl, sym, subst, ◌∙◌, inl, inr, true}
use Rattle.settle_run.proofs.Words.{Ends, Goes, Next, Stops, Took, Answer, Failed, Turn, Ended, More, Stopped, Trouble, Part, Client, Page, Tree, Settled}
use Rattle.recover_run.specs.Ids.{new_ids}
use Rattle.settle_run.specs.Parts.{part_received, PartLeads}
use Rattle.settle_run.specs.Settling.{Settling, Step, is_visited, counted, with_part, after_turn, SettleLeads, KeepsSettling, SamePart}
use Rattle.settle_run.specs.Meaning.{Stopping, Tells, RoundTo, MustStop, HasToStop, StopsExactly, next_of, Follows}
use Rattle.settle_run.proofs.Outcomes.{Passes, again, next_client, first_tree, first_page, right_page, round, next_tree, all_done, passes_by, Comes, goes, stops, leaves, ends, came_by, came_after}

-- ---- where a step has to stop

-- where a step leads, it had to
abbrev Matched : Settling → Next Part ℕ → Step → Type 0
Matched s x (Goes n) = (t : Trouble) → MustStop s x t → ⊥
Matched s x (Ends n y) = (t : Trouble) → MustStop s x t → ⊥
Matched s x (Stops n t) = MustStop s x t

-- a way goes round where nothing new was received
round_none : (s : Settling) (p : Part) (right : ℕ) → RoundTo s p right → new_ids s.known (part_received p) ≡ []
round_none s (Page tree page m) right way = way.0
round_none s (Tree tree m) right way = absurd way
round_none s (Client client m) right way = absurd way

-- nothing stops a part that ended well and goes nowhere round
no_round : (s : Settling) (p : Part) → ((right : ℕ) → RoundTo s p right → ⊥) → (t : Trouble) → MustStop s (Ends p 0) t → ⊥
no_round s p none t (inl failed) = absurd (failed.0 refl)
no_round s p none t (inr way) = none way.1.0 way.1.1.0

matched_passed : (s : Settling) (next : Step) → Passes s next → Matched s (Ends s.part 0) next
matched_passed _ _ (again s id ids news) = no_round s s.part (λ right way. let none = round_none s s.part right way in absurd (cc (none, news)))
matched_passed _ _ (next_client s client m less) = no_round s (Client client m) (λ right way. way)
matched_passed _ _ (first_tree s client m most) = no_round s (Client client m) (λ right way. way)
matched_passed _ _ (first_page s tree m none) = no_round s (Tree tree m) (λ right way. way)
matched_passed _ _ (right_page s tree page m right none link new) =
    no_round s (Page tree page m) (λ other (n, (to, seen)). let same : Some right ≡ Some other = sym link ∙ to in fresh other same seen)
  where
    fresh : (other : ℕ) → Some right ≡ Some other → is_visited s other ≡ true → ⊥
    fresh other same seen = let is : right ≡ other = cc (same) in absurd (cc (is, new, seen))
matched_passed _ _ (round s tree page m right none link seen) = inr (refl, (right, ((none, (link, seen)), refl)))
matched_passed _ _ (next_tree s tree page m none last less) = no_round s (Page tree page m) (λ right (n, (to, seen)). absurd (cc (last, to)))
matched_passed _ _ (all_done s tree page m none last most) = no_round s (Page tree page m) (λ right (n, (to, seen)). absurd (cc (last, to)))

matched : (s : Settling) (x : Next Part ℕ) (next : Step) → Comes s x next → Matched s x next
matched s _ _ (goes p) = λ t must. must
matched s _ _ (stops p t) = refl
matched s _ _ (leaves p left some) = inl (some, refl)
matched s _ _ (ends p next passes) =
    let mid : Settling = counted (with_part s p) in matched_passed mid next (passes_by mid next passes)

pub took_exact : (s n : Settling) (a : Answer) (turn : Turn Settled) → Took SettleLeads KeepsSettling s a n turn → StopsExactly s a turn
took_exact s n a More (x, leads, is) = (x, (leads, matched s x (Goes n) (came_by s x (Goes n) is)))
took_exact s n a (Ended y) (x, leads, is) = (x, (leads, matched s x (Ends n y) (came_by s x (Ends n y) is)))
took_exact s n a (Stopped t) took = λ k. let (x, leads, is) = took.0 k in (x, (leads, matched s x (Stops n t) (came_by s x (Stops n t) is)))

-- the settling follows where the step of its part came to
pub took_follows : (s n : Settling) (p : Part) (left : Turn ℕ) (turn : Turn Settled)
    → Took (λ m x next. after_turn m left ≡ next) SamePart (with_part s p) Failed n turn → Follows s (next_of p left) turn
took_follows s n p left More took = matched s (next_of p left) (Goes n) (came_after s p left (Goes n) took)
took_follows s n p left (Ended x) took = matched s (next_of p left) (Ends n x) (came_after s p left (Ends n x) took)
took_follows s n p left (Stopped t) took = λ k. matched s (next_of p left) (Stops n t) (came_after s p left (Stops n t) (took.0 k))

-- ---- what tells why

stopping : (s : Settling) (a : Answer) (t : Trouble) → HasToStop s a t → Stopping s a t
stopping s a t (Goes p, (leads, must)) = absurd must
stopping s a t (Stops p k, (leads, same)) = inl (p, subst (λ (u : Trouble). PartLeads s.part a (Stops p u)) (sym same) leads)
stopping s a t (Ends p left, (leads, inl (some, is))) = inr (inl (is, (p, (left, some, leads))))
stopping s a t (Ends p left, (leads, inr (none_left, (right, (way, is))))) =
    on p (subst (λ (n : ℕ). PartLeads s.part a (Ends p n)) none_left leads) way
  where
    on : (q : Part) → PartLeads s.part a (Ends q 0) → RoundTo s q right → Stopping s a t
    on (Client client m) ended never = absurd never
    on (Tree tree m) ended never = absurd never
    on (Page tree page m) ended (none, (link, seen)) = inr (inr (right, is, (tree, (page, (m, ended, none, link, seen)))))

pub exact_tells : (s : Settling) (a : Answer) (turn : Turn Settled) → StopsExactly s a turn → Tells s a turn
exact_tells s a More exact = tt
exact_tells s a (Ended x) exact = tt
exact_tells s a (Stopped t) exact = λ k. stopping s a t (exact k)
