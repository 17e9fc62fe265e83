-- What a step of a settling comes to, whatever branches led there.
use Rattle.std.proofs.Common.{◌≡◌, ◌≢◌, ◌<◌, ◌≤◌, ◌+◌, ℕ, List, [], ◌∷◌, ◌++◌, Option, Some, None, refl, sym, subst, Bool, true, false, cond, arith}
use Rattle.std.specs.Prelude.{◌==◌, nat_lt}
use Rattle.std.proofs.lemmas.Bool.{eqb-true}
use Rattle.std.proofs.lemmas.Bool.Decides.{nat_tests}
use Rattle.leaf_view.specs.Lookup.{page_at}
use Rattle.settle_run.proofs.Words.{Ends, Goes, Next, Stops, Turn, Ended, More, Stopped, Trouble, Part, Client, Page, Tree}
use Rattle.db_base.specs.declared.trouble.Trouble.TheVariants as trouble
use Rattle.page_ckpt.specs.Paging.{Paging}
use Rattle.recover_run.specs.Ids.{new_ids}
use Rattle.recover_run.specs.Recovery.{Recovery}
use Rattle.tree_ckpt.specs.Making.{Making}
use Rattle.settle_run.specs.Parts.{part_of_client, part_of_tree, part_again, part_received}
use Rattle.settle_run.specs.Settling.{Settling, Step, begins, to_page, is_visited, goes_right, goes_on, passed_with, passed, counted, with_part, after_turn, moved}
use Rattle.settle_run.specs.Meaning.{next_of}

-- ---- behind a part that ended

-- The same again, where it received something new; else the next client, the first tree, the first page of a tree, its right page unless its own
-- checkpoints were made, the next tree, or the end.
pub data Passes : Settling → Step → Type 0 where
  again : (s : Settling) (id : ℕ) (ids : List ℕ) → new_ids s.known (part_received s.part) ≡ id ∷ ids
      → Passes s (Goes (record s { part = part_again s.part; known = s.known ++ id ∷ ids }))
  next_client : (s : Settling) (client : ℕ) (m : Recovery) → client < 64 → Passes (with_part s (Client client m)) (begins s (part_of_client (client + 1)))
  first_tree : (s : Settling) (client : ℕ) (m : Recovery) → 64 ≤ client → Passes (with_part s (Client client m)) (begins s (part_of_tree 1))
  first_page : (s : Settling) (tree : ℕ) (m : Making) → new_ids s.known m.received ≡ []
      → Passes (with_part s (Tree tree m)) (to_page (record s { visited = [] }) tree 1)
  right_page : (s : Settling) (tree page : ℕ) (m : Paging) (right : ℕ) → new_ids s.known m.received ≡ [] → page_at m.home.right ≡ Some right
      → is_visited s right ≡ false → Passes (with_part s (Page tree page m)) (to_page s tree right)
  round : (s : Settling) (tree page : ℕ) (m : Paging) (right : ℕ) → new_ids s.known m.received ≡ [] → page_at m.home.right ≡ Some right
      → is_visited s right ≡ true → Passes (with_part s (Page tree page m)) (Stops (with_part s (Page tree page m)) (trouble.Loop right))
  next_tree : (s : Settling) (tree page : ℕ) (m : Paging) → new_ids s.known m.received ≡ [] → page_at m.home.right ≡ None → tree < 16
      → Passes (with_part s (Page tree page m)) (begins (record s { visited = [] }) (part_of_tree (tree + 1)))
  all_done : (s : Settling) (tree page : ℕ) (m : Paging) → new_ids s.known m.received ≡ [] → page_at m.home.right ≡ None → 16 ≤ tree
      → Passes (with_part s (Page tree page m)) (Ends (with_part s (Page tree page m)) (record { calls = s.calls }))

is_less : (a b : ℕ) → nat_lt a b ≡ true → a < b
is_less a b e = grind (arith, nat_tests)

is_most : (a b : ℕ) → nat_lt a b ≡ false → b ≤ a
is_most a b e = grind (arith, nat_tests)

passes_on : (s : Settling) (p : Part) → new_ids s.known (part_received p) ≡ [] → Passes (with_part s p) (goes_on (with_part s p) p)
passes_on s (Client client m) none = on (nat_lt client 64) refl where
  on : (b : Bool) → nat_lt client 64 ≡ b → Passes (with_part s (Client client m)) (begins s (cond b (part_of_client (client + 1)) (part_of_tree 1)))
  on true less = next_client s client m (is_less client 64 less)
  on false most = first_tree s client m (is_most client 64 most)
passes_on s (Tree tree m) none = first_page s tree m none
passes_on s (Page tree page m) none = on (page_at m.home.right) refl where
  here : Settling
  here = with_part s (Page tree page m)

  ends : page_at m.home.right ≡ None → (b : Bool) → nat_lt tree 16 ≡ b
      → Passes here (cond b (begins (record here { visited = [] }) (part_of_tree (tree + 1))) (Ends here (record { calls = s.calls })))
  ends last true less = next_tree s tree page m none last (is_less tree 16 less)
  ends last false most = all_done s tree page m none last (is_most tree 16 most)

  turns : (right : ℕ) → page_at m.home.right ≡ Some right → (b : Bool) → is_visited s right ≡ b
      → Passes here (cond b (Stops here (trouble.Loop right)) (to_page here tree right))
  turns right link true seen = round s tree page m right none link seen
  turns right link false new = right_page s tree page m right none link new

  on : (o : Option ℕ) → page_at m.home.right ≡ o → Passes here (goes_right here tree o)
  on None last = ends last (nat_lt tree 16) refl
  on (Some right) link = turns right link (is_visited s right) refl

pub passes : (s : Settling) → Passes s (passed s)
passes s = on (new_ids s.known (part_received s.part)) refl where
  on : (ids : List ℕ) → new_ids s.known (part_received s.part) ≡ ids → Passes s (passed_with s ids)
  on [] none = passes_on s s.part none
  on (id ∷ ids) news = again s id ids news

pub passes_by : (s : Settling) (next : Step) → passed s ≡ next → Passes s next
passes_by s next e = subst (Passes s) e (passes s)

-- ---- behind a step of the part at work

-- The part goes on, or stops the settling; or it ended, and stops the settling if a deletion had failed.
pub data Comes (s : Settling) : Next Part ℕ → Step → Type 0 where
  goes : (p : Part) → Comes s (Goes p) (Goes (counted (with_part s p)))
  stops : (p : Part) (t : Trouble) → Comes s (Stops p t) (Stops (counted (with_part s p)) t)
  leaves : (p : Part) (left : ℕ) → left ≢ 0 → Comes s (Ends p left) (Stops (counted (with_part s p)) trouble.Failed)
  ends : (p : Part) (next : Step) → passed (counted (with_part s p)) ≡ next → Comes s (Ends p 0) next

some_is : (n : ℕ) → (n == 0) ≡ false → n ≢ 0
some_is n e = grind (arith, nat_tests)

pub comes : (s : Settling) (x : Next Part ℕ) → Comes s x (moved s x)
comes s (Goes p) = goes p
comes s (Stops p t) = stops p t
comes s (Ends p left) = on (left == 0) refl where
  mid : Settling
  mid = counted (with_part s p)

  on : (b : Bool) → (left == 0) ≡ b → Comes s (Ends p left) (cond b (passed mid) (Stops mid trouble.Failed))
  on true e = subst (λ (n : ℕ). Comes s (Ends p n) (passed mid)) (sym (eqb-true left 0 e)) (ends p (passed mid) refl)
  on false e = leaves p left (some_is left e)

-- .. where the settling goes on by that
pub came_by : (s : Settling) (x : Next Part ℕ) (next : Step) → next ≡ moved s x → Comes s x next
came_by s x next leads = subst (Comes s x) (sym leads) (comes s x)

pub came_after : (s : Settling) (p : Part) (turn : Turn ℕ) (next : Step) → after_turn (with_part s p) turn ≡ next → Comes s (next_of p turn) next
came_after s p More next e = subst (Comes s (Goes p)) e (comes s (Goes p))
came_after s p (Ended left) next e = subst (Comes s (Ends p left)) e (comes s (Ends p left))
came_after s p (Stopped t) next e = subst (Comes s (Stops p t)) e (comes s (Stops p t))
