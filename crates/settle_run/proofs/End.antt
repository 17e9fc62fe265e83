-- A settling ends: each step leaves fewer calls than were left before it.
use Rattle.std.proofs.Common.{◌≡◌, ◌<◌, ◌≤◌, ◌+◌, ◌-◌, ◌*◌, ◌^◌, ℕ, List, [], ◌∷◌, ◌++◌, length, refl, sym, subst, ap, ◌∙◌, arith, length-append}
use Rattle.std.proofs.lemmas.Nat.{mul-add-lt}
use Rattle.settle_run.proofs.Words.{Ends, Goes, Next, Stops, Took, Answer, Failed, CkptAnswer, Turn, Ended, More, Stopped, RecoverAnswer, Part, Client, Page, Tree, Settled}
use Rattle.recover_run.specs.Recovery.{Recovery}
use Rattle.page_ckpt.specs.Paging.{Paging}
use Rattle.tree_ckpt.specs.Making.{Making}
use Rattle.recover_run.specs.End.{calls_left as recovery_left}
use Rattle.page_ckpt.specs.End.{calls_left as paging_left}
use Rattle.tree_ckpt.specs.End.{calls_in}
use Rattle.settle_run.specs.Parts.{recovered_turn, left_turn, KeepsPart, part_of_client, part_of_tree, part_of_page, part_again, recovers, makes, pages, PartLeads}
use Rattle.settle_run.specs.Settling.{Settling, Step, counted, with_part, after_turn, SamePart}
use Rattle.settle_run.specs.End.{part_left, places_left, parts_left, calls_left}
use Rattle.settle_run.proofs.Outcomes.{Passes, again, next_client, first_tree, first_page, right_page, round, next_tree, all_done, passes_by, Comes, goes, stops, leaves, ends, came_after}

-- ---- numbers

-- a smaller number before a digit
digit : (w a b x y : ℕ) → a < b → x < w → a * w + x < b * w + y
digit w a b x y less small =
    let low : a * w + x < w * b = mul-add-lt a w x b less small in
    omega (arith, low)

-- the same number before a smaller digit
last_digit : (w a b x y : ℕ) → a ≡ b → x < y → a * w + x < b * w + y
last_digit w a b x y e less = subst (λ (k : ℕ). k * w + x < b * w + y) (sym e) (omega (arith, less))

-- ---- places

-- a step of a part stays at its client or queue
abbrev pub Stays : Part → Next Part ℕ → Type 0
Stays p (Goes q) = part_again q ≡ part_again p
Stays p (Ends q left) = part_again q ≡ part_again p
Stays p (Stops q t) = part_again q ≡ part_again p

pub part_stays : (p : Part) (a : Answer) (next : Next Part ℕ) → PartLeads p a next → Stays p next
part_stays (Client client m) a next leads = subst (Stays (Client client m)) (sym leads.2) (on leads.0) where
  on : (n : Next Recovery RecoverAnswer) → Stays (Client client m) (recovers client n)
  on (Goes n) = refl
  on (Ends n x) = refl
  on (Stops n t) = refl
part_stays (Tree tree m) a next leads = subst (Stays (Tree tree m)) (sym leads.2) (on leads.0) where
  on : (n : Next Making CkptAnswer) → Stays (Tree tree m) (makes tree n)
  on (Goes n) = refl
  on (Ends n x) = refl
  on (Stops n t) = refl
part_stays (Page tree page m) a next leads = subst (Stays (Page tree page m)) (sym leads.2) (on leads.0) where
  on : (n : Next Paging CkptAnswer) → Stays (Page tree page m) (pages tree page n)
  on (Goes n) = refl
  on (Ends n x) = refl
  on (Stops n t) = refl

again_places : (p : Part) (visited : ℕ) → places_left (part_again p) visited ≡ places_left p visited
again_places (Client client m) visited = refl
again_places (Tree tree m) visited = refl
again_places (Page tree page m) visited = refl

same_places : (p q : Part) (visited : ℕ) → part_again q ≡ part_again p → places_left q visited ≡ places_left p visited
same_places p q visited e = sym (again_places q visited) ∙ ap (λ (x : Part). places_left x visited) e ∙ again_places p visited

-- a part before its first call has fewer calls left than the bound of all
again_small : (p : Part) → part_left (part_again p) < 2 ^ 130
again_small (Client client m) = omega arith
again_small (Tree tree m) = omega arith
again_small (Page tree page m) = omega arith

-- ---- steps

-- a new part has fewer behind it, if no list is longer than memory, and is itself within the bound
abbrev Fewer : Settling → Step → Type 0
Fewer s (Goes n) = length n.known ≤ 2 ^ 64 → length n.visited ≤ 2 ^ 64 → (parts_left n < parts_left s) × (part_left n.part < 2 ^ 130)
Fewer s (Ends n x) = Unit {0}
Fewer s (Stops n t) = Unit {0}

-- a new place is one place less
less_place : (s n : Settling) → places_left n.part (length n.visited) < places_left s.part (length s.visited) → parts_left n < parts_left s
less_place s n less =
    digit (2 ^ 64 + 1) (places_left n.part (length n.visited)) (places_left s.part (length s.visited)) (2 ^ 64 - length n.known) (2 ^ 64 - length s.known)
    less (omega arith)

one_longer : (xs : List ℕ) (x : ℕ) → length (xs ++ x ∷ []) ≡ length xs + 1
one_longer xs x = rw (length-append xs (x ∷ [])) refl

fewer : (s : Settling) (next : Step) → Passes s next → Fewer s next
fewer _ _ (again s id ids news) = λ known visited.
    let more : length (s.known ++ id ∷ ids) ≡ length s.known + length (id ∷ ids) = rw (length-append s.known (id ∷ ids)) refl in (
      last_digit (2 ^ 64 + 1) (places_left (part_again s.part) (length s.visited)) (places_left s.part (length s.visited))
          (2 ^ 64 - length (s.known ++ id ∷ ids)) (2 ^ 64 - length s.known) (again_places s.part (length s.visited)) (omega (arith, more, known)),
      again_small s.part,
    )
fewer _ _ (next_client s client m less) = λ known visited.
    (less_place (with_part s (Client client m)) (record s { part = part_of_client (client + 1); known = [] }) (omega (arith, less)), omega arith)
fewer _ _ (first_tree s client m most) = λ known visited.
    (less_place (with_part s (Client client m)) (record s { part = part_of_tree 1; known = [] }) (omega arith), omega arith)
fewer _ _ (first_page s tree m none) = λ known visited.
    (less_place (with_part s (Tree tree m)) (record s { part = part_of_page tree 1; known = []; visited = 1 ∷ [] }) (omega arith), omega arith)
fewer _ _ (right_page s tree page m right none link new) = λ known visited.
    let more = one_longer s.visited right in
    let on : Settling = record s { part = part_of_page tree right; known = []; visited = s.visited ++ right ∷ [] } in
    (less_place (with_part s (Page tree page m)) on (omega (arith, more, visited)), omega arith)
fewer _ _ (round s tree page m right none link seen) = tt
fewer _ _ (next_tree s tree page m none last less) = λ known visited.
    (less_place (with_part s (Page tree page m)) (record s { part = part_of_tree (tree + 1); known = []; visited = [] }) (omega (arith, less)), omega arith)
fewer _ _ (all_done s tree page m none last most) = tt

-- where the settling goes on, fewer calls are left than before
abbrev Below : Settling → Step → Type 0
Below s (Goes n) = length n.known ≤ 2 ^ 64 → length n.visited ≤ 2 ^ 64 → calls_left n < calls_left s
Below s (Ends n x) = Unit {0}
Below s (Stops n t) = Unit {0}

-- .. behind a part that ended at the same place
below : (s : Settling) (p : Part) (next : Step) → places_left p (length s.visited) ≡ places_left s.part (length s.visited)
    → Fewer (counted (with_part s p)) next → Below s next
below s p (Ends n x) place less = tt
below s p (Stops n t) place less = tt
below s p (Goes n) place less = λ known visited.
    let (parts, small) = less known visited in
    let same : parts_left (counted (with_part s p)) ≡ parts_left s = ap (λ (k : ℕ). k * (2 ^ 64 + 1) + (2 ^ 64 - length s.known)) place in
    digit (2 ^ 130) (parts_left n) (parts_left s) (part_left n.part) (part_left s.part) (subst (λ (k : ℕ). parts_left n < k) same parts) small

-- a part that goes on has fewer calls left
abbrev PartBelow : Settling → Next Part ℕ → Type 0
PartBelow s (Goes p) = part_left p < part_left s.part
PartBelow s (Ends p left) = Unit {0}
PartBelow s (Stops p t) = Unit {0}

below_after : (s : Settling) (x : Next Part ℕ) (next : Step) → Stays s.part x → PartBelow s x → Comes s x next → Below s next
below_after s _ _ stays less (goes p) = λ known visited.
    last_digit (2 ^ 130) (parts_left (counted (with_part s p))) (parts_left s) (part_left p) (part_left s.part)
    (ap (λ (n : ℕ). n * (2 ^ 64 + 1) + (2 ^ 64 - length s.known)) (same_places s.part p (length s.visited) stays)) less
below_after s _ _ stays less (stops p t) = tt
below_after s _ _ stays less (leaves p left some) = tt
below_after s _ _ stays less (ends p next is) =
    below s p next (same_places s.part p (length s.visited) stays) (fewer (counted (with_part s p)) next (passes_by (counted (with_part s p)) next is))

-- by what the step of the part came to
below_turn : (s : Settling) (p : Part) (a : Answer) (turn : Turn ℕ) (next : Step) → Took PartLeads KeepsPart s.part a p turn
    → (turn ≡ More → part_left p < part_left s.part) → after_turn (with_part s p) turn ≡ next → Below s next
below_turn s p a More next took less e = below_after s (Goes p) next (part_stays s.part a (Goes p) took) (less refl) (came_after s p More next e)
below_turn s p a (Ended left) next took less e =
    below_after s (Ends p left) next (part_stays s.part a (Ends p left) took) tt (came_after s p (Ended left) next e)
below_turn s p a (Stopped t) next took less e = subst (Below s) e tt

-- a step that goes on leaves fewer calls, if that of a part does
pub turn_less : (s n : Settling) (p : Part) (a : Answer) (turn : Turn ℕ) (result : Turn Settled) → Took PartLeads KeepsPart s.part a p turn
    → Took (λ m x next. after_turn m turn ≡ next) SamePart (with_part s p) Failed n result
    → length n.known ≤ 2 ^ 64 → length n.visited ≤ 2 ^ 64 → (turn ≡ More → part_left p < part_left s.part) → result ≡ More → calls_left n < calls_left s
turn_less s n p a turn More took follow known visited less e = below_turn s p a turn (Goes n) took less follow known visited
turn_less s n p a turn (Ended x) took follow known visited less e = absurd (cc (e))
turn_less s n p a turn (Stopped t) took follow known visited less e = absurd (cc (e))

-- ---- the parts

more_recovered : (turn : Turn RecoverAnswer) → recovered_turn turn ≡ More → turn ≡ More
more_recovered More e = refl
more_recovered (Ended x) e = absurd (cc (e))
more_recovered (Stopped t) e = absurd (cc (e))

more_left : (turn : Turn CkptAnswer) → left_turn turn ≡ More → turn ≡ More
more_left More e = refl
more_left (Ended x) e = absurd (cc (e))
more_left (Stopped t) e = absurd (cc (e))

pub recovery_less : (client : ℕ) (m n : Recovery) (turn : Turn RecoverAnswer) (p : Part) (left : Turn ℕ) → p ≡ Client client m → left ≡ recovered_turn turn
    → (turn ≡ More → recovery_left (2 ^ 64) 255 n < recovery_left (2 ^ 64) 255 m) → left ≡ More → part_left (Client client n) < part_left p
recovery_less client m n turn p left e f less is =
    subst (λ (q : Part). part_left (Client client n) < part_left q) (sym e) (less (more_recovered turn (sym f ∙ is)))

pub making_less : (tree : ℕ) (m n : Making) (turn : Turn CkptAnswer) (p : Part) (left : Turn ℕ) → p ≡ Tree tree m → left ≡ left_turn turn
    → (turn ≡ More → calls_in n.work < calls_in m.work) → left ≡ More → part_left (Tree tree n) < part_left p
making_less tree m n turn p left e f less is = subst (λ (q : Part). part_left (Tree tree n) < part_left q) (sym e) (less (more_left turn (sym f ∙ is)))

pub paging_less : (tree page : ℕ) (m n : Paging) (turn : Turn CkptAnswer) (p : Part) (left : Turn ℕ) → p ≡ Page tree page m → left ≡ left_turn turn
    → (turn ≡ More → paging_left n < paging_left m) → left ≡ More → part_left (Page tree page n) < part_left p
paging_less tree page m n turn p left e f less is = subst (λ (q : Part). part_left (Page tree page n) < part_left q) (sym e) (less (more_left turn (sym f ∙ is)))
