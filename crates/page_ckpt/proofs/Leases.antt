-- Which leases a page checkpoint holds after each of its calls, which it names and gives back, and how many calls it made.
use Rattle.std.proofs.Common.{◌≡◌, ◌≢◌, ℕ, ◌≤◌, ◌+◌, ◌*◌, Bool, true, false, List, [], ◌∷◌, ◌++◌, length, length-append, Option, Some, None, Err, refl, sym, ap, subst, ◌∙◌, arith}
use Rattle.std.specs.Prelude.{◌||◌, ◌==◌}
use Rattle.std.specs.List.{list_any}
use Rattle.std.proofs.lemmas.Bool.{eqb-false}
use Rattle.db_base.specs.declared.names.Lock.{Lock}
use Rattle.db_base.specs.declared.names.Lock.TheVariants as lock
use Rattle.cloud_trait.specs.declared.answer.Answer.TheVariants as call
use Rattle.cloud_trait.specs.Ask.{Ask, Take}
use Rattle.ckpt_parts.specs.Deleting.{next_id, tried}
use Rattle.ckpt_parts.specs.Leasing.{claims_of, outstanding, outstanding_after}
use Rattle.page_ckpt.specs.declared.stage.Stage.TheVariants.{TakingHome, GettingHome, Receiving, TakingRight, GettingRight, PuttingRight, ReleasingRight, PuttingHome, Deleting as DeletingNext, Releasing, Finished}
use Rattle.page_ckpt.specs.Paging.{Paging, Step, new_paging, paging_ask, ask_at, delete_next, is_visited, went, PagingLeads, KeepsLeases}
use Rattle.page_ckpt.specs.End.{held_count}
use Rattle.page_ckpt.specs.Leases.{Went, HoldsNone, HoldsHome, HoldsBoth, HoldsFirst, HasIds, HoldsAt, DueAt, tries, StandsAt, Stands, Names, GivesBack, AreReturned, AreFew}
use Rattle.page_ckpt.proofs.Words.{Trouble, Answer, CkptAnswer, Turn, More, Ended, Stopped, Claim, Goes, Ends, Stops, Took, Deed, Came, given_of, done_of, Fits, Link, Stage}
use Rattle.page_ckpt.proofs.Outcomes.{leased, Onward, Clears, Fails, Comes, comes}
use Rattle.page_ckpt.proofs.Outcomes as step

-- where a step goes on, it stands so; where it ends, nothing is held and nothing is outstanding
abbrev NextStands : ℕ → List Claim → Step → Type 0
NextStands made claims (Goes n) = StandsAt n made claims
NextStands made claims (Ends n a) = (claims_of n.held ≡ []) × (claims ≡ [])
NextStands made claims (Stops n t) = (claims_of n.held ≡ []) × (claims ≡ [])

-- what is outstanding after one more call
abbrev after : Paging → Answer → List Claim → List Claim
after p a claims = outstanding_after (paging_ask p) a claims

-- after the call of a stage: these leases are held, the page's first, and so many calls were made at most
record IsHeldAfter (q : Paging) (made most : ℕ) (claims : List Claim) : Type 0 where
  held : claims_of q.held ≡ claims
  own : HoldsFirst q.held.first
  few : made + held_count q.held ≤ most

-- .. of the leases the page's alone
record IsHome (q : Paging) (made most : ℕ) (claims : List Claim) : Type 0 where
  held : claims_of q.held ≡ claims
  own : HoldsHome q q.held.first q.held.second
  few : made ≤ most

home_held : (q : Paging) (first second : Option Claim) (made most : ℕ) → HoldsHome q first second → made ≤ most
    → HoldsFirst first × (made + held_count (record { first = first; second = second }) ≤ most + 1)
home_held q (Some l) None made most own few = (tt, omega (arith, few))
home_held q (Some l) (Some r) made most own few = absurd own
home_held q None second made most own few = absurd own

none_held : (first second : Option Claim) → HoldsNone first second → claims_of (record { first = first; second = second }) ≡ []
none_held None None own = refl
none_held None (Some r) own = absurd own
none_held (Some l) second own = absurd own

-- a take that gave nothing
not_given : (mine : Lock) (a : Answer) (t : Trouble) (claims : List Claim) → given_of mine a ≡ Err t → outstanding_after (Take mine 30) a claims ≡ claims
not_given mine (call.Given l) t claims e = absurd (cc (e))
not_given mine a t claims e = refl

-- the call in hand is a deletion where an id is left
deletes : (p : Paging) (ids : List ℕ) (a : Answer) (claims : List Claim) → HasIds ids → outstanding_after (delete_next p (next_id ids)) a claims ≡ claims
deletes p [] a claims has = absurd has
deletes p (id ∷ ids) a claims has = refl

one_more : (ids : List ℕ) (deleted left : ℕ) (b : Bool) → HasIds ids → tries (tried (record { ids = ids; deleted = deleted; left = left }) b) ≡ deleted + left + 1
one_more [] deleted left b has = absurd has
one_more (id ∷ ids) deleted left true has = omega arith
one_more (id ∷ ids) deleted left false has = omega arith

-- ---- local work

onward_home : {p q : Paging} {a : Answer} {o : Option Link} {made : ℕ} {claims : List Claim} → StandsAt p made claims → Onward p a q o
    → IsHome q (made + 1) (4 * length q.visited + 3) (after p a claims)
onward_home s (step.with_run p (Some l) None ms i read some) = record { held = s.held; own = s.own; few = omega (arith, s.due) }
onward_home {claims = claims} s (step.from_right p (Some l) (Some r) a) =
    record { held = ap (after (leased p ReleasingRight (Some l) (Some r)) a) s.held; own = s.own.0; few = omega (arith, s.due) }
onward_home s on = absurd s.own

clears_home : {p q : Paging} {a : Answer} {made : ℕ} {claims : List Claim} → StandsAt p made claims → Clears p a q
    → IsHome q (made + 1) (4 * length q.visited + 4 + tries q.deletions) (after p a claims)
clears_home s (step.no_run p (Some l) None ms i read none) = record { held = s.held; own = s.own; few = omega (arith, s.due) }
clears_home s (step.home_put p (Some l) None) = record { held = s.held; own = s.own; few = omega (arith, s.due) }
clears_home {claims = claims} s (step.one_tried p (Some l) None a) = record {
  held = s.held ∙ sym (deletes (leased p DeletingNext (Some l) None) p.deletions.ids a claims s.own.1);
  own = s.own.0;
  few = omega (arith, s.due, one_more p.deletions.ids p.deletions.deleted p.deletions.left (went (done_of a)) s.own.1);
}
clears_home s (step.one_tried p (Some l) (Some r) a) = absurd s.own.0
clears_home s (step.one_tried p None second a) = absurd s.own.0
clears_home s c = absurd s.own

fails_held : {p q : Paging} {a : Answer} {t : Trouble} {made : ℕ} {claims : List Claim} → StandsAt p made claims → Fails p a q t
    → IsHeldAfter q (made + 1) (4 * length q.visited + 5 + tries q.deletions) (after p a claims)
fails_held s (step.no_home p (Some l) None a t e) = record { held = s.held; own = tt; few = omega (arith, s.due) }
fails_held s (step.bad_home p (Some l) None got t e) = record { held = s.held; own = tt; few = omega (arith, s.due) }
fails_held s (step.no_messages p (Some l) None a t e) = record { held = s.held; own = tt; few = omega (arith, s.due) }
fails_held s (step.bad_message p (Some l) None ms t e) = record { held = s.held; own = tt; few = omega (arith, s.due) }
fails_held s (step.home_not_put p (Some l) None a t e) = record { held = s.held; own = tt; few = omega (arith, s.due) }
fails_held s (step.no_right p (Some l) (Some r) a t e) = record { held = s.held; own = tt; few = omega (arith, s.due) }
fails_held s (step.bad_right p (Some l) (Some r) got t e) = record { held = s.held; own = tt; few = omega (arith, s.due) }
fails_held s (step.right_spent p (Some l) (Some r) got leaf holds some e) = record { held = s.held; own = tt; few = omega (arith, s.due) }
fails_held s (step.right_not_put p (Some l) (Some r) a t e) = record { held = s.held; own = tt; few = omega (arith, s.due) }
fails_held {claims = claims} s (step.no_lease p (Some l) None a t e) =
    record { held = s.held ∙ sym (not_given (lock.Page p.tree p.at.page) a t claims e); own = tt; few = omega (arith, s.due) }
fails_held s (step.no_lease p (Some l) (Some r) a t e) = absurd s.own.0
fails_held s (step.no_lease p None second a t e) = absurd s.own.0
fails_held {q = q} s (step.round link on seen) =
    let home = onward_home s on in
    let first = home_held q q.held.first q.held.second _ _ home.own home.few in
    record { held = home.held; own = first.0; few = omega (arith, first.1) }
fails_held {q = q} s (step.home_spent on spent) =
    let home = onward_home s on in
    let first = home_held q q.held.first q.held.second _ _ home.own home.few in
    record { held = home.held; own = first.0; few = omega (arith, first.1) }
fails_held s f = absurd s.own

-- ---- a step

or_left : (a b : Bool) → (a || b) ≡ false → a ≡ false
or_left true b e = absurd (cc (e))
or_left false b e = refl

elsewhere : (p : Paging) (page : ℕ) → is_visited p page ≡ false → page ≢ p.page
elsewhere p page e = eqb-false page p.page (or_left (page == p.page) (list_any (λ q. q == page) p.visited) e)

stands_after : {p : Paging} {a : Answer} {next : Step} {made : ℕ} {claims : List Claim} → StandsAt p made claims → Fits (paging_ask p) a → Comes p a next
    → NextStands (made + 1) (after p a claims) next
stands_after s fits (step.takes_home p None None l) = record { held = ap (λ (cs : List Claim). l ∷ cs) s.held; own = fits; due = omega (arith, s.due) }
stands_after {claims = claims} s fits (step.refused p first second a t e) =
    (none_held first second s.own, not_given (lock.Page p.tree p.page) a t claims e ∙ (sym s.held ∙ none_held first second s.own))
stands_after s fits (step.stops q t f) = let held = fails_held s f in record { held = held.held; own = held.own; due = held.few }
stands_after s fits (step.reads_home p (Some l) None got home holds) = record { held = s.held; own = s.own; due = omega (arith, s.due) }
stands_after s fits (step.turns q link on new) =
    let home = onward_home s on in
    let one : length (q.visited ++ link.page ∷ []) ≡ length q.visited + 1 = length-append q.visited (link.page ∷ []) in
    record { held = home.held; own = (home.own, elsewhere q link.page new); due = omega (arith, home.few, one) }
stands_after s fits (step.takes_right p (Some l) None r) =
    record { held = ap (λ (cs : List Claim). r ∷ cs) s.held; own = (s.own.0, fits, s.own.1); due = omega (arith, s.due) }
stands_after s fits (step.takes_right p (Some l) (Some m) r) = absurd s.own.0
stands_after s fits (step.takes_right p None second r) = absurd s.own.0
stands_after s fits (step.puts_right p (Some l) (Some r) got leaf out holds some fresh is) = record { held = s.held; own = s.own; due = omega (arith, s.due) }
stands_after s fits (step.leaves_right p (Some l) (Some r) got leaf holds none) = record { held = s.held; own = s.own; due = omega (arith, s.due) }
stands_after s fits (step.right_put p (Some l) (Some r)) = record { held = s.held; own = s.own; due = omega (arith, s.due) }
stands_after s fits (step.puts_home q out on fresh is) = let home = onward_home s on in record { held = home.held; own = home.own; due = home.few }
stands_after s fits (step.deletes q id c e) =
    let home = clears_home s c in record { held = home.held; own = (home.own, has_ids q.deletions.ids e); due = home.few } where
      has_ids : (ids : List ℕ) → next_id ids ≡ Some id → HasIds ids
      has_ids [] none = absurd (cc (none))
      has_ids (x ∷ ids) some = tt
stands_after s fits (step.rests q c e) =
    let home = clears_home s c in
    let first = home_held q q.held.first q.held.second _ _ home.own home.few in
    record { held = home.held; own = first.0; due = omega (arith, first.1) }
stands_after s fits (step.gives_back p l r a) =
    record { held = ap (after (leased p Releasing (Some l) (Some r)) a) s.held; own = tt; due = omega (arith, s.due) }
stands_after s fits (step.ends p (Some l) None a last e) = (refl, sym (ap (after (leased p Releasing (Some l) None) a) s.held))
stands_after s fits (step.ends p (Some l) (Some r) a last e) = absurd last
stands_after s fits (step.stopped p (Some l) None a t last e) = (refl, sym (ap (after (leased p Releasing (Some l) None) a) s.held))
stands_after s fits (step.stopped p (Some l) (Some r) a t last e) = absurd last
stands_after s fits c = absurd s.own

step_stands : (p : Paging) (made : ℕ) (claims : List Claim) (a : Answer) (next : Step) → StandsAt p made claims → Fits (paging_ask p) a → PagingLeads p a next
    → NextStands (made + 1) (after p a claims) next
step_stands p made claims a next s fits leads = stands_after s fits (comes p a next leads)

-- ---- histories

pub came_stands : (tree page : ℕ) (h : List Deed) (p : Paging) → Came paging_ask PagingLeads (new_paging tree page) h p → Stands p h
came_stands tree page [] p came = subst (λ (q : Paging). StandsAt q 0 []) (sym came) (record { held = refl; own = tt; due = omega arith })
came_stands tree page (d ∷ h) p came =
    let from : Paging = came.0 in
    let before : Stands from h = came_stands tree page h from came.1 in
    let fits : Fits (paging_ask from) d.answer = subst (λ (ask : Ask). Fits ask d.answer) came.2 came.3.fits in
    let after : StandsAt p (length h + 1) (outstanding_after (paging_ask from) d.answer (outstanding h)) =
    step_stands from (length h) (outstanding h) d.answer (Goes p) before fits came.4 in
    let asked : StandsAt p (length h + 1) (outstanding (d ∷ h)) =
    subst (λ (ask : Ask). StandsAt p (length h + 1) (outstanding_after ask d.answer (outstanding h))) (sym came.2) after in
    let one : length h + 1 ≡ length (d ∷ h) = omega arith in
    subst (λ (n : ℕ). StandsAt p n (outstanding (d ∷ h))) one asked

pub went_stands : (p : Paging) (h : List Deed) → Went h p → Stands p h
went_stands p h came = came_stands p.tree p.page h p came

-- ---- what the call in hand names

other_lock : (tree page other : ℕ) (l : Claim) → l.lock ≡ lock.Page tree page → other ≢ page → l.lock ≢ lock.Page tree other
other_lock tree page other l own else same = else (page_of (sym same ∙ own)) where
  page_of : lock.Page tree other ≡ lock.Page tree page → other ≡ page
  page_of e = cc (e)

deletes_names : (p : Paging) (ids : List ℕ) (claims : List Claim) → HasIds ids → Names (delete_next p (next_id ids)) claims
deletes_names p [] claims has = absurd has
deletes_names p (id ∷ ids) claims has = tt

NamesBy : Stage → Paging → Option Claim → Option Claim → Type 0
NamesBy stage p first second =
    HoldsAt stage p first second → Names (ask_at stage (leased p stage first second)) (claims_of (record { first = first; second = second }))

home_names : (p : Paging) (stage : Stage) (first second : Option Claim)
    → ((l : Claim) → HoldsAt stage p (Some l) None → Names (ask_at stage (leased p stage (Some l) None)) (l ∷ []))
    → (HoldsAt stage p first second → HoldsHome p first second) → NamesBy stage p first second
unfolding NamesBy
home_names p stage (Some l) None named home own = named l own
home_names p stage (Some l) (Some r) named home own = absurd (home own)
home_names p stage None second named home own = absurd (home own)

both_names : (p : Paging) (stage : Stage) (first second : Option Claim)
    → ((l r : Claim) → Names (ask_at stage (leased p stage (Some l) (Some r))) (r ∷ l ∷ []))
    → (HoldsAt stage p first second → HoldsBoth p first second) → NamesBy stage p first second
unfolding NamesBy
both_names p stage (Some l) (Some r) named both own = named l r
both_names p stage (Some l) None named both own = absurd (both own)
both_names p stage None second named both own = absurd (both own)

taking_names : (p : Paging) (first second : Option Claim) → NamesBy TakingHome p first second
unfolding NamesBy
taking_names p None None own = tt
taking_names p None (Some r) own = absurd own
taking_names p (Some l) second own = absurd own

releasing_names : (p : Paging) (first second : Option Claim) → NamesBy Releasing p first second
unfolding NamesBy
releasing_names p (Some l) None own = refl
releasing_names p (Some l) (Some r) own = refl
releasing_names p None second own = absurd own

finished_names : (p : Paging) (first second : Option Claim) → NamesBy Finished p first second
unfolding NamesBy
finished_names p first second own = absurd own

names_by : (stage : Stage) (p : Paging) (first second : Option Claim) → NamesBy stage p first second
names_by TakingHome p first second = taking_names p first second
names_by GettingHome p first second = home_names p GettingHome first second (λ l own. refl) (λ own. own)
names_by Receiving p first second = home_names p Receiving first second (λ l own. tt) (λ own. own)
names_by TakingRight p first second =
    home_names p TakingRight first second (λ l own. (other_lock p.tree p.page p.at.page l own.0 own.1, tt)) (λ own. own.0)
names_by GettingRight p first second = both_names p GettingRight first second (λ l r. refl) (λ own. own)
names_by PuttingRight p first second = both_names p PuttingRight first second (λ l r. refl) (λ own. own)
names_by ReleasingRight p first second = both_names p ReleasingRight first second (λ l r. refl) (λ own. own)
names_by PuttingHome p first second = home_names p PuttingHome first second (λ l own. refl) (λ own. own)
names_by DeletingNext p first second =
    home_names p DeletingNext first second (λ l own. deletes_names (leased p DeletingNext (Some l) None) p.deletions.ids (l ∷ []) own.1) (λ own. own.0)
names_by Releasing p first second = releasing_names p first second
names_by Finished p first second = finished_names p first second

pub stands_names : (p : Paging) (h : List Deed) → Stands p h → Names (paging_ask p) (outstanding h)
unfolding NamesBy
stands_names p h s = subst (λ (cs : List Claim). Names (paging_ask p) cs) s.held (names_by p.stage p p.held.first p.held.second s.own)

-- ---- an end gives all back

pub stands_gives : (old new : Paging) (h : List Deed) (a : Answer) (turn : Turn CkptAnswer) → Stands old h → Fits (paging_ask old) a
    → Took PagingLeads KeepsLeases old a new turn → GivesBack new turn
stands_gives old new h a More s fits took = tt
stands_gives old new h a (Ended x) s fits took =
    let ends : NextStands (length h + 1) (outstanding_after (paging_ask old) a (outstanding h)) (Ends new x) =
    step_stands old (length h) (outstanding h) a (Ends new x) s fits took in ends.0
stands_gives old new h a (Stopped t) s fits took = λ memory.
    let stops : NextStands (length h + 1) (outstanding_after (paging_ask old) a (outstanding h)) (Stops new t) =
    step_stands old (length h) (outstanding h) a (Stops new t) s fits (took.0 memory) in stops.0

-- .. by its calls
pub stands_returns : (old new : Paging) (h : List Deed) (a : Answer) (turn : Turn CkptAnswer) → Stands old h → Fits (paging_ask old) a
    → Took PagingLeads KeepsLeases old a new turn → AreReturned (after old a (outstanding h)) turn
stands_returns old new h a More s fits took = tt
stands_returns old new h a (Ended x) s fits took =
    let ends : NextStands (length h + 1) (after old a (outstanding h)) (Ends new x) = step_stands old (length h) (outstanding h) a (Ends new x) s fits took in ends.1
stands_returns old new h a (Stopped t) s fits took = λ memory.
    let stops : NextStands (length h + 1) (after old a (outstanding h)) (Stops new t) = step_stands old (length h) (outstanding h) a (Stops new t) s fits (took.0 memory) in
    stops.1

-- ---- the calls are few

due_few : (stage : Stage) (rights tried ids held made : ℕ) → (stage ≡ Finished → ⊥) → (stage ≡ Releasing → 1 ≤ held) → DueAt stage rights tried held made
    → made + 1 ≤ 5 + (tried + ids) + 4 * rights
due_few TakingHome rights tried ids held made over some due = omega (arith, due)
due_few GettingHome rights tried ids held made over some due = omega (arith, due)
due_few Receiving rights tried ids held made over some due = omega (arith, due)
due_few TakingRight rights tried ids held made over some due = omega (arith, due)
due_few GettingRight rights tried ids held made over some due = omega (arith, due)
due_few PuttingRight rights tried ids held made over some due = omega (arith, due)
due_few ReleasingRight rights tried ids held made over some due = omega (arith, due)
due_few PuttingHome rights tried ids held made over some due = omega (arith, due)
due_few DeletingNext rights tried ids held made over some due = omega (arith, due)
due_few Releasing rights tried ids held made over some due = omega (arith, due, some refl)
due_few Finished rights tried ids held made over some due = absurd (over refl)

some_held : (first second : Option Claim) → HoldsFirst first → 1 ≤ held_count (record { first = first; second = second })
some_held (Some l) None own = omega arith
some_held (Some l) (Some r) own = omega arith
some_held None second own = absurd own

pub stands_few : (p : Paging) (h : List Deed) → Stands p h → AreFew p (length h + 1)
stands_few p h s =
    due_few p.stage (length p.visited) (tries p.deletions) (length p.deletions.ids) (held_count p.held) (length h)
    (λ over. subst (λ (stage : Stage). HoldsAt stage p p.held.first p.held.second) over s.own)
    (λ last. some_held p.held.first p.held.second (subst (λ (stage : Stage). HoldsAt stage p p.held.first p.held.second) last s.own))
    s.due
