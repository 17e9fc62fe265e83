-- What a step of a page checkpoint comes to, whatever branches led there.
use Rattle.std.proofs.Common.{◌≡◌, ◌≢◌, ℕ, Bool, true, false, List, [], ◌∷◌, ◌++◌, Option, Some, None, Result, Ok, Err, refl, sym, subst, inl, inr}
use Rattle.db_base.specs.Cursor.{number_of}
use Rattle.db_base.specs.declared.names.Lock.TheVariants as lock
use Rattle.db_base.specs.declared.trouble.Trouble.TheVariants as trouble
use Rattle.db_base.specs.declared.trouble.Counter.TheVariants as counter
use Rattle.leaf_view.specs.Leaf.{Leaf, IsLeaf}
use Rattle.leaf_view.specs.Lookup.{AreNumbers}
use Rattle.leaf_edit.specs.Applied.{applied}
use Rattle.leaf_edit.specs.Lacked.{lacked}
use Rattle.cloud_trait.specs.declared.answer.Answer.TheVariants as call
use Rattle.cloud_trait.proofs.ViewLemmas.{given_of-ok, got_of-ok, received_of-ok, done_of-ok}
use Rattle.ckpt_parts.specs.Deleting.{next_id, tried}
use Rattle.ckpt_parts.specs.Intakes.{has_items, ids_of, TakesIn}
use Rattle.ckpt_parts.specs.Leaves.{HoldsLinked}
use Rattle.page_ckpt.specs.declared.stage.Stage.TheVariants.{TakingHome, GettingHome, Receiving, TakingRight, GettingRight, PuttingRight, ReleasingRight, PuttingHome, Deleting as DeletingNext, Releasing, Finished}
use Rattle.page_ckpt.specs.Paging.{Paging, Step, own_queue, handed, stopping, goes_to, deleting_by, home_taken_by, HoldsNamed, HomeGot, home_read, link_of, is_visited, without_onward, to_right, GoesOnBy, RunStarted, with_intake, IntakeTaken, ReceivedBy, right_taken_by, RightLacks, RightRead, RightGot, with_applied, without_applying, right_put_by, home_put_by, went, answer_of, finished_by, AbsorbsAt, PagingLeads}
use Rattle.page_ckpt.specs.Causes.{greatest_number}
use Rattle.page_ckpt.proofs.Words.{Trouble, Answer, Message, Claim, Goes, Ends, Stops, given_of, got_of, done_of, received_of, Intake, Link, Stage}

-- ---- local work between the call and where the step ends

-- at a stage with these leases
abbrev pub leased : Paging → Stage → Option Claim → Option Claim → Paging
leased p stage first second = record p { stage = stage; held = record { first = first; second = second } }

-- the messages are noted
abbrev pub noted : Paging → List Message → Paging
noted p ms = record p { received = ids_of ms }

-- so is the link that leads on from a right page
abbrev pub linked : Paging → Leaf → Paging
linked p l = record p { onward = link_of l p.run.items }

-- messages are read behind the page's own numbers of its queue
pub record AreRead (p : Paging) (ms : List Message) (taken : Result Intake Trouble) : Type 0 where
  pub cursor : List (ℕ × ℕ)
  pub own : AreNumbers p.home.done p.page (number_of cursor)
  pub takes : TakesIn (own_queue p) cursor ms taken

-- This link leads on, or none does, once a run was taken in or a right page was given back.
pub data Onward : Paging → Answer → Paging → Option Link → Type 0 where
  with_run : (p : Paging) (first second : Option Claim) (ms : List Message) (i : Intake) → AreRead p ms (Ok i) → has_items i.run.items ≡ true
      → Onward (leased p Receiving first second) (call.Received ms) (with_intake (noted (leased p Receiving first second) ms) i) (link_of p.home i.run.items)
  from_right : (p : Paging) (first second : Option Claim) (a : Answer)
      → Onward (leased p ReleasingRight first second) a (without_onward (leased p ReleasingRight first None)) p.onward

-- The deletions come next: no run was there to be taken in, the page was put, or a deletion was tried.
pub data Clears : Paging → Answer → Paging → Type 0 where
  no_run : (p : Paging) (first second : Option Claim) (ms : List Message) (i : Intake) → AreRead p ms (Ok i) → has_items i.run.items ≡ false
      → Clears (leased p Receiving first second) (call.Received ms) (with_intake (noted (leased p Receiving first second) ms) i)
  home_put : (p : Paging) (first second : Option Claim) → Clears (leased p PuttingHome first second) call.Done (with_applied (leased p PuttingHome first second))
  one_tried : (p : Paging) (first second : Option Claim) (a : Answer)
      → Clears (leased p DeletingNext first second) a (record (leased p DeletingNext first second) { deletions = tried p.deletions (went (done_of a)) })

-- A trouble stops it: the call brought none of what it asked for, what it brought is wrong, the link leads round, or a version is the last.
pub data Fails : Paging → Answer → Paging → Trouble → Type 0 where
  no_home : (p : Paging) (first second : Option Claim) (a : Answer) (t : Trouble) → got_of a ≡ Err t
      → Fails (leased p GettingHome first second) a (leased p GettingHome first second) t
  no_messages : (p : Paging) (first second : Option Claim) (a : Answer) (t : Trouble) → received_of a ≡ Err t
      → Fails (leased p Receiving first second) a (leased p Receiving first second) t
  no_lease : (p : Paging) (first second : Option Claim) (a : Answer) (t : Trouble) → given_of (lock.Page p.tree p.at.page) a ≡ Err t
      → Fails (leased p TakingRight first second) a (leased p TakingRight first second) t
  no_right : (p : Paging) (first second : Option Claim) (a : Answer) (t : Trouble) → got_of a ≡ Err t
      → Fails (leased p GettingRight first second) a (leased p GettingRight first second) t
  right_not_put : (p : Paging) (first second : Option Claim) (a : Answer) (t : Trouble) → done_of a ≡ Err t
      → Fails (leased p PuttingRight first second) a (without_applying (leased p PuttingRight first second)) t
  home_not_put : (p : Paging) (first second : Option Claim) (a : Answer) (t : Trouble) → done_of a ≡ Err t
      → Fails (leased p PuttingHome first second) a (without_applying (leased p PuttingHome first second)) t
  bad_home : (p : Paging) (first second : Option Claim) (got : Option (List ℕ)) (t : Trouble) → HoldsNamed p.tree p.page got (Err t)
      → Fails (leased p GettingHome first second) (call.Got got) (leased p GettingHome first second) t
  bad_message : (p : Paging) (first second : Option Claim) (ms : List Message) (t : Trouble) → AreRead p ms (Err t)
      → Fails (leased p Receiving first second) (call.Received ms) (noted (leased p Receiving first second) ms) t
  bad_right : (p : Paging) (first second : Option Claim) (got : Option (List ℕ)) (t : Trouble) → HoldsLinked p.tree p.at.page p.at.low got (Err t)
      → Fails (leased p GettingRight first second) (call.Got got) (leased p GettingRight first second) t
  round : {p q : Paging} {a : Answer} (link : Link) → Onward p a q (Some link) → is_visited q link.page ≡ true → Fails p a q (trouble.Loop link.page)
  home_spent : {p q : Paging} {a : Answer} → Onward p a q None → q.home.version ≡ greatest_number → Fails p a q (trouble.Exhausted counter.Version)
  right_spent : (p : Paging) (first second : Option Claim) (got : Option (List ℕ)) (l : Leaf) → HoldsLinked p.tree p.at.page p.at.low got (Ok l)
      → has_items (lacked l p.page p.run.items) ≡ true → l.version ≡ greatest_number
      → Fails (leased p GettingRight first second) (call.Got got) (linked (leased p GettingRight first second) l) (trouble.Exhausted counter.Version)

-- ---- where it ends

-- the newest lease is the only one
abbrev pub IsLast : Option Claim → Option Claim → Type 0
IsLast (Some l) (Some r) = ⊥
IsLast first second = Unit {0}

pub data Comes : Paging → Answer → Step → Type 0 where
  takes_home : (p : Paging) (first second : Option Claim) (l : Claim)
      → Comes (leased p TakingHome first second) (call.Given l) (Goes (leased p GettingHome (Some l) None))
  refused : (p : Paging) (first second : Option Claim) (a : Answer) (t : Trouble) → given_of (lock.Page p.tree p.page) a ≡ Err t
      → Comes (leased p TakingHome first second) a (Stops (leased p TakingHome first second) t)
  stops : {p : Paging} {a : Answer} (q : Paging) (t : Trouble) → Fails p a q t → Comes p a (stopping q t)
  reads_home : (p : Paging) (first second : Option Claim) (got : Option (List ℕ)) (home : Leaf) → HoldsNamed p.tree p.page got (Ok home)
      → Comes (leased p GettingHome first second) (call.Got got) (Goes (record (leased p Receiving first second) { home = home }))
  turns : {p : Paging} {a : Answer} (q : Paging) (link : Link) → Onward p a q (Some link) → is_visited q link.page ≡ false
      → Comes p a (Goes (record q { stage = TakingRight; at = link; visited = q.visited ++ link.page ∷ [] }))
  takes_right : (p : Paging) (first second : Option Claim) (r : Claim)
      → Comes (leased p TakingRight first second) (call.Given r) (Goes (leased p GettingRight first (Some r)))
  puts_right : (p : Paging) (first second : Option Claim) (got : Option (List ℕ)) (l : Leaf) (out : List ℕ)
      → HoldsLinked p.tree p.at.page p.at.low got (Ok l) → has_items (lacked l p.page p.run.items) ≡ true → l.version ≢ greatest_number → IsLeaf out (applied l p.page p.run.items)
      → Comes (leased p GettingRight first second) (call.Got got)
      (Goes (record (linked (leased p PuttingRight first second) l) { applying = lacked l p.page p.run.items; out = out }))
  leaves_right : (p : Paging) (first second : Option Claim) (got : Option (List ℕ)) (l : Leaf) → HoldsLinked p.tree p.at.page p.at.low got (Ok l)
      → has_items (lacked l p.page p.run.items) ≡ false
      → Comes (leased p GettingRight first second) (call.Got got) (Goes (linked (leased p ReleasingRight first second) l))
  right_put : (p : Paging) (first second : Option Claim)
      → Comes (leased p PuttingRight first second) call.Done (Goes (with_applied (leased p ReleasingRight first second)))
  puts_home : {p : Paging} {a : Answer} (q : Paging) (out : List ℕ) → Onward p a q None → q.home.version ≢ greatest_number → IsLeaf out (applied q.home q.page q.run.items)
      → Comes p a (Goes (record q { stage = PuttingHome; applying = lacked q.home q.page q.run.items; out = out }))
  deletes : {p : Paging} {a : Answer} (q : Paging) (id : ℕ) → Clears p a q → next_id q.deletions.ids ≡ Some id → Comes p a (goes_to DeletingNext q)
  rests : {p : Paging} {a : Answer} (q : Paging) → Clears p a q → next_id q.deletions.ids ≡ None → Comes p a (goes_to Releasing q)
  gives_back : (p : Paging) (l r : Claim) (a : Answer) → Comes (leased p Releasing (Some l) (Some r)) a (Goes (leased p Releasing (Some l) None))
  ends : (p : Paging) (first second : Option Claim) (a : Answer) → IsLast first second → p.trouble ≡ None
      → Comes (leased p Releasing first second) a (Ends (leased p Finished None None) (answer_of p))
  stopped : (p : Paging) (first second : Option Claim) (a : Answer) (t : Trouble) → IsLast first second → p.trouble ≡ Some t
      → Comes (leased p Releasing first second) a (Stops (record (leased p Finished None None) { trouble = None }) t)
  nothing : (p : Paging) (first second : Option Claim) (a : Answer)
      → Comes (leased p Finished first second) a (Stops (leased p Finished first second) trouble.Failed)

-- ---- a step, taken apart

by_step : {p : Paging} {a : Answer} (next built : Step) → next ≡ built → Comes p a built → Comes p a next
by_step {p = p} {a = a} next built e c = subst (Comes p a) (sym e) c

by_answer : {p : Paging} {next : Step} (a given : Answer) → a ≡ given → Comes p given next → Comes p a next
by_answer {p = p} {next = next} a given e c = subst (λ (x : Answer). Comes p x next) (sym e) c

home_taken : (p : Paging) (first second : Option Claim) (a : Answer) (g : Result Claim Trouble) → given_of (lock.Page p.tree p.page) a ≡ g
    → Comes (leased p TakingHome first second) a (home_taken_by (leased p TakingHome first second) g)
home_taken p first second a (Ok l) e = by_answer a _ (given_of-ok (lock.Page p.tree p.page) a l e) (takes_home p first second l)
home_taken p first second a (Err t) e = refused p first second a t e

reads : (p : Paging) (first second : Option Claim) (got : Option (List ℕ)) (found : Result Leaf Trouble) → HoldsNamed p.tree p.page got found
    → Comes (leased p GettingHome first second) (call.Got got) (home_read (leased p GettingHome first second) found)
reads p first second got (Ok home) holds = reads_home p first second got home holds
reads p first second got (Err t) holds = stops (leased p GettingHome first second) t (bad_home p first second got t holds)

home_got : (p : Paging) (first second : Option Claim) (a : Answer) (next : Step) (g : Result (Option (List ℕ)) Trouble) → got_of a ≡ g
    → HomeGot (leased p GettingHome first second) g next → Comes (leased p GettingHome first second) a next
home_got p first second a next (Ok got) e h = by_step next _ h.2 (by_answer a _ (got_of-ok a got e) (reads p first second got h.0 h.1))
home_got p first second a next (Err t) e h = by_step next _ h (stops (leased p GettingHome first second) t (no_home p first second a t e))

goes_right : {p : Paging} {a : Answer} (q : Paging) (link : Link) (b : Bool) → is_visited q link.page ≡ b → Onward p a q (Some link) → Comes p a (to_right q link b)
goes_right q link true seen on = stops q (trouble.Loop link.page) (round link on seen)
goes_right q link false new on = turns q link on new

goes_on : {p : Paging} {a : Answer} (q : Paging) (o : Option Link) (next : Step) → Onward p a q o → GoesOnBy q o next → Comes p a next
goes_on q (Some link) next on h = by_step next _ h (goes_right q link (is_visited q link.page) refl on)
goes_on q None next on (inl spent) = by_step next _ spent.1 (stops q (trouble.Exhausted counter.Version) (home_spent on spent.0))
goes_on q None next on (inr put) = by_step next _ put.1.2 (puts_home q put.1.0 on put.0 put.1.1)

clears : {p : Paging} {a : Answer} (q : Paging) (o : Option ℕ) → next_id q.deletions.ids ≡ o → Clears p a q → Comes p a (deleting_by q o)
clears q (Some id) e c = deletes q id c e
clears q None e c = rests q c e

run_started : (p : Paging) (first second : Option Claim) (ms : List Message) (i : Intake) (next : Step) (b : Bool) → has_items i.run.items ≡ b → AreRead p ms (Ok i)
    → RunStarted (with_intake (noted (leased p Receiving first second) ms) i) b next → Comes (leased p Receiving first second) (call.Received ms) next
run_started p first second ms i next true some read h =
    goes_on (with_intake (noted (leased p Receiving first second) ms) i) (link_of p.home i.run.items) next (with_run p first second ms i read some) h
run_started p first second ms i next false none read h =
    by_step next _ h (clears (with_intake (noted (leased p Receiving first second) ms) i) (next_id i.deletions.ids) refl (no_run p first second ms i read none))

intake_taken : (p : Paging) (first second : Option Claim) (ms : List Message) (taken : Result Intake Trouble) (next : Step) → AreRead p ms taken
    → IntakeTaken (noted (leased p Receiving first second) ms) taken next → Comes (leased p Receiving first second) (call.Received ms) next
intake_taken p first second ms (Ok i) next read h = run_started p first second ms i next (has_items i.run.items) refl read h
intake_taken p first second ms (Err t) next read h =
    by_step next _ h (stops (noted (leased p Receiving first second) ms) t (bad_message p first second ms t read))

receives : (p : Paging) (first second : Option Claim) (a : Answer) (next : Step) (g : Result (List Message) Trouble) → received_of a ≡ g
    → ReceivedBy (leased p Receiving first second) g next → Comes (leased p Receiving first second) a next
receives p first second a next (Ok ms) e h =
    by_answer a _ (received_of-ok a ms e)
    (intake_taken p first second ms h.2.0 next (record { cursor = h.0; own = h.1; takes = h.2.1 }) h.2.2)
receives p first second a next (Err t) e h = by_step next _ h (stops (leased p Receiving first second) t (no_messages p first second a t e))

right_taken : (p : Paging) (first second : Option Claim) (a : Answer) (g : Result Claim Trouble) → given_of (lock.Page p.tree p.at.page) a ≡ g
    → Comes (leased p TakingRight first second) a (right_taken_by (leased p TakingRight first second) g)
right_taken p first second a (Ok r) e = by_answer a _ (given_of-ok (lock.Page p.tree p.at.page) a r e) (takes_right p first second r)
right_taken p first second a (Err t) e = stops (leased p TakingRight first second) t (no_lease p first second a t e)

right_lacks : (p : Paging) (first second : Option Claim) (got : Option (List ℕ)) (l : Leaf) (next : Step) (b : Bool) → has_items (lacked l p.page p.run.items) ≡ b
    → HoldsLinked p.tree p.at.page p.at.low got (Ok l) → RightLacks (linked (leased p GettingRight first second) l) l b next
    → Comes (leased p GettingRight first second) (call.Got got) next
right_lacks p first second got l next true some holds (inl spent) =
    by_step next _ spent.1 (stops (linked (leased p GettingRight first second) l) (trouble.Exhausted counter.Version) (right_spent p first second got l holds some spent.0))
right_lacks p first second got l next true some holds (inr put) = by_step next _ put.1.2 (puts_right p first second got l put.1.0 holds some put.0 put.1.1)
right_lacks p first second got l next false none holds h = by_step next _ h (leaves_right p first second got l holds none)

right_read : (p : Paging) (first second : Option Claim) (got : Option (List ℕ)) (found : Result Leaf Trouble) (next : Step)
    → HoldsLinked p.tree p.at.page p.at.low got found → RightRead (leased p GettingRight first second) found next
    → Comes (leased p GettingRight first second) (call.Got got) next
right_read p first second got (Ok l) next holds h = right_lacks p first second got l next (has_items (lacked l p.page p.run.items)) refl holds h
right_read p first second got (Err t) next holds h = by_step next _ h (stops (leased p GettingRight first second) t (bad_right p first second got t holds))

right_got : (p : Paging) (first second : Option Claim) (a : Answer) (next : Step) (g : Result (Option (List ℕ)) Trouble) → got_of a ≡ g
    → RightGot (leased p GettingRight first second) g next → Comes (leased p GettingRight first second) a next
right_got p first second a next (Ok got) e h = by_answer a _ (got_of-ok a got e) (right_read p first second got h.0 next h.1 h.2)
right_got p first second a next (Err t) e h = by_step next _ h (stops (leased p GettingRight first second) t (no_right p first second a t e))

put_right : (p : Paging) (first second : Option Claim) (a : Answer) (g : Result (Unit {0}) Trouble) → done_of a ≡ g
    → Comes (leased p PuttingRight first second) a (right_put_by (leased p PuttingRight first second) g)
put_right p first second a (Ok x) e = by_answer a _ (done_of-ok a e) (right_put p first second)
put_right p first second a (Err t) e = stops (without_applying (leased p PuttingRight first second)) t (right_not_put p first second a t e)

put_home : (p : Paging) (first second : Option Claim) (a : Answer) (g : Result (Unit {0}) Trouble) → done_of a ≡ g
    → Comes (leased p PuttingHome first second) a (home_put_by (leased p PuttingHome first second) g)
put_home p first second a (Ok x) e =
    by_answer a _ (done_of-ok a e) (clears (with_applied (leased p PuttingHome first second)) (next_id p.deletions.ids) refl (home_put p first second))
put_home p first second a (Err t) e = stops (without_applying (leased p PuttingHome first second)) t (home_not_put p first second a t e)

finishes : (p : Paging) (first second : Option Claim) (a : Answer) (o : Option Trouble) → IsLast first second → p.trouble ≡ o
    → Comes (leased p Releasing first second) a (finished_by (leased p Releasing None None) o)
finishes p first second a (Some t) last e = stopped p first second a t last e
finishes p first second a None last e = ends p first second a last e

released : (p : Paging) (first second : Option Claim) (a : Answer) (next : Step) → AbsorbsAt Releasing (handed (leased p Releasing first second)) a next
    → Comes (leased p Releasing first second) a next
released p (Some l) (Some r) a next e = by_step next _ e (gives_back p l r a)
released p (Some l) None a next e = by_step next _ e (finishes p (Some l) None a p.trouble tt refl)
released p None (Some r) a next e = by_step next _ e (finishes p None (Some r) a p.trouble tt refl)
released p None None a next e = by_step next _ e (finishes p None None a p.trouble tt refl)

comes_at : (stage : Stage) (p : Paging) (first second : Option Claim) (a : Answer) (next : Step)
    → AbsorbsAt stage (handed (leased p stage first second)) a next → Comes (leased p stage first second) a next
comes_at TakingHome p first second a next e = by_step next _ e (home_taken p first second a (given_of (lock.Page p.tree p.page) a) refl)
comes_at GettingHome p first second a next h = home_got p first second a next (got_of a) refl h
comes_at Receiving p first second a next h = receives p first second a next (received_of a) refl h
comes_at TakingRight p first second a next e = by_step next _ e (right_taken p first second a (given_of (lock.Page p.tree p.at.page) a) refl)
comes_at GettingRight p first second a next h = right_got p first second a next (got_of a) refl h
comes_at PuttingRight p first second a next e = by_step next _ e (put_right p first second a (done_of a) refl)
comes_at ReleasingRight p first second a next h = goes_on (without_onward (leased p ReleasingRight first None)) p.onward next (from_right p first second a) h
comes_at PuttingHome p first second a next e = by_step next _ e (put_home p first second a (done_of a) refl)
comes_at DeletingNext p first second a next e =
    by_step next _ e (clears (record (leased p DeletingNext first second) { deletions = tried p.deletions (went (done_of a)) })
    (next_id (tried p.deletions (went (done_of a))).ids) refl (one_tried p first second a))
comes_at Releasing p first second a next e = released p first second a next e
comes_at Finished p first second a next e = by_step next _ e (nothing p first second a)

pub comes : (p : Paging) (a : Answer) (next : Step) → PagingLeads p a next → Comes p a next
comes p a next leads = comes_at p.stage p p.held.first p.held.second a next leads
