-- Why a page checkpoint meets a trouble, and how many of its deletions failed, by the answer to its call.
use Rattle.std.proofs.Common.{◌≡◌, ◌≢◌, ◌≤◌, ◌⊎◌, inl, inr, ℕ, Bool, true, false, cond, List, [], ◌∷◌, Option, Some, None, Result, Ok, Err, refl, sym, ap, subst, ◌∙◌, arith}
use Rattle.std.specs.Prelude.{◌==◌}
use Rattle.std.proofs.lemmas.Option.{same_Some}
use Rattle.byte_format.specs.Order.{bytes_same}
use Rattle.ckpt_parts.specs.Deleting.{Deleting, next_id, tried, tried_of}
use Rattle.ckpt_parts.specs.Intakes.{items_of}
use Rattle.ckpt_parts.specs.Leaves.{absent_leaf, bad_fence, fenced, HoldsLeaf, HoldsLinked}
use Rattle.ckpt_parts.specs.declared.leases.Leases.{Leases}
use Rattle.cloud_facts.specs.Words.{Trouble, Leaf, Answer, CloudState, called, Caller, Seen, Claim, Ask, GetHeld, Delete, Goes, Ends, Stops, done_of, Store, Leafy, IsIn, nodes_of}
use Rattle.cloud_trait.specs.declared.answer.Answer.TheVariants.{Memory}
use Rattle.cloud_trait.specs.declared.answer.Answer.TheVariants as call
use Rattle.cloud_trait.specs.declared.turn.CkptAnswer.{CkptAnswer}
use Rattle.cloud_trait.specs.Weather.{Makes, Rose}
use Rattle.db_base.specs.declared.names.Lock.TheVariants as lock
use Rattle.db_base.specs.declared.trouble.Counter.TheVariants as counter
use Rattle.db_base.specs.declared.trouble.Counter.{Counter}
use Rattle.db_base.specs.declared.trouble.Trouble.TheVariants as trouble
use Rattle.leaf_view.specs.Lookup.{empty_leaf}
use Rattle.page_ckpt.specs.Causes.{greatest_number}
use Rattle.page_ckpt.specs.Paging.{Paging, Step, ask_at, paging_ask, take_home, home_name, right_name, own_queue, delete_next, HoldsNamed, went, PagingLeads}
use Rattle.page_ckpt.specs.declared.link.Link.{Link}
use Rattle.page_ckpt.proofs.Outcomes.{leased, Onward, Clears, Fails, Comes, comes}
use Rattle.page_ckpt.proofs.Outcomes as step
use Rattle.page_ckpt.specs.declared.stage.Stage.{Stage}
use Rattle.page_ckpt.specs.declared.stage.Stage.TheVariants.{GettingHome, GettingRight, PuttingRight, PuttingHome, Deleting as DeletingNext, Releasing}
use Rattle.session_facts.specs.Machines.PageCheckpoints.Knows.{TroubleWaits, KnowsPagingAt, KnowsPaging}
use Rattle.session_facts.specs.Machines.PageCheckpoints.Rights.{IsLanded, ReadLeaf}
use Rattle.session_facts.specs.Sessions.Explains.{IsShown, MeetsNext}
use Rattle.session_facts.specs.Sessions.Spent.{HasLastPage, IsSpentInPages}
use Rattle.session_facts.proofs.Sessions.Spent.{IsToldBy, last_leaf, linked_landed}
use Rattle.session_facts.proofs.Sessions.Shows.{IsFree, free_shown, held_newest, row_of, given_shown, got_shown, received_shown, put_shown, delete_fails}
use Rattle.session_facts.proofs.Machines.TreeCheckpoints.Explains.{message_free, none_tried}
use Rattle.session_facts.proofs.Machines.TreeCheckpoints.Troubles.{HasFree}

-- ---- what is read

absent_free : (page : ℕ) → HasFree (absent_leaf page)
absent_free page = on (page == 1)
  where
    on : (b : Bool) → (let first : Result Leaf Trouble = Ok empty_leaf in HasFree (cond b first (Err (trouble.Absent page))))
    on true = tt
    on false = tt

holds_free : (tree page : ℕ) (got : Option (List ℕ)) (found : Result Leaf Trouble) → HoldsLeaf tree page got found → HasFree found
holds_free tree page None found is = subst (λ (r : Result Leaf Trouble). HasFree r) (sym is) (absent_free page)
holds_free tree page (Some bytes) found (inl h) = subst (λ (r : Result Leaf Trouble). HasFree r) (sym h.2) tt
holds_free tree page (Some bytes) found (inr h) = subst (λ (r : Result Leaf Trouble). HasFree r) (sym h.1) tt

named_free : (tree page : ℕ) (got : Option (List ℕ)) (found : Result Leaf Trouble) → HoldsNamed tree page got found → HasFree found
named_free tree page None found is = holds_free tree page None found is
named_free tree page (Some bytes) found (inl h) = subst (λ (r : Result Leaf Trouble). HasFree r) (sym h.2) tt
named_free tree page (Some bytes) found (inr h) = holds_free tree page (Some bytes) found h.1

fenced_free : (page : ℕ) (low : List ℕ) (plain : Result Leaf Trouble) → HasFree plain → HasFree (fenced page low plain)
fenced_free page low (Err t) free = free
fenced_free page low (Ok l) free = on (bytes_same low l.low)
  where
    on : (b : Bool) → (let kept : Result Leaf Trouble = Ok l in HasFree (cond b kept (Err (bad_fence page low l))))
    on true = tt
    on false = tt

linked_free : (tree page : ℕ) (low : List ℕ) (got : Option (List ℕ)) (found : Result Leaf Trouble) → HoldsLinked tree page low got found → HasFree found
linked_free tree page low got found (plain, holds, is) = subst (λ (r : Result Leaf Trouble). HasFree r) (sym is) (fenced_free page low plain (holds_free tree page got plain holds))

-- ---- its tree and its page

-- local work leaves the tree, the page and the trouble, and is done while no lease is given back
abbrev IsSame : Paging → Paging → Type 0
IsSame p q = (q.tree ≡ p.tree) × (q.page ≡ p.page) × (q.trouble ≡ p.trouble) × (p.stage ≢ Releasing)

onward_same : {p q : Paging} {a : Answer} {o : Option Link} → Onward p a q o → IsSame p q
onward_same (step.with_run p first second ms i read some) = (refl, refl, refl, λ e. absurd (cc (e)))
onward_same (step.from_right p first second a) = (refl, refl, refl, λ e. absurd (cc (e)))

clears_same : {p q : Paging} {a : Answer} → Clears p a q → IsSame p q
clears_same (step.no_run p first second ms i read none) = (refl, refl, refl, λ e. absurd (cc (e)))
clears_same c = (refl, refl, refl, λ e. absurd (cc (e)))

fails_same : {p q : Paging} {a : Answer} {k : Trouble} → Fails p a q k → IsSame p q
fails_same (step.round link on seen) = onward_same on
fails_same (step.home_spent on last) = onward_same on
fails_same f = (refl, refl, refl, λ e. absurd (cc (e)))

abbrev SameNext : Paging → Step → Type 0
SameNext p (Goes n) = (n.tree ≡ p.tree) × (n.page ≡ p.page)
SameNext p (Ends n a) = (n.tree ≡ p.tree) × (n.page ≡ p.page)
SameNext p (Stops n k) = Unit {0}

step_same : {p : Paging} {a : Answer} {next : Step} → Comes p a next → SameNext p next
step_same (step.stops q k f) = let same = fails_same f in (same.0, same.1)
step_same (step.turns q link on new) = let same = onward_same on in (same.0, same.1)
step_same (step.puts_home q out on fresh is) = let same = onward_same on in (same.0, same.1)
step_same (step.deletes q id c some) = let same = clears_same c in (same.0, same.1)
step_same (step.rests q c none) = let same = clears_same c in (same.0, same.1)
step_same (step.refused p first second a k e) = tt
step_same (step.stopped p first second a k last kept) = tt
step_same (step.nothing p first second a) = tt
step_same c = (refl, refl)

-- at its end a checkpoint is of the tree and the page that it was of before
pub paging_ends : (p m : Paging) (reply : Answer) (x : CkptAnswer) → PagingLeads p reply (Ends m x) → (m.tree ≡ p.tree) × (m.page ≡ p.page)
paging_ends p m reply x leads = step_same (comes p reply (Ends m x) leads)

-- and so it is where it goes on
pub paging_goes : (p m : Paging) (reply : Answer) → PagingLeads p reply (Goes m) → m.tree ≡ p.tree
paging_goes p m reply leads = (step_same (comes p reply (Goes m) leads)).0

-- ---- deletions that failed

-- how many deletions failed, behind a step
abbrev pub left_behind : Step → ℕ
left_behind (Goes n) = n.deletions.left
left_behind (Ends n a) = a.left
left_behind (Stops n q) = 0

abbrev tried_left : Deleting → Bool → ℕ
tried_left d w = (tried d w).left

tried_well : (d : Deleting) → tried_left d true ≤ d.left
tried_well d = on d.ids
  where
    on : (ids : List ℕ) → (tried_of ids d true).left ≤ d.left
    on [] = omega arith
    on (id ∷ ids) = omega arith

-- no more than before, or so many as a deletion leaves
abbrev AreFew : Paging → Answer → ℕ → Type 0
AreFew p a left = (left ≤ p.deletions.left) ⊎ ((p.stage ≡ DeletingNext) × (left ≡ tried_left p.deletions (went (done_of a))))

onward_left : {p q : Paging} {a : Answer} {o : Option Link} → Onward p a q o → q.deletions.left ≤ p.deletions.left
onward_left (step.with_run p first second ms i read some) = let none = none_tried (own_queue p) read.cursor (items_of ms) i read.takes in omega (arith, none)
onward_left (step.from_right p first second a) = omega arith

clears_left : {p q : Paging} {a : Answer} → Clears p a q → AreFew p a q.deletions.left
clears_left (step.no_run p first second ms i read none) = let none = none_tried (own_queue p) read.cursor (items_of ms) i read.takes in inl (omega (arith, none))
clears_left (step.home_put p first second) = inl (omega arith)
clears_left (step.one_tried p first second a) = inr (refl, refl)

fails_left : {p q : Paging} {a : Answer} {k : Trouble} → Fails p a q k → q.deletions.left ≤ p.deletions.left
fails_left (step.round link on seen) = onward_left on
fails_left (step.home_spent on last) = onward_left on
fails_left f = omega arith

step_left : {p : Paging} {a : Answer} {next : Step} → Comes p a next → AreFew p a (left_behind next)
step_left (step.stops q k f) = inl (fails_left f)
step_left (step.turns q link on new) = inl (onward_left on)
step_left (step.puts_home q out on fresh is) = inl (onward_left on)
step_left (step.deletes q id c some) = clears_left c
step_left (step.rests q c none) = clears_left c
step_left c = inl (omega arith)

-- ---- a trouble that waits

-- the trouble is kept, or it is the answer
abbrev pub KeepsNext : Trouble → Step → Type 0
KeepsNext k (Goes n) = n.trouble ≡ Some k
KeepsNext k (Ends n a) = ⊥
KeepsNext k (Stops n q) = q ≡ k

none_kept : (o : Option Trouble) (k : Trouble) → o ≡ None → o ≡ Some k → ⊥
none_kept o k none some = cc

step_keeps : {p : Paging} {a : Answer} {next : Step} → Comes p a next → TroubleWaits p → (k : Trouble) → p.trouble ≡ Some k → KeepsNext k next
step_keeps (step.stops q j f) (inl stage) k kept = absurd ((fails_same f).3 stage)
step_keeps (step.turns q link on new) (inl stage) k kept = absurd ((onward_same on).3 stage)
step_keeps (step.puts_home q out on fresh is) (inl stage) k kept = absurd ((onward_same on).3 stage)
step_keeps (step.deletes q id c some) (inl stage) k kept = absurd ((clears_same c).3 stage)
step_keeps (step.rests q c none) (inl stage) k kept = absurd ((clears_same c).3 stage)
step_keeps (step.gives_back p l r a) waits k kept = kept
step_keeps (step.ends p first second a last none) waits k kept = absurd (none_kept p.trouble k none kept)
step_keeps (step.stopped p first second a j last is) waits k kept = same_Some j k (sym is ∙ kept)
step_keeps c (inl stage) k kept = absurd (cc (stage))
step_keeps {p = p} c (inr none) k kept = absurd (none_kept p.trouble k none kept)

-- a trouble that waits is kept until the last lease is given back, and then it is answered
pub waiting_kept : (p : Paging) (reply : Answer) → TroubleWaits p → (k : Trouble) → p.trouble ≡ Some k → (next : Step) → PagingLeads p reply next → KeepsNext k next
waiting_kept p reply waits k kept next leads = step_keeps (comes p reply next leads) waits k kept

-- ---- what its call shows

module _ (who : Caller) (before after : Seen) (s t : CloudState) (told : before.state ≡ Some s) (told_after : after.state ≡ Some t) (held : List Claim) (Spent : CloudState → Counter → Type 0) (st : Store) (now : ℕ)
    (tells : IsToldBy st s t) where
  abbrev Shown : Ask → Trouble → Type 0
  Shown ask k = IsShown ask held Spent (before.counts, s) (after.counts, t) k

  -- where the call was made and had this answer, it shows the trouble
  abbrev By : Ask → Answer → Trouble → Type 0
  By ask a k = Makes who ask a before after → Shown ask k

  free : (ask : Ask) (a : Answer) (k : Trouble) → IsFree k → By ask a k
  free ask a k is made = free_shown ask held Spent before.counts after.counts s t k is

  -- what spends a counter of its tree is told
  abbrev Tells : Paging → Type 0
  Tells p = (what : Counter) → IsSpentInPages p.tree t what → Spent t what

  -- a leaf that was read landed
  read_landed : (tree page : ℕ) (lease : Claim) (l : Leaf) → ReadLeaf st now tree page lease l → (l ≡ empty_leaf) ⊎ IsIn (nodes_of t tree page) (Leafy l)
  read_landed tree page lease l read = on read.landed
    where
      on : IsLanded (st.tally.nodes tree) page l → (l ≡ empty_leaf) ⊎ IsIn (nodes_of t tree page) (Leafy l)
      on (inl first) = inl first.1
      on (inr landed) = inr (tells.pages tree page (Leafy l) landed)

  onward_last : {p q : Paging} {a : Answer} {o : Option Link} → Onward p a q o → KnowsPagingAt p.stage st now p → q.home.version ≡ greatest_number → HasLastPage t p.tree
  onward_last (step.with_run p first second ms i read some) k last = last_leaf t p.tree p.page p.home (read_landed p.tree p.page k.has.lease p.home k.read) last
  onward_last (step.from_right p first second a) (has, on, leaves) last = last_leaf t p.tree p.page p.home (read_landed p.tree p.page has.lease p.home on.read) last

  right_last : (p : Paging) (second : Claim) (got : Option (List ℕ)) (l : Leaf) → Makes who (GetHeld (right_name p) second) (call.Got got) before after
      → HoldsLinked p.tree p.at.page p.at.low got (Ok l) → l.version ≡ greatest_number → HasLastPage t p.tree
  right_last p second got l made holds last =
      last_leaf t p.tree p.at.page l
      (linked_landed t p.tree p.at.page p.at.low got l
      (held_newest who (right_name p) second (call.Got got) before.counts after.counts (called who t.now s) t
      (row_of who before after s t told told_after held Spent (GetHeld (right_name p) second) (call.Got got) made) got refl) holds) last

  fails_shown : {p q : Paging} {a : Answer} {k : Trouble} → Fails p a q k → KnowsPagingAt p.stage st now p → Tells p → By (paging_ask p) a k
  fails_shown (step.no_home p first second a k e) (has, c) own =
      subst (λ (h : Leases). By (paging_ask (leased p GettingHome h.first h.second)) a k) (sym has.is)
      (λ made. got_shown who before after s t told told_after held Spent (home_name p) has.lease a made k e)
  fails_shown (step.no_messages p first second a k e) c own = λ made. received_shown who before after s t told told_after held Spent (own_queue p) 256 a made k e
  fails_shown (step.no_lease p first second a k e) c own = λ made. given_shown who before after s t told told_after held Spent (lock.Page p.tree p.at.page) 30 a made k e
  fails_shown (step.no_right p first second a k e) (has, c) own =
      subst (λ (h : Leases). By (paging_ask (leased p GettingRight h.first h.second)) a k) (sym has.is)
      (λ made. got_shown who before after s t told told_after held Spent (right_name p) has.second a made k e)
  fails_shown (step.right_not_put p first second a k e) (has, comes, puts) own =
      subst (λ (h : Leases). By (paging_ask (leased p PuttingRight h.first h.second)) a k) (sym has.is)
      (λ made. put_shown who before after s t told told_after held Spent (right_name p) p.out has.lease (Some has.second) a made k e)
  fails_shown (step.home_not_put p first second a k e) (has, c) own =
      subst (λ (h : Leases). By (paging_ask (leased p PuttingHome h.first h.second)) a k) (sym has.is)
      (λ made. put_shown who before after s t told told_after held Spent (home_name p) p.out has.lease None a made k e)
  fails_shown {p = from} (step.bad_home p first second got k holds) c own = free (paging_ask from) (call.Got got) k (named_free p.tree p.page got (Err k) holds)
  fails_shown {p = from} (step.bad_message p first second ms k read) c own =
      free (paging_ask from) (call.Received ms) k (message_free (own_queue p) read.cursor (items_of ms) k read.takes)
  fails_shown {p = from} (step.bad_right p first second got k holds) c own = free (paging_ask from) (call.Got got) k (linked_free p.tree p.at.page p.at.low got (Err k) holds)
  fails_shown {p = from} {a = a} (step.round link on seen) c own = free (paging_ask from) a (trouble.Loop link.page) tt
  fails_shown (step.home_spent on last) c own = λ made. own counter.Version (onward_last on c last)
  fails_shown (step.right_spent p first second got l holds some last) (has, c) own =
      subst (λ (h : Leases). By (paging_ask (leased p GettingRight h.first h.second)) (call.Got got) (trouble.Exhausted counter.Version)) (sym has.is)
      (λ made. own counter.Version (right_last p has.second got l made holds last))

  -- where none was kept
  step_shown : {p : Paging} {a : Answer} {next : Step} → Comes p a next → KnowsPagingAt p.stage st now p → Tells p → p.trouble ≡ None → Makes who (paging_ask p) a before after → (k : Trouble)
      → MeetsNext (λ (m : Paging). m.trouble) next k → Shown (paging_ask p) k
  step_shown (step.refused p first second a j e) c own none made k meets =
      subst (Shown (take_home p)) meets (given_shown who before after s t told told_after held Spent (lock.Page p.tree p.page) 30 a made j e)
  step_shown {p = p} (step.stops q j f) c own none made k meets = subst (Shown (paging_ask p)) (same_Some j k meets) (fails_shown f c own made)
  step_shown (step.turns q link on new) c own none made k meets = absurd (none_kept q.trouble k ((onward_same on).2 ∙ none) meets)
  step_shown (step.puts_home q out on fresh is) c own none made k meets = absurd (none_kept q.trouble k ((onward_same on).2 ∙ none) meets)
  step_shown (step.deletes q id clears some) c own none made k meets = absurd (none_kept q.trouble k ((clears_same clears).2 ∙ none) meets)
  step_shown (step.rests q clears rest) c own none made k meets = absurd (none_kept q.trouble k ((clears_same clears).2 ∙ none) meets)
  step_shown (step.ends p first second a last rest) c own none made k meets = absurd meets
  step_shown (step.stopped p first second a j last kept) c own none made k meets = absurd (none_kept p.trouble j none kept)
  step_shown (step.nothing p first second a) c own none made k meets = absurd c
  step_shown {p = p} outcome c own none made k meets = absurd (none_kept p.trouble k none meets)

module _ (who : Caller) (before after : Seen) (s t : CloudState) (told : before.state ≡ Some s) (told_after : after.state ≡ Some t) (held : List Claim) (Spent : CloudState → Counter → Type 0) (st : Store) (now : ℕ) (p : Paging)
    (reply : Answer) (knows : KnowsPaging st now p) (made : Makes who (paging_ask p) reply before after) (tells : IsToldBy st s t)
    (own : (what : Counter) → IsSpentInPages p.tree t what → Spent t what) where
  -- a trouble that it keeps or stops with is shown by the call, where none was kept before
  pub paging_shown : p.trouble ≡ None → (next : Step) → PagingLeads p reply next → (k : Trouble) → MeetsNext (λ (m : Paging). m.trouble) next k
      → IsShown (paging_ask p) held Spent (before.counts, s) (after.counts, t) k
  paging_shown none next leads k meets = step_shown who before after s t told told_after held Spent st now tells (comes p reply next leads) knows.at own none made k meets

  -- no more deletions failed than before, unless this one did
  pub paging_left : reply ≢ Memory → (next : Step) → PagingLeads p reply next → (left_behind next ≤ p.deletions.left) ⊎ Rose before.counts.faults after.counts.faults
  paging_left other next leads = on (step_left (comes p reply next leads))
    where
      deletes : p.stage ≡ DeletingNext → KnowsPagingAt DeletingNext st now p → (w : Result (Unit {0}) Trouble) → done_of reply ≡ w
          → (tried_left p.deletions (went w) ≤ p.deletions.left) ⊎ Rose before.counts.faults after.counts.faults
      deletes stage c (Ok x) e = inl (tried_well p.deletions)
      deletes stage (has, each, (id, rest, ids_are)) (Err k) e =
          let is : paging_ask p ≡ Delete (own_queue p) id = ap (λ (g : Stage). ask_at g p) stage ∙ ap (λ (ids : List ℕ). delete_next p (next_id ids)) ids_are in
          inr (delete_fails who before after s t told told_after held Spent (own_queue p) id reply (subst (λ (q : Ask). Makes who q reply before after) is made) k e other)

      on : AreFew p reply (left_behind next) → (left_behind next ≤ p.deletions.left) ⊎ Rose before.counts.faults after.counts.faults
      on (inl few) = inl few
      on (inr (stage, is)) =
          subst (λ (n : ℕ). (n ≤ p.deletions.left) ⊎ Rose before.counts.faults after.counts.faults) (sym is)
          (deletes stage (subst (λ (g : Stage). KnowsPagingAt g st now p) stage knows.at) (done_of reply) refl)
