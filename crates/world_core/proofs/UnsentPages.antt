-- A page to whose queue a message was ever sent is a leaf: its checkpoint finds none absent, and none that is no leaf.
use Rattle.std.proofs.Common.{◌≡◌, inl, inr, ℕ, zero, List, [], ◌∷◌, Option, Some, None, Result, Ok, Err, refl, sym, ap, subst, ◌∙◌, arith}
use Rattle.ckpt_parts.specs.Intakes.{items_of, TakesItems}
use Rattle.ckpt_parts.specs.Leaves.{HoldsLinked}
use Rattle.ckpt_parts.specs.Leasing.{newest_lease}
use Rattle.ckpt_parts.specs.declared.leases.Leases.{Leases}
use Rattle.cloud_facts.proofs.Calls.Calls.{call_of}
use Rattle.cloud_facts.proofs.Calls.Heads.{held_seen}
use Rattle.cloud_facts.specs.Words.{IsTree, Trouble, QueueName, Lock, Entry, PuItem, Answer, Posted, CloudState, called, newest, Caller, Seen, Claim, Ask, GetHeld, Release, Goes, Ends, Stops, done_of, got_of, given_of, received_of, Book, Link, Store, IsIn, StandsAt, store_of, IsCall, StandsUnder}
use Rattle.cloud_facts.specs.Book.Premises.{IsRouted}
use Rattle.cloud_facts.specs.Numbers.Numbers.{IsOfRecord, Numbers}
use Rattle.cloud_trait.proofs.RowLemmas.{row_messages}
use Rattle.cloud_trait.specs.Ask.{TouchesNoMessage}
use Rattle.cloud_trait.specs.Views.{trouble_of}
use Rattle.cloud_trait.specs.Weather.{Makes}
use Rattle.cloud_trait.specs.declared.answer.Answer.TheVariants as call
use Rattle.cloud_trait.specs.declared.message.Message.{Message}
use Rattle.db_base.specs.Ids.{IsPage}
use Rattle.db_base.specs.declared.names.ObjName.TheVariants as object
use Rattle.db_base.specs.declared.names.QueueName.TheVariants.{PagePu}
use Rattle.db_base.specs.declared.trouble.Trouble.TheVariants as trouble
use Rattle.page_ckpt.proofs.Outcomes.{Onward, Clears, Fails, Comes, comes}
use Rattle.page_ckpt.proofs.Outcomes as step
use Rattle.page_ckpt.specs.Paging.{Paging, Step, HoldsNamed, PagingLeads, ask_at, home_name, own_queue, paging_ask, right_name, under}
use Rattle.page_ckpt.specs.declared.link.Link.{Link as Found}
use Rattle.page_ckpt.specs.declared.stage.Stage.{Stage}
use Rattle.page_ckpt.specs.declared.stage.Stage.TheVariants.{GettingHome, GettingRight, Releasing}
use Rattle.session_facts.proofs.Machines.PageCheckpoints.Explains.{KeepsNext, waiting_kept}
use Rattle.session_facts.proofs.Machines.PageCheckpoints.Reads.{linked_is, named_leaf}
use Rattle.session_facts.proofs.Machines.Runs.Leaves.{own_queue as queue_is}
use Rattle.session_facts.specs.Machines.PageCheckpoints.Knows.{KnowsPaging, KnowsPagingAt, TroubleWaits}
use Rattle.session_facts.specs.Sessions.Explains.{MeetsNext}
use Rattle.session_facts.specs.Sessions.Spent.{IsSpentInPages}
use Rattle.session_facts.specs.Sessions.Untroubled.{IsSpent, IsSpentOrOf}
use Rattle.world_core.specs.UnsentPages.{IsOfUnsent, IsUnsent}

-- ---- troubles

-- a trouble that tells of no page that it is absent, or no leaf
abbrev IsOfNoPage : Trouble → Type 0
IsOfNoPage (trouble.Absent page) = ⊥
IsOfNoPage (trouble.NotALeaf page) = ⊥
IsOfNoPage k = Unit {0}

none_unsent : (tree page : ℕ) (u : CloudState) (k : Trouble) → IsOfNoPage k → IsOfUnsent tree page u k
none_unsent tree page u (trouble.Absent named) never = absurd never
none_unsent tree page u (trouble.NotALeaf named) never = absurd never
none_unsent tree page u k none = tt

any_unsent : (tree page : ℕ) (u : CloudState) (k : Trouble) → IsUnsent tree page u → IsOfUnsent tree page u k
any_unsent tree page u (trouble.Absent named) is = is
any_unsent tree page u (trouble.NotALeaf named) is = is
any_unsent tree page u k is = tt

-- it is so as well where the cloud has the same messages
pub same_unsent : (tree page : ℕ) (s t : CloudState) → t.messages ≡ s.messages → (k : Trouble) → IsOfUnsent tree page s k → IsOfUnsent tree page t k
same_unsent tree page s t same (trouble.Absent named) is = ap (λ (ms : QueueName → List Posted). ms (PagePu tree page)) same ∙ is
same_unsent tree page s t same (trouble.NotALeaf named) is = ap (λ (ms : QueueName → List Posted). ms (PagePu tree page)) same ∙ is
same_unsent tree page s t same k is = tt

-- of a page to whose queue a message was sent a spent counter alone is left
pub sent_spent : (tree page : ℕ) (u : CloudState) (k : Trouble) → IsSpentOrOf tree page u k × IsOfUnsent tree page u k → (IsUnsent tree page u → ⊥) → IsSpent (IsSpentInPages tree) u k
sent_spent tree page u (trouble.Absent named) may sent = absurd (sent may.1)
sent_spent tree page u (trouble.NotALeaf named) may sent = absurd (sent may.1)
sent_spent tree page u k may sent = may.0

err_is : {X : Type 0} (a b : Trouble) → ◌≡◌ {A = Result X Trouble} (Err a) (Err b) → a ≡ b
err_is a b e = cc

never_ok : {X : Type 0} (a : Trouble) (x : X) → ◌≡◌ {A = Result X Trouble} (Err a) (Ok x) → ⊥
never_ok a x e = cc

clash : (o : Option Trouble) (k : Trouble) → o ≡ None → o ≡ Some k → ⊥
clash o k none some = cc

some_is : (a b : Trouble) → Some a ≡ Some b → a ≡ b
some_is a b e = cc

-- ---- an answer without its value tells of no page

answer_none : (a : Answer) → IsOfNoPage (trouble_of a)
answer_none (call.Got v) = tt
answer_none (call.Sent id) = tt
answer_none (call.Received ms) = tt
answer_none (call.Listed ps) = tt
answer_none call.Done = tt
answer_none (call.Given l) = tt
answer_none (call.Held until) = tt
answer_none (call.Renewed e) = tt
answer_none (call.Late e n) = tt
answer_none call.Failed = tt
answer_none call.Memory = tt

view_none : {X : Type 0} (a b : Trouble) (g : Result X Trouble) → IsOfNoPage a → g ≡ Err a → g ≡ Err b → IsOfNoPage b
view_none a b g none e f = let same : a ≡ b = cc in subst IsOfNoPage same none

got_none : (a : Answer) (k : Trouble) → got_of a ≡ Err k → IsOfNoPage k
got_none (call.Got v) k e = absurd (cc)
got_none a k e = view_none (trouble_of a) k (got_of a) (answer_none a) refl e

received_none : (a : Answer) (k : Trouble) → received_of a ≡ Err k → IsOfNoPage k
received_none (call.Received ms) k e = absurd (cc)
received_none a k e = view_none (trouble_of a) k (received_of a) (answer_none a) refl e

done_none : (a : Answer) (k : Trouble) → done_of a ≡ Err k → IsOfNoPage k
done_none call.Done k e = absurd (cc)
done_none a k e = view_none (trouble_of a) k (done_of a) (answer_none a) refl e

given_none : (lock : Lock) (a : Answer) (k : Trouble) → given_of lock a ≡ Err k → IsOfNoPage k
given_none lock (call.Given l) k e = absurd (cc)
given_none lock (call.Held until) k e = view_none (trouble.Busy lock until) k (given_of lock (call.Held until)) tt refl e
given_none lock a k e = view_none (trouble_of a) k (given_of lock a) (answer_none a) refl e

-- nor does a message that is damaged
items_none : (q : QueueName) (cursor : List (ℕ × ℕ)) (read : Result (List PuItem) Message) (k : Trouble) → TakesItems q cursor read (Err k) → IsOfNoPage k
items_none q cursor (Ok items) k (run, is_run, is) = absurd (never_ok k _ is)
items_none q cursor (Err m) k is = subst IsOfNoPage (sym (err_is k _ is)) tt

-- ---- the queue of a page

no_posts : (posts : List Posted) → ((place : ℕ) (m : Posted) → StandsAt posts place m → ⊥) → posts ≡ []
no_posts [] none = refl
no_posts (m ∷ ms) none = absurd (none zero m refl)

module _ (book : Book) (order : List Entry) (s : CloudState) (stands : StandsUnder book order s) where
  -- a page to whose queue a message was sent is that of a leaf's link
  posted_link : (tree page : ℕ) → IsPage page → (place : ℕ) (m : Posted) → StandsAt (s.messages (PagePu tree page)) place m
      → (link : Link) × IsIn (book.chain tree 0) link × (link.page ≡ page)
  posted_link tree page some place m there = on (numbers.placed r.of r.logged).routed
    where
      numbers : Numbers (store_of book order s)
      numbers = stands.holds.numbers

      r : IsOfRecord book.log tree page m.bytes
      r = numbers.sent tree page place m (subst (λ (q : QueueName). StandsAt (s.messages q) place m) (sym (queue_is tree page some)) there)

      on : IsRouted book r.of → (link : Link) × IsIn (book.chain tree 0) link × (link.page ≡ page)
      on (inl none) = let page_is = r.page_is in absurd (omega (arith, none, page_is, some))
      on (inr leaf) = (leaf.link, subst (λ (t : ℕ). IsIn (book.chain t 0) leaf.link) r.tree_is leaf.linked, leaf.page_is ∙ r.page_is)

  -- where the newest version of a page is no leaf, none was
  unsent_named : (tree page : ℕ) → IsTree tree → IsPage page → (got : Option (List ℕ)) (k : Trouble) → newest s (object.Page tree page) ≡ got → HoldsNamed tree page got (Err k)
      → IsUnsent tree page s
  unsent_named tree page of_tree some got k e holds = no_posts (s.messages (PagePu tree page)) none
    where
      none : (place : ℕ) (m : Posted) → StandsAt (s.messages (PagePu tree page)) place m → ⊥
      none place m there =
          let l = posted_link tree page some place m there in
          never_ok k _
          (named_leaf book order s stands tree of_tree l.0 l.1 got (Err k) (subst (λ (q : ℕ). newest s (object.Page tree q) ≡ got) (sym l.2) e)
          (subst (λ (q : ℕ). HoldsNamed tree q got (Err k)) (sym l.2) holds))

  -- ---- a step of the checkpoint of a page

  abbrev st : Store
  st = store_of book order s

  -- the held get of a page brought its newest version
  abbrev SawAt : Stage → Paging → Answer → Type 0
  SawAt GettingHome p a = (got : Option (List ℕ)) → got_of a ≡ Ok got → newest s (home_name p) ≡ got
  SawAt GettingRight p a = (got : Option (List ℕ)) → got_of a ≡ Ok got → newest s (right_name p) ≡ got
  SawAt stage p a = Unit {0}

  module _ (now : ℕ) (u : CloudState) where
    -- the get of the page leaves the messages
    abbrev Quiet : Paging → Type 0
    Quiet p = p.stage ≡ GettingHome → u.messages ≡ s.messages

    -- a right page is a leaf, with the low key that led there
    right_never : (p : Paging) → KnowsPagingAt GettingRight st now p → IsTree p.tree → (got : Option (List ℕ)) (k : Trouble) → newest s (right_name p) ≡ got
        → HoldsLinked p.tree p.at.page p.at.low got (Err k) → ⊥
    right_never p at of_tree got k e holds =
        let read = linked_is book order s stands p.tree of_tree (record { low = p.at.low; page = p.at.page }) (at.1).linked got (Err k) e holds in
        never_ok k read.leaf read.is

    fails_unsent : {p q : Paging} {a : Answer} {k : Trouble} → Fails p a q k → KnowsPaging st now p → SawAt p.stage p a → Quiet p → IsOfUnsent p.tree p.page u k
    fails_unsent (step.no_home p first second a t e) knows saw quiet = none_unsent p.tree p.page u t (got_none a t e)
    fails_unsent (step.no_messages p first second a t e) knows saw quiet = none_unsent p.tree p.page u t (received_none a t e)
    fails_unsent (step.no_lease p first second a t e) knows saw quiet = none_unsent p.tree p.page u t (given_none _ a t e)
    fails_unsent (step.no_right p first second a t e) knows saw quiet = none_unsent p.tree p.page u t (got_none a t e)
    fails_unsent (step.right_not_put p first second a t e) knows saw quiet = none_unsent p.tree p.page u t (done_none a t e)
    fails_unsent (step.home_not_put p first second a t e) knows saw quiet = none_unsent p.tree p.page u t (done_none a t e)
    fails_unsent (step.bad_home p first second got t holds) knows saw quiet =
        same_unsent p.tree p.page s u (quiet refl) t (any_unsent p.tree p.page s t (unsent_named p.tree p.page knows.tree knows.page got t (saw got refl) holds))
    fails_unsent (step.bad_message p first second ms t read) knows saw quiet =
        none_unsent p.tree p.page u t (items_none (own_queue p) read.cursor (items_of ms) t read.takes)
    fails_unsent (step.bad_right p first second got t holds) knows saw quiet = absurd (right_never (step.leased p GettingRight first second) knows.at knows.tree got t (saw got refl) holds)
    fails_unsent (step.round link on seen) knows saw quiet = tt
    fails_unsent (step.home_spent on last) knows saw quiet = tt
    fails_unsent (step.right_spent p first second got l holds some last) knows saw quiet = tt

    -- local work keeps the trouble
    onward_kept : {p q : Paging} {a : Answer} {o : Option Found} → Onward p a q o → q.trouble ≡ p.trouble
    onward_kept (step.with_run p first second ms i read some) = refl
    onward_kept (step.from_right p first second a) = refl

    clears_kept : {p q : Paging} {a : Answer} → Clears p a q → q.trouble ≡ p.trouble
    clears_kept (step.no_run p first second ms i read none) = refl
    clears_kept (step.home_put p first second) = refl
    clears_kept (step.one_tried p first second a) = refl

    -- where none waited, what it meets is so
    comes_unsent : {p : Paging} {a : Answer} {next : Step} → Comes p a next → p.trouble ≡ None → KnowsPaging st now p → SawAt p.stage p a → Quiet p → (k : Trouble)
        → MeetsNext (λ (m : Paging). m.trouble) next k → IsOfUnsent p.tree p.page u k
    comes_unsent (step.refused p first second a t e) none knows saw quiet k is =
        subst (IsOfUnsent p.tree p.page u) is (none_unsent p.tree p.page u t (given_none _ a t e))
    comes_unsent {p = p} (step.stops q t f) none knows saw quiet k is = subst (IsOfUnsent p.tree p.page u) (some_is t k is) (fails_unsent f knows saw quiet)
    comes_unsent (step.turns q link on new) none knows saw quiet k is = absurd (clash _ k (onward_kept on ∙ none) is)
    comes_unsent (step.puts_home q out on fresh spells) none knows saw quiet k is = absurd (clash _ k (onward_kept on ∙ none) is)
    comes_unsent (step.deletes q id c some) none knows saw quiet k is = absurd (clash _ k (clears_kept c ∙ none) is)
    comes_unsent (step.rests q c last) none knows saw quiet k is = absurd (clash _ k (clears_kept c ∙ none) is)
    comes_unsent (step.ends p first second a last kept) none knows saw quiet k never = absurd never
    comes_unsent (step.stopped p first second a t last kept) none knows saw quiet k is = absurd (clash _ t none kept)
    comes_unsent (step.nothing p first second a) none knows saw quiet k is = subst (IsOfUnsent p.tree p.page u) is tt
    comes_unsent (step.takes_home p first second l) none knows saw quiet k is = absurd (clash _ k none is)
    comes_unsent (step.reads_home p first second got home holds) none knows saw quiet k is = absurd (clash _ k none is)
    comes_unsent (step.takes_right p first second r) none knows saw quiet k is = absurd (clash _ k none is)
    comes_unsent (step.puts_right p first second got l out holds some fresh spells) none knows saw quiet k is = absurd (clash _ k none is)
    comes_unsent (step.leaves_right p first second got l holds lacks) none knows saw quiet k is = absurd (clash _ k none is)
    comes_unsent (step.right_put p first second) none knows saw quiet k is = absurd (clash _ k none is)
    comes_unsent (step.gives_back p l r a) none knows saw quiet k is = absurd (clash _ k none is)

-- ---- a call of it

under_quiet : (p : Paging) (o : Option Claim) (make : Claim → Ask) → ((l : Claim) → TouchesNoMessage (make l)) → TouchesNoMessage (under p o make)
under_quiet p (Some l) make quiet = quiet l
under_quiet p None make quiet = tt

-- a trouble that waits is the one that is met
one_kept : (j k : Trouble) (next : Step) → KeepsNext j next → MeetsNext (λ (m : Paging). m.trouble) next k → j ≡ k
one_kept j k (Goes n) kept met = some_is j k (sym kept ∙ met)
one_kept j k (Ends n a) never met = absurd never
one_kept j k (Stops n q) kept met = sym kept ∙ met

module _ (who : Caller) (before after : Seen) (book : Book) (order : List Entry) (s t : CloudState) (told : before.state ≡ Some s) (told_after : after.state ≡ Some t)
    (stands : StandsUnder book order s) (p : Paging) (knows : KnowsPaging (store_of book order s) s.now p) (reply : Answer) (made : Makes who (paging_ask p) reply before after) where
  made_call : IsCall who (paging_ask p) reply s t
  made_call = call_of who (paging_ask p) reply before after s t made told told_after

  asks : (stage : Stage) → p.stage ≡ stage → paging_ask p ≡ ask_at stage p
  asks stage e = ap (λ (g : Stage). ask_at g p) e

  -- a get or a release leaves the messages
  quiet_at : (stage : Stage) → p.stage ≡ stage → TouchesNoMessage (ask_at stage p) → t.messages ≡ s.messages
  quiet_at stage e quiet =
      row_messages who (paging_ask p) reply made_call.before made_call.after (called who t.now s) t made_call.row (subst TouchesNoMessage (sym (asks stage e)) quiet)

  saw_at : (stage : Stage) → p.stage ≡ stage → KnowsPagingAt stage (store_of book order s) s.now p → SawAt book order s stands stage p reply
  saw_at GettingHome e at = λ got is.
      sym
      (held_seen who (home_name p) (at.0).lease reply s t
      (subst (λ (q : Ask). IsCall who q reply s t) (asks GettingHome e ∙ ap (λ (l : Leases). under p l.first (λ c. GetHeld (home_name p) c)) (at.0).is) made_call) got is)
  saw_at GettingRight e at = λ got is.
      sym
      (held_seen who (right_name p) (at.0).second reply s t
      (subst (λ (q : Ask). IsCall who q reply s t) (asks GettingRight e ∙ ap (λ (l : Leases). under p l.second (λ c. GetHeld (right_name p) c)) (at.0).is) made_call) got is)
  saw_at stage e at = tt

  -- a trouble that the call brings or that waited before it is so behind it
  pub met_unsent : ((k : Trouble) → p.trouble ≡ Some k → IsOfUnsent p.tree p.page s k) → (next : Step) → PagingLeads p reply next → (k : Trouble)
      → MeetsNext (λ (m : Paging). m.trouble) next k → IsOfUnsent p.tree p.page t k
  met_unsent kept next leads k met = on p.trouble refl
    where
      waits : (j : Trouble) → p.trouble ≡ Some j → TroubleWaits p → IsOfUnsent p.tree p.page t k
      waits j was (inl stage) =
          same_unsent p.tree p.page s t (quiet_at Releasing stage (under_quiet p (newest_lease p.held) Release (λ l. tt))) k
          (subst (IsOfUnsent p.tree p.page s) (one_kept j k next (waiting_kept p reply knows.waits j was next leads) met) (kept j was))
      waits j was (inr none) = absurd (clash p.trouble j none was)

      on : (o : Option Trouble) → p.trouble ≡ o → IsOfUnsent p.tree p.page t k
      on None none =
          comes_unsent book order s stands s.now t (comes p reply next leads) none knows (saw_at p.stage refl knows.at)
          (λ stage. quiet_at GettingHome stage (under_quiet p p.held.first (λ l. GetHeld (home_name p) l) (λ l. tt))) k met
      on (Some j) was = waits j was knows.waits
