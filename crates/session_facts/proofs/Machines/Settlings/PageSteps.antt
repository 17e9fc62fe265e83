-- What a checkpoint of a page has of the page once it read it, and that it stops for no page, stay so behind its steps.
use Rattle.std.proofs.Common.{◌≡◌, ℕ, List, Option, Some, None, Result, Ok, Err, refl, subst}
use Rattle.ckpt_parts.specs.Intakes.{items_of, message_damage, TakesItems, TakesIn}
use Rattle.ckpt_parts.specs.Leaves.{HoldsLinked}
use Rattle.ckpt_parts.specs.declared.intake.Intake.{Intake}
use Rattle.cloud_facts.specs.Words.{Trouble, QueueName, Lock, PuItem, Leaf, Answer, Goes, Ends, Stops, done_of, got_of, given_of, received_of}
use Rattle.cloud_trait.specs.declared.answer.Answer.TheVariants.{Got}
use Rattle.cloud_trait.specs.declared.message.Message.{Message}
use Rattle.db_base.specs.declared.names.Lock.TheVariants as lock
use Rattle.page_ckpt.specs.Paging.{Paging, Step, own_queue, HoldsNamed, PagingLeads}
use Rattle.page_ckpt.specs.declared.link.Link.{Link}
use Rattle.page_ckpt.specs.declared.stage.Stage.TheVariants.{GettingHome, GettingRight}
use Rattle.page_ckpt.proofs.Outcomes.{Onward, Clears, Fails, Comes, comes}
use Rattle.page_ckpt.proofs.Outcomes as step
use Rattle.session_facts.specs.Machines.Settlings.Knows.{IsPast, IsOfNoPage}
use Rattle.std.proofs.lemmas.Option.{same_Some}

-- a trouble that is kept is of no page
abbrev pub KeepsFair : Option Trouble → Type 0
KeepsFair o = (t : Trouble) → o ≡ Some t → IsOfNoPage t

one_fair : (t : Trouble) → IsOfNoPage t → KeepsFair (Some t)
one_fair t fair k e = subst IsOfNoPage (same_Some t k e) fair

never_none : (t : Trouble) → (let some : Option Trouble = Some t in some ≡ None) → ⊥
never_none t e = absurd (cc)

-- damage of a message is
takes_fair : (q : QueueName) (cursor : List (ℕ × ℕ)) (ms : List Message) (taken : Result Intake Trouble) → TakesIn q cursor ms taken → (t : Trouble) → taken ≡ Err t → IsOfNoPage t
takes_fair q cursor ms taken takes t e = on (items_of ms) takes
  where
    err_is : (a b : Trouble) → taken ≡ Err a → taken ≡ Err b → a ≡ b
    err_is a b x y = cc

    on : (read : Result (List PuItem) Message) → TakesItems q cursor read taken → IsOfNoPage t
    on (Err m) is = subst IsOfNoPage (err_is (message_damage q m) t is e) tt
    on (Ok items) (run, is_run, is) = absurd (cc)

-- ---- why it stops

-- what a call brought in place of what it asked for: nothing, a page that is no leaf, or something else that is of no page
pub data Lacks (p : Paging) (a : Answer) (t : Trouble) : Type 0 where
  no_bytes : got_of a ≡ Err t → Lacks p a t
  no_messages : received_of a ≡ Err t → Lacks p a t
  no_lease : (taken : Lock) → given_of taken a ≡ Err t → Lacks p a t
  not_done : done_of a ≡ Err t → Lacks p a t
  no_home : (got : Option (List ℕ)) → p.stage ≡ GettingHome → a ≡ Got got → HoldsNamed p.tree p.page got (Err t) → Lacks p a t
  no_right : (got : Option (List ℕ)) → p.stage ≡ GettingRight → a ≡ Got got → HoldsLinked p.tree p.at.page p.at.low got (Err t) → Lacks p a t
  other : IsOfNoPage t → Lacks p a t

lacks : {p q : Paging} {a : Answer} {t : Trouble} → Fails p a q t → Lacks p a t
lacks (step.no_home p first second a t e) = no_bytes e
lacks (step.no_messages p first second a t e) = no_messages e
lacks (step.no_lease p first second a t e) = no_lease (lock.Page p.tree p.at.page) e
lacks (step.no_right p first second a t e) = no_bytes e
lacks (step.right_not_put p first second a t e) = not_done e
lacks (step.home_not_put p first second a t e) = not_done e
lacks (step.bad_home p first second got t holds) = no_home got refl refl holds
lacks (step.bad_message p first second ms t read) = other (takes_fair (own_queue p) read.cursor ms (Err t) read.takes t refl)
lacks (step.bad_right p first second got t holds) = no_right got refl refl holds
lacks (step.round link on seen) = other tt
lacks (step.home_spent on spent) = other tt
lacks (step.right_spent p first second got l holds some spent) = other tt

-- ---- a step

module _ (L : Leaf → Type 0) where
  -- where a step leads
  abbrev pub HasRead : Step → Type 0
  HasRead (Goes n) = (n.trouble ≡ None → IsPast n.stage → L n.home) × KeepsFair n.trouble
  HasRead (Ends n x) = L n.home
  HasRead (Stops n t) = IsOfNoPage t

  abbrev Had : Paging → Type 0
  Had p = (p.trouble ≡ None → IsPast p.stage → L p.home) × KeepsFair p.trouble

  -- .. at a stage behind the get of the page
  abbrev Has : Paging → Type 0
  Has q = (q.trouble ≡ None → L q.home) × KeepsFair q.trouble

  onward_has : {p q : Paging} {a : Answer} {o : Option Link} → Onward p a q o → Had p → Has q
  onward_has (step.with_run p first second ms i read some) had = (λ none. had.0 none tt, had.1)
  onward_has (step.from_right p first second a) had = (λ none. had.0 none tt, had.1)

  clears_has : {p q : Paging} {a : Answer} → Clears p a q → Had p → Has q
  clears_has (step.no_run p first second ms i read none) had = (λ none. had.0 none tt, had.1)
  clears_has (step.home_put p first second) had = (λ none. had.0 none tt, had.1)
  clears_has (step.one_tried p first second a) had = (λ none. had.0 none tt, had.1)

  -- the get of the page brought a leaf
  abbrev pub ReadsLeaf : Paging → Answer → Type 0
  ReadsLeaf p a = (got : Option (List ℕ)) (home : Leaf) → p.stage ≡ GettingHome → a ≡ Got got → HoldsNamed p.tree p.page got (Ok home) → L home

  has_read : {p : Paging} {a : Answer} {next : Step} → Comes p a next → Had p → ReadsLeaf p a → ((t : Trouble) → Lacks p a t → IsOfNoPage t) → HasRead next
  has_read (step.takes_home p first second l) had reads fair = (λ none past. absurd past, had.1)
  has_read (step.refused p first second a t e) had reads fair = fair t (no_lease (lock.Page p.tree p.page) e)
  has_read (step.stops q t f) had reads fair = (λ none past. absurd (never_none t none), one_fair t (fair t (lacks f)))
  has_read (step.reads_home p first second got home holds) had reads fair = (λ none past. reads got home refl refl holds, had.1)
  has_read (step.turns q link on new) had reads fair = let has = onward_has on had in (λ none past. has.0 none, has.1)
  has_read (step.puts_home q out on fresh is) had reads fair = let has = onward_has on had in (λ none past. has.0 none, has.1)
  has_read (step.deletes q id c some) had reads fair = let has = clears_has c had in (λ none past. has.0 none, has.1)
  has_read (step.rests q c none) had reads fair = let has = clears_has c had in (λ none past. has.0 none, has.1)
  has_read (step.ends p first second a last none) had reads fair = had.0 none tt
  has_read (step.stopped p first second a t last kept) had reads fair = had.1 t kept
  has_read (step.nothing p first second a) had reads fair = tt
  has_read c had reads fair = (λ none past. had.0 none tt, had.1)

  pub step_has : (p : Paging) (a : Answer) (next : Step) → (p.trouble ≡ None → IsPast p.stage → L p.home) → KeepsFair p.trouble → ReadsLeaf p a
      → ((t : Trouble) → Lacks p a t → IsOfNoPage t) → PagingLeads p a next → HasRead next
  step_has p a next had kept reads fair leads = has_read (comes p a next leads) (had, kept) reads fair
