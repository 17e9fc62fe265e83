-- Which leases a checkpoint goes on with: those that its call leaves outstanding.
use Rattle.std.proofs.Common.{◌≡◌, ℕ, List, [], ◌∷◌, Option, Some, None, Result, Ok, Err, refl, sym, ap, subst, ◌∙◌}
use Rattle.ckpt_parts.specs.declared.leases.Leases.{Leases}
use Rattle.ckpt_parts.specs.Deleting.{next_id}
use Rattle.ckpt_parts.specs.Leasing.{claims_of, newest_lease, without_newest, outstanding_after}
use Rattle.cloud_facts.specs.Words.{Trouble, Answer, Claim, Next, Goes, Ends, Stops, Store, IsIn}
use Rattle.cloud_facts.proofs.Book.Places.{in_none}
use Rattle.cloud_trait.specs.declared.turn.CkptAnswer.{CkptAnswer}
use Rattle.cloud_trait.specs.Ask.{MovesNoLock}
use Rattle.db_base.specs.declared.names.Lock.TheVariants as lock
use Rattle.tree_phases.specs.declared.folding.Folding.{Folding}
use Rattle.tree_phases.specs.declared.folding.Left.{Left}
use Rattle.tree_phases.specs.Folding.{folding_ask, folding_next}
use Rattle.session_facts.specs.Machines.TreeCheckpoints.Knows.{HoldsLast, KnowsWork}
use Rattle.session_facts.proofs.Settling.Locks.{HoldsNext, quiet_after, not_given}
use Rattle.split_plan.specs.declared.put_list.PagePut.{PagePut}
use Rattle.tree_ckpt.specs.Leases.{HasIds}
use Rattle.tree_ckpt.proofs.Leaving.{SameLeaf, LeavesLeaf, next_leaves}
use Rattle.tree_ckpt.proofs.Outcomes.{Seeks, Descends, Ascends, Clears, Fails, Comes}
use Rattle.tree_ckpt.proofs.Outcomes as step
use Rattle.tree_phases.specs.declared.descent.Descent.{Descent}
use Rattle.tree_ckpt.specs.declared.work.Held.{Held}
use Rattle.tree_ckpt.specs.declared.work.Work.{Work}
use Rattle.tree_ckpt.specs.declared.work.Work.TheVariants as work
use Rattle.tree_ckpt.specs.Moves.{Step}
use Rattle.tree_ckpt.specs.Work.{delete_ask, work_ask, claims_in}
use Rattle.tree_phases.specs.declared.chart.Chart.{Chart}
use Rattle.tree_phases.specs.declared.rising.Rising.{Rising}
use Rattle.tree_phases.specs.Rising.{rising_ask}

-- the leases that are held where a step leads
abbrev pub claims_next : Step → List Claim
claims_next (Goes w) = claims_in w
claims_next (Ends w x) = []
claims_next (Stops w t) = []

-- a step goes on with these leases
abbrev pub On : List Claim → Step → Type 0
On held step = HoldsNext claims_in held step

-- so it has no others
pub within : (held : List Claim) (step : Step) → On held step → (x : Claim) → IsIn (claims_next step) x → IsIn held x
within held (Goes w) same x is = subst (λ (l : List Claim). IsIn l x) same is
within held (Ends w a) none x is = absurd (in_none [] x refl is)
within held (Stops w t) none x is = absurd (in_none [] x refl is)

-- ---- calls that move no lock

pub leaf_quiet : (f : Folding) (l : Claim) → MovesNoLock (folding_ask f l)
leaf_quiet f l = on f.placing.reserved f.placing.puts
  where
    on : (reserved : Option (List ℕ)) (puts : List PagePut) → MovesNoLock (folding_ask (record f { placing = record { reserved = reserved; puts = puts } }) l)
    on (Some bytes) puts = tt
    on None [] = tt
    on None (x ∷ xs) = tt

pub up_quiet : (r : Rising) (l : Claim) → MovesNoLock (rising_ask r l)
up_quiet r l = on r.placing.reserved r.placing.puts r.last
  where
    on : (reserved : Option (List ℕ)) (puts : List PagePut) (last : Option (List ℕ))
        → MovesNoLock (rising_ask (record r { placing = record { reserved = reserved; puts = puts }; last = last }) l)
    on (Some bytes) puts last = tt
    on None (x ∷ xs) last = tt
    on None [] (Some bytes) = tt
    on None [] None = tt

pub delete_quiet : (tree : ℕ) (ids : List ℕ) → HasIds ids → MovesNoLock (delete_ask tree (next_id ids))
delete_quiet tree (id ∷ ids) has = tt
delete_quiet tree [] never = absurd never

-- ---- what a call leaves

-- the leases that are outstanding behind the call in hand
abbrev pub left_by : ℕ → Work → Answer → List Claim
left_by tree w a = outstanding_after (work_ask tree w) a (claims_in w)

leaf_left : (tree : ℕ) (h : Held) (f g : Folding) (a : Answer) → SameLeaf f g → g.lease ∷ h.lease ∷ [] ≡ left_by tree (work.Folding h f) a
leaf_left tree h f g a same =
    ap (λ (l : Claim). l ∷ h.lease ∷ []) same.lease ∙ sym (quiet_after (folding_ask f h.lease) a (f.lease ∷ h.lease ∷ []) (leaf_quiet f h.lease))

leaf_stays : (f : Folding) (a : Answer) (next : Next Folding Left) → folding_next f a ≡ next → LeavesLeaf f next
leaf_stays f a next e = subst (LeavesLeaf f) e (next_leaves f a)

release_left : (tree : ℕ) (first second : Option Claim) (end : Result CkptAnswer Trouble) (a : Answer) → HoldsLast tree first second
    → claims_of (without_newest (record { first = first; second = second })) ≡ left_by tree (work.Releasing (record { first = first; second = second }) end) a
release_left tree (Some l) (Some leaf) end a own = refl
release_left tree (Some l) None end a own = refl
release_left tree None second end a never = absurd never

none_left : (tree : ℕ) (first second : Option Claim) (end : Result CkptAnswer Trouble) (a : Answer) → HoldsLast tree first second
    → newest_lease (without_newest (record { first = first; second = second })) ≡ None → left_by tree (work.Releasing (record { first = first; second = second }) end) a ≡ []
none_left tree (Some l) (Some leaf) end a own e = absurd (cc (e))
none_left tree (Some l) None end a own e = refl
none_left tree None second end a never e = absurd never

module _ (st : Store) (now tree : ℕ) where
  -- the tree's lease alone
  seeks_one : {w : Work} {a : Answer} {h : Held} {c : Chart} → KnowsWork st now tree w → Seeks tree w a h c → h.lease ∷ [] ≡ left_by tree w a
  seeks_one k (step.with_run l root ms i takes some) = refl
  seeks_one k (step.from_leaf h l c a) = refl
  seeks_one k (step.alone h c a) = absurd k

  descends_one : {w : Work} {a : Answer} {h : Held} {next : Next Descent (Unit {0})} → KnowsWork st now tree w → Descends tree w a h next → h.lease ∷ [] ≡ left_by tree w a
  descends_one k (step.begins key s e) = seeks_one k s
  descends_one k (step.goes_on h d a) = refl

  ascends_one : {w : Work} {a : Answer} {h : Held} {next : Next Rising (Unit {0})} → KnowsWork st now tree w → Ascends tree w a h next → h.lease ∷ [] ≡ left_by tree w a
  ascends_one k (step.begins_up s e) = seeks_one k s
  ascends_one k (step.goes_up h r a) = sym (quiet_after (rising_ask r h.lease) a (h.lease ∷ []) (up_quiet r h.lease))

  clears_one : {w : Work} {a : Answer} {h : Held} {applied : ℕ} → KnowsWork st now tree w → Clears tree w a h applied → h.lease ∷ [] ≡ left_by tree w a
  clears_one k (step.no_run l root ms i takes none) = refl
  clears_one k (step.risen r x up) = ascends_one k up
  clears_one k (step.one_tried h applied a) = sym (quiet_after (delete_ask tree (next_id h.deletions.ids)) a (h.lease ∷ []) (delete_quiet tree h.deletions.ids k.2))

  fails_left : {w : Work} {a : Answer} {held : Leases} {t : Trouble} → KnowsWork st now tree w → Fails tree w a held t → claims_of held ≡ left_by tree w a
  fails_left k (step.no_tree l a t e) = refl
  fails_left k (step.bad_tree l bytes e) = refl
  fails_left k (step.no_messages l root a t e) = refl
  fails_left k (step.bad_message l root ms t takes) = refl
  fails_left k (step.no_lease h c a t e) = sym (not_given (lock.Page c.chart.tree c.page) 30 a (h.lease ∷ []) t e)
  fails_left k (step.no_way d t way) = descends_one k way
  fails_left k (step.no_leaf h f g a t e) = leaf_left tree h f g a (leaf_stays f a (Stops g t) e)
  fails_left k (step.no_ascent r t up) = ascends_one k up

  pub on_left : {w : Work} {a : Answer} {next : Step} → KnowsWork st now tree w → Comes tree w a next → On (left_by tree w a) next
  on_left k (step.takes_tree l) = refl
  on_left k (step.refused a t e) = not_given (lock.Tree tree) 60 a [] t e
  on_left k (step.reads_tree l got is) = refl
  on_left k (step.stops held t f) = fails_left k f
  on_left k (step.descends h d way) = descends_one k way
  on_left k (step.arrives h d x way) = descends_one k way
  on_left k (step.takes_page h c l) = refl
  on_left k (step.folds h f g a e) = leaf_left tree h f g a (leaf_stays f a (Goes g) e)
  on_left k (step.leaves h f g out a e) = leaf_left tree h f g a (leaf_stays f a (Ends g out) e)
  on_left k (step.turns h l c a) = refl
  on_left k (step.turns_alone h c a) = absurd k
  on_left k (step.ascends h r up) = ascends_one k up
  on_left k (step.deletes h applied id c e) = clears_one k c
  on_left k (step.rests h applied c e) = clears_one k c
  on_left k (step.gives_back held l end a e) = release_left tree held.first held.second end a k.0
  on_left k (step.ends held x a e) = none_left tree held.first held.second (Ok x) a k.0 e
  on_left k (step.stopped held t a e) = none_left tree held.first held.second (Err t) a k.0 e
  on_left k (step.nothing a) = absurd k
