-- A tree checkpoint whose calls go well.
use Rattle.std.proofs.Common.{◌≡◌, ◌≢◌, ◌⊎◌, ℕ, List, [], ◌∷◌, Some, None, refl, sym, subst, inl, inr, ◌∙◌}
use Rattle.db_base.specs.declared.names.QueueName.TheVariants as queue
use Rattle.db_base.specs.declared.trouble.Trouble.TheVariants as trouble
use Rattle.db_base.specs.declared.trouble.Counter.TheVariants as counter
use Rattle.cloud_trait.specs.declared.answer.Answer.TheVariants as call
use Rattle.cloud_trait.specs.Ask.{Delete}
use Rattle.cloud_trait.specs.Calm.{GoesWell, AreCalm}
use Rattle.cloud_trait.specs.Plenty.{HadMemory}
use Rattle.cloud_trait.proofs.CalmLemmas.{goes_well}
use Rattle.tree_ckpt.specs.Moves.{went}
use Rattle.tree_ckpt.specs.Making.{Making, new_making, making_ask, MakingLeads}
use Rattle.tree_ckpt.specs.Leases.{Went}
use Rattle.tree_ckpt.specs.Causes.{Calls, Shows, kept_trouble}
use Rattle.tree_ckpt.specs.Meaning.{Tried, deletes_over, one_less, failed_count, IsDone, MeansDone}
use Rattle.tree_ckpt.specs.Calm.{IsLeft, IsWell}
use Rattle.tree_ckpt.specs.Stepped.{IsCaused, Tells}
use Rattle.tree_ckpt.proofs.Words.{Trouble, QueueName, Answer, CkptAnswer, Turn, More, Ended, Stopped, Deed, Came, calls_of, done_of, Fits, Ask}
use Rattle.tree_ckpt.proofs.Brought.{link_more}
use Rattle.tree_ckpt.proofs.Causes.{came_brought, took_tells}

-- ---- what is shown where the call went well

shown_left : (tree : ℕ) (cs : Calls) (ask : Ask) (a : Answer) (t : Trouble) → GoesWell a → Shows tree ((ask, a) ∷ cs) ask a t → IsLeft tree ((ask, a) ∷ cs) t
shown_left tree cs ask a trouble.Failed well s = subst GoesWell s well
shown_left tree cs ask a (trouble.Late end now) well s = subst GoesWell s well
shown_left tree cs ask a (trouble.Busy lock until) well s = subst GoesWell s.1 well
shown_left tree cs ask a (trouble.Absent page) well s = (s.0, inl s.1, (s.2.0, (s.2.1, s.2.2)))
shown_left tree cs ask a (trouble.Damaged where_it_is at) well s = tt
shown_left tree cs ask a (trouble.BadFence page expected found) well s = tt
shown_left tree cs ask a (trouble.Loop page) well s = tt
shown_left tree cs ask a (trouble.Exhausted counter.Version) well s = tt
shown_left tree cs ask a (trouble.Exhausted counter.Pages) well s = tt
shown_left tree cs ask a (trouble.Exhausted what) well s = s
shown_left tree cs ask a trouble.Memory well s = tt
shown_left tree cs ask a t well s = s

left_later : (tree : ℕ) (c : Ask × Answer) (cs : Calls) (t : Trouble) → IsLeft tree cs t → IsLeft tree (c ∷ cs) t
left_later tree c cs (trouble.Absent page) k = (k.0, inr k.1, (k.2.0, (k.2.1.0, link_more tree k.2.0 k.2.1.0 page c cs k.2.1.1)))
left_later tree c cs (trouble.Exhausted counter.Version) k = tt
left_later tree c cs (trouble.Exhausted what) k = k
left_later tree c cs t k = k

told_left : (m : Making) (h : List Deed) (a : Answer) (t : Trouble) → GoesWell a → (kept_trouble m.work ≡ Some t → IsLeft m.tree (calls_of h) t)
    → IsCaused m h a t → IsLeft m.tree ((making_ask m, a) ∷ calls_of h) t
told_left m h a t well before (inl kept) = left_later m.tree (making_ask m, a) (calls_of h) t (before kept)
told_left m h a t well before (inr shows) = shown_left m.tree (calls_of h) (making_ask m) a t well shows.1

-- ---- a trouble that is kept in a calm history

came_left : (tree : ℕ) (h : List Deed) (m : Making) (t : Trouble) → Came making_ask MakingLeads (new_making tree) h m → AreCalm h
    → kept_trouble m.work ≡ Some t → IsLeft m.tree (calls_of h) t
came_left tree [] m t came calm kept = absurd (fresh_keeps_none (subst (λ (n : Making). kept_trouble n.work ≡ Some t) came kept)) where
  fresh_keeps_none : None ≡ Some t → ⊥
  fresh_keeps_none e = absurd (cc (e))
came_left tree (d ∷ h) m t came calm kept =
    let from : Making = came.0 in
    let fits : Fits (making_ask from) d.answer = subst (λ (ask : Ask). Fits ask d.answer) came.2 came.3.fits in
    let tells : Tells from h d.answer m More = took_tells from m h d.answer More (came_brought tree h from came.1) fits came.4 in
    let left : IsLeft from.tree ((making_ask from, d.answer) ∷ calls_of h) t =
    told_left from h d.answer t (goes_well d came.3 calm.0) (λ e. came_left tree h from t came.1 calm.1 e) (tells t kept) in
    let asked : IsLeft from.tree (calls_of (d ∷ h)) t = subst (λ (ask : Ask). IsLeft from.tree ((ask, d.answer) ∷ calls_of h) t) (sym came.2) left in
    subst (λ (n : ℕ). IsLeft n (calls_of (d ∷ h)) t) (sym came.4.0.0) asked

-- ---- deletions that went

-- a call that was made, went well, and was not answered for want of memory
abbrev HasGone : Ask × Answer → Type 0
HasGone c = Fits c.0 c.1 × GoesWell c.1 × (c.1 ≢ call.Memory)

abbrev HaveGone : Calls → Type 0
HaveGone [] = Unit {0}
HaveGone (c ∷ cs) = HasGone c × HaveGone cs

came_gone : (tree : ℕ) (h : List Deed) (m : Making) → Came making_ask MakingLeads (new_making tree) h m → AreCalm h → HadMemory h → HaveGone (calls_of h)
came_gone tree [] m came calm had = tt
came_gone tree (d ∷ h) m came calm had =
    ((came.3.fits, goes_well d came.3 calm.0, had.0), came_gone tree h came.0 came.1 calm.1 had.1)

deletion_done : (queue : QueueName) (id : ℕ) (a : Answer) → HasGone (Delete queue id, a) → a ≡ call.Done
deletion_done queue id call.Done g = refl
deletion_done queue id call.Failed g = absurd g.1
deletion_done queue id call.Memory g = absurd (g.2 refl)
deletion_done queue id a g = absurd g.0

none_failed : (tree : ℕ) (tried : Tried) (rest : Calls) → HaveGone (deletes_over tree tried rest) → failed_count tried ≡ 0
none_failed tree [] rest gone = refl
none_failed tree (t ∷ ts) rest gone =
    subst (λ (a : Answer). one_less (went (done_of a)) (failed_count ts) ≡ 0) (sym (deletion_done (queue.TreePu tree) t.0 t.1 gone.0))
    (none_failed tree ts rest gone.1)

done_leaves_none : (release : Ask) (tree : ℕ) (received : List ℕ) (h : List Deed) (x : CkptAnswer) → HaveGone (calls_of h) → IsDone release tree received h x → x.left ≡ 0
done_leaves_none release tree received h x gone done = done.left ∙ none_failed tree done.tried _ (subst HaveGone done.calls gone)

-- ---- all

is_memory : (t : Trouble) → (t ≡ trouble.Memory) ⊎ (t ≢ trouble.Memory)
is_memory trouble.Memory = inl refl
is_memory t = inr (λ e. absurd (cc (e)))

stop_well : (old new : Making) (h : List Deed) (a : Answer) (t : Trouble) → Went h old → AreCalm h → GoesWell a → Tells old h a new (Stopped t)
    → (t ≡ trouble.Memory) ⊎ (t ≢ trouble.Memory) → IsLeft old.tree ((making_ask old, a) ∷ calls_of h) t
stop_well old new h a t came calm well tells (inl memory) = subst (IsLeft old.tree ((making_ask old, a) ∷ calls_of h)) (sym memory) tt
stop_well old new h a t came calm well tells (inr other) = told_left old h a t well (came_left old.tree h old t came calm) (tells other)

pub took_well : (old new : Making) (h : List Deed) (a : Answer) (turn : Turn CkptAnswer) → Went h old → AreCalm h → HadMemory h → GoesWell a
    → Tells old h a new turn → MeansDone (making_ask old) old h turn → IsWell old.tree ((making_ask old, a) ∷ calls_of h) turn
took_well old new h a More came calm had well tells done = tt
took_well old new h a (Ended x) came calm had well tells done =
    done_leaves_none (making_ask old) old.tree old.received h x (came_gone old.tree h old came calm had) done
took_well old new h a (Stopped t) came calm had well tells done = stop_well old new h a t came calm well tells (is_memory t)
