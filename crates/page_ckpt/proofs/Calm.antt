-- A page checkpoint keeps a trouble only while leases are given back, and where its calls go well it ends well.
use Rattle.std.proofs.Common.{◌≡◌, ◌≢◌, ◌⊎◌, ℕ, List, [], ◌∷◌, Option, Some, None, refl, sym, subst, inl, inr, ◌∙◌}
use Rattle.db_base.specs.declared.names.QueueName.{QueueName}
use Rattle.db_base.specs.declared.trouble.Trouble.TheVariants as trouble
use Rattle.cloud_trait.specs.declared.answer.Answer.TheVariants as call
use Rattle.cloud_trait.specs.Ask.{Ask, Delete}
use Rattle.cloud_trait.specs.Calm.{GoesWell, AreCalm}
use Rattle.cloud_trait.specs.Plenty.{HadMemory}
use Rattle.cloud_trait.proofs.CalmLemmas.{goes_well}
use Rattle.page_ckpt.specs.declared.stage.Stage.TheVariants.{Releasing}
use Rattle.page_ckpt.specs.Paging.{Paging, Step, new_paging, paging_ask, went, PagingLeads, KeepsLeases}
use Rattle.page_ckpt.specs.Leases.{Went}
use Rattle.page_ckpt.specs.Meaning.{Calls, Scene, Tried, scene, scene_queue, deletes_over, one_less, failed_count, main_calls, IsDone, MeansDone}
use Rattle.page_ckpt.specs.Causes.{Reads, Shows, IsShown, Tells}
use Rattle.page_ckpt.specs.Calm.{IsLeft, IsWell}
use Rattle.page_ckpt.proofs.Words.{Trouble, Answer, CkptAnswer, Turn, More, Ended, Stopped, Goes, Ends, Stops, Took, Deed, Came, calls_of, done_of, Fits, Link}
use Rattle.page_ckpt.proofs.Outcomes.{Onward, Clears, Fails, Comes, comes}
use Rattle.page_ckpt.proofs.Outcomes as step
use Rattle.page_ckpt.proofs.Leases.{came_stands}
use Rattle.page_ckpt.proofs.Causes.{NextTells, step_tells}

-- ---- local work

-- the page and the link in hand are the same
abbrev pub IsBeside : Paging → Paging → Type 0
IsBeside p n = (n.page ≡ p.page) × (n.at ≡ p.at)

-- local work that is done while no lease is given back: the page, the link and the trouble stay
record Stays (p q : Paging) : Type 0 where
  beside : IsBeside p q
  trouble : q.trouble ≡ p.trouble
  going : p.stage ≢ Releasing

onward_stays : {p q : Paging} {a : Answer} {o : Option Link} → Onward p a q o → Stays p q
onward_stays (step.with_run p first second ms i read some) = record { beside = (refl, refl); trouble = refl; going = λ e. absurd (cc (e)) }
onward_stays (step.from_right p first second a) = record { beside = (refl, refl); trouble = refl; going = λ e. absurd (cc (e)) }

clears_stays : {p q : Paging} {a : Answer} → Clears p a q → Stays p q
clears_stays (step.no_run p first second ms i read none) = record { beside = (refl, refl); trouble = refl; going = λ e. absurd (cc (e)) }
clears_stays (step.home_put p first second) = record { beside = (refl, refl); trouble = refl; going = λ e. absurd (cc (e)) }
clears_stays (step.one_tried p first second a) = record { beside = (refl, refl); trouble = refl; going = λ e. absurd (cc (e)) }

fails_beside : {p q : Paging} {a : Answer} {t : Trouble} → Fails p a q t → IsBeside p q
fails_beside (step.round link on seen) = (onward_stays on).beside
fails_beside (step.home_spent on spent) = (onward_stays on).beside
fails_beside f = (refl, refl)

-- ---- a step

-- it gives leases back, with the same page and link, or it goes on without a new trouble
abbrev pub NextRests : Paging → Step → Type 0
NextRests p (Goes n) = ((n.stage ≡ Releasing) × IsBeside p n) ⊎ ((p.stage ≢ Releasing) × (n.trouble ≡ p.trouble))
NextRests p (Ends n x) = Unit {0}
NextRests p (Stops n t) = IsBeside p n

rests : {p : Paging} {a : Answer} {next : Step} → Comes p a next → NextRests p next
rests (step.stops q t f) = inl (refl, fails_beside f)
rests (step.turns q link on new) = inr ((onward_stays on).going, (onward_stays on).trouble)
rests (step.puts_home q out on fresh is) = inr ((onward_stays on).going, (onward_stays on).trouble)
rests (step.deletes q id c some) = inr ((clears_stays c).going, (clears_stays c).trouble)
rests (step.rests q c none) = inl (refl, (clears_stays c).beside)
rests (step.gives_back p l r a) = inl (refl, (refl, refl))
rests (step.refused p first second a t e) = (refl, refl)
rests (step.ends p first second a last none) = tt
rests (step.stopped p first second a t last kept) = (refl, refl)
rests (step.nothing p first second a) = (refl, refl)
rests c = inr (λ e. absurd (cc (e)), refl)

pub step_rests : (p : Paging) (a : Answer) (next : Step) → PagingLeads p a next → NextRests p next
step_rests p a next leads = rests (comes p a next leads)

-- ---- a trouble is kept only while leases are given back

abbrev pub IsQuiet : Paging → Type 0
IsQuiet p = (p.stage ≡ Releasing) ⊎ (p.trouble ≡ None)

-- where a checkpoint goes on, it has no trouble
pub has_none : (p : Paging) (t : Trouble) → IsQuiet p → p.stage ≢ Releasing → p.trouble ≡ Some t → ⊥
has_none p t (inl stage) going kept = going stage
has_none p t (inr none) going kept = absurd (cc (none, kept))

quiet_after : (p n : Paging) → IsQuiet p → NextRests p (Goes n) → IsQuiet n
quiet_after p n quiet (inl h) = inl h.0
quiet_after p n (inl stage) (inr h) = absurd (h.0 stage)
quiet_after p n (inr none) (inr h) = inr (h.1 ∙ none)

pub came_quiet : (tree page : ℕ) (h : List Deed) (p : Paging) → Came paging_ask PagingLeads (new_paging tree page) h p → IsQuiet p
came_quiet tree page [] p came = subst IsQuiet (sym came) (inr refl)
came_quiet tree page (d ∷ h) p came =
    quiet_after came.0 p (came_quiet tree page h came.0 came.1) (step_rests came.0 d.answer (Goes p) came.4)

pub went_quiet : (p : Paging) (h : List Deed) → Went h p → IsQuiet p
went_quiet p h came = came_quiet p.tree p.page h p came

-- ---- what is shown where the call went well

reads_left : (p : Paging) (page : ℕ) → Reads p page → (page ≡ p.page) ⊎ (page ≡ p.at.page)
reads_left p page (inl h) = inl h.1
reads_left p page (inr h) = inr h.1

shown_left : (p n : Paging) (a : Answer) (t : Trouble) → GoesWell a → Shows p a n t → IsLeft p.page p.at t
shown_left p n a trouble.Failed well s = subst GoesWell s.0 well
shown_left p n a (trouble.Late end now) well s = subst GoesWell s well
shown_left p n a (trouble.Busy lock until) well s = subst GoesWell s.1 well
shown_left p n a (trouble.Absent page) well s = (s.1, reads_left p page s.0)
shown_left p n a (trouble.NotALeaf page) well s = s.0
shown_left p n a (trouble.Damaged where_it_is at) well s = tt
shown_left p n a (trouble.BadFence page expected found) well s = (s.1, s.2)
shown_left p n a (trouble.Loop page) well s = tt
shown_left p n a (trouble.Exhausted what) well s = s.0
shown_left p n a (trouble.Waiting have need) well s = s
shown_left p n a (trouble.Stale page least got) well s = s
shown_left p n a trouble.Memory well s = tt

left_beside : (p n : Paging) (t : Trouble) → IsBeside p n → IsLeft p.page p.at t → IsLeft n.page n.at t
left_beside p n t b k = subst (λ (page : ℕ). IsLeft page n.at t) (sym b.0) (subst (λ (at : Link). IsLeft p.page at t) (sym b.1) k)

-- ---- a trouble that is kept in a calm history

kept_left : (from n : Paging) (a : Answer) (t : Trouble) → IsQuiet from → GoesWell a → (from.trouble ≡ Some t → IsLeft from.page from.at t)
    → NextRests from (Goes n) → NextTells from a (Goes n) → n.trouble ≡ Some t → IsLeft n.page n.at t
kept_left from n a t quiet well before (inl rests) tells kept = left_beside from n t rests.1 (on (tells t kept)) where
  on : IsShown from a n t → IsLeft from.page from.at t
  on (inl e) = before e
  on (inr shows) = shown_left from n a t well shows
kept_left from n a t quiet well before (inr on) tells kept = absurd (has_none from t quiet on.0 (sym on.1 ∙ kept))

came_left : (tree page : ℕ) (h : List Deed) (p : Paging) (t : Trouble) → Came paging_ask PagingLeads (new_paging tree page) h p → AreCalm h
    → p.trouble ≡ Some t → IsLeft p.page p.at t
came_left tree page [] p t came calm kept = absurd (fresh_has_none (subst (λ (q : Paging). q.trouble ≡ Some t) came kept)) where
  fresh_has_none : None ≡ Some t → ⊥
  fresh_has_none e = absurd (cc (e))
came_left tree page (d ∷ h) p t came calm kept =
    let from : Paging = came.0 in
    let fits : Fits (paging_ask from) d.answer = subst (λ (ask : Ask). Fits ask d.answer) came.2 came.3.fits in
    kept_left from p d.answer t (came_quiet tree page h from came.1) (goes_well d came.3 calm.0) (λ e. came_left tree page h from t came.1 calm.1 e)
    (step_rests from d.answer (Goes p) came.4) (step_tells from h d.answer (Goes p) (came_stands tree page h from came.1) fits came.4) kept

-- ---- deletions that went

-- a call that was made, went well, and was not answered for want of memory
abbrev HasGone : Ask × Answer → Type 0
HasGone c = Fits c.0 c.1 × GoesWell c.1 × (c.1 ≢ call.Memory)

abbrev HaveGone : Calls → Type 0
HaveGone [] = Unit {0}
HaveGone (c ∷ cs) = HasGone c × HaveGone cs

came_gone : (tree page : ℕ) (h : List Deed) (p : Paging) → Came paging_ask PagingLeads (new_paging tree page) h p → AreCalm h → HadMemory h
    → HaveGone (calls_of h)
came_gone tree page [] p came calm had = tt
came_gone tree page (d ∷ h) p came calm had =
    ((came.3.fits, goes_well d came.3 calm.0, had.0), came_gone tree page h came.0 came.1 calm.1 had.1)

deletion_done : (queue : QueueName) (id : ℕ) (a : Answer) → HasGone (Delete queue id, a) → a ≡ call.Done
deletion_done queue id call.Done g = refl
deletion_done queue id call.Failed g = absurd g.1
deletion_done queue id call.Memory g = absurd (g.2 refl)
deletion_done queue id (call.Got v) g = absurd g.0
deletion_done queue id (call.Sent n) g = absurd g.0
deletion_done queue id (call.Received ms) g = absurd g.0
deletion_done queue id (call.Listed ps) g = absurd g.0
deletion_done queue id (call.Given l) g = absurd g.0
deletion_done queue id (call.Held until) g = absurd g.0
deletion_done queue id (call.Renewed until) g = absurd g.0
deletion_done queue id (call.Late end now) g = absurd g.0

none_failed : (s : Scene) (tried : Tried) (rest : Calls) → HaveGone (deletes_over s tried rest) → failed_count tried ≡ 0
none_failed s [] rest gone = refl
none_failed s (t ∷ ts) rest gone =
    subst (λ (a : Answer). one_less (went (done_of a)) (failed_count ts) ≡ 0) (sym (deletion_done (scene_queue s) t.0 t.1 gone.0)) (none_failed s ts rest gone.1)

done_leaves_none : (release : Ask) (p : Paging) (h : List Deed) (x : CkptAnswer) → HaveGone (calls_of h) → IsDone release p h x → x.left ≡ 0
done_leaves_none release p h x gone done =
    subst (λ (y : CkptAnswer). y.left ≡ 0) (sym done.answers)
    (none_failed (scene p) done.tried (main_calls (scene p) done.lease done.opening done.visits done.out) (subst HaveGone done.calls gone))

-- ---- all

stopped_left : (old new : Paging) (a : Answer) (t : Trouble) → GoesWell a → (old.trouble ≡ Some t → IsLeft old.page old.at t) → IsBeside old new
    → IsShown old a new t → IsLeft new.page new.at t
stopped_left old new a t well before beside (inl e) = left_beside old new t beside (before e)
stopped_left old new a t well before beside (inr shows) = left_beside old new t beside (shown_left old new a t well shows)

is_memory : (t : Trouble) → (t ≡ trouble.Memory) ⊎ (t ≢ trouble.Memory)
is_memory trouble.Memory = inl refl
is_memory trouble.Failed = inr (λ e. absurd (cc (e)))
is_memory (trouble.Late end now) = inr (λ e. absurd (cc (e)))
is_memory (trouble.Busy lock until) = inr (λ e. absurd (cc (e)))
is_memory (trouble.Absent page) = inr (λ e. absurd (cc (e)))
is_memory (trouble.NotALeaf page) = inr (λ e. absurd (cc (e)))
is_memory (trouble.Damaged where_it_is at) = inr (λ e. absurd (cc (e)))
is_memory (trouble.BadFence page expected found) = inr (λ e. absurd (cc (e)))
is_memory (trouble.Loop page) = inr (λ e. absurd (cc (e)))
is_memory (trouble.Exhausted what) = inr (λ e. absurd (cc (e)))
is_memory (trouble.Waiting have need) = inr (λ e. absurd (cc (e)))
is_memory (trouble.Stale page least got) = inr (λ e. absurd (cc (e)))

stop_well : (old new : Paging) (h : List Deed) (a : Answer) (t : Trouble) → Went h old → AreCalm h → GoesWell a
    → Took PagingLeads KeepsLeases old a new (Stopped t) → Tells old a new (Stopped t) → (t ≡ trouble.Memory) ⊎ (t ≢ trouble.Memory) → IsLeft new.page new.at t
stop_well old new h a t came calm well took tells (inl memory) = subst (IsLeft new.page new.at) (sym memory) tt
stop_well old new h a t came calm well took tells (inr other) =
    stopped_left old new a t well (came_left old.tree old.page h old t came calm) (step_rests old a (Stops new t) (took.0 other)) (tells other)

pub took_well : (old new : Paging) (h : List Deed) (a : Answer) (turn : Turn CkptAnswer) → Went h old → AreCalm h → HadMemory h → GoesWell a
    → Took PagingLeads KeepsLeases old a new turn → Tells old a new turn → MeansDone (paging_ask old) new h turn → IsWell new turn
took_well old new h a More came calm had well took tells done = tt
took_well old new h a (Ended x) came calm had well took tells done =
    done_leaves_none (paging_ask old) new h x (came_gone old.tree old.page h old came calm had) done
took_well old new h a (Stopped t) came calm had well took tells done = stop_well old new h a t came calm well took tells (is_memory t)
