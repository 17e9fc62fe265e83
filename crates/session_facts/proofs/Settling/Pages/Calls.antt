-- The calls of a page checkpoint that ended, and what they tell of the state before the first one.
use Rattle.std.proofs.Common.{◌≡◌, ◌⊎◌, inl, inr, ℕ, Bool, true, false, List, [], ◌∷◌, ◌++◌, Option, Some, None, Result, Ok, Err, refl, sym, ap, subst, ◌∙◌, append_assoc, arith}
use Rattle.std.specs.List.{AllByRecursion}
use Rattle.std.proofs.lemmas.List.Elements.{recursion_from_All}
use Rattle.cloud_facts.proofs.Chains.Pieces.{in_cases, in_first, in_rest, none_in}
use Rattle.cloud_facts.specs.Words.{Trouble, ObjName, QueueName, Lock, Answer, Version, Posted, CloudState, called, newest, Claim, Ask, GetHeld, Receive, Delete, Take, Release, Deed, calls_of, done_of, IsIn, IsCall}
use Rattle.cloud_facts.proofs.Calls.Heads.{held_seen}
use Rattle.cloud_trait.proofs.RowLemmas.{row_messages, row_versions}
use Rattle.cloud_trait.specs.Ask.{TouchesNoMessage, PutsNothing}
use Rattle.cloud_trait.specs.Delivery.{WasSent, IsDelivering}
use Rattle.cloud_trait.specs.State.{newest_of}
use Rattle.cloud_trait.specs.Weather.{counted, Leaves, Rose, Weather}
use Rattle.cloud_trait.specs.declared.answer.Answer.TheVariants.{Got, Received, Done, Given}
use Rattle.cloud_trait.specs.declared.message.Message.{Message}
use Rattle.page_ckpt.specs.Meaning.{Scene, Opening, Visit, Tried, scene_queue, opening_calls, put_over, right_put, home_put, visit_over, visits_over, deletes_over, tried_before, one_less, failed_count, main_calls, page_name, take_page}
use Rattle.page_ckpt.specs.Paging.{went}
use Rattle.session_facts.proofs.Settling.Trails.{IsBetween, Trail, between_call, Calls, AreQuiet, deletions_of, ask_is, answer_is}
use Rattle.session_facts.specs.Settling.Runs.{AreDelivered}
use Rattle.tree_ckpt.proofs.Answers.{done_is}

-- ---- calls over others

-- calls that touch no message, over others
abbrev pub IsOver : Calls → Calls → Type 0
IsOver cs rest = (mids : Calls) × (cs ≡ mids ++ rest) × AreQuiet mids

quiet_both : (xs ys : Calls) → AreQuiet xs → AreQuiet ys → AreQuiet (xs ++ ys)
quiet_both [] ys one other = other
quiet_both (c ∷ xs) ys one other = (one.0, quiet_both xs ys one.1 other)

over_itself : (cs : Calls) → IsOver cs cs
over_itself cs = ([], refl, tt)

over_both : (xs ys cs : Calls) → IsOver xs ys → IsOver ys cs → IsOver xs cs
over_both xs ys cs one other =
    (one.0 ++ other.0, one.1 ∙ (ap (λ (l : Calls). one.0 ++ l) other.1 ∙ sym (append_assoc one.0 other.0 cs)), quiet_both one.0 other.0 one.2 other.2)

one_over : (c : Ask × Answer) (xs ys : Calls) → TouchesNoMessage c.0 → IsOver xs ys → IsOver (c ∷ xs) ys
one_over c xs ys quiet over = (c ∷ over.0, ap (λ (l : Calls). c ∷ l) over.1, (quiet, over.2))

put_quiet : (out : Option (List ℕ)) (ask : List ℕ → Ask) (rest : Calls) → ((bytes : List ℕ) → TouchesNoMessage (ask bytes)) → IsOver (put_over out ask rest) rest
put_quiet (Some out) ask rest quiet = one_over (ask out, Done) rest rest (quiet out) (over_itself rest)
put_quiet None ask rest quiet = over_itself rest

visit_quiet : (s : Scene) (home : Claim) (v : Visit) (rest : Calls) → IsOver (visit_over s home v rest) rest
visit_quiet s home v rest =
    let taken : Calls = (take_page s v.link.page, Given v.lease) ∷ rest in
    let read : Calls = (GetHeld (page_name s v.link.page) v.lease, Got v.got) ∷ taken in
    one_over (Release v.lease, v.freed) (put_over v.out (right_put s home v.link.page v.lease) read) rest tt
    (over_both (put_over v.out (right_put s home v.link.page v.lease) read) read rest (put_quiet v.out (right_put s home v.link.page v.lease) read (λ bytes. tt))
    (one_over (GetHeld (page_name s v.link.page) v.lease, Got v.got) taken rest tt (one_over (take_page s v.link.page, Given v.lease) rest rest tt (over_itself rest))))

visits_quiet : (s : Scene) (home : Claim) (vs : List Visit) (rest : Calls) → IsOver (visits_over s home vs rest) rest
visits_quiet s home [] rest = over_itself rest
visits_quiet s home (v ∷ vs) rest =
    over_both (visit_over s home v (visits_over s home vs rest)) (visits_over s home vs rest) rest (visit_quiet s home v (visits_over s home vs rest)) (visits_quiet s home vs rest)

-- behind its opening, before its deletions
pub main_quiet : (s : Scene) (lease : Claim) (o : Opening) (visits : List Visit) (out : Option (List ℕ)) → IsOver (main_calls s lease o visits out) (opening_calls s lease o)
main_quiet s lease o visits out =
    over_both (main_calls s lease o visits out) (visits_over s lease visits (opening_calls s lease o)) (opening_calls s lease o)
    (put_quiet out (home_put s lease) (visits_over s lease visits (opening_calls s lease o)) (λ bytes. tt)) (visits_quiet s lease visits (opening_calls s lease o))

-- ---- its deletions

abbrev pub ids_tried : Tried → List ℕ
ids_tried [] = []
ids_tried (t ∷ ts) = t.0 ∷ ids_tried ts

done_went : (a : Answer) → went (done_of a) ≡ true → a ≡ Done
done_went a e = on (done_of a) refl e
  where
    on : (g : Result (Unit {0}) Trouble) → done_of a ≡ g → went g ≡ true → a ≡ Done
    on (Ok x) f h = done_is a x f
    on (Err t) f h = absurd (cc (h))

none_less : (b : Bool) (n : ℕ) → one_less b n ≡ 0 → (b ≡ true) × (n ≡ 0)
none_less true n e = (refl, e)
none_less false n e = absurd (omega (arith, e))

-- where none failed all were done
pub deletes_done : (s : Scene) (tried : Tried) (rest : Calls) → failed_count tried ≡ 0 → deletes_over s tried rest ≡ deletions_of (scene_queue s) (ids_tried tried) ++ rest
deletes_done s [] rest none = refl
deletes_done s (t ∷ ts) rest none =
    let b = none_less (went (done_of t.1)) (failed_count ts) none in
    let one : Ask = Delete (scene_queue s) t.0 in
    ap (λ (a : Answer). (one, a) ∷ deletes_over s ts rest) (done_went t.1 b.0) ∙ ap (λ (l : Calls). (one, Done) ∷ l) (deletes_done s ts rest b.1)

tried_to : (tried : Tried) (ids : List ℕ) (id : ℕ) → IsIn (ids_tried tried) id ⊎ IsIn ids id → IsIn (tried_before tried ids) id
tried_to [] ids id (inl none) = absurd (none_in id none)
tried_to [] ids id (inr there) = there
tried_to (t ∷ ts) ids id (inl there) = tried_to ts (t.0 ∷ ids) id (on (in_cases t.0 (ids_tried ts) id there))
  where
    on : (t.0 ≡ id) ⊎ IsIn (ids_tried ts) id → IsIn (ids_tried ts) id ⊎ IsIn (t.0 ∷ ids) id
    on (inl same) = inr (subst (IsIn (t.0 ∷ ids)) same (in_first t.0 ids))
    on (inr later) = inl later
tried_to (t ∷ ts) ids id (inr there) = tried_to ts (t.0 ∷ ids) id (inr (in_rest t.0 ids id there))

tried_of : (tried : Tried) (ids : List ℕ) (id : ℕ) → IsIn (tried_before tried ids) id → IsIn (ids_tried tried) id ⊎ IsIn ids id
tried_of [] ids id there = inr there
tried_of (t ∷ ts) ids id there = on (tried_of ts (t.0 ∷ ids) id there)
  where
    by : (t.0 ≡ id) ⊎ IsIn ids id → IsIn (t.0 ∷ ids_tried ts) id ⊎ IsIn ids id
    by (inl same) = inl (subst (IsIn (t.0 ∷ ids_tried ts)) same (in_first t.0 (ids_tried ts)))
    by (inr old) = inr old

    on : IsIn (ids_tried ts) id ⊎ IsIn (t.0 ∷ ids) id → IsIn (t.0 ∷ ids_tried ts) id ⊎ IsIn ids id
    on (inl later) = inl (in_rest t.0 (ids_tried ts) id later)
    on (inr now) = by (in_cases t.0 ids id now)

-- the ids are those of the messages that were tried
pub ids_there : (tried : Tried) (id : ℕ) → IsIn (tried_before tried []) id → IsIn (ids_tried tried) id
ids_there tried id there = on (tried_of tried [] id there)
  where
    on : IsIn (ids_tried tried) id ⊎ IsIn {A = ℕ} [] id → IsIn (ids_tried tried) id
    on (inl is) = is
    on (inr none) = absurd (none_in id none)

pub ids_only : (tried : Tried) (id : ℕ) → IsIn (ids_tried tried) id → IsIn (tried_before tried []) id
ids_only tried id there = tried_to tried [] id (inl there)

-- ---- its opening

-- what an opening takes up: of a queue at most so many messages, of an object its bytes, and what came of both
pub record Uptake : Type 0 where
  pub queue : QueueName
  pub most : ℕ
  pub name : ObjName
  pub messages : List Message
  pub got : Option (List ℕ)

abbrev pub uptake : QueueName → ℕ → ObjName → List Message → Option (List ℕ) → Uptake
uptake q most name ms got = record { queue = q; most = most; name = name; messages = ms; got = got }

-- what the opening tells of the state before it
pub record OpensQueue (up : Uptake) (h : List Deed) (s t : CloudState) : Type 0 where
  pub seen : up.got ≡ newest s up.name
  pub messages : t.messages ≡ s.messages
  pub sent : AllByRecursion (WasSent (s.messages up.queue)) up.messages
  pub delivers : AreDelivered h → IsDelivering (s.messages up.queue) up.most up.messages

abbrev Is : Deed → Ask → Answer → Type 0
Is d ask a = ◌≡◌ {A = Ask × Answer} (d.ask, d.answer) (ask, a)

-- a call by what it asked and answered
call_as : (d : Deed) (s t : CloudState) (ask : Ask) (a : Answer) → IsBetween d s t → Is d ask a → IsCall d.who ask a s t
call_as d s t ask a between e =
    subst (λ (x : Answer). IsCall d.who ask x s t) (answer_is e) (subst (λ (x : Ask). IsCall d.who x d.answer s t) (ask_is e) (between_call d s t between))

received_by : (d : Deed) (s t : CloudState) (q : QueueName) (most : ℕ) (ms : List Message) → IsBetween d s t → Is d (Receive q most) (Received ms)
    → AllByRecursion (WasSent (s.messages q)) ms × (d.after.counts.withheld ≡ d.before.counts.withheld → IsDelivering (s.messages q) most ms)
received_by d s t q most ms between e = on (between.made.state s between.told)
  where
    on : Leaves d.who d.ask d.answer (counted d.before.counts s) d.after.counts d.after.state
        → AllByRecursion (WasSent (s.messages q)) ms × (d.after.counts.withheld ≡ d.before.counts.withheld → IsDelivering (s.messages q) most ms)
    on l = (recursion_from_All (WasSent (s.messages q)) ms row.1, λ same. by same row.2)
      where
        row : Weather d.who (Receive q most) (Received ms) (counted d.before.counts (called d.who l.after.now s)) (counted d.after.counts l.after)
        row =
            subst (λ (x : Answer). Weather d.who (Receive q most) x (counted d.before.counts (called d.who l.after.now s)) (counted d.after.counts l.after)) (answer_is e)
            (subst (λ (x : Ask). Weather d.who x d.answer (counted d.before.counts (called d.who l.after.now s)) (counted d.after.counts l.after)) (ask_is e) l.row)

        by : d.after.counts.withheld ≡ d.before.counts.withheld → IsDelivering (s.messages q) most ms ⊎ Rose d.before.counts.withheld d.after.counts.withheld
            → IsDelivering (s.messages q) most ms
        by same (inl is) = is
        by same (inr rose) = absurd (omega (arith, same, rose))

messages_stay : (d : Deed) (s t : CloudState) (ask : Ask) (a : Answer) → IsBetween d s t → Is d ask a → TouchesNoMessage ask → t.messages ≡ s.messages
messages_stay d s t ask a between e quiet =
    let c = call_as d s t ask a between e in
    row_messages d.who ask a c.before c.after (called d.who t.now s) t c.row quiet

versions_stay : (d : Deed) (s t : CloudState) (ask : Ask) (a : Answer) → IsBetween d s t → Is d ask a → PutsNothing ask → t.versions ≡ s.versions
versions_stay d s t ask a between e puts =
    let c = call_as d s t ask a between e in
    row_versions d.who ask a c.before c.after (called d.who t.now s) t c.row puts

pub opens : (q : QueueName) (most : ℕ) (name : ObjName) (ms : List Message) (got : Option (List ℕ)) (lease : Claim) (lock : Lock) (ticks : ℕ) (h : List Deed) (s t : CloudState) → Trail h s t
    → calls_of h ≡ (Receive q most, Received ms) ∷ (GetHeld name lease, Got got) ∷ (Take lock ticks, Given lease) ∷ [] → OpensQueue (uptake q most name ms got) h s t
opens q most name ms got lease lock ticks [] s t trail are = absurd (cc (are))
opens q most name ms got lease lock ticks (d3 ∷ []) s t trail are = absurd (cc (are))
opens q most name ms got lease lock ticks (d3 ∷ d2 ∷ []) s t trail are = absurd (cc (are))
opens q most name ms got lease lock ticks (d3 ∷ d2 ∷ d1 ∷ d0 ∷ h) s t trail are = absurd (cc (are))
opens q most name ms got lease lock ticks (d3 ∷ d2 ∷ d1 ∷ []) s t (u2, (u1, (u0, begun, b1), b2), b3) are = record {
  seen = held_seen d2.who name lease (Got got) u1 u2 (call_as d2 u1 u2 (GetHeld name lease) (Got got) b2 two) got refl ∙ ap (λ (vs : ObjName → List Version). newest_of (vs name)) versions;
  messages = messages_stay d3 u2 t (Receive q most) (Received ms) b3 three tt ∙ before_it;
  sent = subst (λ (f : QueueName → List Posted). AllByRecursion (WasSent (f q)) ms) before_it brought.0;
  delivers = λ well. subst (λ (f : QueueName → List Posted). IsDelivering (f q) most ms) before_it (brought.1 well.0);
}
  where
    three : Is d3 (Receive q most) (Received ms)
    three = cc (are)

    two : Is d2 (GetHeld name lease) (Got got)
    two = cc (are)

    one : Is d1 (Take lock ticks) (Given lease)
    one = cc (are)

    before_it : u2.messages ≡ s.messages
    before_it =
        messages_stay d2 u1 u2 (GetHeld name lease) (Got got) b2 two tt
        ∙ (messages_stay d1 u0 u1 (Take lock ticks) (Given lease) b1 one tt ∙ ap (λ (u : CloudState). u.messages) begun)

    versions : u1.versions ≡ s.versions
    versions = versions_stay d1 u0 u1 (Take lock ticks) (Given lease) b1 one tt ∙ ap (λ (u : CloudState). u.versions) begun

    brought : AllByRecursion (WasSent (u2.messages q)) ms × (d3.after.counts.withheld ≡ d3.before.counts.withheld → IsDelivering (u2.messages q) most ms)
    brought = received_by d3 u2 t q most ms b3 three
