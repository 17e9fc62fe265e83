-- Why an opening meets a trouble: its call shows it.
use Rattle.std.proofs.Common.{◌≡◌, ◌≢◌, ◌≤◌, ◌⊎◌, inl, inr, List, Option, Some, None, refl, sym, ap, subst, ◌∙◌, arith}
use Rattle.client_work.specs.Session.{StepsOpening, opened_work}
use Rattle.client_work.specs.declared.answer.Answer.{Answer}
use Rattle.client_work.specs.declared.answer.Answer.TheVariants as answer
use Rattle.client_work.specs.declared.work.Work.{Work}
use Rattle.client_work.specs.declared.work.Work.TheVariants.{Opening}
use Rattle.cloud_facts.specs.Words.{Trouble, Entry, Answer as Reply, Turn, More, Ended, Stopped, CloudState, Caller, Seen, Goes, Stops, Book, Store, store_of}
use Rattle.cloud_facts.specs.Calls.Acting.{footing, actor, Setting}
use Rattle.cloud_facts.specs.Homes.Homes.{PartHolds}
use Rattle.cloud_facts.proofs.Calls.Calls.{call_of}
use Rattle.cloud_trait.specs.Weather.{Makes}
use Rattle.db_base.specs.declared.trouble.Trouble.TheVariants as trouble
use Rattle.recover_run.specs.declared.home.Home.{Home}
use Rattle.recover_run.specs.Recovery.{Recovery, Step, recovery_ask, recovery_next, home_of, IsSound}
use Rattle.session_facts.specs.Machines.Openings.Knows.{KnowsOpening, leases_of_recovery}
use Rattle.session_facts.specs.Sessions.Explains.{trouble_in, trouble_of_recovery, MeetsNext, Meets, IsShown, KeepsTrouble, left_told, Explains}
use Rattle.session_facts.specs.Sessions.Spent.{IsSpentToOpen}
use Rattle.session_facts.specs.Sessions.Knows.{KnowsWork, Sessions, SessionsStand, leases_of}
use Rattle.session_facts.proofs.Machines.Openings.Shows.{recovery_shows, StopsWith, recovery_answers}
use Rattle.session_facts.proofs.Sessions.Laws.{setting_of, known_at}
use Rattle.std.proofs.lemmas.Option.{none-some}
use Rattle.tree_walk.proofs.Demands.{memory_or}

-- no trouble waits once a client is open, or a session closed
pub opened_none : (h : Option Home) → trouble_in (opened_work h) ≡ None
opened_none (Some home) = refl
opened_none None = refl

module _ (who : Caller) (before after : Seen) (s t : CloudState) (book : Book) (order : List Entry) (sessions : Sessions) (told : before.state ≡ Some s) (told_after : after.state ≡ Some t)
    (stand : SessionsStand book order s sessions) where
  abbrev old : Work
  old = (sessions who.session).work

  abbrev st : Store
  st = store_of book order s

  module _ (r : Recovery) (is : old ≡ Opening r) (sound : IsSound r) where
    abbrev Shown : Trouble → Type 0
    Shown k = IsShown (recovery_ask r) (leases_of_recovery r) IsSpentToOpen (before.counts, s) (after.counts, t) k

    -- the step of an answer
    step_shows : (reply : Reply) → Makes who (recovery_ask r) reply before after → trouble_of_recovery r ≡ None → (next : Step) → recovery_next r reply ≡ next → (k : Trouble)
        → MeetsNext trouble_of_recovery next k → Shown k
    step_shows reply made none next e k meets =
        recovery_shows who before after s t book order told told_after stand.cloud r (stand.parts who.session) holds reply made knows sound IsSpentToOpen (λ last. last) none next e k meets
      where
        later : s.now ≤ t.now
        later = (call_of who (recovery_ask r) reply before after s t made told told_after).later

        setting : Setting (footing book order s) t.now (actor stand.parts who.session (leases_of (sessions who.session).work))
        setting = setting_of book order s sessions stand t.now who.session later

        holds : PartHolds st.tally t.now (stand.parts who.session)
        holds = setting.homes.each who.session

        knows : KnowsOpening st t.now r (stand.parts who.session)
        knows =
            subst (λ (w : Work). KnowsWork st t.now (sessions who.session).cache w (stand.parts who.session)) is
            (known_at book order s sessions stand t.now who.session later)

    -- a trouble that is met
    meets_shown : (work : Work) (turn : Turn Answer) → StepsOpening who before after r work turn → trouble_of_recovery r ≡ None → (k : Trouble) → k ≢ trouble.Memory → Meets work turn k → Shown k
    meets_shown work More (m, steps, work_is, fewer) none k other (inl kept) =
        step_shows steps.answer steps.made none (Goes m) steps.took k (sym (ap trouble_in work_is) ∙ kept)
    meets_shown work More (m, steps, work_is, fewer) none k other (inr now) = absurd (none-some k now)
    meets_shown work (Ended (answer.Opened epoch)) (m, steps, work_is) none k other (inl kept) =
        absurd (none-some k (sym (ap trouble_in work_is ∙ opened_none (home_of m)) ∙ kept))
    meets_shown work (Ended (answer.Opened epoch)) (m, steps, work_is) none k other (inr now) = absurd (none-some k now)
    meets_shown work (Ended (answer.Trouble q)) (m, steps, work_is) none k other (inl kept) = absurd (none-some k (sym (ap trouble_in work_is) ∙ kept))
    meets_shown work (Ended (answer.Trouble q)) (m, steps, work_is) none k other (inr now) =
        let same : q ≡ k = cc in
        step_shows steps.answer steps.made none (Stops m q) (steps.took.0 (λ e. other (sym same ∙ e))) k same
    meets_shown work (Ended answer.Closed) never none k other meets = absurd never
    meets_shown work (Ended (answer.Renewed end)) never none k other meets = absurd never
    meets_shown work (Ended (answer.Done n)) never none k other meets = absurd never
    meets_shown work (Ended (answer.Commit c)) never none k other meets = absurd never
    meets_shown work (Ended answer.Value) never none k other meets = absurd never
    meets_shown work (Ended answer.Scan) never none k other meets = absurd never
    meets_shown work (Ended (answer.Settled n)) never none k other meets = absurd never
    meets_shown work (Ended (answer.Swept x)) never none k other meets = absurd never
    meets_shown work (Stopped q) never none k other meets = absurd never

    -- one that waits
    waits_kept : (work : Work) (turn : Turn Answer) → StepsOpening who before after r work turn → (k : Trouble) → trouble_of_recovery r ≡ Some k → KeepsTrouble work turn k
    waits_kept work More (m, steps, work_is, fewer) k waits = absurd (subst (λ (n : Step). StopsWith n k) steps.took (recovery_answers r steps.answer k waits))
    waits_kept work (Ended (answer.Opened epoch)) (m, steps, work_is) k waits = absurd (subst (λ (n : Step). StopsWith n k) steps.took (recovery_answers r steps.answer k waits))
    waits_kept work (Ended (answer.Trouble q)) (m, steps, work_is) k waits = on (memory_or q)
      where
        on : (q ≡ trouble.Memory) ⊎ (q ≢ trouble.Memory) → KeepsTrouble work (Ended (answer.Trouble q)) k
        on (inl e) = inr (ap Some e)
        on (inr other) = inl (ap Some (subst (λ (n : Step). StopsWith n k) (steps.took.0 other) (recovery_answers r steps.answer k waits)))
    waits_kept work (Ended answer.Closed) never k waits = absurd never
    waits_kept work (Ended (answer.Renewed end)) never k waits = absurd never
    waits_kept work (Ended (answer.Done n)) never k waits = absurd never
    waits_kept work (Ended (answer.Commit c)) never k waits = absurd never
    waits_kept work (Ended answer.Value) never k waits = absurd never
    waits_kept work (Ended answer.Scan) never k waits = absurd never
    waits_kept work (Ended (answer.Settled n)) never k waits = absurd never
    waits_kept work (Ended (answer.Swept x)) never k waits = absurd never
    waits_kept work (Stopped q) never k waits = absurd never

    none_left : (work : Work) (turn : Turn Answer) → StepsOpening who before after r work turn → left_told work turn ≤ 0
    none_left work More (m, steps, work_is, fewer) = subst (λ (w : Work). left_told w More ≤ 0) (sym work_is) (omega arith)
    none_left work (Ended (answer.Opened epoch)) steps = omega arith
    none_left work (Ended (answer.Trouble q)) steps = omega arith
    none_left work (Ended answer.Closed) never = absurd never
    none_left work (Ended (answer.Renewed end)) never = absurd never
    none_left work (Ended (answer.Done n)) never = absurd never
    none_left work (Ended (answer.Commit c)) never = absurd never
    none_left work (Ended answer.Value) never = absurd never
    none_left work (Ended answer.Scan) never = absurd never
    none_left work (Ended (answer.Settled n)) never = absurd never
    none_left work (Ended (answer.Swept x)) never = absurd never
    none_left work (Stopped q) never = absurd never

    -- a step of an opening
    pub opening_explains : (work : Work) (turn : Turn Answer) → StepsOpening who before after r work turn
        → Explains (recovery_ask r) (before.counts, s) (after.counts, t) (Opening r) work turn
    opening_explains work turn steps = record {
      shown = λ none clean k other meets. meets_shown work turn steps none k other meets;
      kept = waits_kept work turn steps;
      left = inl (none_left work turn steps);
    }
