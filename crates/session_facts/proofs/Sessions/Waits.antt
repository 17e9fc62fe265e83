-- Where a step of a session comes to wait for records.
use Rattle.std.proofs.Common.{◌≡◌, ◌⊎◌, inl, inr, ℕ, List, Some, None, refl, sym, ap, ◌∙◌}
use Rattle.client_work.specs.Session.{StepsOpening, StepsSettling, ask_of_work}
use Rattle.client_work.specs.declared.answer.Answer.{Answer}
use Rattle.client_work.specs.declared.answer.Answer.TheVariants as answer
use Rattle.client_work.specs.declared.work.Work.{Work}
use Rattle.client_work.specs.declared.work.Work.TheVariants.{Opening}
use Rattle.cloud_facts.specs.Words.{Entry, Answer as Reply, Turn, More, Ended, Stopped, CloudState, Caller, Seen, Claim, Ask, Release, Goes, Stops, Book, Store, store_of, StandsUnder}
use Rattle.cloud_facts.specs.Homes.Homes.{Part, PartHolds}
use Rattle.cloud_trait.specs.Claim.{IsOver}
use Rattle.cloud_trait.specs.State.{Counts}
use Rattle.cloud_trait.specs.Weather.{Makes, Rose}
use Rattle.db_base.specs.declared.trouble.Trouble.TheVariants as trouble
use Rattle.recover_run.specs.Recovery.{Recovery, Step, recovery_ask, recovery_next, home_of}
use Rattle.session_facts.specs.Machines.Openings.Knows.{KnowsOpening, leases_of_recovery}
use Rattle.session_facts.specs.Sessions.Calls.{GivesLateBack, WaitsLate}
use Rattle.session_facts.specs.Sessions.Explains.{trouble_in, trouble_of_recovery, trouble_of_part, left_in, Meets, MeetsNext, ReceivesLate, Explains}
use Rattle.session_facts.specs.Sessions.Knows.{leases_of}
use Rattle.session_facts.specs.Machines.Settlings.Knows.{KnowsAtWork}
use Rattle.session_facts.proofs.Machines.Openings.Explains.{opened_none}
use Rattle.session_facts.proofs.Machines.Openings.Late.{GivesLateBack as RecoveryGivesBack, recovery_late}
use Rattle.session_facts.proofs.Machines.Settlings.Explains.{trouble_by}
use Rattle.session_facts.proofs.Machines.Settlings.Late.{SettlingGivesBack, settle_waits}
use Rattle.settle_run.specs.Parts.{IsSoundPart}
use Rattle.settle_run.specs.Settling.{Settling as SettlingState, Step as SettlingStep, settle_ask, SettleLeads}
use Rattle.std.proofs.lemmas.Option.{none-some}

-- it is about to give back a lease that is over
gives_back : (w : Work) (ask : Ask) (now : ℕ) → ask_of_work w ≡ Some ask → (l : Claim) × (ask ≡ Release l) × IsOver now l → GivesLateBack w now
gives_back w ask now hand (l, is, over) = (l, hand ∙ ap (λ (a : Ask). Some a) is, over)

-- ---- where the call in hand is no receive from a client's queue

module _ (ask : Ask) (c d : Counts) (s t : CloudState) (old new : Work) (turn : Turn Answer) where
  -- what shows that it waits
  shows_wait : Explains ask (c, s) (d, t) old new turn → trouble_in old ≡ None → left_in old ≡ 0 → (have need : ℕ) → Meets new turn (trouble.Waiting have need)
      → Rose c.withheld d.withheld ⊎ ReceivesLate ask (leases_of old) t.now
  shows_wait x none clean have need meets = x.shown none clean (trouble.Waiting have need) (λ e. cc) meets

  pub quiet_waits : (ReceivesLate ask (leases_of old) t.now → ⊥) → Explains ask (c, s) (d, t) old new turn → trouble_in old ≡ None → left_in old ≡ 0 → (have need : ℕ)
      → Meets new turn (trouble.Waiting have need) → Rose c.withheld d.withheld ⊎ WaitsLate new turn t.now
  quiet_waits quiet x none clean have need meets = on (shows_wait x none clean have need meets)
    where
      on : Rose c.withheld d.withheld ⊎ ReceivesLate ask (leases_of old) t.now → Rose c.withheld d.withheld ⊎ WaitsLate new turn t.now
      on (inl rose) = inl rose
      on (inr late) = absurd (quiet late)

module _ (who : Caller) (before after : Seen) (s t : CloudState) where
  abbrev Withheld : Type 0
  Withheld = Rose before.counts.withheld after.counts.withheld

  -- ---- an opening

  module _ (st : Store) (r : Recovery) (part : Part) (knows : KnowsOpening st t.now r part) where
    gives_late : (reply : Reply) → trouble_of_recovery r ≡ None → (next : Step) → recovery_next r reply ≡ next → (have need : ℕ)
        → MeetsNext trouble_of_recovery next (trouble.Waiting have need) → ReceivesLate (recovery_ask r) (leases_of_recovery r) t.now → RecoveryGivesBack st t.now r part reply knows next
    gives_late reply none next leads have need meets late = recovery_late st t.now r part reply knows none next leads have need meets late

    pub opening_waits : (work : Work) (turn : Turn Answer) → StepsOpening who before after r work turn → Explains (recovery_ask r) (before.counts, s) (after.counts, t) (Opening r) work turn
        → trouble_of_recovery r ≡ None → (have need : ℕ) → Meets work turn (trouble.Waiting have need) → Withheld ⊎ WaitsLate work turn t.now
    opening_waits work turn steps x none have need meets = on (shows_wait (recovery_ask r) before.counts after.counts s t (Opening r) work turn x none refl have need meets)
      where
        late_one : (turn : Turn Answer) → StepsOpening who before after r work turn → Meets work turn (trouble.Waiting have need)
            → ReceivesLate (recovery_ask r) (leases_of_recovery r) t.now → WaitsLate work turn t.now
        late_one More (m, steps, is, fewer) (inl kept) late =
            gives_back work (recovery_ask m) t.now (ap ask_of_work is) (gives_late steps.answer none (Goes m) steps.took have need (sym (ap trouble_in is) ∙ kept) late)
        late_one More (m, steps, is, fewer) (inr now) late = absurd (none-some (trouble.Waiting have need) now)
        late_one (Ended (answer.Opened epoch)) (m, steps, is) (inl kept) late =
            absurd (none-some (trouble.Waiting have need) (sym (ap trouble_in is ∙ opened_none (home_of m)) ∙ kept))
        late_one (Ended (answer.Opened epoch)) (m, steps, is) (inr now) late = absurd (none-some (trouble.Waiting have need) now)
        late_one (Ended (answer.Trouble q)) (m, steps, is) (inl kept) late = absurd (none-some (trouble.Waiting have need) (sym (ap trouble_in is) ∙ kept))
        late_one (Ended (answer.Trouble q)) (m, steps, is) (inr now) late =
            let same : q ≡ trouble.Waiting have need = cc (now) in
            gives_late steps.answer none (Stops m q) (steps.took.0 (λ (e : q ≡ trouble.Memory). cc (same, e))) have need same late
        late_one (Ended answer.Closed) never meets late = absurd never
        late_one (Ended (answer.Renewed end)) never meets late = absurd never
        late_one (Ended (answer.Done n)) never meets late = absurd never
        late_one (Ended (answer.Commit c)) never meets late = absurd never
        late_one (Ended answer.Value) never meets late = absurd never
        late_one (Ended answer.Scan) never meets late = absurd never
        late_one (Ended (answer.Settled n)) never meets late = absurd never
        late_one (Ended (answer.Swept x)) never meets late = absurd never
        late_one (Stopped q) never meets late = absurd never

        on : Withheld ⊎ ReceivesLate (recovery_ask r) (leases_of_recovery r) t.now → Withheld ⊎ WaitsLate work turn t.now
        on (inl rose) = inl rose
        on (inr late) = inr (late_one turn steps meets late)

  -- ---- a settling

  module _ (book : Book) (order : List Entry) (told : before.state ≡ Some s) (told_after : after.state ≡ Some t) (cloud : StandsUnder book order s) (part : Part)
      (holds : PartHolds (store_of book order s).tally t.now part) (m : SettlingState) (knows : KnowsAtWork (store_of book order s) t.now m.part part) (sound : IsSoundPart m.part) where
    waits_by : (reply : Reply) → Makes who (settle_ask m) reply before after → (next : SettlingStep) → SettleLeads m reply next → trouble_of_part m.part ≡ None → (have need : ℕ)
        → MeetsNext trouble_by next (trouble.Waiting have need) → Withheld ⊎ SettlingGivesBack next t.now
    waits_by reply made next leads none have need meets =
        settle_waits who before after s t book order told told_after cloud part holds reply m knows sound made next leads none have need meets

    pub settling_waits : (work : Work) (turn : Turn Answer) → StepsSettling who before after m work turn → trouble_of_part m.part ≡ None → (have need : ℕ)
        → Meets work turn (trouble.Waiting have need) → Withheld ⊎ WaitsLate work turn t.now
    settling_waits work More (n, steps, is, less) none have need (inl kept) =
        on (waits_by steps.did.answer steps.did.made (Goes n) steps.did.took none have need (sym (ap trouble_in is) ∙ kept))
      where
        on : Withheld ⊎ SettlingGivesBack (Goes n) t.now → Withheld ⊎ WaitsLate work More t.now
        on (inl rose) = inl rose
        on (inr late) = inr (gives_back work (settle_ask n) t.now (ap ask_of_work is) late)
    settling_waits work More (n, steps, is, less) none have need (inr now) = absurd (none-some (trouble.Waiting have need) now)
    settling_waits work (Ended (answer.Settled x)) (n, steps, is) none have need (inl kept) = absurd (none-some (trouble.Waiting have need) (sym (ap trouble_in is) ∙ kept))
    settling_waits work (Ended (answer.Settled x)) (n, steps, is) none have need (inr now) = absurd (none-some (trouble.Waiting have need) now)
    settling_waits work (Ended (answer.Trouble q)) (n, steps, is) none have need (inl kept) = absurd (none-some (trouble.Waiting have need) (sym (ap trouble_in is) ∙ kept))
    settling_waits work (Ended (answer.Trouble q)) (n, steps, is) none have need (inr now) =
        let same : q ≡ trouble.Waiting have need = cc (now) in
        only (waits_by steps.did.answer steps.did.made (Stops n q) (steps.did.took.0 (λ (e : q ≡ trouble.Memory). cc (same, e))) none have need same)
      where
        only : Withheld ⊎ ⊥ → Withheld ⊎ WaitsLate work (Ended (answer.Trouble q)) t.now
        only (inl rose) = inl rose
        only (inr never) = absurd never
    settling_waits work (Ended answer.Closed) never none have need meets = absurd never
    settling_waits work (Ended (answer.Renewed end)) never none have need meets = absurd never
    settling_waits work (Ended (answer.Opened epoch)) never none have need meets = absurd never
    settling_waits work (Ended (answer.Commit a)) never none have need meets = absurd never
    settling_waits work (Ended (answer.Done n)) never none have need meets = absurd never
    settling_waits work (Ended answer.Value) never none have need meets = absurd never
    settling_waits work (Ended answer.Scan) never none have need meets = absurd never
    settling_waits work (Ended (answer.Swept x)) never none have need meets = absurd never
    settling_waits work (Stopped q) never none have need meets = absurd never
