-- What the cloud in memory does is a row of the table.
use Rattle.std.proofs.Common.{◌≡◌, ◌<◌, ◌≤◌, ◌+◌, ◌-◌, ◌++◌, ◌⊎◌, ℕ, suc, List, [], ◌∷◌, length, take, Option, Some, None, Result, Ok, Err, refl, sym, ◌∙◌, subst, inl, inr, arith, Bool, true, false, cond, not, ◌&&◌}
use Rattle.std.specs.Prelude.{nat_le, nat_lt, min, All}
use Rattle.std.proofs.lemmas.Bool.Decides.{leb_tells, eqb_tells}
use Rattle.std.proofs.lemmas.List.{append_assoc, length-append, length-take}
use Rattle.std.proofs.lemmas.List.Sorted.{IsPermutation-refl}
use Rattle.std.specs.Bool.{◌==◌}
use Rattle.std.specs.Prelude.{slice_get}
use Rattle.std.specs.Option.{option_map_or}
use Rattle.std.specs.Prelude.{is_none}
use Rattle.std.proofs.lemmas.List.Elements.{All-nil, All-cons, All-take}
use Rattle.db_base.specs.declared.names.ObjName.{ObjName}
use Rattle.db_base.specs.declared.names.Lock.{Lock}
use Rattle.cloud_trait.specs.declared.answer.Answer.{Answer}
use Rattle.cloud_trait.specs.declared.answer.Answer.TheVariants.{Got, Received, Listed, Done, Given, Held, Renewed, Late, Failed, Memory}
use Rattle.cloud_trait.specs.declared.state.Posted.{Posted}
use Rattle.cloud_trait.specs.declared.state.Version.{Version}
use Rattle.cloud_trait.specs.declared.fault.HeldFault.{HeldFault}
use Rattle.cloud_trait.specs.declared.fault.HeldFault.TheVariants as held
use Rattle.cloud_trait.specs.Answers.{held_answer_of, renewed_by}
use Rattle.cloud_trait.specs.Caller.{Caller}
use Rattle.cloud_trait.specs.Claim.{Claim, extended}
use Rattle.cloud_trait.specs.State.{CloudState, Counts, greatest, newest, newest_of, version_at, end_after, lease_given, message_at, called, landed, removed, taken, renewed}
use Rattle.cloud_trait.specs.Seen.{Seen}
use Rattle.cloud_trait.specs.Delivery.{unmarked, unmarked_from, WasSent}
use Rattle.cloud_trait.specs.Ask.{Ask, Get, GetHeld, PutHeld, ListHeld, RemoveHeld, Send, Receive, Delete, Take, Renew, Release, effect, Lands}
use Rattle.cloud_trait.specs.Weather.{leased, counted, Weather, Fits, Makes, Leaves, Rises, RenewsBoth, RenewsLease}
use Rattle.cloud_trait.proofs.RowLemmas.{row_rest}
use Rattle.cloud_trait.proofs.ShowingLemmas.{row_shows}
use Rattle.memory_cloud.specs.Choice.{chosen}
use Rattle.memory_cloud.specs.Outcome.{late, may_land, in_time, Lists, AnswersPlainly, old_version, positions_of, Answers, state_in, counts_in, one_fault, one_withheld, one_stale, end_if_over, end_of_second, Follows, lease_in}
use Rattle.memory_cloud.specs.declared.mood.Mood.{Mood}
use Rattle.memory_cloud.specs.declared.mood.Mood.TheVariants as mood

-- the two cases of a lease, or of a lock
over_cases : (P : Bool → Type 0) (end now : ℕ) → (end ≤ now → P true) → (now < end → P false) → P (nat_le end now)
over_cases P end now over lasts = elim (leb_tells end now) [ inl w ↦ subst P (sym w.0) (over w.1) | inr w ↦ subst P (sym w.0) (lasts w.1) ]

-- what is seen of a cloud that tells its state and not its answers
abbrev told : Counts → CloudState → Seen
told c s = record { counts = c; state = Some s; heard = None; shown = Some (newest s) }

-- a row of the table, with all that a call says beside it
record IsRow (who : Caller) (ask : Ask) (a : Answer) (c d : Counts) (b t : CloudState) : Type 0 where
  fits : Fits ask a
  counts : Rises c d
  dark : d.dark ≡ c.dark
  failed : a ≡ Failed → c.faults < d.faults
  memory : a ≡ Memory → d ≡ c
  row : Weather who ask a (counted c b) (counted d t)

-- a row that raises no count
quiet : (who : Caller) (ask : Ask) (a : Answer) (c : Counts) (b t : CloudState) → Fits ask a → (a ≡ Failed → ⊥) → Weather who ask a (counted c b) (counted c t) → IsRow who ask a c c b t
quiet who ask a c b t fits never row = record {
  fits = fits;
  counts = record { faults = omega arith; withheld = omega arith; stale = omega arith; dark = omega arith };
  dark = refl;
  failed = λ e. absurd (never e);
  memory = λ e. refl;
  row = row;
}

-- a row that failed
failing : (who : Caller) (ask : Ask) (c : Counts) (b t : CloudState) → (t ≡ b) ⊎ Lands who ask b t → IsRow who ask Failed c (one_fault c) b t
failing who ask c b t row = record {
  fits = tt;
  counts = record { faults = omega arith; withheld = omega arith; stale = omega arith; dark = omega arith };
  dark = refl;
  failed = λ e. omega arith;
  memory = λ e. absurd (cc);
  row = row;
}

-- a row that withheld something
withholding : (who : Caller) (ask : Ask) (a : Answer) (c : Counts) (b t : CloudState) → Fits ask a → (a ≡ Failed → ⊥) → (a ≡ Memory → ⊥) → Weather who ask a (counted c b) (counted (one_withheld c) t) → IsRow who ask a c (one_withheld c) b t
withholding who ask a c b t fits never full row = record {
  fits = fits;
  counts = record { faults = omega arith; withheld = omega arith; stale = omega arith; dark = omega arith };
  dark = refl;
  failed = λ e. absurd (never e);
  memory = λ e. absurd (full e);
  row = row;
}

-- a row that is stale
staling : (who : Caller) (ask : Ask) (a : Answer) (c : Counts) (b t : CloudState) → Fits ask a → (a ≡ Failed → ⊥) → (a ≡ Memory → ⊥) → Weather who ask a (counted c b) (counted (one_stale c) t) → IsRow who ask a c (one_stale c) b t
staling who ask a c b t fits never full row = record {
  fits = fits;
  counts = record { faults = omega arith; withheld = omega arith; stale = omega arith; dark = omega arith };
  dark = refl;
  failed = λ e. absurd (never e);
  memory = λ e. absurd (full e);
  row = row;
}

-- a successor is not 0
suc-eqb-zero : (n : ℕ) → (suc n == 0) ≡ false
suc-eqb-zero n = elim (eqb_tells (suc n) 0) [ inl w ↦ absurd (omega (arith, w.1)) | inr w ↦ w.0 ]

-- the newest version is the last one
newest_of-version_at : (vs : List Version) → newest_of vs ≡ version_at vs (length vs)
newest_of-version_at [] = refl
newest_of-version_at (v ∷ vs) = rw (suc-eqb-zero (length vs))

slice_get-append : (front : List Posted) (m : Posted) (ms : List Posted) → slice_get (front ++ m ∷ ms) (length front) ≡ Some m
slice_get-append [] m ms = refl
slice_get-append (x ∷ front) m ms = slice_get-append front m ms

-- a message stands under its number behind a front
message_at-append : (front : List Posted) (m : Posted) (ms : List Posted) (n : ℕ) → n ≡ length front + 1 → message_at (front ++ m ∷ ms) n ≡ Some m.bytes
message_at-append front m ms n e =
    let z : (n == 0) ≡ false = elim (eqb_tells n 0) [ inl w ↦ absurd (omega (arith, w.1)) | inr w ↦ w.0 ] in
    let f : n - 1 ≡ length front = omega arith in
    rw (z, f, slice_get-append front m ms)

-- what is not deleted was sent
unmarked_from-sent : (front ms all : List Posted) (n : ℕ) → n ≡ length front + 1 → all ≡ front ++ ms → All (WasSent all) (unmarked_from n ms)
unmarked_from-sent front [] all n e a = All-nil (WasSent all)
unmarked_from-sent front (m ∷ ms) all n e a = on m.deleted (unmarked_from-sent (front ++ m ∷ []) ms all (n + 1) (omega (arith, length-append front (m ∷ []))) (a ∙ sym (append_assoc front (m ∷ []) ms))) where
  on : (c : Bool) → All (WasSent all) (unmarked_from (n + 1) ms) → All (WasSent all) (cond c (unmarked_from (n + 1) ms) (record { id = n; bytes = m.bytes } ∷ unmarked_from (n + 1) ms))
  on true h = h
  on false h = All-cons (WasSent all) (record { id = n; bytes = m.bytes }) (unmarked_from (n + 1) ms) (rw a (message_at-append front m ms n e)) h

-- what is chosen was sent
chosen-sent : (ms : List Posted) (ps : List ℕ) → All (WasSent ms) (chosen ms ps)
chosen-sent ms [] = All-nil (WasSent ms)
chosen-sent ms (p ∷ ps) = on (message_at ms p) refl (chosen-sent ms ps) where
  on : (o : Option (List ℕ)) → message_at ms p ≡ o → All (WasSent ms) (chosen ms ps) → All (WasSent ms) (option_map_or (λ bytes. record { id = p; bytes = bytes } ∷ chosen ms ps) o (chosen ms ps))
  on None e h = h
  on (Some bytes) e h = All-cons (WasSent ms) (record { id = p; bytes = bytes }) (chosen ms ps) e h

-- a put whose first lease lasts
put_plain : (who : Caller) (name : ObjName) (bytes : List ℕ) (one : Claim) (two : Option Claim) (b : CloudState) (c : Counts) → b.now < one.end → IsRow who (PutHeld name bytes one two) (in_time (end_of_second b.now two) b.now Done) c c b (cond (is_none (end_of_second b.now two)) (landed who name bytes b) b)
put_plain who name bytes one None b c lasts = quiet who (PutHeld name bytes one None) Done c b (landed who name bytes b) tt (λ e. absurd (cc)) (refl, (lasts, tt))
put_plain who name bytes one (Some l) b c lasts = over_cases (λ o. IsRow who (PutHeld name bytes one (Some l)) (in_time (cond o (Some l.end) None) b.now Done) c c b (cond (is_none (cond o (Some l.end) None)) (landed who name bytes b) b)) l.end b.now
    (λ over. quiet who (PutHeld name bytes one (Some l)) (Late l.end b.now) c b b (inr (lasts, (over, refl))) (λ e. absurd (cc)) (refl, inr (lasts, (over, refl)), refl))
    (λ second. quiet who (PutHeld name bytes one (Some l)) Done c b (landed who name bytes b) tt (λ e. absurd (cc)) (refl, (lasts, second)))

-- a take of a lock whose end is over or not, and whose generation can rise or not
take_plain : (who : Caller) (lock : Lock) (ticks : ℕ) (b : CloudState) (c : Counts) (rises : Bool) → IsRow who (Take lock ticks) (cond (nat_le (b.locks lock).until b.now && rises) (Given (lease_given lock ticks b)) (Held (b.locks lock).until)) c (cond (nat_le (b.locks lock).until b.now && not rises) (one_withheld c) c) b (cond (nat_le (b.locks lock).until b.now && rises) (taken lock ticks b) b)
take_plain who lock ticks b c rises = over_cases (λ o. IsRow who (Take lock ticks) (cond (o && rises) (Given (lease_given lock ticks b)) (Held (b.locks lock).until)) c (cond (o && not rises) (one_withheld c) c) b (cond (o && rises) (taken lock ticks b) b)) (b.locks lock).until b.now
    (λ over. on over rises)
    (λ held. quiet who (Take lock ticks) (Held (b.locks lock).until) c b b tt (λ e. absurd (cc)) (refl, inl (refl, held)))
  where
    on : (b.locks lock).until ≤ b.now → (g : Bool) → IsRow who (Take lock ticks) (cond g (Given (lease_given lock ticks b)) (Held (b.locks lock).until)) c (cond (not g) (one_withheld c) c) b (cond g (taken lock ticks b) b)
    on over true = quiet who (Take lock ticks) (Given (lease_given lock ticks b)) c b (taken lock ticks b) refl (λ e. absurd (cc)) ((refl, over), refl)
    on over false = withholding who (Take lock ticks) (Held (b.locks lock).until) c b b tt (λ e. absurd (cc)) (λ e. absurd (cc)) (refl, inr (omega arith))

-- what is taken is no longer than wanted
take-short : {X : Type 0} (n : ℕ) (xs : List X) → length (take n xs) ≤ n
take-short n xs = omega (arith, length-take n xs)

-- what holds at what a call answers
answered : (who : Caller) (ask : Ask) (a x : Answer) (c d : Counts) (b t : CloudState) → a ≡ x → IsRow who ask x c d b t → IsRow who ask a c d b t
answered who ask a x c d b t e row =
    let P : Answer → Type 0 = λ y. IsRow who ask y c d b t in subst P (sym e) row

-- a listing whose lease lasts
list_plain : (who : Caller) (tree : ℕ) (l : Claim) (a : Answer) (b : CloudState) (c : Counts) → b.now < l.end → Lists None tree b a → IsRow who (ListHeld tree l) a c c b b
list_plain who tree l (Listed pages) b c lasts h = quiet who (ListHeld tree l) (Listed pages) c b b h.ascending (λ e. absurd (cc)) (refl, lasts, h)
list_plain who tree l a b c lasts h = absurd h

-- a plain call
plain : (who : Caller) (ask : Ask) (a : Answer) (b : CloudState) (c : Counts) → AnswersPlainly ask b a → IsRow who ask a c (counts_in mood.Plain ask b c) b (cond (may_land ask b) (effect who ask b) b)
plain who (Get name) a b c e = answered who (Get name) a (Got (newest b name)) c c b b e (quiet who (Get name) (Got (newest b name)) c b b tt (λ e. absurd (cc)) (refl, (length (b.versions name), newest_of-version_at (b.versions name)), inl refl))
plain who (GetHeld name l) a b c e = over_cases (λ o. a ≡ in_time (cond o (Some l.end) None) b.now (Got (newest b name)) → IsRow who (GetHeld name l) a c c b (cond (is_none (cond o (Some l.end) None)) b b)) l.end b.now
    (λ over e. answered who (GetHeld name l) a (Late l.end b.now) c c b b e (quiet who (GetHeld name l) (Late l.end b.now) c b b (over, refl) (λ e. absurd (cc)) (refl, over, refl, refl)))
    (λ lasts e. answered who (GetHeld name l) a (Got (newest b name)) c c b b e (quiet who (GetHeld name l) (Got (newest b name)) c b b tt (λ e. absurd (cc)) (refl, lasts, refl))) e
plain who (PutHeld name bytes one two) a b c e = over_cases (λ o. a ≡ in_time (cond o (Some one.end) (end_of_second b.now two)) b.now Done → IsRow who (PutHeld name bytes one two) a c c b (cond (is_none (cond o (Some one.end) (end_of_second b.now two))) (landed who name bytes b) b)) one.end b.now
    (λ over e. answered who (PutHeld name bytes one two) a (Late one.end b.now) c c b b e (quiet who (PutHeld name bytes one two) (Late one.end b.now) c b b (inl (over, refl)) (λ e. absurd (cc)) (refl, inl (over, refl), refl)))
    (λ lasts e. answered who (PutHeld name bytes one two) a (in_time (end_of_second b.now two) b.now Done) c c b (cond (is_none (end_of_second b.now two)) (landed who name bytes b) b) e (put_plain who name bytes one two b c lasts)) e
plain who (ListHeld tree l) a b c h = over_cases (λ o. Lists (cond o (Some l.end) None) tree b a → IsRow who (ListHeld tree l) a c c b (cond (is_none (cond o (Some l.end) None)) b b)) l.end b.now
    (λ over e. answered who (ListHeld tree l) a (Late l.end b.now) c c b b e (quiet who (ListHeld tree l) (Late l.end b.now) c b b (over, refl) (λ e. absurd (cc)) (refl, over, refl, refl)))
    (λ lasts h. list_plain who tree l a b c lasts h) h
plain who (RemoveHeld name l) a b c e = over_cases (λ o. a ≡ in_time (cond o (Some l.end) None) b.now Done → IsRow who (RemoveHeld name l) a c c b (cond (is_none (cond o (Some l.end) None)) (removed who name b) b)) l.end b.now
    (λ over e. answered who (RemoveHeld name l) a (Late l.end b.now) c c b b e (quiet who (RemoveHeld name l) (Late l.end b.now) c b b (over, refl) (λ e. absurd (cc)) (refl, over, refl, refl)))
    (λ lasts e. answered who (RemoveHeld name l) a Done c c b (removed who name b) e (quiet who (RemoveHeld name l) Done c b (removed who name b) tt (λ e. absurd (cc)) (refl, lasts))) e
plain who (Send queue bytes) a b c e = answered who (Send queue bytes) a _ c c b (effect who (Send queue bytes) b) e (quiet who (Send queue bytes) _ c b (effect who (Send queue bytes) b) tt (λ e. absurd (cc)) ((refl, tt), refl))
plain who (Receive queue most) a b c e = answered who (Receive queue most) a _ c c b b e (quiet who (Receive queue most) _ c b b (take-short most (unmarked (b.messages queue))) (λ e. absurd (cc)) (refl, All-take (WasSent (b.messages queue)) most (unmarked (b.messages queue)) (unmarked_from-sent [] (b.messages queue) (b.messages queue) 1 refl refl), inl (IsPermutation-refl (take most (unmarked (b.messages queue))))))
plain who (Delete queue id) a b c e = answered who (Delete queue id) a Done c c b (effect who (Delete queue id) b) e (quiet who (Delete queue id) Done c b (effect who (Delete queue id) b) tt (λ e. absurd (cc)) (refl, tt))
plain who (Take lock ticks) a b c e = answered who (Take lock ticks) a _ c _ b _ e (take_plain who lock ticks b c (nat_lt (b.locks lock).generation greatest))
plain who (Renew l ticks) a b c e = over_cases (λ o. a ≡ in_time (cond o (Some l.end) None) b.now (Renewed (end_after b.now ticks)) → IsRow who (Renew l ticks) a c c b (cond (is_none (cond o (Some l.end) None)) (effect who (Renew l ticks) b) b)) l.end b.now
    (λ over e. answered who (Renew l ticks) a (Late l.end b.now) c c b b e (quiet who (Renew l ticks) (Late l.end b.now) c b b (over, refl) (λ e. absurd (cc)) (refl, over, refl, refl)))
    (λ lasts e. answered who (Renew l ticks) a (Renewed (end_after b.now ticks)) c c b (effect who (Renew l ticks) b) e (quiet who (Renew l ticks) (Renewed (end_after b.now ticks)) c b (effect who (Renew l ticks) b) tt (λ e. absurd (cc)) ((refl, lasts), refl))) e
plain who (Release l) a b c e = answered who (Release l) a Done c c b (effect who (Release l) b) e (quiet who (Release l) Done c b (effect who (Release l) b) tt (λ e. absurd (cc)) (refl, tt))

-- a put that is lost, whose first lease lasts
put_lost : (who : Caller) (name : ObjName) (bytes : List ℕ) (one : Claim) (two : Option Claim) (b : CloudState) (c : Counts) → b.now < one.end → IsRow who (PutHeld name bytes one two) (in_time (end_of_second b.now two) b.now Failed) c (cond (is_none (end_of_second b.now two)) (one_fault c) c) b (cond (is_none (end_of_second b.now two)) (landed who name bytes b) b)
put_lost who name bytes one None b c lasts = failing who (PutHeld name bytes one None) c b (landed who name bytes b) (inr (refl, (lasts, tt)))
put_lost who name bytes one (Some l) b c lasts = over_cases (λ o. IsRow who (PutHeld name bytes one (Some l)) (in_time (cond o (Some l.end) None) b.now Failed) c (cond (is_none (cond o (Some l.end) None)) (one_fault c) c) b (cond (is_none (cond o (Some l.end) None)) (landed who name bytes b) b)) l.end b.now
    (λ over. quiet who (PutHeld name bytes one (Some l)) (Late l.end b.now) c b b (inr (lasts, (over, refl))) (λ e. absurd (cc)) (refl, inr (lasts, (over, refl)), refl))
    (λ second. failing who (PutHeld name bytes one (Some l)) c b (landed who name bytes b) (inr (refl, (lasts, second))))

-- a take that is lost
take_lost : (who : Caller) (lock : Lock) (ticks : ℕ) (b : CloudState) (c : Counts) (rises : Bool) → IsRow who (Take lock ticks) Failed c (one_fault c) b (cond (nat_le (b.locks lock).until b.now && rises) (taken lock ticks b) b)
take_lost who lock ticks b c rises = over_cases (λ o. IsRow who (Take lock ticks) Failed c (one_fault c) b (cond (o && rises) (taken lock ticks b) b)) (b.locks lock).until b.now
    (λ over. on over rises)
    (λ held. failing who (Take lock ticks) c b b (inl refl))
  where
    on : (b.locks lock).until ≤ b.now → (g : Bool) → IsRow who (Take lock ticks) Failed c (one_fault c) b (cond g (taken lock ticks b) b)
    on over true = failing who (Take lock ticks) c b (taken lock ticks b) (inr (refl, over))
    on over false = failing who (Take lock ticks) c b b (inl refl)

-- a call that is lost
lost : (who : Caller) (ask : Ask) (b : CloudState) (c : Counts) → IsRow who ask (in_time (late ask b) b.now Failed) c (counts_in mood.Lost ask b c) b (cond (may_land ask b) (effect who ask b) b)
lost who (Get name) b c = failing who (Get name) c b b (inl refl)
lost who (GetHeld name l) b c = over_cases (λ o. IsRow who (GetHeld name l) (in_time (cond o (Some l.end) None) b.now Failed) c (cond (is_none (cond o (Some l.end) None)) (one_fault c) c) b (cond (is_none (cond o (Some l.end) None)) b b)) l.end b.now
    (λ over. quiet who (GetHeld name l) (Late l.end b.now) c b b (over, refl) (λ e. absurd (cc)) (refl, over, refl, refl))
    (λ lasts. failing who (GetHeld name l) c b b (inl refl))
lost who (PutHeld name bytes one two) b c = over_cases (λ o. IsRow who (PutHeld name bytes one two) (in_time (cond o (Some one.end) (end_of_second b.now two)) b.now Failed) c (cond (is_none (cond o (Some one.end) (end_of_second b.now two))) (one_fault c) c) b (cond (is_none (cond o (Some one.end) (end_of_second b.now two))) (landed who name bytes b) b)) one.end b.now
    (λ over. quiet who (PutHeld name bytes one two) (Late one.end b.now) c b b (inl (over, refl)) (λ e. absurd (cc)) (refl, inl (over, refl), refl))
    (λ lasts. put_lost who name bytes one two b c lasts)
lost who (ListHeld tree l) b c = over_cases (λ o. IsRow who (ListHeld tree l) (in_time (cond o (Some l.end) None) b.now Failed) c (cond (is_none (cond o (Some l.end) None)) (one_fault c) c) b (cond (is_none (cond o (Some l.end) None)) b b)) l.end b.now
    (λ over. quiet who (ListHeld tree l) (Late l.end b.now) c b b (over, refl) (λ e. absurd (cc)) (refl, over, refl, refl))
    (λ lasts. failing who (ListHeld tree l) c b b (inl refl))
lost who (RemoveHeld name l) b c = over_cases (λ o. IsRow who (RemoveHeld name l) (in_time (cond o (Some l.end) None) b.now Failed) c (cond (is_none (cond o (Some l.end) None)) (one_fault c) c) b (cond (is_none (cond o (Some l.end) None)) (removed who name b) b)) l.end b.now
    (λ over. quiet who (RemoveHeld name l) (Late l.end b.now) c b b (over, refl) (λ e. absurd (cc)) (refl, over, refl, refl))
    (λ lasts. failing who (RemoveHeld name l) c b (removed who name b) (inr (refl, lasts)))
lost who (Send queue bytes) b c = failing who (Send queue bytes) c b (effect who (Send queue bytes) b) (inr (refl, tt))
lost who (Receive queue most) b c = failing who (Receive queue most) c b b (inl refl)
lost who (Delete queue id) b c = failing who (Delete queue id) c b (effect who (Delete queue id) b) (inr (refl, tt))
lost who (Take lock ticks) b c = take_lost who lock ticks b c (nat_lt (b.locks lock).generation greatest)
lost who (Renew l ticks) b c = over_cases (λ o. IsRow who (Renew l ticks) (in_time (cond o (Some l.end) None) b.now Failed) c (cond (is_none (cond o (Some l.end) None)) (one_fault c) c) b (cond (is_none (cond o (Some l.end) None)) (effect who (Renew l ticks) b) b)) l.end b.now
    (λ over. quiet who (Renew l ticks) (Late l.end b.now) c b b (over, refl) (λ e. absurd (cc)) (refl, over, refl, refl))
    (λ lasts. failing who (Renew l ticks) c b (effect who (Renew l ticks) b) (inr (refl, lasts)))
lost who (Release l) b c = failing who (Release l) c b (effect who (Release l) b) (inr (refl, tt))

-- what a call does is a row of the table, in every mood
row_in : (m : Mood) (who : Caller) (ask : Ask) (a : Answer) (b : CloudState) (c : Counts) → Answers m ask b a → IsRow who ask a c (counts_in m ask b c) b (state_in m who ask b)
row_in mood.Plain who (Take lock ticks) a b c e = plain who (Take lock ticks) a b c e
row_in mood.Fail who ask a b c e = answered who ask a Failed c (one_fault c) b b e (failing who ask c b b (inl refl))
row_in mood.Lost who ask a b c e = answered who ask a _ c _ b _ e (lost who ask b c)
row_in mood.Hide who (Receive queue most) a b c e = answered who (Receive queue most) a (Received []) c (one_withheld c) b b e (withholding who (Receive queue most) (Received []) c b b (omega arith) (λ e. absurd (cc)) (λ e. absurd (cc)) (refl, All-nil (WasSent (b.messages queue)), inr (omega arith)))
row_in mood.Hide who (Take lock ticks) a b c e = answered who (Take lock ticks) a (Held b.now) c (one_withheld c) b b e (withholding who (Take lock ticks) (Held b.now) c b b tt (λ e. absurd (cc)) (λ e. absurd (cc)) (refl, inr (omega arith)))
row_in (mood.Old n) who (Get name) a b c e =
    answered who (Get name) a (Got (old_version (b.versions name) n)) c (one_stale c) b b e
    (staling who (Get name) (Got (old_version (b.versions name) n)) c b b tt (λ e. absurd (cc)) (λ e. absurd (cc)) (refl, (min n (length (b.versions name)), refl), inr (omega arith)))
row_in mood.Give who (Receive queue most) a b c e =
    let x : Answer = Received (take most (chosen (b.messages queue) (positions_of b.last))) in
    answered who (Receive queue most) a x c (one_withheld c) b b e
    (withholding who (Receive queue most) x c b b (take-short most (chosen (b.messages queue) (positions_of b.last))) (λ e. absurd (cc)) (λ e. absurd (cc))
    (refl, All-take (WasSent (b.messages queue)) most (chosen (b.messages queue) (positions_of b.last)) (chosen-sent (b.messages queue) (positions_of b.last)), inr (omega arith)))
row_in m who ask a b c e = plain who ask a b c e

-- a call that obeys its mood is a row
obeys_row : (m : Mood) (who : Caller) (ask : Ask) (a : Answer) (c d : Counts) (b t : CloudState) → Follows m who ask a (c, b) (d, t) → IsRow who ask a c d b t
obeys_row m who ask a c d b t (inl o) =
    let Q : CloudState → Type 0 = λ x. IsRow who ask a c d b x in
    let R : Counts → Type 0 = λ x. IsRow who ask a c x b (state_in m who ask b) in
    subst Q (sym o.1) (subst R (sym o.2) (row_in m who ask a b c o.0))
obeys_row m who ask a c d b t (inr o) =
    let P : Answer → Type 0 = λ x. IsRow who ask x c d b t in
    let Q : CloudState → Type 0 = λ x. IsRow who ask Memory c d b x in
    let R : Counts → Type 0 = λ x. IsRow who ask Memory c x b b in
    subst P (sym o.0) (subst Q (sym o.1) (subst R (sym o.2) (quiet who ask Memory c b b tt (λ e. absurd (cc)) refl)))

-- and so is what a service call is
obeys_makes : (m : Mood) (who : Caller) (ask : Ask) (a : Answer) (c d : Counts) (s t : CloudState) → Follows m who ask a (c, called who s.now s) (d, t) → Makes who ask a (told c s) (told d t)
obeys_makes m who ask a c d s t o =
    let r = obeys_row m who ask a c d (called who s.now s) t o in
    let still : t.now ≡ s.now = (row_rest who ask a c d (called who s.now s) t r.row).now in
    let P : ℕ → Type 0 = λ n. Weather who ask a (counted c (called who n s)) (counted d t) in
    let leaves : Leaves who ask a (counted c s) d (Some t) = record { after = t; told = refl; later = omega arith; row = subst P (sym still) r.row } in
    let Q : CloudState → Type 0 = λ u. Leaves who ask a (counted c u) d (Some t) in
    record {
      fits = r.fits;
      heard = λ x e. absurd (cc (e));
      counts = r.counts;
      dark = r.dark;
      failed = r.failed;
      memory = r.memory;
      shown = row_shows who ask a c d (called who s.now s) t r.row;
      state = λ u e. (let same : s ≡ u = cc in subst Q same leaves);
    }

-- what a renewal leaves of the lease, by what it answered
abbrev RenewsRow : Caller → ℕ → Claim → Claim → Answer → CloudState → CloudState → Type 0
RenewsRow who ticks l m (Renewed e) b t = m ≡ extended l e
RenewsRow who ticks l m Failed b t = (m ≡ extended l m.end) × RenewsBoth who ticks l m b t
RenewsRow who ticks l m a b t = m ≡ l

renews_plain : (who : Caller) (l : Claim) (ticks : ℕ) (b : CloudState) → RenewsRow who ticks l (cond (nat_le l.end b.now) l (extended l (end_after b.now ticks))) (in_time (end_if_over b.now l) b.now (Renewed (end_after b.now ticks))) b (cond (is_none (end_if_over b.now l)) (renewed l ticks b) b)
renews_plain who l ticks b = over_cases (λ o. RenewsRow who ticks l (cond o l (extended l (end_after b.now ticks))) (in_time (cond o (Some l.end) None) b.now (Renewed (end_after b.now ticks))) b (cond (is_none (cond o (Some l.end) None)) (renewed l ticks b) b)) l.end b.now
    (λ over. refl) (λ lasts. refl)

renews_lost : (who : Caller) (l : Claim) (ticks : ℕ) (b : CloudState) → RenewsRow who ticks l (cond (nat_le l.end b.now) l (extended l (end_after b.now ticks))) (in_time (end_if_over b.now l) b.now Failed) b (cond (is_none (end_if_over b.now l)) (renewed l ticks b) b)
renews_lost who l ticks b = over_cases (λ o. RenewsRow who ticks l (cond o l (extended l (end_after b.now ticks))) (in_time (cond o (Some l.end) None) b.now Failed) b (cond (is_none (cond o (Some l.end) None)) (renewed l ticks b) b)) l.end b.now
    (λ over. refl) (λ lasts. (refl, inr ((refl, lasts), refl)))

renews_in : (m : Mood) (who : Caller) (l : Claim) (ticks : ℕ) (a : Answer) (b : CloudState) → Answers m (Renew l ticks) b a → RenewsRow who ticks l (lease_in m l ticks b) a b (state_in m who (Renew l ticks) b)
renews_in mood.Fail who l ticks a b e =
    let P : Answer → Type 0 = λ x. RenewsRow who ticks l l x b b in subst P (sym e) (refl, inl (refl, refl))
renews_in mood.Lost who l ticks a b e =
    let P : Answer → Type 0 = λ x. RenewsRow who ticks l (cond (nat_le l.end b.now) l (extended l (end_after b.now ticks))) x b (cond (is_none (end_if_over b.now l)) (renewed l ticks b) b) in
    subst P (sym e) (renews_lost who l ticks b)
renews_in m who l ticks a b e =
    let P : Answer → Type 0 = λ x. RenewsRow who ticks l (cond (nat_le l.end b.now) l (extended l (end_after b.now ticks))) x b (cond (is_none (end_if_over b.now l)) (renewed l ticks b) b) in
    subst P (sym e) (renews_plain who l ticks b)

-- the same between the states that are told
renews_told : (who : Caller) (ticks : ℕ) (l m : Claim) (a : Answer) (c d : Counts) (s t : CloudState) → t.now ≡ s.now → RenewsRow who ticks l m a (called who s.now s) t → RenewsLease who ticks a (leased l (told c s)) (leased m (told d t))
renews_told who ticks l m (Renewed e) c d s t n r = r
renews_told who ticks l m Failed c d s t n r = (
  r.0,
  λ u v e f. (
      let p : s ≡ u = cc in
      let q : t ≡ v = cc in
      let P : CloudState → Type 0 = λ x. RenewsBoth who ticks l m (called who v.now x) v in
      let Q : CloudState → Type 0 = λ x. RenewsBoth who ticks l m (called who x.now s) x in
      let R : ℕ → Type 0 = λ k. RenewsBoth who ticks l m (called who k s) t in
      subst P p (subst Q q (subst R (sym n) r.1))),
)
renews_told who ticks l m a c d s t n r = r

-- a renewal that obeys its mood leaves the lease as a renewal does
obeys_renews : (m : Mood) (who : Caller) (l n : Claim) (ticks : ℕ) (a : Answer) (c d : Counts) (s t : CloudState) → Follows m who (Renew l ticks) a (c, called who s.now s) (d, t) → (a ≡ Memory → ⊥) → n ≡ lease_in m l ticks (called who s.now s) → RenewsLease who ticks a (leased l (told c s)) (leased n (told d t))
obeys_renews m who l n ticks a c d s t (inr o) never e = absurd (never o.0)
obeys_renews m who l n ticks a c d s t (inl o) never e =
    let r = obeys_row m who (Renew l ticks) a c d (called who s.now s) t (inl o) in
    let still : t.now ≡ s.now = (row_rest who (Renew l ticks) a c d (called who s.now s) t r.row).now in
    let P : Claim → Type 0 = λ x. RenewsRow who ticks l x a (called who s.now s) t in
    let R : CloudState → Type 0 = λ x. RenewsRow who ticks l (lease_in m l ticks (called who s.now s)) a (called who s.now s) x in
    renews_told who ticks l n a c d s t still (subst P (sym e) (subst R (sym o.1) (renews_in m who l ticks a (called who s.now s) o.0)))

-- what is seen of a cloud in which foreign bytes were planted, or none
abbrev seen_in : Bool → Counts → CloudState → Seen
seen_in planted c s = record { counts = c; state = cond planted None (Some s); heard = None; shown = Some (newest s) }

-- where the state is not told, less is said of a call
untold_makes : (planted : Bool) (who : Caller) (ask : Ask) (a : Answer) (c d : Counts) (s t : CloudState) → Makes who ask a (told c s) (told d t) → Makes who ask a (seen_in planted c s) (seen_in planted d t)
untold_makes false who ask a c d s t m = m
untold_makes true who ask a c d s t m = record { fits = m.fits; heard = m.heard; counts = m.counts; dark = m.dark; failed = m.failed; memory = m.memory; shown = m.shown; state = λ u e. absurd (cc (e)) }

untold_renews : (planted : Bool) (who : Caller) (ticks : ℕ) (l n : Claim) (a : Answer) (c d : Counts) (s t : CloudState) → RenewsLease who ticks a (leased l (told c s)) (leased n (told d t)) → RenewsLease who ticks a (leased l (seen_in planted c s)) (leased n (seen_in planted d t))
untold_renews false who ticks l n a c d s t r = r
untold_renews true who ticks l n (Renewed e) c d s t r = r
untold_renews true who ticks l n Failed c d s t r = (r.0, λ u v e f. absurd (cc (e)))
untold_renews true who ticks l n a c d s t r = r

-- the same of a call that has begun
pub begun_makes : (p q : Bool) (m : Mood) (who : Caller) (ask : Ask) (a : Answer) (c e d : Counts) (s b t : CloudState) → q ≡ p → b ≡ called who s.now s → e ≡ c → Follows m who ask a (e, b) (d, t) → Makes who ask a (seen_in p c s) (seen_in q d t)
begun_makes p q m who ask a c e d s b t still is same o =
    let P : CloudState → Type 0 = λ x. Follows m who ask a (e, x) (d, t) in
    let Q : Counts → Type 0 = λ x. Follows m who ask a (x, called who s.now s) (d, t) in
    let R : Bool → Type 0 = λ x. Makes who ask a (seen_in p c s) (seen_in x d t) in
    subst R (sym still) (untold_makes p who ask a c d s t (obeys_makes m who ask a c d s t (subst Q same (subst P is o))))

pub begun_renews : (p q : Bool) (m : Mood) (who : Caller) (l n : Claim) (ticks : ℕ) (a : Answer) (c e d : Counts) (s b t : CloudState) → q ≡ p → b ≡ called who s.now s → e ≡ c → Follows m who (Renew l ticks) a (e, b) (d, t) → (a ≡ Memory → ⊥) → n ≡ lease_in m l ticks b → RenewsLease who ticks a (leased l (seen_in p c s)) (leased n (seen_in q d t))
begun_renews p q m who l n ticks a c e d s b t still is same o never lease =
    let P : CloudState → Type 0 = λ x. Follows m who (Renew l ticks) a (e, x) (d, t) in
    let Q : Counts → Type 0 = λ x. Follows m who (Renew l ticks) a (x, called who s.now s) (d, t) in
    let R : CloudState → Type 0 = λ x. n ≡ lease_in m l ticks x in
    let S : Bool → Type 0 = λ x. RenewsLease who ticks a (leased l (seen_in p c s)) (leased n (seen_in x d t)) in
    subst S (sym still) (untold_renews p who ticks l n a c d s t (obeys_renews m who l n ticks a c d s t (subst Q same (subst P is o)) never (subst R is lease)))

-- a renewal that does not answer want of memory
pub not_memory : {A : Type 0} (l : Claim) (r : Result A HeldFault) → (r ≡ Err held.Memory → ⊥) → held_answer_of (renewed_by l) r ≡ Memory → ⊥
not_memory l (Ok x) never e = cc
not_memory l (Err held.Failed) never e = cc
not_memory l (Err (held.Late i j)) never e = cc
not_memory l (Err held.Memory) never e = never refl
