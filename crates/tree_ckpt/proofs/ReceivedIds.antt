-- A tree checkpoint tells the ids of its one receive.
use Rattle.std.proofs.Common.{◌≡◌, ℕ, List, [], ◌∷◌, ◌++◌, refl, sym, ap, subst, ◌∙◌}
use Rattle.db_base.specs.declared.names.QueueName.TheVariants as queue
use Rattle.cloud_trait.specs.declared.answer.Answer.TheVariants as call
use Rattle.cloud_trait.specs.Ask.{Get, GetHeld, PutHeld, ListHeld, RemoveHeld, Send, Receive, Delete, Take, Renew, Release}
use Rattle.ckpt_parts.specs.Intakes.{ids_of}
use Rattle.tree_ckpt.specs.Making.{Making, new_making, making_ask, received_after, MakingLeads}
use Rattle.tree_ckpt.specs.Leases.{Went}
use Rattle.tree_ckpt.specs.Causes.{Calls}
use Rattle.tree_ckpt.specs.Meaning.{Opening, opening_calls, IsAtWork, AreAtWork, Works, Tried, deletes_over}
use Rattle.tree_ckpt.proofs.Words.{Taken, Answer, Message, Claim, Deed, Came, calls_of, Fits, Ask}

-- what the newest receive brought
abbrev told_by : Calls → List ℕ
told_by [] = []
told_by (c ∷ cs) = received_after (told_by cs) c.1

abbrev AreFit : Calls → Type 0
AreFit [] = Unit {0}
AreFit (c ∷ cs) = Fits c.0 c.1 × AreFit cs

came_told : (tree : ℕ) (h : List Deed) (m : Making) → Came making_ask MakingLeads (new_making tree) h m → (m.received ≡ told_by (calls_of h)) × AreFit (calls_of h)
came_told tree [] m came = (ap (λ (n : Making). n.received) came, tt)
came_told tree (d ∷ h) m came =
    let before = came_told tree h came.0 came.1 in
    (came.4.0.1 ∙ ap (λ (ids : List ℕ). received_after ids d.answer) before.0, (came.3.fits, before.1))

-- ---- no other call receives

abbrev IsOther : Ask → Type 0
IsOther (Receive queue most) = ⊥
IsOther ask = Unit {0}

never_received : (ask : Ask) (ms : List Message) → IsOther ask → Fits ask (call.Received ms) → ⊥
never_received (Get name) ms other fits = fits
never_received (GetHeld name l) ms other fits = fits
never_received (PutHeld name bytes one two) ms other fits = fits
never_received (ListHeld tree l) ms other fits = fits
never_received (RemoveHeld name l) ms other fits = fits
never_received (Send queue bytes) ms other fits = fits
never_received (Receive queue most) ms other fits = other
never_received (Delete queue id) ms other fits = fits
never_received (Take lock ticks) ms other fits = fits
never_received (Renew l ticks) ms other fits = fits
never_received (Release l) ms other fits = fits

still_told : (ask : Ask) (a : Answer) (ids : List ℕ) → IsOther ask → Fits ask a → received_after ids a ≡ ids
still_told ask (call.Received ms) ids other fits = absurd (never_received ask ms other fits)
still_told ask a ids other fits = refl

other_at_work : (ask : Ask) → IsAtWork ask → IsOther ask
other_at_work (Get name) h = tt
other_at_work (GetHeld name l) h = tt
other_at_work (PutHeld name bytes one two) h = tt
other_at_work (ListHeld tree l) h = tt
other_at_work (RemoveHeld name l) h = tt
other_at_work (Send queue bytes) h = tt
other_at_work (Receive queue most) h = h
other_at_work (Delete queue id) h = tt
other_at_work (Take lock ticks) h = tt
other_at_work (Renew l ticks) h = tt
other_at_work (Release l) h = tt

work_told : (work rest : Calls) → AreAtWork work → AreFit (work ++ rest) → told_by (work ++ rest) ≡ told_by rest
work_told [] rest at fit = refl
work_told (c ∷ cs) rest at fit = still_told c.0 c.1 (told_by (cs ++ rest)) (other_at_work c.0 at.0) fit.0 ∙ work_told cs rest at.1 fit.1

works_told : (tree : ℕ) (lease : Claim) (run : Taken) (work rest : Calls) → Works tree lease run work → AreFit (work ++ rest) → told_by (work ++ rest) ≡ told_by rest
works_told tree lease run [] rest works fit = refl
works_told tree lease run (c ∷ cs) rest works fit =
    still_told c.0 c.1 (told_by (cs ++ rest)) (subst (λ (d : Ask × Answer). IsOther d.0) (sym works.1.2) tt) fit.0 ∙ work_told cs rest works.2 fit.1

deletes_told : (tree : ℕ) (tries : Tried) (rest : Calls) → AreFit (deletes_over tree tries rest)
    → (told_by (deletes_over tree tries rest) ≡ told_by rest) × AreFit rest
deletes_told tree [] rest fit = (refl, fit)
deletes_told tree (t ∷ ts) rest fit =
    let more = deletes_told tree ts rest fit.1 in
    (still_told (Delete (queue.TreePu tree) t.0) t.1 (told_by (deletes_over tree ts rest)) tt fit.0 ∙ more.0, more.1)

-- the ids are those of the opening's receive
pub went_told : (m : Making) (h : List Deed) (lease : Claim) (o : Opening) (work : Calls) (tries : Tried) → Went h m → Works m.tree lease o.run work
    → calls_of h ≡ deletes_over m.tree tries (work ++ opening_calls m.tree lease o) → m.received ≡ ids_of o.messages
went_told m h lease o work tries went works e =
    let known = came_told m.tree h m went in
    let fit : AreFit (deletes_over m.tree tries (work ++ opening_calls m.tree lease o)) = subst AreFit e known.1 in
    let deleted = deletes_told m.tree tries (work ++ opening_calls m.tree lease o) fit in
    known.0 ∙ ap told_by e ∙ deleted.0 ∙ works_told m.tree lease o.run work (opening_calls m.tree lease o) works deleted.1
