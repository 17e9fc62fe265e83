-- The lease of a commit.
use Rattle.std.proofs.Common.{◌≡◌, inl, ℕ, [], ◌∷◌, Option, Some, None, refl}
use Rattle.std.specs.Prelude.{slice_get}
use Rattle.cloud_facts.specs.Calls.Acting.{exchange, Handles}
use Rattle.cloud_facts.specs.Words.{AtomicRec, Answer, CloudState, Caller, Store}
use Rattle.session_facts.specs.Machines.Commits.Knows.{KnowsCommitAt, KnowsCommit}
use Rattle.commit_writes.specs.declared.stage.Stage.{Stage}
use Rattle.commit_writes.specs.declared.stage.Stage.TheVariants.{Waiting, Logging, Opening, Sending, Settling, Deleting, Finished}
use Rattle.commit_writes.specs.Sound.{SendsRecord, IsThere, IsSoundAt, IsSound}
use Rattle.commit_writes.specs.Writing.{Writing, head_ask, send_ask, delete_ask, ask_at, writing_ask}
use Rattle.db_base.specs.declared.names.Lock.TheVariants as lock
use Rattle.cloud_facts.specs.Homes.Homes.{Home, Part}

-- a put names the home's lease, which guards the head; the lease stays as it is
module _ (who : Caller) (s t : CloudState) (w : Writing) (reply : Answer) where
  sends_hands : (o : Option AtomicRec) → SendsRecord w o → Handles (exchange who s t (send_ask w o) reply) (w.home.lease ∷ []) (w.home.lease ∷ [])
  sends_hands (Some r) sends = record { owns = tt; guarded = tt; renewed = w.home.lease; renews = tt; own = λ x is. inl (is, tt) }
  sends_hands None never = absurd never

  deletes_hands : (o : Option ℕ) → IsThere o → Handles (exchange who s t (delete_ask w o) reply) (w.home.lease ∷ []) (w.home.lease ∷ [])
  deletes_hands (Some id) is = record { owns = tt; guarded = tt; renewed = w.home.lease; renews = tt; own = λ x there. inl (there, tt) }
  deletes_hands None never = absurd never

  put_hands : w.home.lease.lock ≡ lock.Client w.home.client → Handles (exchange who s t (head_ask w) reply) (w.home.lease ∷ []) (w.home.lease ∷ [])
  put_hands held = record { owns = ((0, refl), tt); guarded = λ lasts. inl held; renewed = w.home.lease; renews = tt; own = λ x is. inl (is, tt) }

  hands_at : (st : Store) (now : ℕ) (g : Home) (stage : Stage) → w.home.lease.lock ≡ lock.Client w.home.client → KnowsCommitAt stage st now w g → IsSoundAt stage w
      → Handles (exchange who s t (ask_at stage w) reply) (w.home.lease ∷ []) (w.home.lease ∷ [])
  hands_at st now g Waiting held never sound = absurd never
  hands_at st now g Logging held a sound = record { owns = tt; guarded = tt; renewed = w.home.lease; renews = tt; own = λ x is. inl (is, tt) }
  hands_at st now g Opening held a sound = put_hands held
  hands_at st now g Sending held a sound = sends_hands (slice_get w.records w.place) sound
  hands_at st now g Settling held a sound = put_hands held
  hands_at st now g Deleting held a sound = deletes_hands (slice_get w.ids w.place) sound
  hands_at st now g Finished held never sound = absurd never

  pub commit_handles : (st : Store) (now : ℕ) (part : Part) → KnowsCommit st now w part → IsSound w → Handles (exchange who s t (writing_ask w) reply) (w.home.lease ∷ []) (w.home.lease ∷ [])
  commit_handles st now part k sound = hands_at st now k.home w.stage k.lock k.at sound
