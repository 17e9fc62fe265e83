-- Why an answer that brings no value stops a machine: the call failed, came too late or found no memory, or somebody holds the lock.
use Rattle.std.proofs.Common.{◌≡◌, ℕ, Result, Err, refl, subst}
use Rattle.cloud_facts.specs.Words.{Trouble, Lock, Answer, done_of, got_of, given_of, received_of, sent_of}
use Rattle.cloud_trait.specs.declared.answer.Answer.TheVariants.{Got, Sent, Received, Listed, Done, Given, Held, Renewed, Late, Memory}
use Rattle.cloud_trait.specs.Views.{trouble_of, listed_of, renewed_of}
use Rattle.db_base.specs.declared.trouble.Trouble.TheVariants as trouble

-- what may stop a machine has what any call may be refused for
pub record TakesRefusals (May : Trouble → Type 0) : Type 0 where
  pub failed : May trouble.Failed
  pub late : (until now : ℕ) → May (trouble.Late until now)
  pub memory : May trouble.Memory

module _ {May : Trouble → Type 0} (takes : TakesRefusals May) where
  pub refused_may : (a : Answer) → May (trouble_of a)
  refused_may (Late until now) = takes.late until now
  refused_may Memory = takes.memory
  refused_may a = takes.failed

  refusal : {X : Type 0} (a b : Trouble) (g : Result X Trouble) → May a → g ≡ Err a → g ≡ Err b → May b
  refusal a b g may e f = let same : a ≡ b = cc in subst May same may

  pub got_may : (a : Answer) (t : Trouble) → got_of a ≡ Err t → May t
  got_may (Got v) t e = absurd (cc)
  got_may a t e = refusal (trouble_of a) t (got_of a) (refused_may a) refl e

  pub sent_may : (a : Answer) (t : Trouble) → sent_of a ≡ Err t → May t
  sent_may (Sent id) t e = absurd (cc)
  sent_may a t e = refusal (trouble_of a) t (sent_of a) (refused_may a) refl e

  pub received_may : (a : Answer) (t : Trouble) → received_of a ≡ Err t → May t
  received_may (Received ms) t e = absurd (cc)
  received_may a t e = refusal (trouble_of a) t (received_of a) (refused_may a) refl e

  pub listed_may : (a : Answer) (t : Trouble) → listed_of a ≡ Err t → May t
  listed_may (Listed pages) t e = absurd (cc)
  listed_may a t e = refusal (trouble_of a) t (listed_of a) (refused_may a) refl e

  pub done_may : (a : Answer) (t : Trouble) → done_of a ≡ Err t → May t
  done_may Done t e = absurd (cc)
  done_may a t e = refusal (trouble_of a) t (done_of a) (refused_may a) refl e

  pub renewed_may : (a : Answer) (t : Trouble) → renewed_of a ≡ Err t → May t
  renewed_may (Renewed end) t e = absurd (cc)
  renewed_may a t e = refusal (trouble_of a) t (renewed_of a) (refused_may a) refl e

  -- .. and a take also where the lock is held
  pub given_may : ((k : Lock) (until : ℕ) → May (trouble.Busy k until)) → (k : Lock) (a : Answer) (t : Trouble) → given_of k a ≡ Err t → May t
  given_may held k (Given l) t e = absurd (cc)
  given_may held k (Held until) t e = refusal (trouble.Busy k until) t (given_of k (Held until)) (held k until) refl e
  given_may held k a t e = refusal (trouble_of a) t (given_of k a) (refused_may a) refl e
