-- Service calls that a schedule asks no wish for.
use Rattle.std.specs.Prelude.{ℕ, ◌≡◌, ◌⊎◌, Some}
use Rattle.cloud_facts.specs.Words.{CloudState, Caller, Seen}
use Rattle.db_base.specs.declared.wish.Wish.TheVariants.{Plain}

-- session 1, or the settler
abbrev pub IsLoader : ℕ → Type 0
IsLoader session = (session ≡ 0) ⊎ (session ≡ 1)

-- behind a state that was told another one is: no wait was counted, and the newest call is still the same, or it is a plain one of session 1 or of the
-- settler
pub record IsBehindPlain (before : CloudState) (after : Seen) : Type 0 where
  pub state : CloudState
  pub told : after.state ≡ Some state
  pub waits : state.waits ≡ before.waits
  pub last : (state.last ≡ before.last) ⊎ ((who : Caller) × IsLoader who.session × (state.last ≡ Some (who, Plain)))

abbrev pub CallsPlainly : Seen → Seen → Type 0
CallsPlainly before after = (x : CloudState) → before.state ≡ Some x → IsBehindPlain x after
