-- Places of lists, and the sessions of a list of which one changes.
use Rattle.std.proofs.Common.{◌≡◌, ◌≢◌, ℕ, List, Some, sym, ap, subst, ◌∙◌, ◌⊎◌, inl, inr, get_or}
use Rattle.std.specs.Prelude.{slice_get, slice_set, unwrap_or}
use Rattle.std.proofs.lemmas.Bool.{cases_eq}
use Rattle.std.proofs.lemmas.List.{get_or-set_same, get_or-set_other}
use Rattle.std.proofs.lemmas.Option.{slice_get_within, unwrap_or-slice_get}
use Rattle.client_work.specs.Session.{Acting, closed_session}
use Rattle.cloud_facts.specs.Book.Tally.{at}
use Rattle.cloud_facts.proofs.Book.Names.{at_same, at_other}
use Rattle.session_facts.specs.Lines.Facts.{session_at}

-- ---- sessions

-- the session of a number that has one
pub session_there : (sessions : List Acting) (number : ℕ) (a : Acting) → slice_get sessions number ≡ Some a → session_at sessions number ≡ a
session_there sessions number a there = ap (λ o. unwrap_or o closed_session) there

-- of a list with another session at a number, the session of that number is the new one and the others stay
pub session_set : (sessions : List Acting) (number : ℕ) (before after : Acting) → slice_get sessions number ≡ Some before
    → (n : ℕ) → session_at (slice_set sessions number after) n ≡ at number after (session_at sessions) n
session_set sessions number before after there n = on (cases_eq n number)
  where
    on : (n ≡ number) ⊎ (n ≢ number) → session_at (slice_set sessions number after) n ≡ at number after (session_at sessions) n
    on (inl e) =
        unwrap_or-slice_get (slice_set sessions number after) n closed_session
        ∙ subst (λ k. get_or (slice_set sessions number after) k closed_session ≡ after) (sym e) (get_or-set_same sessions number after closed_session (slice_get_within sessions number before there))
        ∙ sym (at_same number after (session_at sessions) n e)
    on (inr ne) =
        unwrap_or-slice_get (slice_set sessions number after) n closed_session
        ∙ get_or-set_other sessions number n after closed_session ne
        ∙ sym (unwrap_or-slice_get sessions n closed_session)
        ∙ sym (at_other number after (session_at sessions) n ne)
