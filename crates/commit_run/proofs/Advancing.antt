-- The pages of changes, one at a time.
use Rattle.std.proofs.Common.{◌≡◌, ◌<◌, ℕ, zero, suc, List, [], ◌∷◌, ◌++◌, length, Option, Some, None, refl, ap, sym, ◌∙◌, arith, drop, append_assoc, length-append}
use Rattle.std.specs.Prelude.{slice_get}
use Rattle.std.specs.Option.{option_map_or}
use Rattle.std.proofs.lemmas.Option.{slice_get_within}
use Rattle.std.proofs.lemmas.List.{append-nil}
use Rattle.head_codec.specs.declared.lists.Pending.{Pending}
use Rattle.txn_buffer.specs.Noted.{Noted}
use Rattle.commit_run.specs.Ended.{Ended}
use Rattle.commit_run.specs.Plan.{page_next, pages_of}

one_of : (pending : List Pending) (ended : List Ended) (changes : List Noted) (i page : ℕ) → page_next pending ended (slice_get changes i) ≡ Some page
    → pages_of pending ended (drop i changes) ≡ page ∷ pages_of pending ended (drop (suc i) changes)
one_of pending ended [] i page e = absurd (cc)
one_of pending ended (n ∷ changes) zero page e = ap (λ o. option_map_or (λ p. p ∷ pages_of pending ended changes) o []) e
one_of pending ended (n ∷ changes) (suc i) page e = one_of pending ended changes i page e

none_of : (pending : List Pending) (ended : List Ended) (changes : List Noted) (i : ℕ) → page_next pending ended (slice_get changes i) ≡ None → pages_of pending ended (drop i changes) ≡ []
none_of pending ended [] zero e = refl
none_of pending ended [] (suc i) e = refl
none_of pending ended (n ∷ changes) zero e = ap (λ o. option_map_or (λ p. p ∷ pages_of pending ended changes) o []) e
none_of pending ended (n ∷ changes) (suc i) e = none_of pending ended changes i e

-- a page more leaves the pages of the rest
pub next_goes : (pending : List Pending) (ended : List Ended) (changes : List Noted) (pages : List ℕ) (page : ℕ) → page_next pending ended (slice_get changes (length pages)) ≡ Some page
    → (pages ++ page ∷ []) ++ pages_of pending ended (drop (length (pages ++ page ∷ [])) changes) ≡ pages ++ pages_of pending ended (drop (length pages) changes)
next_goes pending ended changes pages page e =
    let more : length (pages ++ page ∷ []) ≡ suc (length pages) = omega (arith, length-append pages (page ∷ [])) in
    ap (λ k. (pages ++ page ∷ []) ++ pages_of pending ended (drop k changes)) more
    ∙ (append_assoc pages (page ∷ []) (pages_of pending ended (drop (suc (length pages)) changes))
    ∙ ap (λ l. pages ++ l) (sym (one_of pending ended changes (length pages) page e)))

-- no page more: there are all
pub next_ends : (pending : List Pending) (ended : List Ended) (changes : List Noted) (pages : List ℕ) → page_next pending ended (slice_get changes (length pages)) ≡ None
    → pages ++ pages_of pending ended (drop (length pages) changes) ≡ pages
next_ends pending ended changes pages e = ap (λ l. pages ++ l) (none_of pending ended changes (length pages) e) ∙ append-nil pages

within : (pending : List Pending) (ended : List Ended) (changes : List Noted) (i page : ℕ) (o : Option Noted) → slice_get changes i ≡ o → page_next pending ended o ≡ Some page → i < length changes
within pending ended changes i page (Some n) e next = slice_get_within changes i n e
within pending ended changes i page None e next = absurd (cc)

-- a page more is that of a change
pub next_within : (pending : List Pending) (ended : List Ended) (changes : List Noted) (pages : List ℕ) (page : ℕ) → page_next pending ended (slice_get changes (length pages)) ≡ Some page
    → length pages < length changes
next_within pending ended changes pages page e = within pending ended changes (length pages) page (slice_get changes (length pages)) refl e
