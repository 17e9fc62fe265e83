use Rattle.std.proofs.Common.{◌++◌, ◌∷◌, [], List, sym, ◌∙◌, ap, subst}
use Rattle.std.specs.BTreeMap.{insert_entry, is_at}
use Rattle.std.specs.Map.{lookup}
use Rattle.std.specs.Option.{unwrap_or}
use Rattle.ckpt_policy.specs.Counting.{after_note, IsFull}
use Rattle.ckpt_policy.specs.Ledger.{Account, MayRefuse, StandsFor}
use Rattle.ckpt_policy.specs.Notes.{place_cmp, place_of}
use Rattle.ckpt_policy.specs.declared.note.Note.{Note}
use Rattle.ckpt_policy.proofs.NoteLemmas.{full-refuses, new-refuses, on-err, stands-aside, stands-on}
use Rattle.ckpt_policy.proofs.ledger.Ledger.note.Goals as goal

pub returns-in_default-clause-stands : goal.returns-in_default-clause-stands
returns-in_default-clause-stands c =
    stands-aside c.args.self.now c.args.note (ap place_of (sym c.queue.ensures) ∙ sym c.of.ensures ∙ c.in_default.is)

pub returns-clause-stands : goal.returns-clause-stands
returns-clause-stands c =
    let l = c.self.inside in
    let old : Account = record { role = l.role; k = l.k; client = l.client; counts = l.counts.entries } in
    let new : Account = record { role = l.role; k = l.k; client = l.client; counts = c.insert.new.self.entries } in
    let P : Account → Type 0 = λ a. (notes : List Note) → StandsFor a notes → StandsFor new (notes ++ c.args.note ∷ []) in
    let before = c.unwrap_or-before.ensures ∙ ap (λ o. unwrap_or o c.none.result) (c.copied.ensures ∙ c.get.ensures.value) ∙ ap (unwrap_or (lookup (is_at (place_cmp c.in-Some.place)) l.counts.entries)) c.none.ensures in
    subst P c.self.view_is (stands-on old new c.args.note c.in-Some.place (ap place_of (sym c.queue.ensures) ∙ sym c.of.ensures ∙ c.in-Some.is)
    c.insert.ensures.was_ordered
    (c.in_ok-insert.ensures.entries ∙ ap (insert_entry place_cmp l.counts.entries c.in-Some.place) (c.in-Some-after.ensures.some ∙ ap (λ b. after_note b c.args.note) before)))

pub returns-in_default-after-clause-cause : goal.returns-in_default-after-clause-cause
returns-in_default-after-clause-cause c =
    let l = c.self.inside in
    let old : Account = record { role = l.role; k = l.k; client = l.client; counts = l.counts.entries } in
    let before = c.unwrap_or-before.ensures ∙ ap (λ o. unwrap_or o c.none.result) (c.copied.ensures ∙ c.get.ensures.value) ∙ ap (unwrap_or (lookup (is_at (place_cmp c.in-Some.place)) l.counts.entries)) c.none.ensures in
    let full = subst (λ k. IsFull k c.args.note) before c.in_default-after.ensures.full in
    subst (λ (account : Account). MayRefuse account c.args.note) c.self.view_is
    (full-refuses old c.args.note c.in-Some.place (ap place_of (sym c.queue.ensures) ∙ sym c.of.ensures ∙ c.in-Some.is) full)

pub returns-in_err-insert-clause-cause : goal.returns-in_err-insert-clause-cause
returns-in_err-insert-clause-cause c =
    let l = c.self.inside in
    let old : Account = record { role = l.role; k = l.k; client = l.client; counts = l.counts.entries } in
    on-err c.from_residual.result (subst (λ (account : Account). MayRefuse account c.args.note) c.self.view_is
    (new-refuses old c.args.note c.in-Some.place (ap place_of (sym c.queue.ensures) ∙ sym c.of.ensures ∙ c.in-Some.is) c.in_err-insert.ensures.absent))
