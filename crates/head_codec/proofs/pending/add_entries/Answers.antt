use Rattle.std.proofs.Common.{◌≡◌, ◌∷◌, ◌++◌, ◌∙◌, ap, subst, sym, List, None, ℕ}
use Rattle.std.specs.List.{AllByRecursion}
use Rattle.head_codec.specs.declared.lists.Pending.{Pending}
use Rattle.head_codec.specs.Pending.{pending_entry, FitsPending}
use Rattle.head_codec.proofs.ListSpelling.{entries_step}
use Rattle.head_codec.proofs.pending.add_entries.Goals as goal

pub loop-entry-preserved : goal.loop-entry-preserved
loop-entry-preserved c =
    let is : c.loop-entry.left.now ≡ c.in-Some.entry.now ∷ c.in-Some.rest.now = c.in-Some.ensures.cases.0 in
    let written : c.try_add.new.out.items ≡ c.loop-entry.out.items ++ (1 ∷ (pending_entry None).spelling c.in-Some.entry.now) = c.in_ok-try_add.ensures ∙ ap (λ (bytes : List ℕ). c.loop-entry.out.items ++ bytes) c.spelled.ensures.spelling in (
      entries_step c.loop-entry.out.items c.try_add.new.out.items c.loop-entry.left.now c.in-Some.rest.now c.in-Some.entry.now is written ∙ c.loop-entry.invariant.0,
      λ rest. c.loop-entry.invariant.1 (subst (λ (xs : List Pending). AllByRecursion FitsPending xs) (sym is) (c.spelled.ensures.valid, rest)),
    )
