use Rattle.std.proofs.Common.{map, sym, subst, ap, ◌∙◌}
use Rattle.txn_buffer.specs.Kept.{noted_of, IsKept}
use Rattle.txn_buffer.proofs.NotedLemmas.{alone, found, inserted, joined, joined_spare, key_of-found, IsKept-inserted}
use Rattle.txn_buffer.proofs.buffer.store.Goals as goal

pub join_at-requires-clause-of : goal.join_at-requires-clause-of
join_at-requires-clause-of c = λ first there.
    let es = c.args.changes.now.entries in
    key_of-found (map noted_of es) c.args.key.tree c.args.key.key.items first
    (sym (found c.args.key es c.requires.kept.keys) ∙ sym c.in-Some.ensures.value ∙ there) ∙ c.requires.of

pub returns-in-Some-clause-ok : goal.returns-in-Some-clause-ok
returns-in-Some-clause-ok c =
    let es = c.args.changes.now.entries in
    ap (map noted_of)
    (joined c.args.changes.now c.join_at.new.changes c.args.key c.in-Some.index c.args.change c.requires.kept.keys c.requires.of (sym c.in-Some.ensures.index)
    (sym c.in-Some.ensures.found) c.in-Some.ensures.value c.join_at.ensures)
    ∙ inserted c.args.key es c.args.change c.requires.kept.keys c.requires.of

pub returns-in-Some-clause-kept : goal.returns-in-Some-clause-kept
returns-in-Some-clause-kept c =
    subst IsKept (sym
    (joined c.args.changes.now c.join_at.new.changes c.args.key c.in-Some.index c.args.change c.requires.kept.keys c.requires.of (sym c.in-Some.ensures.index)
    (sym c.in-Some.ensures.found) c.in-Some.ensures.value c.join_at.ensures))
    (IsKept-inserted c.args.key c.args.changes.now.entries c.args.change c.requires.kept c.requires.of c.requires.short c.requires.room)

pub returns-in-Ok-clause-ok : goal.returns-in-Ok-clause-ok
returns-in-Ok-clause-ok c =
    let es = c.args.changes.now.entries in
    ap (map noted_of) (c.in-Ok.ensures.entries ∙ alone c.args.key es c.args.change c.requires.kept.keys c.requires.of (sym c.in-None.ensures.found))
    ∙ inserted c.args.key es c.args.change c.requires.kept.keys c.requires.of

pub returns-in-Ok-clause-kept : goal.returns-in-Ok-clause-kept
returns-in-Ok-clause-kept c =
    subst IsKept (sym
    (c.in-Ok.ensures.entries ∙ alone c.args.key c.args.changes.now.entries c.args.change c.requires.kept.keys c.requires.of (sym c.in-None.ensures.found)))
    (IsKept-inserted c.args.key c.args.changes.now.entries c.args.change c.requires.kept c.requires.of c.requires.short c.requires.room)

pub returns-in-Some-clause-uses_one : goal.returns-in-Some-clause-uses_one
returns-in-Some-clause-uses_one c =
    joined_spare c.args.changes.now c.join_at.new.changes c.args.key c.in-Some.index c.args.change (sym c.in-Some.ensures.found) c.in-Some.ensures.value c.join_at.ensures
