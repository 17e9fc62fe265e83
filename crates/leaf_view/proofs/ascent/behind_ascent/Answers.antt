use Rattle.std.proofs.Common.{◌≡◌, true, false, Ok, sym, ◌∙◌, arith}
use Rattle.std.specs.Option.{option_copied}
use Rattle.byte_format.specs.Format.{more_at}
use Rattle.leaf_view.specs.Ascent.{comes_next}
use Rattle.leaf_view.proofs.Climbing.{starts, climbs, shortens, arrives}
use Rattle.leaf_view.proofs.ascent.behind_ascent.Goals as goal

pub records-init : goal.records-init
records-init c = starts c.args.rules.now.format c.args.rules.now.low.now (option_copied c.args.rules.now.high) c.args.bytes.now (λ i. omega (arith, c.type_inv.bytes i))

pub returns-then-last_below : goal.returns-then-last_below
returns-then-last_below c =
    let more : more_at true c.records.rest.now ≡ Ok (false, c.in-Ok.behind.now) = cc (c.in-Ok.ensures) in
    arrives c.args.rules.now.format c.args.rules.now.low.now (option_copied c.args.rules.now.high) c.args.bytes.now c.records.before c.records.rest.now c.in-Ok.behind.now
    c.records.invariant more (sym c.last_below.ensures ∙ c.if-last_below.true)

pub records-smaller : goal.records-smaller
records-smaller c =
    let more : more_at true c.records.rest.now ≡ Ok (true, c.in-Ok.behind.now) = cc (c.in-Ok.ensures) in
    omega (arith, shortens c.args.rules.now.format c.records.rest.now c.in-Ok.behind.now c.in-Ok-entry_at.entry c.in-Ok-entry_at.behind.now c.records.invariant.fits more c.in-Ok-entry_at.ensures)

pub records-preserved : goal.records-preserved
records-preserved c =
    let more : more_at true c.records.rest.now ≡ Ok (true, c.in-Ok.behind.now) = cc (c.in-Ok.ensures) in
    let next : comes_next c.args.rules.now.low.now c.records.before c.in-Ok-entry_at.entry.key ≡ true = cc (c.comes_next.ensures, c.if-not-comes_next.false, c.key.ensures) in
    climbs c.args.rules.now.format c.args.rules.now.low.now (option_copied c.args.rules.now.high) c.args.bytes.now c.records.before c.records.rest.now c.in-Ok.behind.now
    c.in-Ok-entry_at.entry c.in-Ok-entry_at.behind.now c.records.invariant more c.in-Ok-entry_at.ensures next
