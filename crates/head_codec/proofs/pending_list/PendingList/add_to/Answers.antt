use Rattle.std.proofs.Common.{rules, ◌≡◌, ◌++◌, ◌∙◌, true, ap, sym, List, ℕ}
use Rattle.head_codec.specs.Pending.{spellings, AreSpelled}
use Rattle.head_codec.proofs.ListSpelling.{list_written}
use Rattle.head_codec.proofs.pending_list.PendingList.add_to.Goals as goal

pub returns-clause-spelling : goal.returns-clause-spelling
returns-clause-spelling c =
    let old = c.args.out.now.items in
    let yes : c.self.inside.is_spelled ≡ true = search rules in
    let same : c.args.self.now ≡ c.self.inside.entries.items = search rules in
    let slice : c.as_slice-2.result.now ≡ c.self.inside.spelled.items = search rules in
    let known : AreSpelled c.self.inside.entries.items c.self.inside.spelled.items = c.self.invariant yes in
    list_written old c.try_add.new.out.items c.try_add_u8.new.out.items c.args.self.now
    (c.in_ok-try_add.ensures ∙ ap (λ (bytes : List ℕ). old ++ bytes) (slice ∙ known.spelling ∙ ap spellings (sym same))) c.in_ok-try_add_u8.ensures
