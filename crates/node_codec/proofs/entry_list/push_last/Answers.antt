use Rattle.std.proofs.Common.{◌++◌, List, ℕ, ap, ◌∙◌}
use Rattle.node_codec.proofs.entry_list.push_last.Goals as goal

pub returns : goal.returns
returns c = c.in_ok-try_add.ensures ∙ ap (λ (s : List ℕ). s ++ c.args.rest.now) c.in_ok-push_entry.ensures
