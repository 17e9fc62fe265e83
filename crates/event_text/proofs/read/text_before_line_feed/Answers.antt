use Rattle.std.proofs.Common.{◌∷◌, []}
use Rattle.std.proofs.lemmas.Bool.Decides.{Decides-eqb}
use Rattle.std.proofs.lemmas.Slice.Eq.{strip_suffix_is}
use Rattle.event_text.proofs.EventLaws.{some_part}
use Rattle.event_text.proofs.read.text_before_line_feed.Goals as goal

pub returns-clause-some : goal.returns-clause-some
returns-clause-some c = some_part c.args.line.now _ (strip_suffix_is Decides-eqb c.args.line.now (10 ∷ []) _ c.strip_suffix.ensures.cases)
