use Rattle.std.proofs.Common.{[], refl, sym, ◌∙◌}
use Rattle.load_plan.proofs.LookLemmas.{looked_of, there_ends}
use Rattle.load_plan.proofs.first_look.look.Goals as goal

pub returns-in-Ok-Some : goal.returns-in-Ok-Some
returns-in-Ok-Some g c =
    there_ends c.args.name c.in-Ok-Some.field-0-0 c.not_empty.result _ _ c.not_empty.ensures
    (record {
      told = λ s told. sym c.in-Ok-Some.field-0-is ∙ c.in-Ok-Some.ensures.newest s told;
      shown = λ p shown. sym c.in-Ok-Some.field-0-is ∙ c.in-Ok-Some.ensures.shown p shown;
    })
    (record { looked = looked_of _ _ _ c.in-Ok-Some.ensures.looks; seeing = c.in-Ok-Some.ensures.looks.seeing (λ e. absurd (cc)) })

pub returns-in-Err-Failed : goal.returns-in-Err-Failed
returns-in-Err-Failed g c =
    let looks = rw c.in-Err-Failed.field-0-is at c.in-Err-Failed.ensures.looks in
    record { earlier = []; name = c.args.name; later = []; at = refl; none = tt; ends = record { looked = looked_of _ _ _ looks; rose = looks.failed refl } }

pub returns : goal.returns
returns g c =
    let looks = rw c.in-Err-Memory.field-0-is at c.in-Err-Memory.ensures.looks in
    record { earlier = []; name = c.args.name; later = []; at = refl; none = tt; ends = record { looked = looked_of _ _ _ looks; seeing = looks.seeing (λ e. absurd (cc)) } }
