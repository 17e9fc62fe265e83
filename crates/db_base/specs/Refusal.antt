-- The numbers of the refusals.
use Rattle.std.specs.Prelude.{ℕ}
use Rattle.db_base.specs.declared.refusal.Refusal.{Refusal}
use Rattle.db_base.specs.declared.refusal.Refusal.TheVariants.{EmptyKey, LongKey, LongPayload, TooManyChanges, BadNumber, NotOpen, AtWork, Broken, AlreadyOpen, NotWorking, BadAttr, LongEntry}

-- the number under which a reply shows the rule
abbrev pub number_of_refusal : Refusal → ℕ
number_of_refusal EmptyKey = 1
number_of_refusal LongKey = 2
number_of_refusal LongPayload = 3
number_of_refusal TooManyChanges = 4
number_of_refusal BadNumber = 5
number_of_refusal NotOpen = 6
number_of_refusal AtWork = 7
number_of_refusal Broken = 8
number_of_refusal AlreadyOpen = 9
number_of_refusal NotWorking = 10
number_of_refusal BadAttr = 11
number_of_refusal LongEntry = 12
