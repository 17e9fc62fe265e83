use Rattle.std.proofs.Common.{◌≡◌, ◌∷◌, [], ◌∙◌, sym, ap, Err}
use Rattle.folder_names.specs.Names.{only}
use Rattle.folder_names.specs.declared.fault.NameFault.TheVariants.{NotOurs}
use Rattle.folder_names.proofs.Spelled.{not_one, one_byte}
use Rattle.folder_names.proofs.objects.number_in.Goals as goal

pub returns-in-Ok-clause-none : goal.returns-in-Ok-clause-none
returns-in-Ok-clause-none c = λ _ n h e. not_one c.args.word.now c.in-Ok.bytes n c.in-Ok.ensures.bytes h c.in-Ok.ensures.ok e (ap only (sym c.as_slice.ensures) ∙ sym c.only.ensures ∙ c.in-None.is)

pub returns-clause-none : goal.returns-clause-none
returns-clause-none c = λ is n h e. let f : c.in-Err.fault ≡ NotOurs = cc in c.in-Err.ensures.none (ap Err f) (n ∷ []) (one_byte n h) e
