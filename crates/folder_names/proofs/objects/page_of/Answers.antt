use Rattle.std.proofs.Common.{◌≡◌, ap, Err}
use Rattle.db_base.specs.declared.names.ObjName.TheVariants.{Page}
use Rattle.folder_names.specs.declared.fault.NameFault.TheVariants.{NotOurs}
use Rattle.folder_names.proofs.objects.page_of.Goals as goal

pub returns-in-Err-clause-none : goal.returns-in-Err-clause-none
returns-in-Err-clause-none c = λ err page is e. let f : c.in-Err.fault ≡ NotOurs = cc in c.in-Err.ensures.none (ap Err f) (Page c.args.tree page) is e
