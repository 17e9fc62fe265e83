-- What comes next in a settling: a part that begins anew, the end, or a stop that no call shows.
use Rattle.std.proofs.Common.{◌≡◌, None, refl, subst}
use Rattle.cloud_trait.specs.Machine.{Goes, Ends, Stops}
use Rattle.session_facts.specs.Sessions.Explains.{trouble_of_part, left_of_part}
use Rattle.session_facts.proofs.Sessions.Shows.{IsFree}
use Rattle.settle_run.specs.declared.part.Part.{Part as AtWork}
use Rattle.settle_run.specs.declared.part.Part.TheVariants.{Client, Tree, Page}
use Rattle.settle_run.specs.Parts.{part_again}
use Rattle.settle_run.specs.Settling.{Settling, Step, passed}
use Rattle.settle_run.proofs.Outcomes.{Passes, passes_by}
use Rattle.settle_run.proofs.Outcomes as step

-- a part begins anew, or a page that is come to twice stops the settling, which no call shows
abbrev pub BeginsAnew : Step → Type 0
BeginsAnew (Goes n) = part_again n.part ≡ n.part
BeginsAnew (Ends n x) = Unit {0}
BeginsAnew (Stops n q) = IsFree q

again_anew : (w : AtWork) → part_again (part_again w) ≡ part_again w
again_anew (Client client m) = refl
again_anew (Tree tree m) = refl
again_anew (Page tree page m) = refl

passes_anew : {s : Settling} {next : Step} → Passes s next → BeginsAnew next
passes_anew (step.again s id ids news) = again_anew s.part
passes_anew (step.round s tree page m right none link seen) = tt
passes_anew (step.all_done s tree page m none last most) = tt
passes_anew p = refl

pub passed_anew : (s : Settling) (next : Step) → passed s ≡ next → BeginsAnew next
passed_anew s next e = passes_anew (passes_by s next e)

-- what holds of each part that begins holds of this one
pub each_anew : (P : AtWork → Type 0) → ((w : AtWork) → P (part_again w)) → (w : AtWork) → part_again w ≡ w → P w
each_anew P each w anew = subst P anew (each w)

-- one that begins has met nothing
abbrev pub HasMetNothing : AtWork → Type 0
HasMetNothing w = (trouble_of_part w ≡ None) × (left_of_part w ≡ 0)

again_clean : (w : AtWork) → HasMetNothing (part_again w)
again_clean (Client client m) = (refl, refl)
again_clean (Tree tree m) = (refl, refl)
again_clean (Page tree page m) = (refl, refl)

pub anew_clean : (w : AtWork) → part_again w ≡ w → HasMetNothing w
anew_clean w anew = each_anew HasMetNothing again_clean w anew
