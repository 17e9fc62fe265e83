-- The way up stays in its tree.
use Rattle.std.proofs.Common.{◌≡◌, ℕ, Result, refl}
use Rattle.cloud_facts.specs.Words.{Trouble, Answer, Goes, Ends, Stops, done_of}
use Rattle.tree_phases.specs.declared.rising.Rising.{Rising}
use Rattle.tree_phases.specs.Rising.{RisingStep}
use Rattle.tree_phases.specs.Rising as up
use Rattle.tree_ckpt.proofs.RiseOutcomes.{rises, lands}
use Rattle.tree_ckpt.proofs.RiseOutcomes as rise

abbrev pub StaysIn : ℕ → RisingStep → Type 0
StaysIn tree (Goes r) = r.chart.tree ≡ tree
StaysIn tree (Ends r x) = r.chart.tree ≡ tree
StaysIn tree (Stops r t) = Unit {0}

rises_stay : {r : Rising} {next : RisingStep} → rise.Rises r next → StaysIn r.chart.tree next
rises_stay (rise.node_due k p at e) = refl
rises_stay (rise.root_due p none e) = refl
rises_stay c = tt

lands_stay : {r : Rising} {done : Result (Unit {0}) Trouble} {next : RisingStep} → rise.Lands r done next → StaysIn r.chart.tree next
lands_stay (rise.is_last x none) = refl
lands_stay (rise.more x some rising) = refl
lands_stay (rise.goes_on x some nothing none next) = rises_stay next
lands_stay c = tt

pub rise_stays : (r : Rising) → StaysIn r.chart.tree (up.rise r)
rise_stays r = rises_stay (rises r)

pub rising_stays_in : (r : Rising) (a : Answer) → StaysIn r.chart.tree (up.rising_next r a)
rising_stays_in r a = lands_stay (lands r (done_of a))
