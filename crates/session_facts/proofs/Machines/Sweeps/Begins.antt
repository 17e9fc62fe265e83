-- What a sweep knows before its first call.
use Rattle.std.proofs.Common.{◌≡◌, ℕ, inr, refl}
use Rattle.cloud_facts.specs.Book.Tally.{Store}
use Rattle.cloud_facts.specs.Homes.Homes.{Part, Away}
use Rattle.db_base.specs.Ids.{IsTree}
use Rattle.orphan_sweep.specs.Sweeping.{new_sweeping}
use Rattle.session_facts.specs.Machines.Sweeps.Knows.{KnowsSweep}

pub sweep_begins : (st : Store) (now tree : ℕ) (part : Part) → part ≡ Away → IsTree tree → KnowsSweep st now (new_sweeping tree) part
sweep_begins st now tree part away is = record { tree = is; away = away; may = λ t e. absurd (cc (e)); quiet = inr refl; at = (tt, refl) }
