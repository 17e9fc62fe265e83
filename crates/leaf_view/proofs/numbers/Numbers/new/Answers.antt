use Rattle.std.proofs.Common.{◌≡◌, ℕ, ◌<◌, ◌≤◌, arith, ⊎_elim}
use Rattle.std.specs.Prelude.{slice_index, replicate}
use Rattle.std.proofs.lemmas.Bool.{cases_lt}
use Rattle.std.proofs.lemmas.List.{get_or-replicate, get_or_past, length-replicate}
use Rattle.leaf_view.proofs.numbers.Numbers.new.Goals as goal

all-zero : (n client : ℕ) → slice_index (replicate n 0) client ≡ 0
all-zero n client =
    ⊎_elim (λ (lt : client < n). get_or-replicate n client 0 0 lt) (λ (le : n ≤ client). get_or_past (replicate n 0) client 0 (omega (arith, length-replicate {A = ℕ} n 0))) (cases_lt client n)

pub returns : goal.returns
returns c = λ client. all-zero 65 client
