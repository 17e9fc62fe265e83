-- What a reader of the code returns against what its format reads.
use Rattle.std.specs.Prelude.{◌≡◌, ℕ, List, Result, Ok, Err}
use Rattle.byte_format.specs.Format.{Reading, ◌>>=◌}
use Rattle.byte_format.specs.declared.stop.Stop.{Stop}
use Rattle.byte_format.specs.declared.stop.ReadFault.{ReadFault}
use Rattle.byte_format.specs.declared.stop.ReadFault.TheVariants.{Stopped, Memory}

-- the result, seen by view, is what reading gives
abbrev pub Gives : {X Y : Type 0} → (X → Y) → Result X Stop → Result Y ℕ → Type 0
Gives view (Ok x) reading = reading ≡ Ok (view x)
Gives view (Err stop) reading = reading ≡ Err stop.left

-- the same, unless memory ran out
abbrev pub Fails : {Y : Type 0} → ReadFault → Result Y ℕ → Type 0
Fails (Stopped stop) reading = reading ≡ Err stop.left
Fails Memory reading = Unit {0}

abbrev pub GivesOwned : {X Y : Type 0} → (X → Y) → Result X ReadFault → Result Y ℕ → Type 0
GivesOwned view (Ok x) reading = reading ≡ Ok (view x)
GivesOwned view (Err fault) reading = Fails fault reading

-- the bytes behind what was read
abbrev pub behind_it : {A : Type 0} → Reading A → Result (List ℕ) ℕ
behind_it reading = reading >>= λ x. Ok x.1
