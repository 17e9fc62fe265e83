-- The pages that were removed.
use Rattle.std.specs.Prelude.{ℕ, ◌≡◌, ◌≢◌, Bool, true, false, List, []}
use Rattle.cloud_facts.specs.Book.Book.{Link}
use Rattle.cloud_facts.specs.Book.Records.{IsIn}
use Rattle.cloud_facts.specs.Book.Tally.{Store}
use Rattle.cloud_facts.specs.Chains.Chain.{IsUnlinked}

-- a page that was removed has landed, and is in no chain of its tree
abbrev pub Gones : Store → Type 0
Gones st = (tree page : ℕ) → st.tally.gone tree page ≡ true → (st.tally.nodes tree page ≢ []) × IsUnlinked (st.book.chain tree) page

-- so no page of a tree's links was removed
abbrev pub AreKept : (ℕ → List Link) → (ℕ → Bool) → Type 0
AreKept chain gone = (level : ℕ) (link : Link) → IsIn (chain level) link → gone link.page ≡ false
