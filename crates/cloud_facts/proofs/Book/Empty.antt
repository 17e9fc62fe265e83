-- The store of a cloud in which nothing happened.
use Rattle.std.proofs.Common.{[], refl}
use Rattle.cloud_facts.specs.Words.{AtomicRec, CloudState, Store, IsIn}
use Rattle.cloud_facts.proofs.Book.Places.{in_none}
use Rattle.cloud_facts.specs.Book.Book.{empty_book}
use Rattle.cloud_facts.specs.Book.Telling.{tally_of}

abbrev pub empty_store : CloudState → Store
empty_store s = record { tally = tally_of empty_book s; book = empty_book; order = [] }

-- nothing is committed
pub no_records : (r : AtomicRec) → IsIn empty_book.log r → ⊥
no_records r is = in_none empty_book.log r refl is
