-- What was committed of a tree is the inserts of its records.
use Rattle.std.proofs.Common.{◌≡◌, ℕ, List, sym, ap, ◌∙◌, eq-eqb}
use Rattle.std.specs.Prelude.{◌==◌, slice_get, Some}
use Rattle.cloud_facts.specs.Book.Records.{IsIn}
use Rattle.cloud_facts.proofs.Numbers.Lists.{filter_there, filter_at}
use Rattle.history.specs.Audited.{committed_entry}
use Rattle.history.specs.Fold.{of_tree}
use Rattle.history.specs.Legal.{StandsAt}
use Rattle.report_types.specs.declared.entry.Entry.{Entry}
use Rattle.report_types.specs.declared.stored.Stored.{Stored}
use Rattle.txn_buffer.specs.Noted.{Noted}
use Rattle.schedule_run.specs.Loads.Inserts.{insert_of, Inserts, InsertAll}
use Rattle.schedule_run.proofs.Loads.Transactions.{IsOfLoad}

-- the transactions have all of the changes, and no others
pub record AreParts (all : List Noted) (parts : List (List Noted)) : Type 0 where
  pub whole : (n : Noted) → IsIn all n → (changes : List Noted) × IsIn parts changes × IsIn changes n
  pub within : (changes : List Noted) (n : Noted) → IsIn parts changes → IsIn changes n → IsIn all n

-- of a tree the changes are the inserts of these records
pub record AreOf (tree : ℕ) (records : List Stored) (all : List Noted) : Type 0 where
  pub alone : (n : Noted) → IsIn all n → n.tree ≡ tree → (place : ℕ) × (stored : Stored) × (slice_get records place ≡ Some stored) × (n.change ≡ insert_of stored)
  pub each : (place : ℕ) (stored : Stored) → slice_get records place ≡ Some stored → (n : Noted) × IsIn all n × (n.tree ≡ tree) × (n.change ≡ insert_of stored)

-- entries are of the changes of transactions, and the changes of each have their entries
pub record AreCommitted (parts : List (List Noted)) (entries : List Entry) : Type 0 where
  pub alone : (e : Entry) → IsIn entries e → IsOfLoad parts e
  pub each : (changes : List Noted) → IsIn parts changes → (epoch : ℕ) × (txn : ℕ) × ((n : Noted) → IsIn changes n → IsIn entries (committed_entry 1 epoch txn n))

pub inserts_of_tree : (tree : ℕ) (records : List Stored) (all : List Noted) (parts : List (List Noted)) (entries : List Entry) → AreOf tree records all → AreParts all parts
    → AreCommitted parts entries → InsertAll tree records (of_tree tree entries)
inserts_of_tree tree records all parts entries of are committed = record { alone = alone; each = each }
  where
    alone : (place : ℕ) (e : Entry) → StandsAt (of_tree tree entries) place e → e.tree ≡ tree → Inserts records e
    alone place e at own =
        let p = filter_there (λ (x : Entry). x.tree == tree) entries place e at in
        let c = committed.alone e (p.place, p.there) in
        let o = of.alone c.noted (are.within c.changes c.noted c.part c.there) (sym (ap (λ (x : Entry). x.tree) c.is) ∙ own) in
        record { place = o.0; stored = o.1; there = o.2; change = ap (λ (x : Entry). x.change) c.is ∙ o.3 }

    each : (place : ℕ) (stored : Stored) → slice_get records place ≡ Some stored
        → (at : ℕ) × (e : Entry) × StandsAt (of_tree tree entries) at e × (e.tree ≡ tree) × (e.change ≡ insert_of stored)
    each place stored at =
        let o = of.each place stored at in
        let w = are.whole o.0 o.1 in
        let c = committed.each w.0 w.1 in
        let e : Entry = committed_entry 1 c.0 c.1 o.0 in
        let there = c.2 o.0 w.2 in
        let f = filter_at (λ (x : Entry). x.tree == tree) entries there.0 e (eq-eqb o.0.tree tree o.2) there.1 in
        (f.0, e, f.1, o.2, o.3)
