-- What was seen to commit and to be applied.
use Rattle.std.specs.Prelude.{ℕ, List}
use Rattle.report_types.specs.declared.entry.Entry.{Entry}
use Rattle.txn_buffer.specs.Noted.{Noted}
use Rattle.log_codec.specs.declared.record.PuItem.{PuItem}

-- the entries that were committed, in the order of commit, and those that were applied, in the order of application
pub record Audited : Type 0 where
  pub committed : List Entry
  pub order : List Entry

-- the entry of a change that a transaction commits
abbrev pub committed_entry : ℕ → ℕ → ℕ → Noted → Entry
committed_entry client epoch txn noted = record { client = client; epoch = epoch; txn = txn; tree = noted.tree; change = noted.change }

-- the entry of a record that is applied to a page of a tree
abbrev pub applied_entry : ℕ → PuItem → Entry
applied_entry tree item = record { client = item.rec.client; epoch = item.rec.epoch; txn = item.rec.txn; tree = tree; change = item.rec.change }
