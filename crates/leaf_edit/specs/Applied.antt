-- A leaf with a run applied.
use Rattle.std.specs.Prelude.{ℕ, ◌+◌, List, length}
use Rattle.leaf_view.specs.Leaf.{Leaf, leaf}
use Rattle.log_codec.specs.declared.record.PuItem.{PuItem}
use Rattle.leaf_edit.specs.Edited.{edited_by}
use Rattle.leaf_edit.specs.Lacked.{lacked}
use Rattle.leaf_edit.specs.Raised.{raised}

-- The next version, in format 2 whatever was read: the records after the lacked items, what is done raised by the run, the fences and the right page as before.
abbrev pub applied : Leaf → ℕ → List PuItem → Leaf
applied l queue run = record l {
  format = 2;
  version = l.version + 1;
  done = raised l.done queue run;
  records = edited_by l.records (lacked l queue run);
}

-- how many bytes spell it
abbrev pub applied_length : Leaf → ℕ → List PuItem → ℕ
applied_length l queue run = length (leaf.spelling (applied l queue run))
