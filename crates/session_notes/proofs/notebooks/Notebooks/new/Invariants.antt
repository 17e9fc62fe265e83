use Rattle.std.proofs.Common.{◌≡◌, replicate}
use Rattle.session_notes.specs.Notebook.{blank}
use Rattle.session_notes.proofs.notebooks.Notebooks.new.Given as goal

-- the notebooks so far are blank ones
abbrev pub invariant-loop-count : goal.invariant-loop-count
invariant-loop-count l = l.list.items ≡ replicate l._count blank
