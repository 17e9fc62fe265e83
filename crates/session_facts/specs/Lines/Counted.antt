-- How many calls the operation of a session has made, as lines tell it, and that those of a checkpoint are few.
use Rattle.std.specs.Prelude.{ℕ, ◌≡◌, ◌+◌, ◌==◌, if◌then◌else◌, List, [], ◌∷◌, length, Some}
use Rattle.client_work.specs.declared.work.Work.{Work}
use Rattle.client_work.specs.declared.work.Work.TheVariants.{Folding, Paging}
use Rattle.cloud_trait.specs.Growth.{HasGrown}
use Rattle.cloud_trait.specs.Machine.{Deed, Came}
use Rattle.cloud_trait.specs.State.{CloudState}
use Rattle.page_ckpt.specs.Paging.{Paging as Page, new_paging, paging_ask, PagingLeads}
use Rattle.page_ckpt.specs.Leases.{AreFew}
use Rattle.replay_meaning.specs.Standing.{Line, session_of}
use Rattle.reply_text.specs.declared.reply.Reply.{Reply}
use Rattle.reply_text.specs.declared.reply.Reply.TheVariants as reply
use Rattle.session_facts.specs.Machines.TreeCheckpoints.Few.{IsFew}
use Rattle.session_facts.specs.Sessions.Knows.{Sessions}
use Rattle.session_facts.specs.Machines.TreeCheckpoints.Counting.{IsCounted}
use Rattle.session_facts.specs.Machines.TreeCheckpoints.Named.{CameTold}

-- ---- what lines tell

-- one more behind a step that has no answer yet, and none behind a begin
abbrev pub counted : Reply → ℕ → ℕ
counted reply.Begun calls = 0
counted reply.Called calls = calls + 1
counted reply calls = calls

-- after one more line
abbrev pub counted_line : ℕ → ℕ → Line → ℕ
counted_line session calls line = if session_of line.event == session then counted line.reply calls else calls

abbrev pub counted_from : ℕ → ℕ → List Line → ℕ
counted_from session calls [] = calls
counted_from session calls (line ∷ lines) = counted_from session (counted_line session calls line) lines

-- The calls of the operation that a session has in hand behind these lines: one for each step of it that was answered `called`. A run has its
-- calls within its own line.
abbrev pub calls_told : List Line → ℕ → ℕ
calls_told lines session = counted_from session 0 lines

-- ---- checkpoints

-- nothing that landed behind these calls was lost
abbrev pub LostNothing : List Deed → CloudState → Type 0
LostNothing [] s = Unit {0}
LostNothing (last ∷ h) s = (x : CloudState) → last.after.state ≡ Some x → HasGrown x s

-- a page checkpoint came from its begin by so many calls
pub record CameBy (calls : ℕ) (s : CloudState) (p : Page) : Type 0 where
  pub tree : ℕ
  pub page : ℕ
  pub made : List Deed
  pub came : Came paging_ask PagingLeads (new_paging tree page) made p
  pub many : length made ≡ calls
  pub behind : LostNothing made s

-- what is in hand made so many calls; those of a tree checkpoint are few, with those that are left, and the cloud told them
abbrev pub CountsWork : ℕ → CloudState → Work → Type 0
CountsWork calls s (Folding home m) = IsCounted calls s m × CameTold s m
CountsWork calls s (Paging home p) = CameBy calls s p
CountsWork calls s work = Unit {0}

-- each session made so many
abbrev pub CountsAll : (ℕ → ℕ) → CloudState → Sessions → Type 0
CountsAll calls s sessions = (session : ℕ) → CountsWork (calls session) s (sessions session).work

-- so many calls were few for a checkpoint in hand: that of a tree by the distinct ids that it received and the pages of its tree, that of a page by
-- its deletions and the right pages that it came to
abbrev pub FewFor : ℕ → CloudState → Work → Type 0
FewFor calls last (Folding home m) = IsFew calls m.received last m.tree
FewFor calls last (Paging home p) = AreFew p calls
FewFor calls last work = Unit {0}
