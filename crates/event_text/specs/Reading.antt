-- How a line is read, word by word.
use Rattle.std.specs.Prelude.{ℕ, ◌&&◌, nat_le, Bool, true, false, List, [], ◌∷◌, length, codes, Option, Some, None, option_map, if◌then◌else◌}
use Rattle.std.specs.Str.{bytes_eq}
use Rattle.db_base.specs.Limits.{most_positions}
use Rattle.db_base.specs.declared.wish.Wish.{Wish}
use Rattle.db_base.specs.declared.wish.Wish.TheVariants.{Plain, Fail, Lost, Hide, Old, Give}
use Rattle.words.specs.Line.{◌>>=◌, word_at, number_at, bytes_at, end_at, last_of, numbers_of, one_of, two_of, place_of, record_of, sum_of}
use Rattle.ckpt_policy.specs.declared.role.Role.{Role}
use Rattle.event_text.specs.declared.event.Event.{Event}
use Rattle.event_text.specs.declared.event.Event.TheVariants as event
use Rattle.event_text.specs.declared.keyword.Keyword.{Keyword}
use Rattle.event_text.specs.declared.keyword.Keyword.TheVariants.{Open, Close, Renew, Insert, Put, Update, Delete, Add, Commit, Abort, Read, Scan, Lookup, Page, Tree, Policy, Work, Step, Run, Crash, Wait, Report, Sweep, Settle}
use Rattle.event_text.specs.Keyword.{keyword_of, is_shell}
use Rattle.event_text.specs.RoleWord.{role_of}

-- a value where nothing is left
unfoldable pub alone : {A : Type 0} → A → List (List ℕ) → Option A
alone x words = do
  end ← end_at words
  Some x

-- 1 to 256 positions
unfoldable pub positions_of : List (List ℕ) → Option (List ℕ)
positions_of words = do
  positions ← numbers_of words
  if nat_le 1 (length positions) && nat_le (length positions) most_positions then Some positions else None

-- the wish that a word begins
unfoldable pub wish_by : List ℕ → List (List ℕ) → Option Wish
wish_by kind words =
    if bytes_eq kind (codes "plain") then alone Plain words
    else if bytes_eq kind (codes "fail") then alone Fail words
    else if bytes_eq kind (codes "lost") then alone Lost words
    else if bytes_eq kind (codes "hide") then alone Hide words
    else if bytes_eq kind (codes "old") then option_map Old (one_of words)
    else if bytes_eq kind (codes "give") then option_map Give (positions_of words)
    else None

-- the wish of words
unfoldable pub wish_of : List (List ℕ) → Option Wish
wish_of words = do
  kind ← word_at words
  wish_by kind.0 kind.1

-- whether `done` stands alone, or nothing
unfoldable pub done_of : List (List ℕ) → Option Bool
done_of [] = Some false
done_of (word ∷ words) = if bytes_eq word (codes "done") then alone true words else None

-- a tree, a key, a payload, an attribute or none, and nothing else
unfoldable pub insert_of : List (List ℕ) → Option (ℕ × List ℕ × List ℕ × Option (List ℕ))
insert_of words = do
  tree ← number_at words
  key ← bytes_at tree.1
  payload ← bytes_at key.1
  attr ← last_of payload.1
  Some (tree.0, key.0, payload.0, attr)

-- a tree, a key, a payload, an attribute, and nothing else
unfoldable pub put_of : List (List ℕ) → Option (ℕ × List ℕ × List ℕ × List ℕ)
put_of words = do
  tree ← number_at words
  key ← bytes_at tree.1
  payload ← bytes_at key.1
  attr ← bytes_at payload.1
  end ← end_at attr.1
  Some (tree.0, key.0, payload.0, attr.0)

-- a role, a number, and nothing else
unfoldable pub policy_of : List (List ℕ) → Option (Role × ℕ)
policy_of words = do
  first ← word_at words
  role ← role_of first.0
  number ← one_of first.1
  Some (role, number)

-- the event of a session that a keyword begins
unfoldable pub event_by : Keyword → ℕ → List (List ℕ) → Option Event
event_by Open session words = option_map (event.Open session) (one_of words)
event_by Close session words = alone (event.Close session) words
event_by Renew session words = alone (event.Renew session) words
event_by Insert session words = option_map (λ x. event.Insert session x.0 x.1 x.2 x.3) (insert_of words)
event_by Put session words = option_map (λ x. event.Put session x.0 x.1 x.2 x.3) (put_of words)
event_by Update session words = option_map (λ x. event.Update session x.0 x.1 x.2) (record_of words)
event_by Delete session words = option_map (λ x. event.Delete session x.0 x.1) (place_of words)
event_by Add session words = option_map (λ x. event.Add session x.0 x.1 x.2) (sum_of words)
event_by Commit session words = alone (event.Commit session) words
event_by Abort session words = alone (event.Abort session) words
event_by Read session words = option_map (λ x. event.Read session x.0 x.1) (place_of words)
event_by Scan session words = option_map (λ x. event.Scan session x.0 x.1 x.2) (record_of words)
event_by Lookup session words = option_map (λ x. event.Lookup session x.0 x.1) (place_of words)
event_by Page session words = option_map (λ x. event.Page session x.0 x.1) (two_of words)
event_by Tree session words = option_map (event.Tree session) (one_of words)
event_by Policy session words = option_map (λ x. event.Policy session x.0 x.1) (policy_of words)
event_by Work session words = alone (event.Work session) words
event_by Step session words = option_map (event.Step session) (wish_of words)
event_by Run session words = alone (event.Run session) words
event_by Crash session words = option_map (event.Crash session) (done_of words)
event_by Wait session words = None
event_by Report session words = None
event_by Sweep session words = None
event_by Settle session words = None

-- the event of a session's line behind its keyword
unfoldable pub session_event : Keyword → List (List ℕ) → Option Event
session_event keyword words = do
  session ← number_at words
  event_by keyword session.0 session.1

-- the event of a line behind its keyword
unfoldable pub event_behind : Keyword → List (List ℕ) → Option Event
event_behind Wait words = option_map event.Wait (one_of words)
event_behind Report words = option_map event.Report (one_of words)
event_behind Sweep words = option_map event.Sweep (one_of words)
event_behind Settle words = alone event.Settle words
event_behind keyword words = session_event keyword words

-- the event of the words of a line
unfoldable pub event_of_words : List (List ℕ) → Option Event
event_of_words words = do
  first ← word_at words
  keyword ← keyword_of first.0
  event_behind keyword first.1

-- the event of session 1 of the words of a shell's line
unfoldable pub shell_event_of_words : List (List ℕ) → Option Event
shell_event_of_words words = do
  first ← word_at words
  keyword ← keyword_of first.0
  if is_shell keyword then event_by keyword 1 first.1 else None
