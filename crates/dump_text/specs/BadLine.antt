-- The first line with which a text is no beginning of a dump.
use Rattle.std.specs.Prelude.{ℕ, ◌≡◌, ◌+◌, ◌==◌, ◌⊎◌, List, [], ◌∷◌, ◌++◌, if◌then◌else◌}
use Rattle.words.specs.Word.{newline}
use Rattle.dump_text.specs.declared.dump.DumpedTree.{DumpedTree}
use Rattle.dump_text.specs.Text.{IsDump, Begins}

-- how many line feeds a text has
abbrev pub line_feeds : List ℕ → ℕ
line_feeds [] = 0
line_feeds (b ∷ text) = (if b == 10 then 1 else 0) + line_feeds text

-- each line is ended
abbrev pub AreLines : List ℕ → Type 0
AreLines text = (text ≡ []) ⊎ ((front : List ℕ) × (text ≡ front ++ newline ∷ []))

-- a text is no dump: the lines before line n begin one, and with line n they do not, or there is no whole line n
pub record IsBadLine (text : List ℕ) (n : ℕ) : Type 0 where
  pub before : List ℕ
  pub rest : List ℕ
  pub is : text ≡ before ++ rest
  pub lines : AreLines before
  pub number : n ≡ line_feeds before + 1
  pub begins : Begins before
  pub stops : (line more : List ℕ) → rest ≡ line ++ newline ∷ more → Begins (before ++ line ++ newline ∷ []) → ⊥
  pub none : (trees : List DumpedTree) → IsDump text trees → ⊥
