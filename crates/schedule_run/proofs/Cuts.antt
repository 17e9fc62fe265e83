-- Where a text that is read line by line is cut.
use Rattle.std.specs.Prelude.{ℕ, List}

-- a text, what was left of it, the next line of that, and what is behind the line
pub record TextCut : Type 0 where
  pub whole : List ℕ
  pub rest : List ℕ
  pub behind : List ℕ
  pub line : List ℕ

abbrev pub text_cut : List ℕ → List ℕ → List ℕ → List ℕ → TextCut
text_cut whole rest behind line = record { whole = whole; rest = rest; behind = behind; line = line }
