-- The lines of a text: each with the line feed that ends it; a last one may lack it.
use Rattle.std.specs.Prelude.{ℕ, nat_eq, if◌then◌else◌, List, [], ◌∷◌}

-- the bytes up to the first line feed, with it; all of them where there is none
abbrev pub first_line : List ℕ → List ℕ
first_line [] = []
first_line (byte ∷ rest) = if nat_eq byte 10 then byte ∷ [] else byte ∷ first_line rest

-- the bytes behind the first line
abbrev pub behind_line : List ℕ → List ℕ
behind_line [] = []
behind_line (byte ∷ rest) = if nat_eq byte 10 then rest else behind_line rest

-- a byte in front of the first of some lines
abbrev pub in_front : ℕ → List (List ℕ) → List (List ℕ)
in_front byte [] = (byte ∷ []) ∷ []
in_front byte (line ∷ lines) = (byte ∷ line) ∷ lines

-- all lines
abbrev pub lines_of : List ℕ → List (List ℕ)
lines_of [] = []
lines_of (byte ∷ rest) = if nat_eq byte 10 then (byte ∷ []) ∷ lines_of rest else in_front byte (lines_of rest)
