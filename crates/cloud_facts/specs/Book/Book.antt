-- The book: two lists that no single object tells, found once and handed on from call to call.
use Rattle.std.specs.Prelude.{ℕ, ◌==◌, if◌then◌else◌, List, [], ◌∷◌, ◌++◌}
use Rattle.log_codec.specs.declared.record.AtomicRec.{AtomicRec}

-- a page of a level of a tree, and its low key, which never changes
pub record Link : Type 0 where
  pub low : List ℕ
  pub page : ℕ

-- the record of each committed entry, in the order of commit; and of a tree and level (0 for the leaves) the pages of the level from the
-- left end, with their low keys
pub record Book : Type 0 where
  pub log : List AtomicRec
  pub chain : ℕ → ℕ → List Link

-- an empty book: every tree has its first leaf
abbrev pub first_leaf : ℕ → List Link
first_leaf level = if level == 0 then record { low = []; page = 1 } ∷ [] else []

abbrev pub empty_book : Book
empty_book = record { log = []; chain = λ tree level. first_leaf level }

-- a level with new pages behind one of its pages
abbrev pub with_pieces : ℕ → List Link → List Link → List Link
with_pieces page pieces [] = []
with_pieces page pieces (link ∷ links) = if link.page == page then link ∷ (pieces ++ links) else link ∷ with_pieces page pieces links
