-- A leaf is spelled by its parts.
use Rattle.std.proofs.Common.{◌≡◌, ℕ, List, [], ◌∷◌, ◌++◌, Option, None, Some, refl, ap, ◌∙◌, append_assoc}
use Rattle.byte_format.specs.Format.{list_spelling}
use Rattle.leaf_view.specs.declared.done.Done.{Done}
use Rattle.leaf_view.specs.Leaf.{Entry, Head, Leaf, leaf, leaf_head, done_item, record_item, plain_entry}
use Rattle.leaf_edit.specs.Spelled.{done_bytes, dones_before, entry_bytes, entries_bytes}

dones-spelled : (before : Option Done) (ds : List Done) (rest : List ℕ) → list_spelling done_item before ds ++ rest ≡ dones_before ds (0 ∷ rest)
unfolding done_item
dones-spelled before [] rest = refl
dones-spelled before (d ∷ ds) rest = append_assoc (done_bytes d) (list_spelling done_item (Some d) ds) rest ∙ ap (λ l. done_bytes d ++ l) (dones-spelled (Some d) ds rest)

entry-spelled : (low : List ℕ) (high : Option (List ℕ)) (before : Option Entry) (e : Entry) → 1 ∷ (record_item 2 low high before).spelling e ≡ entry_bytes e
unfolding record_item
entry-spelled low high before e = on e.value.attr
  where
    on : (attr : Option (List ℕ)) → 1 ∷ (record_item 2 low high before).spelling (record { key = e.key; value = record { payload = e.value.payload; attr = attr } })
        ≡ entry_bytes (record { key = e.key; value = record { payload = e.value.payload; attr = attr } })
    on None = refl
    on (Some attr) = refl

entries-spelled : (low : List ℕ) (high : Option (List ℕ)) (before : Option Entry) (es : List Entry) → list_spelling (record_item 2 low high) before es ≡ entries_bytes es
entries-spelled low high before [] = refl
entries-spelled low high before (e ∷ es) =
    ap (λ l. l ++ list_spelling (record_item 2 low high) (Some e) es) (entry-spelled low high before e)
    ∙ ap (λ l. entry_bytes e ++ l) (entries-spelled low high (Some e) es)

-- records where they lie, in the format in which leaves are written
plain-spelled : (e : Entry) → 1 ∷ (plain_entry 2).spelling e ≡ entry_bytes e
unfolding plain_entry
plain-spelled e = on e.value.attr
  where
    on : (attr : Option (List ℕ)) → 1 ∷ (plain_entry 2).spelling (record { key = e.key; value = record { payload = e.value.payload; attr = attr } })
        ≡ entry_bytes (record { key = e.key; value = record { payload = e.value.payload; attr = attr } })
    on None = refl
    on (Some attr) = refl

pub records-spelled : (before : Option Entry) (es : List Entry) → list_spelling (λ _. plain_entry 2) before es ≡ entries_bytes es
records-spelled before [] = refl
records-spelled before (e ∷ es) =
    ap (λ l. l ++ list_spelling (λ _. plain_entry 2) (Some e) es) (plain-spelled e) ∙ ap (λ l. entry_bytes e ++ l) (records-spelled (Some e) es)

-- the head of a leaf in the format in which leaves are written
abbrev pub head_of : Leaf → Head
head_of l = record { format = 2; version = l.version; low = l.low; right = l.right; high = l.high }

in_format : (l : Leaf) → leaf.spelling (record l { format = 2 }) ≡ leaf_head.spelling (head_of l) ++ dones_before l.done (0 ∷ entries_bytes l.records)
unfolding leaf
in_format l =
    ap (λ bytes. leaf_head.spelling (head_of l) ++ bytes)
    (dones-spelled None l.done (list_spelling (record_item 2 l.low l.high) None l.records)
    ∙ ap (λ bytes. dones_before l.done (0 ∷ bytes)) (entries-spelled l.low l.high None l.records))

-- the head, the table, the records
pub leaf-spelled : (l : Leaf) → l.format ≡ 2 → leaf.spelling l ≡ leaf_head.spelling (head_of l) ++ dones_before l.done (0 ∷ entries_bytes l.records)
leaf-spelled l format = ap (λ format. leaf.spelling (record l { format = format })) format ∙ in_format l
