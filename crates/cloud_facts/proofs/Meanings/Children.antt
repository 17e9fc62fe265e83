-- The entry for a key, where the first entry is not above the key.
use Rattle.std.proofs.Common.{◌≡◌, ℕ, Bool, true, false, cond, List, [], ◌∷◌, Option, Some, None, refl, ap, ◌∙◌, ◌⊎◌, inl, inr}
use Rattle.byte_format.specs.Order.{bytes_below}
use Rattle.node_codec.specs.Node.{Entry, later_of, child_of}
use Rattle.node_codec.specs.Inner.{first_low_of}
use Rattle.cloud_facts.specs.Book.Records.{IsIn}
use Rattle.cloud_facts.proofs.Chains.Pieces.{in_first, in_rest}

-- the entry for a key stands among the entries, and is not above the key
pub record IsChild (key : List ℕ) (entries : List Entry) (e : Entry) : Type 0 where
  pub found : child_of key entries ≡ Some e
  pub there : IsIn entries e
  pub at_most : bytes_below key e.0 ≡ false

child_cases : (key : List ℕ) (entries : List Entry) → (child_of key entries ≡ None) ⊎ ((e : Entry) × IsChild key entries e)
child_cases key [] = inl refl
child_cases key (x ∷ entries) = on (child_cases key entries) (bytes_below key x.0) refl
  where
    front : Bool → Option Entry
    front b = cond b None (Some x)

    here : child_of key (x ∷ entries) ≡ later_of (front (bytes_below key x.0)) (child_of key entries)
    here = refl

    on : (child_of key entries ≡ None) ⊎ ((e : Entry) × IsChild key entries e) → (b : Bool) → bytes_below key x.0 ≡ b
        → (child_of key (x ∷ entries) ≡ None) ⊎ ((e : Entry) × IsChild key (x ∷ entries) e)
    on (inr p) b h = inr (
      p.0,
      record {
        found = ap (later_of (front (bytes_below key x.0))) p.1.found;
        there = in_rest x entries p.0 p.1.there;
        at_most = p.1.at_most;
      },
    )
    on (inl none) true h = inl (ap (λ (c : Bool). later_of (front c) (child_of key entries)) h ∙ ap (later_of None) none)
    on (inl none) false h = inr (
      x,
      record {
        found = ap (λ (c : Bool). later_of (front c) (child_of key entries)) h ∙ ap (later_of (Some x)) none;
        there = in_first x entries;
        at_most = h;
      },
    )

-- there is one
pub child_found : (key low : List ℕ) (entries : List Entry) → first_low_of entries ≡ Some low → bytes_below key low ≡ false
    → (e : Entry) × IsChild key entries e
child_found key low [] first from = absurd (cc)
child_found key low (x ∷ entries) first from = on (child_cases key entries)
  where
    is : x.0 ≡ low
    is = cc

    here : bytes_below key x.0 ≡ false
    here = ap (bytes_below key) is ∙ from

    step : child_of key (x ∷ entries) ≡ later_of (Some x) (child_of key entries)
    step = ap (λ (c : Bool). later_of (cond c None (Some x)) (child_of key entries)) here

    on : (child_of key entries ≡ None) ⊎ ((e : Entry) × IsChild key entries e) → (e : Entry) × IsChild key (x ∷ entries) e
    on (inl none) = (x, record { found = step ∙ ap (later_of (Some x)) none; there = in_first x entries; at_most = here })
    on (inr p) = (
      p.0,
      record {
        found = step ∙ ap (later_of (Some x)) p.1.found;
        there = in_rest x entries p.0 p.1.there;
        at_most = p.1.at_most;
      },
    )
