-- The records of the leaves of a chain have at each key the value in the leaf of the page for the key.
use Rattle.std.proofs.Common.{◌≡◌, ℕ, zero, suc, Bool, true, false, not, cond, List, [], ◌∷◌, ◌++◌, map, Option, Some, None, refl, sym, ap, ◌∙◌, ◌⊎◌, inl, inr}
use Rattle.std.specs.Prelude.{slice_get}
use Rattle.std.specs.List.{AllByRecursion}
use Rattle.byte_format.specs.Order.{bytes_below, bytes_same, below_bound}
use Rattle.byte_format.proofs.OrderLemmas.{same_is}
use Rattle.db_base.specs.Value.{Value}
use Rattle.report_types.specs.declared.stored.Stored.{Stored}
use Rattle.leaf_view.specs.Fits.{Ascend, IsEntryIn, entry_below}
use Rattle.cloud_facts.specs.Words.{Leaf, Link, IsIn, StandsAt}
use Rattle.leaf_view.specs.Leaf.{Entry}
use Rattle.leaf_view.specs.Lookup.{value_of}
use Rattle.node_codec.proofs.EntryLemmas.{below_chain}
use Rattle.replay_meaning.specs.Right.{value_at}
use Rattle.cloud_facts.specs.Book.Telling.{page_from}
use Rattle.cloud_facts.specs.Chains.Links.{link_below, low_after}
use Rattle.cloud_facts.proofs.Chains.Pieces.{in_cases, ascend_all}
use Rattle.replay_meaning.specs.Chain.{stored_of, records_of}
use Rattle.cloud_facts.specs.Meanings.Contents.{leaves_of}

-- ---- the records of one leaf

-- none of the records has the key
abbrev HaveOthers : List ℕ → List Entry → Type 0
HaveOthers key es = AllByRecursion (λ e. bytes_same e.key key ≡ false) es

skip : (key : List ℕ) (es : List Entry) (behind : List Stored) → HaveOthers key es → value_at key (map stored_of es ++ behind) ≡ value_at key behind
skip key [] behind others = refl
skip key (e ∷ es) behind others =
    ap (λ (b : Bool). cond b (Some e.value) (value_at key (map stored_of es ++ behind))) others.0 ∙ skip key es behind others.1

take_first : (key : List ℕ) (es : List Entry) (behind : List Stored) → value_at key behind ≡ None
    → value_at key (map stored_of es ++ behind) ≡ value_of key es
take_first key [] behind none = none
take_first key (e ∷ es) behind none = ap (λ (v : Option Value). cond (bytes_same e.key key) (Some e.value) v) (take_first key es behind none)

-- a key that tells two lists of bytes apart is not of both
differs : (key other : List ℕ) (test : List ℕ → Bool) → test other ≡ true → test key ≡ false → bytes_same other key ≡ false
differs key other test in_it out = on (bytes_same other key) refl
  where
    on : (b : Bool) → bytes_same other key ≡ b → b ≡ false
    on true e = let same : test other ≡ test key = ap test (same_is other key e) in absurd (cc)
    on false e = refl

below_all : (key low : List ℕ) (high : Option (List ℕ)) (es : List Entry) → AllByRecursion (IsEntryIn low high) es → bytes_below key low ≡ true
    → HaveOthers key es
below_all key low high [] are below = tt
below_all key low high (e ∷ es) are below =
    (differs key e.key (λ k. not (bytes_below k low)) are.0.from_low (ap not below), below_all key low high es are.1 below)

past_all : (key low : List ℕ) (high : Option (List ℕ)) (es : List Entry) → AllByRecursion (IsEntryIn low high) es → below_bound key high ≡ false
    → HaveOthers key es
past_all key low high [] are past = tt
past_all key low high (e ∷ es) are past = (differs key e.key (λ k. below_bound k high) are.0.to_high past, past_all key low high es are.1 past)

-- ---- the leaves of links

-- a leaf's records ascend, from its link's low key on and below that of the next link
pub record IsRanged (leaf : ℕ → Leaf) (link : Link) (next : Option Link) : Type 0 where
  pub low : (leaf link.page).low ≡ link.low
  pub high : (leaf link.page).high ≡ low_after next
  pub records : AllByRecursion (IsEntryIn (leaf link.page).low (leaf link.page).high) (leaf link.page).records
  pub ascend : Ascend entry_below None (leaf link.page).records

abbrev pub AreRanged : (ℕ → Leaf) → List Link → Type 0
AreRanged leaf links = (place : ℕ) (link : Link) → StandsAt links place link → IsRanged leaf link (slice_get links (suc place))

none_behind : (key : List ℕ) (leaf : ℕ → Leaf) (links : List Link) → AreRanged leaf links → ((a : Link) → IsIn links a → bytes_below key a.low ≡ true)
    → value_at key (records_of (leaves_of leaf links)) ≡ None
none_behind key leaf [] ranged below = refl
none_behind key leaf (x ∷ links) ranged below =
    let is = ranged zero x refl in
    let others : HaveOthers key (leaf x.page).records =
    below_all key (leaf x.page).low (leaf x.page).high (leaf x.page).records is.records (ap (bytes_below key) is.low ∙ below x (zero, refl)) in
    skip key (leaf x.page).records (records_of (leaves_of leaf links)) others
    ∙ none_behind key leaf links (λ place a k. ranged (suc place) a k) (λ a k. below a (suc k.0, k.1))

-- from a link on that is not above the key
pub contents_from : (key : List ℕ) (leaf : ℕ → Leaf) (x : Link) (links : List Link) → Ascend link_below (Some x) links → AreRanged leaf (x ∷ links)
    → value_at key (records_of (leaves_of leaf (x ∷ links))) ≡ value_of key (leaf (page_from x.page key links)).records
contents_from key leaf x [] up ranged = take_first key (leaf x.page).records [] refl
contents_from key leaf x (y ∷ links) up ranged =
    on (contents_from key leaf y links up.1 (λ place a k. ranged (suc place) a k)) (bytes_below key y.low) refl
  where
    is : IsRanged leaf x (Some y)
    is = ranged zero x refl

    behind : List Stored
    behind = records_of (leaves_of leaf (y ∷ links))

    on : value_at key behind ≡ value_of key (leaf (page_from y.page key links)).records → (b : Bool) → bytes_below key y.low ≡ b
        → value_at key (map stored_of (leaf x.page).records ++ behind) ≡ value_of key (leaf (cond b x.page (page_from y.page key links))).records
    on again true below = take_first key (leaf x.page).records behind (none_behind key leaf (y ∷ links) (λ place a k. ranged (suc place) a k) (all below))
      where
        all : bytes_below key y.low ≡ true → (a : Link) → IsIn (y ∷ links) a → bytes_below key a.low ≡ true
        all below a k = each (in_cases y links a k)
          where
            each : (y ≡ a) ⊎ IsIn links a → bytes_below key a.low ≡ true
            each (inl e) = ap (λ (z : Link). bytes_below key z.low) (sym e) ∙ below
            each (inr k) = below_chain key y.low a.low below (ascend_all y links a up.1 k)
    on again false past =
        skip key (leaf x.page).records behind
        (past_all key (leaf x.page).low (leaf x.page).high (leaf x.page).records is.records (ap (below_bound key) is.high ∙ past)) ∙ again
