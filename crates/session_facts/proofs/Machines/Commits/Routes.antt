-- The records of a commit.
use Rattle.std.proofs.Common.{◌≡◌, ◌<◌, ◌≤◌, ◌⊎◌, inl, inr, ◌==◌, ℕ, zero, suc, Bool, true, false, List, [], ◌∷◌, ◌++◌, length, take, reverse, Option, Some, None, refl, sym, ap, subst, ◌∙◌, arith}
use Rattle.std.specs.Prelude.{if◌then◌else◌, slice_get, IsTrue}
use Rattle.std.specs.Option.{option_map_or}
use Rattle.std.proofs.lemmas.Bool.{and_parts, and_from, eqb-true, eq-eqb}
use Rattle.std.proofs.lemmas.Slice.Eq.{bytes_eq-Decides}
use Rattle.std.specs.Str.{bytes_eq}
use Rattle.byte_format.specs.Order.{bytes_below}
use Rattle.db_base.specs.Change.{goes_to_leaf, key_of}
use Rattle.db_base.specs.declared.change.Change.{Change}
use Rattle.cloud_facts.specs.Words.{AtomicRec, Head, Book, Store, IsIn, StandsAt}
use Rattle.head_codec.specs.declared.lists.Pending.{Pending}
use Rattle.cloud_facts.specs.Numbers.Numbers.{Numbers}
use Rattle.cloud_facts.specs.Pendings.Pending.{HeadPends}
use Rattle.route_plan.specs.Queue.{is_pending_of, last_pending, first_queue, queue_of}
use Rattle.route_plan.specs.Record.{pending_of}
use Rattle.route_plan.specs.Route.{record_behind, routed_behind, routed, transaction}
use Rattle.route_plan.proofs.CommitLaws.{routed_behind-at}
use Rattle.cloud_facts.specs.Book.Premises.{IsLeafAtMost, IsRouted}
use Rattle.txn_buffer.specs.Noted.{Noted}
use Rattle.cloud_facts.specs.Calls.Acting.{IsPruned}
use Rattle.cloud_facts.proofs.Calls.Searching.{stands_below, found, not_found, in_reverse, from_reverse}
use Rattle.session_facts.specs.Machines.Commits.Knows.{IsLeafFor}
use Rattle.cloud_facts.proofs.Book.Places.{get_within}

-- ---- the record at a place

-- there is a record for each change
as_many : (client epoch txn count : ℕ) (head : Head) (earlier : List AtomicRec) (changes : List Noted) (pages : List ℕ) → length changes ≤ length pages
    → length (routed_behind (transaction client epoch txn count) head earlier changes pages) ≡ length changes
as_many client epoch txn count head earlier [] pages paged = refl
as_many client epoch txn count head earlier (n ∷ changes) [] paged = absurd (omega (arith, paged))
as_many client epoch txn count head earlier (n ∷ changes) (page ∷ pages) paged =
    ap suc (as_many client epoch txn count head (earlier ++ record_behind (transaction client epoch txn count) head earlier n page ∷ []) changes pages (omega (arith, paged)))

module _ (client epoch txn : ℕ) (head : Head) (changes : List Noted) (pages : List ℕ) where
  abbrev pub records : List AtomicRec
  records = routed client epoch txn head changes pages

  -- it is that of the change at the place, with its page
  pub record IsOfChange (place : ℕ) (r : AtomicRec) : Type 0 where
    pub noted : Noted
    pub page : ℕ
    pub there : StandsAt changes place noted
    pub paged : StandsAt pages place page
    pub is : r ≡ record_behind (transaction client epoch txn (length changes)) head (take place records) noted page
    pub behind : length (take place records) ≡ place

  -- each change has its page
  module _ (paged : length changes ≤ length pages) where
    pub count_is : length records ≡ length changes
    count_is = as_many client epoch txn (length changes) head [] changes pages paged

    pub record_at : (place : ℕ) (r : AtomicRec) → StandsAt records place r → IsOfChange place r
    record_at place r there = record {
      noted = change.0;
      page = page.0;
      there = change.1;
      paged = page.1;
      is = one r _ (sym there ∙ at);
      behind = take_length records place within;
    }
      where
        within : place < length records
        within = get_within records place r there

        below : place < length changes
        below = omega (arith, within, count_is)

        change : (n : Noted) × (slice_get changes place ≡ Some n)
        change = stands_below changes place below

        page : (p : ℕ) × (slice_get pages place ≡ Some p)
        page = stands_below pages place (omega (arith, below, paged))

        at : slice_get records place ≡ Some (record_behind (transaction client epoch txn (length changes)) head (take place records) change.0 page.0)
        at = routed_behind-at client epoch txn (length changes) head [] changes pages place change.0 page.0 change.1 page.1

        one : (a b : AtomicRec) → Some a ≡ Some b → a ≡ b
        one a b e = cc

        take_length : (xs : List AtomicRec) (n : ℕ) → n < length xs → length (take n xs) ≡ n
        take_length [] n less = absurd (omega (arith, less))
        take_length (x ∷ xs) zero less = refl
        take_length (x ∷ xs) (suc n) less = ap suc (take_length xs n (omega (arith, less)))

-- ---- its queue

-- a pending entry of the tree and key
pending_is : (tree : ℕ) (key : List ℕ) (p : Pending) → is_pending_of tree key p ≡ true → (p.tree ≡ tree) × (key_of p.change ≡ key)
pending_is tree key p e =
    let both = and_parts (p.tree == tree) (bytes_eq (key_of p.change) key) e in
    (eqb-true p.tree tree both.0, (bytes_eq-Decides (key_of p.change) key).0 both.1)

is_pending : (tree : ℕ) (key : List ℕ) (p : Pending) → p.tree ≡ tree → key_of p.change ≡ key → is_pending_of tree key p ≡ true
is_pending tree key p tree_is key_is = and_from (p.tree == tree) (bytes_eq (key_of p.change) key) (eq-eqb p.tree tree tree_is) ((bytes_eq-Decides (key_of p.change) key).1 key_is)

-- a change without pending entries of its key goes to the tree's queue, or to that of a leaf whose low key is not above the key
first_goes : (book : Book) (tree page : ℕ) (change : Change) (key : List ℕ) → key ≡ key_of change → IsLeafFor book tree change page
    → (first_queue change page ≡ 0) ⊎ IsLeafAtMost book tree (first_queue change page) key
first_goes book tree page change key same leaf = on (goes_to_leaf change) leaf
  where
    on : (b : Bool) → (IsTrue b → IsLeafAtMost book tree page (key_of change))
        → ((if b then page else 0) ≡ 0) ⊎ IsLeafAtMost book tree (if b then page else 0) key
    on true leaf = inr (subst (λ l. IsLeafAtMost book tree page l) (sym same) (leaf refl))
    on false leaf = inl refl

-- behind a head that is the newest but for pruned entries
module _ (st : Store) (client : ℕ) (base : Head) (pruned : IsPruned st.tally client (st.tally.head client) base) (pends : HeadPends st client) (numbers : Numbers st) (tree : ℕ)
    (change : Change) (page : ℕ) where
  abbrev last : Option Pending
  last = last_pending base.pending tree (key_of change)

  -- it is where the pending entries of the key wait
  pub sticky : (p : Pending) → IsIn base.pending p → p.tree ≡ tree → key_of p.change ≡ key_of change → p.page ≡ queue_of base.pending tree change page
  sticky p is tree_is key_is = on last refl
    where
      on : (o : Option Pending) → last ≡ o → p.page ≡ option_map_or (λ (q : Pending). q.page) o (first_queue change page)
      on None e = absurd (not_found (is_pending_of tree (key_of change)) (reverse base.pending) e p (in_reverse base.pending p is) (is_pending tree (key_of change) p tree_is key_is))
      on (Some q) e =
          let h = found (is_pending_of tree (key_of change)) (reverse base.pending) q e in
          let of = pending_is tree (key_of change) q h.1 in
          pends.one_queue q p (pruned.from q (from_reverse base.pending q h.0)) (pruned.from p is) (record { tree_is = tree_is ∙ sym of.0; key_is = key_is ∙ sym of.1 })

  -- and it is the tree's queue, or that of a leaf whose low key is not above the key
  pub goes : IsLeafFor st.book tree change page → (key : List ℕ) → key ≡ key_of change
      → (queue_of base.pending tree change page ≡ 0) ⊎ IsLeafAtMost st.book tree (queue_of base.pending tree change page) key
  goes leaf key same = on last refl
    where
      Goes : ℕ → Type 0
      Goes to = (to ≡ 0) ⊎ IsLeafAtMost st.book tree to key

      on : (o : Option Pending) → last ≡ o → Goes (option_map_or (λ (q : Pending). q.page) o (first_queue change page))
      on None e = first_goes st.book tree page change key same leaf
      on (Some q) e =
          let h = found (is_pending_of tree (key_of change)) (reverse base.pending) q e in
          let of = pending_is tree (key_of change) q h.1 in
          let r = pends.of_records q (pruned.from q (from_reverse base.pending q h.0)) in
          turn q r.0 r.2 of (numbers.placed r.0 (r.1).logged).routed
        where
          turn : (q : Pending) (r : AtomicRec) → q ≡ pending_of r → (q.tree ≡ tree) × (key_of q.change ≡ key_of change) → IsRouted st.book r → Goes q.page
          turn q r is of (inl none) = inl (ap (λ (p : Pending). p.page) is ∙ none)
          turn q r is of (inr found) = inr (record {
            link = found.link;
            linked = subst (λ (t : ℕ). IsIn (st.book.chain t 0) found.link) (sym (ap (λ (p : Pending). p.tree) is) ∙ of.0) found.linked;
            page_is = found.page_is ∙ sym (ap (λ (p : Pending). p.page) is);
            low = subst (λ k. bytes_below k (found.link).low ≡ false) (sym (ap (λ (p : Pending). key_of p.change) is) ∙ (of.1 ∙ sym same)) found.low;
          })
