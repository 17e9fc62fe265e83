-- Leaves, other pages and roots keep what holds of the messages.
use Rattle.std.proofs.Common.{◌≡◌, ◌⊎◌, inl, inr, ℕ, List, [], ◌∷◌, map, Some, sym, ap, subst, ◌∙◌}
use Rattle.std.specs.Prelude.{slice_get}
use Rattle.db_base.specs.declared.names.ObjName.TheVariants as object
use Rattle.db_base.specs.declared.names.QueueName.TheVariants.{Atomic}
use Rattle.cloud_facts.specs.Words.{AtomicRec, Head, Inner, Tree, Posted, CloudState, Link, Store, Node, IsIn}
use Rattle.cloud_trait.specs.State.{IsEmptyCloud}
use Rattle.head_codec.specs.Head.{empty_head}
use Rattle.head_codec.specs.declared.head.Phase.TheVariants.{Settled, Open}
use Rattle.cloud_facts.specs.Lefts.Left.{IsCopied, IsWaiting, Leaves, NothingLeft}
use Rattle.cloud_facts.proofs.Lefts.Holding.{log_of, logged_of, way_of, has_way}
use Rattle.cloud_facts.specs.Numbers.Numbers.{Numbers}
use Rattle.cloud_facts.proofs.Numbers.Known.{IsOfRun, newly_applied}
use Rattle.cloud_facts.proofs.Book.Empty.{empty_store, no_records}
use Rattle.route_plan.specs.Record.{pu_record_of}
use Rattle.cloud_facts.specs.Book.Book.{empty_book}
use Rattle.cloud_facts.specs.Book.Effects.{Taking, after_leaf, after_page, after_inner, after_root, after_raise, after_removal}
use Rattle.cloud_facts.specs.Book.Growth.{Grows}
use Rattle.cloud_facts.specs.Book.Messages.{HasCopy, Waits, IsLogMessage}
use Rattle.cloud_facts.specs.Book.Premises.{Takes}
use Rattle.cloud_facts.specs.Book.Records.{IsApplied, IsUnderWay, IsPast}
use Rattle.cloud_facts.specs.Book.Telling.{tally_of, last_or, head_in}
use Rattle.cloud_facts.proofs.Book.GrowthLemmas.{applied_stays, leaf_grows}

-- ---- other pages and roots

pub page_keeps : (st : Store) (tree page : ℕ) (node : Node) (own : ℕ → ℕ) → Leaves st → Leaves (after_page tree page node own st)
page_keeps st tree page node own h = record {
  copied = h.copied;
  waiting = h.waiting;
  ways = λ c count is opens. has_way (after_page tree page node own st) c count (way_of st c count (h.ways c count is opens));
  logged = λ c is. logged_of (after_page tree page node own st) c (log_of st c (h.logged c is));
  sent = h.sent;
}

pub inner_keeps : (st : Store) (tree page : ℕ) (inner : Inner) (pieces : List Link) → Leaves st → Leaves (after_inner tree page inner pieces st)
inner_keeps st tree page inner pieces h = record {
  copied = h.copied;
  waiting = h.waiting;
  ways = λ c count is opens. has_way (after_inner tree page inner pieces st) c count (way_of st c count (h.ways c count is opens));
  logged = λ c is. logged_of (after_inner tree page inner pieces st) c (log_of st c (h.logged c is));
  sent = h.sent;
}

pub removal_keeps : (st : Store) (tree page : ℕ) → Leaves st → Leaves (after_removal tree page st)
removal_keeps st tree page h = record {
  copied = h.copied;
  waiting = h.waiting;
  ways = λ c count is opens. has_way (after_removal tree page st) c count (way_of st c count (h.ways c count is opens));
  logged = λ c is. logged_of (after_removal tree page st) c (log_of st c (h.logged c is));
  sent = h.sent;
}

pub root_keeps : (st : Store) (tree : ℕ) (root : Tree) → Leaves st → Leaves (after_root tree root st)
root_keeps st tree root h = record {
  copied = h.copied;
  waiting = h.waiting;
  ways = λ c count is opens. has_way (after_root tree root st) c count (way_of st c count (h.ways c count is opens));
  logged = λ c is. logged_of (after_root tree root st) c (log_of st c (h.logged c is));
  sent = h.sent;
}

pub raise_keeps : (st : Store) (tree : ℕ) (root : Tree) (level : ℕ) (links : List Link) → Leaves st → Leaves (after_raise tree root level links st)
raise_keeps st tree root level links h = record {
  copied = h.copied;
  waiting = h.waiting;
  ways = λ c count is opens. has_way (after_raise tree root level links st) c count (way_of st c count (h.ways c count is opens));
  logged = λ c is. logged_of (after_raise tree root level links st) c (log_of st c (h.logged c is));
  sent = h.sent;
}

-- ---- leaves

-- a record that the leaf took was in the run, and so was sent; what is applied stays so
pub leaf_keeps : (st : Store) (p : Taking) → Takes st p → Numbers st → Leaves st → Leaves (after_leaf p st)
leaf_keeps st p takes numbers h = record {
  copied = λ r logged how. copied r logged how;
  waiting = λ r logged. on r logged (h.waiting r logged);
  ways = λ c count is opens. has_way (after_leaf p st) c count (way_of st c count (h.ways c count is opens));
  logged = λ c is. logged_of (after_leaf p st) c (log_of st c (h.logged c is));
  sent = h.sent;
}
  where
    grows : Grows st (after_leaf p st)
    grows = leaf_grows st p takes.ranges.link (takes.ranges.place, takes.ranges.linked) takes.ranges.page_is

    taken : (r : AtomicRec) → IsOfRun st numbers p r → IsCopied st.tally r
    taken r of =
        let sent : HasCopy (st.tally.posts p.tree p.queue) of.item.item.rec = (takes.items of.item.item of.item.there).sent in
        subst (λ t. HasCopy (st.tally.posts t r.page) (pu_record_of r)) (sym of.tree_is)
        (subst (λ q. HasCopy (st.tally.posts p.tree q) (pu_record_of r)) (sym of.page_is) (subst (λ rec. HasCopy (st.tally.posts p.tree p.queue) rec) of.item.rec_is sent))

    copied : (r : AtomicRec) → IsIn st.book.log r → IsApplied (after_leaf p st).tally r ⊎ IsPast st.tally r → IsCopied st.tally r
    copied r logged (inr past) = h.copied r logged (inr past)
    copied r logged (inl applied) = turn (newly_applied st numbers p takes r logged applied)
      where
        turn : IsApplied st.tally r ⊎ IsOfRun st numbers p r → IsCopied st.tally r
        turn (inl before) = h.copied r logged (inl before)
        turn (inr of) = taken r of

    on : (r : AtomicRec) → IsIn st.book.log r → IsApplied st.tally r ⊎ (IsUnderWay st.tally r ⊎ IsWaiting st.tally r) → IsApplied (after_leaf p st).tally r ⊎ (IsUnderWay st.tally r ⊎ IsWaiting st.tally r)
    on r logged (inl applied) = inl (applied_stays st (after_leaf p st) r grows (numbers.placed r logged).client applied)
    on r logged (inr further) = inr further

-- ---- the beginning

pub empty_leaves : (s : CloudState) → IsEmptyCloud s → Leaves (empty_store s)
empty_leaves s empty = record {
  copied = λ r is. absurd (no_records r is);
  waiting = λ r is. absurd (no_records r is);
  ways = λ c count is opens. absurd (not_open count (sym (ap (λ (h : Head). h.phase) (head_is c)) ∙ opens));
  logged = λ c is. record {
    own = λ id r m. absurd (none c id r m);
    early = λ id r m. absurd (none c id r m);
    distinct = λ i j a b m. absurd (none c i a m);
    committed = λ id r q m. absurd (none c id r m);
  };
  sent = λ r is. absurd (no_records r is);
}
  where
    head_is : (c : ℕ) → (tally_of empty_book s).head c ≡ empty_head
    head_is c = ap (λ vs. last_or empty_head (map head_in vs)) (empty.versions (object.Head c))

    not_open : (count : ℕ) → Settled ≡ Open count → ⊥
    not_open count e = cc

    none : (c id : ℕ) (r : AtomicRec) → IsLogMessage ((tally_of empty_book s).logged c) id r → ⊥
    none c id r m = nothing ((tally_of empty_book s).logged c) m.place m.message (empty.messages (Atomic c)) m.there
      where
        nothing : (ms : List Posted) (place : ℕ) (x : Posted) → ms ≡ [] → slice_get ms place ≡ Some x → ⊥
        nothing [] place x e h = cc
        nothing (y ∷ ys) place x e h = cc

-- ---- at a report

-- where nothing is left of a tree, all its records are applied
pub all_applied : (st : Store) (tree : ℕ) → Leaves st → NothingLeft st tree → (r : AtomicRec) → IsIn st.book.log r → r.tree ≡ tree → IsApplied st.tally r
all_applied st tree h none r logged e = on (h.waiting r logged)
  where
    on : IsApplied st.tally r ⊎ (IsUnderWay st.tally r ⊎ IsWaiting st.tally r) → IsApplied st.tally r
    on (inl applied) = applied
    on (inr (inl way)) = absurd (none.ways r logged e way)
    on (inr (inr waits)) = absurd (none.posts r.page (pu_record_of r) (subst (λ t. Waits (st.tally.posts t r.page) (pu_record_of r)) e waits))
