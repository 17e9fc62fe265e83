-- What changes no head and no record of the log keeps what holds of pending entries.
use Rattle.std.proofs.Common.{◌≡◌, ◌⊎◌, inl, inr, ℕ, List, map, ap}
use Rattle.cloud_facts.specs.Words.{AtomicRec, Head, Inner, Tree, Posted, CloudState, Link, Store, Node, IsIn}
use Rattle.cloud_trait.specs.State.{IsEmptyCloud}
use Rattle.db_base.specs.declared.names.ObjName.TheVariants as object
use Rattle.head_codec.specs.Head.{empty_head}
use Rattle.head_codec.specs.declared.lists.Pending.{Pending}
use Rattle.cloud_facts.specs.Numbers.Numbers.{Numbers}
use Rattle.cloud_facts.specs.Pendings.Pending.{IsPending, Pends}
use Rattle.cloud_facts.proofs.Pendings.Holding.{holds_of, pends_of}
use Rattle.cloud_facts.specs.Book.Book.{empty_book}
use Rattle.cloud_facts.specs.Book.Effects.{Taking, after_logged, after_posted, after_log_mark, after_post_mark, after_leaf, after_page, after_inner, after_root, after_raise, after_removal}
use Rattle.cloud_facts.specs.Book.Growth.{Grows}
use Rattle.cloud_facts.specs.Book.Premises.{Takes}
use Rattle.cloud_facts.specs.Book.Records.{IsApplied}
use Rattle.cloud_facts.proofs.Book.Empty.{empty_store, no_records}
use Rattle.cloud_facts.specs.Book.Telling.{tally_of, last_or, head_in}
use Rattle.cloud_facts.proofs.Book.GrowthLemmas.{applied_stays, leaf_grows}
use Rattle.cloud_facts.proofs.Book.Places.{in_none}

-- ---- messages, other pages and roots

pub logged_keeps : (st : Store) (client : ℕ) (post : Posted) → Pends st → Pends (after_logged client post st)
logged_keeps st client post pends = record { each = pends.each; heads = λ c is. pends_of (after_logged client post st) c (holds_of st c (pends.heads c is)); sticky = pends.sticky }

pub posted_keeps : (st : Store) (tree page : ℕ) (post : Posted) → Pends st → Pends (after_posted tree page post st)
posted_keeps st tree page post pends = record { each = pends.each; heads = λ c is. pends_of (after_posted tree page post st) c (holds_of st c (pends.heads c is)); sticky = pends.sticky }

pub log_mark_keeps : (st : Store) (client id : ℕ) → Pends st → Pends (after_log_mark client id st)
log_mark_keeps st client id pends = record { each = pends.each; heads = λ c is. pends_of (after_log_mark client id st) c (holds_of st c (pends.heads c is)); sticky = pends.sticky }

pub post_mark_keeps : (st : Store) (tree page id : ℕ) → Pends st → Pends (after_post_mark tree page id st)
post_mark_keeps st tree page id pends = record { each = pends.each; heads = λ c is. pends_of (after_post_mark tree page id st) c (holds_of st c (pends.heads c is)); sticky = pends.sticky }

pub page_keeps : (st : Store) (tree page : ℕ) (node : Node) (own : ℕ → ℕ) → Pends st → Pends (after_page tree page node own st)
page_keeps st tree page node own pends = record { each = pends.each; heads = λ c is. pends_of (after_page tree page node own st) c (holds_of st c (pends.heads c is)); sticky = pends.sticky }

pub inner_keeps : (st : Store) (tree page : ℕ) (inner : Inner) (pieces : List Link) → Pends st → Pends (after_inner tree page inner pieces st)
inner_keeps st tree page inner pieces pends = record { each = pends.each; heads = λ c is. pends_of (after_inner tree page inner pieces st) c (holds_of st c (pends.heads c is)); sticky = pends.sticky }

pub root_keeps : (st : Store) (tree : ℕ) (root : Tree) → Pends st → Pends (after_root tree root st)
root_keeps st tree root pends = record { each = pends.each; heads = λ c is. pends_of (after_root tree root st) c (holds_of st c (pends.heads c is)); sticky = pends.sticky }

pub raise_keeps : (st : Store) (tree : ℕ) (root : Tree) (level : ℕ) (links : List Link) → Pends st → Pends (after_raise tree root level links st)
raise_keeps st tree root level links pends =
    record { each = pends.each; heads = λ c is. pends_of (after_raise tree root level links st) c (holds_of st c (pends.heads c is)); sticky = pends.sticky }

pub removal_keeps : (st : Store) (tree page : ℕ) → Pends st → Pends (after_removal tree page st)
removal_keeps st tree page pends = record { each = pends.each; heads = λ c is. pends_of (after_removal tree page st) c (holds_of st c (pends.heads c is)); sticky = pends.sticky }

-- ---- leaves

-- what is applied stays so
pub leaf_keeps : (st : Store) (p : Taking) → Takes st p → Numbers st → Pends st → Pends (after_leaf p st)
leaf_keeps st p takes numbers pends = record {
  each = λ r logged. on r logged (pends.each r logged);
  heads = λ c is. pends_of (after_leaf p st) c (holds_of st c (pends.heads c is));
  sticky = λ i j a b one two before same. either a b (i, one) (pends.sticky i j a b one two before same);
}
  where
    grows : Grows st (after_leaf p st)
    grows = leaf_grows st p takes.ranges.link (takes.ranges.place, takes.ranges.linked) takes.ranges.page_is

    stays : (r : AtomicRec) → IsIn st.book.log r → IsApplied st.tally r → IsApplied (after_leaf p st).tally r
    stays r logged applied = applied_stays st (after_leaf p st) r grows (numbers.placed r logged).client applied

    on : (r : AtomicRec) → IsIn st.book.log r → IsPending st.tally r → IsPending (after_leaf p st).tally r
    on r logged (inl applied) = inl (stays r logged applied)
    on r logged (inr further) = inr further

    either : (a b : AtomicRec) → IsIn st.book.log a → IsApplied st.tally a ⊎ (a.page ≡ b.page) → IsApplied (after_leaf p st).tally a ⊎ (a.page ≡ b.page)
    either a b logged (inl applied) = inl (stays a logged applied)
    either a b logged (inr page) = inr page

-- ---- the beginning

pub empty_pends : (s : CloudState) → IsEmptyCloud s → Pends (empty_store s)
empty_pends s empty = record {
  each = λ r is. absurd (no_records r is);
  heads = λ c is. record {
    of_records = λ p is. absurd (none c p is);
    one_queue = λ p q is. absurd (none c p is);
    under_way = λ p r is. absurd (none c p is);
  };
  sticky = λ i j a b one. absurd (no_records a (i, one));
}
  where
    head_is : (c : ℕ) → (tally_of empty_book s).head c ≡ empty_head
    head_is c = ap (λ vs. last_or empty_head (map head_in vs)) (empty.versions (object.Head c))

    none : (c : ℕ) (p : Pending) → IsIn ((tally_of empty_book s).head c).pending p → ⊥
    none c p is = in_none ((tally_of empty_book s).head c).pending p (ap (λ (h : Head). h.pending) (head_is c)) is
