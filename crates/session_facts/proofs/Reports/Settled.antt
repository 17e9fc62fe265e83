-- Where heads are settled and queues are empty, a report counts nothing.
use Rattle.std.proofs.Common.{◌≡◌, ◌≤◌, ℕ, zero, suc, List, [], length, min, Option, Some, None, refl, sym, ap, subst, ◌∙◌, arith, cond}
use Rattle.std.specs.Prelude.{◌&&◌, unwrap_or}
use Rattle.std.specs.List.{list_any}
use Rattle.cloud_facts.proofs.Calls.Heads.{head_at, newest_head}
use Rattle.cloud_facts.proofs.Decoding.Values.{newest_decodes}
use Rattle.cloud_facts.specs.Decoding.Decodes.{Decodes}
use Rattle.cloud_facts.specs.Book.Telling.{head_in as head_of_version, last_or, queue_of}
use Rattle.cloud_trait.specs.Delivery.{unmarked}
use Rattle.cloud_facts.specs.Words.{IsClient, Entry, Head, CloudState, newest}
use Rattle.cloud_trait.specs.State.{greatest}
use Rattle.db_base.specs.declared.names.ObjName.TheVariants as object
use Rattle.head_codec.specs.Head.{empty_head}
use Rattle.head_codec.specs.declared.head.Phase.{Phase}
use Rattle.head_codec.specs.declared.head.Phase.TheVariants.{Settled}
use Rattle.std.specs.Prelude.{map}
use Rattle.world_audit.specs.Counts.{is_of, is_under_way, open_count, open_at, head_in, heads_upto, queue_at, messages_below, IsNextPage, AreWaiting}

-- ---- heads

settled_count : (client tree : ℕ) (committed : List Entry) (found : Option Head) → (unwrap_or found empty_head).phase ≡ Settled → open_count client tree committed found ≡ 0
settled_count client tree committed None e = refl
settled_count client tree committed (Some head) e = ap (λ (p : Phase). cond (is_under_way p && list_any (is_of client tree head) committed) 1 0) e

pub head_seen : (v : Option (List ℕ)) → head_at v ≡ unwrap_or (head_in v) empty_head
head_seen None = refl
head_seen (Some bytes) = refl

-- no head is open where those of all clients are settled
pub none_open : (s : CloudState) (tree : ℕ) (committed : List Entry)
    → ((k : ℕ) → IsClient k → (last_or empty_head (map head_of_version (s.versions (object.Head k)))).phase ≡ Settled) → (n : ℕ) → n ≤ 64 → heads_upto s tree committed n ≡ 0
unfolding heads_upto
none_open s tree committed settled zero most = refl
none_open s tree committed settled (suc n) most =
    let before : heads_upto s tree committed n ≡ 0 = none_open s tree committed settled n (omega (arith, most)) in
    let own : (unwrap_or (head_in (newest s (object.Head (suc n)))) empty_head).phase ≡ Settled =
    ap (λ (h : Head). h.phase) (sym (newest_head (s.versions (object.Head (suc n))) ∙ head_seen (newest s (object.Head (suc n)))))
    ∙ settled (suc n) (record { some = omega arith; most = most }) in
    let one : open_at s (suc n) tree committed ≡ 0 = settled_count (suc n) tree committed (head_in (newest s (object.Head (suc n)))) own in
    omega (arith, before, one)

-- ---- messages

below_none : (s : CloudState) (tree : ℕ) → ((page : ℕ) → unmarked (s.messages (queue_of tree page)) ≡ []) → (next : ℕ) → messages_below s tree next ≡ 0
unfolding messages_below
below_none s tree none zero = refl
below_none s tree none (suc n) =
    let before : messages_below s tree n ≡ 0 = below_none s tree none n in
    let own : length (unmarked (s.messages (queue_at tree n))) ≡ 0 = ap length (at n) in
    omega (arith, before, own)
  where
    at : (page : ℕ) → unmarked (s.messages (queue_at tree page)) ≡ []
    at zero = none zero
    at (suc page) = none (suc page)

-- no message waits where the queues of all pages are empty
pub none_wait : (s : CloudState) (tree : ℕ) → Decodes s → ((page : ℕ) → unmarked (s.messages (queue_of tree page)) ≡ []) → AreWaiting s tree 0
none_wait s tree decodes none = on (newest s (object.Tree tree)) refl
  where
    with_next : (next : ℕ) → IsNextPage (newest s (object.Tree tree)) next → AreWaiting s tree 0
    with_next next is = record { next = next; is_next = is; sum = ap (λ (n : ℕ). min n greatest) (sym (below_none s tree none next)) }

    on : (v : Option (List ℕ)) → newest s (object.Tree tree) ≡ v → AreWaiting s tree 0
    on None e = with_next 2 (subst (λ (v : Option (List ℕ)). IsNextPage v 2) (sym e) refl)
    on (Some bytes) e =
        let kind = newest_decodes s (object.Tree tree) bytes decodes e in
        with_next kind.0.next (subst (λ (v : Option (List ℕ)). IsNextPage v kind.0.next) (sym e) (kind.0, kind.1, refl))
