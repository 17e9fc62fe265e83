-- What a session knows of the records that it sends gives the turn.
use Rattle.std.proofs.Common.{◌≡◌, ◌+◌, ◌<◌, ℕ, true, ◌==◌, ◌&&◌, refl, subst, arith}
use Rattle.std.proofs.lemmas.Bool.{and_from, eq-eqb}
use Rattle.cloud_facts.specs.Copies.Copies.{IsSentOn, SendsInTurn}
use Rattle.cloud_facts.proofs.Copies.Order.{Ordered, filter_order}
use Rattle.cloud_facts.specs.Words.{IsClient, AtomicRec, Store, IsIn, StandsAt}
use Rattle.cloud_facts.proofs.Numbers.Ways.{is_way, settled_way}
use Rattle.cloud_facts.specs.Book.Records.{IsUnderWay, is_under_way, under_way}
use Rattle.cloud_facts.specs.Lefts.Left.{Leaves}
use Rattle.head_codec.specs.declared.head.Phase.{Phase}
use Rattle.head_codec.specs.declared.head.Phase.TheVariants.{Settled, Open}

-- where the records under way of the client have the indices 1, 2, 3 .. in the log's order, who knows of each of a lower index that it was
-- sent, sends in turn; of a record that is not under way there is nothing to know
pub turn_of : (st : Store) (r : AtomicRec) → ((place : ℕ) (x : AtomicRec) → StandsAt (under_way st.tally r.client st.book.log) place x → x.index ≡ place + 1)
    → ((q : AtomicRec) → IsIn st.book.log q → q.client ≡ r.client → IsUnderWay st.tally q → q.index < r.index → IsSentOn st.tally q) → SendsInTurn st r
turn_of st r indexed known q b = known q (b.i, b.one) b.client_is b.way_one index
  where
    passes : (x : AtomicRec) → x.client ≡ r.client → IsUnderWay st.tally x → (x.client == r.client) && is_under_way st.tally x ≡ true
    passes x own way = and_from (x.client == r.client) (is_under_way st.tally x) (eq-eqb x.client r.client own) way

    ordered : Ordered (under_way st.tally r.client st.book.log) q r
    ordered =
        filter_order (λ (x : AtomicRec). (x.client == r.client) && is_under_way st.tally x) st.book.log b.i b.j q r b.before b.one b.other
        (passes q b.client_is b.way_one) (passes r refl b.way_other)

    index : q.index < r.index
    index =
        let one = indexed ordered.i q ordered.one in
        let other = indexed ordered.j r ordered.other in
        let less = ordered.less in
        omega (arith, one, other, less)

-- a client's records under way have the indices 1, 2, 3 .. in the log's order
pub ways_indexed : (st : Store) (client : ℕ) → Leaves st → IsClient client → (r : AtomicRec) → r.client ≡ client → IsUnderWay st.tally r
    → (place : ℕ) (x : AtomicRec) → StandsAt (under_way st.tally client st.book.log) place x → x.index ≡ place + 1
ways_indexed st client leaves is r own way place x there = on (st.tally.head client).phase refl
  where
    on : (p : Phase) → (st.tally.head client).phase ≡ p → x.index ≡ place + 1
    on (Open count) e = ((leaves.ways client count is e).each place x there).index_is
    on Settled e = absurd (settled_way (st.tally.head client) r e (subst (λ c. is_way (st.tally.head c) r ≡ true) own way))

-- so who knows, of a record under way, that those of a lower index were sent, sends it in turn
pub sends_in_turn : (st : Store) (r : AtomicRec) → Leaves st → IsClient r.client
    → (IsUnderWay st.tally r → (q : AtomicRec) → IsIn st.book.log q → q.client ≡ r.client → IsUnderWay st.tally q → q.index < r.index → IsSentOn st.tally q)
    → SendsInTurn st r
sends_in_turn st r leaves is known q b = turn_of st r (ways_indexed st r.client leaves is r refl b.way_other) (known b.way_other) q b
