-- What is not applied of a key is of one queue, where of two records of a key the earlier is applied or in the queue of the later.
use Rattle.std.proofs.Common.{◌≡◌, ◌<◌, ◌⊎◌, ⊎_elim, ℕ, sym, ap, arith}
use Rattle.std.proofs.lemmas.Bool.{cases_lt}
use Rattle.cloud_facts.specs.Words.{AtomicRec, Store, IsIn, StandsAt}
use Rattle.cloud_facts.specs.Book.Records.{key_in, IsApplied}
use Rattle.cloud_facts.proofs.Numbers.Lists.{get_same}
use Rattle.cloud_facts.specs.Orders.Order.{IsLeft, UnappliedOfOneQueue}

pub one_queue : (st : Store)
    → ((i j : ℕ) (a b : AtomicRec) → StandsAt st.book.log i a → StandsAt st.book.log j b → i < j → a.client ≡ b.client → a.tree ≡ b.tree → key_in a ≡ key_in b
    → IsApplied st.tally a ⊎ (a.page ≡ b.page))
    → UnappliedOfOneQueue st
one_queue st sticky = record { one = one }
  where
    earlier : (i j : ℕ) (a b : AtomicRec) → StandsAt st.book.log i a → StandsAt st.book.log j b → i < j → a.client ≡ b.client → a.tree ≡ b.tree → key_in a ≡ key_in b
        → IsLeft st.tally a → a.page ≡ b.page
    earlier i j a b at_a at_b less client tree key left =
        ⊎_elim (λ low. absurd (omega (arith, low, left))) (λ same. same) (sticky i j a b at_a at_b less client tree key)

    one : (r q : AtomicRec) → IsIn st.book.log r → IsIn st.book.log q → r.client ≡ q.client → r.tree ≡ q.tree → key_in r ≡ key_in q
        → IsLeft st.tally r → IsLeft st.tally q → r.page ≡ q.page
    one r q in_r in_q client tree key left_r left_q =
        ⊎_elim (λ less. earlier in_r.0 in_q.0 r q in_r.1 in_q.1 less client tree key left_r)
        (λ upto. ⊎_elim (λ less. sym (earlier in_q.0 in_r.0 q r in_q.1 in_r.1 less (sym client) (sym tree) (sym key) left_q))
        (λ other. ap (λ (x : AtomicRec). x.page) (get_same st.book.log in_r.0 in_q.0 r q (omega (arith, upto, other)) in_r.1 in_q.1))
        (cases_lt in_q.0 in_r.0))
        (cases_lt in_r.0 in_q.0)
