-- What heads count: within the number of heads that landed.
use Rattle.std.proofs.Common.{◌≡◌, ◌+◌, ◌-◌, ◌*◌, ◌≤◌, ◌⊎◌, ℕ, List, [], length, map, Some, sym, subst, ◌∙◌, inl, inr, arith}
use Rattle.std.proofs.lemmas.List.Sums.{count_by-le-length}
use Rattle.db_base.specs.declared.names.ObjName.TheVariants as object
use Rattle.cloud_facts.specs.Words.{AtomicRec, Head, Version, CloudState, Store}
use Rattle.head_codec.proofs.HeadLaws.{head_of-some}
use Rattle.head_codec.specs.Head.{empty_head}
use Rattle.head_codec.specs.Spelling.{head_of, IsPhase}
use Rattle.head_codec.specs.declared.head.Phase.{Phase}
use Rattle.head_codec.specs.declared.head.Phase.TheVariants.{Open}
use Rattle.route_plan.specs.Queue.{number_of_queue}
use Rattle.route_plan.specs.Route.{goes_to}
use Rattle.cloud_facts.specs.Book.Premises.{Opens, Settles, SettlesBehind}
use Rattle.cloud_facts.specs.Book.Telling.{last_or, head_in}
use Rattle.cloud_facts.specs.Decoding.Decodes.{Decodes}
use Rattle.cloud_facts.specs.Decoding.Kinds.{CountsWithin}
use Rattle.cloud_facts.proofs.Decoding.Newest.{IsLast, last_cases, last_map, has_nth, never_gone}
use Rattle.cloud_facts.proofs.Decoding.Reading.{head_reads}
use Rattle.cloud_facts.proofs.Decoding.Values.{some_length}

-- the newest head of a client counts within the number of its heads
pub newest_counts : (s : CloudState) (client : ℕ) → Decodes s
    → CountsWithin (length (s.versions (object.Head client))) (last_or empty_head (map head_in (s.versions (object.Head client))))
newest_counts s client d = on (last_cases vs)
  where
    vs : List Version
    vs = s.versions (object.Head client)

    none : CountsWithin 0 empty_head
    none = record { epoch = omega arith; numbers = λ tree page. omega arith }

    on : (vs ≡ []) ⊎ ((v : Version) × IsLast vs v) → CountsWithin (length vs) (last_or empty_head (map head_in vs))
    on (inl e) = subst (λ (xs : List Version). CountsWithin (length xs) (last_or empty_head (map head_in xs))) (sym e) none
    on (inr p) =
        let k = has_nth (object.Head client) vs (length vs - 1) p.0 (d.versions (object.Head client)) (never_gone (object.Head client) vs (λ no. no) (d.versions (object.Head client))) p.1 in
        let newest : last_or empty_head (map head_in vs) ≡ k.2.0 = last_map head_in empty_head vs p.0 p.1 ∙ head_reads p.0 k.0 k.2.0 k.1 k.2.1 in
        let so_many : (length vs - 1) + 1 ≡ length vs = some_length vs p.0 p.1 in
        subst (λ (h : Head). CountsWithin (length vs) h) (sym newest) (subst (λ (n : ℕ). CountsWithin n k.2.0) so_many k.2.2)

few : (p : Phase) (count : ℕ) → p ≡ Open count → IsPhase p → count ≤ 200
few p count e is = (subst IsPhase e is).1

-- a head opens at most 200 records
pub opened_few : (st : Store) (client : ℕ) (head : Head) (records : List AtomicRec) (bytes : List ℕ) → head_of bytes ≡ Some head → Opens st client head records → length records ≤ 200
opened_few st client head records bytes reads o = few head.phase (length records) o.phase (head_of-some bytes head reads).0.phase

-- a head that opens raises each counter by at most the records of a transaction
pub opens_counts : (st : Store) (client : ℕ) (head : Head) (records : List AtomicRec) (bytes : List ℕ) (n : ℕ) → head_of bytes ≡ Some head → Opens st client head records
    → CountsWithin n (st.tally.head client) → CountsWithin (n + 1) head
opens_counts st client head records bytes n reads o counts =
    record { epoch = let same = o.epoch in let within = counts.epoch in omega (arith, same, within); numbers = λ tree page. number tree page }
  where
    at_most : length records ≤ 200
    at_most = opened_few st client head records bytes reads o

    number : (tree page : ℕ) → number_of_queue head.counters tree page ≤ 200 * (n + 1)
    number tree page =
        let raised = o.counters tree page in
        let more = count_by-le-length (goes_to tree page) records in
        let within = counts.numbers tree page in
        omega (arith, at_most, raised, more, within)

behind_epoch : (before head : Head) → SettlesBehind before head → head.epoch ≤ before.epoch + 1
behind_epoch before head (inl p) = let same = p.0 in omega (arith, same)
behind_epoch before head (inr e) = omega (arith, e)

-- a head that settles raises its epoch by at most one, and no counter
pub settles_counts : (st : Store) (client : ℕ) (head : Head) (n : ℕ) → Settles st client head → CountsWithin n (st.tally.head client) → CountsWithin (n + 1) head
settles_counts st client head n o counts = record {
  epoch = let next = behind_epoch (st.tally.head client) head o.behind in let within = counts.epoch in omega (arith, next, within);
  numbers = λ tree page. let same = o.counters tree page in let within = counts.numbers tree page in omega (arith, same, within);
}
