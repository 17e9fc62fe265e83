-- What the put that commits rests on.
use Rattle.std.proofs.Common.{◌≡◌, ◌<◌, ◌≤◌, ◌+◌, ◌⊎◌, inl, inr, ℕ, List, [], ◌∷◌, ◌++◌, length, map, take, count_by, refl, sym, ap, subst, ◌∙◌, arith}
use Rattle.cloud_facts.specs.Calls.Acting.{IsPruned}
use Rattle.session_facts.specs.Machines.Commits.Knows.{MayCommit, AreLeavesFor}
use Rattle.session_facts.proofs.Machines.Commits.Distinct.{distinct_places}
use Rattle.session_facts.proofs.Machines.Commits.Routes.{records, count_is, record_at, sticky, goes}
use Rattle.db_base.specs.Change.{key_of}
use Rattle.cloud_facts.specs.Words.{IsClient, AtomicRec, Head, Store, IsIn, StandsAt}
use Rattle.head_codec.specs.declared.head.Phase.TheVariants.{Settled}
use Rattle.head_codec.specs.declared.lists.Pending.{Pending}
use Rattle.history.specs.Audited.{committed_entry}
use Rattle.cloud_facts.specs.Numbers.Numbers.{Numbers}
use Rattle.cloud_facts.specs.Pendings.Pending.{HeadPends}
use Rattle.route_plan.specs.Heads.{opened_head}
use Rattle.route_plan.specs.Queue.{number_of_queue}
use Rattle.route_plan.specs.Route.{goes_to, record_behind, routed_behind, transaction}
use Rattle.route_plan.proofs.CommitLaws.{number_of_queue-opened_head}
use Rattle.cloud_facts.specs.Book.Messages.{IsLogMessage, WaitsLogged}
use Rattle.cloud_facts.specs.Book.Premises.{IsRecordAt, IsAppliedEntry, Opens}
use Rattle.cloud_facts.specs.Book.Records.{key_in, entry_of}
use Rattle.txn_buffer.specs.Noted.{Noted}

-- ---- entries

entries_behind : (client epoch txn count : ℕ) (head : Head) (earlier : List AtomicRec) (changes : List Noted) (pages : List ℕ) → length changes ≤ length pages
    → map entry_of (routed_behind (transaction client epoch txn count) head earlier changes pages) ≡ map (committed_entry client epoch txn) changes
entries_behind client epoch txn count head earlier [] pages paged = refl
entries_behind client epoch txn count head earlier (n ∷ changes) [] paged = absurd (omega (arith, paged))
entries_behind client epoch txn count head earlier (n ∷ changes) (page ∷ pages) paged =
    ap (λ es. committed_entry client epoch txn n ∷ es)
    (entries_behind client epoch txn count head (earlier ++ record_behind (transaction client epoch txn count) head earlier n page ∷ []) changes pages (omega (arith, paged)))

-- the records are those of the changes' entries
pub entries_are : (client epoch txn : ℕ) (head : Head) (changes : List Noted) (pages : List ℕ) → length changes ≤ length pages
    → map entry_of (records client epoch txn head changes pages) ≡ map (committed_entry client epoch txn) changes
entries_are client epoch txn head changes pages paged = entries_behind client epoch txn (length changes) head [] changes pages paged

-- ---- the records of a head that opens

module _ (st : Store) (client txn : ℕ) (changes : List Noted) (pages : List ℕ) (base head : Head) (is_client : IsClient client) (numbers : Numbers st) (pends : HeadPends st client)
    (may : MayCommit changes) (some : 1 ≤ length changes) (paged : length changes ≤ length pages) (leaves : AreLeavesFor st.book changes pages)
    (pruned : IsPruned st.tally client (st.tally.head client) base) (settled : base.phase ≡ Settled) (later : base.txn < txn)
    (head_is : head ≡ opened_head base txn (records client base.epoch txn base changes pages)) where
  abbrev recs : List AtomicRec
  recs = records client base.epoch txn base changes pages

  abbrev behind : ℕ → Noted → ℕ → AtomicRec
  behind place noted page = record_behind (transaction client base.epoch txn (length changes)) base (take place recs) noted page

  pending_is : head.pending ≡ base.pending
  pending_is = ap (λ (h : Head). h.pending) head_is

  -- the numbers of the head are those of the newest
  counted : (tree page : ℕ) → number_of_queue base.counters tree page ≡ number_of_queue (st.tally.head client).counters tree page
  counted tree page = ap (λ cs. number_of_queue cs tree page) pruned.counters

  -- the record of a change has what it needs at its place
  behind_at : (place : ℕ) (n : Noted) (page : ℕ) → StandsAt changes place n → StandsAt pages place page → length (take place recs) ≡ place
      → WaitsLogged (st.tally.logged client) (behind place n page) → IsRecordAt st client head recs place (behind place n page)
  behind_at place n page there page_at length_is waits = record {
    client_is = refl;
    epoch_is = sym (ap (λ (h : Head). h.epoch) head_is);
    txn_is = sym (ap (λ (h : Head). h.txn) head_is);
    index_is = ap (λ k. k + 1) length_is;
    count_is = sym (count_is client base.epoch txn base changes pages paged);
    tree = (may.each n (place, there)).0;
    number_is =
        ap (λ k. k + 1 + count_by (goes_to n.tree (behind place n page).page) (take place recs))
        (counted n.tree (behind place n page).page ∙ numbers.counters client n.tree (behind place n page).page);
    routed = goes st client base pruned pends numbers n.tree n.change page (leaves place n page there page_at) (key_of n.change) refl;
    sticky = λ p is tree_is key_is. sticky st client base pruned pends numbers n.tree n.change page p (subst (λ ps. IsIn ps p) pending_is is) tree_is key_is;
    logged = waits;
  }

  pub opens : ((r : AtomicRec) → IsIn recs r → WaitsLogged (st.tally.logged client) r)
      → ((id : ℕ) (q : AtomicRec) → IsLogMessage (st.tally.logged client) id q → q.epoch ≡ base.epoch → q.txn ≡ txn → IsIn recs q) → Opens st client head recs
  opens waits own = record {
    is_client = is_client;
    settled = sym pruned.phase ∙ settled;
    epoch = ap (λ (h : Head). h.epoch) head_is ∙ pruned.epoch;
    later = let e = pruned.txn in let f : head.txn ≡ txn = ap (λ (h : Head). h.txn) head_is in omega (arith, later, e, f);
    phase = ap (λ (h : Head). h.phase) head_is;
    some = let e = count_is client base.epoch txn base changes pages paged in omega (arith, e, some);
    records_are = λ place r there.
        let of = record_at client base.epoch txn base changes pages paged place r there in
        subst (IsRecordAt st client head recs place) (sym of.is)
        (behind_at place of.noted of.page of.there of.paged of.behind (subst (WaitsLogged (st.tally.logged client)) of.is (waits r (place, there))));
    distinct = λ i j a b at_i at_j tree_is key_is.
        let x = record_at client base.epoch txn base changes pages paged i a at_i in
        let y = record_at client base.epoch txn base changes pages paged j b at_j in
        distinct_places changes may.noted.distinct i j x.noted y.noted x.there y.there
        (sym (ap (λ (r : AtomicRec). r.tree) x.is) ∙ (tree_is ∙ ap (λ (r : AtomicRec). r.tree) y.is))
        (sym (ap (λ (r : AtomicRec). key_in r) x.is) ∙ (key_is ∙ ap (λ (r : AtomicRec). key_in r) y.is));
    counters = λ tree page.
        ap (λ (h : Head). number_of_queue h.counters tree page) head_is
        ∙ (number_of_queue-opened_head client base.epoch txn base changes pages tree page
        ∙ ap (λ k. k + count_by (goes_to tree page) recs) (counted tree page));
    pending_kept = λ p is. on p (pruned.kept p is);
    pending_from = λ p is. pruned.from p (subst (λ ps. IsIn ps p) pending_is is);
    messages = λ id q m e t. own id q m (e ∙ ap (λ (h : Head). h.epoch) head_is) (t ∙ ap (λ (h : Head). h.txn) head_is);
  }
    where
      on : (p : Pending) → IsIn base.pending p ⊎ IsAppliedEntry st.tally client p → IsIn head.pending p ⊎ IsAppliedEntry st.tally client p
      on p (inl is) = inl (subst (λ ps. IsIn ps p) (sym pending_is) is)
      on p (inr done) = inr done
