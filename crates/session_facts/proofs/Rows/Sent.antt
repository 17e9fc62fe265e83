-- Each entry of the order was sent to a pending update queue of its tree.
use Rattle.std.proofs.Common.{◌≡◌, ℕ, zero, suc, List, inl, refl, sym, ap, ◌∙◌, true}
use Rattle.std.specs.Prelude.{slice_get, ◌==◌, ◌&&◌}
use Rattle.std.specs.Str.{bytes_eq}
use Rattle.std.proofs.lemmas.Bool.{and_from, eq-eqb}
use Rattle.std.proofs.lemmas.Slice.Eq.{bytes_eq-Decides}
use Rattle.cloud_facts.specs.Words.{Entry, AtomicRec, CloudState, Book, StandsAt, store_of}
use Rattle.db_base.specs.Change.{key_of}
use Rattle.history.specs.Fold.{of_tree}
use Rattle.cloud_facts.specs.Landings.Holding.{Holds}
use Rattle.cloud_facts.specs.Lefts.Left.{IsCopied}
use Rattle.cloud_facts.proofs.Numbers.Lists.{map_there, filter_there, filter_at}
use Rattle.cloud_facts.specs.Orders.Order.{FirstApplied, is_entry_of}
use Rattle.replay_meaning.specs.Kinds.{IsPendingOf, WasSentFor}
use Rattle.route_plan.specs.Record.{pu_record_of}
use Rattle.cloud_facts.specs.Book.Records.{entry_of, is_of_key}
use Rattle.cloud_facts.specs.Book.Telling.{queue_of}
use Rattle.cloud_facts.proofs.Book.Places.{get_front}

own_entry : (e : Entry) → is_entry_of e.tree (key_of e.change) e.client e ≡ true
own_entry e =
    and_from ((e.client == e.client) && (e.tree == e.tree)) (bytes_eq (key_of e.change) (key_of e.change))
    (and_from (e.client == e.client) (e.tree == e.tree) (eq-eqb e.client e.client refl) (eq-eqb e.tree e.tree refl))
    ((bytes_eq-Decides (key_of e.change) (key_of e.change)).1 refl)

-- a pending update queue is one of its tree
of_its_tree : (tree page own : ℕ) → tree ≡ own → IsPendingOf own (queue_of tree page)
of_its_tree tree zero own is = is
of_its_tree tree (suc page) own is = is

-- a record that has a copy was sent
record_sent : (book : Book) (order : List Entry) (t : CloudState) (r : AtomicRec) (e : Entry) → IsCopied (store_of book order t).tally r → entry_of r ≡ e → WasSentFor t e
record_sent book order t r e copied is = record {
  queue = queue_of r.tree r.page;
  of_tree = of_its_tree r.tree r.page e.tree (ap (λ (x : Entry). x.tree) is);
  place = copied.place;
  message = copied.message;
  there = copied.there;
  sent = pu_record_of r;
  spells = copied.reads;
  client = sym (ap (λ (x : Entry). x.client) is);
  epoch = sym (ap (λ (x : Entry). x.epoch) is);
  txn = sym (ap (λ (x : Entry). x.txn) is);
  change = sym (ap (λ (x : Entry). x.change) is);
}

entry_sent : (book : Book) (order : List Entry) (t : CloudState) → Holds (store_of book order t) → (place : ℕ) (e : Entry) → StandsAt order place e → WasSentFor t e
entry_sent book order t holds place e there =
    let first : FirstApplied (store_of book order t) e.tree (key_of e.change) e.client = holds.order.first e.tree (key_of e.change) e.client (holds.order.of_client e (place, there)) in
    let among = filter_at (is_entry_of e.tree (key_of e.change) e.client) order place e (own_entry e) there in
    let taken = map_there entry_of first.taken among.0 e (ap (λ (es : List Entry). slice_get es among.0) (sym first.ordered) ∙ among.1) in
    let logged = filter_there (is_of_key e.tree (key_of e.change) e.client) book.log among.0 taken.0
    (ap (λ (rs : List AtomicRec). slice_get rs among.0) first.split ∙ get_front first.taken first.left among.0 taken.0 taken.1) in
    record_sent book order t taken.0 e (holds.leaves.copied taken.0 (logged.place, logged.there) (inl (first.applied taken.0 (among.0, taken.1)))) taken.2

-- and so was each of the order of a tree
pub order_sent : (book : Book) (order : List Entry) (t : CloudState) (tree : ℕ) → Holds (store_of book order t) → (place : ℕ) (e : Entry) → StandsAt (of_tree tree order) place e → WasSentFor t e
order_sent book order t tree holds place e there =
    let p = filter_there (λ (x : Entry). x.tree == tree) order place e there in
    entry_sent book order t holds p.place e p.there
