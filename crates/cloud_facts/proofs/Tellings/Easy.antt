-- Heads and messages.
use Rattle.std.proofs.Common.{◌≡◌, ℕ, zero, suc, true, false, List, [], ◌∷◌, ◌++◌, map, Some, None, refl, ap, ◌∙◌}
use Rattle.db_base.specs.declared.names.ObjName.TheVariants as object
use Rattle.cloud_facts.specs.Words.{ObjName, QueueName, Entry, AtomicRec, Head, Version, Posted, CloudState, Caller, Book, Node, nodes_of, store_of}
use Rattle.db_base.specs.declared.names.QueueName.TheVariants.{Atomic}
use Rattle.cloud_trait.proofs.NameLemmas.{object_cmp-equal}
use Rattle.cloud_trait.proofs.StateLemmas.{put_at_by}
use Rattle.leaf_view.specs.Lookup.{value_of, number_of as done_number}
use Rattle.cloud_trait.specs.Names.{object_cmp, queue_cmp}
use Rattle.cloud_trait.specs.State.{landed, removed, sent, deleted, marked, put_at}
use Rattle.cloud_trait.specs.declared.state.Landing.{Landing}
use Rattle.head_codec.specs.Head.{empty_head}
use Rattle.head_codec.specs.Spelling.{head_of}
use Rattle.cloud_facts.specs.Book.Effects.{after_head, after_logged, after_posted, after_log_mark, after_post_mark, after_removal, with_logged, with_posts}
use Rattle.cloud_facts.specs.Book.Tally.{Tally, at2}
use Rattle.cloud_facts.specs.Book.Telling.{tally_of, last_or, head_in, node_in, with_bytes, is_gone, gone_of, leaf_for, newest_leaf, queue_of, cursor_of}
use Rattle.cloud_facts.proofs.Decoding.Reading.{head_reads}
use Rattle.cloud_facts.proofs.Decoding.Versions.{bare_added, gone_added}
use Rattle.cloud_facts.specs.Tellings.Told.{AreAlike, Tells}
use Rattle.cloud_facts.proofs.Tellings.Names.{put_head, put_page, put_atomic, put_queue, at_image, at2_image, last_image}

-- tallies that say the same at each name are the same
pub alike : (t u : Tally) → AreAlike t u → t ≡ u
alike t u a = λ i. record {
  head = λ client. a.head client i;
  logged = λ client. a.logged client i;
  posts = λ tree page. a.posts tree page i;
  cursor = λ tree page client. a.cursor tree page client i;
  done = λ tree key page client. a.done tree key page client i;
  value = λ tree key. a.value tree key i;
  nodes = λ tree page. a.nodes tree page i;
  gone = λ tree page. a.gone tree page i;
  roots = λ tree. a.roots tree i;
}

-- ---- heads

head_cursors : (who : Caller) (client : ℕ) (bytes : List ℕ) (s : CloudState) (tree page c : ℕ)
    → cursor_of (landed who (object.Head client) bytes s) tree page c ≡ cursor_of s tree page c
head_cursors who client bytes s tree zero c = refl
head_cursors who client bytes s tree (suc page) c = refl

-- a head lands
pub head_told : (who : Caller) (client : ℕ) (bytes : List ℕ) (h : Head) (more : List AtomicRec) (book : Book) (order : List Entry) (s : CloudState)
    → head_of bytes ≡ Some h
    → Tells (landed who (object.Head client) bytes s) (after_head client h more (store_of book order s))
head_told who client bytes h more book order s is = alike _ _ (record {
  head = λ c.
      ap (λ (vs : List Version). last_or empty_head (map head_in vs))
      (put_head s.versions client (s.versions (object.Head client) ++ record { who = who; bytes = Some bytes } ∷ []) c)
      ∙ at_image (λ (vs : List Version). last_or empty_head (map head_in vs)) client
      (s.versions (object.Head client) ++ record { who = who; bytes = Some bytes } ∷ []) h
      (λ n. s.versions (object.Head n)) c
      (last_image head_in empty_head (s.versions (object.Head client)) (record { who = who; bytes = Some bytes }) h
      (head_reads (record { who = who; bytes = Some bytes }) bytes h refl is));
  logged = λ c. refl;
  posts = λ tree page. refl;
  cursor = head_cursors who client bytes s;
  done = λ tree key page c. refl;
  value = λ tree key. refl;
  nodes = λ tree page. refl;
  gone = λ tree page. refl;
  roots = λ tree. refl;
})

-- ---- messages

-- of a state whose queues alone differ
message_cursors : (s : CloudState) (messages : QueueName → List Posted) (trace : List Landing) (tree page c : ℕ)
    → cursor_of (record s { messages = messages; trace = trace }) tree page c ≡ cursor_of s tree page c
message_cursors s messages trace tree zero c = refl
message_cursors s messages trace tree (suc page) c = refl

-- an ATOMIC queue changes
logged_changed : (client : ℕ) (ms : List Posted) (trace : List Landing) (book : Book) (order : List Entry) (s : CloudState)
    → Tells (record s { messages = put_at queue_cmp s.messages (Atomic client) ms; trace = trace }) (with_logged client ms (store_of book order s))
logged_changed client ms trace book order s = alike _ _ (record {
  head = λ c. refl;
  logged = λ c. put_atomic s.messages client ms c;
  posts = posts;
  cursor = message_cursors s (put_at queue_cmp s.messages (Atomic client) ms) trace;
  done = λ tree key page c. refl;
  value = λ tree key. refl;
  nodes = λ tree page. refl;
  gone = λ tree page. refl;
  roots = λ tree. refl;
})
  where
    posts : (tree page : ℕ) → put_at queue_cmp s.messages (Atomic client) ms (queue_of tree page) ≡ s.messages (queue_of tree page)
    posts tree zero = refl
    posts tree (suc page) = refl

-- a pending update queue changes
posts_changed : (tree page : ℕ) (ms : List Posted) (trace : List Landing) (book : Book) (order : List Entry) (s : CloudState)
    → Tells (record s { messages = put_at queue_cmp s.messages (queue_of tree page) ms; trace = trace }) (with_posts tree page ms (store_of book order s))
posts_changed tree page ms trace book order s = alike _ _ (record {
  head = λ c. refl;
  logged = logged page;
  posts = λ t p. put_queue s.messages tree page ms t p;
  cursor = message_cursors s (put_at queue_cmp s.messages (queue_of tree page) ms) trace;
  done = λ t key p c. refl;
  value = λ t key. refl;
  nodes = λ t p. refl;
  gone = λ t p. refl;
  roots = λ t. refl;
})
  where
    logged : (page c : ℕ) → put_at queue_cmp s.messages (queue_of tree page) ms (Atomic c) ≡ s.messages (Atomic c)
    logged zero c = refl
    logged (suc page) c = refl

-- a message is sent
pub logged_told : (who : Caller) (client : ℕ) (bytes : List ℕ) (book : Book) (order : List Entry) (s : CloudState)
    → Tells (sent who (Atomic client) bytes s) (after_logged client (record { who = who; bytes = bytes; deleted = false }) (store_of book order s))
logged_told who client bytes book order s =
    logged_changed client (s.messages (Atomic client) ++ record { who = who; bytes = bytes; deleted = false } ∷ [])
    (sent who (Atomic client) bytes s).trace book order s

pub posted_told : (who : Caller) (tree page : ℕ) (bytes : List ℕ) (book : Book) (order : List Entry) (s : CloudState)
    → Tells (sent who (queue_of tree page) bytes s) (after_posted tree page (record { who = who; bytes = bytes; deleted = false }) (store_of book order s))
posted_told who tree page bytes book order s =
    posts_changed tree page (s.messages (queue_of tree page) ++ record { who = who; bytes = bytes; deleted = false } ∷ [])
    (sent who (queue_of tree page) bytes s).trace book order s

-- a message is marked as deleted
pub log_mark_told : (client id : ℕ) (book : Book) (order : List Entry) (s : CloudState)
    → Tells (deleted (Atomic client) id s) (after_log_mark client id (store_of book order s))
log_mark_told client id book order s = logged_changed client (marked (s.messages (Atomic client)) id) s.trace book order s

pub post_mark_told : (tree page id : ℕ) (book : Book) (order : List Entry) (s : CloudState)
    → Tells (deleted (queue_of tree page) id s) (after_post_mark tree page id (store_of book order s))
post_mark_told tree page id book order s = posts_changed tree page (marked (s.messages (queue_of tree page)) id) s.trace book order s

-- ---- removals

module _ (who : Caller) (tree page : ℕ) (s : CloudState) where
  removal_nodes : (t p : ℕ) → nodes_of (removed who (object.Page tree page) s) t p ≡ nodes_of s t p
  removal_nodes t p =
      put_at_by (λ (q : ObjName) (vs : List Version). map node_in (with_bytes vs) ≡ map node_in (with_bytes (s.versions q))) object_cmp object_cmp-equal s.versions
      (object.Page tree page) (s.versions (object.Page tree page) ++ record { who = who; bytes = None } ∷ [])
      (ap (map node_in) (bare_added (s.versions (object.Page tree page)) (record { who = who; bytes = None }) refl)) (λ q. refl) (object.Page t p)

  all_nodes : nodes_of (removed who (object.Page tree page) s) ≡ nodes_of s
  all_nodes = λ i t p. removal_nodes t p i

  removal_gone : (t p : ℕ) → gone_of (removed who (object.Page tree page) s) t p ≡ at2 tree page true (gone_of s) t p
  removal_gone t p =
      ap (λ (vs : List Version). is_gone vs) (put_page s.versions tree page (s.versions (object.Page tree page) ++ record { who = who; bytes = None } ∷ []) t p)
      ∙ at2_image (λ (vs : List Version). is_gone vs) tree page (s.versions (object.Page tree page) ++ record { who = who; bytes = None } ∷ []) true
      (λ x y. s.versions (object.Page x y)) t p (gone_added who (s.versions (object.Page tree page)))

  removal_cursors : (t p c : ℕ) → cursor_of (removed who (object.Page tree page) s) t p c ≡ cursor_of s t p c
  removal_cursors t zero c = refl
  removal_cursors t (suc p) c = ap (λ (ns : ℕ → ℕ → List Node). done_number (newest_leaf ns t (suc p)).done (suc p) c) all_nodes

  -- a page is removed
  pub removal_told : (book : Book) (order : List Entry) → Tells (removed who (object.Page tree page) s) (after_removal tree page (store_of book order s))
  removal_told book order = alike _ _ (record {
    head = λ c. refl;
    logged = λ c. refl;
    posts = λ t p. refl;
    cursor = removal_cursors;
    done = λ t key p c. ap (λ (ns : ℕ → ℕ → List Node). done_number (leaf_for book ns t key).done p c) all_nodes;
    value = λ t key. ap (λ (ns : ℕ → ℕ → List Node). value_of key (leaf_for book ns t key).records) all_nodes;
    nodes = removal_nodes;
    gone = removal_gone;
    roots = λ t. refl;
  })

-- ---- calls that change no object and no message

-- what is told is what versions and messages tell
pub same_told : (book : Book) (s t : CloudState) → t.versions ≡ s.versions → t.messages ≡ s.messages → tally_of book t ≡ tally_of book s
same_told book s t versions messages = λ i. tally_of book (record s { versions = versions i; messages = messages i })
