-- What the calls of a part of a settling leave alone.
use Rattle.std.proofs.Common.{◌≡◌, ◌+◌, ◌-◌, ◌≤◌, ℕ, zero, suc, Bool, true, false, cond, List, [], ◌∷◌, ◌++◌, length, Option, Some, None, refl, sym, ap, subst, ◌∙◌, arith, length-append}
use Rattle.std.specs.Prelude.{slice_get, unwrap_or, ◌==◌}
use Rattle.ckpt_parts.specs.Deleting.{next_id}
use Rattle.ckpt_parts.specs.Leasing.{newest_lease}
use Rattle.cloud_facts.specs.Words.{ObjName, QueueName, Answer, Version, Posted, CloudState, called, Caller, Claim, Ask, Get, GetHeld, PutHeld, Send, Receive, Delete, Take, Renew, Release, Goes, Ends, Deed, Store, IsCall}
use Rattle.cloud_facts.specs.Homes.Homes.{Part as Place}
use Rattle.cloud_trait.proofs.EffectLemmas.{moved_by, released_by}
use Rattle.cloud_trait.proofs.NameLemmas.{object_cmp-equal, queue_cmp-equal}
use Rattle.cloud_trait.proofs.RowLemmas.{row_by}
use Rattle.cloud_trait.proofs.StateLemmas.{put_at_by}
use Rattle.cloud_trait.specs.Ask.{ListHeld, RemoveHeld, effect}
use Rattle.cloud_trait.specs.Delivery.{unmarked, unmarked_from}
use Rattle.cloud_trait.specs.Names.{object_cmp, queue_cmp}
use Rattle.cloud_trait.specs.State.{put_at, marked, mark_at, end_after}
use Rattle.db_base.specs.declared.names.ObjName.TheVariants as object
use Rattle.db_base.specs.declared.names.QueueName.TheVariants as queue
use Rattle.page_ckpt.specs.Paging.{Paging, ask_at as paging_ask_at, paging_ask, under as under_page, delete_next as delete_page_next, home_name, right_name}
use Rattle.page_ckpt.specs.declared.stage.Stage.{Stage as PageStage}
use Rattle.page_ckpt.specs.declared.stage.Stage.TheVariants as paging
use Rattle.recover_run.specs.Recovery.{Recovery, ask_at as recovery_ask_at, recovery_ask, under as under_client, delete_next, send_next}
use Rattle.recover_run.specs.declared.items.AtomicItem.{AtomicItem}
use Rattle.recover_run.specs.declared.stage.Stage.{Stage as OpeningStage}
use Rattle.recover_run.specs.declared.stage.Stage.TheVariants as opening
use Rattle.session_facts.proofs.Settling.Stories.{turn_asks, turn_known}
use Rattle.session_facts.specs.Settling.Story.{Moment, IsTurn, PartStory, PartRan}
use Rattle.session_facts.specs.Machines.Settlings.Knows.{KnowsAtWork}
use Rattle.session_facts.specs.Machines.TreeCheckpoints.Knows.{KnowsWork}
use Rattle.settle_run.proofs.End.{part_stays}
use Rattle.settle_run.specs.Parts.{part_again, part_ask}
use Rattle.settle_run.specs.declared.part.Part.{Part}
use Rattle.settle_run.specs.declared.part.Part.TheVariants.{Client, Tree, Page}
use Rattle.split_plan.specs.declared.put_list.PagePut.{PagePut}
use Rattle.tree_ckpt.specs.Work.{delete_ask, release_ask, work_ask}
use Rattle.tree_ckpt.specs.declared.work.Work.{Work as TreeWork}
use Rattle.tree_ckpt.specs.declared.work.Work.TheVariants.{TakingTree, GettingTree, Receiving, Descending, TakingPage, Folding, ReleasingPage, LeftPage, Rising, Deleting, Releasing, Finished}
use Rattle.tree_phases.specs.Placing.{put_first, put_next, put_in_hand}
use Rattle.tree_phases.specs.declared.placing.Placing.{Placing}
use Rattle.tree_phases.specs.Rising.{last_ask}
use Rattle.tree_phases.specs.declared.rising.Rising.{Rising as Up}

-- ---- calls

-- a pending update queue
abbrev pub IsPending : QueueName → Type 0
IsPending (queue.Atomic client) = ⊥
IsPending (queue.TreePu tree) = Unit {0}
IsPending (queue.PagePu tree page) = Unit {0}

-- a call of a client's recovery puts its head alone, removes nothing, sends to pending update queues, and deletes in its ATOMIC queue
abbrev pub OfClient : ℕ → Ask → Type 0
OfClient client (PutHeld (object.Head c) bytes one two) = c ≡ client
OfClient client (PutHeld (object.Tree tree) bytes one two) = ⊥
OfClient client (PutHeld (object.Page tree page) bytes one two) = ⊥
OfClient client (Send q bytes) = IsPending q
OfClient client (Delete q id) = q ≡ queue.Atomic client
OfClient client (Get name) = Unit {0}
OfClient client (GetHeld name l) = Unit {0}
OfClient client (ListHeld tree l) = Unit {0}
OfClient client (RemoveHeld name l) = ⊥
OfClient client (Receive q most) = Unit {0}
OfClient client (Take l ticks) = Unit {0}
OfClient client (Renew l ticks) = Unit {0}
OfClient client (Release l) = Unit {0}

-- one of a checkpoint of a queue puts pages of its tree, and the tree object where it is the tree's own; it removes and sends nothing, and
-- deletes in its queue
abbrev pub OfQueue : Bool → ℕ → QueueName → Ask → Type 0
OfQueue own tree own_queue (PutHeld (object.Head client) bytes one two) = ⊥
OfQueue own tree own_queue (PutHeld (object.Tree t) bytes one two) = (own ≡ true) × (t ≡ tree)
OfQueue own tree own_queue (PutHeld (object.Page t page) bytes one two) = t ≡ tree
OfQueue own tree own_queue (Send q bytes) = ⊥
OfQueue own tree own_queue (Delete q id) = q ≡ own_queue
OfQueue own tree own_queue (Get name) = Unit {0}
OfQueue own tree own_queue (GetHeld name l) = Unit {0}
OfQueue own tree own_queue (ListHeld of l) = Unit {0}
OfQueue own tree own_queue (RemoveHeld name l) = ⊥
OfQueue own tree own_queue (Receive q most) = Unit {0}
OfQueue own tree own_queue (Take l ticks) = Unit {0}
OfQueue own tree own_queue (Renew l ticks) = Unit {0}
OfQueue own tree own_queue (Release l) = Unit {0}

-- ---- what is asked

under_client_of : (client : ℕ) (r : Recovery) (o : Option Claim) (make : Claim → Ask) → ((l : Claim) → OfClient client (make l)) → OfClient client (under_client r o make)
under_client_of client r (Some l) make is = is l
under_client_of client r None make is = tt

delete_of : (client : ℕ) (r : Recovery) (ids : List ℕ) → r.client ≡ client → OfClient client (delete_next r ids)
delete_of client r (id ∷ ids) e = ap (λ (c : ℕ). queue.Atomic c) e
delete_of client r [] e = tt

send_of : (client : ℕ) (r : Recovery) (o : Option AtomicItem) → OfClient client (send_next r o)
send_of client r None = tt
send_of client r (Some x) = on (x.rec.page == 0)
  where
    on : (b : Bool) → IsPending (cond b (queue.TreePu x.rec.tree) (queue.PagePu x.rec.tree x.rec.page))
    on true = tt
    on false = tt

recovery_of : (client : ℕ) (r : Recovery) → r.client ≡ client → OfClient client (recovery_ask r)
recovery_of client r e = at r.stage
  where
    at : (stage : OpeningStage) → OfClient client (recovery_ask_at stage r)
    at opening.ReleasingOld = under_client_of client r r.former Release (λ l. tt)
    at opening.Taking = tt
    at opening.Getting = under_client_of client r r.lease (λ l. GetHeld (object.Head r.client) l) (λ l. tt)
    at opening.Receiving = tt
    at opening.Deleting = delete_of client r r.ids e
    at opening.Sending = send_of client r (slice_get r.gathered.kept r.sent)
    at opening.Putting = under_client_of client r r.lease (λ l. PutHeld (object.Head r.client) r.out l None) (λ l. e)
    at opening.Clearing = delete_of client r r.ids e
    at opening.Sweeping = tt
    at opening.Releasing = under_client_of client r r.lease Release (λ l. tt)
    at opening.Finished = tt

module _ (p : Paging) where
  abbrev OfPage : Ask → Type 0
  OfPage = OfQueue false p.tree (queue.PagePu p.tree p.page)

  under_page_of : (o : Option Claim) (make : Claim → Ask) → ((l : Claim) → OfPage (make l)) → OfPage (under_page p o make)
  under_page_of (Some l) make is = is l
  under_page_of None make is = tt

  delete_page_of : (o : Option ℕ) → OfPage (delete_page_next p o)
  delete_page_of (Some id) = refl
  delete_page_of None = tt

  paging_of : OfPage (paging_ask p)
  paging_of = at p.stage
    where
      at : (stage : PageStage) → OfPage (paging_ask_at stage p)
      at paging.TakingHome = tt
      at paging.GettingHome = under_page_of p.held.first (λ l. GetHeld (home_name p) l) (λ l. tt)
      at paging.Receiving = tt
      at paging.TakingRight = tt
      at paging.GettingRight = under_page_of p.held.second (λ l. GetHeld (right_name p) l) (λ l. tt)
      at paging.PuttingRight =
          under_page_of p.held.first (λ l. under_page p p.held.second (λ r. PutHeld (right_name p) p.out l (Some r)))
          (λ l. under_page_of p.held.second (λ r. PutHeld (right_name p) p.out l (Some r)) (λ r. refl))
      at paging.ReleasingRight = under_page_of p.held.second Release (λ l. tt)
      at paging.PuttingHome = under_page_of p.held.first (λ l. PutHeld (home_name p) p.out l None) (λ l. refl)
      at paging.Deleting = delete_page_of (next_id p.deletions.ids)
      at paging.Releasing = under_page_of (newest_lease p.held) Release (λ l. tt)
      at paging.Finished = tt

module _ (tree : ℕ) where
  abbrev OfTree : Ask → Type 0
  OfTree = OfQueue true tree (queue.TreePu tree)

  delete_tree_of : (id : Option ℕ) → OfTree (delete_ask tree id)
  delete_tree_of (Some id) = refl
  delete_tree_of None = tt

  release_of : (l : Option Claim) → OfTree (release_ask tree l)
  release_of (Some l) = tt
  release_of None = tt

  placing_of : (p : Placing) (of : ℕ) (l : Claim) (second : Option Claim) (last : Ask) → of ≡ tree → OfTree last
      → OfTree (unwrap_or (put_in_hand p of l second) last)
  placing_of p of l second last e is = on p.reserved p.puts
    where
      on : (reserved : Option (List ℕ)) (puts : List PagePut) → OfTree (unwrap_or (put_first of l (put_next of l second puts) reserved) last)
      on (Some bytes) puts = (refl, e)
      on None (x ∷ puts) = e
      on None [] = is

  last_of : (r : Up) (l : Claim) (bytes : Option (List ℕ)) → r.chart.tree ≡ tree → OfTree (last_ask r l bytes)
  last_of r l (Some bytes) e = (refl, e)
  last_of r l None e = tt

  work_of : (st : Store) (now : ℕ) (w : TreeWork) → KnowsWork st now tree w → OfTree (work_ask tree w)
  work_of st now TakingTree k = tt
  work_of st now (GettingTree l) k = tt
  work_of st now (Receiving l object) k = tt
  work_of st now (Descending h d) k = tt
  work_of st now (TakingPage h c) k = tt
  work_of st now (Folding h f) k = placing_of f.placing f.chart.tree h.lease (Some f.lease) (GetHeld (object.Page f.chart.tree f.page) f.lease) k.0.tree_is tt
  work_of st now (ReleasingPage h l o) k = tt
  work_of st now (LeftPage h o) k = tt
  work_of st now (Rising h r) k = placing_of r.placing r.chart.tree h.lease None (last_ask r h.lease r.last) k.0.tree_is (last_of r h.lease r.last k.0.tree_is)
  work_of st now (Deleting h applied) k = delete_tree_of (next_id h.deletions.ids)
  work_of st now (Releasing held end) k = release_of (newest_lease held)
  work_of st now Finished k = tt

-- ---- states

-- what is in a cloud: its objects and its messages
pub record Stock : Type 0 where
  pub objects : ObjName → List Version
  pub messages : QueueName → List Posted

abbrev pub stock : (ObjName → List Version) → (QueueName → List Posted) → Stock
stock objects messages = record { objects = objects; messages = messages }

abbrev pub stock_of : CloudState → Stock
stock_of s = stock s.versions s.messages

-- what a client's recovery leaves: the other heads, the other ATOMIC queues, and every mark in pending update queues, where each message that
-- is sent is unmarked
pub record ClientKeeps (client : ℕ) (old new : Stock) : Type 0 where
  pub heads : (k : ℕ) → (client ≡ k → ⊥) → new.objects (object.Head k) ≡ old.objects (object.Head k)
  pub logs : (k : ℕ) → (client ≡ k → ⊥) → new.messages (queue.Atomic k) ≡ old.messages (queue.Atomic k)
  pub sends : (x : QueueName) → IsPending x
      → length (unmarked (new.messages x)) + length (old.messages x) ≡ length (unmarked (old.messages x)) + length (new.messages x)
  pub longer : (x : QueueName) → length (old.messages x) ≤ length (new.messages x)

-- what a checkpoint of a queue leaves: all heads, the objects of other trees, all other queues, and the length of its own
pub record QueueKeeps (own : Bool) (tree : ℕ) (own_queue : QueueName) (old new : Stock) : Type 0 where
  pub heads : (k : ℕ) → new.objects (object.Head k) ≡ old.objects (object.Head k)
  pub roots : (k : ℕ) → (own ≡ true → tree ≡ k → ⊥) → new.objects (object.Tree k) ≡ old.objects (object.Tree k)
  pub pages : (k page : ℕ) → (tree ≡ k → ⊥) → new.objects (object.Page k page) ≡ old.objects (object.Page k page)
  pub queues : (x : QueueName) → (own_queue ≡ x → ⊥) → new.messages x ≡ old.messages x
  pub counts : (x : QueueName) → length (new.messages x) ≡ length (old.messages x)

-- a name keeps what another one is given
object_keeps : (f : ObjName → List Version) (k : ObjName) (v : List Version) (x : ObjName) → (k ≡ x → ⊥) → put_at object_cmp f k v x ≡ f x
object_keeps f k v x other = put_at_by (λ (y : ObjName) (w : List Version). y ≡ x → w ≡ f x) object_cmp object_cmp-equal f k v (λ e. absurd (other e)) (λ y e. ap f e) x refl

queue_keeps : (f : QueueName → List Posted) (k : QueueName) (v : List Posted) (x : QueueName) → (k ≡ x → ⊥) → put_at queue_cmp f k v x ≡ f x
queue_keeps f k v x other = put_at_by (λ (y : QueueName) (w : List Posted). y ≡ x → w ≡ f x) queue_cmp queue_cmp-equal f k v (λ e. absurd (other e)) (λ y e. ap f e) x refl

sent_from : (n : ℕ) (ms : List Posted) (m : Posted) → m.deleted ≡ false → length (unmarked_from n (ms ++ m ∷ [])) ≡ length (unmarked_from n ms) + 1
sent_from n [] m e = rw e refl
sent_from n (x ∷ ms) m e = on x.deleted (sent_from (n + 1) ms m e)
  where
    on : (b : Bool) → length (unmarked_from (n + 1) (ms ++ m ∷ [])) ≡ length (unmarked_from (n + 1) ms) + 1
        → length (cond b (unmarked_from (n + 1) (ms ++ m ∷ [])) (record { id = n; bytes = x.bytes } ∷ unmarked_from (n + 1) (ms ++ m ∷ [])))
        ≡ length (cond b (unmarked_from (n + 1) ms) (record { id = n; bytes = x.bytes } ∷ unmarked_from (n + 1) ms)) + 1
    on true h = h
    on false h = omega (arith, h)

mark_at_length : (ms : List Posted) (i : ℕ) → length (mark_at ms i) ≡ length ms
mark_at_length [] i = refl
mark_at_length (m ∷ ms) zero = refl
mark_at_length (m ∷ ms) (suc i) = ap suc (mark_at_length ms i)

marked_length : (ms : List Posted) (id : ℕ) → length (marked ms id) ≡ length ms
marked_length ms id = on (id == 0)
  where
    on : (b : Bool) → length (cond b ms (mark_at ms (id - 1))) ≡ length ms
    on true = refl
    on false = mark_at_length ms (id - 1)

module _ (f : ObjName → List Version) (p : QueueName → List Posted) where
  client_same : (client : ℕ) → ClientKeeps client (stock f p) (stock f p)
  client_same client = record { heads = λ k other. refl; logs = λ k other. refl; sends = λ x is. refl; longer = λ x. omega arith }

  client_puts : (client : ℕ) (bytes : List Version) → ClientKeeps client (stock f p) (stock (put_at object_cmp f (object.Head client) bytes) p)
  client_puts client bytes = record {
    heads = λ k other. object_keeps f (object.Head client) bytes (object.Head k) (λ e. other (cc (e)));
    logs = λ k other. refl;
    sends = λ x is. refl;
    longer = λ x. omega arith;
  }

  client_sends : (client : ℕ) (to : QueueName) (m : Posted) → m.deleted ≡ false → IsPending to → ClientKeeps client (stock f p) (stock f (put_at queue_cmp p to (p to ++ m ∷ [])))
  client_sends client to m new is = record {
    heads = λ k other. refl;
    logs = λ k other. queue_keeps p to (p to ++ m ∷ []) (queue.Atomic k) (λ e. subst IsPending e is);
    sends = λ x pending.
        put_at_by (λ (y : QueueName) (w : List Posted). length (unmarked w) + length (p y) ≡ length (unmarked (p y)) + length w) queue_cmp queue_cmp-equal p to (p to ++ m ∷ [])
        (let one : length (unmarked (p to ++ m ∷ [])) ≡ length (unmarked (p to)) + 1 = sent_from 1 (p to) m new in
        let two : length (p to ++ m ∷ []) ≡ length (p to) + 1 = length-append (p to) (m ∷ []) in
        omega (arith, one, two))
        (λ y. refl) x;
    longer = λ x.
        put_at_by (λ (y : QueueName) (w : List Posted). length (p y) ≤ length w) queue_cmp queue_cmp-equal p to (p to ++ m ∷ [])
        (let two : length (p to ++ m ∷ []) ≡ length (p to) + 1 = length-append (p to) (m ∷ []) in omega (arith, two))
        (λ y. omega arith) x;
  }

  client_marks : (client id : ℕ) → ClientKeeps client (stock f p) (stock f (put_at queue_cmp p (queue.Atomic client) (marked (p (queue.Atomic client)) id)))
  client_marks client id = record {
    heads = λ k other. refl;
    logs = λ k other. queue_keeps p (queue.Atomic client) _ (queue.Atomic k) (λ e. other (cc (e)));
    sends = λ x pending.
        let same : put_at queue_cmp p (queue.Atomic client) (marked (p (queue.Atomic client)) id) x ≡ p x =
        queue_keeps p (queue.Atomic client) _ x (λ e. subst IsPending (sym e) pending) in
        ap (λ (l : List Posted). length (unmarked l) + length (p x)) same ∙ ap (λ (l : List Posted). length (unmarked (p x)) + length l) (sym same);
    longer = λ x.
        put_at_by (λ (y : QueueName) (w : List Posted). length (p y) ≤ length w) queue_cmp queue_cmp-equal p (queue.Atomic client) (marked (p (queue.Atomic client)) id)
        (let same : length (marked (p (queue.Atomic client)) id) ≡ length (p (queue.Atomic client)) = marked_length (p (queue.Atomic client)) id in omega (arith, same))
        (λ y. omega arith) x;
  }

  queue_same : (own : Bool) (tree : ℕ) (own_queue : QueueName) → QueueKeeps own tree own_queue (stock f p) (stock f p)
  queue_same own tree own_queue = record { heads = λ k. refl; roots = λ k other. refl; pages = λ k page other. refl; queues = λ x other. refl; counts = λ x. refl }

  queue_puts_root : (own : Bool) (tree : ℕ) (own_queue : QueueName) (v : List Version) → own ≡ true
      → QueueKeeps own tree own_queue (stock f p) (stock (put_at object_cmp f (object.Tree tree) v) p)
  queue_puts_root own tree own_queue v is = record {
    heads = λ k. object_keeps f (object.Tree tree) v (object.Head k) (λ e. cc (e));
    roots = λ k other. object_keeps f (object.Tree tree) v (object.Tree k) (λ e. other is (cc (e)));
    pages = λ k page other. object_keeps f (object.Tree tree) v (object.Page k page) (λ e. cc (e));
    queues = λ x other. refl;
    counts = λ x. refl;
  }

  queue_puts_page : (own : Bool) (tree page : ℕ) (own_queue : QueueName) (v : List Version)
      → QueueKeeps own tree own_queue (stock f p) (stock (put_at object_cmp f (object.Page tree page) v) p)
  queue_puts_page own tree page own_queue v = record {
    heads = λ k. object_keeps f (object.Page tree page) v (object.Head k) (λ e. cc (e));
    roots = λ k other. object_keeps f (object.Page tree page) v (object.Tree k) (λ e. cc (e));
    pages = λ k q other. object_keeps f (object.Page tree page) v (object.Page k q) (λ e. other (cc (e)));
    queues = λ x other. refl;
    counts = λ x. refl;
  }

  queue_marks : (own : Bool) (tree : ℕ) (own_queue : QueueName) (id : ℕ)
      → QueueKeeps own tree own_queue (stock f p) (stock f (put_at queue_cmp p own_queue (marked (p own_queue) id)))
  queue_marks own tree own_queue id = record {
    heads = λ k. refl;
    roots = λ k other. refl;
    pages = λ k page other. refl;
    queues = λ x other. queue_keeps p own_queue _ x other;
    counts = λ x. put_at_by (λ (y : QueueName) (w : List Posted). length w ≡ length (p y)) queue_cmp queue_cmp-equal p own_queue (marked (p own_queue) id)
        (marked_length (p own_queue) id) (λ y. refl) x;
  }

abbrev ClientStates : ℕ → CloudState → CloudState → Type 0
ClientStates client s t = ClientKeeps client (stock_of s) (stock_of t)

abbrev QueueStates : Bool → ℕ → QueueName → CloudState → CloudState → Type 0
QueueStates own tree own_queue s t = QueueKeeps own tree own_queue (stock_of s) (stock_of t)

-- ---- effects

client_effect : (client : ℕ) (who : Caller) (ask : Ask) (s : CloudState) → OfClient client ask → ClientStates client s (effect who ask s)
client_effect client who (Get name) s is = client_same s.versions s.messages client
client_effect client who (GetHeld name l) s is = client_same s.versions s.messages client
client_effect client who (ListHeld tree l) s is = client_same s.versions s.messages client
client_effect client who (RemoveHeld name l) s is = absurd is
client_effect client who (PutHeld (object.Head c) bytes one two) s is =
    subst (λ (k : ℕ). ClientStates k s (effect who (PutHeld (object.Head c) bytes one two) s)) is (client_puts s.versions s.messages c _)
client_effect client who (PutHeld (object.Tree tree) bytes one two) s is = absurd is
client_effect client who (PutHeld (object.Page tree page) bytes one two) s is = absurd is
client_effect client who (Send q bytes) s is = client_sends s.versions s.messages client q (record { who = who; bytes = bytes; deleted = false }) refl is
client_effect client who (Receive q most) s is = client_same s.versions s.messages client
client_effect client who (Delete q id) s is =
    subst (λ (x : QueueName). ClientStates client s (effect who (Delete x id) s)) (sym is) (client_marks s.versions s.messages client id)
client_effect client who (Take l ticks) s is = client_same s.versions s.messages client
client_effect client who (Renew l ticks) s is =
    moved_by (ClientStates client s) l (end_after s.now ticks) s (client_same s.versions s.messages client) (client_same s.versions s.messages client)
client_effect client who (Release l) s is =
    released_by (ClientStates client s) l s (client_same s.versions s.messages client) (client_same s.versions s.messages client)

queue_effect : (own : Bool) (tree : ℕ) (own_queue : QueueName) (who : Caller) (ask : Ask) (s : CloudState) → OfQueue own tree own_queue ask
    → QueueStates own tree own_queue s (effect who ask s)
queue_effect own tree own_queue who (Get name) s is = queue_same s.versions s.messages own tree own_queue
queue_effect own tree own_queue who (GetHeld name l) s is = queue_same s.versions s.messages own tree own_queue
queue_effect own tree own_queue who (ListHeld of l) s is = queue_same s.versions s.messages own tree own_queue
queue_effect own tree own_queue who (RemoveHeld name l) s is = absurd is
queue_effect own tree own_queue who (PutHeld (object.Head c) bytes one two) s is = absurd is
queue_effect own tree own_queue who (PutHeld (object.Tree t) bytes one two) s is =
    subst (λ (k : ℕ). QueueStates own k own_queue s (effect who (PutHeld (object.Tree t) bytes one two) s)) is.1 (queue_puts_root s.versions s.messages own t own_queue _ is.0)
queue_effect own tree own_queue who (PutHeld (object.Page t page) bytes one two) s is =
    subst (λ (k : ℕ). QueueStates own k own_queue s (effect who (PutHeld (object.Page t page) bytes one two) s)) is (queue_puts_page s.versions s.messages own t page own_queue _)
queue_effect own tree own_queue who (Send q bytes) s is = absurd is
queue_effect own tree own_queue who (Receive q most) s is = queue_same s.versions s.messages own tree own_queue
queue_effect own tree own_queue who (Delete q id) s is =
    subst (λ (x : QueueName). QueueStates own tree own_queue s (effect who (Delete x id) s)) (sym is) (queue_marks s.versions s.messages own tree own_queue id)
queue_effect own tree own_queue who (Take l ticks) s is = queue_same s.versions s.messages own tree own_queue
queue_effect own tree own_queue who (Renew l ticks) s is =
    moved_by (QueueStates own tree own_queue s) l (end_after s.now ticks) s (queue_same s.versions s.messages own tree own_queue) (queue_same s.versions s.messages own tree own_queue)
queue_effect own tree own_queue who (Release l) s is =
    released_by (QueueStates own tree own_queue s) l s (queue_same s.versions s.messages own tree own_queue) (queue_same s.versions s.messages own tree own_queue)

-- ---- a call, and a story

-- what a part leaves, by its place
abbrev pub PartKeeps : Part → CloudState → CloudState → Type 0
PartKeeps (Client client m) s t = ClientKeeps client (stock_of s) (stock_of t)
PartKeeps (Tree tree m) s t = QueueKeeps true tree (queue.TreePu tree) (stock_of s) (stock_of t)
PartKeeps (Page tree page m) s t = QueueKeeps false tree (queue.PagePu tree page) (stock_of s) (stock_of t)

abbrev OfPart : Part → Ask → Type 0
OfPart (Client client m) ask = OfClient client ask
OfPart (Tree tree m) ask = OfQueue true tree (queue.TreePu tree) ask
OfPart (Page tree page m) ask = OfQueue false tree (queue.PagePu tree page) ask

part_of : (st : Store) (now : ℕ) (w : Part) (place : Place) → KnowsAtWork st now w place → OfPart w (part_ask w)
part_of st now (Client client m) place k = recovery_of client m k.client_is
part_of st now (Tree tree m) place k =
    subst (λ (t : ℕ). OfQueue true t (queue.TreePu t) (work_ask m.tree m.work)) k.tree_is (work_of m.tree st now m.work k.knows.work)
part_of st now (Page tree page m) place k =
    subst (λ (t : ℕ). OfQueue false t (queue.PagePu t page) (paging_ask m)) k.tree_is
    (subst (λ (n : ℕ). OfQueue false m.tree (queue.PagePu m.tree n) (paging_ask m)) k.page_is (paging_of m))

part_effect : (w : Part) (who : Caller) (ask : Ask) (s : CloudState) → OfPart w ask → PartKeeps w s (effect who ask s)
part_effect (Client client m) who ask s is = client_effect client who ask s is
part_effect (Tree tree m) who ask s is = queue_effect true tree (queue.TreePu tree) who ask s is
part_effect (Page tree page m) who ask s is = queue_effect false tree (queue.PagePu tree page) who ask s is

part_same : (w : Part) (s : CloudState) → PartKeeps w s s
part_same (Client client m) s = client_same s.versions s.messages client
part_same (Tree tree m) s = queue_same s.versions s.messages true tree (queue.TreePu tree)
part_same (Page tree page m) s = queue_same s.versions s.messages false tree (queue.PagePu tree page)

-- the clock, the wish and the newest call are not of it
from_called : (w : Part) (who : Caller) (now : ℕ) (s t : CloudState) → PartKeeps w (called who now s) t → PartKeeps w s t
from_called (Client client m) who now s t k = k
from_called (Tree tree m) who now s t k = k
from_called (Page tree page m) who now s t k = k

pub call_keeps : (w : Part) (who : Caller) (ask : Ask) (answer : Answer) (s t : CloudState) → OfPart w ask → IsCall who ask answer s t → PartKeeps w s t
call_keeps w who ask answer s t is call =
    from_called w who t.now s t
    (row_by (PartKeeps w (called who t.now s)) who ask answer call.before call.after (called who t.now s) t call.row (part_same w (called who t.now s))
    (λ permits. part_effect w who ask (called who t.now s) is))

pub turn_keeps : (d : Deed) (w : Part) (from to : Moment) → IsTurn d w from to → PartKeeps w from.state to.state
turn_keeps d w from to turn =
    call_keeps w d.who (part_ask w) d.answer from.state to.state
    (part_of _ from.state.now w (from.stand.parts 0) (turn_known d w from to turn)) (turn_asks d w from to turn)

client_then : (client : ℕ) (f g h : ObjName → List Version) (p q r : QueueName → List Posted) → ClientKeeps client (stock f p) (stock g q) → ClientKeeps client (stock g q) (stock h r) → ClientKeeps client (stock f p) (stock h r)
client_then client f g h p q r a b = record {
  heads = λ k other. b.heads k other ∙ a.heads k other;
  logs = λ k other. b.logs k other ∙ a.logs k other;
  sends = λ x is. let one = a.sends x is in let two = b.sends x is in omega (arith, one, two);
  longer = λ x. let one = a.longer x in let two = b.longer x in omega (arith, one, two);
}

queue_then : (own : Bool) (tree : ℕ) (own_queue : QueueName) (f g h : ObjName → List Version) (p q r : QueueName → List Posted) → QueueKeeps own tree own_queue (stock f p) (stock g q)
    → QueueKeeps own tree own_queue (stock g q) (stock h r) → QueueKeeps own tree own_queue (stock f p) (stock h r)
queue_then own tree own_queue f g h p q r a b = record {
  heads = λ k. b.heads k ∙ a.heads k;
  roots = λ k other. b.roots k other ∙ a.roots k other;
  pages = λ k page other. b.pages k page other ∙ a.pages k page other;
  queues = λ x other. b.queues x other ∙ a.queues x other;
  counts = λ x. b.counts x ∙ a.counts x;
}

part_then : (w : Part) (s t u : CloudState) → PartKeeps w s t → PartKeeps w t u → PartKeeps w s u
part_then (Client client m) s t u a b = client_then client s.versions t.versions u.versions s.messages t.messages u.messages a b
part_then (Tree tree m) s t u a b = queue_then true tree (queue.TreePu tree) s.versions t.versions u.versions s.messages t.messages u.messages a b
part_then (Page tree page m) s t u a b = queue_then false tree (queue.PagePu tree page) s.versions t.versions u.versions s.messages t.messages u.messages a b

-- a part of the same place leaves the same
again_keeps : (w : Part) (s t : CloudState) → PartKeeps w s t → PartKeeps (part_again w) s t
again_keeps (Client client m) s t k = k
again_keeps (Tree tree m) s t k = k
again_keeps (Page tree page m) s t k = k

keeps_again : (w : Part) (s t : CloudState) → PartKeeps (part_again w) s t → PartKeeps w s t
keeps_again (Client client m) s t k = k
keeps_again (Tree tree m) s t k = k
keeps_again (Page tree page m) s t k = k

placed_keeps : (v w : Part) (s t : CloudState) → part_again w ≡ part_again v → PartKeeps v s t → PartKeeps w s t
placed_keeps v w s t e k = keeps_again w s t (subst (λ (x : Part). PartKeeps x s t) (sym e) (again_keeps v s t k))

pub story_keeps : (first : Moment) (h : List Deed) (w : Part) (now : Moment) → PartStory first h w now → PartKeeps w first.state now.state
story_keeps first [] w now story = subst (λ (m : Moment). PartKeeps w first.state m.state) (sym story.1) (part_same w first.state)
story_keeps first (d ∷ h) w now (from, (before, (story, turn, leads))) =
    placed_keeps from w first.state now.state (part_stays from d.answer (Goes w) leads)
    (part_then from first.state before.state now.state (story_keeps first h from before story) (turn_keeps d from before now turn))

pub ran_keeps : (w : Part) (h : List Deed) (first last : Moment) → PartRan w h first last → PartKeeps w first.state last.state
ran_keeps w h first last r =
    placed_keeps r.from w first.state last.state (part_stays r.from r.end.answer (Ends w 0) r.ends)
    (part_then r.from first.state r.before.state last.state (story_keeps first r.earlier r.from r.before r.story) (turn_keeps r.end r.from r.before last r.turn))
