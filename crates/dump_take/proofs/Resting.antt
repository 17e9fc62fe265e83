-- Heads and trees that rest, one further, and the first that does not.
use Rattle.std.proofs.Common.{◌≡◌, ◌<◌, ◌≤◌, ◌+◌, ℕ, List, [], ◌∷◌, length, Option, Ok, Err, refl, sym, ap, subst, ◌∙◌, inl, inr, arith}
use Rattle.std.specs.Prelude.{◌⊎◌, true, false}
use Rattle.std.proofs.lemmas.Bool.{cases_lt}
use Rattle.db_base.specs.Ids.{IsClient, IsTree}
use Rattle.db_base.specs.declared.names.ObjName.TheVariants as object
use Rattle.db_base.specs.declared.names.QueueName.{QueueName}
use Rattle.db_base.specs.declared.trouble.Trouble.{Trouble}
use Rattle.db_base.specs.declared.trouble.Trouble.TheVariants.{Failed, Memory}
use Rattle.cloud_trait.specs.Delivery.{unmarked}
use Rattle.cloud_trait.specs.Seen.{Seen}
use Rattle.cloud_trait.specs.State.{CloudState, newest}
use Rattle.world_audit.specs.Counts.{queue_at, IsNextPage}
use Rattle.reply_text.specs.Name.{queue_word}
use Rattle.world_audit.specs.Stop.{SlipOr, SpellsNoHead, SpellsNoRoot, RootStops}
use Rattle.dump_take.specs.Taken.{HeadIsDamaged, RootIsDamaged}
use Rattle.dump_take.specs.declared.stop.DumpStop.{DumpStop}
use Rattle.dump_take.specs.declared.stop.DumpStop.TheVariants as stop
use Rattle.dump_take.specs.Quiet.{HeadRests, HeadsRest, IsOpen, IsDrained, TreeRests, TreesRest}
use Rattle.dump_take.specs.Sight.{Sees, no_object, no_queue, one_object, one_queue, heads_to, root_of, roots_to, queues_below, queues_of, queues_to}
use Rattle.dump_take.specs.Parts.{Names, StopsAtHead, HeadsFound, QueueFound, TreeFound, TreesFound}
use Rattle.dump_take.proofs.Sights.{sees_always, sees_so, sees_wider, sees_both}
use Rattle.dump_take.proofs.Sets.{no_queues, objects_last, heads_more, heads_within, root_is, queues_more, queues_all, roots_more, roots_within, trees_more, trees_within}

abbrev pub Bytes : Type 0
Bytes = Option (List ℕ)

-- ---- heads

-- heads up to a client rest
abbrev pub HeadsSeen : Seen → ℕ → Type 0
HeadsSeen before n = Sees before (heads_to n) no_queue (λ s. HeadsRest s (n + 1))

pub heads_none : (before : Seen) → HeadsSeen before 0
heads_none before = sees_always before (heads_to 0) no_queue (λ s. HeadsRest s 1) (λ s client is less. absurd (omega (arith, is.some)))

pub heads_all : (s : CloudState) → HeadsRest s 65 → (client : ℕ) → IsClient client → HeadRests (newest s (object.Head client))
heads_all s below client is = below client is (omega (arith, is.most))

pub heads_end : (before : Seen) → HeadsSeen before 64 → Sees before (heads_to 64) no_queue (HeadsFound (Ok tt))
heads_end before h = sees_so before (heads_to 64) no_queue (λ s. HeadsRest s 65) (HeadsFound (Ok tt)) (λ s rest. heads_all s rest) h

module _ (before : Seen) (n client : ℕ) (bytes : Bytes) (is : client ≡ n + 1) (less : n < 64) (here : HeadsSeen before n)
    (look : Sees before (one_object (object.Head client)) no_queue (λ s. bytes ≡ newest s (object.Head client))) where
  head_seen : Sees before (heads_to (n + 1)) no_queue (λ s. HeadsRest s (n + 1) × (bytes ≡ newest s (object.Head client)))
  head_seen = sees_both before (heads_to n) (one_object (object.Head client)) (heads_to (n + 1)) no_queue no_queue no_queue
      (λ s. HeadsRest s (n + 1)) (λ s. bytes ≡ newest s (object.Head client)) (heads_more n client is) no_queues here look

  rest_more : HeadRests bytes → (s : CloudState) → HeadsRest s (n + 1) × (bytes ≡ newest s (object.Head client)) → HeadsRest s (n + 1 + 1)
  rest_more rests s h c valid below = on (cases_lt c (n + 1))
    where
      on : (c < n + 1) ⊎ (n + 1 ≤ c) → HeadRests (newest s (object.Head c))
      on (inl earlier) = h.0 c valid earlier
      on (inr at) = let same : client ≡ c = omega arith in
          subst (λ (k : ℕ). HeadRests (newest s (object.Head k))) same (subst HeadRests h.1 rests)

  pub heads_on : HeadRests bytes → HeadsSeen before (n + 1)
  heads_on rests = sees_so before (heads_to (n + 1)) no_queue (λ s. HeadsRest s (n + 1) × (bytes ≡ newest s (object.Head client))) (λ s. HeadsRest s (n + 1 + 1)) (rest_more rests) head_seen

  head_stops : (e : DumpStop) → StopsAtHead bytes client e → (s : CloudState) → HeadsRest s (n + 1) × (bytes ≡ newest s (object.Head client)) → HeadsFound (Err e) s
  head_stops (stop.NotQuiet name) why s h = record {
    client = client;
    is_client = record { some = omega arith; most = omega arith };
    is_open = subst IsOpen h.1 why.0;
    earlier = subst (HeadsRest s) (sym is) h.0;
    named = why.1;
  }
  head_stops (stop.Trouble trouble) (inl memory) s h = inr (inl memory)
  head_stops (stop.Trouble trouble) (inr none) s h = inr (inr (record {
    client = client;
    is_client = record { some = omega arith; most = omega arith };
    is_none = subst (λ (b : Bytes). SpellsNoHead b client trouble) h.1 none;
    earlier = subst (HeadsRest s) (sym is) h.0;
  }))

  pub heads_stop : (e : DumpStop) → StopsAtHead bytes client e → Sees before (heads_to 64) no_queue (HeadsFound (Err e))
  heads_stop e why = sees_wider before (heads_to (n + 1)) (heads_to 64) no_queue no_queue (HeadsFound (Err e)) (heads_within (n + 1) 64 (omega arith)) (λ q h. h)
      (sees_so before (heads_to (n + 1)) no_queue (λ s. HeadsRest s (n + 1) × (bytes ≡ newest s (object.Head client))) (HeadsFound (Err e)) (head_stops e why) head_seen)

pub heads_slip : (before : Seen) (trouble : Trouble) → (trouble ≡ Failed) ⊎ (trouble ≡ Memory) → Sees before (heads_to 64) no_queue (HeadsFound (Err (stop.Trouble trouble)))
heads_slip before trouble slip = sees_always before (heads_to 64) no_queue (HeadsFound (Err (stop.Trouble trouble))) (λ s. on s slip)
  where
    on : (s : CloudState) → (trouble ≡ Failed) ⊎ (trouble ≡ Memory) → SlipOr (HeadIsDamaged s trouble) trouble
    on s (inl failed) = inl failed
    on s (inr memory) = inr (inl memory)

-- ---- a queue

none_of : {A : Type 0} (xs : List A) → 0 ≡ length xs → xs ≡ []
none_of [] e = refl
none_of (x ∷ xs) e = absurd (omega (arith, e))

module _ (before : Seen) (queue : QueueName) (n : ℕ) where
  abbrev Counts : CloudState → Type 0
  Counts s = n ≡ length (unmarked (s.messages queue))

  pub queue_rests : n ≡ 0 → Sees before no_object (one_queue queue) Counts → Sees before no_object (one_queue queue) (λ s. IsDrained s queue)
  queue_rests none h = sees_so before no_object (one_queue queue) Counts (λ s. IsDrained s queue) (λ s e. none_of (unmarked (s.messages queue)) (sym none ∙ e)) h

  waits : (e : DumpStop) → (n ≡ 0 → ⊥) → Names (queue_word queue) e → (s : CloudState) → Counts s → QueueFound queue (Err e) s
  waits (stop.NotQuiet name) some named s is = (λ none. some (is ∙ ap length none), named)
  waits (stop.Trouble trouble) some named s is = inr named

  pub queue_waits : (e : DumpStop) → (n ≡ 0 → ⊥) → Names (queue_word queue) e → Sees before no_object (one_queue queue) Counts → Sees before no_object (one_queue queue) (QueueFound queue (Err e))
  queue_waits e some named h = sees_so before no_object (one_queue queue) Counts (QueueFound queue (Err e)) (waits e some named) h

pub queue_slip : (before : Seen) (queue : QueueName) (trouble : Trouble) → (trouble ≡ Failed) ⊎ (trouble ≡ Memory)
    → Sees before no_object (one_queue queue) (QueueFound queue (Err (stop.Trouble trouble)))
queue_slip before queue trouble slip = sees_always before no_object (one_queue queue) (QueueFound queue (Err (stop.Trouble trouble))) (λ s. slip)

-- ---- a tree

-- the root is this, and the queues of the pages below a number are drained
pub record Drains (s : CloudState) (tree : ℕ) (bytes : Bytes) (n : ℕ) : Type 0 where
  pub root : bytes ≡ newest s (object.Tree tree)
  pub drained : (page : ℕ) → page < n → IsDrained s (queue_at tree page)

abbrev pub TreeSeen : Seen → ℕ → Bytes → ℕ → Type 0
TreeSeen before tree bytes n = Sees before (root_of tree) (queues_below tree n) (λ s. Drains s tree bytes n)

module _ (before : Seen) (tree : ℕ) where
  pub tree_slip : (trouble : Trouble) → (trouble ≡ Failed) ⊎ (trouble ≡ Memory) → Sees before (root_of tree) (queues_of tree) (TreeFound tree (Err (stop.Trouble trouble)))
  tree_slip trouble slip = sees_always before (root_of tree) (queues_of tree) (TreeFound tree (Err (stop.Trouble trouble))) (λ s. on s slip)
    where
      on : (s : CloudState) → (trouble ≡ Failed) ⊎ (trouble ≡ Memory) → SlipOr (RootStops s tree trouble) trouble
      on s (inl failed) = inl failed
      on s (inr memory) = inr (inl memory)

  module _ (bytes : Bytes) where
    pub root_seen : Sees before (one_object (object.Tree tree)) no_queue (λ s. bytes ≡ newest s (object.Tree tree)) → TreeSeen before tree bytes 0
    root_seen look = sees_so before (root_of tree) (queues_below tree 0) (λ s. bytes ≡ newest s (object.Tree tree)) (λ s. Drains s tree bytes 0)
        (λ s e. record { root = e; drained = λ page less. absurd (omega (arith, less)) })
        (sees_wider before (one_object (object.Tree tree)) (root_of tree) no_queue (queues_below tree 0) (λ s. bytes ≡ newest s (object.Tree tree))
        (root_is tree) (λ k h. absurd (let e : false ≡ true = h in cc)) look)

    pub root_stops : (trouble : Trouble) → SpellsNoRoot bytes tree trouble → TreeSeen before tree bytes 0 → Sees before (root_of tree) (queues_of tree) (TreeFound tree (Err (stop.Trouble trouble)))
    root_stops trouble none here = sees_wider before (root_of tree) (root_of tree) (queues_below tree 0) (queues_of tree) (TreeFound tree (Err (stop.Trouble trouble))) (λ k h. h) (queues_all tree 0)
        (sees_so before (root_of tree) (queues_below tree 0) (λ s. Drains s tree bytes 0) (TreeFound tree (Err (stop.Trouble trouble)))
        (λ s d. inr (inr (subst (λ (b : Bytes). SpellsNoRoot b tree trouble) d.root none))) here)

    pub tree_rests : (next : ℕ) → IsNextPage bytes next → TreeSeen before tree bytes next → Sees before (root_of tree) (queues_of tree) (λ s. TreeRests s tree)
    tree_rests next is here = sees_wider before (root_of tree) (root_of tree) (queues_below tree next) (queues_of tree) (λ s. TreeRests s tree) (λ k h. h) (queues_all tree next)
        (sees_so before (root_of tree) (queues_below tree next) (λ s. Drains s tree bytes next) (λ s. TreeRests s tree)
        (λ s d. record { next = next; is_next = subst (λ (b : Bytes). IsNextPage b next) d.root is; drained = d.drained }) here)

    module _ (page : ℕ) (here : TreeSeen before tree bytes page) where
      queue_seen : (Holds : CloudState → Type 0) → Sees before no_object (one_queue (queue_at tree page)) Holds
          → Sees before (root_of tree) (queues_below tree (page + 1)) (λ s. Drains s tree bytes page × Holds s)
      queue_seen Holds look = sees_both before (root_of tree) no_object (root_of tree) (queues_below tree page) (one_queue (queue_at tree page)) (queues_below tree (page + 1))
          (λ s. Drains s tree bytes page) Holds (objects_last (root_of tree)) (queues_more tree page) here look

      drains_more : (s : CloudState) → Drains s tree bytes page × IsDrained s (queue_at tree page) → Drains s tree bytes (page + 1)
      drains_more s d = record { root = d.0.root; drained = λ p less. on p less (cases_lt p page) }
        where
          on : (p : ℕ) → p < page + 1 → (p < page) ⊎ (page ≤ p) → IsDrained s (queue_at tree p)
          on p less (inl below) = d.0.drained p below
          on p less (inr at) = let same : page ≡ p = omega arith in subst (λ (k : ℕ). IsDrained s (queue_at tree k)) same d.1

      pub queues_on : Sees before no_object (one_queue (queue_at tree page)) (λ s. IsDrained s (queue_at tree page)) → TreeSeen before tree bytes (page + 1)
      queues_on look = sees_so before (root_of tree) (queues_below tree (page + 1)) (λ s. Drains s tree bytes page × IsDrained s (queue_at tree page)) (λ s. Drains s tree bytes (page + 1))
          drains_more (queue_seen (λ s. IsDrained s (queue_at tree page)) look)

      module _ (next : ℕ) (is : IsNextPage bytes next) (less : page < next) where
        queue_first : (e : DumpStop) (s : CloudState) → Drains s tree bytes page × QueueFound (queue_at tree page) (Err e) s → TreeFound tree (Err e) s
        queue_first (stop.NotQuiet name) s d = record {
          next = next;
          is_next = subst (λ (b : Bytes). IsNextPage b next) d.0.root is;
          page = page;
          below = less;
          earlier = d.0.drained;
          waits = d.1.0;
          named = d.1.1;
        }
        queue_first (stop.Trouble trouble) s d = on d.1
          where
            on : (trouble ≡ Failed) ⊎ (trouble ≡ Memory) → SlipOr (RootStops s tree trouble) trouble
            on (inl failed) = inl failed
            on (inr memory) = inr (inl memory)

        pub queues_stop : (e : DumpStop) → Sees before no_object (one_queue (queue_at tree page)) (QueueFound (queue_at tree page) (Err e))
            → Sees before (root_of tree) (queues_of tree) (TreeFound tree (Err e))
        queues_stop e look = sees_wider before (root_of tree) (root_of tree) (queues_below tree (page + 1)) (queues_of tree) (TreeFound tree (Err e)) (λ k h. h) (queues_all tree (page + 1))
            (sees_so before (root_of tree) (queues_below tree (page + 1)) (λ s. Drains s tree bytes page × QueueFound (queue_at tree page) (Err e) s) (TreeFound tree (Err e))
            (queue_first e) (queue_seen (QueueFound (queue_at tree page) (Err e)) look))

-- ---- all trees

abbrev pub TreesSeen : Seen → ℕ → Type 0
TreesSeen before n = Sees before (roots_to n) (queues_to n) (λ s. TreesRest s (n + 1))

pub trees_none : (before : Seen) → TreesSeen before 0
trees_none before = sees_always before (roots_to 0) (queues_to 0) (λ s. TreesRest s 1) (λ s tree is less. absurd (omega (arith, is.some)))

module _ (before : Seen) (n tree : ℕ) (is : tree ≡ n + 1) (less : n < 16) (here : TreesSeen before n) where
  tree_seen : (Holds : CloudState → Type 0) → Sees before (root_of tree) (queues_of tree) Holds → Sees before (roots_to (n + 1)) (queues_to (n + 1)) (λ s. TreesRest s (n + 1) × Holds s)
  tree_seen Holds look = sees_both before (roots_to n) (root_of tree) (roots_to (n + 1)) (queues_to n) (queues_of tree) (queues_to (n + 1))
      (λ s. TreesRest s (n + 1)) Holds (roots_more n tree is) (trees_more n tree is) here look

  tree_more : (s : CloudState) → TreesRest s (n + 1) × TreeRests s tree → TreesRest s (n + 1 + 1)
  tree_more s h t valid below = on (cases_lt t (n + 1))
    where
      on : (t < n + 1) ⊎ (n + 1 ≤ t) → TreeRests s t
      on (inl earlier) = h.0 t valid earlier
      on (inr at) = let same : tree ≡ t = omega arith in subst (TreeRests s) same h.1

  pub trees_on : Sees before (root_of tree) (queues_of tree) (λ s. TreeRests s tree) → TreesSeen before (n + 1)
  trees_on look = sees_so before (roots_to (n + 1)) (queues_to (n + 1)) (λ s. TreesRest s (n + 1) × TreeRests s tree) (λ s. TreesRest s (n + 1 + 1)) tree_more (tree_seen (λ s. TreeRests s tree) look)

  valid_tree : IsTree tree
  valid_tree = record { some = omega arith; most = omega arith }

  tree_first : (e : DumpStop) (s : CloudState) → TreesRest s (n + 1) × TreeFound tree (Err e) s → TreesFound (Err e) s
  tree_first (stop.NotQuiet name) s h = record { tree = tree; is_tree = valid_tree; waits = h.1; earlier = subst (TreesRest s) (sym is) h.0 }
  tree_first (stop.Trouble trouble) s h = on h.1
    where
      on : SlipOr (RootStops s tree trouble) trouble → SlipOr (RootIsDamaged s trouble) trouble
      on (inl failed) = inl failed
      on (inr (inl memory)) = inr (inl memory)
      on (inr (inr none)) = inr (inr (record { tree = tree; is_tree = valid_tree; is_none = none; earlier = subst (TreesRest s) (sym is) h.0 }))

  pub trees_stop : (e : DumpStop) → Sees before (root_of tree) (queues_of tree) (TreeFound tree (Err e)) → Sees before (roots_to 16) (queues_to 16) (TreesFound (Err e))
  trees_stop e look = sees_wider before (roots_to (n + 1)) (roots_to 16) (queues_to (n + 1)) (queues_to 16) (TreesFound (Err e)) (roots_within (n + 1) 16 (omega arith)) (trees_within (n + 1) 16 (omega arith))
      (sees_so before (roots_to (n + 1)) (queues_to (n + 1)) (λ s. TreesRest s (n + 1) × TreeFound tree (Err e) s) (TreesFound (Err e)) (tree_first e) (tree_seen (TreeFound tree (Err e)) look))

pub trees_end : (before : Seen) → TreesSeen before 16 → Sees before (roots_to 16) (queues_to 16) (TreesFound (Ok tt))
trees_end before h = h
