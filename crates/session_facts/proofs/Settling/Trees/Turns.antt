-- A tree checkpoint from call to call: no page was visited twice, no tree object in hand has more pages than the newest one, and few calls were made.
use Rattle.std.proofs.Common.{◌≡◌, ◌+◌, ◌*◌, ◌<◌, ◌≤◌, ◌⊎◌, inl, inr, ℕ, Bool, true, false, List, [], length, Option, Some, None, Result, Ok, Err, refl, sym, ap, subst, ◌∙◌, arith}
use Rattle.cloud_facts.specs.Words.{Trouble, Entry, Answer, CloudState, newest, Caller, Goes, done_of, got_of, received_of, Book, Store, store_of, IsCall, StandsUnder}
use Rattle.cloud_trait.specs.Weather.{Fits}
use Rattle.cloud_trait.specs.declared.message.Message.{Message}
use Rattle.ckpt_parts.specs.Intakes.{ids_of}
use Rattle.db_base.specs.declared.names.ObjName.TheVariants as object
use Rattle.db_base.specs.declared.names.QueueName.TheVariants as queue
use Rattle.session_facts.proofs.Settling.Trees.Calls.{before_step, goes_fewer, one_left}
use Rattle.session_facts.proofs.Settling.Trees.Receives.{intake_fits, received_sent, IsReceiving, received_stays}
use Rattle.session_facts.proofs.Settling.Trees.Room.{held_top, work_fits, work_new}
use Rattle.session_facts.proofs.Settling.Trees.Roots.{NewestBy, root_goes}
use Rattle.session_facts.proofs.Settling.Trees.Steps.{newest_by}
use Rattle.session_facts.proofs.Settling.Trees.Visits.{once_goes}
use Rattle.session_facts.specs.Machines.TreeCheckpoints.Few.{distinct, next_page}
use Rattle.session_facts.specs.Machines.TreeCheckpoints.Knows.{KnowsWork}
use Rattle.session_facts.specs.Machines.TreeCheckpoints.Counting.{calls_left, HasRoot, Once, MadeFew}
use Rattle.tree_ckpt.proofs.Answers.{received_is}
use Rattle.tree_ckpt.specs.Making.{received_after}
use Rattle.tree_ckpt.specs.Moves.{Leads}
use Rattle.tree_ckpt.specs.Work.{work_ask}
use Rattle.tree_ckpt.specs.declared.work.Work.{Work}
use Rattle.tree_ckpt.specs.declared.work.Work.TheVariants as work
use Rattle.tree_phases.specs.declared.placing.Placing.{Placing}
use Rattle.tree_phases.specs.Placing.{has_nothing, root_after, landed_root}
use Rattle.tree_phases.specs.Read.{tree_held}

-- before its first call
pub first_few : (tree : ℕ) (s : CloudState) → MadeFew tree 0 s work.TakingTree []
first_few tree s = record { got = newest s (object.Tree tree); root = tt; next = let same = held_top s tree (newest s (object.Tree tree)) refl in omega (arith, same); once = tt; few = λ p room. omega arith }

-- the calls of others leave it so: the next free page never falls
pub few_beside : (tree calls : ℕ) (s t : CloudState) (w : Work) (received : List ℕ) → next_page s tree ≤ next_page t tree → MadeFew tree calls s w received
    → MadeFew tree calls t w received
few_beside tree calls s t w received grows k = record {
  got = k.got;
  root = k.root;
  next = let was = k.next in omega (arith, was, grows);
  once = k.once;
  few = λ p room. k.few p (omega (arith, room, grows));
}

-- ---- the tree object in hand

-- the tree object that is in hand behind a call, by the one before it, has no more pages than the newest
record HoldsRoot (w : Work) (a : Answer) (got : Option (List ℕ)) (t : CloudState) (tree : ℕ) : Type 0 where
  new : Option (List ℕ)
  by : NewestBy w a got new
  next : (tree_held new).next ≤ next_page t tree

-- where a put was done, it is the one that was put
record LandsAs (p : Placing) (a : Answer) (got : Option (List ℕ)) (t : CloudState) (tree : ℕ) : Type 0 where
  new : Option (List ℕ)
  by : done_of a ≡ Ok tt → new ≡ landed_root p got
  next : (tree_held new).next ≤ next_page t tree

never_done : (t : Trouble) → (let done : Result (Unit {0}) Trouble = Err t in done ≡ Ok tt) → ⊥
never_done t e = cc (e)

not_both : {A : Type 0} → true ≡ false → A
not_both e = absurd (cc (e))

not_either : {A : Type 0} → false ≡ true → A
not_either e = absurd (cc (e))

module _ (who : Caller) (a : Answer) (s t : CloudState) (tree : ℕ) (got : Option (List ℕ)) (within : (tree_held got).next ≤ next_page t tree) where
  lands : (p : Placing) → (done_of a ≡ Ok tt → newest t (object.Tree tree) ≡ landed_root p (newest s (object.Tree tree))) → LandsAs p a got t tree
  lands p landed = on (done_of a) refl
    where
      put : (reserved : Option (List ℕ)) → newest t (object.Tree tree) ≡ root_after reserved (newest s (object.Tree tree))
          → (tree_held (root_after reserved got)).next ≤ next_page t tree
      put (Some bytes) e = let same = held_top t tree (Some bytes) (sym e) in omega (arith, same)
      put None e = within

      on : (done : Result (Unit {0}) Trouble) → done_of a ≡ done → LandsAs p a got t tree
      on (Ok x) e = record { new = landed_root p got; by = λ done. refl; next = put p.reserved (landed e) }
      on (Err k) e = record { new = got; by = λ done. absurd (never_done k (sym e ∙ done)); next = within }

  holds : (st : Store) (w : Work) → KnowsWork st s.now tree w → IsCall who (work_ask tree w) a s t → HoldsRoot w a got t tree
  holds st (work.GettingTree l) k call = on (got_of a) refl
    where
      on : (g : Result (Option (List ℕ)) Trouble) → got_of a ≡ g → HoldsRoot (work.GettingTree l) a got t tree
      on (Ok v) e = record {
        new = v;
        by = λ u f. let same : Ok u ≡ Ok v = sym f ∙ e in cc (same);
        next = let same = held_top t tree v (newest_by who a s t tree st (work.GettingTree l) k call v e) in omega (arith, same);
      }
      on (Err j) e = record { new = got; by = λ u f. absurd (never u (sym e ∙ f)); next = within }
        where
          never : (u : Option (List ℕ)) → Err j ≡ Ok u → ⊥
          never u f = cc (f)
  holds st (work.Folding h f) k call = on (has_nothing f.placing) refl
    where
      on : (b : Bool) → has_nothing f.placing ≡ b → HoldsRoot (work.Folding h f) a got t tree
      on true e = record { new = got; by = ((λ none. refl), λ some. not_both (sym e ∙ some)); next = within }
      on false e =
          let l = lands f.placing ((newest_by who a s t tree st (work.Folding h f) k call).1 e) in
          record { new = l.new; by = ((λ none. not_either (sym e ∙ none)), λ some. l.by); next = l.next }
  holds st (work.Rising h r) k call = on (has_nothing r.placing) refl
    where
      on : (b : Bool) → has_nothing r.placing ≡ b → HoldsRoot (work.Rising h r) a got t tree
      on true e = record { new = got; by = λ some. not_both (sym e ∙ some); next = within }
      on false e =
          let l = lands r.placing (newest_by who a s t tree st (work.Rising h r) k call e) in
          record { new = l.new; by = λ some. l.by; next = l.next }
  holds st work.TakingTree k call = record { new = got; by = refl; next = within }
  holds st (work.Receiving l root) k call = record { new = got; by = refl; next = within }
  holds st (work.Descending h d) k call = record { new = got; by = refl; next = within }
  holds st (work.TakingPage h c) k call = record { new = got; by = refl; next = within }
  holds st (work.ReleasingPage h l o) k call = record { new = got; by = refl; next = within }
  holds st (work.LeftPage h o) k call = absurd k
  holds st (work.Deleting h applied) k call = record { new = got; by = refl; next = within }
  holds st (work.Releasing held end) k call = record { new = got; by = refl; next = within }
  holds st work.Finished k call = absurd k

-- ---- a receive

-- a receive is at hand, or nothing is counted anew
receives_or_not : (w : Work) → IsReceiving w ⊎ ((p d : ℕ) → before_step p w d ≡ calls_left p w)
receives_or_not (work.Receiving l root) = inl tt
receives_or_not w = inr (λ p d. refl)

receive_counts : (w : Work) (p d : ℕ) → IsReceiving w → before_step p w d ≡ 14 + d * (8 * p + 16)
receive_counts (work.Receiving l root) p d is = refl
receive_counts w p d is = absurd is

-- ---- a call

module _ (tree calls : ℕ) (s t : CloudState) (who : Caller) (a : Answer) (w : Work) (before : List ℕ)
    (book : Book) (order : List Entry) (stands : StandsUnder book order s) (known : KnowsWork (store_of book order s) s.now tree w)
    (call : IsCall who (work_ask tree w) a s t) (grows : next_page s tree ≤ next_page t tree) (k : MadeFew tree calls s w before) where
  room_before : (p : ℕ) → next_page t tree ≤ p + 1 → next_page s tree ≤ p + 1
  room_before p room = omega (arith, room, grows)

  -- with this call, few were made for what was received before it
  pub ends_few : (p : ℕ) → next_page t tree ≤ p + 1 → calls + 1 ≤ 16 + length (distinct before) * (8 * p + 16)
  ends_few p room =
      let few = k.few p (room_before p room) in
      let one = one_left p w in
      omega (arith, few, one)

  module _ (v : Work) (after : List ℕ) (next : Book) (order_next : List Entry) (stands_next : StandsUnder next order_next t)
      (knows : KnowsWork (store_of next order_next t) t.now tree v)
      (fits : Fits (work_ask tree w) a) (leads : Leads tree w a (Goes v)) (told : after ≡ received_after before a) (early : IsReceiving w → calls ≤ 2) where
    hand : HoldsRoot w a k.got t tree
    hand = holds who a s t tree k.got (let was = k.next in omega (arith, was, grows)) (store_of book order s) w known call

    root_stays : HasRoot hand.new v
    root_stays = root_goes tree w a (Goes v) k.got hand.new k.root hand.by leads

    once_stays : Once v
    once_stays =
        once_goes tree w a (Goes v) k.once
        (work_new book order s stands s.now (next_page s tree) tree (omega arith) w known) leads

    brought : (ms : List Message) → received_of a ≡ Ok ms → after ≡ ids_of ms
    brought ms e = told ∙ ap (received_after before) (received_is a ms e)

    fewer : (p : ℕ) → next_page t tree ≤ p + 1 → calls_left p v < before_step p w (length (distinct after))
    fewer p room =
        goes_fewer p (length (distinct after)) tree w a v
        (work_fits book order s stands s.now p tree (room_before p room) k.got k.next w k.root k.once known)
        (work_fits next order_next t stands_next t.now p tree room hand.new hand.next v root_stays once_stays knows)
        (λ l root receives i ms cursor e takes.
        subst (λ (ids : List ℕ). (length i.deletions.ids ≤ length (distinct ids)) × (length i.run.items ≤ length (distinct ids))) (sym (brought ms e))
        (intake_fits (s.messages (queue.TreePu tree)) (queue.TreePu tree) cursor ms i
        (received_sent who (queue.TreePu tree) 256 a s t (subst (λ (x : Work). IsCall who (work_ask tree x) a s t) receives call) ms e) takes))
        leads

    few_stays : (p : ℕ) → next_page t tree ≤ p + 1 → (calls + 1) + calls_left p v ≤ 16 + length (distinct after) * (8 * p + 16)
    few_stays p room = on (receives_or_not w) (received_stays tree w a before fits)
      where
        anew : IsReceiving w → (calls + 1) + calls_left p v ≤ 16 + length (distinct after) * (8 * p + 16)
        anew is =
            let less = fewer p room in
            let counts = receive_counts w p (length (distinct after)) is in
            let two = early is in
            omega (arith, less, counts, two)

        on : IsReceiving w ⊎ ((q d : ℕ) → before_step q w d ≡ calls_left q w) → IsReceiving w ⊎ (received_after before a ≡ before)
            → (calls + 1) + calls_left p v ≤ 16 + length (distinct after) * (8 * p + 16)
        on (inl is) other = anew is
        on (inr same) (inl is) = anew is
        on (inr same) (inr stays) =
            let less = fewer p room in
            let counts = same p (length (distinct after)) in
            let was = k.few p (room_before p room) in
            let long = ap (λ (l : List ℕ). length (distinct l) * (8 * p + 16)) (told ∙ stays) in
            omega (arith, less, counts, was, long)

    pub few_on : MadeFew tree (calls + 1) t v after
    few_on = record { got = hand.new; root = root_stays; next = hand.next; once = once_stays; few = few_stays }
