-- The checkpoint of a tree that ended without a failed deletion deleted all that it received.
use Rattle.std.proofs.Common.{◌≡◌, ◌≤◌, ◌⊎◌, inl, inr, ℕ, Bool, true, false, List, [], ◌∷◌, ◌++◌, length, Result, Ok, Err, refl, sym, ap, subst, ◌∙◌, arith}
use Rattle.ckpt_parts.specs.Intakes.{ids_of}
use Rattle.cloud_facts.proofs.Calls.Heads.{held_seen}
use Rattle.cloud_facts.proofs.Chains.Pieces.{none_in, in_first, in_rest, in_cases}
use Rattle.cloud_facts.specs.Words.{IsClient, Trouble, QueueName, Entry, Tree, Answer, Posted, CloudState, called, newest, Caller, Claim, Ask, Get, GetHeld, PutHeld, Send, Receive, Delete, Take, Renew, Release, done_of, Book, IsIn, roots_of, store_of, IsCall}
use Rattle.cloud_facts.specs.Chains.Links.{top_of}
use Rattle.cloud_facts.specs.Copies.Copies.{Copies}
use Rattle.cloud_trait.proofs.NameLemmas.{queue_cmp-total}
use Rattle.cloud_trait.proofs.RowLemmas.{row_messages}
use Rattle.cloud_trait.proofs.StateLemmas.{put_at_same}
use Rattle.cloud_trait.specs.Ask.{ListHeld, RemoveHeld, TouchesNoMessage}
use Rattle.cloud_trait.specs.Delivery.{unmarked, WasSent, IsDelivering}
use Rattle.cloud_trait.specs.Names.{queue_cmp}
use Rattle.cloud_trait.specs.State.{marked}
use Rattle.cloud_trait.specs.declared.answer.Answer.TheVariants as call
use Rattle.cloud_trait.specs.declared.message.Message.{Message}
use Rattle.db_base.specs.Cursor.{number_of}
use Rattle.db_base.specs.declared.names.ObjName.TheVariants as object
use Rattle.db_base.specs.declared.names.QueueName.TheVariants as queue
use Rattle.run_cursor.specs.Covered.{covered_ids}
use Rattle.run_cursor.specs.Run.{Taken}
use Rattle.session_facts.proofs.Settling.Drains.{left_by, marked_over, waiting_over, left_count, left_kept, all_covered, covered_received}
use Rattle.session_facts.proofs.Settling.Trees.Room.{held_tree}
use Rattle.session_facts.proofs.Settling.Trees.Steps.{newest_same}
use Rattle.session_facts.proofs.Machines.TreeCheckpoints.Reads.{received_sent}
use Rattle.session_facts.specs.Settling.Runs.{waiting, Drains}
use Rattle.std.specs.List.{AllByRecursion}
use Rattle.tree_ckpt.proofs.Answers.{done_is}
use Rattle.tree_ckpt.specs.Causes.{Calls}
use Rattle.tree_ckpt.specs.Meaning.{Opening, opening_calls, IsOpened, IsAtWork, AreAtWork, Works, Tried, deletes_over, tried_before, one_less, failed_count}
use Rattle.tree_ckpt.specs.Moves.{went}
use Rattle.tree_ckpt.specs.Work.{take_tree}
use Rattle.tree_phases.specs.Read.{tree_held}

-- ---- calls between states

-- a receive that was answered delivered
abbrev pub Delivers : Ask → Answer → CloudState → Type 0
Delivers (Receive q most) (call.Received ms) s = IsDelivering (s.messages q) most ms
Delivers ask a s = Unit {0}

-- the call sends nothing
abbrev pub SendsNothing : Ask → Type 0
SendsNothing (Send q bytes) = ⊥
SendsNothing ask = Unit {0}

pub record Led (c : Ask × Answer) (s t : CloudState) : Type 0 where
  pub who : Caller
  pub call : IsCall who c.0 c.1 s t
  pub delivers : Delivers c.0 c.1 s
  pub sends : SendsNothing c.0

-- calls, the newest first, lead from one state to another
abbrev pub LedBy : CloudState → Calls → CloudState → Type 0
LedBy s [] t = t ≡ s
LedBy s (c ∷ cs) t = (mid : CloudState) × LedBy s cs mid × Led c mid t

-- a state between them, of which the messages are these
pub record Between (s : CloudState) (rest : Calls) (messages : QueueName → List Posted) : Type 0 where
  pub mid : CloudState
  pub led : LedBy s rest mid
  pub same : messages ≡ mid.messages

-- ---- calls that touch no message

touches_none : (ask : Ask) → IsAtWork ask → SendsNothing ask → TouchesNoMessage ask
touches_none (Get name) at sends = tt
touches_none (GetHeld name l) at sends = tt
touches_none (ListHeld tree l) at sends = tt
touches_none (RemoveHeld name l) at sends = tt
touches_none (PutHeld name bytes one two) at sends = tt
touches_none (Send q bytes) at sends = absurd sends
touches_none (Receive q most) at sends = absurd at
touches_none (Delete q id) at sends = absurd at
touches_none (Take l ticks) at sends = tt
touches_none (Renew l ticks) at sends = tt
touches_none (Release l) at sends = tt

pub led_same : (c : Ask × Answer) (s t : CloudState) → TouchesNoMessage c.0 → Led c s t → t.messages ≡ s.messages
led_same c s t none l = row_messages l.who c.0 c.1 l.call.before l.call.after (called l.who t.now s) t l.call.row none

work_same : (s t : CloudState) (cs rest : Calls) → AreAtWork cs → LedBy s (cs ++ rest) t → Between s rest t.messages
work_same s t [] rest at led = record { mid = t; led = led; same = refl }
work_same s t (c ∷ cs) rest at (mid, led, one) =
    let b = work_same s mid cs rest at.1 led in
    record { mid = b.mid; led = b.led; same = led_same c mid t (touches_none c.0 at.0 one.sends) one ∙ b.same }

works_same : (tree : ℕ) (lease : Claim) (run : Taken) (s t : CloudState) (work rest : Calls) → Works tree lease run work → LedBy s (work ++ rest) t
    → Between s rest t.messages
works_same tree lease run s t [] rest works led = record { mid = t; led = led; same = refl }
works_same tree lease run s t (c ∷ cs) rest works led =
    work_same s t (c ∷ cs) rest (subst (λ (d : Ask × Answer). IsAtWork d.0) (sym works.1.2) tt, works.2) led

-- ---- deletions

-- the ids that were tried, the newest first
abbrev pub tried_ids : Tried → List ℕ
tried_ids [] = []
tried_ids (t ∷ ts) = t.0 ∷ tried_ids ts

done_went : (a : Answer) → went (done_of a) ≡ true → a ≡ call.Done
done_went a e = on (done_of a) refl e
  where
    on : (g : Result (Unit {0}) Trouble) → done_of a ≡ g → went g ≡ true → a ≡ call.Done
    on (Ok x) f h = done_is a x f
    on (Err t) f h = absurd (cc (h))

deleted_marks : (q : QueueName) (id : ℕ) (s t : CloudState) → Led (Delete q id, call.Done) s t → t.messages q ≡ marked (s.messages q) id
deleted_marks q id s t l =
    ap (λ (u : CloudState). u.messages q) l.call.row.0 ∙ put_at_same queue_cmp queue_cmp-total s.messages q (marked (s.messages q) id)

-- a state before deletions that went
record Deletes (s : CloudState) (rest : Calls) (q : QueueName) (ids : List ℕ) (posts : List Posted) : Type 0 where
  mid : CloudState
  led : LedBy s rest mid
  marks : posts ≡ marked_over (mid.messages q) ids

all_deleted : (tree : ℕ) (s t : CloudState) (tries : Tried) (rest : Calls) → failed_count tries ≡ 0 → LedBy s (deletes_over tree tries rest) t
    → Deletes s rest (queue.TreePu tree) (tried_ids tries) (t.messages (queue.TreePu tree))
all_deleted tree s t [] rest none led = record { mid = t; led = led; marks = refl }
all_deleted tree s t (x ∷ xs) rest none (mid, led, one) = on (went (done_of x.1)) refl none (all_deleted tree s mid xs rest)
  where
    on : (b : Bool) → went (done_of x.1) ≡ b → one_less b (failed_count xs) ≡ 0
        → (failed_count xs ≡ 0 → LedBy s (deletes_over tree xs rest) mid → Deletes s rest (queue.TreePu tree) (tried_ids xs) (mid.messages (queue.TreePu tree)))
        → Deletes s rest (queue.TreePu tree) (x.0 ∷ tried_ids xs) (t.messages (queue.TreePu tree))
    on false e none again = absurd (omega (arith, none))
    on true e none again =
        let d = again none led in
        let done : Led (Delete (queue.TreePu tree) x.0, call.Done) mid t =
        subst (λ (a : Answer). Led (Delete (queue.TreePu tree) x.0, a) mid t) (done_went x.1 e) one in
        record { mid = d.mid; led = d.led; marks = deleted_marks (queue.TreePu tree) x.0 mid t done ∙ ap (λ (l : List Posted). marked l x.0) d.marks }

-- those that were tried are these
tried_in : (tries : Tried) (ids : List ℕ) (id : ℕ) → IsIn (tried_before tries ids) id → IsIn (tried_ids tries) id ⊎ IsIn ids id
tried_in [] ids id is = inr is
tried_in (x ∷ xs) ids id is = on (tried_in xs (x.0 ∷ ids) id is)
  where
    own : (x.0 ≡ id) ⊎ IsIn ids id → IsIn (x.0 ∷ tried_ids xs) id ⊎ IsIn ids id
    own (inl same) = inl (subst (IsIn (x.0 ∷ tried_ids xs)) same (in_first x.0 (tried_ids xs)))
    own (inr there) = inr there

    on : IsIn (tried_ids xs) id ⊎ IsIn (x.0 ∷ ids) id → IsIn (x.0 ∷ tried_ids xs) id ⊎ IsIn ids id
    on (inl there) = inl (in_rest x.0 (tried_ids xs) id there)
    on (inr at) = own (in_cases x.0 ids id at)

in_tried : (tries : Tried) (ids : List ℕ) (id : ℕ) → IsIn (tried_ids tries) id ⊎ IsIn ids id → IsIn (tried_before tries ids) id
in_tried [] ids id (inl none) = absurd (none_in id none)
in_tried [] ids id (inr there) = there
in_tried (x ∷ xs) ids id (inl is) = in_tried xs (x.0 ∷ ids) id (on (in_cases x.0 (tried_ids xs) id is))
  where
    on : (x.0 ≡ id) ⊎ IsIn (tried_ids xs) id → IsIn (tried_ids xs) id ⊎ IsIn (x.0 ∷ ids) id
    on (inl same) = inr (subst (IsIn (x.0 ∷ ids)) same (in_first x.0 ids))
    on (inr there) = inl there
in_tried (x ∷ xs) ids id (inr there) = in_tried xs (x.0 ∷ ids) id (inr (in_rest x.0 ids id there))

tried_all : (tries : Tried) (id : ℕ) → IsIn (tried_before tries []) id → IsIn (tried_ids tries) id
tried_all tries id is = on (tried_in tries [] id is)
  where
    on : IsIn (tried_ids tries) id ⊎ IsIn {A = ℕ} [] id → IsIn (tried_ids tries) id
    on (inl there) = there
    on (inr none) = absurd (none_in id none)

-- ---- the opening

-- what the opening saw is what was there at first
record OpensTree (tree : ℕ) (s t : CloudState) (o : Opening) : Type 0 where
  messages : t.messages ≡ s.messages
  delivered : IsDelivering (s.messages (queue.TreePu tree)) 256 o.messages
  sent : AllByRecursion (WasSent (s.messages (queue.TreePu tree))) o.messages
  got : o.got ≡ newest s (object.Tree tree)

opens : (tree : ℕ) (lease : Claim) (o : Opening) (s t : CloudState) → LedBy s (opening_calls tree lease o) t → OpensTree tree s t o
opens tree lease o s t (held, (taken, (start, at, take), get), receive) = record {
  messages = led_same (Receive (queue.TreePu tree) 256, call.Received o.messages) held t tt receive ∙ before;
  delivered = subst (λ (f : QueueName → List Posted). IsDelivering (f (queue.TreePu tree)) 256 o.messages) before receive.delivers;
  sent = subst (λ (f : QueueName → List Posted). AllByRecursion (WasSent (f (queue.TreePu tree))) o.messages) before
      (received_sent receive.who tree (call.Received o.messages) held t o.messages receive.call refl);
  got = held_seen get.who (object.Tree tree) lease (call.Got o.got) taken held get.call o.got refl
      ∙ newest_same take.who (take_tree tree) (call.Given lease) start taken (object.Tree tree) take.call tt
      ∙ ap (λ (u : CloudState). newest u (object.Tree tree)) at;
}
  where
    before : held.messages ≡ s.messages
    before =
        led_same (GetHeld (object.Tree tree) lease, call.Got o.got) taken held tt get
        ∙ led_same (take_tree tree, call.Given lease) start taken tt take ∙ ap (λ (u : CloudState). u.messages) at

-- ---- the whole

module _ (book : Book) (order : List Entry) (first now last : CloudState) (copies : Copies (store_of book order first)) (tree : ℕ) (lease : Claim) (o : Opening)
    (opened : IsOpened o) (work : Calls) (works : Works tree lease o.run work) (tries : Tried)
    (led : LedBy first (deletes_over tree tries (work ++ opening_calls tree lease o)) now)
    (covered : tried_before tries [] ≡ covered_ids o.run.top o.items) (none : failed_count tries ≡ 0) (same : last.messages ≡ now.messages)
    (received : List ℕ) (told : received ≡ ids_of o.messages) where
  pub all_drained : Drains (queue.TreePu tree) received first last
  all_drained = on (all_deleted tree first now tries (work ++ opening_calls tree lease o) none led)
    where
      by : (mid : CloudState) → now.messages (queue.TreePu tree) ≡ marked_over (mid.messages (queue.TreePu tree)) (tried_ids tries)
          → Between first (opening_calls tree lease o) mid.messages → Drains (queue.TreePu tree) received first last
      by mid marks b = whole (opens tree lease o first b.mid b.led) where
        whole : OpensTree tree first b.mid o → Drains (queue.TreePu tree) received first last
        whole op = record {
          messages = o.messages;
          delivered = op.delivered;
          told = told;
          kept = λ m is.
              let k = left_kept (first.messages (queue.TreePu tree)) 256 o.messages (tried_ids tries) op.delivered all only m
              (subst (λ (l : List Message). IsIn l m) left is) in
              (k.0, λ there. k.1 (subst (λ (l : List ℕ). IsIn l m.id) told there));
          count =
              let count = left_count (first.messages (queue.TreePu tree)) 256 o.messages (tried_ids tries) op.delivered all only in
              let here = ap length left in
              let long = ap length told in
              omega (arith, count, here, long);
        }
          where
            posts : last.messages (queue.TreePu tree) ≡ marked_over (first.messages (queue.TreePu tree)) (tried_ids tries)
            posts =
                ap (λ (f : QueueName → List Posted). f (queue.TreePu tree)) same ∙ marks
                ∙ ap (λ (f : QueueName → List Posted). marked_over (f (queue.TreePu tree)) (tried_ids tries)) (b.same ∙ op.messages)

            left : waiting last (queue.TreePu tree) ≡ left_by (tried_ids tries) (waiting first (queue.TreePu tree))
            left = ap unmarked posts ∙ waiting_over (first.messages (queue.TreePu tree)) (tried_ids tries)

            behind : (client : ℕ) → IsClient client → number_of (top_of (roots_of first tree)).cursor client ≤ number_of (tree_held o.got).cursor client
            behind client is = let e = ap (λ (t : Tree). number_of t.cursor client) (held_tree first tree o.got op.got) in omega (arith, e)

            all : (id : ℕ) → IsIn (ids_of o.messages) id → IsIn (tried_ids tries) id
            all id is =
                tried_all tries id
                (subst (λ (l : List ℕ). IsIn l id) (sym covered)
                (all_covered (store_of book order first) copies tree 0 256 o.messages o.items o.run.items
                (tree_held o.got).cursor o.run.top op.sent op.delivered opened.read opened.run
                behind id is))

            only : (id : ℕ) → IsIn (tried_ids tries) id → IsIn (ids_of o.messages) id
            only id is =
                covered_received o.messages o.items o.run.top opened.read id
                (subst (λ (l : List ℕ). IsIn l id) covered (in_tried tries [] id (inl is)))

      on : Deletes first (work ++ opening_calls tree lease o) (queue.TreePu tree) (tried_ids tries) (now.messages (queue.TreePu tree))
          → Drains (queue.TreePu tree) received first last
      on d = by d.mid d.marks (works_same tree lease o.run first d.mid work (opening_calls tree lease o) works d.led)
