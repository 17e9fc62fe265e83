-- The checkpoints of sessions from call to call: each makes few.
use Rattle.std.proofs.Common.{◌≡◌, ◌≢◌, ◌+◌, ◌≤◌, ◌⊎◌, inl, inr, ℕ, List, [], ◌∷◌, Option, Some, None, Ok, refl, sym, subst, ◌∙◌, arith}
use Rattle.std.proofs.lemmas.Bool.{cases_eq}
use Rattle.client_work.specs.Session.{Acting, Asks, Follows, ScansLess, StepsSession, StepsAt, StepsFolding, StepsPaging, opened_work, committed_work, stopped_work, acting_of}
use Rattle.client_work.specs.declared.answer.Answer.{Answer}
use Rattle.client_work.specs.declared.answer.Answer.TheVariants as answer
use Rattle.client_work.specs.declared.listing.Listing.{Listing}
use Rattle.client_work.specs.declared.shown.Shown.{Shown}
use Rattle.client_work.specs.declared.work.Work.{Work}
use Rattle.client_work.specs.declared.work.Work.TheVariants.{Closed, Idle, Opening, Committing, Reading, Scanning, Looking, Paging, Folding, Closing, Renewing, Settling, Sweeping, Broken}
use Rattle.cloud_facts.proofs.Book.Names.{at_same, at_other}
use Rattle.cloud_facts.proofs.Calls.Calls.{call_of}
use Rattle.cloud_facts.specs.Words.{Trouble, CommitAnswer, Entry, Answer as Reply, Turn, More, Ended, Stopped, CloudState, Caller, Seen, Deed, Book, at, store_of, IsCall}
use Rattle.cloud_trait.proofs.EffectLemmas.{grown_itself}
use Rattle.cloud_trait.proofs.RowLemmas.{leaves_grown}
use Rattle.cloud_trait.specs.Growth.{HasGrown}
use Rattle.cloud_trait.specs.Machine.{Follows as ComesBehind}
use Rattle.cloud_trait.specs.Weather.{counted, Makes, Leaves}
use Rattle.cloud_trait.specs.declared.turn.CkptAnswer.{CkptAnswer}
use Rattle.db_base.specs.declared.trouble.CommitAnswer.TheVariants.{Committed, NotCommitted, InDoubt, CommittedOpen}
use Rattle.db_base.specs.declared.trouble.Trouble.TheVariants as trouble
use Rattle.page_cache.specs.Cache.{Cache}
use Rattle.page_ckpt.proofs.Leases.{came_stands, stands_few}
use Rattle.page_ckpt.specs.Paging.{Paging as Page, new_paging, paging_ask}
use Rattle.page_ckpt.specs.Leases.{AreFew}
use Rattle.recover_run.specs.declared.home.Home.{Home}
use Rattle.session_facts.proofs.Sessions.Outcome.{session_keeps}
use Rattle.session_facts.proofs.Sessions.ToldCalls.{grown_on, told_begun, told_beside, told_goes, told_names}
use Rattle.session_facts.proofs.Lines.Outcome.{MadeCall, made_call}
use Rattle.session_facts.proofs.Settling.Trees.Receives.{IsReceiving}
use Rattle.session_facts.proofs.Settling.Trees.Turns.{first_few, few_beside, few_on, ends_few}
use Rattle.session_facts.specs.Lines.Counted.{LostNothing, CameBy, CountsWork, CountsAll, FewFor}
use Rattle.session_facts.specs.Machines.TreeCheckpoints.Few.{next_page, IsFew}
use Rattle.session_facts.specs.Sessions.Knows.{KnowsWork, Knows, Sessions, SessionsStand}
use Rattle.session_facts.specs.Machines.TreeCheckpoints.Knows.{KnowsWork as KnowsMoves, KnowsMaking}
use Rattle.session_facts.specs.Machines.TreeCheckpoints.Counting.{MadeFew, IsCounted}
use Rattle.session_facts.specs.Machines.TreeCheckpoints.Named.{CameTold, NamesPieces}
use Rattle.tree_ckpt.specs.End.{calls_in}
use Rattle.tree_ckpt.specs.Making.{Making, new_making, making_ask}
use Rattle.tree_ckpt.specs.Work.{work_ask}
use Rattle.tree_ckpt.specs.declared.work.Work.{Work as Moving}
use Rattle.tree_ckpt.specs.declared.work.Work.TheVariants as moving
use Rattle.txn_buffer.specs.Noted.{Noted}
use Rattle.std.proofs.lemmas.Option.{same_Some}

-- ---- beside other calls

-- a checkpoint before its first call
pub begun_counts : (s : CloudState) (home : Home) (tree : ℕ) → CountsWork 0 s (Folding home (new_making tree))
begun_counts s home tree = (record { early = omega arith; made = first_few tree s }, told_begun s tree)

pub page_begun : (s : CloudState) (home : Home) (tree page : ℕ) → CountsWork 0 s (Paging home (new_paging tree page))
page_begun s home tree page = record { tree = tree; page = page; made = []; came = refl; many = refl; behind = tt }

-- what calls leave of a cloud: no next free page falls, and nothing that landed is lost
pub record LosesNothing (s t : CloudState) : Type 0 where
  pub next : (tree : ℕ) → next_page s tree ≤ next_page t tree
  pub grown : HasGrown s t

behind_on : (h : List Deed) (s t : CloudState) → HasGrown s t → LostNothing h s → LostNothing h t
behind_on [] s t grown is = tt
behind_on (last ∷ h) s t grown is = λ x seen. grown_on x s t (is x seen) grown

-- and so what is in hand is counted as before
pub counts_beside : (calls : ℕ) (s t : CloudState) (w : Work) → LosesNothing s t → CountsWork calls s w → CountsWork calls t w
counts_beside calls s t (Folding home m) leads k = (
  record { early = k.0.early; made = few_beside m.tree calls s t m.work m.received (leads.next m.tree) k.0.made },
  told_beside s t m leads.grown k.1,
)
counts_beside calls s t (Paging home p) leads k = record {
  tree = k.tree;
  page = k.page;
  made = k.made;
  came = k.came;
  many = k.many;
  behind = behind_on k.made s t leads.grown k.behind;
}
counts_beside calls s t Closed grows k = tt
counts_beside calls s t (Idle home) grows k = tt
counts_beside calls s t (Opening m) grows k = tt
counts_beside calls s t (Committing m) grows k = tt
counts_beside calls s t (Reading home m) grows k = tt
counts_beside calls s t (Scanning home m) grows k = tt
counts_beside calls s t (Looking home m) grows k = tt
counts_beside calls s t (Closing l) grows k = tt
counts_beside calls s t (Renewing home) grows k = tt
counts_beside calls s t (Settling m) grows k = tt
counts_beside calls s t (Sweeping m) grows k = tt
counts_beside calls s t (Broken l) grows k = tt

-- ---- what is no checkpoint

abbrev pub IsOther : Work → Type 0
IsOther (Folding home m) = ⊥
IsOther (Paging home p) = ⊥
IsOther w = Unit {0}

pub other_counts : (calls : ℕ) (s : CloudState) (w : Work) → IsOther w → CountsWork calls s w
other_counts calls s (Folding home m) is = absurd is
other_counts calls s (Paging home p) is = absurd is
other_counts calls s w is = tt

stopped_other : (t : Trouble) (home : Home) → IsOther (stopped_work t home)
stopped_other trouble.Memory home = tt
stopped_other t home = tt

opened_other : (o : Option Home) → IsOther (opened_work o)
opened_other (Some home) = tt
opened_other None = tt

committed_other : (a : CommitAnswer) (home : Home) → IsOther (committed_work a home)
committed_other InDoubt home = tt
committed_other (CommittedOpen t) home = tt
committed_other (Committed txn) home = tt
committed_other (NotCommitted t) home = tt

scans_other : (left : ℕ) (w : Work) → ScansLess left w → IsOther w
scans_other left (Scanning home m) less = tt
scans_other left w less = absurd less

other_by : (w v : Work) → w ≡ v → IsOther v → IsOther w
other_by w v e is = subst IsOther (sym e) is

-- a step of it is none either
pub other_goes : (who : Caller) (before after : Seen) (w new : Work) → IsOther w → StepsAt who before after w new More → IsOther new
other_goes who before after (Opening m) new is p = other_by new (Opening p.1.0) p.1.2 tt
other_goes who before after (Committing m) new is (sound, c, d, p) = other_by new (Committing p.0) p.2 tt
other_goes who before after (Reading home m) new is p = other_by new (Reading home p.0) p.2 tt
other_goes who before after (Scanning home m) new is (buffer, c, d, shown, p) = scans_other _ new (p.less refl)
other_goes who before after (Looking home m) new is (buffer, c, d, shown, (n, steps, same, none, less)) = other_by new (Looking home n) same tt
other_goes who before after (Paging home m) new is p = absurd is
other_goes who before after (Folding home m) new is p = absurd is
other_goes who before after (Closing l) new is p = absurd p
other_goes who before after (Renewing home) new is p = absurd p
other_goes who before after (Settling m) new is p = other_by new (Settling p.1.0) p.1.2 tt
other_goes who before after (Sweeping m) new is p = other_by new (Sweeping p.0) p.2 tt
other_goes who before after Closed new is p = absurd p
other_goes who before after (Idle home) new is p = absurd p
other_goes who before after (Broken l) new is p = absurd p

scan_ended : (home : Home) (buffer : List Noted) (m : Listing) (c : Cache) (moved : Turn ℕ) (new : Work) (shown : Shown) (a : Answer)
    → Follows home m moved (acting_of buffer new c shown) (Ended a) → IsOther new
scan_ended home buffer m c More new shown a f = absurd (cc (f.2))
scan_ended home buffer m c (Ended page) new shown answer.Scan (all, listed, over, e, shows) = other_by new (Idle home) e tt
scan_ended home buffer m c (Ended page) new shown (answer.Trouble t) f = other_by new (Broken home.lease) f.1 tt
scan_ended home buffer m c (Ended page) new shown a f = absurd f
scan_ended home buffer m c (Stopped t) new shown a f = other_by new (stopped_work t home) f.0 (stopped_other t home)

-- behind an answer none is in hand
pub ended_other : (who : Caller) (before after : Seen) (w new : Work) (a : Answer) → StepsAt who before after w new (Ended a) → IsOther new
ended_other who before after (Opening m) new (answer.Opened epoch) p = other_by new _ p.1.2 (opened_other _)
ended_other who before after (Opening m) new (answer.Trouble t) p = other_by new Closed p.1.2 tt
ended_other who before after (Opening m) new a p = absurd p.1
ended_other who before after (Committing m) new (answer.Commit a) (sound, c, d, p) = other_by new _ p.2 (committed_other a _)
ended_other who before after (Committing m) new (answer.Trouble t) (sound, c, d, p) = other_by new (Broken _) p.2 tt
ended_other who before after (Committing m) new a (sound, c, d, p) = absurd p
ended_other who before after (Reading home m) new answer.Value p = other_by new (Idle home) p.1 tt
ended_other who before after (Reading home m) new (answer.Trouble t) p = other_by new (stopped_work t home) p.1 (stopped_other t home)
ended_other who before after (Reading home m) new a p = absurd p
ended_other who before after (Scanning home m) new a (buffer, c, d, shown, p) =
    scan_ended home buffer (record { scan = p.scan; pairs = m.pairs }) d p.moved new shown a p.follows
ended_other who before after (Looking home m) new answer.Scan (buffer, c, d, shown, (n, steps, same, some)) = other_by new (Idle home) same tt
ended_other who before after (Looking home m) new (answer.Trouble t) (buffer, c, d, shown, (n, steps, same, none)) =
    other_by new (stopped_work t home) same (stopped_other t home)
ended_other who before after (Looking home m) new a (buffer, c, d, shown, never) = absurd never
ended_other who before after (Paging home m) new (answer.Done n) p = other_by new (Idle home) p.2 tt
ended_other who before after (Paging home m) new (answer.Trouble t) p = other_by new (stopped_work t home) p.2 (stopped_other t home)
ended_other who before after (Paging home m) new a p = absurd p
ended_other who before after (Folding home m) new (answer.Done n) p = other_by new (Idle home) p.2 tt
ended_other who before after (Folding home m) new (answer.Trouble t) p = other_by new (stopped_work t home) p.2 (stopped_other t home)
ended_other who before after (Folding home m) new a p = absurd p
ended_other who before after (Closing l) new answer.Closed p = other_by new Closed p.1 tt
ended_other who before after (Closing l) new (answer.Trouble t) p = other_by new Closed p.1 tt
ended_other who before after (Closing l) new a p = absurd p
ended_other who before after (Renewing home) new (answer.Renewed end) p = other_by new (Idle p.0) p.2 tt
ended_other who before after (Renewing home) new (answer.Trouble t) p = other_by new (stopped_work t p.0) p.2 (stopped_other t p.0)
ended_other who before after (Renewing home) new a p = absurd p
ended_other who before after (Settling m) new (answer.Settled n) p = other_by new Closed p.1.2 tt
ended_other who before after (Settling m) new (answer.Trouble t) p = other_by new Closed p.1.2 tt
ended_other who before after (Settling m) new a p = absurd p.1
ended_other who before after (Sweeping m) new (answer.Swept x) p = other_by new Closed p.2 tt
ended_other who before after (Sweeping m) new (answer.Trouble t) p = other_by new Closed p.2 tt
ended_other who before after (Sweeping m) new a p = absurd p
ended_other who before after Closed new a p = absurd p
ended_other who before after (Idle home) new a p = absurd p
ended_other who before after (Broken l) new a p = absurd p

-- ---- a call of a session

-- the receive is its third call
receives_early : (w : Moving) (calls : ℕ) → calls + calls_in w ≤ calls_in moving.TakingTree → IsReceiving w → calls ≤ 2
receives_early (moving.Receiving l root) calls early is = omega (arith, early)
receives_early w calls early is = absurd is

module _ (who : Caller) (before after : Seen) (s t : CloudState) (book : Book) (order : List Entry) (sessions : Sessions) (told : before.state ≡ Some s) (told_after : after.state ≡ Some t)
    (stand : SessionsStand book order s sessions) where
  -- what the call leaves
  call_leads : (new : Acting) (turn : Turn Answer) → StepsSession who before after (sessions who.session) new (Ok turn) → LosesNothing s t
  call_leads new turn steps = record {
    next = λ tree. (session_keeps who before after s t book order sessions new (Ok turn) told told_after stand steps).grows.next tree;
    grown = subst (λ (z : CloudState). HasGrown s z) (same l.after t (sym l.told ∙ told_after)) (leaves_grown who c.ask c.answer before.counts after.counts s after.state l);
  }
    where
      c : MadeCall who before after (sessions who.session).work
      c = made_call who before after (sessions who.session).work new.work turn steps.work

      l : Leaves who c.ask c.answer (counted before.counts s) after.counts after.state
      l = c.made.state s told

      same : (x y : CloudState) → Some x ≡ Some y → x ≡ y
      same x y e = cc

  module _ (grows : (tree : ℕ) → next_page s tree ≤ next_page t tree) (calls : ℕ) (home : Home) (m : Making) (is : (sessions who.session).work ≡ Folding home m)
      (k : IsCounted calls s m) where
    known : KnowsMoves (store_of book order s) s.now m.tree m.work
    known = (subst (λ (w : Work). KnowsWork (store_of book order s) s.now (sessions who.session).cache w (stand.parts who.session)) is (stand.each who.session).work).1.work

    asked : (reply : Reply) → Makes who (making_ask m) reply before after → IsCall who (work_ask m.tree m.work) reply s t
    asked reply made = call_of who (making_ask m) reply before after s t made told told_after

    -- a step that goes on
    module _ (new : Acting) (next : Book) (order_next : List Entry) (stand_next : SessionsStand next order_next t (at who.session new sessions)) where
      knows : (n : Making) → new.work ≡ Folding home n → KnowsMaking (store_of next order_next t) t.now n
      knows n works = (subst (λ (w : Work). KnowsWork (store_of next order_next t) t.now new.cache w (stand_next.parts who.session)) works own.work).1
        where
          own : Knows (store_of next order_next t) t.now new (stand_next.parts who.session)
          own =
              subst (λ (a : Acting). Knows (store_of next order_next t) t.now a (stand_next.parts who.session)) (at_same who.session new sessions who.session refl)
              (stand_next.each who.session)

      goes_by : CameTold s m → StepsFolding who before after (home, m) new.work More → CountsWork (calls + 1) t new.work
      goes_by came (n, steps, works, less) = subst (λ (w : Work). CountsWork (calls + 1) t w) (sym works) (
        record {
          early = let was = k.early in omega (arith, was, less);
          made = subst (λ (tree : ℕ). MadeFew tree (calls + 1) t n.work n.received) (sym steps.took.0.0)
              (few_on m.tree calls s t who steps.answer m.work m.received book order stand.cloud known (asked steps.answer steps.made) (grows m.tree) k.made n.work n.received next
              order_next stand_next.cloud
              (subst (λ (x : ℕ). KnowsMoves (store_of next order_next t) t.now x n.work) steps.took.0.0 (knows n works).work)
              steps.made.fits steps.took.1 steps.took.0.1 (receives_early m.work calls k.early));
        },
        told_goes who before after s told m came steps.answer steps.made t book order n told_after stand.cloud known steps.took,
      )

    -- whatever a step comes to
    call_made : (work : Work) (turn : Turn Answer) → StepsFolding who before after (home, m) work turn → Asks (making_ask m) who before after
    call_made work More (n, steps, works, less) = record { answer = steps.answer; made = steps.made }
    call_made work (Ended (answer.Done done)) (n, steps, works) = record { answer = steps.answer; made = steps.made }
    call_made work (Ended (answer.Trouble t)) (n, steps, works) = record { answer = steps.answer; made = steps.made }
    call_made work turn never = absurd never

    few_by : (work : Work) (turn : Turn Answer) → StepsFolding who before after (home, m) work turn → IsFew (calls + 1) m.received t m.tree
    few_by work turn steps =
        let asks = call_made work turn steps in
        ends_few m.tree calls s t who asks.answer m.work m.received book order stand.cloud known (asked asks.answer asks.made) (grows m.tree) k.made

  -- ---- the checkpoint of a page

  module _ (calls : ℕ) (home : Home) (p : Page) (k : CameBy calls s p) where
    page_goes : (work : Work) → StepsPaging who before after (home, p) work More → CountsWork (calls + 1) t work
    page_goes work (n, steps, works, less) = subst (λ (w : Work). CountsWork (calls + 1) t w) (sym works) (record {
      tree = k.tree;
      page = k.page;
      made = deed ∷ k.made;
      came = (p, k.came, refl, steps.made, steps.took, follows k.made k.behind);
      many = let was = k.many in omega (arith, was);
      behind = λ x seen. subst (λ (y : CloudState). HasGrown y t) (same_Some t x (sym told_after ∙ seen)) (grown_itself t t refl refl refl refl);
    })
      where
        deed : Deed
        deed = record { who = who; ask = paging_ask p; answer = steps.answer; before = before; after = after }

        follows : (h : List Deed) → LostNothing h s → ComesBehind h deed
        follows [] is = tt
        follows (last ∷ h) is = λ x y seen now. subst (HasGrown x) (same_Some s y (sym told ∙ now)) (is x seen)

    page_few : AreFew p (calls + 1)
    page_few = subst (λ (n : ℕ). AreFew p (n + 1)) k.many (stands_few p k.made (came_stands k.tree k.page k.made p k.came))

  -- what the session has in hand is counted behind a step that goes on
  goes_at : (calls : ℕ) (new : Acting) (next : Book) (order_next : List Entry) → SessionsStand next order_next t (at who.session new sessions)
      → ((tree : ℕ) → next_page s tree ≤ next_page t tree) → (w : Work) → (sessions who.session).work ≡ w → CountsWork calls s w
      → StepsAt who before after w new.work More → CountsWork (calls + 1) t new.work
  goes_at calls new next order_next stand_next grows (Folding home m) is k p = goes_by grows calls home m is k.0 new next order_next stand_next k.1 p
  goes_at calls new next order_next stand_next grows (Paging home q) is k p = page_goes calls home q k new.work p
  goes_at calls new next order_next stand_next grows w is k p = other_counts (calls + 1) t new.work (other_goes who before after w new.work tt p)

  -- and however it ends, its calls were few
  few_at : (calls : ℕ) (new : Acting) (turn : Turn Answer) → ((tree : ℕ) → next_page s tree ≤ next_page t tree) → (w : Work) → (sessions who.session).work ≡ w
      → CountsWork calls s w → StepsAt who before after w new.work turn → FewFor (calls + 1) t w
  few_at calls new turn grows (Folding home m) is k p = few_by grows calls home m is k.0 new.work turn p
  few_at calls new turn grows (Paging home q) is k p = page_few calls home q k
  few_at calls new turn grows w is k p = tt

  pub session_few : (calls : ℕ → ℕ) (new : Acting) (turn : Turn Answer) → CountsAll calls s sessions → StepsSession who before after (sessions who.session) new (Ok turn)
      → FewFor (calls who.session + 1) t (sessions who.session).work
  session_few calls new turn all p = few_at (calls who.session) new turn ((call_leads new turn p).next) (sessions who.session).work refl (all who.session) p.work

  -- a tree checkpoint that is done named its pieces
  pub session_names : (calls : ℕ → ℕ) (new : Acting) (turn : Turn Answer) → CountsAll calls s sessions → StepsSession who before after (sessions who.session) new (Ok turn)
      → (home : Home) (m : Making) (x : CkptAnswer) → (sessions who.session).work ≡ Folding home m → turn ≡ Ended (answer.Done x) → NamesPieces s m x
  session_names calls new turn all p home m x works ends = on (subst (λ (u : Turn Answer). StepsFolding who before after (home, m) new.work u) ends folds)
    where
      folds : StepsFolding who before after (home, m) new.work turn
      folds = subst (λ (w : Work). StepsAt who before after w new.work turn) works p.work

      came : CameTold s m
      came = (subst (λ (w : Work). CountsWork (calls who.session) s w) works (all who.session)).1

      on : StepsFolding who before after (home, m) new.work (Ended (answer.Done x)) → NamesPieces s m x
      on (n, steps, is) = told_names who before after s told m came steps.answer steps.made n x steps.took

  -- a step leaves each session counted
  module _ (calls : ℕ → ℕ) (all : CountsAll calls s sessions) (new : Acting) where
    steps_count : (turn : Turn Answer) (own : ℕ) → StepsSession who before after (sessions who.session) new (Ok turn) → CountsWork own t new.work
        → CountsAll (at who.session own calls) t (at who.session new sessions)
    steps_count turn own p mine n = on (cases_eq n who.session)
      where
        on : (n ≡ who.session) ⊎ (n ≢ who.session) → CountsWork (at who.session own calls n) t (at who.session new sessions n).work
        on (inl e) =
            subst (λ (c : ℕ). CountsWork c t (at who.session new sessions n).work) (sym (at_same who.session own calls n e))
            (subst (λ (a : Acting). CountsWork own t a.work) (sym (at_same who.session new sessions n e)) mine)
        on (inr ne) =
            subst (λ (c : ℕ). CountsWork c t (at who.session new sessions n).work) (sym (at_other who.session own calls n ne))
            (subst (λ (a : Acting). CountsWork (calls n) t a.work) (sym (at_other who.session new sessions n ne))
            (counts_beside (calls n) s t (sessions n).work (call_leads new turn p) (all n)))

    pub more_counts : (next : Book) (order_next : List Entry) → SessionsStand next order_next t (at who.session new sessions)
        → StepsSession who before after (sessions who.session) new (Ok More) → CountsAll (at who.session (calls who.session + 1) calls) t (at who.session new sessions)
    more_counts next order_next stand_next p =
        steps_count More (calls who.session + 1) p
        (goes_at (calls who.session) new next order_next stand_next ((call_leads new More p).next) (sessions who.session).work refl (all who.session) p.work)

    pub end_counts : (a : Answer) (own : ℕ) → StepsSession who before after (sessions who.session) new (Ok (Ended a))
        → CountsAll (at who.session own calls) t (at who.session new sessions)
    end_counts a own p = steps_count (Ended a) own p (other_counts own t new.work (ended_other who before after (sessions who.session).work new.work a p.work))
