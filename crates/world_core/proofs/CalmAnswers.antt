-- What an operation answers, and that it did well where no call brought it a trouble.
use Rattle.std.proofs.Common.{◌≡◌, ℕ, List, [], Option, Some, None, Ok, refl, sym, subst, ◌∙◌}
use Rattle.std.specs.Prelude.{unwrap_or}
use Rattle.client_work.specs.Session.{Acting, StepsAt, Follows, value_of, acting_of}
use Rattle.client_work.specs.declared.answer.Answer.{Answer}
use Rattle.client_work.specs.declared.answer.Answer.TheVariants as answer
use Rattle.client_work.specs.declared.listing.Listing.{Listing}
use Rattle.client_work.specs.declared.shown.Shown.{Shown}
use Rattle.client_work.specs.declared.work.Work.{Work}
use Rattle.client_work.specs.declared.work.Work.TheVariants as work
use Rattle.cloud_facts.specs.Words.{Trouble, CommitAnswer, Turn, More, Ended, Stopped, CloudState, Caller, Seen}
use Rattle.db_base.specs.declared.trouble.Counter.{Counter}
use Rattle.db_base.specs.declared.trouble.Trouble.TheVariants as trouble
use Rattle.db_base.specs.Value.{Value}
use Rattle.page_cache.specs.Cache.{Cache}
use Rattle.recover_run.specs.declared.home.Home.{Home}
use Rattle.replay_meaning.specs.Standing.{Task, Opening, Closing, Renewing, Committing, Reading, Scanning, LookingUp, Paging, Folding, Posture, Working, Standing}
use Rattle.session_facts.specs.Lines.Answers.{IsSoundReply}
use Rattle.session_facts.specs.Lines.Facts.{WorksAs}
use Rattle.reply_text.specs.declared.reply.Reply.{Reply}
use Rattle.reply_text.specs.declared.reply.Reply.TheVariants as reply
use Rattle.session_facts.specs.Sessions.Explains.{left_told, spent_for, trouble_of_answer}
use Rattle.session_facts.specs.Sessions.Untroubled.{IsOfNoCall}
use Rattle.session_facts.proofs.Machines.CommitRuns.Troubles.{IsTold}
use Rattle.session_facts.proofs.Sessions.Untroubled.{no_call_by, commit_well}
use Rattle.tree_walk.specs.Walk.{sought}
use Rattle.txn_buffer.specs.Noted.{Noted}
use Rattle.world_core.proofs.SpentTroubles.{opening_spent, commit_spent, tree_spent, page_spent, refuse_never, walk_never}
use Rattle.world_core.proofs.UnsentSteps.{IsPagingOf}
use Rattle.world_core.specs.Calm.{spent_by, DoesWell}
use Rattle.world_core.specs.Replying.{RepliesTo, value_reply}
use Rattle.world_core.specs.UnsentPages.{GoesOnUnsent, KeepsUnsent, RepliesUnsent}
use Rattle.world_core.proofs.Texts.{commit_is}
use Rattle.world_core.proofs.StandsLemmas.{replies_to}

-- ---- the answer of an operation

-- which answers an operation has beside a trouble
abbrev IsAnswerOf : Task → Answer → Type 0
IsAnswerOf Opening (answer.Opened epoch) = Unit {0}
IsAnswerOf Closing answer.Closed = Unit {0}
IsAnswerOf Renewing (answer.Renewed end) = Unit {0}
IsAnswerOf (Committing changes) (answer.Commit c) = Unit {0}
IsAnswerOf (Reading tree key) answer.Value = Unit {0}
IsAnswerOf (Scanning tree from to) answer.Scan = Unit {0}
IsAnswerOf (LookingUp tree attr) answer.Scan = Unit {0}
IsAnswerOf (Paging tree page) (answer.Done n) = Unit {0}
IsAnswerOf (Folding tree) (answer.Done n) = Unit {0}
IsAnswerOf task (answer.Trouble k) = Unit {0}
IsAnswerOf task a = ⊥

-- what a session at work has is answered so, and counts on what its task counts on
pub record AnswersAs (w : Work) (s : Standing) (a : Answer) : Type 0 where
  pub task : Task
  pub counts : (u : CloudState) (what : Counter) → spent_for w u what → spent_by task u what
  pub posture : s.posture ≡ Working task
  pub of : IsAnswerOf task a

scan_answers : (home : Home) (buffer : List Noted) (m : Listing) (c : Cache) (moved : Turn ℕ) (new : Work) (shown : Shown) (a : Answer) (tree : ℕ) (from to : List ℕ)
    → Follows home m moved (acting_of buffer new c shown) (Ended a) → IsAnswerOf (Scanning tree from to) a
scan_answers home buffer m c moved new shown answer.Scan tree from to f = tt
scan_answers home buffer m c moved new shown (answer.Trouble k) tree from to f = tt
scan_answers home buffer m c More new shown a tree from to f = absurd (cc (f.2))
scan_answers home buffer m c (Ended page) new shown a tree from to never = absurd never
scan_answers home buffer m c (Stopped t) new shown a tree from to f = absurd (cc (f.2))

pub answers_as : (who : Caller) (before after : Seen) (w new : Work) (s : Standing) (a : Answer) → StepsAt who before after w new (Ended a) → WorksAs w s → AnswersAs w s a
answers_as who before after (work.Opening m) new s (answer.Opened epoch) p acts = record { task = Opening; counts = λ u what is. is; posture = acts.0; of = tt }
answers_as who before after (work.Opening m) new s (answer.Trouble k) p acts = record { task = Opening; counts = λ u what is. is; posture = acts.0; of = tt }
answers_as who before after (work.Opening m) new s a p acts = absurd p.1
answers_as who before after (work.Committing m) new s (answer.Commit c) p acts = record { task = Committing m.draft.writes.changes; counts = λ u what is. is; posture = acts.0; of = tt }
answers_as who before after (work.Committing m) new s (answer.Trouble k) p acts = record { task = Committing m.draft.writes.changes; counts = λ u what is. is; posture = acts.0; of = tt }
answers_as who before after (work.Committing m) new s a p acts = absurd p.3
answers_as who before after (work.Reading home m) new s answer.Value p acts = record { task = _; counts = λ u what is. is; posture = acts.0; of = tt }
answers_as who before after (work.Reading home m) new s (answer.Trouble k) p acts = record { task = _; counts = λ u what is. is; posture = acts.0; of = tt }
answers_as who before after (work.Reading home m) new s a p acts = absurd p
answers_as who before after (work.Scanning home m) new s a (buffer, c, d, shown, p) acts = record {
  task = Scanning m.scan.walk.tree (sought m.scan.walk) (unwrap_or m.scan.to []);
  counts = λ u what is. is;
  posture = acts.0;
  of = scan_answers home buffer (record { scan = p.scan; pairs = m.pairs }) d p.moved new shown a m.scan.walk.tree (sought m.scan.walk) (unwrap_or m.scan.to []) p.follows;
}
answers_as who before after (work.Looking home m) new s answer.Scan p acts = record { task = _; counts = λ u what is. is; posture = acts.0; of = tt }
answers_as who before after (work.Looking home m) new s (answer.Trouble k) p acts = record { task = _; counts = λ u what is. is; posture = acts.0; of = tt }
answers_as who before after (work.Looking home m) new s a (buffer, c, d, shown, never) acts = absurd never
answers_as who before after (work.Paging home m) new s (answer.Done n) p acts = record { task = Paging m.tree m.page; counts = λ u what is. is; posture = acts.0; of = tt }
answers_as who before after (work.Paging home m) new s (answer.Trouble k) p acts = record { task = Paging m.tree m.page; counts = λ u what is. is; posture = acts.0; of = tt }
answers_as who before after (work.Paging home m) new s a p acts = absurd p
answers_as who before after (work.Folding home m) new s (answer.Done n) p acts = record { task = Folding m.tree; counts = λ u what is. is; posture = acts.0; of = tt }
answers_as who before after (work.Folding home m) new s (answer.Trouble k) p acts = record { task = Folding m.tree; counts = λ u what is. is; posture = acts.0; of = tt }
answers_as who before after (work.Folding home m) new s a p acts = absurd p
answers_as who before after (work.Closing lease) new s answer.Closed p acts = record { task = Closing; counts = λ u what is. is; posture = acts; of = tt }
answers_as who before after (work.Closing lease) new s (answer.Trouble k) p acts = record { task = Closing; counts = λ u what is. is; posture = acts; of = tt }
answers_as who before after (work.Closing lease) new s a p acts = absurd p
answers_as who before after (work.Renewing home) new s (answer.Renewed end) p acts = record { task = Renewing; counts = λ u what is. is; posture = acts.0; of = tt }
answers_as who before after (work.Renewing home) new s (answer.Trouble k) p acts = record { task = Renewing; counts = λ u what is. is; posture = acts.0; of = tt }
answers_as who before after (work.Renewing home) new s a p acts = absurd p
answers_as who before after (work.Settling m) new s a p acts = absurd acts
answers_as who before after (work.Sweeping m) new s a p acts = absurd acts
answers_as who before after work.Closed new s a p acts = absurd p
answers_as who before after (work.Idle home) new s a p acts = absurd p
answers_as who before after (work.Broken lease) new s a p acts = absurd p

-- what is known of an answer: no call brought its trouble, no deletion failed, and what a commit tells
pub record IsOfNone (Spent : CloudState → Counter → Type 0) (u : CloudState) (w : Work) (a : Answer) : Type 0 where
  pub trouble : (k : Trouble) → trouble_of_answer a ≡ Some k → IsOfNoCall Spent u k
  pub left : left_told w (Ended a) ≡ 0
  pub told : (c : CommitAnswer) → a ≡ answer.Commit c → IsTold c

pub counts_on : (Spent Other : CloudState → Counter → Type 0) (u : CloudState) (w : Work) (a : Answer) → ((what : Counter) → Spent u what → Other u what) → IsOfNone Spent u w a → IsOfNone Other u w a
counts_on Spent Other u w a more none = record { trouble = λ k e. no_call_by Spent Other u u more k (none.trouble k e); left = none.left; told = none.told }

-- a sound reply to it is one that the operation did well
trouble_well : (u : CloudState) (task : Task) (k : Trouble) → IsSoundReply (Working task) (reply.Trouble k) → IsOfNoCall (spent_by task) u k → (k ≡ trouble.Memory → ⊥) → DoesWell u task (reply.Trouble k)
trouble_well u Opening k may none other = opening_spent u k may none other
trouble_well u Closing k may none other = refuse_never u (spent_by Closing) k may none other
trouble_well u Renewing k may none other = refuse_never u (spent_by Renewing) k may none other
trouble_well u (Committing changes) k may none other = commit_spent u k may none other
trouble_well u (Reading tree key) k may none other = walk_never u (spent_by (Reading tree key)) k may none other
trouble_well u (Scanning tree from to) k may none other = walk_never u (spent_by (Scanning tree from to)) k may none other
trouble_well u (LookingUp tree attr) k may none other = walk_never u (spent_by (LookingUp tree attr)) k may none other
trouble_well u (Paging tree page) k may none other = page_spent u tree page k may none other
trouble_well u (Folding tree) k may none other = tree_spent u tree k may none other

value_well : (u : CloudState) (tree : ℕ) (key : List ℕ) (value : Option Value) (r : Reply) → r ≡ value_reply value → DoesWell u (Reading tree key) r
value_well u tree key None r e = subst (DoesWell u (Reading tree key)) (sym e) tt
value_well u tree key (Some value) r e = subst (DoesWell u (Reading tree key)) (sym e) tt

troubled : (u : CloudState) (task : Task) (k : Trouble) (left : Acting) (r : Reply) → IsSoundReply (Working task) r → RepliesTo (answer.Trouble k) left (Ok r) → IsOfNoCall (spent_by task) u k → DoesWell u task r
troubled u task k left r sound e none =
    let is = replies_to (answer.Trouble k) left r e in
    subst (DoesWell u task) (sym is.0.0) (trouble_well u task k (subst (IsSoundReply (Working task)) is.0.0 sound) none is.0.1)

pub answer_well : (u : CloudState) (task : Task) (a : Answer) (left : Acting) (r : Reply) → IsAnswerOf task a → IsSoundReply (Working task) r → RepliesTo a left (Ok r) → IsOfNone (spent_by task) u left.work a → DoesWell u task r
answer_well u task (answer.Trouble k) left r of sound e none = troubled u task k left r sound e (none.trouble k refl)
answer_well u Opening (answer.Opened epoch) left r of sound e none = let is : r ≡ reply.Opened epoch = cc in subst (DoesWell u Opening) (sym is) tt
answer_well u Closing answer.Closed left r of sound e none = let is : r ≡ reply.Closed = cc in subst (DoesWell u Closing) (sym is) tt
answer_well u Renewing (answer.Renewed end) left r of sound e none = let is : r ≡ reply.Renewed end = cc in subst (DoesWell u Renewing) (sym is) tt
answer_well u (Committing changes) (answer.Commit c) left r of sound e none =
    let is = (commit_is c r e).0 in
    subst (DoesWell u (Committing changes)) (sym is) (commit_well u c (none.told c refl) none.trouble (subst (IsSoundReply (Working (Committing changes))) is sound))
answer_well u (Reading tree key) answer.Value left r of sound e none = value_well u tree key (value_of left) r e
answer_well u (Scanning tree from to) answer.Scan left r of sound e none = subst (DoesWell u (Scanning tree from to)) (sym e) tt
answer_well u (LookingUp tree attr) answer.Scan left r of sound e none = subst (DoesWell u (LookingUp tree attr)) (sym e) tt
answer_well u (Paging tree page) (answer.Done n) left r of sound e none =
    let is : r ≡ reply.Done n = cc in
    subst (DoesWell u (Paging tree page)) (sym is) none.left
answer_well u (Folding tree) (answer.Done n) left r of sound e none =
    let is : r ≡ reply.Done n = cc in
    subst (DoesWell u (Folding tree)) (sym is) none.left
answer_well u Opening a left r of sound e none = absurd of
answer_well u Closing a left r of sound e none = absurd of
answer_well u Renewing a left r of sound e none = absurd of
answer_well u (Committing changes) a left r of sound e none = absurd of
answer_well u (Reading tree key) a left r of sound e none = absurd of
answer_well u (Scanning tree from to) a left r of sound e none = absurd of
answer_well u (LookingUp tree attr) a left r of sound e none = absurd of
answer_well u (Paging tree page) a left r of sound e none = absurd of
answer_well u (Folding tree) a left r of sound e none = absurd of

-- ---- the checkpoint of a page

-- what a session at work on it has in hand
pub paging_of : (w : Work) (s : Standing) (tree page : ℕ) → WorksAs w s → s.posture ≡ Working (Paging tree page) → IsPagingOf tree page w
paging_of (work.Paging home p) s tree page acts is = let same : Working (Paging p.tree p.page) ≡ Working (Paging tree page) = sym acts.0 ∙ is in (cc (same), cc (same))
paging_of work.Closed s tree page acts is = absurd (cc (acts, is))
paging_of (work.Idle home) s tree page acts is = absurd (cc (acts.0, is))
paging_of (work.Opening m) s tree page acts is = absurd (cc (acts.0, is))
paging_of (work.Committing m) s tree page acts is = absurd (cc (acts.0, is))
paging_of (work.Reading home m) s tree page acts is = absurd (cc (acts.0, is))
paging_of (work.Scanning home m) s tree page acts is = absurd (cc (acts.0, is))
paging_of (work.Looking home m) s tree page acts is = absurd (cc (acts.0, is))
paging_of (work.Folding home m) s tree page acts is = absurd (cc (acts.0, is))
paging_of (work.Closing lease) s tree page acts is = absurd (cc (acts, is))
paging_of (work.Renewing home) s tree page acts is = absurd (cc (acts.0, is))
paging_of (work.Settling m) s tree page acts is = absurd acts
paging_of (work.Sweeping m) s tree page acts is = absurd acts
paging_of (work.Broken lease) s tree page acts is = absurd (cc (acts, is))

-- of other sessions nothing is said
pub goes_unsent : (t u : CloudState) (posture : Posture) (v w : Work) (r : Reply)
    → ((tree page : ℕ) → posture ≡ Working (Paging tree page) → KeepsUnsent tree page t v → RepliesUnsent tree page u w r) → GoesOnUnsent posture (record { cloud = t; work = v }) (record { cloud = u; work = w }) r
goes_unsent t u (Working (Paging tree page)) v w r each = each tree page refl
goes_unsent t u posture v w r each = tt
