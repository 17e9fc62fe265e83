-- A run of a look-up finds all records with the attribute, where all is applied, the index is whole and no get was stale.
use Rattle.std.proofs.Common.{◌≡◌, ◌+◌, inl, inr, ℕ, List, [], length, Some, Result, Ok, Err, refl, sym, subst, ◌∙◌, arith}
use Rattle.std.specs.Prelude.{◌≤◌}
use Rattle.std.proofs.lemmas.Option.{same_Some}
use Rattle.attr_index.specs.Look.{Query, Look, index_walk, new_look, look_ready, set_out}
use Rattle.attr_index.specs.Prefix.{prefix_of}
use Rattle.attr_index.specs.Tagged.{tagged}
use Rattle.client_work.specs.Session.{Acting, items_of}
use Rattle.client_work.specs.declared.answer.Answer.{Answer}
use Rattle.client_work.specs.declared.answer.Answer.TheVariants as answer
use Rattle.client_work.specs.declared.work.Work.{Work}
use Rattle.cloud_facts.specs.Words.{CloudState, Caller, Seen, Next, Goes, Ends, Stops, store_of}
use Rattle.db_base.specs.declared.pair.Pair.{Pair}
use Rattle.event_text.specs.declared.event.Event.{Event}
use Rattle.event_text.specs.declared.event.Event.TheVariants as event
use Rattle.page_cache.specs.Cache.{Cache}
use Rattle.replay_meaning.specs.Committed.{committed}
use Rattle.replay_meaning.specs.Standing.{Line}
use Rattle.reply_text.specs.declared.reply.Reply.{Reply}
use Rattle.reply_text.specs.declared.reply.Reply.TheVariants as reply
use Rattle.report_types.specs.declared.stored.Stored.{Stored}
use Rattle.session_facts.proofs.Lines.Acts.{IsReplyTo}
use Rattle.session_facts.proofs.Index.Still.{still}
use Rattle.session_facts.specs.Lines.Facts.{session_at, CloudHolds}
use Rattle.session_facts.specs.Machines.Looks.Knows.{IsIndexed}
use Rattle.session_facts.specs.Index.NewestLeaves.{AreContents}
use Rattle.session_facts.specs.Sessions.Knows.{KnowsWork}
use Rattle.session_facts.specs.Index.Whole.{IsIndexWhole}
use Rattle.tree_walk.specs.Walk.{Walk, walk_ready}
use Rattle.world_core.specs.Asked.{OfSession}
use Rattle.world_core.specs.Handled.{ComesTo, Runs, Does, Answers, Handled}
use Rattle.world_core.specs.Replying.{RepliesTo}
use Rattle.world_core.specs.Stands.{WorldStands}
use Rattle.world_core.specs.Tagged.{HasBegun, ShowsTagged}
use Rattle.world_core.specs.World.{World}
use Rattle.world_core.specs.declared.asked.Asked.{Asked}
use Rattle.world_core.specs.declared.asked.Asked.TheVariants.{Session, Wait, Report, Settle, Sweep}
use Rattle.world_core.specs.declared.asked.Request.TheVariants.{Run}
use Rattle.world_core.specs.declared.world.WorldFault.{WorldFault}
use Rattle.world_core.specs.Span.{span_of}
use Rattle.world_core.proofs.EveryLine.{asked_is, does_own}
use Rattle.world_core.proofs.LookedUp.{HoldsSame, holds_itself, IsAmid, HasFound, comes}
use Rattle.world_core.proofs.StandsLemmas.{IsUnderWay, way_begins, no_memory, replies_to}

-- ---- a begin

abbrev GoesFor : Query → Next (Look × Cache) (Unit {0}) → Type 0
GoesFor q (Goes n) = n.0.query ≡ q
GoesFor q (Ends n done) = Unit {0}
GoesFor q (Stops n t) = Unit {0}

sets_out_for : (l : Look) (next : Next (Walk × Cache) ℕ) → GoesFor l.query (set_out l next)
sets_out_for l (Goes n) = refl
sets_out_for l (Ends n page) = tt
sets_out_for l (Stops n t) = tt

-- a look-up looks for what it was begun for
ready_asks : (q : Query) (c : Cache) (m : Look × Cache) → look_ready q c ≡ Goes m → m.0.query ≡ q
ready_asks q c m ready = subst (GoesFor q) ready (sets_out_for (new_look q) (walk_ready (index_walk q (prefix_of q.attr), c)))

-- ---- the run of a line

-- records are shown by the answer of a scan alone
of_scan : (a : Answer) (pairs : List Pair) → IsReplyTo a (reply.Scan pairs) → a ≡ answer.Scan
of_scan answer.Scan pairs is = refl
of_scan (answer.Opened epoch) pairs is = absurd (cc (is))
of_scan answer.Closed pairs is = absurd (cc (is))
of_scan (answer.Renewed end) pairs is = absurd (cc (is))
of_scan (answer.Done n) pairs is = absurd (cc (is))
of_scan answer.Value pairs (inl is) = absurd (cc (is))
of_scan answer.Value pairs (inr (payload, is)) = absurd (cc (is))
of_scan (answer.Settled n) pairs is = absurd (cc (is))
of_scan (answer.Swept x) pairs is = absurd (cc (is))
of_scan (answer.Commit a) pairs is = absurd (cc (is))
of_scan (answer.Trouble t) pairs is = absurd (cc (is.0))

-- a run that shows records came to them
record ShowsItems (who : Caller) (before after : Seen) (old new : World) (pairs : List Pair) : Type 0 where
  comes_to : ComesTo who (span_of before after old new) answer.Scan
  shown : pairs ≡ items_of comes_to.steps.session.after

module _ (n k : ℕ) (before after : Seen) (old new : World) (pairs : List Pair) where
  abbrev who : Caller
  who = record { session = k; event = n }

  abbrev shows : Result Reply WorldFault
  shows = Ok (reply.Scan pairs)

  by_answer : (a : Answer) → a ≡ answer.Scan → (c : ComesTo who (span_of before after old new) a) → RepliesTo a c.steps.session.after shows → ShowsItems who before after old new pairs
  by_answer answer.Scan is c replies = record { comes_to = c; shown = cc (replies) }
  by_answer a is c replies = absurd (cc (is))

  of_run : Runs (record { session = k; event = n }) (span_of before after old new) shows → ShowsItems who before after old new pairs
  of_run (inl refused) = absurd (cc (refused.declines.reply))
  of_run (inr (inl run)) =
      by_answer run.answer (of_scan run.answer pairs (replies_to run.answer run.comes.steps.session.after (reply.Scan pairs) run.replies).0) run.comes run.replies
  of_run (inr (inr memory)) = absurd (no_memory (reply.Scan pairs) memory.0)

  of_line : (asked : Asked) → OfSession k (λ request. request ≡ Ok Run) asked → Answers n asked (span_of before after old new) shows → ShowsItems who before after old new pairs
  of_line (Session j (Ok request)) belongs (inl p) =
      of_run (does_own n k request Run before after old new (reply.Scan pairs) (asked_is request Run belongs.1) (subst (λ i. Does (record { session = i; event = n }) request (span_of before after old new) shows) belongs.0 p.1))
  of_line (Session j (Err why)) belongs (inl p) = absurd (cc (belongs.1))
  of_line (Session j request) belongs (inr none) = absurd (cc (none.declines.reply))
  of_line (Wait ticks) belongs answers = absurd belongs
  of_line (Report tree) belongs answers = absurd belongs
  of_line Settle belongs answers = absurd belongs
  of_line (Sweep tree) belongs answers = absurd belongs

  -- ---- what it found

  module _ (lines : List Line) (t : CloudState) (at : length lines + 1 ≡ n) (told : before.state ≡ Some t) (stands : WorldStands lines old t) (q : Query)
      (begun : HasBegun (session_at old.sessions k) q) (whole : IsIndexWhole (committed lines t) t q.tree) (fresh : after.counts.stale ≡ before.counts.stale)
      (contents : List Stored) (are : AreContents t q.tree contents) where
    abbrev mine : Acting
    mine = session_at old.sessions k

    asks : begun.look.query ≡ q
    asks = ready_asks q begun.first (begun.look, mine.cache) begun.ready

    way : IsUnderWay lines old before
    way = way_begins lines before old t told stands.by_lines

    abbrev holds : CloudHolds (length lines) lines (session_at old.sessions) old.audit old.blind t
    holds = stands.by_lines.holds

    -- the look-up is of a tree that has an index
    has_index : IsIndexed q.tree
    has_index =
        let knows = subst (λ (w : Work). KnowsWork (store_of holds.book holds.order t) t.now mine.cache w (holds.stand.parts k)) begun.works (holds.stand.each k).work in
        subst (λ (of : Query). IsIndexed of.tree) asks knows.1.tree

    begins : IsAmid lines who (sym at) t begun.home q old before
    begins = record {
      way = way;
      same = subst (HoldsSame t) (same_Some t way.after (sym told ∙ way.told)) (holds_itself t);
      look = begun.look;
      works = begun.works;
      unchanged = begun.unchanged;
      asks = asks;
      calls = [];
      visits = [];
      came = (begun.first, refl, begun.ready);
      each = tt;
    }

    finds_all : ShowsItems who before after old new pairs → pairs ≡ tagged contents q.attr
    finds_all s =
        let no_more : after.counts.stale ≤ before.counts.stale = omega (arith, fresh) in
        let found : HasFound lines who (sym at) t begun.home q (items_of s.comes_to.steps.session.after) =
        comes lines who (sym at) t begun.home q before after old new begins s.comes_to no_more in
        s.shown ∙ found.tagged contents _ _
        (still (length lines) lines (session_at old.sessions) old.audit old.blind t holds begun.home q has_index whole contents are found.visits found.each)

-- ---- every line

pub shows_tagged : (n : ℕ) (event : Event) (before after : Seen) (old new : World) (result : Result Reply WorldFault) → Handled n event (span_of before after old new) result
    → ShowsTagged n event (span_of before after old new) result
shows_tagged n (event.Run k) before after old new (Ok (reply.Scan pairs)) h = λ lines t at told stands q begun whole fresh contents are.
    finds_all n k before after old new pairs lines t at told stands q begun whole fresh contents are
    (of_line n k before after old new pairs h.asked h.asks h.answers)
shows_tagged n event before after old new result h = tt
