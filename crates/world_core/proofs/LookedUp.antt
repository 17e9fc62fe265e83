-- A run of a look-up from its first call to its last: each call is a get, so the cloud holds all along what it held, and where no count of stale gets rose
-- each walk ends at a newest leaf.
use Rattle.std.proofs.Common.{◌≡◌, ◌≤◌, ◌+◌, inl, inr, ℕ, List, [], ◌∷◌, length, Option, Some, None, Ok, refl, ap, sym, subst, ◌∙◌, arith}
use Rattle.std.specs.List.{AllByRecursion}
use Rattle.std.proofs.lemmas.Option.{same_Some}
use Rattle.attr_index.specs.Meaning.{Visit, Looked, leaf_by, visited, tree_at}
use Rattle.attr_index.specs.Look.{Query, Own, Look}
use Rattle.attr_index.specs.Stepped.{Stepped as StepsLook, deed_of}
use Rattle.attr_index.specs.Tagged.{FindsTagged}
use Rattle.client_work.proofs.Looks.{step_looked}
use Rattle.client_work.specs.Session.{Acting, StepsSession, ShowsAt, LooksBy, items_in, items_of, noted_behind, shown_behind, acting_of, in_hand}
use Rattle.client_work.specs.Shows.{own_of}
use Rattle.client_work.specs.declared.answer.Answer.{Answer}
use Rattle.client_work.specs.declared.answer.Answer.TheVariants as answer
use Rattle.client_work.specs.declared.shown.Shown.{Shown}
use Rattle.client_work.specs.declared.shown.Shown.TheVariants.{Listed}
use Rattle.client_work.specs.declared.work.Work.{Work}
use Rattle.client_work.specs.declared.work.Work.TheVariants.{Looking}
use Rattle.cloud_facts.proofs.Book.Names.{at_same}
use Rattle.cloud_facts.specs.Words.{ObjName, Entry, Leaf, Answer as Heard, Turn, More, Ended, CloudState, called, Caller, Seen, Get, Deed}
use Rattle.cloud_trait.specs.State.{Counts, newest_of}
use Rattle.cloud_trait.specs.Weather.{counted, Weather, Leaves}
use Rattle.cloud_trait.specs.declared.answer.Answer.TheVariants.{Got, Failed, Memory}
use Rattle.cloud_trait.specs.declared.state.Landing.{Landing}
use Rattle.db_base.specs.declared.pair.Pair.{Pair}
use Rattle.db_base.specs.declared.wish.Wish.TheVariants.{Plain}
use Rattle.cloud_trait.specs.Machine.{occasion_of}
use Rattle.page_cache.specs.Cache.{Cache}
use Rattle.recover_run.specs.declared.home.Home.{Home}
use Rattle.replay_meaning.proofs.SameLemmas.{finds_same}
use Rattle.replay_meaning.specs.Committed.{Versions, committed, committed_by}
use Rattle.replay_meaning.specs.Standing.{Line}
use Rattle.session_facts.proofs.Index.NewestLeaves.{applied_same, looked_newest}
use Rattle.session_facts.proofs.Lines.Outcome.{made_call, wish_holds}
use Rattle.session_facts.specs.Lines.Facts.{session_at, CloudHolds}
use Rattle.session_facts.specs.Index.NewestLeaves.{IsAllApplied, IsNewestAt}
use Rattle.tree_walk.specs.Walk.{object_of, sought}
use Rattle.txn_buffer.specs.Noted.{Noted}
use Rattle.world_core.specs.World.{World}
use Rattle.world_core.specs.Handled.{StepsLooked, Went, start, further, ComesTo}
use Rattle.world_core.specs.Span.{span_of}
use Rattle.world_core.proofs.StandsLemmas.{IsUnderWay, changed_at, told_under, steps_own, went_on}

-- ---- what the cloud holds

-- the same objects, messages and rows of the trace
pub record HoldsSame (t s : CloudState) : Type 0 where
  pub versions : s.versions ≡ t.versions
  pub messages : s.messages ≡ t.messages
  pub trace : s.trace ≡ t.trace

pub holds_itself : (t : CloudState) → HoldsSame t t
holds_itself t = record { versions = refl; messages = refl; trace = refl }

get_stays : (who : Caller) (name : ObjName) (a : Heard) (c d : Counts) (b u : CloudState) → Weather who (Get name) a (counted c b) (counted d u) → u ≡ b
get_stays who name Failed c d b u (inl is) = is
get_stays who name Failed c d b u (inr lands) = lands.0
get_stays who name Memory c d b u is = is
get_stays who name (Got v) c d b u row = row.0
get_stays who name a c d b u row = absurd row

-- a get leaves it so
get_holds : (who : Caller) (name : ObjName) (a : Heard) (c d : Counts) (t s : CloudState) (new : Option CloudState) → HoldsSame t s → (l : Leaves who (Get name) a (counted c s) d new)
    → HoldsSame t l.after
get_holds who name a c d t s new same l =
    let is : l.after ≡ called who l.after.now s = get_stays who name a c d (called who l.after.now s) l.after l.row in
    record {
      versions = ap (λ (z : CloudState). z.versions) is ∙ same.versions;
      messages = ap (λ (z : CloudState). z.messages) is ∙ same.messages;
      trace = ap (λ (z : CloudState). z.trace) is ∙ same.trace;
    }

module _ (lines : List Line) (t s : CloudState) (same : HoldsSame t s) where
  committed_same : committed lines s ≡ committed lines t
  committed_same =
      ap (λ (vs : Versions). committed_by lines vs s.trace) same.versions ∙ ap (λ (rows : List Landing). committed_by lines t.versions rows) same.trace

  -- what is the newest leaf is it still
  newest_same : (tree : ℕ) (home : Home) (leaf : Leaf) → IsNewestAt (committed lines s) s tree home leaf → IsNewestAt (committed lines t) t tree home leaf
  newest_same tree home leaf is = record {
    finds = λ key held. finds_same s t (λ name. ap (λ (vs : Versions). newest_of (vs name)) (sym same.versions)) tree key _ (is.finds key held);
    applied = λ all p pending of held.
        is.applied
        (subst (λ (es : List Entry). IsAllApplied es s tree) (sym committed_same) (applied_same (committed lines t) t s same.versions same.messages tree all)) p pending of
        held;
  }

-- ---- the count of stale gets

-- a step's calls, and what the count was around its own
record StaleAround (before under to after : Seen) : Type 0 where
  first : under.counts.stale ≡ before.counts.stale
  called : under.counts.stale ≤ to.counts.stale
  last : after.counts.stale ≡ to.counts.stale

stale_around : (who : Caller) (before after : Seen) (old new : World) (turn : Turn Answer) → (p : StepsLooked who Plain (span_of before after old new) turn)
    → StaleAround before p.under p.to after
stale_around who before after old new turn p = record {
  first = ap (λ (c : Counts). c.stale) p.wishes.no_call.counts ∙ p.look_before.stale;
  called = (made_call who p.under p.to p.session.before.work p.session.after.work turn p.session.does.work).made.counts.stale;
  last = p.look_after.stale;
}

step_stale : (who : Caller) (before after : Seen) (old new : World) (turn : Turn Answer) → StepsLooked who Plain (span_of before after old new) turn
    → before.counts.stale ≤ after.counts.stale
step_stale who before after old new turn p =
    let s = stale_around who before after old new turn p in
    let a = s.first in let b = s.called in let c = s.last in
    omega (arith, a, b, c)

-- it never falls
went_stale : (who : Caller) (before : Seen) (old : World) (after : Seen) (new : World) → Went who before old after new → before.counts.stale ≤ after.counts.stale
went_stale who before old after new start = omega arith
went_stale who before old after new (further mid _ world _ went step) =
    let a = went_stale who before old mid world went in let b = step_stale who mid after world new More step in omega (arith, a, b)

-- ---- a step

-- what is known of a leaf at which a walk ended joins what is known of those before it
visits_more : (P : Visit → Type 0) (l : Look) (d : Deed) (o : Option Leaf) (vs : List Visit)
    → ((leaf : Leaf) → o ≡ Some leaf → P (record { stage = l.stage; key = sought l.walk; deed = d; leaf = leaf })) → AllByRecursion P vs
    → AllByRecursion P (visited l d o vs)
visits_more P l d None vs shows each = each
visits_more P l d (Some leaf) vs shows each = (shows leaf refl, each)

module _ (lines : List Line) (who : Caller) (number : who.event ≡ length lines + 1) (t : CloudState) (home : Home) (q : Query) where
  abbrev own : Own
  own = own_of home []

  -- the session of a world
  abbrev mine : World → Acting
  mine world = session_at world.sessions who.session

  -- a walk ended at a newest leaf of its tree
  abbrev pub IsNewest : Visit → Type 0
  IsNewest v = IsNewestAt (committed lines t) t (tree_at q v.stage) home v.leaf

  -- the look-up came from its begin to this world, and each of its walks ended at a newest leaf
  pub record IsAmid (world : World) (seen : Seen) : Type 0 where
    pub way : IsUnderWay lines world seen
    pub same : HoldsSame t way.after
    pub look : Look
    pub works : (mine world).work ≡ Looking home look
    pub unchanged : (mine world).buffer ≡ []
    pub asks : look.query ≡ q
    pub calls : List Deed
    pub visits : List Visit
    pub came : Looked q own calls visits (look, (mine world).cache)
    pub each : AllByRecursion IsNewest visits

  -- what it came to at its end
  pub record HasFound (pairs : List Pair) : Type 0 where
    pub visits : List Visit
    pub tagged : FindsTagged q own visits pairs
    pub each : AllByRecursion IsNewest visits

  module _ (before after : Seen) (old new : World) (turn : Turn Answer) (a : IsAmid old before) (p : StepsLooked who Plain (span_of before after old new) turn)
      (still : after.counts.stale ≤ before.counts.stale) where
    abbrev left : Acting
    left = p.session.after

    steps : StepsSession who p.under p.to (mine old) left (Ok turn)
    steps = steps_own lines who Plain before after old new turn number a.way p

    abbrev kept : Cache
    kept = steps.shown.0

    none_noted : left.buffer ≡ []
    none_noted = steps.buffer ∙ (ap (λ (w : Work). noted_behind w (mine old).buffer) a.works ∙ a.unchanged)

    looks : LooksBy who p.under p.to (in_hand home a.look (mine old).cache) (acting_of [] left.work kept left.shown) turn
    looks =
        subst (λ (b : List Noted). LooksBy who p.under p.to (in_hand home a.look (mine old).cache) (acting_of b left.work kept left.shown) turn) none_noted
        (subst (λ (w : Work). ShowsAt who p.under p.to (w, (mine old).cache) (record left { cache = kept }) turn) a.works steps.shown.1)

    fresh : p.to.counts.stale ≡ p.under.counts.stale
    fresh =
        let s = stale_around who before after old new turn p in
        let a = s.first in let b = s.called in let c = s.last in
        omega (arith, a, b, c, still)

    abbrev s : CloudState
    s = record a.way.after { wish = Plain }

    same_wished : HoldsSame t s
    same_wished = record { versions = a.same.versions; messages = a.same.messages; trace = a.same.trace }

    told : p.under.state ≡ Some s
    told = told_under lines who Plain before after old new turn number a.way p

    held : CloudHolds (length lines + 1) lines (session_at old.sessions) old.audit old.blind s
    held = wish_holds (length lines + 1) lines (session_at old.sessions) old.audit old.blind a.way.after Plain a.way.goes.holds

    came : Looked a.look.query own a.calls a.visits (a.look, (mine old).cache)
    came = subst (λ (of : Query). Looked of own a.calls a.visits (a.look, (mine old).cache)) (sym a.asks) a.came

    -- the step of the look-up itself
    module _ (n : Look × Cache) (to : Turn (Unit {0})) (l : StepsLook own (occasion_of who p.under p.to) (a.look, (mine old).cache) n to) where
      abbrev deed : Deed
      deed = deed_of who (a.look, (mine old).cache) l.walked.answer p.under p.to

      abbrev visits_then : List Visit
      visits_then = visited a.look deed (leaf_by (a.look, (mine old).cache) deed) a.visits

      newest_leaf : (leaf : Leaf) → leaf_by (a.look, (mine old).cache) deed ≡ Some leaf → IsNewestAt (committed lines t) t (tree_at q a.look.stage) home leaf
      newest_leaf leaf by =
          subst (λ (of : Query). IsNewestAt (committed lines t) t (tree_at of a.look.stage) home leaf) a.asks
          (newest_same lines t s same_wished (tree_at a.look.query a.look.stage) home leaf
          (looked_newest (length lines + 1) lines (session_at old.sessions) old.audit old.blind s held who p.under p.to told home a.look a.works own a.calls a.visits came
          l.walked.answer l.walked.made fresh leaf by))

      each_then : AllByRecursion IsNewest visits_then
      each_then = visits_more IsNewest a.look deed (leaf_by (a.look, (mine old).cache) deed) a.visits newest_leaf a.each

      leaves : Leaves who (Get (object_of a.look.walk)) l.walked.answer (counted p.under.counts s) p.to.counts p.to.state
      leaves = l.walked.made.state s told

      same_then : HoldsSame t leaves.after
      same_then = get_holds who (object_of a.look.walk) l.walked.answer p.under.counts p.to.counts t s p.to.state same_wished leaves

  -- a step that goes on
  goes_on : (before after : Seen) (old new : World) → IsAmid old before → StepsLooked who Plain (span_of before after old new) More → after.counts.stale ≤ before.counts.stale → IsAmid new after
  goes_on before after old new a p still = on (looks before after old new More a p still).0 (looks before after old new More a p still).1 (looks before after old new More a p still).2
    where
      d : Cache
      d = kept before after old new More a p still

      on : (l : Look) → StepsLook own (occasion_of who p.under p.to) (a.look, (mine old).cache) (l, d) More → p.session.after.work ≡ Looking home l → IsAmid new after
      on l s is = record {
        way = then;
        same = subst (HoldsSame t) told_same (same_then before after old new More a p still m More s);
        look = l;
        works = ap (λ (x : Acting). x.work) mine_then ∙ is;
        unchanged = ap (λ (x : Acting). x.buffer) mine_then ∙ none_noted before after old new More a p still;
        asks = of_query;
        calls = calls_then;
        visits = visits_now;
        came = subst (λ (c : Cache). Looked q own calls_then visits_now (l, c)) (sym cache_then) (subst (λ (of : Query). Looked of own calls_then visits_now m) of_query came_then);
        each = each_then before after old new More a p still m More s;
      }
        where
          m : Look × Cache
          m = (l, d)

          calls_then : List Deed
          calls_then = deed before after old new More a p still m More s ∷ a.calls

          visits_now : List Visit
          visits_now = visits_then before after old new More a p still m More s

          then : IsUnderWay lines new after
          then = went_on lines who before old after new number a.way (further before after old new start p)

          told_same : (leaves before after old new More a p still m More s).after ≡ then.after
          told_same =
              same_Some _ _ (sym (p.look_after.stays (leaves before after old new More a p still m More s).after (leaves before after old new More a p still m More s).told) ∙ then.told)

          mine_then : mine new ≡ p.session.after
          mine_then = changed_at who.session _ old.sessions new.sessions p.session who.session ∙ at_same who.session p.session.after (session_at old.sessions) who.session refl

          of_query : l.query ≡ q
          of_query = s.means a.look.query a.calls a.visits (came before after old new More a p still) ∙ a.asks

          came_then : Looked l.query own calls_then visits_now m
          came_then = step_looked own who p.under p.to (a.look, (mine old).cache) m a.calls a.visits s (came before after old new More a p still)

          cache_then : (mine new).cache ≡ d
          cache_then =
              ap (λ (x : Acting). x.cache) mine_then ∙ ((steps before after old new More a p still).shown.2 ∙ ap (λ (w : Work). shown_behind w d) is)

  -- the step that ends it
  ends : (before after : Seen) (old new : World) → IsAmid old before → (p : StepsLooked who Plain (span_of before after old new) (Ended answer.Scan)) → after.counts.stale ≤ before.counts.stale
      → HasFound (items_of p.session.after)
  ends before after old new a p still =
      on (looks before after old new turn a p still).0 (looks before after old new turn a p still).1 (looks before after old new turn a p still).3
    where
      turn : Turn Answer
      turn = Ended answer.Scan

      d : Cache
      d = kept before after old new turn a p still

      on : (l : Look) → StepsLook own (occasion_of who p.under p.to) (a.look, (mine old).cache) (l, d) (Ended tt) → p.session.after.shown ≡ Listed l.pairs → HasFound (items_of p.session.after)
      on l s is = record {
        visits = visits_then before after old new turn a p still (l, d) (Ended tt) s;
        tagged = subst (λ (x : Shown). FindsTagged q own (visits_then before after old new turn a p still (l, d) (Ended tt) s) (items_in x)) (sym is)
            (s.tagged refl q a.calls a.visits a.came);
        each = each_then before after old new turn a p still (l, d) (Ended tt) s;
      }

  -- ---- a run

  went : (before : Seen) (old : World) (after : Seen) (new : World) → IsAmid old before → Went who before old after new → after.counts.stale ≤ before.counts.stale → IsAmid new after
  went before old after new a start still = a
  went before old after new a (further mid _ world _ before_it step) still =
      let first = went_stale who before old mid world before_it in
      let last = step_stale who mid after world new More step in
      goes_on mid after world new (went before old mid world a before_it (omega (arith, last, still))) step (omega (arith, first, still))

  pub comes : (before after : Seen) (old new : World) → IsAmid old before → (c : ComesTo who (span_of before after old new) answer.Scan) → after.counts.stale ≤ before.counts.stale
      → HasFound (items_of c.steps.session.after)
  comes before after old new a c still =
      let first = went_stale who before old c.mid c.world c.went in
      let last = step_stale who c.mid after c.world new (Ended answer.Scan) c.steps in
      ends c.mid after c.world new (went before old c.mid c.world a c.went (omega (arith, last, still))) c.steps (omega (arith, first, still))
