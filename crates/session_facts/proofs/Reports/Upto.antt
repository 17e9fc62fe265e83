-- A report that is right stays right for a later state, cut at its line, and under more lines.
use Rattle.std.proofs.Common.{◌≡◌, ℕ, List, [], Some, ap, sym, ◌∙◌}
use Rattle.std.specs.Prelude.{slice_get, All}
use Rattle.cloud_facts.specs.Words.{ObjName, QueueName, Entry, Posted, CloudState, Caller}
use Rattle.cloud_trait.specs.State.{newest_of}
use Rattle.cloud_trait.specs.Upto.{AgreeUpto, IsUpto, upto, posts_of}
use Rattle.cloud_trait.proofs.UptoLemmas.{upto_versions, upto_posts, upto_trace}
use Rattle.history.specs.Fold.{of_tree}
use Rattle.log_codec.specs.Pu.{pu_of}
use Rattle.cloud_facts.proofs.Numbers.Lists.{map_at, map_there}
use Rattle.report_types.specs.declared.report.Report.{Report}
use Rattle.replay_meaning.proofs.SameLemmas.{AreNewest, leads_same, finds_same}
use Rattle.replay_meaning.specs.Standing.{Line}
use Rattle.replay_meaning.specs.Kinds.{IsOfKind, OpensOnce, WasSentFor, KeepsKinds}
use Rattle.replay_meaning.specs.Right.{IsRight, value_at}
use Rattle.session_facts.proofs.Lines.Committed.{committed_same}
use Rattle.session_facts.proofs.Rows.Once.{once_same}
use Rattle.session_facts.proofs.Rows.Lines.{kinds_same}

-- two states hold the same, but for the marks of deleted messages
pub record HoldTheSame (s t : CloudState) : Type 0 where
  pub versions : (name : ObjName) → t.versions name ≡ s.versions name
  pub messages : (queue : QueueName) → posts_of (t.messages queue) ≡ posts_of (s.messages queue)
  pub trace : t.trace ≡ s.trace

-- what was sent for an entry is there under other marks
sent_same : (s t : CloudState) (entry : Entry) → ((queue : QueueName) → posts_of (t.messages queue) ≡ posts_of (s.messages queue)) → WasSentFor s entry → WasSentFor t entry
sent_same s t entry same w =
    let post : slice_get (posts_of (t.messages w.queue)) w.place ≡ Some (w.message.who, w.message.bytes) =
    ap (λ (posts : List (Caller × List ℕ)). slice_get posts w.place) (same w.queue) ∙ map_at (λ (m : Posted). (m.who, m.bytes)) (s.messages w.queue) w.place w.message w.there in
    let found = map_there (λ (m : Posted). (m.who, m.bytes)) (t.messages w.queue) w.place (w.message.who, w.message.bytes) post in
    record {
      queue = w.queue;
      of_tree = w.of_tree;
      place = w.place;
      message = found.0;
      there = found.1;
      sent = w.sent;
      spells = ap (λ (p : Caller × List ℕ). pu_of p.1) found.2 ∙ w.spells;
      client = w.client;
      epoch = w.epoch;
      txn = w.txn;
      change = w.change;
    }

kinds_keep : (lines : List Line) (s t : CloudState) (order : List Entry) → HoldTheSame s t → KeepsKinds lines s order → KeepsKinds lines t order
kinds_keep lines s t order same h =
    let all : t.versions ≡ s.versions = λ i name. same.versions name i in
    record {
      kinds = kinds_same lines s t all same.trace h.kinds;
      once = once_same s t all same.trace h.once;
      sent = λ place entry there. sent_same s t entry same.messages (h.sent place entry there);
    }

pub right_same : (lines : List Line) (s t : CloudState) (r : Report) → HoldTheSame s t → IsRight lines s r → IsRight lines t r
right_same lines s t r alike h =
    let same : AreNewest s t = λ name. ap newest_of (alike.versions name) in
    let all : t.versions ≡ s.versions = λ i name. alike.versions name i in
    record {
      committed = h.committed ∙ sym (ap (of_tree r.tree) (committed_same lines s t all alike.trace));
      leaves = h.leaves;
      chain = leads_same s t same r.tree 1 h.leaves 0 h.chain;
      contents = h.contents;
      found = λ key. finds_same s t same r.tree key (value_at key r.contents) (h.found key);
      ascending = h.ascending;
      folded = h.folded;
      legal = h.legal;
      complete = h.complete;
      grown = h.grown;
      kinds = kinds_keep lines s t r.order alike h.kinds;
    }

-- a later state, cut at the line of an earlier one, holds what that held
upto_same : (n : ℕ) (s t : CloudState) → IsUpto n s → AgreeUpto n s t → HoldTheSame s (upto t n)
upto_same n s t u a = record { versions = upto_versions n s t u a; messages = upto_posts n s t u a; trace = upto_trace n s t u a }

-- rows are of their kinds, and no transaction opens twice, in every later state, cut at the line
pub kinds_upto : (n : ℕ) (lines : List Line) (s t : CloudState) → IsUpto n s → AgreeUpto n s t → All (IsOfKind lines s) s.trace → OpensOnce s → KeepsKinds lines (upto t n) []
kinds_upto n lines s t u a kinds once =
    kinds_keep lines s (upto t n) [] (upto_same n s t u a) (record { kinds = kinds; once = once; sent = λ place entry there. absurd (cc) })
