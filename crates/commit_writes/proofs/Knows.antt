-- What is known of a commit at each stage of what it writes, by its calls so far, the oldest first.
use Rattle.std.proofs.Common.{◌≡◌, ℕ, ◌++◌, List, length, Some}
use Rattle.std.specs.Prelude.{slice_get, take}
use Rattle.std.specs.List.{AllByRecursion}
use Rattle.db_base.specs.declared.trouble.Trouble.TheVariants as trouble
use Rattle.commit_writes.proofs.Words.{Ends, Goes, Stops, Answer, Stage, Deleting, Finished, Logging, Opening, Sending, Settling, Waiting, CommitAnswer, AtomicRec, Home}
use Rattle.head_codec.specs.Spelling.{head_bytes}
use Rattle.log_codec.specs.Atomic.{atomic_bytes}
use Rattle.log_codec.specs.Pu.{pu_bytes}
use Rattle.route_plan.specs.Record.{pu_record_of}
use Rattle.cloud_trait.specs.Machine.{Next}
use Rattle.commit_writes.specs.Writing.{Writing, with_head, before_of}
use Rattle.commit_writes.specs.Calls.{Calls, logged_calls, deleted_calls, opened_of, settled_of, all_logged, all_posted, all_settled}
use Rattle.commit_writes.specs.Meaning.{Means, WasTried}

-- the records before the next one are in the ATOMIC queue
pub record KnowsLogging (h : Home) (cs : Calls) (w : Writing) : Type 0 where
  pub r : AtomicRec
  pub here : slice_get w.records w.place ≡ Some r
  pub out : w.out ≡ atomic_bytes r
  pub home : w.home ≡ h
  pub logged : length w.ids ≡ w.place
  pub calls : cs ≡ logged_calls h.client (take w.place w.records) w.ids

-- all are, and the head that commits is put next
pub record KnowsOpening (h : Home) (cs : Calls) (w : Writing) : Type 0 where
  pub out : w.out ≡ head_bytes (opened_of h w.records)
  pub home : w.home ≡ with_head h (opened_of h w.records)
  pub before : w.before ≡ before_of h.head
  pub logged : length w.ids ≡ length w.records
  pub calls : cs ≡ all_logged h w.records w.ids

-- that head landed, and the records before the next one are in their pending update queues
pub record KnowsSending (h : Home) (cs : Calls) (w : Writing) : Type 0 where
  pub r : AtomicRec
  pub here : slice_get w.records w.place ≡ Some r
  pub out : w.out ≡ pu_bytes (pu_record_of r)
  pub home : w.home ≡ with_head h (opened_of h w.records)
  pub logged : length w.ids ≡ length w.records
  pub posts : List ℕ
  pub posted : length posts ≡ w.place
  pub calls : cs ≡ all_posted h w.records w.ids (take w.place w.records) posts

-- all are, and the head that settles is put next
pub record KnowsSettling (h : Home) (cs : Calls) (w : Writing) : Type 0 where
  pub out : w.out ≡ head_bytes (settled_of h w.records)
  pub home : w.home ≡ with_head h (settled_of h w.records)
  pub logged : length w.ids ≡ length w.records
  pub posts : List ℕ
  pub posted : length posts ≡ length w.records
  pub calls : cs ≡ all_posted h w.records w.ids w.records posts

-- that head landed, and the ATOMIC messages before the next one are deleted
pub record KnowsDeleting (h : Home) (cs : Calls) (w : Writing) : Type 0 where
  pub id : ℕ
  pub here : slice_get w.ids w.place ≡ Some id
  pub home : w.home ≡ with_head h (settled_of h w.records)
  pub logged : length w.ids ≡ length w.records
  pub posts : List ℕ
  pub posted : length posts ≡ length w.records
  pub answers : List Answer
  pub deleted : length answers ≡ w.place
  pub tried : AllByRecursion WasTried answers
  pub calls : cs ≡ all_settled h w.records w.ids posts ++ deleted_calls h.client (take w.place w.ids) answers

abbrev pub KnowsAt : Stage → Home → Calls → Writing → Type 0
KnowsAt Waiting h cs w = ⊥
KnowsAt Logging h cs w = KnowsLogging h cs w
KnowsAt Opening h cs w = KnowsOpening h cs w
KnowsAt Sending h cs w = KnowsSending h cs w
KnowsAt Settling h cs w = KnowsSettling h cs w
KnowsAt Deleting h cs w = KnowsDeleting h cs w
KnowsAt Finished h cs w = ⊥

abbrev pub Knows : Home → List AtomicRec → Calls → Writing → Type 0
Knows h rs cs w = (w.records ≡ rs) × KnowsAt w.stage h cs w

-- what is known where a step leads
abbrev pub KnowsNext : Home → List AtomicRec → Calls → Next Writing CommitAnswer → Type 0
KnowsNext h rs cs (Goes m) = Knows h rs cs m
KnowsNext h rs cs (Ends m a) = Means h rs cs m.home a
KnowsNext h rs cs (Stops m t) = t ≡ trouble.Memory
