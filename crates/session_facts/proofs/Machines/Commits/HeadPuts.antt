-- The puts of heads that a commit has in hand, and the leases that it names.
use Rattle.std.proofs.Common.{◌≡◌, inl, inr, ℕ, Bool, true, false, List, [], Option, Some, None, refl, sym, ap, subst, ◌∙◌}
use Rattle.std.specs.Prelude.{slice_get}
use Rattle.cloud_facts.specs.Words.{ObjName, AtomicRec, Head, Claim, Ask, PutHeld, Store}
use Rattle.session_facts.specs.Machines.Commits.Knows.{KnowsCommitAt, KnowsCommit}
use Rattle.session_facts.specs.Machines.Commits.HeadPuts.{PutsHead}
use Rattle.commit_writes.specs.declared.stage.Stage.{Stage}
use Rattle.commit_writes.specs.declared.stage.Stage.TheVariants.{Waiting, Logging, Opening, Sending, Settling, Deleting, Finished}
use Rattle.commit_writes.specs.Sound.{SendsRecord, IsThere, IsSoundAt, IsSound}
use Rattle.commit_writes.specs.Writing.{Writing, send_ask, delete_ask, ask_at, writing_ask, opens_at}
use Rattle.db_base.specs.declared.names.ObjName.TheVariants as object
use Rattle.head_codec.specs.Spelling.{head_of}
use Rattle.cloud_facts.specs.Homes.Homes.{Part}
use Rattle.std.proofs.lemmas.Bool.{true≢false}

-- ---- what an ask puts

abbrev put_bytes : Ask → List ℕ
put_bytes (PutHeld name bytes one two) = bytes
put_bytes ask = []

abbrev client_in : ObjName → ℕ
client_in (object.Head client) = client
client_in (object.Tree tree) = 0
client_in (object.Page tree page) = 0

abbrev put_client : Ask → ℕ
put_client (PutHeld name bytes one two) = client_in name
put_client ask = 0

abbrev puts : Ask → Bool
puts (PutHeld name bytes one two) = true
puts ask = false

-- an ask that puts nothing is no put
no_put : {X : Type 0} (a : Ask) (client : ℕ) (bytes : List ℕ) (one : Claim) (two : Option Claim) → puts a ≡ false → a ≡ PutHeld (object.Head client) bytes one two → X
no_put a client bytes one two none e = absurd (true≢false (sym (ap puts e) ∙ none))

-- ---- the head

module _ (st : Store) (now : ℕ) (w : Writing) (client : ℕ) (bytes : List ℕ) (one : Claim) (two : Option Claim) where
  sends_none : (o : Option AtomicRec) → SendsRecord w o → send_ask w o ≡ PutHeld (object.Head client) bytes one two → PutsHead w client bytes
  sends_none (Some r) sends e = no_put (send_ask w (Some r)) client bytes one two refl e
  sends_none None sends e = absurd sends

  deletes_none : (o : Option ℕ) → IsThere o → delete_ask w o ≡ PutHeld (object.Head client) bytes one two → PutsHead w client bytes
  deletes_none (Some id) is e = no_put (delete_ask w (Some id)) client bytes one two refl e
  deletes_none None is e = absurd is

  pub commit_puts : (part : Part) → writing_ask w ≡ PutHeld (object.Head client) bytes one two → KnowsCommit st now w part → IsSound w → PutsHead w client bytes
  commit_puts part e k sound = on w.stage refl k.at sound e
    where
      on : (stage : Stage) → w.stage ≡ stage → KnowsCommitAt stage st now w k.home → IsSoundAt stage w → ask_at stage w ≡ PutHeld (object.Head client) bytes one two → PutsHead w client bytes
      on Waiting is a sound put = absurd a
      on Logging is a sound put = no_put (ask_at Logging w) client bytes one two refl put
      on Opening is a sound put = record {
        head = w.home.head;
        spells = subst (λ (b : List ℕ). head_of b ≡ Some w.home.head) (ap put_bytes put) sound;
        client_is = ap put_client put;
        how = inl (record { opens = ap (λ (g : Stage). opens_at g w) is; phase_is = ap (λ (h : Head). h.phase) a.head });
      }
      on Sending is a sound put = sends_none (slice_get w.records w.place) sound put
      on Settling is a sound put = record {
        head = w.home.head;
        spells = subst (λ (b : List ℕ). head_of b ≡ Some w.home.head) (ap put_bytes put) sound;
        client_is = ap put_client put;
        how = inr (ap (λ (g : Stage). opens_at g w) is, ap (λ (h : Head). h.phase) a.head);
      }
      on Deleting is a sound put = deletes_none (slice_get w.ids w.place) sound put
      on Finished is a sound put = absurd a
