-- The puts of heads that an opening has in hand.
use Rattle.std.proofs.Common.{◌≡◌, ℕ, Bool, true, false, List, [], ◌∷◌, Option, Some, None, refl, sym, ap, subst, ◌∙◌}
use Rattle.std.specs.Prelude.{slice_get}
use Rattle.cloud_facts.specs.Words.{ObjName, Head, Claim, Ask, GetHeld, PutHeld, Release, Store}
use Rattle.db_base.specs.declared.names.ObjName.TheVariants as object
use Rattle.head_codec.specs.Spelling.{head_of}
use Rattle.cloud_facts.specs.Homes.Homes.{Part}
use Rattle.session_facts.specs.Machines.Openings.Knows.{KnowsOpeningAt, KnowsOpening}
use Rattle.session_facts.specs.Machines.Openings.HeadPuts.{PutsHead}
use Rattle.recover_run.specs.declared.items.AtomicItem.{AtomicItem}
use Rattle.recover_run.specs.declared.stage.Stage.{Stage}
use Rattle.recover_run.specs.declared.stage.Stage.TheVariants.{ReleasingOld, Taking, Getting, Receiving, Deleting, Sending, Putting, Clearing, Sweeping, Releasing, Finished}
use Rattle.recover_run.specs.Recovery.{Recovery, ask_at, recovery_ask, under, delete_next, send_next, IsSound, IsSoundAt}

-- ---- what an ask puts

abbrev put_bytes : Ask → List ℕ
put_bytes (PutHeld name bytes one two) = bytes
put_bytes ask = []

abbrev client_in : ObjName → ℕ
client_in (object.Head client) = client
client_in (object.Tree tree) = 0
client_in (object.Page tree page) = 0

abbrev put_client : Ask → ℕ
put_client (PutHeld name bytes one two) = client_in name
put_client ask = 0

abbrev puts : Ask → Bool
puts (PutHeld name bytes one two) = true
puts ask = false

-- ---- which asks put

under_none : (r : Recovery) (o : Option Claim) (make : Claim → Ask) → ((l : Claim) → puts (make l) ≡ false) → puts (under r o make) ≡ false
under_none r (Some l) make none = none l
under_none r None make none = refl

delete_none : (r : Recovery) (ids : List ℕ) → puts (delete_next r ids) ≡ false
delete_none r (id ∷ ids) = refl
delete_none r [] = refl

send_none : (r : Recovery) (o : Option AtomicItem) → puts (send_next r o) ≡ false
send_none r (Some x) = refl
send_none r None = refl

module _ (st : Store) (now : ℕ) (r : Recovery) (part : Part) (client : ℕ) (bytes : List ℕ) (one : Claim) (two : Option Claim) where
  none : (stage : Stage) → puts (ask_at stage r) ≡ false → ask_at stage r ≡ PutHeld (object.Head client) bytes one two → PutsHead r client bytes
  none stage quiet e = absurd (never (sym quiet ∙ ap puts e))
    where
      never : false ≡ true → ⊥
      never h = cc

  by_stage : (stage : Stage) → KnowsOpeningAt stage st now r part → IsSoundAt stage r → ask_at stage r ≡ PutHeld (object.Head client) bytes one two → PutsHead r client bytes
  by_stage ReleasingOld a w e = none ReleasingOld (under_none r r.former Release (λ l. refl)) e
  by_stage Taking a w e = none Taking refl e
  by_stage Getting a w e = none Getting (under_none r r.lease (λ l. GetHeld (object.Head r.client) l) (λ l. refl)) e
  by_stage Receiving a w e = none Receiving refl e
  by_stage Deleting a w e = none Deleting (delete_none r r.ids) e
  by_stage Sending a w e = none Sending (send_none r (slice_get r.gathered.kept r.sent)) e
  by_stage Putting a w e =
      let put : PutHeld (object.Head r.client) r.out a.read.held.now None ≡ PutHeld (object.Head client) bytes one two =
      sym (ap (λ (o : Option Claim). under r o (λ l. PutHeld (object.Head r.client) r.out l None)) a.read.held.is) ∙ e in
      record {
        head = r.head;
        spells = subst (λ (b : List ℕ). head_of b ≡ Some r.head) (ap put_bytes put) w.1;
        client_is = ap put_client put;
        settled = ap (λ (h : Head). h.phase) a.head_is;
      }
  by_stage Clearing a w e = none Clearing (delete_none r r.ids) e
  by_stage Sweeping a w e = none Sweeping refl e
  by_stage Releasing a w e = none Releasing (under_none r r.lease Release (λ l. refl)) e
  by_stage Finished a w e = absurd a

-- a put in hand is of a head that is settled
pub opening_puts : (st : Store) (now : ℕ) (r : Recovery) (part : Part) (client : ℕ) (bytes : List ℕ) (one : Claim) (two : Option Claim) → KnowsOpening st now r part → IsSound r
    → recovery_ask r ≡ PutHeld (object.Head client) bytes one two → PutsHead r client bytes
opening_puts st now r part client bytes one two k sound e = by_stage st now r part client bytes one two r.stage k.at sound e
