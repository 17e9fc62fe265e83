-- Looks one after another.
use Rattle.std.proofs.Common.{◌≡◌, ℕ, List, Option, Some, refl, sym, arith, ◌∙◌, inl, inr}
use Rattle.db_base.specs.declared.names.ObjName.{ObjName}
use Rattle.cloud_trait.specs.Bench.{IsShown}
use Rattle.cloud_trait.specs.Seen.{Seen}
use Rattle.cloud_trait.specs.State.{CloudState, newest}
use Rattle.world_audit.specs.Finding.{IsAsTold}
use Rattle.world_audit.specs.Look.{Looked}

-- no look at all
pub looked_not : (s : Seen) → Looked s s
looked_not s = record { faults = refl; withheld = refl; stale = refl; dark = omega arith; heard = refl; shown = refl; stays = λ x h. h }

pub looked_on : (s t u : Seen) → Looked s t → Looked t u → Looked s u
looked_on s t u a b = record {
  faults = b.faults ∙ a.faults;
  withheld = b.withheld ∙ a.withheld;
  stale = b.stale ∙ a.stale;
  dark = omega (arith, a.dark, b.dark);
  heard = b.heard ∙ a.heard;
  shown = b.shown ∙ a.shown;
  stays = λ x h. b.stays x (a.stays x h);
}

-- what the cloud tells of a state stands behind looks
pub told_stays : (s t : Seen) (x : CloudState) → Looked s t → IsAsTold s x → IsAsTold t x
told_stays s t x a (inl h) = inl (a.stays x h)
told_stays s t x a (inr h) = inr (h.0, a.shown ∙ h.1, h.2)

-- what a look showed is the newest version of each state that is as the cloud tells
pub told_newest : (s : Seen) (name : ObjName) (found : Option (List ℕ)) → ((x : CloudState) → s.state ≡ Some x → found ≡ newest x name) → IsShown s name found
    → (x : CloudState) → IsAsTold s x → found ≡ newest x name
told_newest s name found told shown x (inl h) = told x h
told_newest s name found told shown x (inr h) = shown h.0 h.1 ∙ sym (h.2 name)

-- and behind other looks it is that of each state that was so before them
pub told_behind : (s t : Seen) (name : ObjName) (found : Option (List ℕ)) → Looked s t → ((x : CloudState) → t.state ≡ Some x → found ≡ newest x name) → IsShown t name found
    → (x : CloudState) → IsAsTold s x → found ≡ newest x name
told_behind s t name found looked told shown x h = told_newest t name found told shown x (told_stays s t x looked h)
