-- The calls of a tree checkpoint from its begin on, as a session makes them: the cloud told them, and what they brought nests.
use Rattle.std.proofs.Common.{◌≡◌, ℕ, List, [], ◌∷◌, Some, None, refl, sym, subst, ◌∙◌, arith}
use Rattle.cloud_facts.proofs.Calls.Calls.{call_of}
use Rattle.cloud_facts.proofs.Calls.Copies.{begins_on}
use Rattle.cloud_facts.specs.Words.{ObjName, Entry, Answer, Ended, CloudState, Caller, Seen, PutHeld, Goes, Deed, calls_of, Book, store_of, StandsUnder}
use Rattle.cloud_trait.proofs.EffectLemmas.{grown_itself}
use Rattle.cloud_trait.specs.declared.answer.Answer.TheVariants.{Done}
use Rattle.cloud_trait.specs.declared.turn.CkptAnswer.{CkptAnswer}
use Rattle.cloud_trait.specs.Growth.{HasGrown}
use Rattle.cloud_trait.specs.Machine.{Came, Took, Follows}
use Rattle.cloud_trait.specs.Upto.{posts_of}
use Rattle.cloud_trait.specs.Weather.{Makes}
use Rattle.session_facts.proofs.Machines.TreeCheckpoints.Landed.{up_told, work_told}
use Rattle.session_facts.proofs.Machines.TreeCheckpoints.NestingSteps.{step_nests}
use Rattle.session_facts.proofs.Machines.TreeCheckpoints.PiecesNamed.{works_is, done_names}
use Rattle.session_facts.specs.Machines.TreeCheckpoints.Knows.{KnowsWork}
use Rattle.session_facts.specs.Machines.TreeCheckpoints.Named.{AreTold, HasLanded, CameTold, NamesPieces}
use Rattle.session_facts.specs.Machines.TreeCheckpoints.Nesting.{NestsOver, AreNested}
use Rattle.tree_ckpt.proofs.Causes.{went_brought}
use Rattle.tree_ckpt.proofs.Meaning.{went_done, took_done}
use Rattle.tree_ckpt.specs.Causes.{Calls}
use Rattle.tree_ckpt.specs.Making.{Making, new_making, making_ask, MakingLeads, KeepsLeases}
use Rattle.tree_ckpt.specs.Meaning.{IsDone, opening_calls}
use Rattle.tree_ckpt.specs.Working.{IsAmong, Worked, worked_calls}

pub grown_on : (r s t : CloudState) → HasGrown r s → HasGrown s t → HasGrown r t
grown_on r s t one other = record {
  versions = λ name. begins_on (r.versions name) (s.versions name) (t.versions name) (one.versions name) (other.versions name);
  messages = λ queue. begins_on (posts_of (r.messages queue)) (posts_of (s.messages queue)) (posts_of (t.messages queue)) (one.messages queue) (other.messages queue);
  trace = begins_on r.trace s.trace t.trace one.trace other.trace;
  later = let a = one.later in let b = other.later in omega (arith, a, b);
}

-- before its first call
pub told_begun : (s : CloudState) (tree : ℕ) → CameTold s (new_making tree)
told_begun s tree = record { made = []; came = refl; told = tt; nested = tt }

-- beside other calls
told_on : (h : List Deed) (s t : CloudState) → HasGrown s t → AreTold h s → AreTold h t
told_on [] s t grown k = tt
told_on (d ∷ h) s t grown k = (k.0, k.1, k.2, k.3, grown_on k.1 s t k.4 grown, k.5)

pub told_beside : (s t : CloudState) (m : Making) → HasGrown s t → CameTold s m → CameTold t m
told_beside s t m grown k = record { made = k.made; came = k.came; told = told_on k.made s t grown k.told; nested = k.nested }

-- the next one comes behind the last
comes_behind : (h : List Deed) (d : Deed) (s : CloudState) → AreTold h s → d.before.state ≡ Some s → Follows h d
comes_behind [] d s k now = tt
comes_behind (last ∷ h) d s k now = λ x y left seen.
    let from : k.1 ≡ x = let both : Some k.1 ≡ Some x = sym k.3 ∙ left in cc (both) in
    let to : s ≡ y = let both : Some s ≡ Some y = sym now ∙ seen in cc (both) in
    subst (λ (z : CloudState). HasGrown z y) from (subst (HasGrown k.1) to k.4)

module _ (who : Caller) (before after : Seen) (s : CloudState) (told : before.state ≡ Some s) (m : Making) (k : CameTold s m) (a : Answer) (made : Makes who (making_ask m) a before after) where
  -- a call that goes on
  pub told_goes : (t : CloudState) (book : Book) (order : List Entry) (n : Making) → after.state ≡ Some t → StandsUnder book order s → KnowsWork (store_of book order s) s.now m.tree m.work
      → MakingLeads m a (Goes n) → CameTold t n
  told_goes t book order n told_after stands knows leads = record {
    made = deed ∷ k.made;
    came = (
      m,
      subst (λ (tree : ℕ). Came making_ask MakingLeads (new_making tree) k.made m) (sym same) k.came,
      refl,
      made,
      leads,
      comes_behind k.made deed s k.told told,
    );
    told = (s, t, told, told_after, grown_itself t t refl refl refl refl, k.told);
    nested = subst (λ (tree : ℕ). AreNested tree (calls_of (deed ∷ k.made))) (sym same) (nests, k.nested);
  }
    where
      deed : Deed
      deed = record { who = who; ask = making_ask m; answer = a; before = before; after = after }

      same : n.tree ≡ m.tree
      same = leads.0.0

      nests : NestsOver m.tree (making_ask m, a) (calls_of k.made)
      nests =
          step_nests book order s t stands who a m.tree (calls_of k.made) m.work knows (went_done m k.made k.came)
          (call_of who (making_ask m) a before after s t made told told_after)

  -- the last one
  pub told_names : (n : Making) (x : CkptAnswer) → Took MakingLeads KeepsLeases m a n (Ended x) → NamesPieces s m x
  told_names n x took = record {
    made = k.made;
    came = k.came;
    told = k.told;
    done = done;
    pieces = λ w e. done_names (making_ask m) m.tree m.received k.made x done k.nested w e;
    rights = λ w e. (works_is m.tree done.lease done.opening.run done.opening.got done.work done.worked w e done.each).1.rights;
    lands = λ w e level entry named. up_told m.tree done.lease s w level entry (told_by w (works_is m.tree done.lease done.opening.run done.opening.got done.work done.worked w e done.each).0) named;
  }
    where
      done : IsDone (making_ask m) m.tree m.received k.made x
      done = took_done m n k.made a (Ended x) k.came (went_brought m k.made k.came) (went_done m k.made k.came) took

      told_by : (w : Worked) → done.work ≡ worked_calls m.tree done.lease w → (name : ObjName) (bytes : List ℕ)
          → IsAmong (PutHeld name bytes done.lease None, Done) (worked_calls m.tree done.lease w) → HasLanded s name bytes
      told_by w is name bytes there =
          work_told (new_making m.tree) k.made m s m.tree done.lease done.tried done.work (opening_calls m.tree done.lease done.opening) k.came k.told done.calls name bytes
          (subst (λ (cs : Calls). IsAmong (PutHeld name bytes done.lease None, Done) cs) (sym is) there)
