-- What a removal that is done leaves in the trace.
use Rattle.std.proofs.Common.{◌≡◌, ◌∙◌, ◌+◌, ◌++◌, [], ◌∷◌, length, Result, Ok, Err, Some, OnOk, ap, sym}
use Rattle.db_base.specs.declared.names.ObjName.{ObjName}
use Rattle.cloud_trait.specs.declared.answer.Answer.TheVariants.{Done}
use Rattle.cloud_trait.specs.declared.fault.HeldFault.{HeldFault}
use Rattle.cloud_trait.specs.declared.state.Site.TheVariants.{Object}
use Rattle.cloud_trait.specs.Answers.{held_answer_of, done_by}
use Rattle.cloud_trait.specs.Ask.{RemoveHeld}
use Rattle.cloud_trait.specs.Caller.{Caller}
use Rattle.cloud_trait.specs.Claim.{Claim}
use Rattle.cloud_trait.specs.Seen.{Seen}
use Rattle.cloud_trait.specs.State.{CloudState}
use Rattle.cloud_trait.specs.Weather.{counted, Makes, Leaves}

-- a removal that is done leaves its row behind the others
pub removal_row : {A : Type 0} (who : Caller) (name : ObjName) (l : Claim) (r : Result A HeldFault) (old new : Seen) (s t : CloudState) → Makes who (RemoveHeld name l) (held_answer_of done_by r) old new → old.state ≡ Some s → new.state ≡ Some t → OnOk r (t.trace ≡ s.trace ++ record { who = who; site = Object name; position = length (s.versions name) + 1 } ∷ [])
removal_row who name l (Ok x) old new s t made before after =
    let left : Leaves who (RemoveHeld name l) Done (counted old.counts s) new.counts new.state = made.state s before in
    let same : Some t ≡ Some left.after = sym after ∙ left.told in
    let now : t ≡ left.after = cc in
    ap (λ (u : CloudState). u.trace) now ∙ ap (λ (u : CloudState). u.trace) left.row.0
removal_row who name l (Err e) old new s t made before after = tt
