-- A replay over a new cloud in memory keeps the theorem: all that this rests on is met.
use Rattle.std.proofs.Common.{◌≡◌, ℕ, List, [], ◌∷◌, ◌++◌, Some, Ok, Err, sym, ap, subst, ◌∙◌}
use Rattle.std.specs.Prelude.{codes}
use Rattle.std.proofs.lemmas.List.{append-nil}
use Rattle.cloud_trait.specs.Seen.{Seen}
use Rattle.cloud_trait.specs.State.{CloudState, IsEmptyCloud}
use Rattle.command_words.specs.Words.{shape_of}
use Rattle.db_io.specs.Content.{Told}
use Rattle.db_io.specs.Writes.{Written}
use Rattle.db_io.specs.declared.input.InputFault.{InputFault}
use Rattle.db_io.specs.declared.input.InputFault.TheVariants as input
use Rattle.schedule_run.specs.Outside.{effects, outside}
use Rattle.schedule_run.specs.Written.{replies}
use Rattle.schedule_run.specs.Replayed.{AreSpelled, WentThrough}
use Rattle.schedule_run.specs.Run.{Ran, Replays, replay_unread, replay_went}
use Rattle.schedule_run.specs.Status.{status_of_input, status_of_line}
use Rattle.schedule_run.specs.declared.replay.LineFault.{LineFault}
use Rattle.schedule_run.specs.declared.replay.LineFault.TheVariants as line
use Rattle.schedule_run.specs.declared.status.Status.TheVariants.{Done}
use Rattle.run_tests.specs.Theorem.{IsReplayOf}

-- an input that was not read ends no run well
unread_never : (fault : InputFault) → Done ≡ status_of_input fault → ⊥
unread_never input.ReadFault e = absurd (cc)
unread_never input.TooLong e = absurd (cc)
unread_never input.Memory e = absurd (cc)

-- nor do lines that were not all handled
fault_never : (fault : LineFault) → Done ≡ status_of_line fault → ⊥
fault_never line.BadLine e = absurd (cc)
fault_never line.WriteFault e = absurd (cc)
fault_never line.Memory e = absurd (cc)

module _ (text : List ℕ) (written : List (List ℕ)) (left rest : Told) (w u : Written) (start now : Seen) (s : CloudState) (content : left.content ≡ Some text)
    (empty : w.writes ≡ Some []) (is : u.writes ≡ Some written) (told : start.state ≡ Some s) (fresh : IsEmptyCloud s) where
  went_whole : WentThrough text (Ok tt) (effects w start) (effects u now) → IsReplayOf text written
  went_whole h =
      let keeps = h.theorem s told fresh in
      record {
        lines = h.lines;
        spelled = subst (λ texts. AreSpelled texts h.lines) (sym (h.at ∙ ap (λ later. h.earlier ++ later) h.so.0 ∙ append-nil h.earlier)) h.spelled;
        wrote = let e : Some written ≡ Some (replies h.lines) = sym is ∙ h.so.2 [] empty in cc;
        cloud = keeps.0;
        right = keeps.2;
        sound = keeps.3;
        acts = keeps.4;
        kept = keeps.5;
        traced = keeps.6;
      }

  replays_whole : Replays Done (outside left w start) (outside rest u now) → IsReplayOf text written
  replays_whole (replay_unread fault e nothing) = absurd (unread_never fault e)
  replays_whole (replay_went read (Err fault) e went) = absurd (fault_never fault e)
  replays_whole (replay_went read (Ok done) e went) = went_whole (subst (λ bytes. WentThrough bytes (Ok tt) (effects w start) (effects u now)) (sym (read.all text content)) went)

  pub is_replay : (words : List (List ℕ)) → words ≡ codes "replay" ∷ [] → Ran (shape_of words) Done (outside left w start) (outside rest u now) → IsReplayOf text written
  is_replay words e ran = replays_whole (subst (λ ws. Ran (shape_of ws) Done (outside left w start) (outside rest u now)) e ran)
