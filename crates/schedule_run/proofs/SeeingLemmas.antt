-- Where no look failed, each report of lines that were handled one behind another comes.
use Rattle.std.proofs.Common.{◌≡◌, ◌<◌, ◌≤◌, ◌+◌, ◌⊎◌, ℕ, List, [], ◌∷◌, ◌++◌, length, true, false, Some, Ok, refl, sym, subst, ◌∙◌, inl, inr, arith, length-append}
use Rattle.std.proofs.lemmas.Option.{slice_get_within}
use Rattle.std.proofs.lemmas.Bool.{cases_lt}
use Rattle.cloud_trait.proofs.StateLemmas.{slice_get-push}
use Rattle.cloud_facts.specs.Words.{IsTree, CloudState, Seen}
use Rattle.cloud_trait.specs.Weather.{Rose}
use Rattle.event_text.specs.declared.event.Event.{Event}
use Rattle.event_text.specs.declared.event.Event.TheVariants as event
use Rattle.replay_meaning.specs.Standing.{Line, session_of, standing}
use Rattle.report_types.specs.declared.report.Report.{Report}
use Rattle.reply_text.specs.declared.reply.Reply.TheVariants as reply
use Rattle.world_core.specs.World.{World}
use Rattle.world_core.specs.Handled.{Handled}
use Rattle.world_core.specs.Sound.{IsSoundFor}
use Rattle.world_core.specs.Stands.{WorldStands}
use Rattle.world_core.specs.Span.{span_of}
use Rattle.world_core.proofs.Seeing.{SeesOn, handled_sees, report_comes}
use Rattle.world_core.proofs.Sound.{sound_after}
use Rattle.schedule_run.specs.Answered.{WentOn, start, further, IsNoReport, AskNoReport, ReportsCome}
use Rattle.schedule_run.proofs.SoundLemmas.{get_before, same_some, went_soundly}

-- no fewer looks have failed, and a world that is blinded saw one fail
pub record HaveSeen (before after : Seen) (new : World) : Type 0 where
  pub dark : before.counts.dark ≤ after.counts.dark
  pub blinded : new.blind ≡ true → Rose before.counts.dark after.counts.dark

seen_more : (before mid after : Seen) (world new : World) → HaveSeen before mid world → SeesOn mid after world new → HaveSeen before after new
seen_more before mid after world new so more = record { dark = omega (arith, first, second); blinded = λ b. on (more.blinded b) }
  where
    first : before.counts.dark ≤ mid.counts.dark
    first = so.dark

    second : mid.counts.dark ≤ after.counts.dark
    second = more.dark

    earlier : Rose before.counts.dark mid.counts.dark → Rose before.counts.dark after.counts.dark
    earlier rose = omega (arith, rose, second)

    on : (world.blind ≡ true) ⊎ Rose mid.counts.dark after.counts.dark → Rose before.counts.dark after.counts.dark
    on (inl e) = earlier (so.blinded e)
    on (inr rose) = omega (arith, rose, first)

lines_see : (before : Seen) (old : World) (lines : List Line) (after : Seen) (new : World) → WentOn before old lines after new → old.blind ≡ false → HaveSeen before after new
lines_see before old lines after new start sees = record {
  dark = omega arith;
  blinded = λ blind. absurd (let never : false ≡ true = sym sees ∙ blind in cc);
}
lines_see before old lines after new (further earlier line mid _ world _ went handled) sees =
    seen_more before mid after world new (lines_see before old earlier mid world went sees) (handled_sees (length earlier + 1) line.event mid after world new line.reply handled)

-- the report of the newest line, behind lines whose reports come
module _ (before mid after : Seen) (world new : World) (lines : List Line) (line : Line) (so : HaveSeen before mid world) (come : ReportsCome lines before mid)
    (handled : Handled (length lines + 1) line.event (span_of mid after world new) (Ok line.reply))
    (sound : IsSoundFor line.event (standing lines (session_of line.event)).posture line.reply) where
  first : before.counts.dark ≤ mid.counts.dark
  first = so.dark

  second : mid.counts.dark ≤ after.counts.dark
  second = (handled_sees (length lines + 1) line.event mid after world new line.reply handled).dark

  saw : after.counts.dark ≡ before.counts.dark → world.blind ≡ true → ⊥
  saw still blind = let rose = so.blinded blind in omega (arith, rose, still, second)

  newest : (tree : ℕ) → after.counts.dark ≡ before.counts.dark → line.event ≡ event.Report tree → IsTree tree → (r : Report) × (line.reply ≡ reply.Report r)
  newest tree still asked is =
      report_comes (length lines + 1) tree mid after world new line.reply
      (subst (λ (e : Event). Handled (length lines + 1) e (span_of mid after world new) (Ok line.reply)) asked handled) is
      (subst (λ (e : Event). IsSoundFor e (standing lines (session_of e)).posture line.reply) asked sound) (saw still) (omega (arith, first, second, still))

  comes_more : ReportsCome (lines ++ line ∷ []) before after
  comes_more still k l tree at asked is = on (cases_lt k (length lines))
    where
      on : (k < length lines) ⊎ (length lines ≤ k) → (r : Report) × (l.reply ≡ reply.Report r)
      on (inl less) = come (omega (arith, first, second, still)) k l tree (sym (get_before lines line k less) ∙ at) asked is
      on (inr more) =
          let within : k < length (lines ++ line ∷ []) = slice_get_within (lines ++ line ∷ []) k l at in
          let e : k ≡ length lines = omega (arith, length-append lines (line ∷ [])) in
          let same : line ≡ l = same_some line l (sym (slice_get-push lines line k e) ∙ at) in
          let mine = newest tree still (subst (λ (x : Line). x.event ≡ event.Report tree) (sym same) asked) is in
          subst (λ (x : Line). (r : Report) × (x.reply ≡ reply.Report r)) same mine

-- where neither they nor a line behind them ask for a report, all ask for none
pub unasked_more : (lines : List Line) (line : Line) → AskNoReport lines → IsNoReport line.event → AskNoReport (lines ++ line ∷ [])
unasked_more lines line none one k l at tree asked = on (cases_lt k (length lines))
  where
    on : (k < length lines) ⊎ (length lines ≤ k) → ⊥
    on (inl less) = none k l (sym (get_before lines line k less) ∙ at) tree asked
    on (inr more) =
        let within : k < length (lines ++ line ∷ []) = slice_get_within (lines ++ line ∷ []) k l at in
        let e : k ≡ length lines = omega (arith, length-append lines (line ∷ [])) in
        let same : line ≡ l = same_some line l (sym (slice_get-push lines line k e) ∙ at) in
        one tree (subst (λ (x : Line). x.event ≡ event.Report tree) (sym same) asked)

pub went_comes : (before : Seen) (old : World) (t : CloudState) (lines : List Line) (after : Seen) (new : World) → WentOn before old lines after new → before.state ≡ Some t
    → WorldStands [] old t → old.blind ≡ false → ReportsCome lines before after
went_comes before old t lines after new start told stands sees = λ still k line tree at asked is. absurd (cc)
went_comes before old t lines after new (further earlier line mid _ world _ went handled) told stands sees =
    let o = went_soundly before old t earlier mid world went told stands in
    comes_more before mid after world new earlier line (lines_see before old earlier mid world went sees) (went_comes before old t earlier mid world went told stands sees) handled
    (sound_after (length earlier + 1) line.event mid after world new (Ok line.reply) handled earlier o.state refl o.told o.stands)
