-- The order only grows: the orders of earlier reports are where it begins.
use Rattle.std.proofs.Common.{◌≡◌, ◌+◌, ℕ, List, [], ◌∷◌, ◌++◌, length, Some, ap, subst, ◌∙◌, ◌⊎◌, inl, inr}
use Rattle.std.specs.Prelude.{slice_get, ◌==◌}
use Rattle.std.proofs.lemmas.List.{append_assoc}
use Rattle.std.proofs.lemmas.List.Elements.{filter-append}
use Rattle.cloud_trait.specs.Growth.{BeginsWith}
use Rattle.history.specs.Fold.{of_tree}
use Rattle.report_types.specs.declared.entry.Entry.{Entry}
use Rattle.reply_text.specs.declared.reply.Reply.{Reply}
use Rattle.reply_text.specs.declared.reply.Reply.TheVariants as reply
use Rattle.replay_meaning.specs.Standing.{Line}
use Rattle.session_facts.specs.Lines.Facts.{IsFrontOf, Reported}
use Rattle.cloud_facts.proofs.Book.Places.{get_cases, get_single}

-- an order that goes on begins where the reported one does
front_more : (order later : List Entry) (r : Reply) → BeginsWith order later → IsFrontOf order r → IsFrontOf later r
front_more order later (reply.Report r) grown front = (
  front.0 ++ of_tree r.tree grown.0,
  ap (of_tree r.tree) grown.1 ∙ filter-append (λ (e : Entry). e.tree == r.tree) order grown.0
      ∙ ap (λ (es : List Entry). es ++ of_tree r.tree grown.0) front.1 ∙ append_assoc r.order front.0 (of_tree r.tree grown.0),
)
front_more order later r grown front = tt

pub reported_more : (lines : List Line) (order later : List Entry) → BeginsWith order later → Reported lines order → Reported lines later
reported_more lines order later grown all k line at = front_more order later line.reply grown (all k line at)

-- one line more
pub reported_line : (lines : List Line) (line : Line) (order : List Entry) → Reported lines order → IsFrontOf order line.reply → Reported (lines ++ line ∷ []) order
reported_line lines line order all front k other at = on (get_cases lines (line ∷ []) k other at)
  where
    on : (slice_get lines k ≡ Some other) ⊎ ((j : ℕ) × (k ≡ length lines + j) × (slice_get (line ∷ []) j ≡ Some other)) → IsFrontOf order other.reply
    on (inl h) = all k other h
    on (inr p) = subst (λ (l : Line). IsFrontOf order l.reply) (get_single line p.0 other p.2) front
