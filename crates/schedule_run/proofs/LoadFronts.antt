-- What stood behind the first lines of those that were handled, and what a line among them did.
use Rattle.std.proofs.Common.{◌≡◌, ◌≤◌, ◌<◌, ◌+◌, ◌⊎◌, inl, inr, ℕ, zero, suc, List, [], ◌∷◌, ◌++◌, length, take, drop, Some, Ok, refl, sym, ap, subst, ◌∙◌, arith, length-append}
use Rattle.std.specs.Prelude.{slice_get}
use Rattle.std.proofs.lemmas.Bool.{cases_lt}
use Rattle.std.proofs.lemmas.List.{take-append-le, take_all}
use Rattle.cloud_trait.specs.Growth.{BeginsWith}
use Rattle.cloud_trait.specs.Seen.{Seen}
use Rattle.cloud_trait.specs.State.{CloudState}
use Rattle.replay_meaning.specs.Committed.{committed}
use Rattle.replay_meaning.specs.Standing.{Line}
use Rattle.world_core.proofs.Counting.{stands_after}
use Rattle.world_core.specs.Handled.{Handled}
use Rattle.world_core.specs.Stands.{WorldStands, StandsFor}
use Rattle.world_core.specs.World.{World}
use Rattle.world_core.specs.Span.{span_of}
use Rattle.schedule_run.specs.Answered.{WentOn, start, further}
use Rattle.schedule_run.proofs.SoundLemmas.{AreSoundly, went_soundly, same_some}
use Rattle.schedule_run.proofs.StayLemmas.{HasLanded, landed_none, landed_on, begins_on, committed_begins, lands_asked}
use Rattle.cloud_trait.proofs.EffectLemmas.{begins_same}

-- ---- the last line

pub push_same : (xs ys : List Line) (x y : Line) → xs ++ x ∷ [] ≡ ys ++ y ∷ [] → (xs ≡ ys) × (x ≡ y)
push_same [] [] x y e = (refl, cc)
push_same [] (b ∷ ys) x y e = let none : length (let none : List Line = [] in none) ≡ length (ys ++ y ∷ []) = ap (λ (l : List Line). length (drop 1 l)) e in absurd (omega (arith, none, length-append ys (y ∷ [])))
push_same (a ∷ xs) [] x y e = let none : length (xs ++ x ∷ []) ≡ length (let none : List Line = [] in none) = ap (λ (l : List Line). length (drop 1 l)) e in absurd (omega (arith, none, length-append xs (x ∷ [])))
push_same (a ∷ xs) (b ∷ ys) x y e =
    let rest : xs ++ x ∷ [] ≡ ys ++ y ∷ [] = ap (λ (l : List Line). drop 1 l) e in
    let first : a ≡ b = cc in
    let k = push_same xs ys x y rest in
    (λ i. first i ∷ k.0 i, k.1)

-- the lines before the last one, and what that did
pub record LastOf (lines : List Line) (line : Line) (before : Seen) (old : World) (after : Seen) (new : World) : Type 0 where
  pub mid : Seen
  pub world : World
  pub went : WentOn before old lines mid world
  pub handled : Handled (length lines + 1) line.event (span_of mid after world new) (Ok line.reply)

pub last_of : (before : Seen) (old : World) (all : List Line) (after : Seen) (new : World) → WentOn before old all after new → (lines : List Line) (line : Line) → all ≡ lines ++ line ∷ []
    → LastOf lines line before old after new
last_of before old all after new start lines line e =
    let none : length (let none : List Line = [] in none) ≡ length (lines ++ line ∷ []) = ap length e in absurd (omega (arith, none, length-append lines (line ∷ [])))
last_of before old all after new (further earlier newest mid _ world _ went handled) lines line e =
    let same = push_same earlier lines newest line e in
    subst (λ ls. LastOf ls line before old after new) same.0
    (subst (λ l. LastOf earlier l before old after new) same.1 (record { mid = mid; world = world; went = went; handled = handled }))

-- ---- the first lines

-- some first lines were handled, and what stood then went on to what stands behind all lines
pub record Front (n : ℕ) (front all : List Line) (before : Seen) (old : World) (last : CloudState) : Type 0 where
  pub mid : Seen
  pub world : World
  pub went : WentOn before old front mid world
  pub state : CloudState
  pub told : mid.state ≡ Some state
  pub stands : WorldStands front world state
  pub landed : HasLanded (n + 1) state last
  pub goes_on : BeginsWith (committed front state) (committed all last)

landed_fewer : (n m : ℕ) (s t : CloudState) → n ≤ m → HasLanded m s t → HasLanded n s t
landed_fewer n m s t le h = record { versions = h.versions; trace = h.trace; agree = λ k less. h.agree k (omega (arith, less, le)) }

-- all lines
front_whole : (n : ℕ) (all : List Line) (before : Seen) (old : World) (after : Seen) (new : World) (last : CloudState) → WentOn before old all after new → after.state ≡ Some last
    → WorldStands all new last → Front n all all before old last
front_whole n all before old after new last went seen stands = record {
  mid = after;
  world = new;
  went = went;
  state = last;
  told = seen;
  stands = stands;
  landed = landed_none (n + 1) last last refl refl refl;
  goes_on = begins_same (committed all last) (committed all last) refl;
}

pub front : (before : Seen) (old : World) (t : CloudState) (all : List Line) (after : Seen) (new : World) → WentOn before old all after new → before.state ≡ Some t → WorldStands [] old t
    → (last : CloudState) → after.state ≡ Some last → (n : ℕ) → n ≤ length all → Front n (take n all) all before old last
front before old t all after new start told stands last seen zero within =
    front_whole zero [] before old before old last start seen (subst (WorldStands [] old) (same_some t last (sym told ∙ seen)) stands)
front before old t all after new start told stands last seen (suc n) within = absurd (omega (arith, within))
front before old t all after new (further earlier line mid _ world _ went handled) told stands last seen n within =
    on (λ h. front before old t earlier mid world went told stands (o.state) o.told n h) (cases_lt (length earlier) n)
  where
    more : List Line
    more = earlier ++ line ∷ []

    o : AreSoundly earlier mid world
    o = went_soundly before old t earlier mid world went told stands

    f : StandsFor more new after line.reply
    f = stands_after (length earlier + 1) line.event mid after world new (Ok line.reply) handled earlier o.state refl o.told o.stands

    landed : HasLanded (length earlier + 1) o.state last
    landed =
        let g = lands_asked (length earlier + 1) mid after world new line.reply handled.asked handled.answers o.state o.told in
        subst (HasLanded (length earlier + 1) o.state) (same_some g.0 last (sym g.1 ∙ seen)) g.2

    extended : n ≤ length earlier → Front n (take n earlier) earlier before old o.state → Front n (take n earlier) more before old last
    extended h r = record {
      mid = r.mid;
      world = r.world;
      went = r.went;
      state = r.state;
      told = r.told;
      stands = r.stands;
      landed = landed_on (n + 1) r.state o.state last r.landed (landed_fewer (n + 1) (length earlier + 1) o.state last (omega (arith, h)) landed);
      goes_on = begins_on (committed (take n earlier) r.state) (committed earlier o.state) (committed more last) r.goes_on
          (committed_begins earlier line (length earlier + 1) o.state last o.stands.by_lines.holds.cloud.placed o.stands.by_lines.holds.cloud.upto landed);
    }

    on : (n ≤ length earlier → Front n (take n earlier) earlier before old o.state) → (length earlier < n) ⊎ (n ≤ length earlier) → Front n (take n more) more before old last
    on again (inl beyond) =
        subst (λ ls. Front n ls more before old last) (sym (take_all n more (omega (arith, length-append earlier (line ∷ [])))))
        (front_whole n more before old after new last (further earlier line mid after world new went handled) seen (subst (WorldStands more new) (same_some f.after last (sym f.told ∙ seen)) f.stands))
    on again (inr h) = subst (λ ls. Front n ls more before old last) (sym (take-append-le n earlier (line ∷ []) h)) (extended h (again h))

-- the first lines with the next one
pub take_next : (all : List Line) (k : ℕ) (line : Line) → slice_get all k ≡ Some line → take (k + 1) all ≡ take k all ++ line ∷ []
take_next all k line at =
    let n : suc k ≡ k + 1 = omega arith in
    subst (λ m. take m all ≡ take k all ++ line ∷ []) n (next all k at)
  where
    next : (all : List Line) (k : ℕ) → slice_get all k ≡ Some line → take (suc k) all ≡ take k all ++ line ∷ []
    next [] k at = absurd (cc)
    next (l ∷ all) zero at = let same : l ≡ line = cc in ap (λ (x : Line). x ∷ []) same
    next (l ∷ all) (suc k) at = ap (λ (ls : List Line). l ∷ ls) (next all k at)
