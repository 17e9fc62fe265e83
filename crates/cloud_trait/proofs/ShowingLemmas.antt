-- What a call leaves of what looks show.
use Rattle.std.proofs.Common.{◌≡◌, ◌++◌, ℕ, List, [], ◌∷◌, Option, Some, None, Bool, true, false, cond, refl, ap, subst, inl, inr}
use Rattle.std.specs.Ordering.{is_eq}
use Rattle.db_base.specs.declared.names.ObjName.{ObjName}
use Rattle.cloud_trait.specs.declared.answer.Answer.{Answer}
use Rattle.cloud_trait.specs.Ask.{Ask, Get, GetHeld, PutHeld, ListHeld, RemoveHeld, Send, Receive, Delete, Take, Renew, Release, effect}
use Rattle.cloud_trait.specs.Caller.{Caller}
use Rattle.cloud_trait.specs.Names.{object_cmp}
use Rattle.cloud_trait.specs.Seen.{Showing}
use Rattle.cloud_trait.specs.State.{CloudState, Counts, put_at, newest, newest_of, stored}
use Rattle.cloud_trait.specs.Weather.{counted, Weather, LeavesShown, GoesOnShowing}
use Rattle.cloud_trait.proofs.EffectLemmas.{effect_versions}
use Rattle.cloud_trait.proofs.RowLemmas.{row_by}
use Rattle.cloud_trait.proofs.StateLemmas.{newest_of-push}

-- all that is shown may stay
pub shows_itself : (ask : Ask) (p : Showing) → LeavesShown ask p p
shows_itself (Get name) p = λ object. refl
shows_itself (GetHeld name l) p = λ object. refl
shows_itself (PutHeld name bytes one two) p = inl (λ object. refl)
shows_itself (ListHeld tree l) p = λ object. refl
shows_itself (RemoveHeld name l) p = inl (λ object. refl)
shows_itself (Send queue bytes) p = λ object. refl
shows_itself (Receive queue most) p = λ object. refl
shows_itself (Delete queue id) p = λ object. refl
shows_itself (Take lock ticks) p = λ object. refl
shows_itself (Renew l ticks) p = λ object. refl
shows_itself (Release l) p = λ object. refl

stored_shows : (who : Caller) (name : ObjName) (bytes : Option (List ℕ)) (s : CloudState) (object : ObjName)
    → newest (stored who name bytes s) object ≡ put_at object_cmp (newest s) name bytes object
stored_shows who name bytes s object = on (is_eq (object_cmp name object))
  where
    on : (same : Bool) → newest_of (cond same (s.versions name ++ record { who = who; bytes = bytes } ∷ []) (s.versions object)) ≡ cond same bytes (newest s object)
    on true = newest_of-push (s.versions name) (record { who = who; bytes = bytes })
    on false = refl

effect_shows : (who : Caller) (ask : Ask) (s : CloudState) → LeavesShown ask (newest s) (newest (effect who ask s))
effect_shows who (Get name) s = λ object. refl
effect_shows who (GetHeld name l) s = λ object. refl
effect_shows who (PutHeld name bytes one two) s = inr (stored_shows who name (Some bytes) s)
effect_shows who (ListHeld tree l) s = λ object. refl
effect_shows who (RemoveHeld name l) s = inr (stored_shows who name None s)
effect_shows who (Send queue bytes) s = λ object. refl
effect_shows who (Receive queue most) s = λ object. refl
effect_shows who (Delete queue id) s = λ object. refl
effect_shows who (Take lock ticks) s = λ object. ap (λ vs. newest_of (vs object)) (effect_versions who (Take lock ticks) s tt)
effect_shows who (Renew l ticks) s = λ object. ap (λ vs. newest_of (vs object)) (effect_versions who (Renew l ticks) s tt)
effect_shows who (Release l) s = λ object. ap (λ vs. newest_of (vs object)) (effect_versions who (Release l) s tt)

-- newest versions are shown, whatever a call answers
pub row_shows : (who : Caller) (ask : Ask) (a : Answer) (c d : Counts) (b t : CloudState) → Weather who ask a (counted c b) (counted d t) → GoesOnShowing ask (Some (newest b)) (Some (newest t))
row_shows who ask a c d b t row p e = (newest t, refl, subst (λ (x : Showing). LeavesShown ask x (newest t)) (on e) row_leaves)
  where
    on : Some (newest b) ≡ Some p → newest b ≡ p
    on same = cc

    row_leaves : LeavesShown ask (newest b) (newest t)
    row_leaves = row_by (λ u. LeavesShown ask (newest b) (newest u)) who ask a c d b t row (shows_itself ask (newest b)) (λ permits. effect_shows who ask b)
