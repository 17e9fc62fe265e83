-- Items that are all new where they come.
use Rattle.std.proofs.Common.{ℕ, ◌≡◌, ◌≤◌, Bool, true, false, List, [], ◌∷◌, ◌++◌, sym, refl, ap, ◌∙◌, arith, subst, append_assoc, cond}
use Rattle.std.specs.Prelude.{◌||◌, All}
use Rattle.std.proofs.lemmas.List.{append-nil}
use Rattle.std.proofs.lemmas.List.Elements.{All-push, All-nil}
use Rattle.db_base.specs.Cursor.{number_of}
use Rattle.log_codec.specs.declared.record.PuItem.{PuItem}
use Rattle.log_codec.specs.Order.{IsItem}
use Rattle.run_cursor.specs.Run.{has_number, is_at}
use Rattle.run_cursor.specs.Chosen.{chosen, is_wanted, AreChosen}
use Rattle.run_cursor.specs.Leading.{NoneAbove, Reaches}
use Rattle.run_cursor.proofs.Choice.{IsHere, is_at-true, has_number-push}

-- those that came are kept, all of them
pub record AreComing (cursor top : List (ℕ × ℕ)) (received left : List PuItem) (upto : List (ℕ × ℕ)) : Type 0 where
  pub kept : List PuItem
  pub is : received ≡ kept ++ left
  pub above : NoneAbove kept upto
  pub chosen_is : chosen cursor top kept left ≡ chosen cursor top [] received
  pub items : All IsItem kept

pub begin : (cursor top upto : List (ℕ × ℕ)) (received : List PuItem) → AreComing cursor top received received upto
begin cursor top upto received = record { kept = []; is = refl; above = λ c n h. refl; chosen_is = refl; items = All-nil IsItem }

-- none is above the number of the newest
above-push : (kept : List PuItem) (x : PuItem) (upto new : List (ℕ × ℕ)) → NoneAbove kept upto → Reaches upto new x → NoneAbove (kept ++ x ∷ []) new
above-push kept x upto new none reaches c n h =
    has_number-push kept x c n ∙ on (has_number kept c n) (is_at c n x) refl (none c n (omega (arith, h, reaches.upward c)))
  where
    on : (a b : Bool) → is_at c n x ≡ b → a ≡ false → (a || b) ≡ false
    on true b e f = absurd cc
    on false false e f = refl
    on false true e f =
        let here : IsHere x c n = is_at-true x c n e in
        absurd (omega (arith, h, here.number, subst (λ (d : ℕ). x.rec.number ≤ number_of new d) here.client reaches.reached))

pub next : (cursor top upto new : List (ℕ × ℕ)) (received left : List PuItem) (x : PuItem) (rest : List PuItem) → AreComing cursor top received left upto → left ≡ x ∷ rest
    → ((kept : List PuItem) → NoneAbove kept upto → is_wanted cursor top kept x ≡ true) → IsItem x → Reaches upto new x → AreComing cursor top received rest new
next cursor top upto new received left x rest h splits wanted item reaches = record {
  kept = h.kept ++ x ∷ [];
  is = h.is ∙ (ap (λ (l : List PuItem). h.kept ++ l) splits ∙ sym (append_assoc h.kept (x ∷ []) rest));
  above = above-push h.kept x upto new h.above reaches;
  chosen_is = sym (ap (λ (b : Bool). chosen cursor top (cond b (h.kept ++ x ∷ []) h.kept) rest) (wanted h.kept h.above))
      ∙ (sym (ap (λ (l : List PuItem). chosen cursor top h.kept l) splits) ∙ h.chosen_is);
  items = All-push IsItem h.kept x h.items item;
}

pub all : (cursor top upto : List (ℕ × ℕ)) (received left : List PuItem) → AreComing cursor top received left upto → left ≡ [] → AreChosen cursor top received
all cursor top upto received left h none = record {
  is = sym h.chosen_is ∙ (ap (λ (l : List PuItem). chosen cursor top h.kept l) none ∙ same);
  items = subst (All IsItem) same h.items;
}
  where
    same : h.kept ≡ received
    same = sym (h.is ∙ (ap (λ (l : List PuItem). h.kept ++ l) none ∙ append-nil h.kept))
