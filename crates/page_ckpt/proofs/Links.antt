-- The link that a run takes from a leaf is the one that the machine goes by.
use Rattle.std.proofs.Common.{◌≡◌, ℕ, zero, suc, Bool, true, false, List, [], ◌∷◌, Option, Some, None, refl, sym, ap, subst, inl, inr, ◌∙◌}
use Rattle.std.specs.Prelude.{not, ◌||◌}
use Rattle.std.proofs.lemmas.List.Folds.{Any-from_list_any, list_any-from_Any, list_any_none}
use Rattle.std.proofs.lemmas.List.Elements.{All-nil, All-cons}
use Rattle.db_base.specs.Change.{key_of}
use Rattle.byte_format.specs.Order.{bytes_below, below_bound}
use Rattle.leaf_view.specs.Leaf.{Leaf}
use Rattle.leaf_view.specs.Lookup.{page_at}
use Rattle.log_codec.specs.declared.record.PuItem.{PuItem}
use Rattle.page_ckpt.specs.declared.link.Link.{Link}
use Rattle.page_ckpt.specs.Paging.{is_beyond, reaches_beyond, link_by, link_of}
use Rattle.page_ckpt.specs.Links.{ReachesTo, StaysBelow, TakesRight, TakesLink}

neither : (a b : Bool) → (a || b) ≡ false → (a ≡ false) × (b ≡ false)
neither true b e = absurd (cc (e))
neither false b e = (refl, e)

not_true : (b : Bool) → not b ≡ true → b ≡ false
not_true true e = absurd (cc (e))
not_true false e = refl

not_false : (b : Bool) → not b ≡ false → b ≡ true
not_false true e = refl
not_false false e = absurd (cc (e))

-- ---- the test, and what it says

reaches : (high : List ℕ) (run : List PuItem) → reaches_beyond (Some high) run ≡ true → ReachesTo high run
reaches high run e =
    let some = Any-from_list_any (is_beyond (Some high)) run e in
    (some.0, some.1, some.2, some.3, not_true (bytes_below (key_of some.1.rec.change) high) some.4)

reached : (high : List ℕ) (run : List PuItem) → ReachesTo high run → reaches_beyond (Some high) run ≡ true
reached high run some = list_any-from_Any (is_beyond (Some high)) run (some.0, some.1, some.2, some.3, ap not some.4)

stays : (bound : Option (List ℕ)) (run : List PuItem) → reaches_beyond bound run ≡ false → StaysBelow bound run
stays bound [] e = All-nil (λ (x : PuItem). below_bound (key_of x.rec.change) bound ≡ true)
stays bound (x ∷ run) e =
    let each = neither (is_beyond bound x) (reaches_beyond bound run) e in
    All-cons (λ (y : PuItem). below_bound (key_of y.rec.change) bound ≡ true) x run (not_false (below_bound (key_of x.rec.change) bound) each.0) (stays bound run each.1)

stayed : (bound : Option (List ℕ)) (run : List PuItem) → StaysBelow bound run → reaches_beyond bound run ≡ false
stayed bound run all = list_any_none (is_beyond bound) run (λ k d less. ap not (all k d less))

-- ---- the link

taken : (right : ℕ) (high : Option (List ℕ)) (run : List PuItem) (b : Bool) → reaches_beyond high run ≡ b → TakesRight right high run (link_by (page_at right) high b)
taken zero high run b e = inl refl
taken (suc page) None run b e = inr (λ k d less. refl)
taken (suc page) (Some high) run true e = (λ none. absurd (cc (none)), refl, refl, reaches high run e)
taken (suc page) (Some high) run false e = inr (stays (Some high) run e)

pub link_taken : (l : Leaf) (run : List PuItem) → TakesLink l run (link_of l run)
link_taken l run = taken l.right l.high run (reaches_beyond l.high run) refl

pub takes_link : (l : Leaf) (run : List PuItem) (o : Option Link) → o ≡ link_of l run → TakesLink l run o
takes_link l run o e = subst (TakesLink l run) (sym e) (link_taken l run)

low_is : (low high : List ℕ) → Some high ≡ Some low → low ≡ high
low_is low high e = cc (e)

one_taken : (right : ℕ) (high : Option (List ℕ)) (run : List PuItem) (o : Option Link) (b : Bool) → reaches_beyond high run ≡ b → TakesRight right high run o
    → o ≡ link_by (page_at right) high b
one_taken zero high run (Some link) b e takes = absurd (takes.0 refl)
one_taken zero high run None b e takes = refl
one_taken (suc page) None run (Some link) b e takes = absurd (cc (takes.2))
one_taken (suc page) None run None b e takes = refl
one_taken (suc page) (Some high) run (Some link) true e takes =
    ap (λ (q : ℕ). Some (record { page = q; low = link.low })) takes.1
    ∙ ap (λ (low : List ℕ). Some (record { page = suc page; low = low })) (low_is link.low high takes.2)
one_taken (suc page) (Some high) run (Some link) false e takes =
    let far : reaches_beyond (Some high) run ≡ true = reached high run (subst (λ (low : List ℕ). ReachesTo low run) (low_is link.low high takes.2) takes.3) in
    absurd (cc (far, e))
one_taken (suc page) (Some high) run None true e (inl none) = absurd (cc (none))
one_taken (suc page) (Some high) run None true e (inr all) = absurd (cc (e, stayed (Some high) run all))
one_taken (suc page) (Some high) run None false e takes = refl

pub one_link : (l : Leaf) (run : List PuItem) (o : Option Link) → TakesLink l run o → o ≡ link_of l run
one_link l run o takes = one_taken l.right l.high run o (reaches_beyond l.high run) refl takes
