-- What led a walk to the page in hand, read off its calls.
use Rattle.std.proofs.Common.{◌≡◌, ℕ, Bool, true, false, true≢false, List, [], ◌∷◌, Option, Some, None, Ok, unwrap_or, refl, ap, sym, subst, ◌∙◌, inl, inr, ◌⊎◌}
use Rattle.tree_walk.proofs.Words.{Get, Goes}
use Rattle.cloud_trait.specs.declared.answer.Answer.TheVariants as answer
use Rattle.cloud_trait.specs.Machine.{Deed}
use Rattle.page_cache.specs.Cache.{Cache, accepts, kept_at}
use Rattle.page_cache.specs.Names.{same_name}
use Rattle.page_cache.proofs.CacheLemmas.{accept_kept, accept_others}
use Rattle.page_cache.proofs.NameLemmas.{same_name-is, same_name-refl}
use Rattle.tree_walk.specs.Walk.{Spot, Walk, new_walk, sought, object_of, is_leaf, asks, rested, walk_next}
use Rattle.tree_walk.specs.Within.{IsBegun}
use Rattle.tree_walk.specs.Causes.{IsLinked, WasLed}
use Rattle.tree_walk.specs.Meaning.{WasGot, HasRead, LinksTo, WasLinked, Walked, began_with, LedBy}
use Rattle.tree_walk.proofs.Outcomes as step
use Rattle.tree_walk.proofs.Outcomes.{came_by, way_behind, Readies, readies}
use Rattle.tree_walk.proofs.Causes.{way_led}
use Rattle.tree_walk.proofs.Stays.{IsTo, WalksBeside, ready_walks, next_walks}

-- ---- what was read

more_read : (began : Cache) (h : List Deed) (d : Deed) (c : Cache) → HasRead began h c → HasRead began (d ∷ h) c
more_read began h d c read name got kept = on (read name got kept) where
  on : (kept_at began name ≡ Some got) ⊎ WasGot h name got → (kept_at began name ≡ Some got) ⊎ WasGot (d ∷ h) name got
  on (inl there) = inl there
  on (inr was) = inr (inr was)

one_got : (a b : Option (List ℕ)) → Some a ≡ Some b → a ≡ b
one_got a b e = cc (e)

none_got : (o : Option (Option (List ℕ))) (b : Option (List ℕ)) → o ≡ None → o ≡ Some b → ⊥
none_got o b e f = cc (e, f)

accept_read : (began : Cache) (h : List Deed) (d : Deed) (w : Walk) (c e : Cache) (got : Option (List ℕ)) (version : ℕ) → d.ask ≡ asks (w, c) → d.answer ≡ answer.Got got
    → accepts c (object_of w) (is_leaf w) got ≡ Ok (version, e) → HasRead began h c → HasRead began (d ∷ h) e
accept_read began h d w c e got version asked answered accepted read name bytes kept = on (same_name name (object_of w)) refl where
  here : name ≡ object_of w → (kept_at began name ≡ Some bytes) ⊎ WasGot (d ∷ h) name bytes
  here is =
      let there : kept_at e name ≡ Some got = ap (kept_at e) is ∙ accept_kept c (object_of w) (is_leaf w) got version e accepted in
      let same : bytes ≡ got = one_got bytes got (sym kept ∙ there) in
      inr (inl (asked ∙ ap Get (sym is), answered ∙ ap answer.Got (sym same)))

  other : (kept_at e name ≡ kept_at c name) ⊎ (kept_at e name ≡ None) → (kept_at began name ≡ Some bytes) ⊎ WasGot (d ∷ h) name bytes
  other (inl same) = more_read began h d c read name bytes (sym same ∙ kept)
  other (inr none) = absurd (none_got (kept_at e name) bytes none kept)

  on : (b : Bool) → same_name name (object_of w) ≡ b → (kept_at began name ≡ Some bytes) ⊎ WasGot (d ∷ h) name bytes
  on true is = here (same_name-is name (object_of w) is)
  on false is =
      other (accept_others c (object_of w) (is_leaf w) got version e accepted name (λ same. true≢false (sym (same_name-refl name) ∙ (ap (same_name name) same ∙ is))))

-- ---- what links

links : (c : Cache) (w : Walk) (s : Spot) → IsLinked c w s → LinksTo c w.tree (sought w) s
links c w s (inl root) = inl root
links c w s (inr (inl (page, n, among, kept, is))) = inr (inl (page, n, kept, is))
links c w s (inr (inr (page, l, next, among, kept, right, is))) = inr (inr (page, l, next, kept, right, is))

-- .. a walk to the same key in the same tree
same_links : (began : Cache) (h : List Deed) (v w : Walk) (tree : ℕ) (key : Option (List ℕ)) (s : Spot) → IsTo tree key v → IsTo tree key w → WasLinked began h v s → WasLinked began h w s
same_links began h v w tree key s to_v to_w (c, read, link) =
    (c, read, subst (λ (x : ℕ × List ℕ). LinksTo c x.0 x.1 s) (same_aim (v.tree) (w.tree) (sought v) (sought w) (to_v.0 ∙ sym to_w.0) (keys v.key w.key (to_v.1 ∙ sym to_w.1))) link)
  where
    keys : (a b : Option (List ℕ)) → a ≡ b → unwrap_or a [] ≡ unwrap_or b []
    keys a b e = ap (λ (o : Option (List ℕ)). unwrap_or o []) e

    same_aim : (t u : ℕ) (k l : List ℕ) → t ≡ u → k ≡ l → ◌≡◌ {A = ℕ × List ℕ} (t, k) (u, l)
    same_aim t u k l e f = cc (e, f)

-- ---- a whole run

record Reading (began : Cache) (h : List Deed) (tree : ℕ) (key : Option (List ℕ)) (m : Walk × Cache) : Type 0 where
  read : HasRead began h m.1
  to : IsTo tree key m.0
  led : (s : Spot) → m.0.spot ≡ Some s → WasLinked began h m.0 s

begun_reads : (start : Walk × Cache) (b : IsBegun start) → Reading b.3 [] b.0 b.1 start
begun_reads start (tree, key, fresh, c, leads) =
    let w = new_walk tree key fresh in
    let (same, ran, way) = subst (Readies (w, c)) leads (readies (w, c)) in
    let to : IsTo tree key start.0 = (subst (WalksBeside tree key) leads (ready_walks tree key fresh c)).1 in
    let kept : HasRead c [] c = λ name got is. inl is in
    record { read = subst (HasRead c []) (sym same) kept; to = to; led = λ s at. (c, kept, by s (way_led c w (rested w) start.0 way (λ u none. inl none) s at)) }
  where
    by : (s : Spot) → WasLed c (new_walk tree key fresh) start.0 s → LinksTo c start.0.tree (sought start.0) s
    by s (inl never) = absurd (cc (never))
    by s (inr link) = links c start.0 s link

goes_reads : (began : Cache) (h : List Deed) (tree : ℕ) (key : Option (List ℕ)) (m n : Walk × Cache) (d : Deed) → Reading began h tree key m → d.ask ≡ asks m → walk_next m d.answer ≡ Goes n
    → Reading began (d ∷ h) tree key n
goes_reads began h tree key m n d r asked leads =
    let o = came_by m d.answer (Goes n) leads in
    let read : HasRead began (d ∷ h) n.1 = accept_read began h d m.0 m.1 n.1 o.brought.got o.brought.version asked o.brought.answered o.brought.accepted r.read in
    let to : IsTo tree key n.0 = (subst (WalksBeside tree key) leads (next_walks tree key m d.answer r.to)).1 in
    let way = step.on (rested m.0) o.next n.0 o.link (way_behind m d.answer n o) in
    record { read = read; to = to; led = λ s at. by read to s (way_led n.1 m.0 (rested m.0) n.0 way (λ u was. inl was) s at) }
  where
    by : HasRead began (d ∷ h) n.1 → IsTo tree key n.0 → (s : Spot) → WasLed n.1 m.0 n.0 s → WasLinked began (d ∷ h) n.0 s
    by read to s (inl was) =
        let before : WasLinked began h m.0 s = r.led s was in
        same_links began (d ∷ h) m.0 n.0 tree key s r.to to (before.0, more_read began h d before.0 before.1, before.2)
    by read to s (inr link) = (n.1, read, links n.1 n.0 s link)

walked_reads : (start : Walk × Cache) (b : IsBegun start) (h : List Deed) (m : Walk × Cache) → Walked start h m → Reading b.3 h b.0 b.1 m
walked_reads start b [] m walked = subst (Reading b.3 [] b.0 b.1) (sym walked) (begun_reads start b)
walked_reads start b (d ∷ h) m (from, walked, asked, made, goes) = goes_reads b.3 h b.0 b.1 from m d (walked_reads start b h from walked) asked goes

pub walked_led : (start : Walk × Cache) (b : IsBegun start) (h : List Deed) (m : Walk × Cache) (d : Deed) → Walked start h m → d.ask ≡ asks m → LedBy (began_with start b) h d m d.answer
walked_led start b h m d walked asked =
    let r = walked_reads start b h m walked in
    record { was = r.led; read = λ c brings. accept_read b.3 h d m.0 m.1 c brings.0 brings.1 asked brings.2 brings.3 r.read }
