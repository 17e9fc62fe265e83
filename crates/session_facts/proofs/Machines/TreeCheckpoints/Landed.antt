-- What a checkpoint put on the way up is a version that the cloud tells.
use Rattle.std.proofs.Common.{◌≡◌, ◌⊎◌, inl, inr, ℕ, List, [], ◌∷◌, ◌++◌, Option, Some, None, refl, sym, ap, subst, ◌∙◌}
use Rattle.cloud_facts.proofs.Book.Places.{in_front}
use Rattle.cloud_facts.proofs.Calls.Calls.{call_of}
use Rattle.cloud_facts.proofs.Chains.Pieces.{in_back}
use Rattle.cloud_facts.specs.Words.{ObjName, Answer, Version, CloudState, called, Caller, Claim, Ask, PutHeld, Deed, calls_of, IsIn, IsCall}
use Rattle.cloud_trait.proofs.NameLemmas.{object_cmp-total}
use Rattle.cloud_trait.proofs.RowLemmas.{leaves_grown}
use Rattle.cloud_trait.proofs.StateLemmas.{put_at_same}
use Rattle.cloud_trait.specs.declared.answer.Answer.TheVariants.{Done}
use Rattle.cloud_trait.specs.Growth.{HasGrown}
use Rattle.cloud_trait.specs.Machine.{Came}
use Rattle.cloud_trait.specs.Names.{object_cmp}
use Rattle.cloud_trait.specs.State.{landed}
use Rattle.db_base.specs.declared.names.ObjName.TheVariants as object
use Rattle.node_codec.specs.Node.{Entry}
use Rattle.session_facts.specs.Machines.TreeCheckpoints.Named.{AreTold, HasLanded, IsTold}
use Rattle.split_plan.specs.declared.put_list.PagePut.{PagePut}
use Rattle.split_plan.specs.Part.{NodePart}
use Rattle.split_plan.specs.Plan.{node_bytes}
use Rattle.tree_ckpt.specs.Causes.{Calls}
use Rattle.tree_ckpt.specs.Making.{Making, making_ask, MakingLeads}
use Rattle.tree_ckpt.specs.Meaning.{Tried, deletes_over}
use Rattle.tree_ckpt.specs.Working.{IsAmong, Climb, Worked, PutsEntry, HasClimbed, HasRisen, done_over, page_puts, reserved_before, puts_of, climbs_over, fold_calls, worked_calls}
use Rattle.tree_phases.specs.declared.placing.Placing.{Placing}

-- ---- a put that was done landed

grown_has : (s t : CloudState) (name : ObjName) (bytes : List ℕ) → HasGrown s t → HasLanded s name bytes → HasLanded t name bytes
grown_has s t name bytes grown k =
    let more = grown.versions name in
    (k.0, subst (λ (vs : List Version). IsIn vs k.0) (sym more.1) (in_front (s.versions name) more.0 k.0 k.1), k.2)

put_has : (who : Caller) (s t : CloudState) (name : ObjName) (bytes : List ℕ) (one : Claim) (two : Option Claim) → IsCall who (PutHeld name bytes one two) Done s t → HasLanded t name bytes
put_has who s t name bytes one two c =
    subst (λ (x : CloudState). HasLanded x name bytes) (sym c.row.0)
    (version, subst (λ (vs : List Version). IsIn vs version) (sym behind) (in_back (s.versions name) (version ∷ []) version (0, refl)), refl)
  where
    version : Version
    version = record { who = who; bytes = Some bytes }

    behind : (landed who name bytes (called who t.now s)).versions name ≡ s.versions name ++ version ∷ []
    behind = put_at_same object_cmp object_cmp-total s.versions name (s.versions name ++ version ∷ [])

made_has : (start : Making) (h : List Deed) (m : Making) (s : CloudState) (name : ObjName) (bytes : List ℕ) (one : Claim) (two : Option Claim) → Came making_ask MakingLeads start h m
    → AreTold h s → IsAmong (PutHeld name bytes one two, Done) (calls_of h) → HasLanded s name bytes
made_has start [] m s name bytes one two came told there = absurd there
made_has start (d ∷ h) m s name bytes one two came told (inr rest) =
    let before : HasLanded told.0 name bytes = made_has start h came.0 told.0 name bytes one two came.1 told.5 rest in
    let l = came.3.state told.0 told.2 in
    let same : l.after ≡ told.1 = let both : Some l.after ≡ Some told.1 = sym l.told ∙ told.3 in cc (both) in
    let grown : HasGrown told.0 told.1 = subst (HasGrown told.0) same (leaves_grown d.who d.ask d.answer d.before.counts d.after.counts told.0 d.after.state l) in
    grown_has told.1 s name bytes told.4 (grown_has told.0 told.1 name bytes grown before)
made_has start (d ∷ h) m s name bytes one two came told (inl same) =
    let ask : d.ask ≡ PutHeld name bytes one two = ap (λ (c : Ask × Answer). c.0) same in
    let answer : d.answer ≡ Done = ap (λ (c : Ask × Answer). c.1) same in
    let c : IsCall d.who d.ask d.answer told.0 told.1 = call_of d.who d.ask d.answer d.before d.after told.0 told.1 came.3 told.2 told.3 in
    let put : IsCall d.who (PutHeld name bytes one two) Done told.0 told.1 =
    subst (λ (a : Answer). IsCall d.who (PutHeld name bytes one two) a told.0 told.1) answer (subst (λ (x : Ask). IsCall d.who x d.answer told.0 told.1) ask c) in
    grown_has told.1 s name bytes told.4 (put_has d.who told.0 told.1 name bytes one two put)

-- ---- the puts of the way up are among the calls

among_front : (c : Ask × Answer) (xs ys : Calls) → IsAmong c xs → IsAmong c (xs ++ ys)
among_front c [] ys h = absurd h
among_front c (x ∷ xs) ys (inl e) = inl e
among_front c (x ∷ xs) ys (inr h) = inr (among_front c xs ys h)

done_rest : (c : Ask × Answer) (asks : List Ask) (rest : Calls) → IsAmong c rest → IsAmong c (done_over asks rest)
done_rest c [] rest h = h
done_rest c (ask ∷ asks) rest h = done_rest c asks ((ask, Done) ∷ rest) (inr h)

done_here : (ask : Ask) (asks : List Ask) (rest : Calls) → IsAmong ask asks → IsAmong (ask, Done) (done_over asks rest)
done_here ask [] rest h = absurd h
done_here ask (x ∷ asks) rest (inl e) = done_rest (ask, Done) asks ((x, Done) ∷ rest) (inl (ap (λ (y : Ask). (y, Done)) e))
done_here ask (x ∷ asks) rest (inr h) = done_here ask asks ((x, Done) ∷ rest) h

deletes_rest : (c : Ask × Answer) (of : ℕ) (tried : Tried) (rest : Calls) → IsAmong c rest → IsAmong c (deletes_over of tried rest)
deletes_rest c of [] rest h = h
deletes_rest c of (t ∷ ts) rest h = inr (deletes_rest c of ts rest h)

page_here : (tree : ℕ) (one : Claim) (two : Option Claim) (x : PagePut) (xs : List PagePut) → IsAmong x xs → IsAmong (PutHeld (object.Page tree x.page) x.bytes one two) (page_puts tree one two xs)
page_here tree one two x [] h = absurd h
page_here tree one two x (y ∷ ys) (inl e) = inl (ap (λ (z : PagePut). PutHeld (object.Page tree z.page) z.bytes one two) e)
page_here tree one two x (y ∷ ys) (inr h) = inr (page_here tree one two x ys h)

placing_here : (tree : ℕ) (one : Claim) (two : Option Claim) (x : PagePut) (p : Placing) → IsAmong x p.puts → IsAmong (PutHeld (object.Page tree x.page) x.bytes one two) (puts_of tree one two p)
placing_here tree one two x p h = on p.reserved (page_here tree one two x p.puts h)
  where
    on : (o : Option (List ℕ)) → IsAmong (PutHeld (object.Page tree x.page) x.bytes one two) (page_puts tree one two p.puts)
        → IsAmong (PutHeld (object.Page tree x.page) x.bytes one two) (reserved_before tree one o (page_puts tree one two p.puts))
    on (Some bytes) there = inr there
    on None there = there

-- the put of a node with the entry
pub record PutsIt (level : ℕ) (e : Entry) (xs : List PagePut) : Type 0 where
  pub put : PagePut
  pub there : IsAmong put xs
  pub node : NodePart
  pub bytes : put.bytes ≡ node_bytes node
  pub level_is : node.common ≡ level
  pub has : IsAmong e node.items

puts_it : (level : ℕ) (e : Entry) (xs : List PagePut) → PutsEntry level e xs → PutsIt level e xs
puts_it level e [] h = absurd h
puts_it level e (x ∷ xs) (inl k) = record { put = x; there = inl refl; node = k.0; bytes = k.1; level_is = k.2; has = k.3 }
puts_it level e (x ∷ xs) (inr h) =
    let k = puts_it level e xs h in record { put = k.put; there = inr k.there; node = k.node; bytes = k.bytes; level_is = k.level_is; has = k.has }

module _ (tree : ℕ) (one : Claim) (s : CloudState) where
  -- what is done is told
  abbrev AllTold : Calls → Type 0
  AllTold cs = (name : ObjName) (bytes : List ℕ) → IsAmong (PutHeld name bytes one None, Done) cs → HasLanded s name bytes

  entry_told : (level : ℕ) (e : Entry) (p : Placing) (rest : Calls) → AllTold (done_over (puts_of tree one None p) rest) → PutsEntry level e p.puts → IsTold s tree level e
  entry_told level e p rest all h =
      let k = puts_it level e p.puts h in
      inl (
        k.put.page,
        k.node,
        subst (HasLanded s (object.Page tree k.put.page)) k.bytes
            (all (object.Page tree k.put.page) k.put.bytes
            (done_here (PutHeld (object.Page tree k.put.page) k.put.bytes one None) (puts_of tree one None p) rest (placing_here tree one None k.put p k.there))),
        k.level_is,
        k.has,
      )

  fewer : (asks : List Ask) (rest : Calls) → AllTold (done_over asks rest) → AllTold rest
  fewer asks rest all name bytes h = all name bytes (done_rest (PutHeld name bytes one None, Done) asks rest h)

  climbed_told : (page level : ℕ) (us : List Climb) (rest : Calls) (e : Entry) → AllTold (climbs_over tree one us rest) → HasClimbed page level us e → IsTold s tree level e
  climbed_told page level [] rest e all h = absurd h
  climbed_told page level (u ∷ us) rest e all (inl k) = entry_told level e u.plan.placing (climbs_over tree one us rest) all k.1
  climbed_told page level (u ∷ us) rest e all (inr h) =
      climbed_told page level us rest e (fewer (puts_of tree one None u.plan.placing) (climbs_over tree one us rest) all) h

  pub up_told : (w : Worked) (level : ℕ) (e : Entry) → AllTold (worked_calls tree one w) → ((page : ℕ) × HasClimbed page level w.climbs e) ⊎ HasRisen level w.last e → IsTold s tree level e
  up_told w level e all (inl h) = climbed_told h.0 level w.climbs (fold_calls tree one w) e below h.1
    where
      above : AllTold (done_over (puts_of tree one None w.last.placing) (climbs_over tree one w.climbs (fold_calls tree one w)))
      above name bytes k = all name bytes (inr k)

      below : AllTold (climbs_over tree one w.climbs (fold_calls tree one w))
      below = fewer (puts_of tree one None w.last.placing) (climbs_over tree one w.climbs (fold_calls tree one w)) above
  up_told w level e all (inr (inl k)) = inr (k.0, subst (HasLanded s (object.Tree tree)) k.1 (all (object.Tree tree) w.last.last (inl refl)), k.2, k.3)
  up_told w level e all (inr (inr k)) =
      entry_told level e w.last.placing (climbs_over tree one w.climbs (fold_calls tree one w)) (λ name bytes there. all name bytes (inr there)) k

-- the calls of the work are among all
pub work_told : (start : Making) (h : List Deed) (m : Making) (s : CloudState) (tree : ℕ) (one : Claim) (tried : Tried) (work more : Calls) → Came making_ask MakingLeads start h m → AreTold h s
    → calls_of h ≡ deletes_over tree tried (work ++ more) → (name : ObjName) (bytes : List ℕ) → IsAmong (PutHeld name bytes one None, Done) work → HasLanded s name bytes
work_told start h m s tree one tried work more came told is name bytes there =
    made_has start h m s name bytes one None came told
    (subst (λ (cs : Calls). IsAmong (PutHeld name bytes one None, Done) cs) (sym is)
    (deletes_rest (PutHeld name bytes one None, Done) tree tried (work ++ more) (among_front (PutHeld name bytes one None, Done) work more there)))
