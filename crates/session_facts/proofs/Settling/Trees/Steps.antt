-- What each call of a checkpoint of a tree leaves of the tree object and of the queues.
use Rattle.std.proofs.Common.{◌≡◌, ◌⊎◌, inl, inr, ℕ, true, false, List, [], ◌∷◌, ◌++◌, Option, Some, None, Ok, refl, sym, ap, subst, ◌∙◌, arith}
use Rattle.std.specs.Prelude.{unwrap_or}
use Rattle.ckpt_parts.specs.Deleting.{next_id}
use Rattle.ckpt_parts.specs.Leasing.{newest_lease}
use Rattle.cloud_facts.proofs.Calls.Calls.{landed_or_not, put_cases}
use Rattle.cloud_facts.proofs.Calls.Heads.{held_seen}
use Rattle.cloud_facts.specs.Words.{ObjName, Answer, Version, CloudState, called, newest, Caller, Claim, Ask, GetHeld, PutHeld, Send, Receive, Delete, Release, done_of, Store, IsCall}
use Rattle.cloud_trait.proofs.NameLemmas.{object_cmp-equal, object_cmp-total}
use Rattle.cloud_trait.proofs.RowLemmas.{row_versions}
use Rattle.cloud_trait.proofs.StateLemmas.{put_at_by, put_at_same, newest_of-push}
use Rattle.cloud_trait.specs.Ask.{Lands, PutsNothing, effect}
use Rattle.cloud_trait.specs.Names.{object_cmp}
use Rattle.cloud_trait.specs.State.{newest_of}
use Rattle.db_base.specs.declared.names.ObjName.TheVariants as object
use Rattle.session_facts.proofs.Settling.Trees.Roots.{NewestBy}
use Rattle.session_facts.specs.Machines.TreeCheckpoints.Knows.{KnowsWork}
use Rattle.split_plan.specs.declared.put_list.PagePut.{PagePut}
use Rattle.tree_ckpt.proofs.Tours.{page_left as has_page}
use Rattle.tree_ckpt.specs.Work.{delete_ask, release_ask, work_ask}
use Rattle.tree_ckpt.specs.declared.work.Work.{Work}
use Rattle.tree_ckpt.specs.declared.work.Work.TheVariants as work
use Rattle.tree_phases.specs.Placing.{put_first, put_next, put_in_hand, has_nothing, landed_root}
use Rattle.tree_phases.specs.declared.placing.Placing.{Placing}
use Rattle.tree_phases.specs.Rising.{last_ask}
use Rattle.tree_phases.specs.declared.rising.Rising.{Rising}

-- ---- the newest version behind a call

pub newest_same : (who : Caller) (ask : Ask) (a : Answer) (s t : CloudState) (name : ObjName) → IsCall who ask a s t → PutsNothing ask
    → newest t name ≡ newest s name
newest_same who ask a s t name call nothing =
    ap (λ (versions : ObjName → List Version). newest_of (versions name)) (row_versions who ask a call.before call.after (called who t.now s) t call.row nothing)

-- a put of an object leaves the others as they were
put_leaves : (who : Caller) (other : ObjName) (bytes : List ℕ) (one : Claim) (two : Option Claim) (b t : CloudState) (name : ObjName)
    → t ≡ effect who (PutHeld other bytes one two) b → (newest t name ≡ newest b name) ⊎ ((other ≡ name) × (newest t name ≡ Some bytes))
put_leaves who other bytes one two b t name e =
    subst (λ (u : CloudState). (newest u name ≡ newest b name) ⊎ ((other ≡ name) × (newest u name ≡ Some bytes))) (sym e)
    (put_at_by (λ (q : ObjName) (vs : List Version). (newest_of vs ≡ newest b q) ⊎ ((other ≡ q) × (newest_of vs ≡ Some bytes)))
    object_cmp object_cmp-equal b.versions other (b.versions other ++ new ∷ []) (inr (refl, newest_of-push (b.versions other) new)) (λ q. inl refl) name)
  where
    new : Version
    new = record { who = who; bytes = Some bytes }

-- and lands itself
put_lands : (who : Caller) (name : ObjName) (bytes : List ℕ) (one : Claim) (two : Option Claim) (b t : CloudState) → t ≡ effect who (PutHeld name bytes one two) b
    → newest t name ≡ Some bytes
put_lands who name bytes one two b t e =
    ap (λ (u : CloudState). newest u name) e
    ∙ ap newest_of (put_at_same object_cmp object_cmp-total b.versions name (b.versions name ++ record { who = who; bytes = Some bytes } ∷ []))
    ∙ newest_of-push (b.versions name) (record { who = who; bytes = Some bytes })

-- where it may land
pub put_after : (who : Caller) (other : ObjName) (bytes : List ℕ) (one : Claim) (two : Option Claim) (a : Answer) (s t : CloudState) (name : ObjName)
    → IsCall who (PutHeld other bytes one two) a s t → (newest t name ≡ newest s name) ⊎ ((other ≡ name) × (newest t name ≡ Some bytes))
put_after who other bytes one two a s t name call = on (landed_or_not who (PutHeld other bytes one two) a s t call)
  where
    on : (t ≡ called who t.now s) ⊎ Lands who (PutHeld other bytes one two) (called who t.now s) t → (newest t name ≡ newest s name) ⊎ ((other ≡ name) × (newest t name ≡ Some bytes))
    on (inl same) = inl (ap (λ (u : CloudState). newest u name) same)
    on (inr lands) = put_leaves who other bytes one two (called who t.now s) t name lands.0

-- ---- what is put in turn

-- a call is one that neither sends nor receives nor deletes
abbrev pub TouchesNoQueue : Ask → Type 0
TouchesNoQueue (Send q bytes) = ⊥
TouchesNoQueue (Receive q most) = ⊥
TouchesNoQueue (Delete q id) = ⊥
TouchesNoQueue ask = Unit {0}

module _ (tree : ℕ) (l : Claim) (second : Option Claim) (other : Ask) where
  -- the put in hand of a placing, or another call behind it
  abbrev in_hand : Placing → Ask
  in_hand p = unwrap_or (put_in_hand p tree l second) other

  in_hand_quiet : (p : Placing) → TouchesNoQueue other → TouchesNoQueue (in_hand p)
  in_hand_quiet p quiet = on p.reserved p.puts
    where
      on : (reserved : Option (List ℕ)) (puts : List PagePut) → TouchesNoQueue (unwrap_or (put_first tree l (put_next tree l second puts) reserved) other)
      on (Some bytes) puts = tt
      on None (x ∷ puts) = tt
      on None [] = quiet

  -- where nothing is to be put it is the other one
  in_hand_none : (p : Placing) → has_nothing p ≡ true → in_hand p ≡ other
  in_hand_none p none = on p.reserved p.puts none
    where
      on : (reserved : Option (List ℕ)) (puts : List PagePut) → has_nothing (record { reserved = reserved; puts = puts }) ≡ true
          → unwrap_or (put_first tree l (put_next tree l second puts) reserved) other ≡ other
      on (Some bytes) puts e = absurd (cc (e))
      on None (x ∷ puts) e =
          let more : has_nothing (record { reserved = None; puts = x ∷ puts }) ≡ false = has_page (record { reserved = None; puts = x ∷ puts }) (omega arith) in
          absurd (cc (e, more))
      on None [] e = refl

  -- where the put was done, the newest tree object is the one that is in hand then
  in_hand_lands : (p : Placing) (who : Caller) (a : Answer) (s t : CloudState) → has_nothing p ≡ false → done_of a ≡ Ok tt → IsCall who (in_hand p) a s t
      → newest t (object.Tree tree) ≡ landed_root p (newest s (object.Tree tree))
  in_hand_lands p who a s t some done call = on p.reserved p.puts some call
    where
      page : (x : PagePut) → (newest t (object.Tree tree) ≡ newest s (object.Tree tree)) ⊎ ((object.Page tree x.page ≡ object.Tree tree) × (newest t (object.Tree tree) ≡ Some x.bytes))
          → newest t (object.Tree tree) ≡ newest s (object.Tree tree)
      page x (inl same) = same
      page x (inr new) = absurd (let e : object.Page tree x.page ≡ object.Tree tree = new.0 in cc (e))

      root : (bytes : List ℕ) → ((t ≡ called who t.now s) × (done_of a ≡ Ok tt → ⊥)) ⊎ Lands who (PutHeld (object.Tree tree) bytes l None) (called who t.now s) t
          → newest t (object.Tree tree) ≡ Some bytes
      root bytes (inl never) = absurd (never.1 done)
      root bytes (inr lands) = put_lands who (object.Tree tree) bytes l None (called who t.now s) t lands.0

      on : (reserved : Option (List ℕ)) (puts : List PagePut) → has_nothing (record { reserved = reserved; puts = puts }) ≡ false
          → IsCall who (unwrap_or (put_first tree l (put_next tree l second puts) reserved) other) a s t
          → newest t (object.Tree tree) ≡ landed_root (record { reserved = reserved; puts = puts }) (newest s (object.Tree tree))
      on (Some bytes) puts e c = root bytes (put_cases who (object.Tree tree) bytes l None a s t c)
      on None (x ∷ puts) e c = page x (put_after who (object.Page tree x.page) x.bytes l second a s t (object.Tree tree) c)
      on None [] e c = absurd (cc (e))

-- ---- wherever it stands

-- a call that is none of the queue's, but where messages are received or deleted
abbrev pub TouchesQueue : Work → Type 0
TouchesQueue (work.Receiving l root) = Unit {0}
TouchesQueue (work.Deleting h applied) = Unit {0}
TouchesQueue w = ⊥

last_quiet : (r : Rising) (l : Claim) (last : Option (List ℕ)) → TouchesNoQueue (last_ask r l last)
last_quiet r l (Some bytes) = tt
last_quiet r l None = tt

release_quiet : (tree : ℕ) (l : Option Claim) → TouchesNoQueue (release_ask tree l)
release_quiet tree (Some l) = tt
release_quiet tree None = tt

pub work_quiet : (tree : ℕ) (w : Work) → TouchesQueue w ⊎ TouchesNoQueue (work_ask tree w)
work_quiet tree work.TakingTree = inr tt
work_quiet tree (work.GettingTree l) = inr tt
work_quiet tree (work.Receiving l root) = inl tt
work_quiet tree (work.Descending h d) = inr tt
work_quiet tree (work.TakingPage h c) = inr tt
work_quiet tree (work.Folding h f) = inr (in_hand_quiet f.chart.tree h.lease (Some f.lease) (GetHeld (object.Page f.chart.tree f.page) f.lease) f.placing tt)
work_quiet tree (work.ReleasingPage h l o) = inr tt
work_quiet tree (work.LeftPage h o) = inr tt
work_quiet tree (work.Rising h r) = inr (in_hand_quiet r.chart.tree h.lease None (last_ask r h.lease r.last) r.placing (last_quiet r h.lease r.last))
work_quiet tree (work.Deleting h applied) = inl tt
work_quiet tree (work.Releasing held end) = inr (release_quiet tree (newest_lease held))
work_quiet tree work.Finished = inr tt

module _ (who : Caller) (a : Answer) (s t : CloudState) (tree : ℕ) where
  same_for : (ask : Ask) → IsCall who ask a s t → PutsNothing ask → newest t (object.Tree tree) ≡ newest s (object.Tree tree)
  same_for ask call nothing = newest_same who ask a s t (object.Tree tree) call nothing

  delete_same : (id : Option ℕ) → IsCall who (delete_ask tree id) a s t → newest t (object.Tree tree) ≡ newest s (object.Tree tree)
  delete_same (Some id) call = same_for (delete_ask tree (Some id)) call tt
  delete_same None call = same_for (delete_ask tree None) call tt

  release_same : (l : Option Claim) → IsCall who (release_ask tree l) a s t → newest t (object.Tree tree) ≡ newest s (object.Tree tree)
  release_same (Some l) call = same_for (Release l) call tt
  release_same None call = same_for (release_ask tree None) call tt

  lands_for : (known : ℕ) (l : Claim) (second : Option Claim) (other : Ask) (p : Placing) → known ≡ tree → has_nothing p ≡ false → done_of a ≡ Ok tt
      → IsCall who (unwrap_or (put_in_hand p known l second) other) a s t → newest t (object.Tree tree) ≡ landed_root p (newest s (object.Tree tree))
  lands_for known l second other p same some done call =
      subst (λ (k : ℕ). newest t (object.Tree k) ≡ landed_root p (newest s (object.Tree k))) same (in_hand_lands known l second other p who a s t some done call)

  pub newest_by : (st : Store) (w : Work) → KnowsWork st s.now tree w → IsCall who (work_ask tree w) a s t
      → NewestBy w a (newest s (object.Tree tree)) (newest t (object.Tree tree))
  newest_by st work.TakingTree k call = same_for (work_ask tree work.TakingTree) call tt
  newest_by st (work.GettingTree l) k call = λ v e.
      held_seen who (object.Tree tree) l a s t call v e ∙ sym (same_for (GetHeld (object.Tree tree) l) call tt)
  newest_by st (work.Receiving l root) k call = same_for (work_ask tree (work.Receiving l root)) call tt
  newest_by st (work.Descending h d) k call = same_for (work_ask tree (work.Descending h d)) call tt
  newest_by st (work.TakingPage h c) k call = same_for (work_ask tree (work.TakingPage h c)) call tt
  newest_by st (work.Folding h f) k call = (
    (λ none.
        let other : Ask = GetHeld (object.Page f.chart.tree f.page) f.lease in
        same_for other (subst (λ (q : Ask). IsCall who q a s t) (in_hand_none f.chart.tree h.lease (Some f.lease) other f.placing none) call) tt),
    (λ some done. lands_for f.chart.tree h.lease (Some f.lease) (GetHeld (object.Page f.chart.tree f.page) f.lease) f.placing k.0.tree_is some done call),
  )
  newest_by st (work.ReleasingPage h l o) k call = same_for (Release l) call tt
  newest_by st (work.LeftPage h o) k call = absurd k
  newest_by st (work.Rising h r) k call = λ some done. lands_for r.chart.tree h.lease None (last_ask r h.lease r.last) r.placing k.0.tree_is some done call
  newest_by st (work.Deleting h applied) k call = delete_same (next_id h.deletions.ids) call
  newest_by st (work.Releasing held end) k call = release_same (newest_lease held) call
  newest_by st work.Finished k call = absurd k
