-- No call of a page checkpoint changes what right page the newest version of a page has.
use Rattle.std.proofs.Common.{◌≡◌, ◌⊎◌, inl, inr, ℕ, List, [], ◌∷◌, ◌++◌, map, Option, Some, None, Ok, refl, sym, ap, subst, ◌∙◌}
use Rattle.std.proofs.lemmas.List.{map-append}
use Rattle.cloud_facts.proofs.Calls.Calls.{put_cases, permitted, put_lasts}
use Rattle.cloud_facts.proofs.Chains.Names.{last_added}
use Rattle.cloud_facts.proofs.Decoding.Reading.{node_reads}
use Rattle.cloud_facts.proofs.Decoding.Versions.{bytes_added}
use Rattle.cloud_facts.specs.Words.{ObjName, Entry, PuItem, Leaf, Answer, Version, CloudState, called, Caller, Claim, Ask, GetHeld, PutHeld, Receive, Delete, Release, done_of, Book, Leafy, nodes_of, store_of, IsCall}
use Rattle.cloud_facts.specs.Book.Tally.{right_of}
use Rattle.cloud_facts.specs.Book.Telling.{last_or, node_in, with_bytes}
use Rattle.cloud_facts.specs.Chains.Links.{newest_node}
use Rattle.cloud_trait.proofs.NameLemmas.{object_cmp-equal}
use Rattle.cloud_trait.proofs.RowLemmas.{row_versions}
use Rattle.cloud_trait.proofs.StateLemmas.{put_at_by}
use Rattle.cloud_trait.specs.Ask.{Lands, PutsNothing}
use Rattle.cloud_trait.specs.Names.{object_cmp}
use Rattle.ckpt_parts.specs.Deleting.{next_id}
use Rattle.ckpt_parts.specs.Leasing.{newest_lease}
use Rattle.ckpt_parts.specs.declared.leases.Leases.{Leases}
use Rattle.db_base.specs.declared.names.ObjName.TheVariants as object
use Rattle.leaf_edit.specs.Applied.{applied}
use Rattle.leaf_view.specs.Leaf.{IsLeaf}
use Rattle.leaf_view.specs.Lookup.{empty_leaf}
use Rattle.page_ckpt.specs.Paging.{Paging, ask_at, paging_ask, under, home_name, right_name, own_queue, take_home, take_right, delete_next}
use Rattle.page_ckpt.specs.declared.stage.Stage.{Stage}
use Rattle.page_ckpt.specs.declared.stage.Stage.TheVariants.{TakingHome, GettingHome, Receiving, TakingRight, GettingRight, PuttingRight, ReleasingRight, PuttingHome, Deleting as DeletingNext, Releasing, Finished}
use Rattle.session_facts.proofs.Machines.PageCheckpoints.Others.{paging_later}
use Rattle.session_facts.specs.Machines.PageCheckpoints.Knows.{KnowsPagingAt, KnowsPaging}
use Rattle.session_facts.specs.Machines.PageCheckpoints.Rights.{IsNewestLeaf}

-- the right page of the newest of versions
abbrev right_in : List Version → ℕ
right_in vs = right_of (last_or (Leafy empty_leaf) (map node_in (with_bytes vs)))

pub right_added : (who : Caller) (vs : List Version) (bytes : List ℕ) (l : Leaf) → IsLeaf bytes l → right_in (vs ++ record { who = who; bytes = Some bytes } ∷ []) ≡ l.right
right_added who vs bytes l spells =
    ap (λ (ws : List Version). right_of (last_or (Leafy empty_leaf) (map node_in ws))) (bytes_added who bytes vs)
    ∙ (ap (λ ns. right_of (last_or (Leafy empty_leaf) ns)) (map-append node_in (with_bytes vs) (v ∷ []))
    ∙ (ap right_of (last_added (Leafy empty_leaf) (map node_in (with_bytes vs)) (node_in v)) ∙ ap right_of (node_reads v bytes (Leafy l) refl spells)))
  where
    v : Version
    v = record { who = who; bytes = Some bytes }

-- the right pages are as they were
abbrev pub SameRights : CloudState → CloudState → Type 0
SameRights s t = (tree page : ℕ) → right_of (newest_node (nodes_of t tree) page) ≡ right_of (newest_node (nodes_of s tree) page)

same_versions : (s t : CloudState) → t.versions ≡ s.versions → SameRights s t
same_versions s t same tree page = ap (λ (vs : ObjName → List Version). right_in (vs (object.Page tree page))) same

-- a leaf lands on the one that takes the run
put_rights : (who : Caller) (s t : CloudState) (tree page : ℕ) (bytes : List ℕ) (one : Claim) (two : Option Claim) (reply : Answer) (l : Leaf) (queue : ℕ) (run : List PuItem)
    → IsCall who (PutHeld (object.Page tree page) bytes one two) reply s t → IsLeaf bytes (applied l queue run)
    → (Lands who (PutHeld (object.Page tree page) bytes one two) (called who t.now s) t → IsNewestLeaf (nodes_of s tree) page l) → SameRights s t
put_rights who s t tree page bytes one two reply l queue run call spells newest = on (put_cases who (object.Page tree page) bytes one two reply s t call)
  where
    v : Version
    v = record { who = who; bytes = Some bytes }

    on : ((t ≡ called who t.now s) × (done_of reply ≡ Ok tt → ⊥)) ⊎ Lands who (PutHeld (object.Page tree page) bytes one two) (called who t.now s) t → SameRights s t
    on (inl stayed) = same_versions s t (ap (λ (u : CloudState). u.versions) stayed.0)
    on (inr lands) = λ other p.
        ap (λ (u : CloudState). right_in (u.versions (object.Page other p))) lands.0
        ∙ put_at_by (λ (q : ObjName) (vs : List Version). right_in vs ≡ right_in (s.versions q)) object_cmp object_cmp-equal s.versions (object.Page tree page)
        (s.versions (object.Page tree page) ++ v ∷ []) (right_added who (s.versions (object.Page tree page)) bytes (applied l queue run) spells ∙ sym (ap right_of (newest lands).is)) (λ q. refl)
        (object.Page other p)

module _ (who : Caller) (s t : CloudState) (book : Book) (order : List Entry) (p : Paging) (reply : Answer) (knows : KnowsPaging (store_of book order s) s.now p)
    (call : IsCall who (paging_ask p) reply s t) where
  asks : (stage : Stage) → p.stage ≡ stage → paging_ask p ≡ ask_at stage p
  asks stage e = ap (λ (g : Stage). ask_at g p) e

  call_at : (ask : Ask) → paging_ask p ≡ ask → IsCall who ask reply s t
  call_at ask is = subst (λ (q : Ask). IsCall who q reply s t) is call

  still : (ask : Ask) → paging_ask p ≡ ask → PutsNothing ask → SameRights s t
  still ask is puts = let c = call_at ask is in same_versions s t (row_versions who ask reply c.before c.after (called who t.now s) t c.row puts)

  -- a call of a page checkpoint leaves the right pages
  pub paging_rights : SameRights s t
  paging_rights = on p.stage refl (paging_later (store_of book order s) s.now t.now p call.later knows).at
    where
      on : (stage : Stage) → p.stage ≡ stage → KnowsPagingAt stage (store_of book order s) t.now p → SameRights s t
      on TakingHome e a = still (take_home p) (asks TakingHome e) tt
      on GettingHome e a =
          still (GetHeld (home_name p) (a.0).lease) (asks GettingHome e ∙ ap (λ (l : Leases). under p l.first (λ c. GetHeld (home_name p) c)) (a.0).is) tt
      on Receiving e a = still (Receive (own_queue p) 256) (asks Receiving e) tt
      on TakingRight e a = still (take_right p) (asks TakingRight e) tt
      on GettingRight e a =
          still (GetHeld (right_name p) (a.0).second) (asks GettingRight e ∙ ap (λ (l : Leases). under p l.second (λ c. GetHeld (right_name p) c)) (a.0).is) tt
      on PuttingRight e (has, comes, puts) =
          put_rights who s t p.tree p.at.page p.out has.lease (Some has.second) reply puts.leaf p.page p.run.items
          (call_at (PutHeld (right_name p) p.out has.lease (Some has.second))
          (asks PuttingRight e ∙ ap (λ (l : Leases). under p l.first (λ c. under p l.second (λ r. PutHeld (right_name p) p.out c (Some r)))) has.is)) puts.puts
          (λ lands. puts.read.newest (permitted who (PutHeld (right_name p) p.out has.lease (Some has.second)) (called who t.now s) t lands).1)
      on ReleasingRight e a =
          still (Release (a.0).second) (asks ReleasingRight e ∙ ap (λ (l : Leases). under p l.second Release) (a.0).is) tt
      on PuttingHome e (has, puts) =
          put_rights who s t p.tree p.page p.out has.lease None reply p.home p.page p.run.items
          (call_at (PutHeld (home_name p) p.out has.lease None) (asks PuttingHome e ∙ ap (λ (l : Leases). under p l.first (λ c. PutHeld (home_name p) p.out c None)) has.is)) puts.puts
          (λ lands. puts.read.newest (put_lasts who (home_name p) p.out has.lease None (called who t.now s) t lands))
      on DeletingNext e (has, each, (id, rest, ids_are)) =
          still (Delete (own_queue p) id) (asks DeletingNext e ∙ ap (λ (ids : List ℕ). delete_next p (next_id ids)) ids_are) tt
      on Releasing e (inl has) = still (Release has.lease) (asks Releasing e ∙ ap (λ (l : Leases). under p (newest_lease l) Release) has.is) tt
      on Releasing e (inr (right, has)) = still (Release has.second) (asks Releasing e ∙ ap (λ (l : Leases). under p (newest_lease l) Release) has.is) tt
      on Finished e never = absurd never
