-- Each version and each message has its row: so no more pages and messages landed than there are rows.
use Rattle.std.proofs.Common.{◌≡◌, ◌≢◌, ◌+◌, ◌≤◌, ℕ, List, [], ◌∷◌, length, map, refl, sym, ap, subst, ◌∙◌, arith}
use Rattle.std.specs.Prelude.{slice_get}
use Rattle.std.proofs.lemmas.List.{length-map}
use Rattle.std.proofs.lemmas.List.Sums.{length-filter, count_by-le-length}
use Rattle.cloud_facts.specs.Words.{ObjName, QueueName, Version, Posted, CloudState, Link, IsIn, nodes_of, roots_of}
use Rattle.cloud_trait.specs.Traced.{IsTraced, is_object, is_queue, object_rows, queue_rows, version_rows, post_rows}
use Rattle.cloud_trait.specs.declared.state.Landing.{Landing}
use Rattle.cloud_trait.specs.declared.state.Site.{Site}
use Rattle.cloud_trait.specs.declared.state.Site.TheVariants.{Object}
use Rattle.db_base.specs.declared.names.ObjName.TheVariants as object
use Rattle.cloud_facts.specs.Book.Records.{Apart}
use Rattle.cloud_facts.specs.Book.Telling.{node_in, with_bytes, newest_root}
use Rattle.cloud_facts.specs.Chains.Chain.{IsChained}
use Rattle.cloud_facts.proofs.Book.Lengths.{apart_fits, image}
use Rattle.cloud_facts.proofs.Book.Places.{get_map}
use Rattle.cloud_facts.proofs.Chains.Joining.{level_apart}
use Rattle.cloud_facts.proofs.Chains.Pieces.{in_first, in_rest}
use Rattle.cloud_facts.proofs.Chains.Pieces.{Apart as PagesApart}
use Rattle.cloud_facts.proofs.Numbers.Lists.{filter_there}

-- rows and what landed stay
pub same_traced : (s t : CloudState) → t.versions ≡ s.versions → t.messages ≡ s.messages → t.trace ≡ s.trace → IsTraced s → IsTraced t
same_traced s t versions messages trace traced = record {
  versions = λ name. ap (object_rows name) trace ∙ traced.versions name ∙ ap (λ (f : ObjName → List Version). version_rows name 1 (f name)) (sym versions);
  messages = λ queue. ap (queue_rows queue) trace ∙ traced.messages queue ∙ ap (λ (f : QueueName → List Posted). post_rows queue 1 (f queue)) (sym messages);
}

-- ---- as many rows

versions_many : (name : ObjName) (n : ℕ) (vs : List Version) → length (version_rows name n vs) ≡ length vs
versions_many name n [] = refl
versions_many name n (v ∷ vs) = let more = versions_many name (n + 1) vs in omega (arith, more)

posts_many : (queue : QueueName) (n : ℕ) (ms : List Posted) → length (post_rows queue n ms) ≡ length ms
posts_many queue n [] = refl
posts_many queue n (m ∷ ms) = let more = posts_many queue (n + 1) ms in omega (arith, more)

pub versions_within : (s : CloudState) → IsTraced s → (name : ObjName) → length (s.versions name) ≤ length s.trace
versions_within s traced name =
    let rows = ap length (traced.versions name) in
    let many = versions_many name 1 (s.versions name) in
    let kept = length-filter (λ (r : Landing). is_object name r.site) s.trace in
    let few = count_by-le-length (λ (r : Landing). is_object name r.site) s.trace in
    omega (arith, rows, many, kept, few)

pub messages_within : (s : CloudState) → IsTraced s → (queue : QueueName) → length (s.messages queue) ≤ length s.trace
messages_within s traced queue =
    let rows = ap length (traced.messages queue) in
    let many = posts_many queue 1 (s.messages queue) in
    let kept = length-filter (λ (r : Landing). is_queue queue r.site) s.trace in
    let few = count_by-le-length (λ (r : Landing). is_queue queue r.site) s.trace in
    omega (arith, rows, many, kept, few)

-- ---- pages

-- the page of a row, 1 where it is of none
abbrev page_in : Site → ℕ
page_in (Object (object.Page tree page)) = page
page_in site = 1

abbrev page_at : Landing → ℕ
page_at r = page_in r.site

-- an object that has versions has a row
object_row : (s : CloudState) → IsTraced s → (name : ObjName) → s.versions name ≢ [] → (r : Landing) × IsIn s.trace r × (r.site ≡ Object name)
object_row s traced name some = on (s.versions name) refl
  where
    on : (vs : List Version) → s.versions name ≡ vs → (r : Landing) × IsIn s.trace r × (r.site ≡ Object name)
    on [] none = absurd (some none)
    on (v ∷ vs) is =
        let first : Landing = record { who = v.who; site = Object name; position = 1 } in
        let rows : object_rows name s.trace ≡ version_rows name 1 (v ∷ vs) = traced.versions name ∙ ap (version_rows name 1) is in
        let p = filter_there (λ (r : Landing). is_object name r.site) s.trace 0 first (ap (λ (rs : List Landing). slice_get rs 0) rows) in
        (first, (p.place, p.there), refl)

abbrev pub page_of : Link → ℕ
page_of l = l.page

pub pages_apart : (ls : List Link) → PagesApart ls → Apart (map page_of ls)
pages_apart [] apart = tt
pages_apart (l ∷ ls) apart = (λ n is. let k = image page_of ls n is in λ same. apart.0 k.0 k.1 (k.2 ∙ same), pages_apart ls apart.1)

-- a level has no more links than rows, but for page 1, which is linked before it lands
pub links_within : (s : CloudState) → IsTraced s → (tree : ℕ) (chain : ℕ → List Link) (done : List ℕ → ℕ → ℕ → ℕ) (cursor : ℕ → ℕ)
    → IsChained chain (nodes_of s tree) (roots_of s tree) done cursor → (level : ℕ) → length (chain level) ≤ length s.trace + 1
links_within s traced tree chain done cursor h level =
    let some = length-map (chain level) page_of in
    let all = length-map s.trace page_at in
    let few = apart_fits (map page_of (chain level)) (1 ∷ map page_at s.trace) (pages_apart (chain level) (level_apart chain (newest_root (roots_of s) tree).level h.levels level)) there in
    omega (arith, some, all, few)
  where
    row : (l : Link) → IsIn (chain level) l → (vs : List Version) → s.versions (object.Page tree l.page) ≡ vs → IsIn (1 ∷ map page_at s.trace) l.page
    row l is [] none =
        subst (IsIn (1 ∷ map page_at s.trace)) (sym (h.newest.absent level l is (ap (λ (vs : List Version). map node_in (with_bytes vs)) none)).1) (in_first 1 (map page_at s.trace))
    row l is (v ∷ vs) some =
        let r = object_row s traced (object.Page tree l.page) (λ none. never (sym some ∙ none)) in
        in_rest 1 (map page_at s.trace) l.page
        (subst (IsIn (map page_at s.trace)) (ap page_in r.2) (r.1.0, get_map page_at s.trace r.1.0 r.0 r.1.1))
      where
        never : v ∷ vs ≡ [] → ⊥
        never e = cc

    there : (n : ℕ) → IsIn (map page_of (chain level)) n → IsIn (1 ∷ map page_at s.trace) n
    there n is =
        let l = image page_of (chain level) n is in
        subst (IsIn (1 ∷ map page_at s.trace)) l.2 (row l.0 l.1 (s.versions (object.Page tree l.0.page)) refl)
