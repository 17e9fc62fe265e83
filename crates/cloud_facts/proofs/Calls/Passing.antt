-- What any call that lands leaves for all sessions.
use Rattle.std.proofs.Common.{◌≡◌, ◌≤◌, ◌<◌, ◌⊎◌, inl, inr, ℕ, List, [], ◌∷◌, refl, sym, subst, ◌∙◌}
use Rattle.cloud_facts.specs.Words.{AtomicRec, Head, Caller, Ask, Store, IsIn}
use Rattle.cloud_trait.specs.State.{marked}
use Rattle.cloud_facts.specs.Landings.Holding.{Holds}
use Rattle.cloud_facts.specs.Landings.Landing.{Landing, opens, settles, logs, posts, marks_log, marks_post, puts_leaf, puts_page, puts_inner, puts_root, raises_root, removes, stays, sent_by}
use Rattle.cloud_facts.proofs.Landings.LandingLemmas.{landing_grows}
use Rattle.cloud_facts.specs.Lefts.Left.{IsWaiting}
use Rattle.cloud_facts.proofs.Lefts.MessageLemmas.{waits_more, waits_marked, deleted_more, deleted_marked}
use Rattle.cloud_facts.specs.Numbers.Numbers.{Numbers}
use Rattle.route_plan.specs.Record.{pu_record_of}
use Rattle.cloud_facts.specs.Book.Effects.{after_post_mark}
use Rattle.cloud_facts.specs.Book.Growth.{Grows}
use Rattle.cloud_facts.specs.Book.Messages.{Waits, IsMessage, IsDeleted}
use Rattle.cloud_facts.specs.Book.Premises.{Opens, MarksPost}
use Rattle.cloud_facts.specs.Book.Records.{IsApplied}
use Rattle.cloud_facts.proofs.Book.GrowthLemmas.{applied_stays, grows_itself}
use Rattle.cloud_facts.proofs.Book.Names.{at_by, at2_by}
use Rattle.cloud_facts.proofs.Book.Places.{in_either, in_none}
use Rattle.cloud_facts.specs.Calls.Others.{WasSentOn, IsNewer, Passes, IsOfPart}
use Rattle.cloud_facts.specs.Calls.Standing.{Commits}
use Rattle.cloud_facts.specs.Homes.Homes.{Home, Part, AtHome}

-- ---- what was sent on stays so

-- a message that is marked is of an applied record
mark_stays : (st : Store) (tree page id : ℕ) → MarksPost st tree page id → Numbers st → (r : AtomicRec) → IsIn st.book.log r → IsWaiting st.tally r
    → WasSentOn (after_post_mark tree page id st).tally r
mark_stays st tree page id marking numbers r logged w =
    at2_by (λ t q ps. t ≡ r.tree → q ≡ r.page → Waits (st.tally.posts t q) (pu_record_of r) → IsApplied st.tally r ⊎ Waits ps (pu_record_of r)) tree page _ st.tally.posts
    (λ t q is. turn t q (waits_marked (st.tally.posts tree page) id (pu_record_of r) is)) (λ t q a b is. inr is) r.tree r.page refl refl w
  where
    turn : tree ≡ r.tree → page ≡ r.page → IsMessage (st.tally.posts tree page) id (pu_record_of r) ⊎ Waits (marked (st.tally.posts tree page) id) (pu_record_of r)
        → IsApplied st.tally r ⊎ Waits (marked (st.tally.posts tree page) id) (pu_record_of r)
    turn t q (inl m) =
        let under : r.number ≤ st.tally.cursor tree page r.client = marking.covered (pu_record_of r) m in
        inl (numbers.covered r logged (subst (λ k. r.number ≤ st.tally.cursor r.tree k r.client) q (subst (λ k. r.number ≤ st.tally.cursor k page r.client) t under)))
    turn t q (inr is) = inr is

waiting_stays : (who : Caller) (st : Store) (ask : Ask) (su : Store) → Holds st → Landing who st ask su → (r : AtomicRec) → IsIn st.book.log r → IsWaiting st.tally r
    → WasSentOn su.tally r
waiting_stays who st ask su h (opens client head records bytes one two e o) r logged w = inr w
waiting_stays who st ask su h (settles client head bytes one two e o) r logged w = inr w
waiting_stays who st ask su h (logs client bytes q o) r logged w = inr w
waiting_stays who st ask su h (posts tree page bytes q o) r logged w =
    inr (at2_by (λ t p ps. Waits (st.tally.posts t p) (pu_record_of r) → Waits ps (pu_record_of r)) tree page _ st.tally.posts
    (waits_more (st.tally.posts tree page) (sent_by who bytes ∷ []) (pu_record_of r)) (λ t p is. is) r.tree r.page w)
waiting_stays who st ask su h (marks_log client id o) r logged w = inr w
waiting_stays who st ask su h (marks_post tree page id o) r logged w = mark_stays st tree page id o h.numbers r logged w
waiting_stays who st ask su h (puts_leaf p bytes one two e takes lands there) r logged w = inr w
waiting_stays who st ask su h (puts_page tree page node bytes one two is e first lands) r logged w = inr w
waiting_stays who st ask su h (puts_inner tree page node pieces bytes one two is e lands there) r logged w = inr w
waiting_stays who st ask su h (puts_root tree t bytes one two is e covers lands) r logged w = inr w
waiting_stays who st ask su h (raises_root tree t level links bytes one two is e covers lands there) r logged w = inr w
waiting_stays who st ask su h (removes tree page l is o) r logged w = inr w
waiting_stays who st ask su h (stays asked puts touches) r logged w = inr w

-- ---- what is deleted stays so

deleted_stays : (who : Caller) (st : Store) (ask : Ask) (su : Store) → Landing who st ask su → (client id : ℕ) → IsDeleted (st.tally.logged client) id
    → IsDeleted (su.tally.logged client) id
deleted_stays who st ask su (opens client head records bytes one two e o) c i d = d
deleted_stays who st ask su (settles client head bytes one two e o) c i d = d
deleted_stays who st ask su (logs client bytes q o) c i d =
    at_by (λ n ps. IsDeleted (st.tally.logged n) i → IsDeleted ps i) client _ st.tally.logged (deleted_more (st.tally.logged client) (sent_by who bytes ∷ []) i) (λ n is. is) c d
deleted_stays who st ask su (posts tree page bytes q o) c i d = d
deleted_stays who st ask su (marks_log client id o) c i d =
    at_by (λ n ps. IsDeleted (st.tally.logged n) i → IsDeleted ps i) client _ st.tally.logged (deleted_marked (st.tally.logged client) id i) (λ n is. is) c d
deleted_stays who st ask su (marks_post tree page id o) c i d = d
deleted_stays who st ask su (puts_leaf p bytes one two e takes lands there) c i d = d
deleted_stays who st ask su (puts_page tree page node bytes one two is e first lands) c i d = d
deleted_stays who st ask su (puts_inner tree page node pieces bytes one two is e lands there) c i d = d
deleted_stays who st ask su (puts_root tree t bytes one two is e covers lands) c i d = d
deleted_stays who st ask su (raises_root tree t level links bytes one two is e covers lands there) c i d = d
deleted_stays who st ask su (removes tree page l is o) c i d = d
deleted_stays who st ask su (stays asked puts touches) c i d = d

-- ---- what joins the log

opened_newer : (st : Store) (client : ℕ) (head : Head) (records : List AtomicRec) → Opens st client head records → (r : AtomicRec) → IsIn records r
    → IsNewer (st.tally.head r.client) r
opened_newer st client head records o r is =
    let w = o.records_are is.0 r is.1 in
    subst (λ (c : ℕ). IsNewer (st.tally.head c) r) (sym w.client_is) (w.epoch_is ∙ o.epoch, subst (λ (n : ℕ). (st.tally.head client).txn < n) (sym w.txn_is) o.later)

joins : (who : Caller) (st : Store) (ask : Ask) (su : Store) → Landing who st ask su → (r : AtomicRec) → IsIn su.book.log r
    → IsIn st.book.log r ⊎ IsNewer (st.tally.head r.client) r
joins who st ask su (opens client head records bytes one two e o) r is = on (in_either st.book.log records r is)
  where
    on : IsIn st.book.log r ⊎ IsIn records r → IsIn st.book.log r ⊎ IsNewer (st.tally.head r.client) r
    on (inl old) = inl old
    on (inr new) = inr (opened_newer st client head records o r new)
joins who st ask su (settles client head bytes one two e o) r is = on (in_either st.book.log [] r is)
  where
    on : IsIn st.book.log r ⊎ IsIn [] r → IsIn st.book.log r ⊎ IsNewer (st.tally.head r.client) r
    on (inl old) = inl old
    on (inr new) = absurd (in_none [] r refl new)
joins who st ask su (logs client bytes q o) r is = inl is
joins who st ask su (posts tree page bytes q o) r is = inl is
joins who st ask su (marks_log client id o) r is = inl is
joins who st ask su (marks_post tree page id o) r is = inl is
joins who st ask su (puts_leaf p bytes one two e takes lands there) r is = inl is
joins who st ask su (puts_page tree page node bytes one two t e first lands) r is = inl is
joins who st ask su (puts_inner tree page node pieces bytes one two t e lands there) r is = inl is
joins who st ask su (puts_root tree root bytes one two t e covers lands) r is = inl is
joins who st ask su (raises_root tree root level links bytes one two t e covers lands there) r is = inl is
joins who st ask su (removes tree page l is o) r there = inl there
joins who st ask su (stays asked puts touches) r is = inl is

-- of the session's own home
opened_own : (st : Store) (part : Part) (client : ℕ) (head : Head) (records : List AtomicRec) → Opens st client head records
    → (g : Home) × (part ≡ AtHome g) × (client ≡ g.client) × (head.epoch ≡ g.epoch) → (r : AtomicRec) → IsIn records r → IsOfPart part r
opened_own st part client head records o (g, is, client_is, epoch_is) r there =
    let w = o.records_are there.0 r there.1 in
    subst (λ (p : Part). IsOfPart p r) (sym is) (w.client_is ∙ client_is, w.epoch_is ∙ epoch_is)

pub commits_join : (who : Caller) (st : Store) (part : Part) (ask : Ask) (su : Store) → (l : Landing who st ask su) → Commits who st part ask su l → (r : AtomicRec)
    → IsIn su.book.log r → IsIn st.book.log r ⊎ IsOfPart part r
commits_join who st part ask su (opens client head records bytes one two e o) c r is = on (in_either st.book.log records r is)
  where
    on : IsIn st.book.log r ⊎ IsIn records r → IsIn st.book.log r ⊎ IsOfPart part r
    on (inl old) = inl old
    on (inr new) = inr (opened_own st part client head records o c r new)
commits_join who st part ask su (settles client head bytes one two e o) c r is = on (in_either st.book.log [] r is)
  where
    on : IsIn st.book.log r ⊎ IsIn [] r → IsIn st.book.log r ⊎ IsOfPart part r
    on (inl old) = inl old
    on (inr new) = absurd (in_none [] r refl new)
commits_join who st part ask su (logs client bytes q o) c r is = inl is
commits_join who st part ask su (posts tree page bytes q o) c r is = inl is
commits_join who st part ask su (marks_log client id o) c r is = inl is
commits_join who st part ask su (marks_post tree page id o) c r is = inl is
commits_join who st part ask su (puts_leaf p bytes one two e takes lands there) c r is = inl is
commits_join who st part ask su (puts_page tree page node bytes one two t e first lands) c r is = inl is
commits_join who st part ask su (puts_inner tree page node pieces bytes one two t e lands there) c r is = inl is
commits_join who st part ask su (puts_root tree root bytes one two t e covers lands) c r is = inl is
commits_join who st part ask su (raises_root tree root level links bytes one two t e covers lands there) c r is = inl is
commits_join who st part ask su (removes tree page l is o) c r there = inl there
commits_join who st part ask su (stays asked puts touches) c r is = inl is

-- ---- the whole

pub landing_passes : (who : Caller) (st : Store) (ask : Ask) (su : Store) → Holds st → Landing who st ask su → Passes st su
landing_passes who st ask su h l = record {
  grows = grows;
  sent_on = λ r logged sent. on r logged sent;
  deleted = deleted_stays who st ask su l;
  joined = joins who st ask su l;
}
  where
    grows : Grows st su
    grows = landing_grows who st ask su h l

    on : (r : AtomicRec) → IsIn st.book.log r → WasSentOn st.tally r → WasSentOn su.tally r
    on r logged (inl applied) = inl (applied_stays st su r grows (h.numbers.placed r logged).client applied)
    on r logged (inr waits) = waiting_stays who st ask su h l r logged waits

-- nothing changes
pub passes_itself : (st : Store) → Passes st st
passes_itself st = record { grows = grows_itself st; sent_on = λ r logged sent. sent; deleted = λ client id is. is; joined = λ r is. inl is }
