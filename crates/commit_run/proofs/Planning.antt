-- What planning makes of what is known.
use Rattle.std.proofs.Common.{◌≡◌, ◌≤◌, ℕ, zero, suc, Bool, true, false, not, List, [], ◌∷◌, ◌++◌, length, drop, Option, Some, None, refl, ap, sym, subst, ◌∙◌, inl, inr, arith, length-append, length-drop}
use Rattle.std.specs.Prelude.{slice_get, find, if◌then◌else◌, ◌||◌, ◌&&◌, ◌==◌}
use Rattle.std.specs.Option.{option_map, option_map_or}
use Rattle.std.specs.List.{AllByRecursion}
use Rattle.std.proofs.lemmas.Bool.{eqb-true}
use Rattle.byte_format.specs.Order.{bytes_below, below_bound}
use Rattle.db_base.specs.declared.names.ObjName.TheVariants as object
use Rattle.commit_run.specs.Ended.{Ended, spans, page_at}
use Rattle.db_base.specs.Change.{goes_to_leaf}
use Rattle.commit_run.specs.Plan.{has_pending}
use Rattle.commit_run.specs.Meaning.{IsHeldAt, IsLeafOf}
use Rattle.commit_run.proofs.Words.{key_of, Pending, Noted, Got, Get, seeks, page_without, pages_of, Trip, AreLeaves}
use Rattle.commit_run.proofs.Knows.{IsGotAt}

-- ---- more walks

pub get_more : {X : Type 0} (xs ys : List X) (i : ℕ) (x : X) → slice_get xs i ≡ Some x → slice_get (xs ++ ys) i ≡ Some x
get_more [] ys i x e = absurd (cc (e))
get_more (y ∷ xs) ys zero x e = e
get_more (y ∷ xs) ys (suc i) x e = get_more xs ys i x e

pub get_last : {X : Type 0} (xs : List X) (x : X) → slice_get (xs ++ x ∷ []) (length xs) ≡ Some x
get_last [] x = refl
get_last (y ∷ xs) x = get_last xs x

pub all_more : {X : Type 0} (P : X → Type 0) (xs ys : List X) → AllByRecursion P xs → AllByRecursion P ys → AllByRecursion P (xs ++ ys)
all_more P [] ys all more = more
all_more P (x ∷ xs) ys all more = (all.0, all_more P xs ys all.1 more)

pub all_map : {X : Type 0} (P Q : X → Type 0) → ((x : X) → P x → Q x) → (xs : List X) → AllByRecursion P xs → AllByRecursion Q xs
all_map P Q f [] all = tt
all_map P Q f (x ∷ xs) all = (f x all.0, all_map P Q f xs all.1)

got_more : (trips more : List Trip) (e : Ended) → IsGotAt trips e → IsGotAt (trips ++ more) e
got_more trips more e h = record {
  place = h.place;
  trip = h.trip;
  among = get_more trips more h.place h.trip h.among;
  in_tree = h.in_tree;
  left = h.left;
  ended = h.ended;
  earlier = h.earlier;
  bytes = h.bytes;
  got = h.got;
  leaf = h.leaf;
  spelled = h.spelled;
  low = h.low;
  high = h.high;
}

pub ended_more : (trips more : List Trip) (es : List Ended) → AllByRecursion (IsGotAt trips) es → AllByRecursion (IsGotAt (trips ++ more)) es
ended_more trips more es all = all_map (IsGotAt trips) (IsGotAt (trips ++ more)) (got_more trips more) es all

leaf_more : (trips more : List Trip) (n : Noted) (page : ℕ) → IsLeafOf trips n page → IsLeafOf (trips ++ more) n page
leaf_more trips more n page (inl h) =
    inl (record {
      place = h.place;
      trip = h.trip;
      among = get_more trips more h.place h.trip h.among;
      in_tree = h.in_tree;
      left = h.left;
      ended = h.ended;
      earlier = h.earlier;
      bytes = h.bytes;
      got = h.got;
      leaf = h.leaf;
      spelled = h.spelled;
      holds = h.holds;
    })
leaf_more trips more n page (inr (one, s)) =
    inr (
      one,
      record {
        place = s.place;
        trip = s.trip;
        among = get_more trips more s.place s.trip s.among;
        in_tree = s.in_tree;
        to = s.to;
        own = s.own;
        left = s.left;
        trouble = s.trouble;
        stopped = s.stopped;
        stale = s.stale;
      },
    )

pub leaves_more : (trips more : List Trip) (changes : List Noted) (pages : List ℕ) → AreLeaves trips changes pages → AreLeaves (trips ++ more) changes pages
leaves_more trips more [] pages h = tt
leaves_more trips more (n ∷ changes) [] h = tt
leaves_more trips more (n ∷ changes) (page ∷ pages) h = (λ update. leaf_more trips more n page (h.0 update), leaves_more trips more changes pages h.1)

-- ---- more pages

pub no_leaves : (trips : List Trip) (changes : List Noted) → AreLeaves trips changes []
no_leaves trips [] = tt
no_leaves trips (n ∷ changes) = tt

pub leaves_append : (trips : List Trip) (changes : List Noted) (pages others : List ℕ) → AreLeaves trips changes pages → AreLeaves trips (drop (length pages) changes) others
    → AreLeaves trips changes (pages ++ others)
leaves_append trips changes [] others h more = more
leaves_append trips [] (page ∷ pages) others h more = tt
leaves_append trips (n ∷ changes) (page ∷ pages) others h more = (h.0, leaves_append trips changes pages others h.1 more)

-- a key of the tree in the range of a leaf that was got
both_true : (a b c : Bool) → (a && (b && c)) ≡ true → (a ≡ true) × ((b && c) ≡ true)
both_true true b c e = (refl, e)
both_true false b c e = absurd (cc (e))

spans_held : (trips : List Trip) (tree : ℕ) (key : List ℕ) (e : Ended) → IsGotAt trips e → spans tree key e ≡ true → IsHeldAt trips tree e.page key
spans_held trips tree key e h spanned =
    let both : ((e.tree == tree) ≡ true) × ((not (bytes_below key e.low) && below_bound key e.high) ≡ true) =
    both_true (e.tree == tree) (not (bytes_below key e.low)) (below_bound key e.high) spanned in
    let same : e.tree ≡ tree = eqb-true e.tree tree both.0 in
    record {
      place = h.place;
      trip = h.trip;
      among = h.among;
      in_tree = h.in_tree ∙ same;
      left = h.left;
      ended = h.ended;
      earlier = h.earlier;
      bytes = h.bytes;
      got = h.got ∙ ap (λ (t : ℕ). h.earlier ++ (Get (object.Page t e.page), Got h.bytes) ∷ []) same;
      leaf = h.leaf;
      spelled = h.spelled;
      holds =
          sym (ap (λ (low : List ℕ). not (bytes_below key low) && below_bound key e.high) h.low ∙ ap (λ (high : Option (List ℕ)). not (bytes_below key h.leaf.low) && below_bound key high) h.high)
          ∙ both.1;
    }

found_held : (trips : List Trip) (tree : ℕ) (key : List ℕ) (page : ℕ) (es : List Ended) → AllByRecursion (IsGotAt trips) es → page_at es tree key ≡ Some page → IsHeldAt trips tree page key
found_held trips tree key page [] all e = absurd (cc (e))
found_held trips tree key page (x ∷ es) all e = on (found_held trips tree key page es all.1) (spans tree key x) refl e where
  on : (page_at es tree key ≡ Some page → IsHeldAt trips tree page key) → (b : Bool) → spans tree key x ≡ b → option_map (λ (y : Ended). y.page) (if b then Some x else find (spans tree key) es) ≡ Some page → IsHeldAt trips tree page key
  on more true spanned e = let same : x.page ≡ page = cc (e) in subst (λ (p : ℕ). IsHeldAt trips tree p key) same (spans_held trips tree key x all.0 spanned)
  on more false spanned e = more e

seeks_update : (a b : Bool) → a ≡ true → (a || b) ≡ true
seeks_update true b e = refl
seeks_update false b e = absurd (cc (e))

page_held : (trips : List Trip) (pending : List Pending) (es : List Ended) (n : Noted) (page : ℕ) → AllByRecursion (IsGotAt trips) es → page_without pending es n ≡ Some page → goes_to_leaf n.change ≡ true
    → IsLeafOf trips n page
page_held trips pending es n page all e update =
    let seeking : seeks pending n ≡ true = seeks_update (goes_to_leaf n.change) (has_pending pending n.tree (key_of n.change)) update in
    inl (found_held trips n.tree (key_of n.change) page es all
    (sym (ap (λ (b : Bool). if b then page_at es n.tree (key_of n.change) else Some 1) seeking) ∙ e))

pub pages_leaves : (trips : List Trip) (pending : List Pending) (es : List Ended) → AllByRecursion (IsGotAt trips) es → (changes : List Noted) → AreLeaves trips changes (pages_of pending es changes)
pages_leaves trips pending es all [] = tt
pages_leaves trips pending es all (n ∷ changes) = on (page_without pending es n) refl (pages_leaves trips pending es all changes) where
  on : (o : Option ℕ) → page_without pending es n ≡ o → AreLeaves trips changes (pages_of pending es changes)
      → AreLeaves trips (n ∷ changes) (option_map_or (λ page. page ∷ pages_of pending es changes) o [])
  on None e more = tt
  on (Some page) e more = (page_held trips pending es n page all e, more)

pages_within : (pending : List Pending) (es : List Ended) (changes : List Noted) → length (pages_of pending es changes) ≤ length changes
pages_within pending es [] = omega arith
pages_within pending es (n ∷ changes) = on (page_without pending es n) (pages_within pending es changes) where
  on : (o : Option ℕ) → length (pages_of pending es changes) ≤ length changes → length (option_map_or (λ page. page ∷ pages_of pending es changes) o []) ≤ suc (length changes)
  on None more = omega arith
  on (Some page) more = omega (arith, more)

pub planned_within : (pending : List Pending) (es : List Ended) (changes : List Noted) (pages : List ℕ) → length pages ≤ length changes
    → length (pages ++ pages_of pending es (drop (length pages) changes)) ≤ length changes
planned_within pending es changes pages within =
    omega (arith, length-append pages (pages_of pending es (drop (length pages) changes)), pages_within pending es (drop (length pages) changes), length-drop (length pages) changes, within)
