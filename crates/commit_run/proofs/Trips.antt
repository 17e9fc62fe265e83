-- The walks of a commit grow: a call more of the newest one, or a walk more.
use Rattle.std.proofs.Common.{◌≡◌, ℕ, Bool, List, [], ◌∷◌, ◌++◌, Some, refl, ap, sym, subst, ◌∙◌}
use Rattle.std.specs.List.{AllByRecursion}
use Rattle.std.proofs.lemmas.List.{append_assoc, append-nil}
use Rattle.commit_run.specs.Trips.{Turns, IsTrip, AreTrips, cache_behind, calls_of, IsAimed, IsRead}
use Rattle.commit_run.proofs.Words.{ObjName, Noted, Answer, Ask, Get, Next, Goes, Home, Cache, Walk, object_of, walk_ask, new_walk, walk_ready, walk_next, Calls, Use, left_by_turn, used_by_turn, Trip, uses_of, AreWalks}
use Rattle.commit_run.proofs.Planning.{all_more}
use Rattle.commit_run.proofs.Reading.{LeavesRead, uses_read_more, turn_read}

turns_more : (from : Next (Walk × Cache) ℕ) (calls : Calls) (m : Walk × Cache) (uses : List Use) (a : Answer) → Turns from calls (Goes m) uses
    → Turns from (calls ++ (walk_ask m.0, a) ∷ []) (walk_next m a) (uses ++ used_by_turn (walk_next m a))
turns_more from [] m uses a (is, used) =
    (m, used_by_turn (walk_next m a), sym is, refl, ap (λ (u : List Use). u ++ used_by_turn (walk_next m a)) used, (refl, refl))
turns_more from (call ∷ calls) m uses a (k, later, goes, asked, used, rest) = (
  k,
  later ++ used_by_turn (walk_next m a),
  goes,
  asked,
  ap (λ (u : List Use). u ++ used_by_turn (walk_next m a)) used ∙ append_assoc (used_by_turn from) later (used_by_turn (walk_next m a)),
  turns_more (walk_next k call.1) calls m later a rest,
)

-- ---- one walk more

pub trips_more : (c : Cache) (ts : List Trip) (t : Trip) → AreTrips c ts → IsTrip (cache_behind c ts) t → AreTrips c (ts ++ t ∷ [])
trips_more c [] t all this = (this, tt)
trips_more c (u ∷ ts) t all this = (all.0, trips_more (left_by_turn u.turn).1 ts t all.1 this)

trips_front : (c : Cache) (ts : List Trip) (t : Trip) → AreTrips c (ts ++ t ∷ []) → AreTrips c ts × IsTrip (cache_behind c ts) t
trips_front c [] t all = (tt, all.0)
trips_front c (u ∷ ts) t all = let more : AreTrips (left_by_turn u.turn).1 ts × IsTrip (cache_behind (left_by_turn u.turn).1 ts) t = trips_front (left_by_turn u.turn).1 ts t all.1 in ((all.0, more.0), more.1)

calls_last : (ts : List Trip) (t : Trip) → calls_of (ts ++ t ∷ []) ≡ calls_of ts ++ t.calls
calls_last [] t = append-nil t.calls
calls_last (u ∷ ts) t = ap (λ (cs : Calls). u.calls ++ cs) (calls_last ts t) ∙ sym (append_assoc u.calls (calls_of ts) t.calls)

pub uses_last : (ts : List Trip) (t : Trip) → uses_of (ts ++ t ∷ []) ≡ uses_of ts ++ t.uses
uses_last [] t = append-nil t.uses
uses_last (u ∷ ts) t = ap (λ (us : List Use). u.uses ++ us) (uses_last ts t) ∙ sym (append_assoc u.uses (uses_of ts) t.uses)

pub behind_last : (c : Cache) (ts : List Trip) (t : Trip) → cache_behind c (ts ++ t ∷ []) ≡ (left_by_turn t.turn).1
behind_last c [] t = refl
behind_last c (u ∷ ts) t = behind_last (left_by_turn u.turn).1 ts t

all_front : {X : Type 0} (P : X → Type 0) (xs : List X) (x : X) → AllByRecursion P (xs ++ x ∷ []) → AllByRecursion P xs × P x
all_front P [] x all = (tt, all.0)
all_front P (y ∷ xs) x all = let more : AllByRecursion P xs × P x = all_front P xs x all.1 in ((all.0, more.0), more.1)

-- a walk before its first call
abbrev pub begun_trip : ℕ × List ℕ → Bool → Cache → Trip
begun_trip to fresh c =
    record { tree = to.0; key = to.1; fresh = fresh; calls = []; turn = walk_ready (new_walk to.0 (Some to.1) fresh, c); uses = used_by_turn (walk_ready (new_walk to.0 (Some to.1) fresh, c)) }

pub walks_begin : (home : Home) (changes : List Noted) (c : Cache) (ts : List Trip) (calls : Calls) (to : ℕ × List ℕ) (fresh : Bool) (k : Cache) → AreWalks home changes c ts calls → cache_behind c ts ≡ k
    → IsAimed home changes (begun_trip to fresh k) → LeavesRead c calls (walk_ready (new_walk to.0 (Some to.1) fresh, k)) → AreWalks home changes c (ts ++ begun_trip to fresh k ∷ []) calls
walks_begin home changes c ts calls to fresh k walks here aimed read = record {
  each = trips_more c ts (begun_trip to fresh k) walks.each (subst (λ (d : Cache). IsTrip d (begun_trip to fresh k)) (sym here) (refl, refl));
  aimed = all_more (IsAimed home changes) ts (begun_trip to fresh k ∷ []) walks.aimed (aimed, tt);
  are = walks.are ∙ (sym (append-nil (calls_of ts)) ∙ sym (calls_last ts (begun_trip to fresh k)));
  reads =
      subst (AllByRecursion (IsRead c calls)) (sym (uses_last ts (begun_trip to fresh k)))
      (all_more (IsRead c calls) (uses_of ts) (begun_trip to fresh k).uses walks.reads (turn_read c calls (walk_ready (new_walk to.0 (Some to.1) fresh, k)) read));
}

-- ---- one call more

-- the walk with a call more
abbrev pub gone_on : Trip → Walk × Cache → Answer → Trip
gone_on t m a = record t { calls = t.calls ++ (walk_ask m.0, a) ∷ []; turn = walk_next m a; uses = t.uses ++ used_by_turn (walk_next m a) }

pub uses_on : (ts : List Trip) (t : Trip) (m : Walk × Cache) (a : Answer) → uses_of (ts ++ gone_on t m a ∷ []) ≡ uses_of (ts ++ t ∷ []) ++ used_by_turn (walk_next m a)
uses_on ts t m a =
    uses_last ts (gone_on t m a)
    ∙ (sym (append_assoc (uses_of ts) t.uses (used_by_turn (walk_next m a))) ∙ ap (λ (u : List Use). u ++ used_by_turn (walk_next m a)) (sym (uses_last ts t)))

pub walks_on : (home : Home) (changes : List Noted) (c : Cache) (ts : List Trip) (t : Trip) (calls : Calls) (m : Walk × Cache) (a : Answer) → AreWalks home changes c (ts ++ t ∷ []) calls → t.turn ≡ Goes m
    → LeavesRead c (calls ++ (walk_ask m.0, a) ∷ []) (walk_next m a) → AreWalks home changes c (ts ++ gone_on t m a ∷ []) (calls ++ (walk_ask m.0, a) ∷ [])
walks_on home changes c ts t calls m a walks goes read = record {
  each = trips_more c ts (gone_on t m a) parts.0 (turns_more (walk_ready (new_walk t.tree (Some t.key) t.fresh, cache_behind c ts)) t.calls m t.uses a (subst (λ (x : Next (Walk × Cache) ℕ). Turns (walk_ready (new_walk t.tree (Some t.key) t.fresh, cache_behind c ts)) t.calls x t.uses) goes parts.1));
  aimed = all_more (IsAimed home changes) ts (gone_on t m a ∷ []) aims.0 (aims.1, tt);
  are =
      ap (λ (cs : Calls). cs ++ (walk_ask m.0, a) ∷ []) (walks.are ∙ calls_last ts t)
      ∙ (append_assoc (calls_of ts) t.calls ((walk_ask m.0, a) ∷ []) ∙ sym (calls_last ts (gone_on t m a)));
  reads =
      subst (AllByRecursion (IsRead c (calls ++ (walk_ask m.0, a) ∷ []))) (sym (uses_on ts t m a))
      (all_more (IsRead c (calls ++ (walk_ask m.0, a) ∷ [])) (uses_of (ts ++ t ∷ [])) (used_by_turn (walk_next m a))
      (uses_read_more c calls ((walk_ask m.0, a) ∷ []) (uses_of (ts ++ t ∷ [])) walks.reads) (turn_read c (calls ++ (walk_ask m.0, a) ∷ []) (walk_next m a) read));
} where
  parts : AreTrips c ts × IsTrip (cache_behind c ts) t
  parts = trips_front c ts t walks.each

  aims : AllByRecursion (IsAimed home changes) ts × IsAimed home changes t
  aims = all_front (IsAimed home changes) ts t walks.aimed

-- ---- the calls of walks are gets

-- the call is a get
abbrev pub IsGet : Ask × Answer → Type 0
IsGet (ask, answer) = (name : ObjName) × (ask ≡ Get name)

turns_get : (from : Next (Walk × Cache) ℕ) (calls : Calls) (turn : Next (Walk × Cache) ℕ) (uses : List Use) → Turns from calls turn uses → AllByRecursion IsGet calls
turns_get from [] turn uses t = tt
turns_get from ((ask, a) ∷ calls) turn uses (m, later, goes, asked, used, rest) = ((object_of m.0, asked), turns_get (walk_next m a) calls turn later rest)

trips_get : (c : Cache) (ts : List Trip) → AreTrips c ts → AllByRecursion IsGet (calls_of ts)
trips_get c [] all = tt
trips_get c (t ∷ ts) all =
    all_more IsGet t.calls (calls_of ts) (turns_get (walk_ready (new_walk t.tree (Some t.key) t.fresh, c)) t.calls t.turn t.uses all.0) (trips_get (left_by_turn t.turn).1 ts all.1)

pub walks_get : (home : Home) (changes : List Noted) (c : Cache) (ts : List Trip) (calls : Calls) → AreWalks home changes c ts calls → AllByRecursion IsGet calls
walks_get home changes c ts calls walks = subst (AllByRecursion IsGet) (sym walks.are) (trips_get c ts walks.each)
