-- What looks answered, one look further, and what they show together.
use Rattle.std.proofs.Common.{◌≡◌, ◌<◌, ◌≤◌, ◌+◌, ℕ, zero, suc, List, [], ◌∷◌, ◌++◌, refl, sym, ◌∙◌, subst, inl, inr, arith}
use Rattle.std.specs.Prelude.{Option, Some, None, Result, Ok, Err, ◌⊎◌, ◌==◌, if◌then◌else◌}
use Rattle.std.specs.List.{Contains}
use Rattle.std.proofs.lemmas.Bool.{cases_lt}
use Rattle.db_base.specs.Ids.{IsPage, IsClient}
use Rattle.db_base.specs.declared.names.ObjName.{ObjName}
use Rattle.db_base.specs.declared.names.ObjName.TheVariants as object
use Rattle.db_base.specs.declared.trouble.Trouble.{Trouble}
use Rattle.db_base.specs.declared.trouble.Trouble.TheVariants as trouble
use Rattle.db_base.specs.declared.wish.Wish.TheVariants.{Plain}
use Rattle.cloud_trait.specs.Seen.{Seen, Showing}
use Rattle.cloud_trait.specs.State.{CloudState, newest, newest_of, never_taken}
use Rattle.cloud_trait.specs.declared.state.Version.{Version}
use Rattle.report_types.specs.declared.entry.Entry.{Entry}
use Rattle.report_types.specs.declared.report.Report.{Report}
use Rattle.report_types.specs.declared.stored.Stored.{Stored}
use Rattle.replay_meaning.specs.Chain.{Walked}
use Rattle.world_audit.specs.Counts.{heads_upto, open_count, head_in, IsNextPage}
use Rattle.world_audit.specs.Look.{Looked}
use Rattle.world_audit.specs.Walk.{Adds}
use Rattle.world_audit.specs.Stop.{Comes, Passes, StopsWalk, SlipOr, ChainStops, HeadsRead, IsHeadOrNone, SpellsNoHead, HeadStops, SpellsNoRoot, RootStops}
use Rattle.world_audit.specs.Finding.{IsSeenBy, IsAsTold, Shown, LeavesFound, HeadsFound, RootFound, IsReported, Finds}
use Rattle.world_audit.proofs.Looks.{told_stays}
use Rattle.world_audit.proofs.Stops.{comes_first, comes_on, chain_ends, heads_first, heads_on, heads_all, leaves_stop, heads_stop, root_stops}
use Rattle.world_audit.proofs.Chains.{walk_first, walk_on, walk_ends}
use Rattle.world_audit.proofs.Totals.{heads_none, heads_more}

-- ---- answers one look further

abbrev pub Bytes : Type 0
Bytes = Option (List ℕ)

-- the answers with that of one look more
abbrev pub with_look : (ℕ → Bytes) → ℕ → Bytes → ℕ → Bytes
with_look looks at bytes number = if number == at then bytes else looks number

look_there : (looks : ℕ → Bytes) (at : ℕ) (bytes : Bytes) → with_look looks at bytes at ≡ bytes
look_there looks at bytes = grind (arith)

look_elsewhere : (looks : ℕ → Bytes) (at : ℕ) (bytes : Bytes) (number : ℕ) → (number ≡ at → ⊥) → with_look looks at bytes number ≡ looks number
look_elsewhere looks at bytes number other = grind (arith)

-- some objects of a state have what looks answered as their newest versions
abbrev pub Answers : (ℕ → ObjName) → (ℕ → Type 0) → (ℕ → Bytes) → CloudState → Type 0
Answers object Among looks s = (number : ℕ) → Among number → newest s (object number) ≡ looks number

-- with one more that was not among them
pub answers_less : (object : ℕ → ObjName) (Among More : ℕ → Type 0) (looks : ℕ → Bytes) (at : ℕ) (bytes : Bytes) (s : CloudState)
    → ((number : ℕ) → Among number → More number) → (Among at → ⊥) → Answers object More (with_look looks at bytes) s → Answers object Among looks s
answers_less object Among More looks at bytes s wider new a number is =
    a number (wider number is) ∙ look_elsewhere looks at bytes number (λ e. new (subst Among e is))

pub answers_there : (object : ℕ → ObjName) (More : ℕ → Type 0) (looks : ℕ → Bytes) (at : ℕ) (bytes : Bytes) (s : CloudState)
    → More at → Answers object More (with_look looks at bytes) s → newest s (object at) ≡ bytes
answers_there object More looks at bytes s is a = a at is ∙ look_there looks at bytes

pub answers_more : (object : ℕ → ObjName) (Among More : ℕ → Type 0) (looks : ℕ → Bytes) (at : ℕ) (bytes : Bytes) (s : CloudState)
    → ((number : ℕ) → More number → Among number ⊎ (number ≡ at)) → (Among at → ⊥) → newest s (object at) ≡ bytes
    → Answers object Among looks s → Answers object More (with_look looks at bytes) s
answers_more object Among More looks at bytes s each new there a number is = on (each number is)
  where
    on : Among number ⊎ (number ≡ at) → newest s (object number) ≡ with_look looks at bytes number
    on (inl old) = a number old ∙ sym (look_elsewhere looks at bytes number (λ e. new (subst Among e old)))
    on (inr e) = subst (λ (n : ℕ). newest s (object n) ≡ with_look looks at bytes n) (sym e) (there ∙ sym (look_there looks at bytes))

-- what looks at some objects show, where what they answered shows it
shown_by : (before : Seen) (object : ℕ → ObjName) (Among : ℕ → Type 0) (looks : ℕ → Bytes) (Holds : CloudState → Type 0)
    → ((s : CloudState) → IsAsTold before s → Answers object Among looks s) → ((s : CloudState) → Answers object Among looks s → Holds s)
    → Shown before object Holds
shown_by before object Among looks Holds told holds = record {
  told = λ s h. holds s (told s h);
  looks = looks;
  shown = λ s a. holds s (λ number is. a number);
}

-- what holds of each state
pub shown_always : (before : Seen) (object : ℕ → ObjName) (Holds : CloudState → Type 0) → ((s : CloudState) → Holds s) → Shown before object Holds
shown_always before object Holds holds = record { told = λ s h. holds s; looks = λ number. None; shown = λ s a. holds s }

-- what later looks show
pub shown_behind : (before mid : Seen) (object : ℕ → ObjName) (Holds : CloudState → Type 0) → Looked before mid → Shown mid object Holds → Shown before object Holds
shown_behind before mid object Holds behind h = record { told = λ s e. h.told s (told_stays before mid s behind e); looks = h.looks; shown = h.shown }

-- ---- leaves

-- a walk over pages that it looked at comes to a page, with what it is to find there and the records so far
pub record Reaches (before : Seen) (tree : ℕ) (pages : List ℕ) (page : ℕ) (low : List ℕ) (records : List Stored) : Type 0 where
  pub looks : ℕ → Bytes
  pub told : (s : CloudState) → IsAsTold before s → Answers (object.Page tree) (Contains pages) looks s
  pub comes : (s : CloudState) → Answers (object.Page tree) (Contains pages) looks s → Comes s tree pages page low × Walked s tree page records

contains_none : (page : ℕ) → Contains [] page → ⊥
contains_none page c = omega (arith, c.1)

contains_more : (pages : List ℕ) (page number : ℕ) → Contains pages number → Contains (pages ++ page ∷ []) number
contains_more [] page number c = absurd (contains_none number c)
contains_more (x ∷ pages) page number (zero, below, is) = (zero, omega arith, is)
contains_more (x ∷ pages) page number (suc k, below, is) =
    let again = contains_more pages page number (k, omega (arith, below), is) in (suc again.0, omega (arith, again.1), again.2)

contains_last : (pages : List ℕ) (page : ℕ) → Contains (pages ++ page ∷ []) page
contains_last [] page = (zero, omega arith, refl)
contains_last (x ∷ pages) page = let again = contains_last pages page in (suc again.0, omega (arith, again.1), again.2)

contains_or : (pages : List ℕ) (page number : ℕ) → Contains (pages ++ page ∷ []) number → Contains pages number ⊎ (number ≡ page)
contains_or [] page number (zero, below, is) = inr (sym is)
contains_or [] page number (suc k, below, is) = absurd (omega (arith, below))
contains_or (x ∷ pages) page number (zero, below, is) = inl (zero, omega arith, is)
contains_or (x ∷ pages) page number (suc k, below, is) = on (contains_or pages page number (k, omega (arith, below), is))
  where
    on : Contains pages number ⊎ (number ≡ page) → Contains (x ∷ pages) number ⊎ (number ≡ page)
    on (inl c) = inl (suc c.0, omega (arith, c.1), c.2)
    on (inr e) = inr e

pub reaches_first : (before : Seen) (tree : ℕ) → Reaches before tree [] 1 [] []
reaches_first before tree = record {
  looks = λ number. None;
  told = λ s h number c. absurd (contains_none number c);
  comes = λ s a. (comes_first s tree, walk_first s tree);
}

module _ (before : Seen) (tree : ℕ) (pages : List ℕ) (page : ℕ) (low : List ℕ) (records : List Stored) (here : Reaches before tree pages page low records) where
  -- a slip, or a page that was met
  pub leaves_slip : (result : Result (List Stored) Trouble) (e : Trouble) → result ≡ Err e → (e ≡ trouble.Failed) ⊎ (e ≡ trouble.Memory)
      → Shown before (object.Page tree) (LeavesFound tree result)
  leaves_slip result e is slip = shown_always before (object.Page tree) (LeavesFound tree result) (λ s. subst (λ (r : Result (List Stored) Trouble). LeavesFound tree r s) (sym is) (on s slip))
    where
      on : (s : CloudState) → (e ≡ trouble.Failed) ⊎ (e ≡ trouble.Memory) → SlipOr (ChainStops s tree e) e
      on s (inl failed) = inl failed
      on s (inr memory) = inr (inl memory)

  pub leaves_loop : (result : Result (List Stored) Trouble) (e : Trouble) → result ≡ Err e → (e ≡ trouble.Memory) ⊎ ((e ≡ trouble.Loop page) × Contains pages page)
      → Shown before (object.Page tree) (LeavesFound tree result)
  leaves_loop result e is (inl memory) = leaves_slip result e is (inr memory)
  leaves_loop result e is (inr loop) = shown_by before (object.Page tree) (Contains pages) here.looks (LeavesFound tree result) here.told
      (λ s a. subst (λ (r : Result (List Stored) Trouble). LeavesFound tree r s) (sym is) (inr (inr (record {
        pages = pages;
        page = page;
        low = low;
        comes = (here.comes s a).0;
        why = subst (StopsWalk tree pages page low (newest s (object.Page tree page))) (sym loop.0) (refl, loop.1);
      }))))

  module _ (bytes : Bytes) (is_page : IsPage page) (first : Contains pages page → ⊥) (seen : (s : CloudState) → IsAsTold before s → bytes ≡ newest s (object.Page tree page)) where
    looks_on : ℕ → Bytes
    looks_on = with_look here.looks page bytes

    told_on : (s : CloudState) → IsAsTold before s → Answers (object.Page tree) (Contains (pages ++ page ∷ [])) looks_on s
    unfolding looks_on
    told_on s h = answers_more (object.Page tree) (Contains pages) (Contains (pages ++ page ∷ [])) here.looks page bytes s (contains_or pages page) first (sym (seen s h)) (here.told s h)

    comes_here : (s : CloudState) → Answers (object.Page tree) (Contains (pages ++ page ∷ [])) looks_on s → Comes s tree pages page low × Walked s tree page records × (bytes ≡ newest s (object.Page tree page))
    unfolding looks_on
    comes_here s a =
        let c = here.comes s (answers_less (object.Page tree) (Contains pages) (Contains (pages ++ page ∷ [])) here.looks page bytes s (contains_more pages page) first a) in
        (c.0, c.1, sym (answers_there (object.Page tree) (Contains (pages ++ page ∷ [])) here.looks page bytes s (contains_last pages page) a))

    pub leaves_stop_here : (result : Result (List Stored) Trouble) (e : Trouble) → result ≡ Err e → (e ≡ trouble.Memory) ⊎ StopsWalk tree pages page low bytes e
        → Shown before (object.Page tree) (LeavesFound tree result)
    leaves_stop_here result e is (inl memory) = leaves_slip result e is (inr memory)
    leaves_stop_here result e is (inr why) = shown_by before (object.Page tree) (Contains (pages ++ page ∷ [])) looks_on (LeavesFound tree result) told_on
        (λ s a. let c = comes_here s a in subst (λ (r : Result (List Stored) Trouble). LeavesFound tree r s) (sym is) (inr (inr (record {
          pages = pages;
          page = page;
          low = low;
          comes = c.0;
          why = subst (λ (b : Bytes). StopsWalk tree pages page low b e) c.2 why;
        }))))

    pub leaves_end : (result : Result (List Stored) Trouble) (high : List ℕ) (new : List Stored) (next : Option ℕ) → result ≡ Ok new → next ≡ None
        → Adds bytes tree page records new next → Passes bytes tree page low high next → Shown before (object.Page tree) (LeavesFound tree result)
    leaves_end result high new next is none adds passes = shown_by before (object.Page tree) (Contains (pages ++ page ∷ [])) looks_on (LeavesFound tree result) told_on
        (λ s a. let c = comes_here s a in subst (λ (r : Result (List Stored) Trouble). LeavesFound tree r s) (sym is) (
          walk_ends s tree page next records new c.1 is_page none (subst (λ (b : Bytes). Adds b tree page records new next) c.2 adds),
          chain_ends s tree pages page low high next c.0 is_page first none (subst (λ (b : Bytes). Passes b tree page low high next) c.2 passes),
        ))

    pub reaches_on : (more : List ℕ) (to : ℕ) (high : List ℕ) (new : List Stored) (next : Option ℕ) → next ≡ Some to → more ≡ pages ++ page ∷ []
        → Adds bytes tree page records new next → Passes bytes tree page low high next → Reaches before tree more to high new
    reaches_on more to high new next some over adds passes = subst (λ (ps : List ℕ). Reaches before tree ps to high new) (sym over) (record {
      looks = looks_on;
      told = told_on;
      comes = λ s a. let c = comes_here s a in (
        comes_on s tree pages (pages ++ page ∷ []) page to low high next c.0 is_page first some (subst (λ (b : Bytes). Passes b tree page low high next) c.2 passes) refl,
        walk_on s tree page to next records new c.1 is_page some (subst (λ (b : Bytes). Adds b tree page records new next) c.2 adds),
      );
    })

-- ---- heads

-- the clients up to a number
abbrev pub IsUpto : ℕ → ℕ → Type 0
IsUpto upto client = (1 ≤ client) × (client ≤ upto)

-- the heads of the clients up to a number read, and so many of them are open
pub record Totals (before : Seen) (tree : ℕ) (committed : List Entry) (upto heads : ℕ) : Type 0 where
  pub looks : ℕ → Bytes
  pub told : (s : CloudState) → IsAsTold before s → Answers object.Head (IsUpto upto) looks s
  pub counts : (s : CloudState) → Answers object.Head (IsUpto upto) looks s → (heads ≡ heads_upto s tree committed upto) × HeadsRead s (upto + 1)

pub totals_none : (before : Seen) (tree : ℕ) (committed : List Entry) → Totals before tree committed 0 0
totals_none before tree committed = record {
  looks = λ number. None;
  told = λ s h client is. absurd (omega (arith, is.0, is.1));
  counts = λ s a. (heads_none s tree committed, heads_first s);
}

pub heads_slip : (before : Seen) (tree : ℕ) (committed : List Entry) (result : Result ℕ Trouble) (e : Trouble) → result ≡ Err e
    → (e ≡ trouble.Failed) ⊎ (e ≡ trouble.Memory) → Shown before object.Head (HeadsFound tree committed result)
heads_slip before tree committed result e is slip = shown_always before object.Head (HeadsFound tree committed result)
    (λ s. subst (λ (r : Result ℕ Trouble). HeadsFound tree committed r s) (sym is) (on s slip))
  where
    on : (s : CloudState) → (e ≡ trouble.Failed) ⊎ (e ≡ trouble.Memory) → SlipOr (HeadStops s e) e
    on s (inl failed) = inl failed
    on s (inr memory) = inr (inl memory)

pub heads_end : (before : Seen) (tree : ℕ) (committed : List Entry) (heads : ℕ) → Totals before tree committed 64 heads
    → Shown before object.Head (HeadsFound tree committed (Ok heads))
heads_end before tree committed heads t = shown_by before object.Head (IsUpto 64) t.looks (HeadsFound tree committed (Ok heads)) t.told
    (λ s a. let c = t.counts s a in (c.0, heads_all s c.1))

module _ (before : Seen) (tree : ℕ) (committed : List Entry) (number heads client : ℕ) (bytes : Bytes) (here : Totals before tree committed number heads)
    (is : client ≡ number + 1) (seen : (s : CloudState) → IsAsTold before s → bytes ≡ newest s (object.Head client)) where
  heads_looks : ℕ → Bytes
  heads_looks = with_look here.looks client bytes

  wider : (n : ℕ) → IsUpto number n → IsUpto (number + 1) n
  wider n u = (u.0, omega (arith, u.1))

  new : IsUpto number client → ⊥
  new u = omega (arith, u.1, is)

  among : IsUpto (number + 1) client
  among = (omega (arith, is), omega (arith, is))

  either : (n : ℕ) → IsUpto (number + 1) n → IsUpto number n ⊎ (n ≡ client)
  either n u = on (cases_lt n client)
    where
      on : (n < client) ⊎ (client ≤ n) → IsUpto number n ⊎ (n ≡ client)
      on (inl below) = inl (u.0, omega (arith, below, is))
      on (inr at) = inr (omega (arith, at, is, u.1))

  told_more : (s : CloudState) → IsAsTold before s → Answers object.Head (IsUpto (number + 1)) heads_looks s
  unfolding heads_looks
  told_more s h = answers_more object.Head (IsUpto number) (IsUpto (number + 1)) here.looks client bytes s either new (sym (seen s h)) (here.told s h)

  counts_here : (s : CloudState) → Answers object.Head (IsUpto (number + 1)) heads_looks s
      → (heads ≡ heads_upto s tree committed number) × HeadsRead s (number + 1) × (bytes ≡ newest s (object.Head client))
  unfolding heads_looks
  counts_here s a =
      let c = here.counts s (answers_less object.Head (IsUpto number) (IsUpto (number + 1)) here.looks client bytes s wider new a) in
      (c.0, c.1, sym (answers_there object.Head (IsUpto (number + 1)) here.looks client bytes s among a))

  pub totals_more : (count : ℕ) → count ≡ open_count client tree committed (head_in bytes) → IsHeadOrNone bytes → Totals before tree committed (number + 1) (heads + count)
  totals_more count counted reads = record {
    looks = heads_looks;
    told = told_more;
    counts = λ s a. let c = counts_here s a in (
      heads_more s tree committed number heads client count is c.0 (subst (λ (b : Bytes). count ≡ open_count client tree committed (head_in b)) c.2 counted),
      heads_on s number client is c.1 (subst IsHeadOrNone c.2 reads),
    );
  }

  pub heads_stop_here : (result : Result ℕ Trouble) (e : Trouble) → result ≡ Err e → IsClient client → (e ≡ trouble.Memory) ⊎ SpellsNoHead bytes client e
      → Shown before object.Head (HeadsFound tree committed result)
  heads_stop_here result e fails valid (inl memory) = heads_slip before tree committed result e fails (inr memory)
  heads_stop_here result e fails valid (inr none) = shown_by before object.Head (IsUpto (number + 1)) heads_looks (HeadsFound tree committed result) told_more
      (λ s a. let c = counts_here s a in subst (λ (r : Result ℕ Trouble). HeadsFound tree committed r s) (sym fails) (inr (inr (record {
        client = client;
        is_client = valid;
        is_none = subst (λ (b : Bytes). SpellsNoHead b client e) c.2 none;
        earlier = subst (HeadsRead s) (sym is) c.1;
      }))))

-- ---- the root

module _ (before : Seen) (tree : ℕ) (bytes : Bytes) (seen : (s : CloudState) → IsAsTold before s → bytes ≡ newest s (object.Tree tree)) where
  root_by : (Holds : CloudState → Type 0) → ((s : CloudState) → bytes ≡ newest s (object.Tree tree) → Holds s) → Shown before object.Tree Holds
  root_by Holds holds = record {
    told = λ s h. holds s (seen s h);
    looks = λ number. bytes;
    shown = λ s a. holds s (sym (a tree));
  }

  pub root_read : (messages next : ℕ) → IsNextPage bytes next → Shown before object.Tree (RootFound tree (Ok messages))
  root_read messages next reads = root_by (RootFound tree (Ok messages)) (λ s e. (next, subst (λ (b : Bytes). IsNextPage b next) e reads))

  pub root_stops_here : (result : Result ℕ Trouble) (e : Trouble) → result ≡ Err e → SpellsNoRoot bytes tree e → Shown before object.Tree (RootFound tree result)
  root_stops_here result e is none = root_by (RootFound tree result)
      (λ s at. subst (λ (r : Result ℕ Trouble). RootFound tree r s) (sym is) (inr (inr (subst (λ (b : Bytes). SpellsNoRoot b tree e) at none))))

pub root_slip : (before : Seen) (tree : ℕ) (result : Result ℕ Trouble) (e : Trouble) → result ≡ Err e
    → (e ≡ trouble.Failed) ⊎ (e ≡ trouble.Memory) → Shown before object.Tree (RootFound tree result)
root_slip before tree result e is slip = shown_always before object.Tree (RootFound tree result)
    (λ s. subst (λ (r : Result ℕ Trouble). RootFound tree r s) (sym is) (on s slip))
  where
    on : (s : CloudState) → (e ≡ trouble.Failed) ⊎ (e ≡ trouble.Memory) → SlipOr (RootStops s tree e) e
    on s (inl failed) = inl failed
    on s (inr memory) = inr (inl memory)

-- ---- all looks of a report

version_of : Bytes → List Version
version_of None = []
version_of (Some bytes) = record { who = record { session = 0; event = 0 }; bytes = Some bytes } ∷ []

newest_is : (bytes : Bytes) → newest_of (version_of bytes) ≡ bytes
unfolding version_of
newest_is None = refl
newest_is (Some bytes) = refl

-- what looks answered, object by object
answers_of : (ℕ → Bytes) → (ℕ → Bytes) → (ℕ → Bytes) → Showing
answers_of leaves heads roots (object.Page tree page) = leaves page
answers_of leaves heads roots (object.Head client) = heads client
answers_of leaves heads roots (object.Tree tree) = roots tree

-- a state that has this as its newest versions
abbrev showing : Showing → CloudState
showing shown = record {
  versions = λ name. version_of (shown name);
  messages = λ queue. [];
  locks = λ lock. never_taken;
  now = 0;
  waits = 0;
  trace = [];
  wish = Plain;
  last = None;
}

-- a state that has answers as its newest versions
abbrev answering : (ℕ → Bytes) → (ℕ → Bytes) → (ℕ → Bytes) → CloudState
answering leaves heads roots = showing (answers_of leaves heads roots)

same : (p q : Showing) → (let o : Option Showing = Some p in o ≡ Some q) → p ≡ q
same p q e = cc

pub finds : (tree : ℕ) (before : Seen) (result : Result Report Trouble) (Leaves Heads Root : CloudState → Type 0)
    → Shown before (object.Page tree) Leaves → Shown before object.Head Heads → Shown before object.Tree Root
    → ((s : CloudState) → Leaves s → Heads s → Root s → IsReported s tree result) → Finds tree before result
unfolding answers_of
finds tree before result Leaves Heads Root a b c all = on before.state refl
  where
    -- where no state is told, by what the cloud tells that looks show, or else by what they answered
    untold : before.state ≡ None → (o : Option Showing) → before.shown ≡ o → Finds tree before result
    untold none (Some p) is =
        let s : CloudState = showing p in
        let as_told : IsAsTold before s = inr (p, is, λ name. newest_is (p name)) in
        record {
          looks = s;
          told = λ x h. (let e : None ≡ Some x = sym none ∙ h in cc);
          shown = λ q n h. (let e : Some p ≡ Some q = sym is ∙ h in subst (λ (x : Showing). IsSeenBy x s) (same p q e) (λ name. newest_is (p name)));
          reported = all s (a.told s as_told) (b.told s as_told) (c.told s as_told);
        }
    untold none None is = let s : CloudState = answering a.looks b.looks c.looks in record {
      looks = s;
      told = λ x h. (let e : None ≡ Some x = sym none ∙ h in cc);
      shown = λ q n h. (let e : None ≡ Some q = sym is ∙ h in cc);
      reported = all s (a.shown s (λ n. newest_is (a.looks n))) (b.shown s (λ n. newest_is (b.looks n))) (c.shown s (λ n. newest_is (c.looks n)));
    }

    on : (o : Option CloudState) → before.state ≡ o → Finds tree before result
    on (Some s) is = record {
      looks = s;
      told = λ x h. (let e : Some s ≡ Some x = sym is ∙ h in cc);
      shown = λ q n h. (let e : Some s ≡ None = sym is ∙ n in cc);
      reported = all s (a.told s (inl is)) (b.told s (inl is)) (c.told s (inl is));
    }
    on None is = untold is before.shown refl

module _ (tree : ℕ) (before : Seen) (result : Result Report Trouble) where
  abbrev Any : CloudState → Type 0
  Any s = Unit {0}

  any : (object : ℕ → ObjName) → Shown before object Any
  any object = shown_always before object Any (λ s. tt)

  pub finds_memory : (e : Trouble) → result ≡ Err e → e ≡ trouble.Memory → Finds tree before result
  finds_memory e is memory = finds tree before result Any Any Any (any (object.Page tree)) (any object.Head) (any object.Tree)
      (λ s l h r. subst (IsReported s tree) (sym is) (inr (inl memory)))

  pub finds_leaves : (e : Trouble) → result ≡ Err e → Shown before (object.Page tree) (LeavesFound tree (Err e)) → Finds tree before result
  finds_leaves e is leaves = finds tree before result (LeavesFound tree (Err e)) Any Any leaves (any object.Head) (any object.Tree)
      (λ s l h r. subst (IsReported s tree) (sym is) (leaves_stop s tree e l))

  module _ (records : List Stored) (leaves : Shown before (object.Page tree) (LeavesFound tree (Ok records))) where
    pub finds_heads : (committed : List Entry) (e : Trouble) → result ≡ Err e → Shown before object.Head (HeadsFound tree committed (Err e)) → Finds tree before result
    finds_heads committed e is heads = finds tree before result (LeavesFound tree (Ok records)) (HeadsFound tree committed (Err e)) Any leaves heads (any object.Tree)
        (λ s l h r. subst (IsReported s tree) (sym is) (heads_stop s tree e l.1 h))

    module _ (committed : List Entry) (count : ℕ) (heads : Shown before object.Head (HeadsFound tree committed (Ok count))) where
      pub finds_root : (e : Trouble) → result ≡ Err e → Shown before object.Tree (RootFound tree (Err e)) → Finds tree before result
      finds_root e is root = finds tree before result (LeavesFound tree (Ok records)) (HeadsFound tree committed (Ok count)) (RootFound tree (Err e)) leaves heads root
          (λ s l h r. subst (IsReported s tree) (sym is) (root_stops s tree e l.1 h.1 r))

      pub finds_whole : (messages : ℕ) (r : Report) → result ≡ Ok r → r.contents ≡ records → r.heads ≡ count → r.committed ≡ committed
          → Shown before object.Tree (RootFound tree (Ok messages)) → Finds tree before result
      finds_whole messages r is contents counted list root = finds tree before result (LeavesFound tree (Ok records)) (HeadsFound tree committed (Ok count)) (RootFound tree (Ok messages)) leaves heads root
          (λ s l h g. subst (IsReported s tree) (sym is) (record {
            contents = subst (Walked s tree 0) (sym contents) l.0;
            heads = counted ∙ subst (λ (c : List Entry). count ≡ heads_upto s tree c 64) (sym list) h.0;
            chain = l.1;
            read = h.1;
            root = g;
          }))
