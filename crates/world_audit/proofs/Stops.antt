-- A walk that comes one page further, heads one after another, and what stops a report first.
use Rattle.std.proofs.Common.{◌≡◌, ◌<◌, ◌≤◌, ◌+◌, ℕ, List, [], ◌∷◌, ◌++◌, refl, sym, ◌∙◌, ap, subst, inl, inr, arith}
use Rattle.std.specs.Prelude.{Option, Some, None, ◌⊎◌, zero, suc}
use Rattle.std.specs.List.{All, AllPairs, Contains}
use Rattle.std.proofs.lemmas.List.Elements.{All-head, All-tail, All-cons, All-nil, All-append}
use Rattle.std.proofs.lemmas.List.Kept.{AllPairs-cons}
use Rattle.std.proofs.lemmas.Bool.{cases_lt}
use Rattle.db_base.specs.Ids.{IsPage}
use Rattle.db_base.specs.declared.trouble.Trouble.{Trouble}
use Rattle.db_base.specs.declared.names.ObjName.TheVariants.{Page}
use Rattle.cloud_trait.specs.State.{CloudState, newest}
use Rattle.leaf_view.specs.Leaf.{Leaf}
use Rattle.replay_meaning.specs.Chain.{Leads}
use Rattle.world_audit.specs.Stop.{pages_of, Meet, Comes, Passes, ChainStops, ChainIsWhole, HeadReads, HeadsRead, AllHeadsRead, HeadStops, RootStops, SlipOr, Stopped}
use Rattle.replay_meaning.proofs.ChainLemmas.{leads_on, right_page}

meet_on : (low : List ℕ) (leaves : List Leaf) (l : Leaf) (mid high : List ℕ)
    → Meet low leaves mid → l.low ≡ mid → l.high ≡ Some high → Meet low (leaves ++ l ∷ []) high
meet_on low [] l mid high m b e = (b ∙ sym m, high, e, refl)
meet_on low (x ∷ xs) l mid high m b e = (m.0, m.1, m.2, meet_on m.1 xs l mid high m.3 b e)

pages_on : (s : CloudState) (tree from : ℕ) (leaves : List Leaf) (page : ℕ) (l : Leaf)
    → Leads s tree from leaves page → pages_of from leaves ++ page ∷ [] ≡ pages_of from (leaves ++ l ∷ [])
pages_on s tree from [] page l h = ap (λ (p : ℕ). p ∷ []) (sym h)
pages_on s tree from (x ∷ xs) page l h = ap (λ (ps : List ℕ). from ∷ ps) (pages_on s tree x.right xs page l h.2)

abbrev Apart : ℕ → ℕ → Type 0
Apart x y = x ≡ y → ⊥

once_on : (pages : List ℕ) (page : ℕ) → AllPairs Apart pages → All (λ (x : ℕ). Apart x page) pages → AllPairs Apart (pages ++ page ∷ [])
once_on [] page h n = λ i j d lt within. absurd (omega arith)
once_on (y ∷ ys) page h n =
    let head : All (Apart y) ys = λ k d within. h zero (suc k) d (omega arith) (omega arith) in
    let tail : AllPairs Apart ys = λ i j d lt within. h (suc i) (suc j) d (omega arith) (omega arith) in
    AllPairs-cons Apart y (ys ++ page ∷ [])
    (All-append (Apart y) ys (page ∷ []) head (All-cons (Apart y) page [] (All-head (λ (x : ℕ). Apart x page) y ys n) (All-nil (Apart y))))
    (once_on ys page tail (All-tail (λ (x : ℕ). Apart x page) y ys n))

-- a page that the list does not contain differs from each of its pages
all_apart : (pages : List ℕ) (page : ℕ) → (Contains pages page → ⊥) → All (λ (x : ℕ). Apart x page) pages
all_apart [] page n = λ k d within. absurd (omega arith)
all_apart (y ∷ ys) page n =
    All-cons (λ (x : ℕ). Apart x page) y ys (λ e. n (0, omega arith, e)) (all_apart ys page (λ c. n (suc c.0, omega (arith, c.1), c.2)))

pub comes_first : (s : CloudState) (tree : ℕ) → Comes s tree [] 1 []
comes_first s tree = record { leaves = []; lead = refl; over = refl; meet = refl; once = λ i j d lt within. absurd (omega arith) }

pub comes_on : (s : CloudState) (tree : ℕ) (pages more : List ℕ) (page to : ℕ) (low high : List ℕ) (next : Option ℕ)
    → Comes s tree pages page low → IsPage page → (Contains pages page → ⊥) → next ≡ Some to → Passes (newest s (Page tree page)) tree page low high next
    → more ≡ pages ++ page ∷ [] → Comes s tree more to high
comes_on s tree pages more page to low high next c is_page first e p m = record {
  leaves = c.leaves ++ p.leaf ∷ [];
  lead = subst (λ (n : ℕ). Leads s tree 1 (c.leaves ++ p.leaf ∷ []) n) (right_page p.leaf.right to (sym e ∙ p.right)) (leads_on s tree 1 c.leaves page p.leaf c.lead is_page p.read);
  over = m ∙ (ap (λ (ps : List ℕ). ps ++ page ∷ []) c.over ∙ pages_on s tree 1 c.leaves page p.leaf c.lead);
  meet = meet_on [] c.leaves p.leaf low high c.meet p.begins (p.ends to e);
  once = subst (AllPairs Apart) (sym m) (once_on pages page c.once (all_apart pages page first));
}

-- a walk that passes a page with no right page is over a whole chain
pub chain_ends : (s : CloudState) (tree : ℕ) (pages : List ℕ) (page : ℕ) (low high : List ℕ) (next : Option ℕ)
    → Comes s tree pages page low → IsPage page → (Contains pages page → ⊥) → next ≡ None → Passes (newest s (Page tree page)) tree page low high next → ChainIsWhole s tree
chain_ends s tree pages page low high next c is_page first e p = record {
  pages = pages;
  page = page;
  low = low;
  high = high;
  comes = c;
  is_page = is_page;
  first = first;
  last = subst (λ (n : Option ℕ). Passes (newest s (Page tree page)) tree page low high n) e p;
}

-- no client is below the first
pub heads_first : (s : CloudState) → HeadsRead s 1
heads_first s client is less = absurd (omega (arith, is.some))

-- with one head more
pub heads_on : (s : CloudState) (n client : ℕ) → client ≡ n + 1 → HeadsRead s (n + 1) → HeadReads s client → HeadsRead s (n + 1 + 1)
heads_on s n client e before here k is less = on (cases_lt k (n + 1))
  where
    on : (k < n + 1) ⊎ (n + 1 ≤ k) → HeadReads s k
    on (inl below) = before k is below
    on (inr at) = let same : client ≡ k = omega arith in subst (HeadReads s) same here

pub heads_all : (s : CloudState) → HeadsRead s 65 → AllHeadsRead s
heads_all s below k is = below k is (omega (arith, is.most))

-- ---- the parts of a report, in their order

pub leaves_stop : (s : CloudState) (tree : ℕ) (e : Trouble) → SlipOr (ChainStops s tree e) e → Stopped s tree e
leaves_stop s tree e (inl failed) = inl failed
leaves_stop s tree e (inr (inl memory)) = inr (inl memory)
leaves_stop s tree e (inr (inr at)) = inr (inr (inl at))

pub heads_stop : (s : CloudState) (tree : ℕ) (e : Trouble) → ChainIsWhole s tree → SlipOr (HeadStops s e) e → Stopped s tree e
heads_stop s tree e whole (inl failed) = inl failed
heads_stop s tree e whole (inr (inl memory)) = inr (inl memory)
heads_stop s tree e whole (inr (inr at)) = inr (inr (inr (inl (whole, at))))

pub root_stops : (s : CloudState) (tree : ℕ) (e : Trouble) → ChainIsWhole s tree → AllHeadsRead s → SlipOr (RootStops s tree e) e → Stopped s tree e
root_stops s tree e whole read (inl failed) = inl failed
root_stops s tree e whole read (inr (inl memory)) = inr (inl memory)
root_stops s tree e whole read (inr (inr at)) = inr (inr (inr (inr (whole, read, at))))
