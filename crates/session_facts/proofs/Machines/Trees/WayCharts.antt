-- The way down changes the nodes and the links of a chart alone, and it gets no page twice.
use Rattle.std.proofs.Common.{◌≡◌, ◌≢◌, ◌==◌, ◌⊎◌, inl, inr, ℕ, zero, suc, Bool, true, false, cond, List, [], ◌∷◌, ◌++◌, take, drop, Option, Some, None, Result, refl, sym, ap, subst, ◌∙◌, take-append-drop}
use Rattle.std.specs.Prelude.{find}
use Rattle.std.proofs.lemmas.Bool.{eqb-false}
use Rattle.cloud_facts.proofs.Chains.Pieces.{none_in, in_first, in_rest, in_cases}
use Rattle.cloud_facts.specs.Words.{Trouble, Answer, Claim, Next, Goes, Ends, Stops, got_of, Store, IsIn}
use Rattle.cloud_facts.proofs.Book.Places.{in_either, in_front, in_behind}
use Rattle.tree_phases.specs.declared.descent.Descent.{Descent}
use Rattle.tree_phases.specs.declared.fork.Fork.{Fork}
use Rattle.tree_phases.specs.declared.fork.Fork.TheVariants.{Right, Down}
use Rattle.tree_phases.specs.Descent.{passed, arrive, with_node, descent_next}
use Rattle.tree_phases.specs.declared.chart.Chart.{Chart}
use Rattle.tree_ckpt.specs.Moves.{leaf_of}
use Rattle.tree_phases.specs.declared.kept.KeptNode.{KeptNode}
use Rattle.tree_phases.specs.Kept.{place_of}
use Rattle.tree_ckpt.proofs.WayOutcomes.{Arrives, arrives, Gets, gets}
use Rattle.tree_ckpt.proofs.WayOutcomes as way
use Rattle.session_facts.specs.Machines.Folds.Knows.{KnowsRun, IsLeast}
use Rattle.session_facts.specs.Machines.Trees.Leaves.{IsGetting, IsCome}
use Rattle.session_facts.specs.Machines.Risings.Knows.{AreApart}
use Rattle.session_facts.specs.Machines.Trees.Ways.{IsOnWay, WayLeads}

-- ---- what stays of a chart

abbrev pub KeepsChart : Chart → Chart → Type 0
KeepsChart c e = e ≡ record c { nodes = e.nodes; links = e.links }

keeps_on : (c d e : Chart) → KeepsChart c d → KeepsChart d e → KeepsChart c e
keeps_on c d e f g = g ∙ ap (λ (x : Chart). record x { nodes = e.nodes; links = e.links }) f

-- ---- pages that are apart

-- no node that was got has the page
abbrev pub IsFresh : ℕ → List KeptNode → Type 0
IsFresh page nodes = (k : KeptNode) → IsIn nodes k → k.page ≢ page

fresh_of : (page : ℕ) (nodes : List KeptNode) → find (λ (n : KeptNode). n.page == page) nodes ≡ None → IsFresh page nodes
fresh_of page [] e k there = absurd (none_in k there)
fresh_of page (x ∷ xs) e k there = on (x.page == page) refl e (fresh_of page xs) (in_cases x xs k there)
  where
    on : (b : Bool) → (x.page == page) ≡ b → cond b (Some x) (find (λ (n : KeptNode). n.page == page) xs) ≡ None
        → (find (λ (n : KeptNode). n.page == page) xs ≡ None → IsFresh page xs) → (x ≡ k) ⊎ IsIn xs k → k.page ≢ page
    on true h f again at = absurd (cc)
    on false h f again (inl same) = λ is. eqb-false x.page page h (ap (λ (n : KeptNode). n.page) same ∙ is)
    on false h f again (inr rest) = again f k rest

in_taken : (n : ℕ) (ks : List KeptNode) (k : KeptNode) → IsIn (take n ks) k → IsIn ks k
in_taken n ks k there = subst (λ (l : List KeptNode). IsIn l k) (take-append-drop n ks) (in_front (take n ks) (drop n ks) k there)

in_left : (n : ℕ) (ks : List KeptNode) (k : KeptNode) → IsIn (drop n ks) k → IsIn ks k
in_left n ks k there = subst (λ (l : List KeptNode). IsIn l k) (take-append-drop n ks) (in_behind (take n ks) (drop n ks) k there)

-- one more stands apart, wherever it is put
apart_more : (n : ℕ) (ks : List KeptNode) (k : KeptNode) → AreApart ks → IsFresh k.page ks → AreApart (take n ks ++ k ∷ drop n ks)
apart_more zero [] k a f = (λ m there. absurd (none_in m there), tt)
apart_more zero (x ∷ ks) k a f = (f, a)
apart_more (suc n) [] k a f = (λ m there. absurd (none_in m there), tt)
apart_more (suc n) (x ∷ ks) k a f =
    (λ m there. front m (in_either (take n ks) (k ∷ drop n ks) m there), apart_more n ks k a.1 (λ m there. f m (in_rest x ks m there)))
  where
    behind : (m : KeptNode) → (k ≡ m) ⊎ IsIn (drop n ks) m → m.page ≢ x.page
    behind m (inl same) = λ e. f x (in_first x ks) (sym (ap (λ (y : KeptNode). y.page) same ∙ e))
    behind m (inr rest) = a.0 m (in_left n ks m rest)

    front : (m : KeptNode) → IsIn (take n ks) m ⊎ IsIn (k ∷ drop n ks) m → m.page ≢ x.page
    front m (inl there) = a.0 m (in_taken n ks m there)
    front m (inr there) = behind m (in_cases k (drop n ks) m there)

-- ---- where a way leads

abbrev pub LeadsApart : Chart → Next Descent (Unit {0}) → Type 0
LeadsApart c (Goes e) = KeepsChart c e.chart × AreApart e.chart.nodes × IsFresh e.page e.chart.nodes
LeadsApart c (Ends e x) = KeepsChart c e.chart × AreApart e.chart.nodes
LeadsApart c (Stops e t) = Unit {0}

later : (c d : Chart) (s : Next Descent (Unit {0})) → KeepsChart c d → LeadsApart d s → LeadsApart c s
later c d (Goes e) f k = (keeps_on c d e.chart f k.0, k.1, k.2)
later c d (Ends e x) f k = (keeps_on c d e.chart f k.0, k.1)
later c d (Stops e t) f k = tt

-- a node leads on over the same chart but for a link
passed_apart : (d : Descent) (fork : Fork) → AreApart d.chart.nodes → KeepsChart d.chart (passed d fork).chart × AreApart (passed d fork).chart.nodes
passed_apart d (Right low page) a = (refl, a)
passed_apart d (Down low page) a = (refl, a)

arrives_apart : {d : Descent} {s : Next Descent (Unit {0})} → Arrives d s → AreApart d.chart.nodes → LeadsApart d.chart s
arrives_apart (way.at_leaf d level) a = (refl, a)
arrives_apart (way.at_node d unseen none) a = (refl, a, fresh_of d.page d.chart.nodes none)
arrives_apart {s = s} (way.further d k fork p on) a =
    let more = passed_apart d fork a in
    later d.chart (passed d fork).chart s more.0 (arrives_apart on more.1)
arrives_apart w a = tt

pub arrive_apart : (d : Descent) → AreApart d.chart.nodes → LeadsApart d.chart (arrive d)
arrive_apart d a = arrives_apart (arrives d) a

gets_apart : {d : Descent} {g : Result (Option (List ℕ)) Trouble} {s : Next Descent (Unit {0})} → Gets d g s → AreApart d.chart.nodes → IsFresh d.page d.chart.nodes → LeadsApart d.chart s
gets_apart {d = d} {s = s} (way.goes_on bytes n fork is leads on) a fresh =
    let node : KeptNode = record { page = d.page; level = d.level; low = d.low; bytes = bytes } in
    let more = passed_apart (with_node d bytes) fork (apart_more (place_of node d.chart.nodes) d.chart.nodes node a fresh) in
    later d.chart (passed (with_node d bytes) fork).chart s (keeps_on d.chart (with_node d bytes).chart (passed (with_node d bytes) fork).chart refl more.0) (arrives_apart on more.1)
gets_apart w a fresh = tt

pub descent_apart : (d : Descent) (a : Answer) → AreApart d.chart.nodes → IsFresh d.page d.chart.nodes → LeadsApart d.chart (descent_next d a)
descent_apart d a apart fresh = gets_apart (gets d (got_of a)) apart fresh

-- ---- what is known where it leads

-- the node that is to be got, or the leaf
abbrev pub KnowsDescent : Store → ℕ → Claim → List ℕ → Next Descent (Unit {0}) → Type 0
KnowsDescent st now lease ids (Goes d) = IsGetting st now lease d ids
KnowsDescent st now lease ids (Ends d x) = IsCome st now lease (leaf_of d) ids
KnowsDescent st now lease ids (Stops d t) = Unit {0}

pub run_kept : (st : Store) (c e : Chart) (ids : List ℕ) → KeepsChart c e → KnowsRun st c ids → KnowsRun st e ids
run_kept st c e ids same k = subst (λ (x : Chart). KnowsRun st x ids) (sym same) (record { took = k.took; done = k.done })

pub least_kept : (c e : Chart) → KeepsChart c e → IsLeast c → IsLeast e
least_kept c e same k = subst IsLeast (sym same) k

pub descent_known : (st : Store) (now : ℕ) (lease : Claim) (ids : List ℕ) (c : Chart) (May : Trouble → Type 0) (next : Next Descent (Unit {0})) → WayLeads st now lease May next
    → LeadsApart c next → KnowsRun st c ids → IsLeast c → KnowsDescent st now lease ids next
descent_known st now lease ids c May (Goes d) k a run least = record {
  rest = record { chart = k.0.chart; run = run_kept st c d.chart ids a.0 run; apart = a.1 };
  way = k.0.way;
  above = k.1;
  fresh = a.2;
  least = least_kept c d.chart a.0 least;
}
descent_known st now lease ids c May (Ends d x) k a run least = record {
  rest = record { chart = k.0.chart; run = run_kept st c d.chart ids a.0 run; apart = a.1 };
  way = subst (λ (l : ℕ). IsOnWay (st.book.chain d.chart.tree) l d.page d.low d.chart.key d.visited) k.1 k.0.way;
  least = least_kept c d.chart a.0 least;
}
descent_known st now lease ids c May (Stops d t) k a run least = tt
