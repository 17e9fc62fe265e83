-- The low key of a new piece of a leaf is no longer than a key.
use Rattle.std.proofs.Common.{◌≡◌, ◌≤◌, ◌+◌, inl, inr, ℕ, zero, suc, Bool, true, false, cond, List, [], ◌∷◌, ◌++◌, length, map, Option, Some, None, Result, Ok, Err, refl, sym, ap, subst, ◌∙◌, arith}
use Rattle.std.specs.Prelude.{drop}
use Rattle.std.specs.List.{AllByRecursion, flat_map}
use Rattle.ckpt_parts.specs.Intakes.{item_with, with_first, items_of}
use Rattle.cloud_facts.specs.Words.{PuItem, Leaf, IsIn}
use Rattle.cloud_trait.specs.declared.message.Message.{Message}
use Rattle.db_base.specs.Change.{key_of}
use Rattle.leaf_edit.specs.Applied.{applied}
use Rattle.leaf_edit.specs.Lacked.{is_lacked, lacked}
use Rattle.log_codec.proofs.PuLaws.{pu_of-some}
use Rattle.log_codec.specs.declared.record.PuRec.{PuRec}
use Rattle.log_codec.specs.Pu.{pu_of}
use Rattle.run_cursor.specs.Run.{Taken}
use Rattle.session_facts.proofs.Machines.Runs.Taken.{run_in}
use Rattle.session_facts.specs.Machines.TreeCheckpoints.Nesting.{AreShort}
use Rattle.split_plan.specs.Cut.{IsCut, IsNewPart, first_key_of}
use Rattle.split_plan.specs.declared.entry_list.NewEntry.{NewEntry}
use Rattle.split_plan.specs.Part.{Part, record_key, part_of_leaf}
use Rattle.split_plan.specs.Plan.{entry_of, on_pages}
use Rattle.tree_ckpt.proofs.Keyed.{edited_by-keys}
use Rattle.tree_ckpt.specs.Meaning.{Opening, IsOpened}
use Rattle.tree_ckpt.specs.Working.{IsAmong, Outcome, Planned, Spared, Passed, IsLeft, IsPieceOf}
use Rattle.tree_phases.specs.declared.link.Link.{Link}
use Rattle.tree_phases.specs.Kept.{links_at}

-- ---- the run

abbrev IsShort : PuItem → Type 0
IsShort x = length (key_of x.rec.change) ≤ 64

abbrev pub AreShortItems : List PuItem → Type 0
AreShortItems xs = AllByRecursion IsShort xs

each_short : (xs : List PuItem) → ((x : PuItem) → IsIn xs x → IsShort x) → AreShortItems xs
each_short [] each = tt
each_short (x ∷ xs) each = (each x (zero, refl), each_short xs (λ y there. each y (suc there.0, there.1)))

-- the records of messages have keys
items_short : (ms : List Message) (items : List PuItem) → items_of ms ≡ Ok items → AreShortItems items
items_short [] items e = let none : [] ≡ items = cc (e) in subst AreShortItems none tt
items_short (m ∷ ms) items e = on (pu_of m.bytes) (items_of ms) refl refl e (λ rest g. items_short ms rest g)
  where
    on : (o : Option PuRec) (r : Result (List PuItem) Message) → pu_of m.bytes ≡ o → items_of ms ≡ r → with_first m o r ≡ Ok items
        → ((rest : List PuItem) → items_of ms ≡ Ok rest → AreShortItems rest) → AreShortItems items
    on None r f g h again = absurd (cc (h))
    on (Some rec) (Err bad) f g h again = absurd (cc (h))
    on (Some rec) (Ok rest) f g h again =
        let same : item_with m.id rec ∷ rest ≡ items = cc (h) in
        subst AreShortItems same ((pu_of-some m.bytes rec f).0.change.key.short, again rest g)

in_all : (xs : List PuItem) (x : PuItem) → AreShortItems xs → IsIn xs x → IsShort x
in_all [] x all (place, there) = absurd (cc (there))
in_all (y ∷ ys) x all (zero, there) = let same : y ≡ x = cc (there) in subst IsShort same all.0
in_all (y ∷ ys) x all (suc place, there) = in_all ys x all.1 (place, there)

pub run_short : (o : Opening) → IsOpened o → AreShortItems o.run.items
run_short o is =
    each_short o.run.items
    (λ x there. in_all o.items x (items_short o.messages o.items is.read) (run_in _ o.items o.run.items o.run.top is.run x there))

-- ---- the leaf with the run applied

lacked_short : (l : Leaf) (xs : List PuItem) → AreShortItems xs → AreShortItems (lacked l 0 xs)
lacked_short l [] all = tt
lacked_short l (x ∷ xs) all = on (is_lacked l 0 x) (lacked_short l xs all.1)
  where
    on : (b : Bool) → AreShortItems (lacked l 0 xs) → AreShortItems (cond b (x ∷ lacked l 0 xs) (lacked l 0 xs))
    on true rest = (all.0, rest)
    on false rest = rest

applied_short : (l : Leaf) (run : List PuItem) → AreShort l.records → AreShortItems run → AreShort (applied l 0 run).records
applied_short l run records items = edited_by-keys (λ (k : List ℕ). length k ≤ 64) l.records (lacked l 0 run) (lacked_short l run items) records

-- ---- its pieces

abbrev Short : {A : Type 0} → (A → List ℕ) → List A → Type 0
Short {A} key xs = AllByRecursion (λ (x : A). length (key x) ≤ 64) xs

short_parts : {A : Type 0} (key : A → List ℕ) (xs ys : List A) → Short key (xs ++ ys) → Short key xs × Short key ys
short_parts key [] ys all = (tt, all)
short_parts key (x ∷ xs) ys all = let rest = short_parts key xs ys all.1 in ((all.0, rest.0), rest.1)

first_short : {A : Type 0} (key : A → List ℕ) (xs : List A) → Short key xs → length (first_key_of key xs) ≤ 64
first_short key [] all = omega arith
first_short key (x ∷ xs) all = all.0

pieces_short : {A X : Type 0} (key : A → List ℕ) (page free : ℕ) (ps : List (Part A X)) (e : NewEntry) → AllByRecursion (λ (p : Part A X). IsNewPart key p) ps
    → Short key (flat_map (λ (p : Part A X). p.items) ps) → IsAmong e (map entry_of (on_pages page free ps)) → length e.low ≤ 64
pieces_short key page free [] e new all there = absurd there
pieces_short {A} {X} key page free (p ∷ ps) e new all (inl same) =
    let own = (short_parts key p.items (flat_map (λ (q : Part A X). q.items) ps) all).0 in
    let low : e.low ≡ first_key_of key p.items = ap (λ (x : NewEntry). x.low) (sym same) ∙ new.0.low in
    subst (λ (k : List ℕ). length k ≤ 64) (sym low) (first_short key p.items own)
pieces_short {A} {X} key page free (p ∷ ps) e new all (inr rest) =
    pieces_short key free (free + 1) ps e new.1 (short_parts key p.items (flat_map (λ (q : Part A X). q.items) ps) all).1 rest

cut_short : {A X : Type 0} (key : A → List ℕ) (page first : ℕ) (whole : Part A X) (ps : List (Part A X)) (e : NewEntry) → IsCut key first whole ps → Short key whole.items
    → IsAmong e (drop 1 (map entry_of (on_pages page first ps))) → length e.low ≤ 64
cut_short key page first whole [] e cut all there = absurd there
cut_short {A} {X} key page first whole (p ∷ ps) e cut all there =
    pieces_short key first (first + 1) ps e cut.begins.2
    (short_parts key p.items (flat_map (λ (q : Part A X). q.items) ps) (subst (Short key) (sym cut.items) all)).1 there

entry_at : (level : ℕ) (l : Link) (es : List NewEntry) → IsAmong l (links_at level es) → (e : NewEntry) × IsAmong e es × (l.low ≡ e.low)
entry_at level l [] h = absurd h
entry_at level l (e ∷ es) (inl same) = (e, inl refl, ap (λ (m : Link). m.low) (sym same))
entry_at level l (e ∷ es) (inr h) = let rest = entry_at level l es h in (rest.0, inr rest.1, rest.2)

pub piece_short : (run : Taken) (held : Option (List ℕ)) (page : ℕ) (leaf : Leaf) (outcome : Outcome) (l : Link) → IsLeft run held page leaf outcome → IsPieceOf l outcome
    → AreShort leaf.records → AreShortItems run.items → length l.low ≤ 64
piece_short run held page leaf (Planned plan) l left piece records items =
    let put = left.1 in
    let e = entry_at 1 l plan.entries piece in
    subst (λ (k : List ℕ). length k ≤ 64) (sym e.2)
    (cut_short record_key page put.first (part_of_leaf (applied leaf 0 run.items)) put.pieces e.0 put.cut (applied_short leaf run.items records items)
    (subst (λ (es : List NewEntry). IsAmong e.0 es) put.entries e.1))
piece_short run held page leaf Spared l left piece records items = absurd piece
piece_short run held page leaf (Passed link) l left piece records items = absurd piece
