-- Looks at objects, one behind another.
use Rattle.std.proofs.Common.{suc, zero, ◌≡◌, ◌<◌, ◌+◌, ◌-◌, ◌⊎◌, ℕ, List, [], ◌∷◌, ◌++◌, Option, Some, None, Result, Ok, Err, refl, sym, ap, subst, ◌∙◌, append_assoc, map, inl, inr, arith}
use Rattle.cloud_trait.specs.Bench.{Looks}
use Rattle.cloud_trait.specs.Seen.{Seen}
use Rattle.cloud_trait.specs.declared.fault.CloudFault.{CloudFault}
use Rattle.db_base.specs.declared.names.ObjName.{ObjName}
use Rattle.db_base.specs.declared.names.ObjName.TheVariants.{Head, Tree, Page}
use Rattle.reply_text.specs.Name.{object_word}
use Rattle.load_plan.specs.FirstLook.{numbers, tree_names, ShowsOf, NoneThere, Looked, LookedOn, EndsLooks, LooksEnded, LookedAtAll, LooksAt}
use Rattle.load_plan.specs.declared.first_look.LookStop.{LookStop}
use Rattle.load_plan.specs.declared.first_look.LookStop.TheVariants.{NotEmpty, Failed, Memory}

-- ---- one look

pub looked_of : {A : Type 0} → (r : Result A CloudFault) (a b : Seen) → Looks r a b → Looked a b
looked_of r a b l = record { faults = l.faults; withheld = l.withheld; stale = l.stale; heard = l.heard; shown = l.shown; stays = l.stays }

pub there_ends : (name : ObjName) (bytes : List ℕ) (stop : LookStop) (a b : Seen) → (stop ≡ NotEmpty (object_word name)) ⊎ (stop ≡ Memory)
    → ShowsOf a name (Some bytes) → LookedOn a b → LooksEnded (name ∷ []) stop a b
there_ends name bytes stop a b (inl e) shows looked = record {
  earlier = [];
  name = name;
  later = [];
  at = refl;
  none = tt;
  ends = subst (λ (x : LookStop). EndsLooks x name a b) (sym e) (refl, (bytes, shows), looked);
}
there_ends name bytes stop a b (inr e) shows looked = record {
  earlier = [];
  name = name;
  later = [];
  at = refl;
  none = tt;
  ends = subst (λ (x : LookStop). EndsLooks x name a b) (sym e) looked;
}

-- ---- looks behind looks

on_from : (a b c : Seen) → Looked a b → Looked b c → Looked a c
on_from a b c l m = record {
  faults = m.faults ∙ l.faults;
  withheld = m.withheld ∙ l.withheld;
  stale = m.stale ∙ l.stale;
  heard = m.heard ∙ l.heard;
  shown = m.shown ∙ l.shown;
  stays = λ s told. m.stays s (l.stays s told);
}

shows_from : (a b : Seen) (name : ObjName) (bytes : Option (List ℕ)) → Looked a b → ShowsOf b name bytes → ShowsOf a name bytes
shows_from a b name bytes l shows = record { told = λ s told. shows.told s (l.stays s told); shown = λ p shown. shows.shown p (l.shown ∙ shown) }

none_from : (a b : Seen) (names : List ObjName) → Looked a b → NoneThere b names → NoneThere a names
none_from a b [] l none = tt
none_from a b (name ∷ names) l none = (shows_from a b name None l none.0, none_from a b names l none.1)

none_both : (a : Seen) (names more : List ObjName) → NoneThere a names → NoneThere a more → NoneThere a (names ++ more)
none_both a [] more none other = other
none_both a (name ∷ names) more none other = (none.0, none_both a names more none.1 other)

ends_from : (a b c : Seen) (stop : LookStop) (name : ObjName) → LookedOn a b → EndsLooks stop name b c → EndsLooks stop name a c
ends_from a b c (NotEmpty text) name l (e, (bytes, shows), m) =
    (e, (bytes, shows_from a b name (Some bytes) l.looked shows), record { looked = on_from a b c l.looked m.looked; seeing = m.seeing ∙ l.seeing })
ends_from a b c Failed name l m = record { looked = on_from a b c l.looked m.looked; rose = subst (λ n. n < c.counts.dark) l.seeing m.rose }
ends_from a b c Memory name l m = record { looked = on_from a b c l.looked m.looked; seeing = m.seeing ∙ l.seeing }

pub all_none : (a : Seen) → LookedAtAll [] a a
all_none a = record {
  none = tt;
  looked = record {
    looked = record { faults = refl; withheld = refl; stale = refl; heard = refl; shown = refl; stays = λ s told. told };
    seeing = refl;
  };
}

pub all_on : (names more : List ObjName) (a b c : Seen) → LookedAtAll names a b → LookedAtAll more b c → LookedAtAll (names ++ more) a c
all_on names more a b c l m = record {
  none = none_both a names more l.none (none_from a b more l.looked.looked m.none);
  looked = record { looked = on_from a b c l.looked.looked m.looked.looked; seeing = m.looked.seeing ∙ l.looked.seeing };
}

-- the looks ended among later ones, and among earlier ones
pub ends_on : (names more : List ObjName) (stop : LookStop) (a b c : Seen) → LookedAtAll names a b → LooksEnded more stop b c → LooksEnded (names ++ more) stop a c
ends_on names more stop a b c l m = record {
  earlier = names ++ m.earlier;
  name = m.name;
  later = m.later;
  at = ap (λ ns. names ++ ns) m.at ∙ sym (append_assoc names m.earlier (m.name ∷ m.later));
  none = none_both a names m.earlier l.none (none_from a b m.earlier l.looked.looked m.none);
  ends = ends_from a b c stop m.name l.looked m.ends;
}

pub ends_before : (names more : List ObjName) (stop : LookStop) (a b : Seen) → LooksEnded names stop a b → LooksEnded (names ++ more) stop a b
ends_before names more stop a b l = record {
  earlier = l.earlier;
  name = l.name;
  later = l.later ++ more;
  at = ap (λ ns. ns ++ more) l.at ∙ append_assoc l.earlier (l.name ∷ l.later) more;
  none = l.none;
  ends = l.ends;
}

pub looks_on : (names more : List ObjName) (r : Result (Unit {0}) LookStop) (a b c : Seen) → LookedAtAll names a b → LooksAt more r b c → LooksAt (names ++ more) r a c
looks_on names more (Ok done) a b c l m = all_on names more a b c l m
looks_on names more (Err stop) a b c l m = ends_on names more stop a b c l m

-- ---- numbers

numbers_split : (k first n : ℕ) → numbers first (k + n) ≡ numbers first k ++ numbers (first + k) n
numbers_split zero first n =
    let a : zero + n ≡ n = omega arith in
    let b : first ≡ first + zero = omega arith in
    ap (λ m. numbers first m) a ∙ ap (λ m. numbers m n) b
numbers_split (suc k) first n =
    let a : suc k + n ≡ suc (k + n) = omega arith in
    let b : first + 1 + k ≡ first + suc k = omega arith in
    ap (λ m. numbers first m) a ∙ ap (λ ns. first ∷ ns) (numbers_split k (first + 1) n ∙ ap (λ m. numbers (first + 1) k ++ numbers m n) b)

numbers_next : (first n : ℕ) → numbers first (n + 1) ≡ numbers first n ++ (first + n) ∷ []
numbers_next first n = numbers_split n first 1

numbers_at : (first n count : ℕ) → n < count → (later : List ℕ) × (numbers first count ≡ numbers first n ++ (first + n) ∷ later)
numbers_at first n count less =
    let at : count ≡ n + suc (count - (n + 1)) = omega (arith, less) in
    (numbers (first + n + 1) (count - (n + 1)), ap (λ m. numbers first m) at ∙ numbers_split n first (suc (count - (n + 1))))

-- names of more numbers are those of the earlier ones and of the later ones
abbrev pub AreNamesOf : (List ℕ → List ObjName) → Type 0
AreNamesOf names = (xs ys : List ℕ) → names (xs ++ ys) ≡ names xs ++ names ys

pub head_names : AreNamesOf (map Head)
head_names [] ys = refl
head_names (x ∷ xs) ys = ap (λ ns. Head x ∷ ns) (head_names xs ys)

pub both_names : AreNamesOf tree_names
both_names [] ys = refl
both_names (x ∷ xs) ys = ap (λ ns. Tree x ∷ Page x 1 ∷ ns) (both_names xs ys)

-- the names of one number more were looked at
pub looked_more : (names : List ℕ → List ObjName) → AreNamesOf names → (n number : ℕ) (a b c : Seen) → number ≡ n + 1
    → LookedAtAll (names (numbers 1 n)) a b → LookedAtAll (names (number ∷ [])) b c → LookedAtAll (names (numbers 1 (n + 1))) a c
looked_more names parted n number a b c is l m =
    let same : number ≡ 1 + n = omega (arith, is) in
    let whole : names (numbers 1 (n + 1)) ≡ names (numbers 1 n) ++ names (number ∷ []) =
    ap names (numbers_next 1 n) ∙ parted (numbers 1 n) ((1 + n) ∷ []) ∙ ap (λ k. names (numbers 1 n) ++ names (k ∷ [])) (sym same) in
    subst (λ ns. LookedAtAll ns a c) (sym whole) (all_on (names (numbers 1 n)) (names (number ∷ [])) a b c l m)

-- the looks ended at the names of a number
pub looked_upto : (names : List ℕ → List ObjName) → AreNamesOf names → (n number count : ℕ) (stop : LookStop) (a b c : Seen) → n < count → number ≡ n + 1
    → LookedAtAll (names (numbers 1 n)) a b → LooksEnded (names (number ∷ [])) stop b c → LooksEnded (names (numbers 1 count)) stop a c
looked_upto names parted n number count stop a b c less is l m =
    let same : number ≡ 1 + n = omega (arith, is) in
    let at = numbers_at 1 n count less in
    let whole : names (numbers 1 count) ≡ names (numbers 1 n) ++ (names (number ∷ []) ++ names at.0) =
    ap names at.1 ∙ parted (numbers 1 n) ((1 + n) ∷ at.0) ∙ ap (λ ns. names (numbers 1 n) ++ ns) (parted ((1 + n) ∷ []) at.0)
    ∙ ap (λ k. names (numbers 1 n) ++ (names (k ∷ []) ++ names at.0)) (sym same) in
    subst (λ ns. LooksEnded ns stop a c) (sym whole)
    (ends_on (names (numbers 1 n)) (names (number ∷ []) ++ names at.0) stop a b c l (ends_before (names (number ∷ [])) (names at.0) stop b c m))
