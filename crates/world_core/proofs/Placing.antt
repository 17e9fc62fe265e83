-- Sessions of which one, in a place of the list that holds them, changes.
use Rattle.std.proofs.Common.{◌≡◌, ◌≤◌, ◌<◌, ℕ, List, [], length, map, true, Some, None, Result, Ok, Err, refl, sym, ap, subst, ◌∙◌, get_or}
use Rattle.std.specs.Prelude.{slice_get, slice_set, OnOk, OnErr, IfErr}
use Rattle.std.specs.Option.{option_map}
use Rattle.std.proofs.lemmas.List.{map-set}
use Rattle.std.proofs.lemmas.Option.{slice_get-map, slice_get-get_or}
use Rattle.cloud_trait.specs.Ask.{Ask}
use Rattle.db_base.specs.declared.change.Change.{Change}
use Rattle.db_base.specs.declared.refusal.Refused.{Refused}
use Rattle.txn_buffer.specs.Noted.{noted_in, put_in}
use Rattle.client_work.specs.declared.work.Work.{Work}
use Rattle.client_work.specs.declared.work.Work.TheVariants.{Closed, Idle, Opening, Committing, Reading, Scanning, Looking, Paging, Folding, Closing, Renewing, Settling, Sweeping, Broken}
use Rattle.client_work.specs.Session.{Acting, ask_of_work, is_working, rule_of, MayIndex, NoteRefused, PutRefused, AbortRefused}
use Rattle.world_core.specs.declared.asked.Noting.TheVariants.{Single, Indexed}
use Rattle.world_core.specs.Sessions.{Changes, IsAtWork, NotesIn, AbortsIn}
use Rattle.world_core.specs.World.{all_sessions}

-- what stands in a place of a list stands in that of what its items are seen as
pub seen_there : {X Y : Type 0} (view : X → Y) (seen : List Y) (items : List X) (place : ℕ) (x : X) → map view items ≡ seen → place < length items → x ≡ get_or items place x
    → slice_get seen place ≡ Some (view x)
seen_there view seen items place x same within is =
    ap (λ l. slice_get l place) (sym same) ∙ slice_get-map view items place
    ∙ ap (option_map view) (slice_get-get_or items place x within) ∙ ap (λ z. Some (view z)) (sym is)

set_there : {X Y : Type 0} (view : X → Y) (seen : List Y) (items : List X) (place : ℕ) (y : X) → map view items ≡ seen
    → map view (slice_set items place y) ≡ slice_set seen place (view y)
set_there view seen items place y same = map-set view items place y ∙ ap (λ l. slice_set l place (view y)) same

changes_at : {X : Type 0} (acting : X → Acting) (Does : Acting → Acting → Type 0) (place : ℕ) (sessions : List Acting) (items : List X) (x y : X) → map acting items ≡ sessions
    → place < length items → x ≡ get_or items place x → Does (acting x) (acting y) → Changes place Does sessions (map acting (slice_set items place y))
changes_at acting Does place sessions items x y same within is does = record {
  before = acting x;
  after = acting y;
  there = seen_there acting sessions items place x same within is;
  does = does;
  rest = set_there acting sessions items place y same;
}

-- one of all sessions changes
pub changes_there : {X : Type 0} (acting : X → Acting) (Does : Acting → Acting → Type 0) (number place : ℕ) (sessions : List Acting) (items : List X) (x y : X) → map acting items ≡ sessions
    → length items ≡ all_sessions → place ≡ number → place < all_sessions → x ≡ get_or items place x → Does (acting x) (acting y)
    → Changes number Does sessions (map acting (slice_set items place y))
changes_there acting Does number place sessions items x y same long at within is does =
    subst (λ n. Changes n Does sessions (map acting (slice_set items place y))) at
    (changes_at acting Does place sessions items x y same (subst (λ n. place < n) (sym long) within) is does)

-- ---- which of them are at work

-- what has a call in hand is at work
works_on : (w : Work) (ask : Ask) → ask_of_work w ≡ Some ask → is_working w ≡ true
works_on (Opening m) ask asks = refl
works_on (Committing m) ask asks = refl
works_on (Reading home m) ask asks = refl
works_on (Scanning home m) ask asks = refl
works_on (Looking home m) ask asks = refl
works_on (Paging home m) ask asks = refl
works_on (Folding home m) ask asks = refl
works_on Closed ask asks = absurd cc
works_on (Idle home) ask asks = absurd cc
works_on (Closing lease) ask asks = refl
works_on (Renewing home) ask asks = refl
works_on (Settling m) ask asks = refl
works_on (Sweeping m) ask asks = refl
works_on (Broken lease) ask asks = absurd cc

-- one of all sessions that has a call in hand is at work
pub works_there : {X : Type 0} (acting : X → Acting) (number place : ℕ) (sessions : List Acting) (items : List X) (x : X) → map acting items ≡ sessions
    → length items ≡ all_sessions → place ≡ number → place < all_sessions → x ≡ get_or items place x → IsAtWork number sessions → is_working (acting x).work ≡ true
works_there acting number place sessions items x same long at within is works =
    let there : slice_get sessions place ≡ Some (acting x) = seen_there acting sessions items place x same (subst (λ n. place < n) (sym long) within) is in
    let found : Some works.session ≡ Some (acting x) = sym works.there ∙ (ap (λ n. slice_get sessions n) (sym at) ∙ there) in
    let its : works.session ≡ acting x = cc in
    works_on (acting x).work works.ask (ap (λ (s : Acting). ask_of_work s.work) (sym its) ∙ works.hand)

-- ---- what it says of a change noted, or of all dropped

pub notes_in : (tree : ℕ) (change : Change) (a b : Acting) (result : Result (Unit {0}) Refused)
    → OnOk result ((b ≡ record a { buffer = noted_in a.buffer tree change }) × (rule_of a.work ≡ None)) → OnErr result (b ≡ a) → IfErr result (NoteRefused a tree change)
    → OnOk result (length b.buffer ≤ 200) → NotesIn (Single tree change) a b result
notes_in tree change a b (Ok done) ok err cause few = (ok.0, ok.1, few, tt)
notes_in tree change a b (Err why) ok err cause few = (err, cause)

pub puts_in : (tree : ℕ) (key payload attr : List ℕ) (a b : Acting) (result : Result (Unit {0}) Refused)
    → OnOk result ((b ≡ record a { buffer = put_in a.buffer tree key payload attr }) × (rule_of a.work ≡ None)) → OnOk result (MayIndex tree key attr) → OnErr result (b ≡ a)
    → IfErr result (PutRefused a tree key payload attr) → OnOk result (length b.buffer ≤ 200) → NotesIn (Indexed tree key payload attr) a b result
puts_in tree key payload attr a b (Ok done) ok may err cause few = (ok.0, ok.1, few, may)
puts_in tree key payload attr a b (Err why) ok may err cause few = (err, cause)

pub aborts_in : (a b : Acting) (result : Result (Unit {0}) Refused) → OnOk result ((b ≡ record a { buffer = [] }) × (rule_of a.work ≡ None)) → OnErr result (b ≡ a)
    → IfErr result (AbortRefused a) → AbortsIn a b result
aborts_in a b (Ok done) ok err cause = ok
aborts_in a b (Err why) ok err cause = (err, cause)
