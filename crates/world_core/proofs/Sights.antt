-- Whether a put landed is told by how many versions of its object there are before and behind it.
use Rattle.std.proofs.Common.{◌≡◌, ◌≢◌, ◌⊎◌, ℕ, ◌+◌, List, [], ◌∷◌, ◌++◌, length, Some, refl, sym, ap, ◌∙◌, subst, inl, inr, Ok, arith, length-append}
use Rattle.std.specs.Prelude.{Bool, true, false, ◌||◌, nat_lt, slice_get, Option, None}
use Rattle.std.specs.Option.{option_map}
use Rattle.std.proofs.Math.Bool.{or-false, or-true}
use Rattle.std.proofs.lemmas.Bool.{le-ltb, lt-ltb}
use Rattle.std.proofs.lemmas.Slice.Eq.{bytes_eq-Decides}
use Rattle.cloud_facts.specs.Words.{Turn, CloudState, Caller, Claim, Seen, Ask, PutHeld, ObjName, newest}
use Rattle.cloud_trait.specs.declared.answer.Answer.{Answer as CallAnswer}
use Rattle.cloud_trait.specs.Names.{object_cmp}
use Rattle.cloud_trait.specs.declared.state.Version.{Version}
use Rattle.cloud_trait.specs.State.{Counts, called, landed, newest_of}
use Rattle.cloud_trait.specs.Bench.{has_bytes}
use Rattle.cloud_trait.specs.Weather.{counted, Leaves, Weather}
use Rattle.cloud_trait.specs.Ask.{Lands}
use Rattle.cloud_trait.proofs.NameLemmas.{object_cmp-total}
use Rattle.cloud_trait.proofs.RowLemmas.{lands_or_not}
use Rattle.cloud_trait.proofs.StateLemmas.{put_at_same, landed_newest}
use Rattle.db_base.specs.declared.wish.Wish.{Wish}
use Rattle.client_work.specs.declared.answer.Answer.{Answer}
use Rattle.client_work.specs.declared.work.Work.{Work}
use Rattle.client_work.specs.Session.{Acting, StepsSession, ask_of_work}
use Rattle.session_facts.proofs.Lines.Outcome.{MadeCall, made_call}
use Rattle.world_audit.specs.Look.{Looked}
use Rattle.world_core.specs.declared.put.Sight.{Sight}
use Rattle.world_core.specs.Handled.{SetsWish}
use Rattle.world_core.specs.Put.{Put, put_by, put_of, put_of_ask, put_of_hand, name_of, is_newest, SeesNewest, SeesBefore, SeesBehind}
use Rattle.world_core.specs.Sessions.{Changes, HasPut, Puts}

-- a put that landed is one version more, whose bytes are the newest
abbrev IsNewer : Put → CloudState → CloudState → Type 0
IsNewer put s t = (length (t.versions put.name) ≡ length (s.versions put.name) + 1) × (newest t put.name ≡ Some put.bytes)

landed_newer : (who : Caller) (name : ObjName) (bytes : List ℕ) (s : CloudState) → IsNewer (put_by name bytes) s (landed who name bytes s)
landed_newer who name bytes s =
    let version : Version = record { who = who; bytes = Some bytes } in (
      ap length (put_at_same object_cmp object_cmp-total s.versions name (s.versions name ++ version ∷ [])) ∙ length-append (s.versions name) (version ∷ []),
      landed_newest who name bytes s,
    )

landed_or_stayed : (who : Caller) (name : ObjName) (bytes : List ℕ) (one : Claim) (two : Option Claim) (s t : CloudState) → (t ≡ s) ⊎ Lands who (PutHeld name bytes one two) s t
    → (t.versions name ≡ s.versions name) ⊎ IsNewer (put_by name bytes) s t
landed_or_stayed who name bytes one two s t (inl stays) = inl (ap (λ (u : CloudState). u.versions name) stays)
landed_or_stayed who name bytes one two s t (inr lands) =
    inr (subst (λ (u : CloudState). IsNewer (put_by name bytes) s u) (sym lands.0) (landed_newer who name bytes s))

-- behind a put it is so, or all versions are as they were
seen_newer : (who : Caller) (ask : Ask) (answer : CallAnswer) (c d : Counts) (s t : CloudState) (put : Put) → put_of_ask ask ≡ Some put
    → Weather who ask answer (counted c s) (counted d t) → (t.versions put.name ≡ s.versions put.name) ⊎ IsNewer put s t
seen_newer who (PutHeld name bytes one two) answer c d s t put e row =
    let same : put_by name bytes ≡ put = cc in
    let P : Put → Type 0 = λ p. (t.versions p.name ≡ s.versions p.name) ⊎ IsNewer p s t in
    subst P same (landed_or_stayed who name bytes one two s t (lands_or_not who (PutHeld name bytes one two) answer c d s t row))
seen_newer who ask answer c d s t put e row = absurd (cc)

-- so the newest version has its bytes where it had them before, or where another one landed since
told_newest : (put : Put) (s t : CloudState) (was is : Bool) (n : ℕ) → was ≡ is_newest (newest s) put → n ≡ length (s.versions put.name)
    → is ≡ (was || nat_lt n (length (t.versions put.name))) → (t.versions put.name ≡ s.versions put.name) ⊎ IsNewer put s t → is ≡ is_newest (newest t) put
told_newest put s t was is n sees counts told (inl stays) =
    let none : nat_lt n (length (t.versions put.name)) ≡ false =
    le-ltb n (length (t.versions put.name)) (omega (arith, counts, ap length stays)) in
    told ∙ ap (λ (b : Bool). was || b) none ∙ or-false was ∙ sees ∙ ap (λ (vs : List Version). has_bytes (newest_of vs) put.bytes) (sym stays)
told_newest put s t was is n sees counts told (inr newer) =
    let more : nat_lt n (length (t.versions put.name)) ≡ true = lt-ltb n (length (t.versions put.name)) (omega (arith, counts, newer.0)) in
    told ∙ ap (λ (b : Bool). was || b) more ∙ or-true was
    ∙ sym (ap (λ (v : Option (List ℕ)). has_bytes v put.bytes) newer.1 ∙ (bytes_eq-Decides put.bytes put.bytes).1 refl)

-- what was seen before the put and behind it tells whether the newest version has its bytes
seen_behind : (put : Put) (s t : CloudState) (was after : Option Bool) (n : ℕ) → SeesBefore s put (record { newest = was; versions = n })
    → SeesBehind t put.name (record { newest = was; versions = n }) after → (t.versions put.name ≡ s.versions put.name) ⊎ IsNewer put s t → SeesNewest (newest t) put after
seen_behind put s t was None n before behind put_is = tt
seen_behind put s t None (Some is) n before behind put_is = absurd behind
seen_behind put s t (Some was) (Some is) n before behind put_is = told_newest put s t was is n before.0 (before.1 (λ e. cc)) behind put_is

pub put_seen : (who : Caller) (wish : Wish) (put : Put) (before from under to : Seen) (old new : List Acting) (turn : Turn Answer) (sight : Sight) (after : Option Bool)
    → Looked before from → SetsWish wish from under → (step : Changes who.session (λ a b. StepsSession who under to a b (Ok turn)) old new)
    → put_of step.before.work ≡ Some put → (x y : CloudState) → before.state ≡ Some x → to.state ≡ Some y
    → SeesBefore x put sight → SeesBehind y put.name sight after → SeesNewest (newest y) put after
put_seen who wish put before from under to old new turn sight after first sets step hand x y told reached saw sees =
    let wished : CloudState = record x { wish = wish } in
    let call : MadeCall who under to step.before.work = made_call who under to step.before.work step.after.work turn step.does.work in
    let l : Leaves who call.ask call.answer (counted under.counts wished) to.counts to.state = call.made.state wished (sets.set x (first.stays x told)) in
    let same : l.after ≡ y = cc (l.told, reached) in
    let puts : put_of_ask call.ask ≡ Some put = sym (ap put_of_hand call.hand) ∙ hand in
    let newer : (l.after.versions put.name ≡ x.versions put.name) ⊎ IsNewer put x l.after =
    seen_newer who call.ask call.answer under.counts to.counts (called who l.after.now wished) l.after put puts l.row in
    seen_behind put x y sight.newest after sight.versions saw sees
    (subst (λ (u : CloudState). (u.versions put.name ≡ x.versions put.name) ⊎ IsNewer put x u) same newer)

-- ---- which put

pub puts_from : (number : ℕ) (sessions : List Acting) (a : Acting) (name : ObjName) → slice_get sessions number ≡ Some a → Some name ≡ option_map name_of (put_of a.work)
    → Puts number sessions name
puts_from number sessions a name there named = on (put_of a.work) refl named where
  on : (put : Option Put) → put_of a.work ≡ put → Some name ≡ option_map name_of put → Puts number sessions name
  on (Some put) e f = record { put = put; has = record { session = a; there = there; put_is = e }; named = cc }
  on None e f = absurd (cc)

pub puts_none : (number : ℕ) (sessions : List Acting) (a : Acting) → slice_get sessions number ≡ Some a → None ≡ option_map name_of (put_of a.work) → HasPut number sessions None
puts_none number sessions a there named = on (put_of a.work) refl named where
  on : (put : Option Put) → put_of a.work ≡ put → None ≡ option_map name_of put → HasPut number sessions None
  on (Some put) e f = absurd (cc)
  on None e f = record { session = a; there = there; put_is = e }
