-- What a call of one session leaves, by whether it landed, whatever machine made it.
use Rattle.std.proofs.Common.{◌≡◌, ◌⊎◌, inl, inr, ℕ, List, Option, Some, None, Bool, true, false, cond, refl, sym, ap, subst, ◌∙◌}
use Rattle.std.specs.Prelude.{not, ◌&&◌}
use Rattle.std.specs.Str.{bytes_eq}
use Rattle.std.proofs.lemmas.Slice.Eq.{bytes_eq-Decides}
use Rattle.cloud_trait.proofs.StateLemmas.{landed_newest}
use Rattle.cloud_facts.specs.Words.{ObjName, Entry, Answer, CloudState, called, newest, Caller, Claim, Ask, Get, GetHeld, PutHeld, Send, Receive, Delete, Take, Renew, Release, Book, Store, at, IsIn, store_of, IsCall, StandsUnder}
use Rattle.cloud_trait.specs.Ask.{ListHeld, RemoveHeld, Lands, effect, PutsNothing, TouchesNoMessage}
use Rattle.cloud_trait.specs.State.{landed as put}
use Rattle.cloud_facts.specs.Calls.Acting.{footing, exchange, actor, Outcome, Handles}
use Rattle.cloud_facts.specs.Calls.Links.{in_hand_at, LinksBy, GoneBy, OwesLease}
use Rattle.cloud_trait.specs.Bench.{has_bytes}
use Rattle.cloud_facts.specs.Calls.Looks.{Newest, has_landed, audited_at, audit_of}
use Rattle.cloud_facts.specs.Calls.Others.{Passes}
use Rattle.cloud_facts.specs.Calls.Standing.{Follows, Commits}
use Rattle.cloud_facts.proofs.Calls.Calls.{landed_or_not}
use Rattle.cloud_facts.proofs.Calls.LinkLemmas.{landing_links, landing_gone}
use Rattle.cloud_facts.proofs.Calls.Passing.{landing_passes, passes_itself, commits_join}
use Rattle.cloud_facts.proofs.Calls.StandingLemmas.{landing_tells, landing_spells, effect_stands, same_stands}
use Rattle.cloud_facts.specs.Decoding.Decodes.{IsNext}
use Rattle.cloud_facts.proofs.Decoding.Values.{next_differs}
use Rattle.history.specs.Audited.{Audited}
use Rattle.cloud_facts.specs.Homes.Homes.{Part, Away, Parts, HomesHold}
use Rattle.cloud_facts.proofs.Homes.HomeLemmas.{away_keeps, part_again}
use Rattle.cloud_facts.specs.Landings.Landing.{Landing}
use Rattle.cloud_facts.specs.Landings.Landing as lands_nothing
use Rattle.cloud_facts.proofs.Tellings.Asks.{told_store}

-- ---- whether a put was seen to land

bytes_same : (bytes : List ℕ) → bytes_eq bytes bytes ≡ true
bytes_same bytes = (bytes_eq-Decides bytes bytes).1 refl

-- the newest bytes are not these
lacks_bytes : (v : Option (List ℕ)) (bytes : List ℕ) → (v ≡ Some bytes → ⊥) → has_bytes v bytes ≡ false
lacks_bytes None bytes differ = refl
lacks_bytes (Some b) bytes differ = on (bytes_eq b bytes) refl
  where
    on : (same : Bool) → bytes_eq b bytes ≡ same → same ≡ false
    on true e = absurd (differ (ap (λ (x : List ℕ). Some x) ((bytes_eq-Decides b bytes).0 e)))
    on false e = refl

-- nothing lands where nothing changes
never_both : (b : Bool) → not b && b ≡ false
never_both true = refl
never_both false = refl

pub none_lands : (look : Newest) (ask : Option Ask) → has_landed look look ask ≡ false
none_lands look (Some (PutHeld name bytes one two)) = never_both (has_bytes (look name) bytes)
none_lands look (Some (Get name)) = refl
none_lands look (Some (GetHeld name l)) = refl
none_lands look (Some (ListHeld tree l)) = refl
none_lands look (Some (RemoveHeld name l)) = refl
none_lands look (Some (Send queue bytes)) = refl
none_lands look (Some (Receive queue most)) = refl
none_lands look (Some (Delete queue id)) = refl
none_lands look (Some (Take lock ticks)) = refl
none_lands look (Some (Renew l ticks)) = refl
none_lands look (Some (Release l)) = refl
none_lands look None = refl

-- a put whose bytes are the next version is seen to land
put_lands : (who : Caller) (s : CloudState) (now : ℕ) (name : ObjName) (bytes : List ℕ) (one : Claim) (two : Option Claim) → (newest s name ≡ Some bytes → ⊥)
    → has_landed (newest s) (newest (put who name bytes (called who now s))) (Some (PutHeld name bytes one two)) ≡ true
put_lands who s now name bytes one two differs =
    ap (λ b. not b && has_bytes (newest (put who name bytes (called who now s)) name) bytes) (lacks_bytes (newest s name) bytes differs)
    ∙ (ap (λ v. has_bytes v bytes) (landed_newest who name bytes (called who now s)) ∙ bytes_same bytes)

-- only a put is seen to land
pub quiet_unseen : (ask : Ask) → PutsNothing ask → (look new : Newest) → has_landed look new (Some ask) ≡ false
quiet_unseen (Get name) puts look new = refl
quiet_unseen (GetHeld name l) puts look new = refl
quiet_unseen (PutHeld name bytes one two) puts look new = absurd puts
quiet_unseen (ListHeld tree l) puts look new = refl
quiet_unseen (RemoveHeld name l) puts look new = absurd puts
quiet_unseen (Send queue bytes) puts look new = refl
quiet_unseen (Receive queue most) puts look new = refl
quiet_unseen (Delete queue id) puts look new = refl
quiet_unseen (Take lock ticks) puts look new = refl
quiet_unseen (Renew l ticks) puts look new = refl
quiet_unseen (Release l) puts look new = refl

-- ---- what the audit takes

not_noted : (before after : Newest) (ask : Ask) (note : Audited → Audited) (a : Audited) → has_landed before after (Some ask) ≡ false → audited_at before after ask note a ≡ a
not_noted before after ask note a none = ap (λ b. cond b (note a) a) none

is_noted : (before after : Newest) (ask : Ask) (note : Audited → Audited) (a : Audited) → has_landed before after (Some ask) ≡ true → audited_at before after ask note a ≡ note a
is_noted before after ask note a lands = ap (λ b. cond b (note a) a) lands

-- ---- a call that did not land

module _ (who : Caller) (book : Book) (order : List Entry) (s t : CloudState) (parts : Parts) (mine : List Claim) (ask : Ask) (note : Audited → Audited) (K : Store → ℕ → Part → Type 0) where
  -- whatever is known then
  pub stays : t ≡ called who t.now s → StandsUnder book order s → (part : Part) → HomesHold (store_of book order s).tally t.now (at who.session part parts)
      → K (store_of book order s) t.now part → Outcome (footing book order s) t (actor parts who.session mine) ask note K
  stays e stands part homes knows = record {
    book_after = book;
    order_after = order;
    cloud = same_stands book order s t (ap (λ (x : CloudState). x.versions) e) (ap (λ (x : CloudState). x.messages) e) (ap (λ (x : CloudState). x.trace) e) stands;
    passes = subst (λ (st : Store). Passes (store_of book order s) st) (sym same) (passes_itself (store_of book order s));
    joins = λ r is. inl is;
    links = λ tree. inl (λ level. refl);
    gone = subst (λ (st : Store). GoneBy mine t.now (store_of book order s) st) (sym same) (λ tree. inl (λ page. refl));
    part = part;
    homes = subst (λ (st : Store). HomesHold st.tally t.now (at who.session part parts)) (sym same) homes;
    knows = subst (λ (st : Store). K st t.now part) (sym same) knows;
    noted = not_noted (newest s) (newest t) ask note (audit_of book order)
        (ap (λ (x : CloudState). has_landed (newest s) (newest x) (Some ask)) e ∙ none_lands (newest s) (Some ask));
  }
    where
      same : store_of book order t ≡ store_of book order s
      same = ap (store_of book order) e

  -- ---- a call that landed

  module _ (su : Store) (lands : Lands who ask (called who t.now s) t) (stands : StandsUnder book order s) (l : Landing who (store_of book order s) ask su)
      (f : Follows who (store_of book order s) ask su l) (c : Commits who (store_of book order s) (parts who.session) ask su l) (owes : OwesLease (in_hand_at mine t.now) who (store_of book order s) ask su l) (part : Part) (homes : HomesHold su.tally t.now (at who.session part parts)) (knows : K su t.now part) where
    called_stands : StandsUnder book order (called who t.now s)
    called_stands = same_stands book order s (called who t.now s) refl refl refl stands

    told : store_of su.book su.order t ≡ su
    told =
        ap (store_of su.book su.order) lands.0
        ∙ told_store (effect who ask (called who t.now s)) su (landing_tells who book order (called who t.now s) ask su called_stands.holds.chains called_stands.holds.gones called_stands.decodes l f)

    with_noted : audited_at (newest s) (newest t) ask note (audit_of book order) ≡ audit_of su.book su.order → Outcome (footing book order s) t (actor parts who.session mine) ask note K
    with_noted noted = record {
      book_after = su.book;
      order_after = su.order;
      cloud = subst (StandsUnder su.book su.order) (sym lands.0) (effect_stands who book order (called who t.now s) ask su called_stands l f);
      passes = subst (λ (st : Store). Passes (store_of book order s) st) (sym told) (landing_passes who (store_of book order s) ask su stands.holds l);
      joins = commits_join who (store_of book order s) (parts who.session) ask su l c;
      links = subst (λ (st : Store). LinksBy mine t.now (store_of book order s) st) (sym told) (landing_links mine t.now who (store_of book order s) ask su l owes);
      gone = subst (λ (st : Store). GoneBy mine t.now (store_of book order s) st) (sym told) (landing_gone mine t.now who (store_of book order s) ask su l owes);
      part = part;
      homes = subst (λ (st : Store). HomesHold st.tally t.now (at who.session part parts)) (sym told) homes;
      knows = subst (λ (st : Store). K st t.now part) (sym told) knows;
      noted = noted;
    }

    -- and puts nothing
    pub other_landed : ((look new : Newest) → has_landed look new (Some ask) ≡ false) → audit_of book order ≡ audit_of su.book su.order → Outcome (footing book order s) t (actor parts who.session mine) ask note K
    other_landed none same = with_noted (not_noted (newest s) (newest t) ask note (audit_of book order) (none (newest s) (newest t)) ∙ same)

  -- a call that neither puts nor touches a message
  pub quiet : (answer : Answer) → IsCall who ask answer s t → PutsNothing ask → TouchesNoMessage ask → StandsUnder book order s → (part : Part)
      → HomesHold (store_of book order s).tally t.now (at who.session part parts) → K (store_of book order s) t.now part → Outcome (footing book order s) t (actor parts who.session mine) ask note K
  quiet answer call puts touches stands part homes knows = on (landed_or_not who ask answer s t call)
    where
      on : (t ≡ called who t.now s) ⊎ Lands who ask (called who t.now s) t → Outcome (footing book order s) t (actor parts who.session mine) ask note K
      on (inl e) = stays e stands part homes knows
      on (inr lands) =
          other_landed (store_of book order s) lands stands (lands_nothing.stays ask puts touches) tt tt tt part homes knows (quiet_unseen ask puts) refl

-- a put
pub put_landed : (who : Caller) (book : Book) (order : List Entry) (s t : CloudState) (parts : Parts) (mine : List Claim) (note : Audited → Audited) (K : Store → ℕ → Part → Type 0) (name : ObjName)
    (bytes : List ℕ) (one : Claim) (two : Option Claim) (su : Store) → Lands who (PutHeld name bytes one two) (called who t.now s) t → StandsUnder book order s
    → (l : Landing who (store_of book order s) (PutHeld name bytes one two) su) → Follows who (store_of book order s) (PutHeld name bytes one two) su l
    → Commits who (store_of book order s) (parts who.session) (PutHeld name bytes one two) su l → OwesLease (in_hand_at mine t.now) who (store_of book order s) (PutHeld name bytes one two) su l → (part : Part)
    → HomesHold su.tally t.now (at who.session part parts) → K su t.now part → note (audit_of book order) ≡ audit_of su.book su.order
    → Outcome (footing book order s) t (actor parts who.session mine) (PutHeld name bytes one two) note K
put_landed who book order s t parts mine note K name bytes one two su lands stands l f c owes part homes knows noted =
    with_noted who book order s t parts mine (PutHeld name bytes one two) note K su lands stands l f c owes part homes knows
    (is_noted (newest s) (newest t) (PutHeld name bytes one two) note (audit_of book order) seen ∙ noted)
  where
    next : IsNext s name bytes
    next = landing_spells who book order s (PutHeld name bytes one two) su stands.holds.chains stands.holds.gones stands.decodes l f

    seen : has_landed (newest s) (newest t) (Some (PutHeld name bytes one two)) ≡ true
    seen =
        ap (λ (x : CloudState). has_landed (newest s) (newest x) (Some (PutHeld name bytes one two))) lands.0
        ∙ put_lands who s t.now name bytes one two (next_differs s name bytes stands.decodes next)

-- ---- what an outcome says less of

-- the session gives up its part
pub gives_up : (who : Caller) (book : Book) (order : List Entry) (s t : CloudState) (parts : Parts) (mine : List Claim) (ask : Ask) (note : Audited → Audited) (K : Store → ℕ → Part → Type 0)
    → Outcome (footing book order s) t (actor parts who.session mine) ask note K → Outcome (footing book order s) t (actor parts who.session mine) ask note (λ st now part. part ≡ Away)
gives_up who book order s t parts mine ask note K o = record {
  book_after = o.book_after;
  order_after = o.order_after;
  cloud = o.cloud;
  passes = o.passes;
  joins = o.joins;
  links = o.links;
  gone = o.gone;
  part = Away;
  homes = subst (λ (ps : Parts). HomesHold (store_of o.book_after o.order_after t).tally t.now ps) (part_again who.session o.part Away parts)
      (away_keeps (store_of o.book_after o.order_after t).tally t.now (at who.session o.part parts) who.session o.homes);
  knows = refl;
  noted = o.noted;
}

-- less is known
pub weaker : (who : Caller) (book : Book) (order : List Entry) (s t : CloudState) (parts : Parts) (mine : List Claim) (ask : Ask) (note : Audited → Audited) (K L : Store → ℕ → Part → Type 0)
    → ((st : Store) (now : ℕ) (part : Part) → K st now part → L st now part) → Outcome (footing book order s) t (actor parts who.session mine) ask note K → Outcome (footing book order s) t (actor parts who.session mine) ask note L
weaker who book order s t parts mine ask note K L less o = record {
  book_after = o.book_after;
  order_after = o.order_after;
  cloud = o.cloud;
  passes = o.passes;
  joins = o.joins;
  links = o.links;
  gone = o.gone;
  part = o.part;
  homes = o.homes;
  knows = less (store_of o.book_after o.order_after t) t.now o.part o.knows;
  noted = o.noted;
}

-- fewer leases are in hand
pub fewer_handles : (who : Caller) (s t : CloudState) (ask : Ask) (reply : Answer) (mine after fewer : List Claim) → ((x : Claim) → IsIn fewer x → IsIn after x)
    → Handles (exchange who s t ask reply) mine after → Handles (exchange who s t ask reply) mine fewer
fewer_handles who s t ask reply mine after fewer within h = record {
  owns = h.owns;
  guarded = h.guarded;
  renewed = h.renewed;
  renews = h.renews;
  own = λ x is. h.own x (within x is);
}
