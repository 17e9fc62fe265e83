-- What each step of a session leaves of all open clients and openings.
use Rattle.std.proofs.Common.{◌≡◌, ◌≢◌, ◌+◌, ◌<◌, ◌≤◌, ◌⊎◌, inl, inr, ℕ, List, [], Some, refl, sym, ap, subst, ◌∙◌, arith, ◌∷◌, ◌++◌, length}
use Rattle.std.proofs.lemmas.Bool.{cases_eq}
use Rattle.cloud_facts.specs.Words.{IsClient, AtomicRec, Head, Posted, Claim, Lasts, Store, at, IsIn}
use Rattle.cloud_facts.specs.Homes.Homes.{Home, Opening, Part, Away, AtHome, Opens, Parts, IsLastingPart, IsAlone, HomeHolds, OpeningHolds, PartHolds, AreApart, HomesHold, IsSpared}
use Rattle.cloud_trait.specs.State.{marked}
use Rattle.cloud_facts.proofs.Lefts.MessageLemmas.{IsLast, log_cases, log_marked, logged_more, logged_marked}
use Rattle.log_codec.specs.Atomic.{atomic_of}
use Rattle.cloud_facts.specs.Book.Effects.{after_head, after_logged, after_log_mark}
use Rattle.cloud_facts.specs.Book.Messages.{IsLogMessage, WaitsLogged}
use Rattle.cloud_facts.proofs.Book.Places.{get_behind, get_single, in_front, in_behind, in_either, in_none}
use Rattle.cloud_facts.specs.Book.Premises.{Logs}
use Rattle.cloud_facts.specs.Book.Tally.{Tally}
use Rattle.cloud_facts.proofs.Book.Names.{at_same, at_other, at_by}

-- one part, one open client; one text, one record
abbrev home_in : Home → Part → Home
home_in none Away = none
home_in none (AtHome g) = g
home_in none (Opens o) = none

home_is : (k g : Home) → AtHome k ≡ AtHome g → k ≡ g
home_is k g e = ap (home_in k) e

never_both : (o : Opening) (g : Home) → Opens o ≡ AtHome g → ⊥
never_both o g e = cc

record_is : (r q : AtomicRec) → Some r ≡ Some q → r ≡ q
record_is r q e = cc

-- ---- nobody is at home

pub none_home : (t : Tally) (now : ℕ) → HomesHold t now (λ session. Away)
none_home t now = record { each = λ s. tt; apart = λ s u ne. tt }

-- ---- time goes on

opening_later : (t : Tally) (now later : ℕ) (o : Opening) → now ≤ later → OpeningHolds t now o → OpeningHolds t later o
opening_later t now later o after h = record { is_client = h.is_client; later = h.later; newest = λ lasts. h.newest (omega (arith, lasts, after)) }

home_later : (t : Tally) (now later : ℕ) (g : Home) → now ≤ later → HomeHolds t now g → HomeHolds t later g
home_later t now later g after h =
    record {
      is_client = h.is_client;
      early = h.early;
      begun = h.begun;
      own = h.own;
      newest = λ lasts. h.newest (omega (arith, lasts, after));
      needs = h.needs;
      waiting = λ lasts. h.waiting (omega (arith, lasts, after));
    }

part_later : (t : Tally) (now later : ℕ) (p : Part) → now ≤ later → PartHolds t now p → PartHolds t later p
part_later t now later Away after h = tt
part_later t now later (AtHome home) after h = home_later t now later home after h
part_later t now later (Opens o) after h = opening_later t now later o after h

apart_later : (now later : ℕ) (p q : Part) → now ≤ later → AreApart now p q → AreApart later p q
apart_later now later Away q after h = tt
apart_later now later (AtHome g) Away after h = tt
apart_later now later (AtHome g) (AtHome k) after h = h
apart_later now later (AtHome g) (Opens o) after h = λ e lasts. h e (omega (arith, lasts, after))
apart_later now later (Opens o) Away after h = tt
apart_later now later (Opens o) (AtHome g) after h = λ e lasts. h e (omega (arith, lasts, after))
apart_later now later (Opens o) (Opens k) after h = tt

pub later_keeps : (t : Tally) (now later : ℕ) (parts : Parts) → now ≤ later → HomesHold t now parts → HomesHold t later parts
later_keeps t now later parts after h = record {
  each = λ s. part_later t now later (parts s) after (h.each s);
  apart = λ s u ne. apart_later now later (parts s) (parts u) after (h.apart s u ne);
}

-- ---- one session's part changes, and what is told may

apart_turned : (now : ℕ) (p q : Part) → AreApart now p q → AreApart now q p
apart_turned now Away Away h = tt
apart_turned now Away (AtHome g) h = tt
apart_turned now Away (Opens o) h = tt
apart_turned now (AtHome g) Away h = tt
apart_turned now (AtHome g) (AtHome k) h = λ e f. h (sym e) (sym f)
apart_turned now (AtHome g) (Opens o) h = h
apart_turned now (Opens o) Away h = tt
apart_turned now (Opens o) (AtHome g) h = h
apart_turned now (Opens o) (Opens k) h = tt

-- what holds of the new part, and of each other one, holds of all
pub one_changes : (t : Tally) (now : ℕ) (parts : Parts) (session : ℕ) (new : Part) → PartHolds t now new → ((other : ℕ) → other ≢ session → PartHolds t now (parts other))
    → ((other : ℕ) → other ≢ session → AreApart now new (parts other)) → ((s u : ℕ) → s ≢ u → AreApart now (parts s) (parts u)) → HomesHold t now (at session new parts)
one_changes t now parts session new mine others from_mine between = record {
  each = λ s. each s (cases_eq s session);
  apart = λ s u ne. both s u ne (cases_eq s session) (cases_eq u session);
}
  where
    each : (s : ℕ) → (s ≡ session) ⊎ (s ≢ session) → PartHolds t now (at session new parts s)
    each s (inl e) = subst (λ p. PartHolds t now p) (sym (at_same session new parts s e)) mine
    each s (inr ne) = subst (λ p. PartHolds t now p) (sym (at_other session new parts s ne)) (others s ne)

    both : (s u : ℕ) → s ≢ u → (s ≡ session) ⊎ (s ≢ session) → (u ≡ session) ⊎ (u ≢ session) → AreApart now (at session new parts s) (at session new parts u)
    both s u ne (inl e) (inl f) = absurd (ne (e ∙ sym f))
    both s u ne (inl e) (inr f) =
        subst (λ p. AreApart now p (at session new parts u)) (sym (at_same session new parts s e)) (subst (λ q. AreApart now new q) (sym (at_other session new parts u f)) (from_mine u f))
    both s u ne (inr e) (inl f) =
        subst (λ p. AreApart now p (at session new parts u)) (sym (at_other session new parts s e))
        (subst (λ q. AreApart now (parts s) q) (sym (at_same session new parts u f)) (apart_turned now new (parts s) (from_mine s e)))
    both s u ne (inr e) (inr f) =
        subst (λ p. AreApart now p (at session new parts u)) (sym (at_other session new parts s e)) (subst (λ q. AreApart now (parts s) q) (sym (at_other session new parts u f)) (between s u ne))

-- the part of a session that changes twice
pub part_again : (session : ℕ) (first new : Part) (parts : Parts) → at session new (at session first parts) ≡ at session new parts
part_again session first new parts = λ i n. same n i
  where
    same : (n : ℕ) → at session new (at session first parts) n ≡ at session new parts n
    same n = on (cases_eq n session)
      where
        on : (n ≡ session) ⊎ (n ≢ session) → at session new (at session first parts) n ≡ at session new parts n
        on (inl e) = at_same session new (at session first parts) n e ∙ sym (at_same session new parts n e)
        on (inr ne) = at_other session new (at session first parts) n ne ∙ (at_other session first parts n ne ∙ sym (at_other session new parts n ne))

-- and of one that does not change
pub part_stays : (session : ℕ) (part : Part) (parts : Parts) → parts session ≡ part → at session part parts ≡ parts
part_stays session part parts is = λ i n. same n i
  where
    same : (n : ℕ) → at session part parts n ≡ parts n
    same n = on (cases_eq n session)
      where
        on : (n ≡ session) ⊎ (n ≢ session) → at session part parts n ≡ parts n
        on (inl e) = at_same session part parts n e ∙ (sym is ∙ ap parts (sym e))
        on (inr ne) = at_other session part parts n ne

-- a session keeps its part
pub keeps_part : (t : Tally) (now : ℕ) (parts : Parts) (session : ℕ) (part : Part) → parts session ≡ part → HomesHold t now parts → HomesHold t now (at session part parts)
keeps_part t now parts session part is h = subst (λ (ps : Parts). HomesHold t now ps) (sym (part_stays session part parts is)) h

-- a session drops its part
pub away_keeps : (t : Tally) (now : ℕ) (parts : Parts) (session : ℕ) → HomesHold t now parts → HomesHold t now (at session Away parts)
away_keeps t now parts session h = one_changes t now parts session Away tt (λ other ne. h.each other) (λ other ne. tt) h.apart

-- an opening reads the newest head under its lease, when no other session has a lasting lease of the client
pub reads_keeps : (t : Tally) (now : ℕ) (parts : Parts) (session : ℕ) (o : Opening) → IsClient o.client → t.head o.client ≡ o.read → IsAlone now parts session o.client
    → HomesHold t now parts → HomesHold t now (at session (Opens o) parts)
reads_keeps t now parts session o is_client newest alone h =
    one_changes t now parts session (Opens o) (record { is_client = is_client; later = inl newest; newest = λ lasts. newest }) (λ other ne. h.each other)
    (λ other ne. on other ne (parts other) refl) h.apart
  where
    on : (other : ℕ) → other ≢ session → (p : Part) → parts other ≡ p → AreApart now (Opens o) p
    on other ne Away e = tt
    on other ne (AtHome g) e = λ same lasts. absurd (alone other ne (subst (λ q. IsLastingPart now o.client q) (sym e) (same, lasts)))
    on other ne (Opens k) e = tt

-- a commit begins: the last transaction of the home is a later one, of which nothing was sent
pub begins_keeps : (t : Tally) (now : ℕ) (parts : Parts) (session : ℕ) (g : Home) (attempt : ℕ) → parts session ≡ AtHome g → g.attempt < attempt
    → HomesHold t now parts → HomesHold t now (at session (AtHome (record g { attempt = attempt; sent = []; needed = [] })) parts)
begins_keeps t now parts session g attempt is rises h =
    one_changes t now parts session (AtHome (record g { attempt = attempt; sent = []; needed = [] }))
    (record {
      is_client = mine.is_client;
      early = mine.early;
      begun = λ id r m e. let b = mine.begun id r m e in omega (arith, b, rises);
      own = λ id r m e f. absurd (never id r m e f);
      newest = mine.newest;
      needs = λ r is. absurd (in_none [] r refl is);
      waiting = λ lasts r is. absurd (in_none [] r refl is);
    })
    (λ other ne. h.each other) (λ other ne. on (parts other) (subst (λ p. AreApart now p (parts other)) is (h.apart session other (λ e. ne (sym e))))) h.apart
  where
    mine : HomeHolds t now g
    mine = subst (λ p. PartHolds t now p) is (h.each session)

    never : (id : ℕ) (r : AtomicRec) → IsLogMessage (t.logged g.client) id r → r.epoch ≡ g.epoch → r.txn ≡ attempt → ⊥
    never id r m e f = let b = mine.begun id r m e in omega (arith, b, rises, f)

    on : (p : Part) → AreApart now (AtHome g) p → AreApart now (AtHome (record g { attempt = attempt; sent = []; needed = [] })) p
    on Away a = tt
    on (AtHome k) a = a
    on (Opens o) a = a

-- a commit is over: it needs its messages no more
pub rests_keeps : (t : Tally) (now : ℕ) (parts : Parts) (session : ℕ) (g : Home) → parts session ≡ AtHome g → HomesHold t now parts
    → HomesHold t now (at session (AtHome (record g { needed = [] })) parts)
rests_keeps t now parts session g is h =
    one_changes t now parts session (AtHome (record g { needed = [] }))
    (record {
      is_client = mine.is_client;
      early = mine.early;
      begun = mine.begun;
      own = mine.own;
      newest = mine.newest;
      needs = λ r is. absurd (in_none [] r refl is);
      waiting = λ lasts r is. absurd (in_none [] r refl is);
    })
    (λ other ne. h.each other) (λ other ne. on (parts other) (subst (λ p. AreApart now p (parts other)) is (h.apart session other (λ e. ne (sym e))))) h.apart
  where
    mine : HomeHolds t now g
    mine = subst (λ p. PartHolds t now p) is (h.each session)

    on : (p : Part) → AreApart now (AtHome g) p → AreApart now (AtHome (record g { needed = [] })) p
    on Away a = tt
    on (AtHome k) a = a
    on (Opens o) a = a

-- a home's lease is renewed while it lasts
pub renews_keeps : (t : Tally) (now : ℕ) (parts : Parts) (session : ℕ) (g : Home) (lease : Claim) → parts session ≡ AtHome g → (Lasts now lease → Lasts now g.lease)
    → HomesHold t now parts → HomesHold t now (at session (AtHome (record g { lease = lease })) parts)
renews_keeps t now parts session g lease is lasted h =
    one_changes t now parts session (AtHome (record g { lease = lease }))
    (record {
      is_client = mine.is_client;
      early = mine.early;
      begun = mine.begun;
      own = mine.own;
      newest = λ lasts. mine.newest (lasted lasts);
      needs = mine.needs;
      waiting = λ lasts. mine.waiting (lasted lasts);
    })
    (λ other ne. h.each other) (λ other ne. on (parts other) (subst (λ p. AreApart now p (parts other)) is (h.apart session other (λ e. ne (sym e))))) h.apart
  where
    mine : HomeHolds t now g
    mine = subst (λ p. PartHolds t now p) is (h.each session)

    on : (p : Part) → AreApart now (AtHome g) p → AreApart now (AtHome (record g { lease = lease })) p
    on Away a = tt
    on (AtHome k) a = a
    on (Opens o) a = λ e lasts. a e (lasted lasts)

-- ---- a head lands

-- an open client of another session, behind a later head of its client or not
home_behind : (st : Store) (now client : ℕ) (head : Head) (more : List AtomicRec) (g : Home) → ((st.tally.head client).epoch ≤ head.epoch)
    → (g.client ≡ client → Lasts now g.lease → head.epoch ≡ g.epoch) → HomeHolds st.tally now g → HomeHolds (after_head client head more st).tally now g
home_behind st now client head more g rises newest h = record {
  is_client = h.is_client;
  early = at_by (λ c q. g.client ≡ c → g.epoch ≤ q.epoch) client head st.tally.head
      (λ e. let early : g.epoch ≤ (st.tally.head client).epoch = subst (λ c. g.epoch ≤ (st.tally.head c).epoch) e h.early in omega (arith, early, rises))
      (λ c e. subst (λ k. g.epoch ≤ (st.tally.head k).epoch) e h.early) g.client refl;
  begun = h.begun;
  own = h.own;
  newest = λ lasts. at_by (λ c q. g.client ≡ c → q.epoch ≡ g.epoch) client head st.tally.head (λ e. newest e lasts)
      (λ c e. subst (λ k. (st.tally.head k).epoch ≡ g.epoch) e (h.newest lasts)) g.client refl;
  needs = h.needs;
  waiting = h.waiting;
}

-- an opening of another session, where nobody else's lease of the landing client lasts, and what landed is later than what it read
opening_behind : (st : Store) (now client : ℕ) (head : Head) (more : List AtomicRec) (o : Opening) → (o.client ≡ client → Lasts now o.lease → ⊥) → (o.client ≡ client → o.read.epoch < head.epoch)
    → OpeningHolds st.tally now o → OpeningHolds (after_head client head more st).tally now o
opening_behind st now client head more o over later h = record {
  is_client = h.is_client;
  later = at_by (λ c q. o.client ≡ c → (q ≡ o.read) ⊎ (o.read.epoch < q.epoch)) client head st.tally.head (λ e. inr (later e))
      (λ c e. subst (λ k. (st.tally.head k ≡ o.read) ⊎ (o.read.epoch < (st.tally.head k).epoch)) e h.later) o.client refl;
  newest = λ lasts. at_by (λ c q. o.client ≡ c → q ≡ o.read) client head st.tally.head (λ e. absurd (over e lasts))
      (λ c e. subst (λ k. st.tally.head k ≡ o.read) e (h.newest lasts)) o.client refl;
}

-- the other sessions' parts behind a head that the session's landing put
others_behind : (st : Store) (now : ℕ) (parts : Parts) (session client : ℕ) (head : Head) (more : List AtomicRec) → IsAlone now parts session client
    → (st.tally.head client).epoch ≤ head.epoch → ((other : ℕ) (o : Opening) → other ≢ session → parts other ≡ Opens o → o.client ≡ client → o.read.epoch < head.epoch)
    → HomesHold st.tally now parts → (other : ℕ) → other ≢ session → PartHolds (after_head client head more st).tally now (parts other)
others_behind st now parts session client head more alone rises later h other ne = on (parts other) refl (h.each other)
  where
    on : (p : Part) → parts other ≡ p → PartHolds st.tally now p → PartHolds (after_head client head more st).tally now p
    on Away e k = tt
    on (AtHome g) e k =
        home_behind st now client head more g rises (λ same lasts. absurd (alone other ne (subst (λ q. IsLastingPart now client q) (sym e) (same, lasts)))) k
    on (Opens o) e k =
        opening_behind st now client head more o (λ same lasts. alone other ne (subst (λ q. IsLastingPart now client q) (sym e) (same, lasts))) (later other o ne e) k

-- an opening puts the head of the next epoch: it becomes an open client
pub opened_keeps : (st : Store) (now : ℕ) (parts : Parts) (session : ℕ) (o : Opening) (head : Head) → parts session ≡ Opens o → Lasts now o.lease → head.epoch ≡ o.read.epoch + 1
    → IsAlone now parts session o.client → ((id : ℕ) (r : AtomicRec) → IsLogMessage (st.tally.logged o.client) id r → r.epoch ≤ (st.tally.head o.client).epoch) → HomesHold st.tally now parts
    → HomesHold (after_head o.client head [] st).tally now (at session (AtHome (record { client = o.client; epoch = head.epoch; attempt = 0; lease = o.lease; sent = []; needed = [] })) parts)
opened_keeps st now parts session o head is lasts next alone early h =
    one_changes (after_head o.client head [] st).tally now parts session (AtHome new)
    (record {
      is_client = mine.is_client;
      early = omega (arith, here);
      begun = begun;
      own = λ id r m e f. absurd (none id r m e);
      newest = λ l. here;
      needs = λ r is. absurd (in_none [] r refl is);
      waiting = λ l r is. absurd (in_none [] r refl is);
    })
    (others_behind st now parts session o.client head [] alone (omega (arith, newest_epoch, next)) later h) (λ other ne. on other ne (parts other) refl) h.apart
  where
    new : Home
    new = record { client = o.client; epoch = head.epoch; attempt = 0; lease = o.lease; sent = []; needed = [] }

    mine : OpeningHolds st.tally now o
    mine = subst (λ p. PartHolds st.tally now p) is (h.each session)

    newest : st.tally.head o.client ≡ o.read
    newest = mine.newest lasts

    newest_epoch : (st.tally.head o.client).epoch ≡ o.read.epoch
    newest_epoch = ap (λ (q : Head). q.epoch) newest

    here : ((after_head o.client head [] st).tally.head o.client).epoch ≡ head.epoch
    here = ap (λ (q : Head). q.epoch) (at_same o.client head st.tally.head o.client refl)

    none : (id : ℕ) (r : AtomicRec) → IsLogMessage (st.tally.logged o.client) id r → r.epoch ≡ head.epoch → ⊥
    none id r m e = let low = early id r m in omega (arith, low, e, next, newest_epoch)

    begun : (id : ℕ) (r : AtomicRec) → IsLogMessage (st.tally.logged o.client) id r → r.epoch ≡ head.epoch → r.txn ≤ 0
    begun id r m e = absurd (none id r m e)

    -- what another opening read is at most what this one read
    later : (other : ℕ) (k : Opening) → other ≢ session → parts other ≡ Opens k → k.client ≡ o.client → k.read.epoch < head.epoch
    later other k ne e same = turn (subst (λ c. (st.tally.head c ≡ k.read) ⊎ (k.read.epoch < (st.tally.head c).epoch)) same (subst (λ p. PartHolds st.tally now p) e (h.each other)).later)
      where
        turn : (st.tally.head o.client ≡ k.read) ⊎ (k.read.epoch < (st.tally.head o.client).epoch) → k.read.epoch < head.epoch
        turn (inl f) = let g : (st.tally.head o.client).epoch ≡ k.read.epoch = ap (λ (q : Head). q.epoch) f in omega (arith, g, next, newest_epoch)
        turn (inr f) = omega (arith, f, next, newest_epoch)

    on : (other : ℕ) → other ≢ session → (p : Part) → parts other ≡ p → AreApart now (AtHome new) p
    on other ne Away e = tt
    on other ne (AtHome g) e = λ same epochs. never same epochs
      where
        never : o.client ≡ g.client → head.epoch ≡ g.epoch → ⊥
        never same epochs =
            let early_g : g.epoch ≤ (st.tally.head g.client).epoch = (subst (λ p. PartHolds st.tally now p) e (h.each other)).early in
            let at_client : g.epoch ≤ (st.tally.head o.client).epoch = subst (λ c. g.epoch ≤ (st.tally.head c).epoch) (sym same) early_g in
            omega (arith, at_client, epochs, next, newest_epoch)
    on other ne (Opens k) e = λ same l. later other k ne e (sym same)

-- an open client's commit puts a head of its epoch
pub commits_keeps : (st : Store) (now : ℕ) (parts : Parts) (session : ℕ) (g : Home) (head : Head) (more : List AtomicRec) → parts session ≡ AtHome g → Lasts now g.lease
    → head.epoch ≡ g.epoch → (st.tally.head g.client).epoch ≡ g.epoch → IsAlone now parts session g.client → HomesHold st.tally now parts
    → HomesHold (after_head g.client head more st).tally now parts
commits_keeps st now parts session g head more is lasts epoch newest alone h = record {
  each = λ s. on s (cases_eq s session);
  apart = h.apart;
}
  where
    mine : HomeHolds st.tally now g
    mine = subst (λ p. PartHolds st.tally now p) is (h.each session)

    -- an opening of the client read an earlier epoch
    later : (other : ℕ) (k : Opening) → other ≢ session → parts other ≡ Opens k → k.client ≡ g.client → k.read.epoch < head.epoch
    later other k ne e same =
        let apart : AreApart now (AtHome g) (Opens k) = subst (λ q. AreApart now (AtHome g) q) e (subst (λ p. AreApart now p (parts other)) is (h.apart session other (λ f. ne (sym f)))) in
        let below : k.read.epoch < g.epoch = apart (sym same) lasts in
        omega (arith, below, epoch)

    on : (s : ℕ) → (s ≡ session) ⊎ (s ≢ session) → PartHolds (after_head g.client head more st).tally now (parts s)
    on s (inl e) =
        subst (λ p. PartHolds (after_head g.client head more st).tally now p) (sym (ap parts e ∙ is)) (home_behind st now g.client head more g (omega (arith, newest, epoch)) (λ same l. epoch) mine)
    on s (inr ne) = others_behind st now parts session g.client head more alone (omega (arith, newest, epoch)) later h s ne

-- ---- messages

-- what is said of the messages of a client, by the messages
abbrev Begun : List Posted → Home → Type 0
Begun ps k = (id : ℕ) (q : AtomicRec) → IsLogMessage ps id q → q.epoch ≡ k.epoch → q.txn ≤ k.attempt

abbrev Own : List Posted → Home → Type 0
Own ps k = (id : ℕ) (q : AtomicRec) → IsLogMessage ps id q → q.epoch ≡ k.epoch → q.txn ≡ k.attempt → IsIn k.sent q

abbrev Waiting : ℕ → List Posted → Home → Type 0
Waiting now ps k = Lasts now k.lease → (q : AtomicRec) → IsIn k.needed q → WaitsLogged ps q

-- the new message is a record of another epoch
beside_begun : (ps : List Posted) (post : Posted) (r : AtomicRec) (k : Home) → atomic_of post.bytes ≡ Some r → (r.epoch ≡ k.epoch → ⊥) → Begun ps k → Begun (ps ++ post ∷ []) k
beside_begun ps post r k reads other old id q m e = on (log_cases ps post id q m)
  where
    on : IsLogMessage ps id q ⊎ IsLast ps post id q → q.txn ≤ k.attempt
    on (inl n) = old id q n e
    on (inr l) = absurd (other (ap (λ (x : AtomicRec). x.epoch) (record_is r q (sym reads ∙ l.reads)) ∙ e))

beside_own : (ps : List Posted) (post : Posted) (r : AtomicRec) (k : Home) → atomic_of post.bytes ≡ Some r → (r.epoch ≡ k.epoch → ⊥) → Own ps k → Own (ps ++ post ∷ []) k
beside_own ps post r k reads other old id q m e f = on (log_cases ps post id q m)
  where
    on : IsLogMessage ps id q ⊎ IsLast ps post id q → IsIn k.sent q
    on (inl n) = old id q n e f
    on (inr l) = absurd (other (ap (λ (x : AtomicRec). x.epoch) (record_is r q (sym reads ∙ l.reads)) ∙ e))

-- another session's home, behind a record that a home of another epoch of its client sent
home_beside : (st : Store) (now client : ℕ) (post : Posted) (r : AtomicRec) (k : Home) → atomic_of post.bytes ≡ Some r → (k.client ≡ client → r.epoch ≡ k.epoch → ⊥) → HomeHolds st.tally now k
    → HomeHolds (after_logged client post st).tally now k
home_beside st now client post r k reads other h = record {
  is_client = h.is_client;
  early = h.early;
  begun = at_by (λ c ps. k.client ≡ c → Begun ps k) client _ st.tally.logged
      (λ e. beside_begun (st.tally.logged client) post r k reads (other e) (subst (λ n. Begun (st.tally.logged n) k) e h.begun)) (λ c e. subst (λ n. Begun (st.tally.logged n) k) e h.begun) k.client refl;
  own = at_by (λ c ps. k.client ≡ c → Own ps k) client _ st.tally.logged
      (λ e. beside_own (st.tally.logged client) post r k reads (other e) (subst (λ n. Own (st.tally.logged n) k) e h.own)) (λ c e. subst (λ n. Own (st.tally.logged n) k) e h.own) k.client refl;
  newest = h.newest;
  needs = h.needs;
  waiting = at_by (λ c ps. k.client ≡ c → Waiting now ps k) client _ st.tally.logged
      (λ e lasts q is. logged_more (st.tally.logged client) (post ∷ []) q (subst (λ n. Waiting now (st.tally.logged n) k) e h.waiting lasts q is))
      (λ c e. subst (λ n. Waiting now (st.tally.logged n) k) e h.waiting) k.client refl;
}

-- the home with one more record of its last transaction sent
abbrev pub with_sent : Home → AtomicRec → Home
with_sent g r = record g { sent = g.sent ++ r ∷ []; needed = g.needed ++ r ∷ [] }

-- an open client's commit sends a record of its epoch and last transaction
pub logged_keeps : (st : Store) (now : ℕ) (parts : Parts) (session : ℕ) (g : Home) (post : Posted) (r : AtomicRec) → parts session ≡ AtHome g → Logs st g.client post r
    → r.epoch ≡ g.epoch → r.txn ≡ g.attempt → HomesHold st.tally now parts
    → HomesHold (after_logged g.client post st).tally now (at session (AtHome (with_sent g r)) parts)
logged_keeps st now parts session g post r is logs epoch txn h =
    one_changes (after_logged g.client post st).tally now parts session (AtHome (with_sent g r))
    (record {
      is_client = mine.is_client;
      early = mine.early;
      begun = subst (λ ps. Begun ps (with_sent g r)) (sym same) begun;
      own = subst (λ ps. Own ps (with_sent g r)) (sym same) own;
      newest = mine.newest;
      needs = λ q is. needs q (in_either g.needed (r ∷ []) q is);
      waiting = subst (λ ps. Waiting now ps (with_sent g r)) (sym same) waiting;
    })
    (λ other ne. others other ne (parts other) refl (h.each other))
    (λ other ne. apart (parts other) (subst (λ p. AreApart now p (parts other)) is (h.apart session other (λ e. ne (sym e))))) h.apart
  where
    mine : HomeHolds st.tally now g
    mine = subst (λ p. PartHolds st.tally now p) is (h.each session)

    same : (after_logged g.client post st).tally.logged g.client ≡ st.tally.logged g.client ++ post ∷ []
    same = at_same g.client (st.tally.logged g.client ++ post ∷ []) st.tally.logged g.client refl

    one : (id : ℕ) (q : AtomicRec) → IsLast (st.tally.logged g.client) post id q → r ≡ q
    one id q l = record_is r q (sym logs.reads ∙ l.reads)

    needs : (q : AtomicRec) → IsIn g.needed q ⊎ IsIn (r ∷ []) q → q.epoch ≡ g.epoch
    needs q (inl old) = mine.needs q old
    needs q (inr last) = subst (λ (x : AtomicRec). x.epoch ≡ g.epoch) (get_single r last.0 q last.1) epoch

    begun : Begun (st.tally.logged g.client ++ post ∷ []) (with_sent g r)
    begun id q m e = on (log_cases (st.tally.logged g.client) post id q m)
      where
        on : IsLogMessage (st.tally.logged g.client) id q ⊎ IsLast (st.tally.logged g.client) post id q → q.txn ≤ g.attempt
        on (inl n) = mine.begun id q n e
        on (inr l) = subst (λ (x : AtomicRec). x.txn ≤ g.attempt) (one id q l) (omega (arith, txn))

    own : Own (st.tally.logged g.client ++ post ∷ []) (with_sent g r)
    own id q m e f = on (log_cases (st.tally.logged g.client) post id q m)
      where
        on : IsLogMessage (st.tally.logged g.client) id q ⊎ IsLast (st.tally.logged g.client) post id q → IsIn (g.sent ++ r ∷ []) q
        on (inl n) = in_front g.sent (r ∷ []) q (mine.own id q n e f)
        on (inr l) = subst (λ (x : AtomicRec). IsIn (g.sent ++ r ∷ []) x) (one id q l) (in_behind g.sent (r ∷ []) r (0, refl))

    waiting : Waiting now (st.tally.logged g.client ++ post ∷ []) (with_sent g r)
    waiting lasts q in_needed = on (in_either g.needed (r ∷ []) q in_needed)
      where
        new : WaitsLogged (st.tally.logged g.client ++ post ∷ []) r
        new = record {
          place = length (st.tally.logged g.client) + 0;
          message = post;
          there = get_behind (st.tally.logged g.client) (post ∷ []) 0 post refl;
          reads = logs.reads;
          unmarked = logs.unmarked;
        }

        on : IsIn g.needed q ⊎ IsIn (r ∷ []) q → WaitsLogged (st.tally.logged g.client ++ post ∷ []) q
        on (inl old) = logged_more (st.tally.logged g.client) (post ∷ []) q (mine.waiting lasts q old)
        on (inr last) = subst (λ (x : AtomicRec). WaitsLogged (st.tally.logged g.client ++ post ∷ []) x) (get_single r last.0 q last.1) new

    others : (other : ℕ) → other ≢ session → (p : Part) → parts other ≡ p → PartHolds st.tally now p → PartHolds (after_logged g.client post st).tally now p
    others other ne Away e old = tt
    others other ne (AtHome k) e old = home_beside st now g.client post r k logs.reads differs old
      where
        differs : k.client ≡ g.client → r.epoch ≡ k.epoch → ⊥
        differs same_client f =
            let apart_k : AreApart now (AtHome k) (AtHome g) = subst (λ q. AreApart now (AtHome k) q) is (subst (λ p. AreApart now p (parts session)) e (h.apart other session ne)) in
            apart_k same_client (sym f ∙ epoch)
    others other ne (Opens o) e old = record { is_client = old.is_client; later = old.later; newest = old.newest }

    apart : (p : Part) → AreApart now (AtHome g) p → AreApart now (AtHome (with_sent g r)) p
    apart Away a = tt
    apart (AtHome k) a = a
    apart (Opens o) a = a

-- a message is marked that no commit needs
pub marked_keeps : (st : Store) (now : ℕ) (parts : Parts) (client id : ℕ) → IsSpared st.tally now parts client id → HomesHold st.tally now parts
    → HomesHold (after_log_mark client id st).tally now parts
marked_keeps st now parts client id spared h = record { each = λ s. on s (parts s) refl (h.each s); apart = h.apart }
  where
    holds : (s : ℕ) (k : Home) → parts s ≡ AtHome k → HomeHolds st.tally now k → HomeHolds (after_log_mark client id st).tally now k
    holds s k e old = record {
      is_client = old.is_client;
      early = old.early;
      begun = at_by (λ c ps. k.client ≡ c → Begun ps k) client _ st.tally.logged
          (λ same i q m. subst (λ n. Begun (st.tally.logged n) k) same old.begun i q (log_marked (st.tally.logged client) id i q m))
          (λ c same. subst (λ n. Begun (st.tally.logged n) k) same old.begun) k.client refl;
      own = at_by (λ c ps. k.client ≡ c → Own ps k) client _ st.tally.logged
          (λ same i q m. subst (λ n. Own (st.tally.logged n) k) same old.own i q (log_marked (st.tally.logged client) id i q m))
          (λ c same. subst (λ n. Own (st.tally.logged n) k) same old.own) k.client refl;
      newest = old.newest;
      needs = old.needs;
      waiting = at_by (λ c ps. k.client ≡ c → Waiting now ps k) client _ st.tally.logged (λ same lasts q is. still same lasts q is)
          (λ c same. subst (λ n. Waiting now (st.tally.logged n) k) same old.waiting) k.client refl;
    }
      where
        still : k.client ≡ client → Lasts now k.lease → (q : AtomicRec) → IsIn k.needed q → WaitsLogged (marked (st.tally.logged client) id) q
        still same lasts q is = turn (logged_marked (st.tally.logged client) id q (subst (λ n. Waiting now (st.tally.logged n) k) same old.waiting lasts q is))
          where
            turn : IsLogMessage (st.tally.logged client) id q ⊎ WaitsLogged (marked (st.tally.logged client) id) q → WaitsLogged (marked (st.tally.logged client) id) q
            turn (inl m) = absurd (spared s k q e same lasts is m)
            turn (inr w) = w

    on : (s : ℕ) (p : Part) → parts s ≡ p → PartHolds st.tally now p → PartHolds (after_log_mark client id st).tally now p
    on s Away e old = tt
    on s (AtHome k) e old = holds s k e old
    on s (Opens o) e old = record { is_client = old.is_client; later = old.later; newest = old.newest }

-- ---- which messages are spared

-- what a home needs and a message of it have one epoch
needed_epoch : (t : Tally) (now : ℕ) (parts : Parts) (session : ℕ) (h : Home) (r : AtomicRec) → parts session ≡ AtHome h → IsIn h.needed r → HomesHold t now parts → r.epoch ≡ h.epoch
needed_epoch t now parts session h r is needed holds = (subst (λ p. PartHolds t now p) is (holds.each session)).needs r needed

-- an opening marks what is of no later epoch than it read
pub spared_read : (t : Tally) (now : ℕ) (parts : Parts) (session : ℕ) (o : Opening) (id : ℕ) → parts session ≡ Opens o → ((r : AtomicRec) → IsLogMessage (t.logged o.client) id r → r.epoch ≤ o.read.epoch)
    → HomesHold t now parts → IsSpared t now parts o.client id
spared_read t now parts session o id is low holds other h r at_home same lasts needed m = omega (arith, apart same lasts, low r m, needed_epoch t now parts other h r at_home needed holds)
  where
    differs : session ≢ other
    differs e = absurd (never_both o h (sym is ∙ (ap parts e ∙ at_home)))

    apart : h.client ≡ o.client → Lasts now h.lease → o.read.epoch < h.epoch
    apart = subst (λ q. AreApart now (Opens o) q) at_home (subst (λ p. AreApart now p (parts other)) is (holds.apart session other differs))

-- a commit that needs nothing more marks what is of an earlier epoch
pub spared_early : (t : Tally) (now : ℕ) (parts : Parts) (session : ℕ) (g : Home) (id : ℕ) → parts session ≡ AtHome g → ((r : AtomicRec) → IsLogMessage (t.logged g.client) id r → r.epoch < g.epoch)
    → HomesHold t now parts → IsSpared t now parts g.client id
spared_early t now parts session g id is low holds other h r at_home same lasts needed m =
    omega (arith, newest, early, low r m, needed_epoch t now parts other h r at_home needed holds)
  where
    newest : (t.head g.client).epoch ≡ h.epoch
    newest = subst (λ c. (t.head c).epoch ≡ h.epoch) same ((subst (λ p. PartHolds t now p) at_home (holds.each other)).newest lasts)

    early : g.epoch ≤ (t.head g.client).epoch
    early = (subst (λ p. PartHolds t now p) is (holds.each session)).early

-- and what is of its own epoch
pub spared_own : (t : Tally) (now : ℕ) (parts : Parts) (session : ℕ) (g : Home) (id : ℕ) → parts session ≡ AtHome g → g.needed ≡ [] → ((r : AtomicRec) → IsLogMessage (t.logged g.client) id r → r.epoch ≡ g.epoch)
    → HomesHold t now parts → IsSpared t now parts g.client id
spared_own t now parts session g id is none own holds other h r at_home same lasts needed m = on (cases_eq other session)
  where
    on : (other ≡ session) ⊎ (other ≢ session) → ⊥
    on (inl e) = in_none h.needed r (ap (λ (k : Home). k.needed) (home_is h g (sym at_home ∙ (ap parts e ∙ is))) ∙ none) needed
    on (inr ne) = apart same (sym (needed_epoch t now parts other h r at_home needed holds) ∙ own r m)
      where
        apart : h.client ≡ g.client → h.epoch ≢ g.epoch
        apart = subst (λ q. AreApart now (AtHome h) q) is (subst (λ p. AreApart now p (parts session)) at_home (holds.apart other session ne))

-- ---- neither heads nor messages of ATOMIC queues change

opening_aside : (t u : Tally) (now : ℕ) (o : Opening) → u.head ≡ t.head → OpeningHolds t now o → OpeningHolds u now o
opening_aside t u now o heads k = record {
  is_client = k.is_client;
  later = subst (λ (h : ℕ → Head). (h o.client ≡ o.read) ⊎ (o.read.epoch < (h o.client).epoch)) (sym heads) k.later;
  newest = λ lasts. subst (λ (h : ℕ → Head). h o.client ≡ o.read) (sym heads) (k.newest lasts);
}

home_aside : (t u : Tally) (now : ℕ) (g : Home) → u.head ≡ t.head → u.logged ≡ t.logged → HomeHolds t now g → HomeHolds u now g
home_aside t u now g heads logs k = record {
  is_client = k.is_client;
  early = subst (λ (h : ℕ → Head). g.epoch ≤ (h g.client).epoch) (sym heads) k.early;
  begun = subst (λ (l : ℕ → List Posted). Begun (l g.client) g) (sym logs) k.begun;
  own = subst (λ (l : ℕ → List Posted). Own (l g.client) g) (sym logs) k.own;
  newest = λ lasts. subst (λ (h : ℕ → Head). (h g.client).epoch ≡ g.epoch) (sym heads) (k.newest lasts);
  needs = k.needs;
  waiting = subst (λ (l : ℕ → List Posted). Waiting now (l g.client) g) (sym logs) k.waiting;
}

pub aside_keeps : (t u : Tally) (now : ℕ) (parts : Parts) → u.head ≡ t.head → u.logged ≡ t.logged → HomesHold t now parts → HomesHold u now parts
aside_keeps t u now parts heads logs h = record { each = λ s. on (parts s) (h.each s); apart = h.apart }
  where
    on : (p : Part) → PartHolds t now p → PartHolds u now p
    on Away k = tt
    on (AtHome g) k = home_aside t u now g heads logs k
    on (Opens o) k = opening_aside t u now o heads k
