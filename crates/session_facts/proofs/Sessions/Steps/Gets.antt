-- A get of a session beside its open client: it changes nothing, and the client stays open unless memory ran out.
use Rattle.std.proofs.Common.{◌≡◌, ◌≤◌, List, [], ◌∷◌, inl, refl, sym, subst}
use Rattle.client_work.specs.declared.work.Work.{Work}
use Rattle.client_work.specs.declared.work.Work.TheVariants.{Broken}
use Rattle.cloud_facts.specs.Calls.Acting.{footing, exchange, actor, Setting, Outcome, Handles}
use Rattle.cloud_facts.specs.Words.{ObjName, Entry, Answer as Reply, CloudState, Caller, Get, Book, Store, at, store_of, IsCall}
use Rattle.cloud_facts.proofs.Calls.Outcomes.{quiet, gives_up, weaker}
use Rattle.cloud_facts.specs.Homes.Homes.{Away, Parts, HomesHold}
use Rattle.page_cache.specs.Cache.{Cache}
use Rattle.recover_run.specs.declared.home.Home.{Home}
use Rattle.session_facts.specs.Sessions.Knows.{IsHome}
use Rattle.session_facts.proofs.Sessions.Kept.{KnowsBoth}
use Rattle.session_facts.proofs.Sessions.Steps.Leases.{part_again}

module _ (who : Caller) (book : Book) (order : List Entry) (s t : CloudState) (parts : Parts) (home : Home) (name : ObjName)
    (setting : s.now ≤ t.now → Setting (footing book order s) t.now (actor parts who.session (home.lease ∷ []))) (knows : s.now ≤ t.now → IsHome (store_of book order s) t.now home (parts who.session))
    (reply : Reply) (call : IsCall who (Get name) reply s t) where
  abbrev st : Store
  st = store_of book order s

  -- the lease stays in hand
  pub get_handles : Handles (exchange who s t (Get name) reply) (home.lease ∷ []) (home.lease ∷ [])
  get_handles = record { owns = tt; guarded = tt; renewed = home.lease; renews = tt; own = λ x is. inl (is, tt) }

  homes : HomesHold st.tally t.now (at who.session (parts who.session) parts)
  homes = subst (HomesHold st.tally t.now) (sym (part_again parts who.session (parts who.session) refl)) (setting call.later).homes

  -- what is known as before is known of the same store
  pub get_out : (d : Cache) (work : Work) → KnowsBoth d work st t.now (parts who.session) → Outcome (footing book order s) t (actor parts who.session (home.lease ∷ [])) (Get name) (λ a. a) (KnowsBoth d work)
  get_out d work k =
      quiet who book order s t parts (home.lease ∷ []) (Get name) (λ a. a) (KnowsBoth d work) reply call tt tt (setting call.later).cloud (parts who.session) homes k

  -- memory ran out, and the part is given up
  pub broken_out : (d : Cache) → Outcome (footing book order s) t (actor parts who.session (home.lease ∷ [])) (Get name) (λ a. a) (KnowsBoth d (Broken home.lease))
  broken_out d =
      weaker who book order s t parts (home.lease ∷ []) (Get name) (λ a. a) (λ su now part. part ≡ Away) (KnowsBoth d (Broken home.lease)) (λ su now part away. (away, tt))
      (gives_up who book order s t parts (home.lease ∷ []) (Get name) (λ a. a) (λ su now part. IsHome su now home part)
      (quiet who book order s t parts (home.lease ∷ []) (Get name) (λ a. a) (λ su now part. IsHome su now home part) reply call tt tt (setting call.later).cloud (parts who.session) homes
      (knows call.later)))
