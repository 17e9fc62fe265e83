-- Calls that change no object and no message; and what holds of a store, said of what a cloud tells.
use Rattle.std.proofs.Common.{◌≡◌, List, sym, subst}
use Rattle.cloud_facts.specs.Words.{Entry, CloudState, Caller, Ask, Book, Store, store_of}
use Rattle.cloud_trait.specs.Ask.{effect, PutsNothing, TouchesNoMessage}
use Rattle.cloud_trait.proofs.EffectLemmas.{effect_versions, effect_messages}
use Rattle.cloud_facts.specs.Tellings.Told.{Tells}
use Rattle.cloud_facts.proofs.Tellings.Easy.{same_told}

-- a call that puts nothing and touches no message leaves what is told
pub quiet_tells : (who : Caller) (ask : Ask) (book : Book) (order : List Entry) (s : CloudState) → PutsNothing ask → TouchesNoMessage ask
    → Tells (effect who ask s) (store_of book order s)
quiet_tells who ask book order s puts touches = same_told book s (effect who ask s) (effect_versions who ask s puts) (effect_messages who ask s touches)

-- what a cloud tells under a store's book is the store
pub told_store : (s : CloudState) (st : Store) → Tells s st → store_of st.book st.order s ≡ st
told_store s st told = λ i. record { tally = told i; book = st.book; order = st.order }

-- so what holds of the store holds of it
pub told_by : (P : Store → Type 0) (s : CloudState) (st : Store) → Tells s st → P st → P (store_of st.book st.order s)
told_by P s st told holds = subst P (sym (told_store s st told)) holds
