-- Changes that may be committed.
use Rattle.std.proofs.Common.{◌≡◌, ◌+◌, ◌≤◌, ℕ, lit<, Bool, true, false, cond, List, [], ◌∷◌, length, zero, suc, Some, is_some, refl, subst, arith}
use Rattle.db_base.specs.Change.{key_of, net, plus, IsChange}
use Rattle.db_base.specs.Key.{IsPayload}
use Rattle.db_base.specs.Value.{plain}
use Rattle.std.proofs.Math.Nat.{mod-lt}
use Rattle.db_base.proofs.ChangeLaws.{act-payload}
use Rattle.db_base.specs.Entry.{entry_bytes, index_insert}
use Rattle.db_base.specs.Ids.{IsTree, index_of}
use Rattle.db_base.specs.declared.change.Change.{Change}
use Rattle.db_base.specs.declared.change.Change.TheVariants.{Insert, Update, Delete, Add}
use Rattle.cloud_facts.specs.Book.Records.{IsIn}
use Rattle.cloud_facts.proofs.Book.Places.{in_none}
use Rattle.txn_buffer.specs.Noted.{Noted, is_of, found_in, noted_in, put_in}
use Rattle.txn_buffer.proofs.NotedLemmas.{AreDistinct-noted, length-noted}
use Rattle.session_facts.specs.Machines.Commits.Knows.{MayCommit}

pub may_none : MayCommit []
may_none = record { noted = record { most = omega arith; distinct = tt }; each = λ n is. absurd (in_none [] n refl is) }

sized : (payload : List ℕ) (more : ℕ) → IsPayload payload → IsPayload (plus payload more)
sized payload more h = act-payload (Some (plain payload)) (Add [] more) h (omega arith)

net_is : (a b : Change) → IsChange a → IsChange b → IsChange (net a b)
net_is a (Insert key payload attr) p q = q
net_is (Insert key old attr) (Update other payload) p q = record { key = p.key; payload = q.payload; attr = p.attr; amount = p.amount }
net_is (Update key old) (Update other payload) p q = record { key = p.key; payload = q.payload; attr = p.attr; amount = p.amount }
net_is (Delete key) (Update other payload) p q = p
net_is (Add key amount) (Update other payload) p q = q
net_is (Insert key old attr) (Delete other) p q = q
net_is (Update key old) (Delete other) p q = q
net_is (Delete key) (Delete other) p q = q
net_is (Add key amount) (Delete other) p q = q
net_is (Insert key payload attr) (Add other more) p q = record { key = p.key; payload = sized payload more p.payload; attr = p.attr; amount = p.amount }
net_is (Update key payload) (Add other more) p q = record { key = p.key; payload = sized payload more p.payload; attr = p.attr; amount = p.amount }
net_is (Delete key) (Add other more) p q = p
net_is (Add key amount) (Add other more) p q = record { key = p.key; payload = p.payload; attr = p.attr; amount = mod-lt (amount + more) (lit< tt) }

-- a change that is noted is of a tree, and is a change
each_noted : (buffer : List Noted) (tree : ℕ) (change : Change) → IsTree tree → IsChange change → ((n : Noted) → IsIn buffer n → IsTree n.tree × IsChange n.change)
    → (n : Noted) → IsIn (noted_in buffer tree change) n → IsTree n.tree × IsChange n.change
each_noted [] tree change t c all n (zero, there) = let e : record { tree = tree; change = change } ≡ n = cc in subst (λ (m : Noted). IsTree m.tree × IsChange m.change) e (t, c)
each_noted [] tree change t c all n (suc place, there) = absurd (cc)
each_noted (entry ∷ rest) tree change t c all n is =
    on (is_of tree (key_of change) entry) (each_noted rest tree change t c (λ m in_rest. all m (suc in_rest.0, in_rest.1)) n) is
  where
    first : IsTree entry.tree × IsChange entry.change
    first = all entry (zero, refl)

    on : (b : Bool) → (IsIn (noted_in rest tree change) n → IsTree n.tree × IsChange n.change)
        → IsIn (cond b (record { tree = entry.tree; change = net entry.change change } ∷ rest) (entry ∷ noted_in rest tree change)) n → IsTree n.tree × IsChange n.change
    on true again (zero, there) =
        let e : record { tree = entry.tree; change = net entry.change change } ≡ n = cc in
        subst (λ (m : Noted). IsTree m.tree × IsChange m.change) e (first.0, net_is entry.change change first.1 c)
    on true again (suc place, there) = all n (suc place, there)
    on false again (zero, there) = let e : entry ≡ n = cc in subst (λ (m : Noted). IsTree m.tree × IsChange m.change) e first
    on false again (suc place, there) = again (place, there)

pub may_note : (buffer : List Noted) (tree : ℕ) (change : Change) → IsTree tree → IsChange change → length (noted_in buffer tree change) ≤ 200 → MayCommit buffer
    → MayCommit (noted_in buffer tree change)
may_note buffer tree change t c most may = record {
  noted = record { most = most; distinct = AreDistinct-noted buffer tree change may.noted.distinct };
  each = each_noted buffer tree change t c may.each;
}

-- an entry that is short may be noted
index_change : (key attr : List ℕ) → length (entry_bytes attr key) ≤ 64 → IsChange (index_insert attr key)
index_change key attr short = record {
  key = record { some = omega arith; short = short };
  payload = omega arith;
  attr = tt;
  amount = lit< tt;
}

pub may_put : (buffer : List Noted) (tree : ℕ) (key payload attr : List ℕ) → IsTree tree → tree ≤ 8 → length (entry_bytes attr key) ≤ 64 → IsChange (Insert key payload (Some attr))
    → length (put_in buffer tree key payload attr) ≤ 200 → MayCommit buffer → MayCommit (put_in buffer tree key payload attr)
may_put buffer tree key payload attr t low short c most may =
    let first : List Noted = noted_in buffer tree (Insert key payload (Some attr)) in
    let index : IsTree (index_of tree) = record { some = omega arith; most = omega (arith, low) } in
    let few : length first ≤ 200 = fewer first (index_of tree) (index_insert attr key) most in
    may_note first (index_of tree) (index_insert attr key) index (index_change key attr short) most (may_note buffer tree (Insert key payload (Some attr)) t c few may)
  where
    -- noting makes no list shorter
    fewer : (list : List Noted) (other : ℕ) (change : Change) → length (noted_in list other change) ≤ 200 → length list ≤ 200
    fewer list other change most = on (is_some (found_in list other (key_of change))) (length-noted list other change)
      where
        on : (b : Bool) → length (noted_in list other change) ≡ cond b (length list) (length list + 1) → length list ≤ 200
        on true e = omega (arith, e, most)
        on false e = omega (arith, e, most)
