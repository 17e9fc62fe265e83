-- A tree checkpoint ends: how many calls are left at most.
use Rattle.std.specs.Prelude.{ℕ, ◌+◌, ◌-◌, ◌*◌, ◌≤◌, ◌==◌, List, [], ◌∷◌, length, Option, Some, None, if◌then◌else◌}
use Rattle.byte_format.specs.Order.{bytes_below}
use Rattle.db_base.specs.Change.{key_of}
use Rattle.db_base.specs.Limits.{most_received}
use Rattle.log_codec.specs.declared.record.PuItem.{PuItem}
use Rattle.ckpt_parts.specs.Leasing.{claims_of}
use Rattle.tree_phases.specs.declared.chart.Chart.{Chart}
use Rattle.tree_phases.specs.declared.placing.Placing.{Placing}
use Rattle.tree_phases.specs.declared.rising.Rising.{Rising as Up}
use Rattle.tree_ckpt.specs.declared.work.Onward.TheVariants as onward
use Rattle.tree_ckpt.specs.declared.work.Held.{Held}
use Rattle.tree_ckpt.specs.declared.work.Work.{Work}
use Rattle.tree_ckpt.specs.declared.work.Work.TheVariants.{TakingTree, GettingTree, Receiving, Descending, TakingPage, Folding, ReleasingPage, LeftPage, Rising, Deleting, Releasing, Finished}

-- how long a list may be
abbrev pub most : ℕ
most = 18446744073709551616

-- how many records of a run have keys above a key
abbrev pub above : List ℕ → List PuItem → ℕ
above key [] = 0
above key (x ∷ xs) = if bytes_below key (key_of x.rec.change) then above key xs + 1 else above key xs

-- how many have keys from this one on
abbrev pub from_on : List ℕ → List PuItem → ℕ
from_on from [] = 0
from_on from (x ∷ xs) = if bytes_below (key_of x.rec.change) from then from_on from xs else from_on from xs + 1

abbrev pub from_on_or_none : Option (List ℕ) → List PuItem → ℕ
from_on_or_none (Some from) xs = from_on from xs
from_on_or_none None xs = 0

-- how many records are not handled
abbrev pub unhandled : Chart → ℕ
unhandled c = from_on_or_none c.from c.run.items

-- how many are above the key at hand
abbrev pub behind_key : Chart → ℕ
behind_key c = above c.key c.run.items

-- calls at inner nodes that were not got, and at leaves to which no link to the right was followed
abbrev pub room : Chart → ℕ
room c = (most - length c.nodes) + 4 * (most - length c.links)

-- the calls of one key
abbrev pub a_key : ℕ
a_key = most + 10

abbrev pub one_reserved : Option (List ℕ) → ℕ
one_reserved (Some bytes) = 1
one_reserved None = 0

abbrev pub puts_left : Placing → ℕ
puts_left p = one_reserved p.reserved + length p.puts

-- the puts of the way up
abbrev pub up_by : Option (List ℕ) → ℕ → ℕ → ℕ
up_by None at puts = (most + 3) * (most - at) + puts + (most + 3)
up_by (Some last) at puts = puts + 1

abbrev pub up_left : Up → ℕ
up_left r = up_by r.last r.at (puts_left r.placing)

-- all of the way up, and the deletions
abbrev pub the_end : ℕ → ℕ
the_end ids = ids + (most + 3) * most + 2 * most + 8

abbrev pub ids_in : Held → ℕ
ids_in h = length h.deletions.ids

-- with a chart, by how many keys are left and what the key at hand needs
abbrev pub on_the_way : Held → Chart → ℕ → ℕ → ℕ
on_the_way h c keys here = the_end (ids_in h) + room c + a_key * keys + here

abbrev pub calls_in : Work → ℕ
calls_in TakingTree = the_end most_received + 5 * most + a_key * most + most + 14
calls_in (GettingTree l) = the_end most_received + 5 * most + a_key * most + most + 13
calls_in (Receiving l root) = the_end most_received + 5 * most + a_key * most + most + 12
calls_in (Descending h d) = on_the_way h d.chart (behind_key d.chart) (most + 8)
calls_in (TakingPage h c) = on_the_way h c.chart (behind_key c.chart) (most + 7)
calls_in (Folding h f) =
    if length f.placing.puts == 0
    then on_the_way h f.chart (behind_key f.chart) (puts_left f.placing + most + 6)
    else on_the_way h f.chart (unhandled f.chart) (puts_left f.placing + 2)
calls_in (ReleasingPage h l (onward.Right c)) = on_the_way h c.chart (behind_key c.chart) (most + 8)
calls_in (ReleasingPage h l (onward.Handled c)) = on_the_way h c (unhandled c) 1
calls_in (LeftPage h (onward.Right c)) = on_the_way h c.chart (behind_key c.chart) (most + 8)
calls_in (LeftPage h (onward.Handled c)) = on_the_way h c (unhandled c) 1
calls_in (Rising h r) = ids_in h + 3 + up_left r
calls_in (Deleting h applied) = ids_in h + 2
calls_in (Releasing held end) = length (claims_of held)
calls_in Finished = 0

-- ---- lists are no longer than they may be

pub record IsShortChart (c : Chart) : Type 0 where
  pub nodes : length c.nodes ≤ most
  pub links : length c.links ≤ most
  pub run : length c.run.items ≤ most

abbrev pub IsShort : Work → Type 0
IsShort (Descending h d) = IsShortChart d.chart
IsShort (TakingPage h c) = IsShortChart c.chart
IsShort (Folding h f) = IsShortChart f.chart × (length f.placing.puts ≤ most)
IsShort (ReleasingPage h l (onward.Right c)) = IsShortChart c.chart
IsShort (ReleasingPage h l (onward.Handled c)) = IsShortChart c
IsShort (Rising h r) = (length r.chart.nodes ≤ most) × (length r.placing.puts ≤ most)
IsShort w = Unit {0}
