-- The format of a head.
use Rattle.std.specs.Prelude.{ℕ, ◌≡◌, ◌≤◌, ◌<◌, ◌-◌, ◌^◌, ◌==◌, Bool, List, length, take, Option, Some, None}
use Rattle.std.specs.List.{AllByRecursion}
use Rattle.std.specs.Int.{w8}
use Rattle.db_base.specs.Ids.{IsTree}
use Rattle.db_base.specs.Limits.{most_changes}
use Rattle.byte_format.specs.Format.{Format, Reading, number, ◌then◌, behind, only_where, seen_as}
use Rattle.byte_format.specs.Whole.{offset}
use Rattle.change_codec.specs.Number.{u64_from}
use Rattle.change_codec.specs.Decoded.{decoded}
use Rattle.head_codec.specs.declared.head.Head.{Head}
use Rattle.head_codec.specs.declared.head.Phase.{Phase}
use Rattle.head_codec.specs.declared.head.Phase.TheVariants.{Settled, Open}
use Rattle.head_codec.specs.declared.lists.QueueCount.{QueueCount}
use Rattle.head_codec.specs.declared.lists.Pending.{Pending}
use Rattle.head_codec.specs.Counters.{counters, AreCounters}
use Rattle.head_codec.specs.Pending.{pending_list, FitsPending}

abbrev pub phase_of_fields : ℕ × Option ℕ → Phase
phase_of_fields (kind, Some count) = Open count
phase_of_fields (kind, None) = Settled

abbrev pub fields_of_phase : Phase → ℕ × Option ℕ
fields_of_phase Settled = (0, None)
fields_of_phase (Open count) = (1, Some count)

-- the byte 00, or 01 and a count
abbrev pub phase_fields : Format (ℕ × Option ℕ)
phase_fields = number w8 0 1 then λ kind. only_where (kind == 1) (number w8 1 most_changes)

abbrev pub phase : Format Phase
phase = seen_as phase_of_fields fields_of_phase phase_fields

-- the bytes 48 and 01 of hexadecimal; epoch, transaction, phase, counters, pending entries
abbrev pub head_fields : Format (ℕ × (ℕ × (Phase × (List QueueCount × List Pending))))
head_fields = behind 72 (behind 1 (u64_from 1 then λ epoch. u64_from 0 then λ txn. phase then λ phase. counters then λ counters. pending_list))

abbrev pub head_of_fields : ℕ × (ℕ × (Phase × (List QueueCount × List Pending))) → Head
head_of_fields (epoch, (txn, (phase, (counters, pending)))) = record { epoch = epoch; txn = txn; phase = phase; counters = counters; pending = pending }

abbrev pub fields_of_head : Head → ℕ × (ℕ × (Phase × (List QueueCount × List Pending)))
fields_of_head h = (h.epoch, (h.txn, (h.phase, (h.counters, h.pending))))

abbrev pub head_table : Format Head
head_table = seen_as head_of_fields fields_of_head head_fields

unfoldable pub head_fits : Head → Bool
head_fits = head_table.fits

-- the one spelling of a head
unfoldable pub head_bytes : Head → List ℕ
head_bytes = head_table.spelling

unfoldable pub head_at : List ℕ → Reading Head
head_at = head_table.reading

-- the format of a head
abbrev pub head : Format Head
head = record { fits = head_fits; spelling = head_bytes; reading = head_at }

-- the head that the bytes spell, where they spell one
unfoldable pub head_of : List ℕ → Option Head
head_of = decoded head

-- the place of the first field that is cut short or breaks its rule, or behind the last field where bytes follow it
unfoldable pub head_offset : List ℕ → ℕ
head_offset = offset head

-- the phase of a commit counts 1 to 200 records
abbrev pub IsPhase : Phase → Type 0
IsPhase Settled = Unit {0}
IsPhase (Open count) = (1 ≤ count) × (count ≤ most_changes)

-- all that a head needs to have a spelling, beside what its types say (`FitsTypes`)
pub record HasSpelling (h : Head) : Type 0 where
  pub epoch : 1 ≤ h.epoch
  pub phase : IsPhase h.phase
  pub counters : AreCounters None h.counters
  pub pending : AllByRecursion (λ (p : Pending). 1 ≤ p.number) h.pending

-- what the types of a counter say
pub record FitsCounter (c : QueueCount) : Type 0 where
  pub tree : IsTree c.tree
  pub page : c.page < 2 ^ 64
  pub number : c.number < 2 ^ 64

-- what the types of a head say
pub record FitsTypes (h : Head) : Type 0 where
  pub epoch : h.epoch < 2 ^ 64
  pub txn : h.txn < 2 ^ 64
  pub counters : AllByRecursion FitsCounter h.counters
  pub pending : AllByRecursion FitsPending h.pending

-- a settled head as it was while its commit of so many records was under way: they were not among its entries yet
abbrev pub under_way : Head → ℕ → Head
under_way h count = record h { phase = Open count; pending = take (length h.pending - count) h.pending }

-- a head is settled, and these bytes spelled it before
pub record WasOpen (h : Head) (before : List ℕ) (count : ℕ) : Type 0 where
  pub settled : h.phase ≡ Settled
  pub few : count ≤ length h.pending
  pub spelled : head_of before ≡ Some (under_way h count)
