-- A scan looks through the range of keys that it began with, of the tree that it began with.
use Rattle.std.proofs.Common.{◌≡◌, ℕ, Bool, true, false, List, [], Option, None, unwrap_or, refl, ap}
use Rattle.std.specs.Prelude.{if◌then◌else◌}
use Rattle.cloud_trait.specs.declared.answer.Answer.{Answer}
use Rattle.cloud_trait.specs.Machine.{Goes, Ends}
use Rattle.page_cache.specs.Cache.{Cache}
use Rattle.range_scan.specs.Scan.{Scan, new_scan, goes_on, moved_on, scan_ready, scan_next}
use Rattle.range_scan.specs.Meaning.{Range}
use Rattle.range_scan.proofs.Meaning.{goes_range, ends_range, ready_range}
use Rattle.range_scan.proofs.Outcomes.{unended_ready}
use Rattle.tree_walk.specs.Walk.{sought}
use Rattle.replay_meaning.specs.Standing.{Posture, Working, Scanning}

-- what a session that works on this scan works on
abbrev pub range_of : Scan → Posture
range_of s = Working (Scanning s.walk.tree (sought s.walk) (unwrap_or s.to []))

abbrev posture_of : Range → Posture
posture_of r = Working (Scanning r.tree (unwrap_or r.from []) (unwrap_or r.to []))

-- a scan that goes on looks through the same range
pub scanning_goes : (s n : Scan) (c d : Cache) (a : Answer) → scan_next (s, c) a ≡ Goes (n, d) → range_of n ≡ range_of s
scanning_goes s n c d a e = ap posture_of (goes_range (s, c) (n, d) a e)

-- and so does one that ended at a leaf
pub scanning_ends : (s n : Scan) (c d : Cache) (a : Answer) (page : ℕ) → scan_next (s, c) a ≡ Ends (n, d) page → range_of n ≡ range_of s
scanning_ends s n c d a page e = ap posture_of (ends_range (s, c) (n, d) a page e)

pub moved_range : (s : Scan) → range_of (moved_on s) ≡ range_of s
moved_range s = on (goes_on s)
  where
    on : (b : Bool) → range_of (if b then record s { spot = s.next; next = None } else s) ≡ range_of s
    on true = refl
    on false = refl

-- a scan that begins looks through its range
pub scanning_begins : (tree : ℕ) (first last : Option (List ℕ)) (c d : Cache) (n : Scan) → scan_ready (new_scan tree first last, c) ≡ Goes (n, d)
    → range_of n ≡ Working (Scanning tree (unwrap_or first []) (unwrap_or last []))
scanning_begins tree first last c d n e = ap posture_of (ready_range (record { tree = tree; from = first; to = last }) c (n, d) e)

-- it ends at no leaf at once
pub scanning_begins_ended : (tree : ℕ) (first last : Option (List ℕ)) (c d : Cache) (n : Scan) (page : ℕ) → scan_ready (new_scan tree first last, c) ≡ Ends (n, d) page
    → range_of n ≡ Working (Scanning tree (unwrap_or first []) (unwrap_or last []))
scanning_begins_ended tree first last c d n page e = absurd (unended_ready (new_scan tree first last, c) (n, d) page e)
