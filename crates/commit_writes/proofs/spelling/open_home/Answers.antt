use Rattle.commit_writes.proofs.Spelled.{opened_spelled}
use Rattle.commit_writes.proofs.spelling.open_home.Goals as goal

pub bytes_of-requires : goal.bytes_of-requires
bytes_of-requires c = rw c.in_ok-open_head.ensures.ok (opened_spelled _ _ _ c.home.invariant c.requires.some c.requires.few c.requires.placed)

pub invariant_of-home-2 : goal.invariant_of-home-2
invariant_of-home-2 c = rw c.in_ok-open_head.ensures.ok (opened_spelled _ _ _ c.home.invariant c.requires.some c.requires.few c.requires.placed)
