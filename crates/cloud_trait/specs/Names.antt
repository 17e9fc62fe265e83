-- The orders of the names: two names are the same exactly where their order is Equal.
use Rattle.std.specs.declared.cmp.Ordering.{Ordering}
use Rattle.db_base.specs.declared.names.ObjName.{ObjName}
use Rattle.db_base.specs.declared.names.QueueName.{QueueName}
use Rattle.db_base.specs.declared.names.Lock.{Lock}
use Rattle.db_base.specs.contracts.names.ObjNameOrd.TheImpl as objects
use Rattle.db_base.specs.contracts.names.QueueNameOrd.TheImpl as queues
use Rattle.db_base.specs.contracts.names.LockOrd.TheImpl as locks

-- the order of objects
abbrev pub object_cmp : ObjName → ObjName → Ordering
object_cmp = objects.cmp-value.it

-- the order of queues
abbrev pub queue_cmp : QueueName → QueueName → Ordering
queue_cmp = queues.cmp-value.it

-- the order of locks
abbrev pub lock_cmp : Lock → Lock → Ordering
lock_cmp = locks.cmp-value.it
