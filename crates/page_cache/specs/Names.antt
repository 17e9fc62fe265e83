-- The names of objects, as the maps of a cache compare them.
use Rattle.std.specs.Prelude.{Bool}
use Rattle.db_base.specs.declared.names.ObjName.{ObjName}
use Rattle.db_base.specs.contracts.names.ObjNamePartialEq.TheImpl as names

-- whether two names are of one object
abbrev pub same_name : ObjName → ObjName → Bool
same_name = names.eq-value.it
