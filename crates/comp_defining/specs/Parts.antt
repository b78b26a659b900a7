-- One case more.
use Rattle.std.specs.Prelude.{Option, Some, None}
use Rattle.std.specs.Global.{Global}
use Rattle.std.specs.declared.rc.Rc.{Rc}
use Rattle.wit_types.specs.Plain.{Name, Plain, Parts}
use Rattle.comp_facts.specs.Facts.{and_part, and_bare}

abbrev pub and_case : Parts → Name → Option Plain → Parts
and_case ps name None = and_bare ps name
and_case ps name (Some ty) = and_part ps name ty

-- the tree of a value type that is there
abbrev pub known_of : Option (Rc Plain Global) → Option Plain
known_of None = None
known_of (Some known) = Some known.value
