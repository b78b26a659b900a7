-- What a store shows.
use Rattle.std.specs.Prelude.{Some}
use Rattle.core_store.specs.declared.state.Store.TheInside.{Inside}
use Rattle.core_store.specs.State.{State, IsSound}

abbrev pub state_of : Inside → State
state_of s = record {
  functions = s.functions.items;
  tables = s.tables.items;
  memories = s.memories.items;
  globals = s.globals.items;
  segments = s.segments.items;
  elements = s.elements.items;
  instances = s.instances.items;
  nesting = s.nesting;
  deepest = Some 65536;
}

abbrev pub IsKept : Inside → Type 0
IsKept s = IsSound (state_of s)
