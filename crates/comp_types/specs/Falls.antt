-- What stands in entries is smaller than they are.
use Rattle.std.specs.Prelude.{◌≤◌, max, List, [], ◌∷◌}
use Rattle.std.proofs.Common.{arith}
use denote.Param.Weighed.{most}
use Rattle.comp_types.specs.Sizes.{item_size, kind_size, entries_size}
use Rattle.comp_types.specs.Views.{kind_of, item_of, entries_of}
use Rattle.comp_types.specs.declared.types.ItemType.{ItemType}
use Rattle.comp_types.specs.declared.types.ItemType.TheVariants.{Func, Instance, Kind}
use Rattle.comp_types.specs.declared.types.TypeItem.{TypeItem}
use Rattle.comp_types.specs.declared.types.TypeItem.TheVariants.{Resource, Value, Func as AFunc, Instance as AnInstance}
use Rattle.comp_types.specs.declared.types.InstanceEntry.{InstanceEntry}
use Rattle.comp_types.specs.declared.types.InstanceEntries.TheDeep.{deep-InstanceEntry, deep-ItemType, deep-TypeItem}

kind_falls : (k : TypeItem) → deep-TypeItem k ≤ kind_size (kind_of k)
kind_falls (Resource r) = omega arith
kind_falls (Value v) = omega arith
kind_falls (AFunc f) = omega arith
kind_falls (AnInstance i) = omega arith

item_falls : (i : ItemType) → deep-ItemType i ≤ item_size (item_of i)
item_falls (Func f) = omega arith
item_falls (Instance i) = omega arith
item_falls (Kind k) = omega (arith, kind_falls k)

pub entries_fall : (es : List InstanceEntry) → max (most deep-InstanceEntry es) 0 ≤ entries_size (entries_of es)
entries_fall [] = omega arith
entries_fall (e ∷ es) = omega (arith, item_falls e.ty, entries_fall es)
