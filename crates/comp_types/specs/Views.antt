-- The trees that the types of this crate stand for.
use Rattle.std.specs.Prelude.{List, [], ◌∷◌}
use Rattle.comp_types.specs.Items.{Item, Kind as ItemKind, Entries, FuncItem, InstanceItem, KindItem, ResourceKind, ValueKind, FuncKind, InstanceKind, End, More}
use Rattle.comp_types.specs.declared.types.ItemType.{ItemType}
use Rattle.comp_types.specs.declared.types.ItemType.TheVariants.{Func, Instance, Kind}
use Rattle.comp_types.specs.declared.types.TypeItem.{TypeItem}
use Rattle.comp_types.specs.declared.types.TypeItem.TheVariants.{Resource, Value, Func as AFunc, Instance as AnInstance}
use Rattle.comp_types.specs.declared.types.InstanceEntry.{InstanceEntry}

abbrev pub kind_of : TypeItem → ItemKind
kind_of (Resource resource) = ResourceKind resource
kind_of (Value ty) = ValueKind ty.value
kind_of (AFunc ty) = FuncKind ty.value
kind_of (AnInstance ty) = InstanceKind ty.value.own ty.value.instance.value.entries

abbrev pub item_of : ItemType → Item
item_of (Func ty) = FuncItem ty.value
item_of (Instance ty) = InstanceItem ty.value.entries
item_of (Kind kind) = KindItem (kind_of kind)

abbrev pub entries_of : List InstanceEntry → Entries
entries_of [] = End
entries_of (e ∷ es) = More e.name (item_of e.ty) (entries_of es)
