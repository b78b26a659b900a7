-- JSON (RFC 8259), as `serde_json` reads it, as values without types. A number that is no integer of 64 bits is inexact.
use Rattle.std.specs.Prelude.{pos}
use Rattle.serde_json.specs.Data as json
use Rattle.host_port.specs.Untyped.{Untyped, Items, Members, Null, Truth, Number, Inexact, Text, Array, Object, NoItems, Item, NoMembers, Member}

abbrev pub untyped_number : json.Num → Untyped
untyped_number (json.unsigned n) = Number (pos n)
untyped_number (json.negative z) = Number z
untyped_number (json.float x) = Inexact

abbrev mutual
  pub untyped : json.Data → Untyped
  untyped json.null = Null
  untyped (json.boolean b) = Truth b
  untyped (json.number n) = untyped_number n
  untyped (json.string bytes) = Text bytes
  untyped (json.array items) = Array (untyped_items items)
  untyped (json.object members) = Object (untyped_members members)

  pub untyped_items : json.Items → Items
  untyped_items json.no_items = NoItems
  untyped_items (json.item d ds) = Item (untyped d) (untyped_items ds)

  pub untyped_members : json.Members → Members
  untyped_members json.no_members = NoMembers
  untyped_members (json.member name d ms) = Member name (untyped d) (untyped_members ms)
