use Rattle.wit_types.specs.Plain.{ListType, plain}
use Rattle.wit_types.specs.PlainValue.{ListValue, plain_values}
use Rattle.abi_layout.specs.Storing.{lower_flat}
use Rattle.abi_store.specs.declared.content.Content.TheVariants.{List}
use Rattle.abi_store.specs.Slots.{place_flats}
use Rattle.abi_store.proofs.Lowers.{appends_same, list_is}
use Rattle.abi_store.proofs.flats.push_list.Goals as goal

pub returns : goal.returns
returns c =
    appends_same c.args.slots.now.items c.push_content.new.slots.items (place_flats (List c.args.list)) (lower_flat (ListType (plain c.args.list.item.value)) (ListValue (plain_values c.args.list.values))) (list_is c.args.list)
    c.in_ok-push_content.ensures
