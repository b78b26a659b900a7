use Rattle.std.proofs.Common.{subst, refl}
use Rattle.wit_types.specs.declared.types.WitType.{WitType}
use Rattle.wit_types.specs.PlainValue.{ListValue, plain_value, plain_values}
use Rattle.abi_layout.specs.Storing.{lower_flat}
use Rattle.wit_types.specs.Plain.{ListType, plain}
use Rattle.abi_store.specs.Slots.{Appends}
use Rattle.abi_store.proofs.Lowers.{appends_none, no_list, list_flats}
use Rattle.abi_store.proofs.flats.lower_list.Goals as goal

pub returns-in-None : goal.returns-in-None
returns-in-None c =
    appends_none c.args.slots.now.items (lower_flat (ListType (plain c.args.item.now.value)) (plain_value c.args.value)) (no_list (plain c.args.item.now.value) (plain_value c.args.value) c.in-None.ensures.none)

pub returns-in_ok-push_list-in-Some : goal.returns-in_ok-push_list-in-Some
returns-in_ok-push_list-in-Some c =
    subst (λ (w : WitType). Appends c.args.slots.now.items c.push_list.new.slots.items (lower_flat (ListType (plain w)) (plain_value c.args.value))) c.in_ok-item-in-Some.ensures.cases
    (list_flats c.args.slots.now.items c.push_list.new.slots.items (plain c.in_ok-item-in-Some.item.value) (plain_value c.args.value) (plain_values c.in-Some.values)
    (lower_flat (ListType (plain c.in_ok-item-in-Some.item.value)) (ListValue (plain_values c.in-Some.values))) c.in-Some.ensures.some (λ k. refl) c.in_ok-push_list-in-Some.ensures)
