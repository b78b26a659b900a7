use Rattle.wit_types.specs.PlainValue.{plain_value}
use Rattle.abi_layout.specs.Storing.{lower_flat}
use Rattle.wit_types.specs.Plain.{StringType}
use Rattle.abi_store.specs.declared.content.Content.TheVariants.{Text}
use Rattle.abi_store.specs.Slots.{place_flats}
use Rattle.abi_store.proofs.Lowers.{appends_none, no_string, string_flats, string_is}
use Rattle.abi_store.proofs.flats.lower_string.Goals as goal

pub returns-in-None : goal.returns-in-None
returns-in-None c = appends_none c.args.slots.now.items (lower_flat StringType (plain_value c.args.value)) (no_string (plain_value c.args.value) c.in-None.ensures.none)

pub returns-in_ok-push_content-in-Some : goal.returns-in_ok-push_content-in-Some
returns-in_ok-push_content-in-Some c =
    string_flats c.args.slots.now.items c.push_content.new.slots.items (plain_value c.args.value) c.in-Some.text (place_flats (Text c.in-Some.text)) c.in-Some.ensures.some (string_is c.in-Some.text) c.in_ok-push_content-in-Some.ensures
