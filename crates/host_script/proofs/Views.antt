-- What JSON in memory stands for as an untyped value.
use Rattle.std.proofs.Common.{◌≡◌, Bool as Truth', ap, rules, String, Vec, BTreeMap, Global, string_bytes}
use Rattle.serde_json.specs.View.{view, number_view, items_view, members_view}
use Rattle.serde_json.specs.declared.number.Number.{Number}
use Rattle.serde_json.specs.declared.value.Value.{Value, Null, Bool, Number as Numeral, String as Quoted, Array, Object, the_lemmas}
use Rattle.serde_json.proofs.Views.{view-Array, view-Object}
use Rattle.host_port.specs.Untyped as u
use Rattle.host_script.specs.Json.{untyped, untyped_number, untyped_items, untyped_members}

pub untyped-Null : untyped (view Null) ≡ u.Null
untyped-Null = search (rules, the_lemmas)

pub untyped-Bool : (b : Truth') → untyped (view (Bool b)) ≡ u.Truth b
untyped-Bool b = search (rules, the_lemmas)

pub untyped-Number : (n : Number) → untyped (view (Numeral n)) ≡ untyped_number (number_view n)
untyped-Number n = search (rules, the_lemmas)

pub untyped-String : (s : String Global) → untyped (view (Quoted s)) ≡ u.Text (string_bytes s)
untyped-String s = search (rules, the_lemmas)

pub untyped-Array : (v : Vec Value Global) → untyped (view (Array v)) ≡ u.Array (untyped_items (items_view v.items))
untyped-Array v = ap untyped (view-Array v)

pub untyped-Object : (m : BTreeMap (String Global) Value) → untyped (view (Object m)) ≡ u.Object (untyped_members (members_view m.entries))
untyped-Object m = ap untyped (view-Object m)

pub ruleset untypeds = (untyped-Null, untyped-Bool, untyped-Number, untyped-String, untyped-Array, untyped-Object)
