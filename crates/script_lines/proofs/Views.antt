-- What JSON in memory stands for.
use Rattle.std.proofs.Common.{◌≡◌, Bool as Truth', rules, String, Global, string_bytes}
use Rattle.serde_json.specs.Data as json
use Rattle.serde_json.specs.View.{view, number_view}
use Rattle.serde_json.specs.declared.number.Number.{Number}
use Rattle.serde_json.specs.declared.value.Value.{Null, Bool, Number as Numeral, String as Quoted, the_lemmas}
use Rattle.serde_json.proofs.Views.{view-Array, view-Object}

pub view-Null : view Null ≡ json.null
view-Null = search (rules, the_lemmas)

pub view-Bool : (b : Truth') → view (Bool b) ≡ json.boolean b
view-Bool b = search (rules, the_lemmas)

pub view-Number : (n : Number) → view (Numeral n) ≡ json.number (number_view n)
view-Number n = search (rules, the_lemmas)

pub view-String : (s : String Global) → view (Quoted s) ≡ json.string (string_bytes s)
view-String s = search (rules, the_lemmas)

pub ruleset views = (view-Null, view-Bool, view-Number, view-String, view-Array, view-Object)
