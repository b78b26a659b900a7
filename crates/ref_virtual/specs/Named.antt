-- Methods by their WIT names.
use Rattle.std.specs.Prelude.{List, find, Option, option_map}
use Rattle.std.specs.Str.{bytes_eq}
use Rattle.wit_types.specs.Plain.{Name}

-- the first of these methods that has the name
abbrev pub method_in : {M : Type 0} → List (Name × M) → Name → Option M
method_in methods function = option_map (λ m. m.1) (find (λ m. bytes_eq m.0 function) methods)
