-- Parts that are kept as lists, in front of more parts.
use Rattle.std.specs.Prelude.{List, [], ◌∷◌}
use Rattle.wit_types.specs.declared.types.Case.{Case, out-Case}
use Rattle.wit_types.specs.declared.types.Field.{Field, out-Field}
use Rattle.wit_types.specs.declared.types.WitType.{WitType}
use Rattle.wit_types.specs.Plain.{Parts, More, plain, payload_of, case_part}

abbrev pub types_before : List WitType → Parts → Parts
types_before [] rest = rest
types_before (t ∷ ts) rest = More [] (plain t) (types_before ts rest)

abbrev pub fields_before : List Field → Parts → Parts
fields_before [] rest = rest
fields_before (f ∷ fs) rest = More (out-Field f).name (plain (out-Field f).ty) (fields_before fs rest)

abbrev pub cases_before : List Case → Parts → Parts
cases_before [] rest = rest
cases_before (c ∷ cs) rest = case_part (out-Case c).name (payload_of (out-Case c).ty) (cases_before cs rest)
