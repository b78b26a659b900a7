-- What is passed of the host's variables, one by one.
use Rattle.std.specs.Prelude.{ℕ, List, [], ◌∷◌, if◌then◌else◌}
use Rattle.wit_types.specs.PlainValue.{PlainValue}
use Rattle.policy_data.specs.declared.policy.Policy.{Policy}
use Rattle.reference_step.specs.Environment.{is_passed}
use Rattle.reference_step.specs.Values.{fields_in, nth, text_in}

-- the name in a pair of a name and a value
abbrev pub name_in : PlainValue → List ℕ
name_in v = text_in (nth 0 (fields_in v))

-- a variable, if it is passed
abbrev pub kept : Policy → PlainValue → List PlainValue
kept p v = if is_passed p (name_in v) then v ∷ [] else []
