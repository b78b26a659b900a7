-- wasi:cli/environment.
use Rattle.std.specs.Prelude.{ℕ, Bool, not, ◌&&◌, ◌||◌, List, [], ◌∷◌, ◌++◌, map, filter}
use Rattle.std.specs.List.{list_any}
use Rattle.std.specs.Str.{bytes_eq}
use Rattle.wit_types.specs.PlainValue.{PlainValue, StringValue}
use Rattle.policy_data.specs.declared.policy.Policy.{Policy}
use Rattle.policy_data.specs.declared.data.Variable.{Variable}
use Rattle.policy_data.specs.declared.data.Arguments.{Arguments}
use Rattle.policy_data.specs.declared.data.Arguments.TheVariants.{Given as TheseArguments}
use Rattle.policy_data.specs.declared.data.WorkingDirectory.{WorkingDirectory}
use Rattle.policy_data.specs.declared.data.WorkingDirectory.TheVariants.{Given as ThisFolder}
use Rattle.reference_step.specs.Values.{list, list_in, record_of, fields_in, nth, text_in, none, some}
use Rattle.reference_step.specs.State.{View, Row, returns}

abbrev pub variable_value : Variable → PlainValue
variable_value variable = record_of (StringValue variable.name ∷ StringValue variable.value ∷ [])

-- the variables that the policy sets, in byte order of their names
abbrev pub set_variables : Policy → List PlainValue
set_variables p = map variable_value p.env_set

-- whether a variable of the host is passed: the policy names it, or passes all, and does not set it
abbrev pub is_passed : Policy → List ℕ → Bool
is_passed p name = (p.env_pass || list_any (λ allowed. bytes_eq allowed name) p.env_allow) && not (list_any (λ s. bytes_eq s.name name) p.env_set)

-- those of the host that are passed, in order, and after them those that the policy sets
abbrev pub all_variables : Policy → PlainValue → List PlainValue
all_variables p answer = filter (λ v. is_passed p (text_in (nth 0 (fields_in v)))) (list_in answer) ++ set_variables p

-- what is made of the host's answer
abbrev pub from_host : Policy → PlainValue → PlainValue
from_host p answer = list (all_variables p answer)

-- where the host is not asked
abbrev pub get-environment : View → Row
get-environment v = returns (list (set_variables v.policy))

abbrev pub arguments_in : Arguments → List (List ℕ)
arguments_in (TheseArguments texts) = texts
arguments_in _ = []

abbrev pub get-arguments : View → Row
get-arguments v = returns (list (map StringValue (arguments_in v.policy.env_arguments)))

abbrev pub folder_in : WorkingDirectory → PlainValue
folder_in (ThisFolder text) = some (StringValue text)
folder_in _ = none

abbrev pub initial-cwd : View → Row
initial-cwd v = returns (folder_in v.policy.env_cwd)
