-- The table `env`.
use Rattle.std.specs.Prelude.{ℕ, List, [], ◌∷◌, true, false, Result, Ok, Err, nat_lt, codes, if◌then◌else◌}
use Rattle.toml.specs.Data.{Data, boolean, table, Members}
use Rattle.policy_data.specs.declared.fault.ReadPolicyFault.{ReadPolicyFault}
use Rattle.policy_data.specs.declared.fault.ReadPolicyFault.TheVariants.{BadValue, OverLimit}
use Rattle.policy_data.specs.declared.data.Variable.{Variable}
use Rattle.policy_data.specs.declared.data.Arguments.{Arguments}
use Rattle.policy_data.specs.declared.data.Arguments.TheVariants.{Deny, Allow, Given}
use Rattle.policy_data.specs.declared.data.WorkingDirectory.{WorkingDirectory}
use Rattle.policy_data.specs.declared.data.WorkingDirectory.TheVariants.{Deny as NoCwd, Allow as HostCwd, Given as GivenCwd}
use Rattle.policy_toml.specs.declared.env.Env.{Env}
use Rattle.policy_toml.specs.Reading.{and_then, each_member}
use Rattle.policy_toml.specs.Keys.{below, optional}
use Rattle.policy_toml.specs.Values.{boolean_in, text_such, is_plain, is_variable, member_count, each, list_in}

abbrev pub env_keys : List (List ℕ)
env_keys = codes "pass" ∷ codes "allow" ∷ codes "set" ∷ codes "arguments" ∷ codes "cwd" ∷ []

-- a variable and its value, which have one path
abbrev pub variable_of : List ℕ → List Variable → List ℕ → Data → Result Variable ReadPolicyFault
variable_of path seen name d =
    if is_variable name then and_then (text_such is_plain (below path name) d) (λ value. Ok (record { name = name; value = value }))
    else Err (BadValue (below path name))

abbrev pub variables_in : List ℕ → Data → Result (List Variable) ReadPolicyFault
variables_in path (table ms) =
    if nat_lt 1024 (member_count ms) then Err (OverLimit path (member_count ms)) else each_member (variable_of path) [] ms
variables_in path _ = Err (BadValue path)

abbrev pub arguments_in : List ℕ → Data → Result Arguments ReadPolicyFault
arguments_in path (boolean true) = Ok Allow
arguments_in path (boolean false) = Ok Deny
arguments_in path d = and_then (list_in 1024 (each (text_such is_plain)) path d) (λ given. Ok (Given given))

abbrev pub cwd_in : List ℕ → Data → Result WorkingDirectory ReadPolicyFault
cwd_in path (boolean true) = Ok HostCwd
cwd_in path (boolean false) = Ok NoCwd
cwd_in path d = and_then (text_such is_plain path d) (λ given. Ok (GivenCwd given))

abbrev pub env_of : List ℕ → Members → Result Env ReadPolicyFault
env_of path ms = and_then (optional path (codes "pass") false boolean_in ms)
    (λ pass. and_then (optional path (codes "allow") [] (list_in 1024 (each (text_such is_variable))) ms)
    (λ allow. and_then (optional path (codes "set") [] variables_in ms)
    (λ set. and_then (optional path (codes "arguments") Deny arguments_in ms)
    (λ arguments. and_then (optional path (codes "cwd") NoCwd cwd_in ms)
    (λ cwd. Ok (record { pass = pass; allow = allow; set = set; arguments = arguments; cwd = cwd }))))))
