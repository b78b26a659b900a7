-- The words for the fault of a policy and of an application.
use Rattle.std.specs.Prelude.{ℕ, ◌/◌, ◌%◌, ◌+◌, List, [], ◌∷◌, ◌++◌, codes, nat_lt, if◌then◌else◌}
use Rattle.std.specs.Fmt.{decimal}
use Rattle.virt_base.specs.declared.fault.AppFault.{AppFault}
use Rattle.virt_base.specs.declared.fault.AppFault.TheVariants.{Malformed, Unsupported, Invalid, Unlisted, WrongType, TwoVersions, HandleExport}
use Rattle.virt_words.specs.declared.policy_fault.PolicyFault.{PolicyFault}
use Rattle.virt_words.specs.declared.policy_fault.PolicyFault.TheVariants.{NotToml, BadKey, BadValue, BadName}

-- a digit from 0 to f
abbrev pub hex_digit : ℕ → ℕ
hex_digit n = if nat_lt n 10 then (n + 48) else (n + 87)

-- two digits, in lower case
abbrev pub hex_byte : ℕ → List ℕ
hex_byte b = hex_digit (b / 16) ∷ hex_digit (b % 16) ∷ []

abbrev pub policy_text : PolicyFault → List ℕ
policy_text NotToml = codes "not-toml"
policy_text (BadKey path) = codes "bad-key " ++ path
policy_text (BadValue path) = codes "bad-value " ++ path
policy_text (BadName path) = codes "bad-name " ++ path

abbrev pub app_text : AppFault → List ℕ
app_text (Malformed at) = codes "malformed at " ++ decimal at
app_text (Unsupported at byte) = codes "unsupported at " ++ (decimal at ++ (codes " byte " ++ hex_byte byte))
app_text (Invalid rule section) = codes "invalid rule " ++ (decimal rule ++ (codes " section " ++ decimal section))
app_text (Unlisted name) = codes "unlisted " ++ name
app_text (WrongType name) = codes "wrong-type " ++ name
app_text (TwoVersions name) = codes "two-versions " ++ name
app_text (HandleExport name) = codes "handle-export " ++ name
