-- What a file of a tree holds.
use Rattle.std.specs.Prelude.{ℕ, List, [], ◌∷◌, Option, Some, None, Result, Ok, Err, codes}
use Rattle.toml.specs.Data.{Data, string, Members, get_member}
use Rattle.policy_data.specs.declared.fault.ReadPolicyFault.{ReadPolicyFault}
use Rattle.policy_data.specs.declared.fault.ReadPolicyFault.TheVariants.{BadValue}
use Rattle.policy_data.specs.declared.data.Content.{Content}
use Rattle.policy_data.specs.declared.data.Content.TheVariants.{Bytes, File}
use Rattle.policy_toml.specs.Reading.{and_then}
use Rattle.policy_toml.specs.Keys.{below}
use Rattle.policy_toml.specs.Values.{any_text, choice_of}
use Rattle.policy_text.specs.Hex.{hex_bytes}

abbrev pub hex_in : List ℕ → Data → Result (List ℕ) ReadPolicyFault
hex_in path (string digits) = choice_of path (hex_bytes digits)
hex_in path _ = Err (BadValue path)

abbrev pub content_keys : List (List ℕ)
content_keys = codes "text" ∷ codes "hex" ∷ codes "file" ∷ []

-- exactly one of the three
abbrev pub one_content : List ℕ → Option Data → Option Data → Option Data → Result Content ReadPolicyFault
one_content path (Some d) None None = and_then (any_text (below path (codes "text")) d) (λ bytes. Ok (Bytes bytes))
one_content path None (Some d) None = and_then (hex_in (below path (codes "hex")) d) (λ bytes. Ok (Bytes bytes))
one_content path None None (Some d) = and_then (any_text (below path (codes "file")) d) (λ name. Ok (File name))
one_content path _ _ _ = Err (BadValue path)

abbrev pub content_of : List ℕ → Members → Result Content ReadPolicyFault
content_of path ms = one_content path (get_member (codes "text") ms) (get_member (codes "hex") ms) (get_member (codes "file") ms)
