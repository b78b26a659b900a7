-- The table `stdio`.
use Rattle.std.specs.Prelude.{ℕ, List, [], ◌∷◌, Result, Ok, codes}
use Rattle.toml.specs.Data.{Members}
use Rattle.policy_data.specs.declared.fault.ReadPolicyFault.{ReadPolicyFault}
use Rattle.policy_data.specs.declared.words.Stream.TheVariants.{Deny}
use Rattle.policy_toml.specs.declared.stdio.Stdio.{Stdio}
use Rattle.policy_toml.specs.Reading.{and_then}
use Rattle.policy_toml.specs.Keys.{optional}
use Rattle.policy_toml.specs.Values.{word_in}
use Rattle.policy_data.specs.Words.{stream_named}

abbrev pub stdio_keys : List (List ℕ)
stdio_keys = codes "stdin" ∷ codes "stdout" ∷ codes "stderr" ∷ []

abbrev pub stdio_of : List ℕ → Members → Result Stdio ReadPolicyFault
stdio_of path ms = and_then (optional path (codes "stdin") Deny (word_in stream_named) ms)
    (λ stdin. and_then (optional path (codes "stdout") Deny (word_in stream_named) ms)
    (λ stdout. and_then (optional path (codes "stderr") Deny (word_in stream_named) ms)
    (λ stderr. Ok (record { stdin = stdin; stdout = stdout; stderr = stderr }))))
