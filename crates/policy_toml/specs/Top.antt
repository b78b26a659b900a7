-- The keys of the document that are numbers and words.
use Rattle.std.specs.Prelude.{ℕ, List, [], Some, None, Result, Ok, Err, codes, pos, ◌==◌, if◌then◌else◌}
use Rattle.toml.specs.Data.{Data, integer, Members}
use Rattle.policy_data.specs.declared.fault.ReadPolicyFault.{ReadPolicyFault}
use Rattle.policy_data.specs.declared.fault.ReadPolicyFault.TheVariants.{BadValue}
use Rattle.policy_data.specs.declared.words.Version.{Version}
use Rattle.policy_data.specs.declared.words.Version.TheVariants.{One, Two}
use Rattle.policy_data.specs.declared.words.Deny.TheVariants.{Trap}
use Rattle.policy_data.specs.declared.words.Access.TheVariants.{Deny as NoAccess}
use Rattle.policy_data.specs.declared.words.Sockets.TheVariants.{Deny as NoSockets}
use Rattle.policy_toml.specs.declared.top.Limits.{Limits}
use Rattle.policy_toml.specs.declared.top.Accesses.{Accesses}
use Rattle.policy_toml.specs.Reading.{and_then}
use Rattle.policy_toml.specs.Keys.{optional}
use Rattle.policy_toml.specs.Values.{choice_of, number_in, word_in}
use Rattle.policy_data.specs.Words.{access_named, deny_named, sockets_named}

abbrev pub version_in : List ℕ → Data → Result Version ReadPolicyFault
version_in path (integer (pos n)) = choice_of path (if n == 1 then Some One else (if n == 2 then Some Two else None))
version_in path _ = Err (BadValue path)

abbrev pub limits_of : Members → Result Limits ReadPolicyFault
limits_of ms = and_then (optional [] (codes "version") One version_in ms)
    (λ version. and_then (optional [] (codes "deny") Trap (word_in deny_named) ms)
    (λ deny. and_then (optional [] (codes "transfer-limit") 16777216 (number_in 65536 67108864) ms)
    (λ transfer_limit. and_then (optional [] (codes "slots") 256 (number_in 1 4096) ms)
    (λ slots. Ok (record { version = version; deny = deny; transfer_limit = transfer_limit; slots = slots })))))

abbrev pub access_of : Members → Result Accesses ReadPolicyFault
access_of ms = and_then (optional [] (codes "random") NoAccess (word_in access_named) ms)
    (λ random. and_then (optional [] (codes "exit") NoAccess (word_in access_named) ms)
    (λ exit. and_then (optional [] (codes "sockets") NoSockets (word_in sockets_named) ms)
    (λ sockets. Ok (record { random = random; exit = exit; sockets = sockets }))))
