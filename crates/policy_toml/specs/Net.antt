-- The table `net`.
use Rattle.std.specs.Prelude.{ℕ, List, [], ◌∷◌, false, Option, Some, None, Result, Ok, Err, nat_lt, codes, if◌then◌else◌}
use Rattle.toml.specs.Data.{Data, string, array, table, no_items, Members, no_members, get_member}
use Rattle.policy_data.specs.declared.fault.ReadPolicyFault.{ReadPolicyFault}
use Rattle.policy_data.specs.declared.fault.ReadPolicyFault.TheVariants.{BadValue}
use Rattle.policy_data.specs.declared.words.Sockets.{Sockets}
use Rattle.policy_data.specs.declared.words.Sockets.TheVariants.{Rules}
use Rattle.policy_data.specs.declared.data.PortRange.{PortRange}
use Rattle.policy_data.specs.declared.data.Network.{Network}
use Rattle.policy_data.specs.declared.data.Rule.{Rule}
use Rattle.policy_data.specs.declared.data.NetRules.{NetRules}
use Rattle.policy_toml.specs.Reading.{and_then}
use Rattle.policy_toml.specs.Keys.{optional, required, table_in}
use Rattle.policy_toml.specs.Values.{boolean_in, choice_of, each, list_in, number_in}
use Rattle.policy_text.specs.Networks.{network_of}

-- ---- ports

abbrev pub range_keys : List (List ℕ)
range_keys = codes "from" ∷ codes "to" ∷ []

abbrev pub range_of : List ℕ → Members → Result PortRange ReadPolicyFault
range_of path ms = and_then (required path (codes "from") (number_in 0 65535) ms)
    (λ from. and_then (required path (codes "to") (number_in 0 65535) ms)
    (λ to. if nat_lt to from then Err (BadValue path) else Ok (record { from = from; to = to })))

-- a port, or the first and the last of a range
abbrev pub port_in : List ℕ → Data → Result PortRange ReadPolicyFault
port_in path (table ms) = table_in range_keys range_of path (table ms)
port_in path d = and_then (number_in 0 65535 path d) (λ port. Ok (record { from = port; to = port }))

abbrev pub ports_in : List ℕ → Data → Result (List PortRange) ReadPolicyFault
ports_in path (array no_items) = Err (BadValue path)
ports_in path d = list_in 64 (each port_in) path d

abbrev pub all_ports : List PortRange
all_ports = record { from = 0; to = 65535 } ∷ []

-- ---- rules

abbrev pub network_in : List ℕ → Data → Result Network ReadPolicyFault
network_in path (string text) = choice_of path (network_of text)
network_in path _ = Err (BadValue path)

abbrev pub rule_keys : List (List ℕ)
rule_keys = codes "network" ∷ codes "ports" ∷ []

abbrev pub rule_of : List ℕ → Members → Result Rule ReadPolicyFault
rule_of path ms = and_then (required path (codes "network") network_in ms)
    (λ network. and_then (optional path (codes "ports") all_ports ports_in ms)
    (λ ports. Ok (record { six = network.six; numbers = network.numbers; length = network.length; ports = ports })))

abbrev pub rules_in : List ℕ → Data → Result (List Rule) ReadPolicyFault
rules_in path d = list_in 256 (each (table_in rule_keys rule_of)) path d

-- ---- the whole table

abbrev pub net_keys : List (List ℕ)
net_keys = codes "connect" ∷ codes "bind" ∷ codes "names" ∷ []

abbrev pub net_of : List ℕ → Members → Result NetRules ReadPolicyFault
net_of path ms = and_then (optional path (codes "connect") [] rules_in ms)
    (λ connect. and_then (optional path (codes "bind") [] rules_in ms)
    (λ bind. and_then (optional path (codes "names") false boolean_in ms)
    (λ names. Ok (record { connect = connect; bind = bind; names = names }))))

-- only where the sockets go by rules
abbrev pub net_for : Sockets → List ℕ → Option Data → Result NetRules ReadPolicyFault
net_for sockets path None = net_of path no_members
net_for Rules path (Some d) = table_in net_keys net_of path d
net_for sockets path (Some d) = Err (BadValue path)

abbrev pub net_at : Sockets → Members → Result NetRules ReadPolicyFault
net_at sockets ms = net_for sockets (codes "net") (get_member (codes "net") ms)
