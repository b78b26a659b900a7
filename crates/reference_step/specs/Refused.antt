-- Which calls the rules on addresses refuse, where sockets go by rules.
use Rattle.std.specs.Prelude.{not, Bool, true, false, ◌&&◌, List, [], ◌∷◌, codes, Option, Some, None, if◌then◌else◌}
use Rattle.std.specs.Str.{bytes_eq}
use Rattle.wit_types.specs.Plain.{Name}
use Rattle.wit_types.specs.PlainValue.{PlainValue, PlainValues}
use Rattle.policy_data.specs.declared.words.Sockets.{Sockets}
use Rattle.policy_data.specs.declared.words.Sockets.TheVariants.{Allow as AllSockets, Deny as NoSockets, Rules as RuledSockets}
use Rattle.policy_data.specs.declared.data.Rule.{Rule}
use Rattle.policy_data.specs.declared.data.NetRules.{NetRules}
use Rattle.policy_data.specs.declared.policy.Policy.{Policy}
use Rattle.net_policy.specs.Allowed.{address_in, is_allowed}
use Rattle.reference_step.specs.Values.{nth, list_in, fields_in, some_in}

abbrev pub by_rules : Sockets → Bool
by_rules RuledSockets = true
by_rules AllSockets = false
by_rules NoSockets = false

-- the rules do not allow an address
abbrev pub refuses : List Rule → PlainValue → Bool
refuses rules v = not (is_allowed rules (address_in v))

-- the same of some address; none is not asked
abbrev pub refuses_some : List Rule → Option PlainValue → Bool
refuses_some rules None = false
refuses_some rules (Some v) = refuses rules v

-- of a datagram, the address after its data
abbrev pub refuses_any : List Rule → List PlainValue → Bool
refuses_any rules [] = false
refuses_any rules (d ∷ ds) = if refuses_some rules (some_in (nth 1 (fields_in d))) then true else refuses_any rules ds

-- by the name of the function: start-connect, start-bind, stream, send and resolve-addresses
abbrev pub refused_by : NetRules → Name → PlainValues → Bool
refused_by net f args =
    if bytes_eq f (codes "[method]tcp-socket.start-connect") then refuses net.connect (nth 2 args)
    else if bytes_eq f (codes "[method]tcp-socket.start-bind") then refuses net.bind (nth 2 args)
    else if bytes_eq f (codes "[method]udp-socket.start-bind") then refuses net.bind (nth 2 args)
    else if bytes_eq f (codes "[method]udp-socket.stream") then refuses_some net.connect (some_in (nth 1 args))
    else if bytes_eq f (codes "[method]outgoing-datagram-stream.send") then refuses_any net.connect (list_in (nth 1 args))
    else if bytes_eq f (codes "resolve-addresses") then not net.names
    else false

-- the name of each is one interface's alone
abbrev pub refused : Policy → Name → PlainValues → Bool
refused p f args = by_rules p.sockets && refused_by p.net f args
