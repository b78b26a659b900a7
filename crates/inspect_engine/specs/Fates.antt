-- What becomes of the calls of an imported function under a policy.
use Rattle.std.specs.Prelude.{ℕ, Bool, true, ◌&&◌, List, codes, if◌then◌else◌}
use Rattle.std.specs.Str.{bytes_eq}
use Rattle.wit_types.specs.Plain.{Name}
use Rattle.policy_data.specs.declared.policy.Policy.{Policy}
use Rattle.reference_step.specs.Access.{Access, Hosted, Denied, Virtual, access}
use Rattle.reference_step.specs.Refused.{by_rules}
use Rattle.wasi_table.specs.Plain.{PlainNamedFunc}
use Rattle.wasi_match.specs.declared.listed.ListedUse.{ListedUse}
use Rattle.adapter_world.specs.Needed.{is_needed_at, is_shut}
use Rattle.inspect_engine.specs.declared.fate.Fate.{Fate}
use Rattle.inspect_engine.specs.declared.fate.Fate.TheVariants.{Asked, Ruled, Refused, Value, Own}

-- the functions some of whose calls name an address, which the rules may allow or not
abbrev pub takes_address : Name → Bool
takes_address f =
    if bytes_eq f (codes "[method]tcp-socket.start-connect") then true
    else if bytes_eq f (codes "[method]tcp-socket.start-bind") then true
    else if bytes_eq f (codes "[method]udp-socket.start-bind") then true
    else if bytes_eq f (codes "[method]udp-socket.stream") then true
    else bytes_eq f (codes "[method]outgoing-datagram-stream.send")

-- some call reaches the machine
abbrev pub reached : Policy → Name → Fate
reached p f = if by_rules p.sockets && takes_address f then Ruled else Asked

-- no call does, although the machine would be asked where all handles of a call were the machine's: the rules allow no address, or no such
-- handle comes from the machine
abbrev pub of_hosted : Policy → Name → Fate
of_hosted p f = if is_shut p f then Refused else Own

abbrev pub by_access : Access → Policy → Name → Fate
by_access Hosted p f = of_hosted p f
by_access Denied p f = Refused
by_access Virtual p f = Value

-- no call reaches the machine
abbrev pub unreached : Policy → ℕ → Name → Fate
unreached p interface f = by_access (access p interface f) p f

-- of the function at a place of an interface: calls reach the machine where an output imports it
abbrev pub fate : Policy → List ListedUse → ℕ → ℕ → PlainNamedFunc → Fate
fate p uses interface place f = if is_needed_at p uses interface place f then reached p f.name else unreached p interface f.name
