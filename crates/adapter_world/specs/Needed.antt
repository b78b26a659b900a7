-- Which functions an output imports under a policy, of those that an application imports.
use Rattle.std.specs.Prelude.{ℕ, ◌+◌, Bool, false, not, ◌&&◌, List, [], ◌∷◌, ◌++◌, nat_eq, codes, if◌then◌else◌}
use Rattle.std.specs.List.{list_any}
use Rattle.std.specs.Str.{bytes_eq}
use Rattle.wit_types.specs.Plain.{Name}
use Rattle.policy_data.specs.declared.data.NetRules.{NetRules}
use Rattle.policy_data.specs.declared.policy.Policy.{Policy}
use Rattle.reference_step.specs.Access.{access, is_hosted, is_empty}
use Rattle.reference_step.specs.Refused.{by_rules}
use Rattle.wasi_table.specs.Plain.{PlainNamedFunc}
use Rattle.wasi_listed.specs.Listed.{described}
use Rattle.wasi_match.specs.declared.listed.ListedUse.{ListedUse}
use Rattle.adapter_world.specs.Borrows.{parts_borrow_own}

-- ---- which functions have a host call

-- by the name of the function: whether these rules allow it no address, or no name
abbrev pub is_shut_in : NetRules → Name → Bool
is_shut_in net f =
    if bytes_eq f (codes "[method]tcp-socket.start-connect") then is_empty net.connect
    else if bytes_eq f (codes "[method]tcp-socket.start-bind") then is_empty net.bind
    else if bytes_eq f (codes "[method]udp-socket.start-bind") then is_empty net.bind
    else if bytes_eq f (codes "resolve-addresses") then not net.names
    else false

-- the name of each is one interface's alone
abbrev pub is_shut : Policy → Name → Bool
is_shut p f = by_rules p.sockets && is_shut_in p.net f

abbrev pub has_host_call : Policy → ℕ → Name → Bool
has_host_call p interface f = is_hosted (access p interface f) && not (is_shut p f)

-- some call of it reaches the host: the handles that it is given can be the host's
abbrev pub is_needed : Policy → ℕ → PlainNamedFunc → Bool
is_needed p interface f = has_host_call p interface f.name && not (parts_borrow_own p f.ty.params)

-- ---- which of them the application imports

abbrev pub takes : ListedUse → ℕ → ℕ → Bool
takes u interface place = nat_eq interface u.interface && list_any (nat_eq place) u.functions

abbrev pub func_name : PlainNamedFunc → Name
func_name f = f.name

-- some import asks for the function at a place of an interface
abbrev pub is_asked : List ListedUse → ℕ → ℕ → Bool
is_asked uses interface place = list_any (λ u. takes u interface place) uses

abbrev pub is_needed_at : Policy → List ListedUse → ℕ → ℕ → PlainNamedFunc → Bool
is_needed_at p uses interface place f = is_asked uses interface place && is_needed p interface f

abbrev pub if_needed : Policy → List ListedUse → ℕ → ℕ → PlainNamedFunc → List PlainNamedFunc
if_needed p uses interface place f = if is_needed_at p uses interface place f then f ∷ [] else []

-- the needed functions among those of an interface from a place on
abbrev pub needed_from : Policy → List ListedUse → ℕ → ℕ → List PlainNamedFunc → List PlainNamedFunc
needed_from p uses interface place [] = []
needed_from p uses interface place (f ∷ fs) = if_needed p uses interface place f ++ needed_from p uses interface (place + 1) fs

-- the functions of an interface that an output needs, in the order of their numbers
abbrev pub needed_in : Policy → List ListedUse → ℕ → List PlainNamedFunc
needed_in p uses interface = needed_from p uses interface 0 (described interface).functions
