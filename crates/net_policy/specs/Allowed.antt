-- Addresses as values of WASI, and the test of which rules allow one.
use Rattle.std.specs.Prelude.{ℕ, zero, suc, nat_abs, nat_le, Bool, true, false, ◌&&◌, List, [], ◌∷◌}
use Rattle.std.specs.List.{list_any}
use Rattle.policy_data.specs.declared.data.PortRange.{PortRange}
use Rattle.policy_data.specs.declared.data.Rule.{Rule}
use Rattle.policy_data.specs.Addresses.{Address, address_bits}
use Rattle.wit_types.specs.PlainValue.{PlainValue, PlainValues, Payload, IntValue, RecordValue, VariantValue, End, More, Without, With}

-- ---- the address that a value of the type ip-socket-address is (wasi:sockets/network 0.2); flow-info and scope-id don't count

abbrev pub number_in : PlainValue → ℕ
number_in (IntValue n) = nat_abs n
number_in _ = 0

abbrev pub all_numbers : PlainValues → List ℕ
all_numbers End = []
all_numbers (More v vs) = number_in v ∷ all_numbers vs

-- the field at a place, from 0
abbrev pub field_at : ℕ → PlainValues → PlainValue
field_at n End = RecordValue End
field_at zero (More v vs) = v
field_at (suc n) (More v vs) = field_at n vs

abbrev pub record_values : PlainValue → PlainValues
record_values (RecordValue vs) = vs
record_values _ = End

abbrev pub fields_in : Payload → PlainValues
fields_in Without = End
fields_in (With v) = record_values v

abbrev pub numbers_in : PlainValue → List ℕ
numbers_in v = all_numbers (record_values v)

abbrev pub address_of : Bool → PlainValues → ℕ → Address
address_of six numbers port = record { six = six; numbers = all_numbers numbers; port = port }

-- an address of IPv4 has a port and numbers, one of IPv6 a port, flow-info, numbers and scope-id
abbrev pub address_by : ℕ → PlainValues → Address
address_by zero fields = record { six = false; numbers = numbers_in (field_at 1 fields); port = number_in (field_at 0 fields) }
address_by (suc n) fields = record { six = true; numbers = numbers_in (field_at 2 fields); port = number_in (field_at 0 fields) }

abbrev pub address_in : PlainValue → Address
address_in (VariantValue family payload) = address_by family (fields_in payload)
address_in _ = address_by 0 End

-- ---- the test

abbrev pub same_bit : Bool → Bool → Bool
same_bit true b = b
same_bit false true = false
same_bit false false = true

-- whether two lists begin alike, for that many bits
abbrev pub same_front : ℕ → List Bool → List Bool → Bool
same_front zero xs ys = true
same_front (suc n) [] [] = true
same_front (suc n) [] (b ∷ ys) = false
same_front (suc n) (a ∷ xs) [] = false
same_front (suc n) (a ∷ xs) (b ∷ ys) = same_bit a b && same_front n xs ys

abbrev pub is_in_network : Rule → Address → Bool
is_in_network rule address = same_bit rule.six address.six && same_front rule.length (address_bits rule.six rule.numbers) (address_bits address.six address.numbers)

abbrev pub holds_port : ℕ → PortRange → Bool
holds_port port range = nat_le range.from port && nat_le port range.to

abbrev pub allows_one : Address → Rule → Bool
allows_one address rule = is_in_network rule address && list_any (holds_port address.port) rule.ports

-- whether some rule allows the address
abbrev pub is_allowed : List Rule → Address → Bool
is_allowed rules address = list_any (allows_one address) rules
