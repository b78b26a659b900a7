-- What loading reads of a store.
use Rattle.std.specs.Prelude.{ℕ, ◌+◌, nat_lt, if◌then◌else◌, List, Option, Some, None, option_map, option_and_then}
use Rattle.core_store.specs.State.{State, memory_at}
use Rattle.core_memory.specs.declared.fault.StoreFault.{StoreFault}
use Rattle.core_memory.specs.declared.fault.StoreFault.TheVariants.{Trap, NoMemory}
use Rattle.abi_load.specs.declared.fault.LoadFault.{LoadFault}
use Rattle.abi_load.specs.declared.fault.LoadFault.TheVariants as faults
use Rattle.wit_types.specs.Plain.{Plain, Parts}
use Rattle.wit_types.specs.PlainValue.{PlainValue, VariantValue, Payload, Without, With}
use Rattle.wit_types.specs.Layout.{discriminant_size, count}
use Rattle.abi_layout.specs.Loading.{read, loads_at, case_at, payload_offset}

-- the bytes of a memory
abbrev pub bytes_at : State → ℕ → List ℕ
bytes_at store memory = (memory_at store memory).bytes

abbrev pub fault_of : StoreFault → LoadFault
fault_of Trap = faults.Trap
fault_of NoMemory = faults.NoMemory

-- the payload of a case that has one of this type, or none
abbrev pub payload_at : List ℕ → Option Plain → ℕ → Option Payload
payload_at memory None at = Some Without
payload_at memory (Some ty) at = option_map With (loads_at memory ty at)

-- the variant of a case with this payload
abbrev pub chosen_at : List ℕ → ℕ → Option Plain → ℕ → Option PlainValue
chosen_at memory number payload at = option_map (VariantValue number) (payload_at memory payload at)

-- the variant of these cases at a place, however its type is written
abbrev pub variant_at : List ℕ → Parts → ℕ → Option PlainValue
variant_at memory cases at =
    option_and_then (λ n. option_map (VariantValue n) (case_at memory cases n (at + payload_offset cases))) (read memory at (discriminant_size (count cases)))

-- the variant of that many cases without payloads
abbrev pub enum_at : List ℕ → ℕ → ℕ → Option PlainValue
enum_at memory labels at =
    option_and_then (λ n. if nat_lt n labels then Some (VariantValue n Without) else None) (read memory at (discriminant_size labels))
