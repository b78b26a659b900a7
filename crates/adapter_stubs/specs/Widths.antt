-- The locals of a stub.
use Rattle.std.specs.Prelude.{ℕ, zero, suc, ◌+◌, ◌-◌, ◌%◌, max, ◌==◌, if◌then◌else◌, List, [], ◌∷◌, ◌++◌, Bool, true, false, Option, Some, None, map, length}
use Rattle.virt_base.specs.declared.core_type.CoreType.{CoreType}
use Rattle.virt_base.specs.declared.core_type.CoreType.TheVariants.{I32, I64, Funcref, Externref}
use Rattle.adapter_code.specs.declared.statement.Width.{Width}
use Rattle.adapter_code.specs.declared.statement.Width.TheVariants.{Narrow, Broad}
use Rattle.adapter_code.specs.Code.{code_of}
use Rattle.adapter_stubs.specs.Named.{span}
use Rattle.adapter_stubs.specs.declared.stub.HostFunc.{HostFunc}
use Rattle.adapter_stubs.specs.declared.stub.Stub.{Stub}

-- the width of a flat value
abbrev pub width_of : CoreType → Width
width_of I32 = Narrow
width_of I64 = Broad
width_of Funcref = Narrow
width_of Externref = Narrow

-- flat values are integers
abbrev pub IsFlat : CoreType → Type 0
IsFlat I32 = Unit {0}
IsFlat I64 = Unit {0}
IsFlat Funcref = ⊥
IsFlat Externref = ⊥

abbrev pub widths_of : List CoreType → List Width
widths_of ts = map width_of ts

-- further locals from a place on, of 32 and of 64 bits in turn
abbrev pub width_at : ℕ → Width
width_at i = if i % 2 == 0 then Narrow else Broad

abbrev pub further : ℕ → ℕ → List Width
further i zero = []
further i (suc n) = width_at i ∷ further (suc i) n

-- the flat result
abbrev pub result_width : List CoreType → Width
result_width [] = Narrow
result_width (t ∷ ts) = width_of t

abbrev pub gives : List CoreType → Bool
gives [] = false
gives (t ∷ ts) = true

-- what goes to the host's function
abbrev pub host_params : Option HostFunc → List CoreType
host_params None = []
host_params (Some h) = h.flat.params

-- the locals in front of the further ones
abbrev pub first_widths : Stub → List Width
first_widths s = widths_of s.flat.params ++ Narrow ∷ (widths_of (host_params s.host) ++ result_width s.flat.results ∷ [])

-- how many stand after these, up to the greatest that its routines name
abbrev pub further_of : Stub → ℕ
further_of s = max (span (code_of s.before.items)) (span (code_of s.after.items)) - length (first_widths s)

abbrev pub stub_widths : Stub → List Width
stub_widths s = first_widths s ++ further 0 (further_of s)

-- where the flag stands, and the flat result
abbrev pub flag_of : Stub → ℕ
flag_of s = length s.flat.params

abbrev pub result_of : Stub → ℕ
result_of s = flag_of s + 1 + length (host_params s.host)
