-- How much code stubs have: it bounds the bytes of their module.
use Rattle.std.specs.Prelude.{ℕ, ◌+◌, ◌<◌, ◌≤◌, ◌^◌, List, [], ◌∷◌, Option, Some, None, length}
use Rattle.std.specs.List.{AllByRecursion}
use Rattle.adapter_code.specs.Code.{code_of}
use Rattle.adapter_bytes.specs.Spelled.{statements, AreNumbered}
use Rattle.adapter_stubs.specs.declared.stub.HostFunc.{HostFunc}
use Rattle.adapter_stubs.specs.declared.stub.Stub.{Stub}
use Rattle.adapter_stubs.specs.Widths.{stub_widths}

-- a stub's statements and locals
abbrev pub weight_of : Stub → ℕ
weight_of s = statements (code_of s.before.items) + statements (code_of s.after.items) + length (stub_widths s)

abbrev pub weight_in : List Stub → ℕ
weight_in [] = 0
weight_in (s ∷ ss) = weight_of s + weight_in ss

-- what all stubs may weigh together: 107 bytes for each are fewer than 2^32
abbrev pub most_weight : ℕ
most_weight = 33554432

-- ---- numbers of a stub are numbers of 32 bits

abbrev pub IsNumberedHost : Option HostFunc → Type 0
IsNumberedHost None = Unit {0}
IsNumberedHost (Some h) = h.function < 2 ^ 32

pub record IsNumberedStub (s : Stub) : Type 0 where
  pub before : AreNumbered (code_of s.before.items)
  pub after : AreNumbered (code_of s.after.items)
  pub host : IsNumberedHost s.host

abbrev pub AreNumberedStubs : List Stub → Type 0
AreNumberedStubs stubs = AllByRecursion IsNumberedStub stubs
