-- The listed interfaces by their numbers, and their functions, which are numbered in the order of the interfaces.
use Rattle.std.specs.Prelude.{◌≡◌, ℕ, zero, suc, ◌+◌, ◌-◌, ◌<◌, List, [], ◌∷◌, ◌++◌, Option, Some, length, slice_get, get_or, if◌then◌else◌, nat_lt}
use Rattle.wit_types.specs.Plain.{Name}
use Rattle.wasi_table.specs.Plain.{PlainInterface, PlainNamedFunc, plain_named_func}
use Rattle.wasi_listed.specs.IoListed.{described as described_io}
use Rattle.wasi_listed.specs.FsListed.{described as described_fs}
use Rattle.wasi_listed.specs.NetListed.{described as described_net}
use Rattle.wasi_listed.specs.declared.ListedFunction.{ListedFunction}

-- the interface with a number
unfoldable pub described : ℕ → PlainInterface
described number = if nat_lt number 18 then described_io number else (if nat_lt number 20 then described_fs number else described_net number)

-- a function, its interface and its place in it
pub record PlainListed : Type 0 where
  pub interface : ℕ
  pub place : ℕ
  pub function : PlainNamedFunc

abbrev pub plain_listed : ListedFunction → PlainListed
plain_listed f = record { interface = f.interface; place = f.place; function = plain_named_func f.function }

-- the functions of an interface, from this place on
abbrev pub placed : ℕ → ℕ → List PlainNamedFunc → List PlainListed
placed interface place [] = []
placed interface place (f ∷ fs) = record { interface = interface; place = place; function = f } ∷ placed interface (place + 1) fs

-- those of that many interfaces, from this one on
unfoldable pub functions_from : ℕ → ℕ → List PlainListed
functions_from zero interface = []
functions_from (suc count) interface = placed interface 0 (described interface).functions ++ functions_from count (interface + 1)

-- the function with a number
unfoldable pub listed : ℕ → Option PlainListed
listed number = slice_get (functions_from 27 0) number

-- what place a function with a number has
pub record IsPlace (number interface place : ℕ) : Type 0 where
  pub there : interface < 27
  pub inside : place < length (described interface).functions
  pub is : (d : PlainNamedFunc) → listed number ≡ Some (record { interface = interface; place = place; function = get_or (described interface).functions place d })
