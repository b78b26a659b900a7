-- Interfaces as trees of names and types.
use Rattle.std.specs.Prelude.{ℕ, List, map}
use Rattle.wit_types.specs.Plain.{Name, Plain, PlainFunc, plain, plain_func}
use Rattle.wasi_table.specs.declared.interface.Meaning.{Meaning}
use Rattle.wasi_table.specs.declared.interface.Meaning.TheVariants.{Value, Kind}
use Rattle.wasi_table.specs.declared.interface.NamedType.{NamedType}
use Rattle.wasi_table.specs.declared.interface.NamedFunc.{NamedFunc}
use Rattle.wasi_table.specs.declared.interface.Use.{Use}
use Rattle.wasi_table.specs.declared.interface.Known.{Known}
use Rattle.wasi_table.specs.declared.interface.Interface.{Interface}

-- what the name of a type stands for: a type, or a kind of resources
pub data PlainMeaning : Type 0 where
  IsType : (ty : Plain) → PlainMeaning
  IsKind : (kind : ℕ) → PlainMeaning

-- a named type, with the names in it
pub record PlainNamed : Type 0 where
  pub name : Name
  pub meaning : PlainMeaning
  pub names : List Name

-- a function, with the names in its type
pub record PlainNamedFunc : Type 0 where
  pub name : Name
  pub ty : PlainFunc
  pub names : List Name

-- a named type and the interface that defines it
pub record PlainKnown : Type 0 where
  pub interface : ℕ
  pub named : PlainNamed

pub record PlainInterface : Type 0 where
  pub name : Name
  pub uses : List Use
  pub types : List PlainNamed
  pub functions : List PlainNamedFunc

abbrev pub plain_meaning : Meaning → PlainMeaning
plain_meaning (Value ty) = IsType (plain ty)
plain_meaning (Kind kind) = IsKind kind

abbrev pub plain_named : NamedType → PlainNamed
plain_named t = record { name = t.name; meaning = plain_meaning t.meaning; names = t.names }

abbrev pub plain_named_func : NamedFunc → PlainNamedFunc
plain_named_func f = record { name = f.name; ty = plain_func f.ty; names = f.names }

abbrev pub plain_known : Known → PlainKnown
plain_known k = record { interface = k.interface; named = plain_named k.named }

abbrev pub plain_interface : Interface → PlainInterface
plain_interface i = record { name = i.name; uses = i.uses; types = map plain_named i.types; functions = map plain_named_func i.functions }
