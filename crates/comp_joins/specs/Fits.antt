-- What canonical functions need of the store of their instance (Component Model, CanonicalABI.md, "Flattening", "canon lift" and
-- "canon lower"): core functions are there and have the flattened types, and options fit.
use Rattle.std.specs.Prelude.{◌≡◌, ℕ, ◌<◌, List, [], length, Bool, true, is_some, Option, Some, None, slice_get}
use Rattle.std.specs.List.{All}
use Rattle.wasm_ast.specs.declared.module.CoreFunc.{CoreFunc}
use Rattle.wasm_ast.specs.declared.module.Module.{Module}
use Rattle.core_body.specs.Context.{arrow}
use Rattle.core_validate.specs.Validity.{IsValidModule}
use Rattle.core_store.specs.State.{State}
use Rattle.core_instance.specs.declared.external.Extern.{Extern}
use Rattle.core_instance.specs.Spaces.{IsThere}
use Rattle.core_instance.specs.Instantiation.{allocated, instance_of}
use Rattle.core_instance.specs.Matching.{HasCounts, IsOfType, ImportsMatch}
use Rattle.comp_facts.specs.Needs.{needs_memory, lift_needs_realloc, lower_needs_realloc}
use Rattle.comp_types.specs.Flat.{lifted_type, lowered_type}
use Rattle.comp_types.specs.Rules.{post_return_type, realloc_type}
use Rattle.wit_types.specs.Plain.{PlainFunc}
use Rattle.comp_worlds.specs.Groups.{Options, Lifting}

-- a function of this type is at the place
abbrev pub HasCode : State → ℕ → CoreFunc → Type 0
HasCode s at ty = IsOfType (Some ty) (slice_get s.functions at)

abbrev pub HasCodeIfAny : State → Option ℕ → CoreFunc → Type 0
HasCodeIfAny s None ty = Unit {0}
HasCodeIfAny s (Some at) ty = HasCode s at ty

abbrev pub HasMemoryIfAny : State → Option ℕ → Type 0
HasMemoryIfAny s None = Unit {0}
HasMemoryIfAny s (Some at) = at < length s.memories

-- what is named is there, and so is what is due
pub record OptionsFit (s : State) (memory_due realloc_due : Bool) (o : Options) : Type 0 where
  pub memory : HasMemoryIfAny s o.memory
  pub has_memory : memory_due ≡ true → is_some o.memory ≡ true
  pub realloc : HasCodeIfAny s o.realloc realloc_type
  pub has_realloc : realloc_due ≡ true → is_some o.realloc ≡ true

pub record LiftingFits (s : State) (l : Lifting) : Type 0 where
  pub code : HasCode s l.code (lifted_type l.ty)
  pub options : OptionsFit s (needs_memory l.ty) (lift_needs_realloc l.ty) l.options
  pub post : HasCodeIfAny s l.post (post_return_type l.ty)

-- a core function of this type that is lowered from a function of that one, which is the type of what is called
pub record LoweringFits (s : State) (ty : CoreFunc) (called : PlainFunc) (o : Options) : Type 0 where
  pub code : ty ≡ lowered_type called
  pub options : OptionsFit s (needs_memory called) (lower_needs_realloc called) o

-- a module can be instantiated with these imports, and its start function takes and gives nothing
pub record ModuleFits (s : State) (m : Module) (imports : List Extern) : Type 0 where
  pub valid : IsValidModule m
  pub counts : HasCounts m
  pub imports_match : ImportsMatch s m imports
  pub imports_there : All (IsThere s) imports
  pub start : HasCodeIfAny (allocated s m imports) (instance_of s m imports).start (arrow [] [])
