-- With other numbers of resources, and other names of parameters, a function has the same flattened type, and needs the same options.
use Rattle.std.proofs.Common.{◌≡◌, ◌∙◌, ℕ, List, [], ◌∷◌, ◌++◌, length, cond, Bool, Option, Some, None, refl, sym, ap}
use Rattle.std.specs.Prelude.{nat_lt, ◌||◌}
use Rattle.virt_base.specs.declared.core_type.CoreType.{CoreType}
use Rattle.virt_base.specs.declared.core_type.CoreType.TheVariants.{I32}
use Rattle.wasm_ast.specs.declared.module.CoreFunc.{CoreFunc}
use Rattle.wit_types.specs.Plain.{Plain, Parts, PlainFunc, ListType, RecordType, VariantType, End, More, Bare}
use Rattle.wit_types.specs.Layout.{flat_fields}
use Rattle.abi_layout.specs.Functions.{flat_result}
use Rattle.comp_facts.specs.Needs.{is_pointed, is_pointed_in, is_pointed_answer, needs_memory, lift_needs_realloc, lower_needs_realloc}
use Rattle.comp_types.specs.Substitution.{value_with, parts_with, answer_with, func_with}
use Rattle.comp_types.specs.Flat.{lifted_type, lowered_type}
use Rattle.comp_types.specs.Rules.{post_return_type}
use Rattle.comp_inside.proofs.Types.{flat_with}
use Rattle.comp_link.specs.Exports.{no_number, nameless, passing}

abbrev params_of : List CoreType → List CoreType
params_of ps = cond (nat_lt 16 (length ps)) (I32 ∷ []) ps

abbrev lifted_of : List CoreType → List CoreType → CoreFunc
lifted_of ps rs = record { params = params_of ps; results = cond (nat_lt 1 (length rs)) (I32 ∷ []) rs }

abbrev lowered_of : List CoreType → List CoreType → CoreFunc
lowered_of ps rs = record { params = params_of ps ++ cond (nat_lt 1 (length rs)) (I32 ∷ []) []; results = cond (nat_lt 1 (length rs)) [] rs }

-- the reasons to need a memory
abbrev needs_of : (params answer : Bool) (ps rs : List CoreType) → Bool
needs_of params answer ps rs = (params || answer) || (nat_lt 16 (length ps) || nat_lt 1 (length rs))

module _ (f : ℕ → ℕ) where
  mutual
    value_pointed : (ty : Plain) → is_pointed (value_with f ty) ≡ is_pointed ty
    value_pointed (ListType item) = refl
    value_pointed (RecordType form ps) = parts_pointed ps
    value_pointed (VariantType form ps) = parts_pointed ps
    value_pointed _ = refl

    parts_pointed : (ps : Parts) → is_pointed_in (parts_with f ps) ≡ is_pointed_in ps
    parts_pointed End = refl
    parts_pointed (More name ty rest) = (λ i. value_pointed ty i || parts_pointed rest i)
    parts_pointed (Bare name rest) = parts_pointed rest

  answer_pointed : (a : Option Plain) → is_pointed_answer (answer_with f a) ≡ is_pointed_answer a
  answer_pointed None = refl
  answer_pointed (Some ty) = value_pointed ty

  params_flat : (ps : Parts) → flat_fields (parts_with f ps) ≡ flat_fields ps
  params_flat End = refl
  params_flat (More name ty rest) = (λ i. flat_with f ty i ++ params_flat rest i)
  params_flat (Bare name rest) = params_flat rest

  answer_flat : (a : Option Plain) → flat_result (answer_with f a) ≡ flat_result a
  answer_flat None = refl
  answer_flat (Some ty) = flat_with f ty

  pub lifted_with : (ty : PlainFunc) → lifted_type (func_with f ty) ≡ lifted_type ty
  lifted_with ty = (λ i. lifted_of (params_flat ty.params i) (answer_flat ty.answer i))

  pub post_with : (ty : PlainFunc) → post_return_type (func_with f ty) ≡ post_return_type ty
  post_with ty = ap (λ (g : CoreFunc). let post : CoreFunc = record { params = g.results; results = [] } in post) (lifted_with ty)

  pub memory_with : (ty : PlainFunc) → needs_memory (func_with f ty) ≡ needs_memory ty
  memory_with ty = (λ i. needs_of (parts_pointed ty.params i) (answer_pointed ty.answer i) (params_flat ty.params i) (answer_flat ty.answer i))

  pub lift_realloc_with : (ty : PlainFunc) → lift_needs_realloc (func_with f ty) ≡ lift_needs_realloc ty
  lift_realloc_with ty = (λ i. parts_pointed ty.params i || nat_lt 16 (length (params_flat ty.params i)))

-- ---- functions by which the same passes

nameless_pointed : (ps : Parts) → is_pointed_in (nameless ps) ≡ is_pointed_in ps
nameless_pointed End = refl
nameless_pointed (More name ty rest) = (λ i. value_pointed no_number ty i || nameless_pointed rest i)
nameless_pointed (Bare name rest) = nameless_pointed rest

nameless_flat : (ps : Parts) → flat_fields (nameless ps) ≡ flat_fields ps
nameless_flat End = refl
nameless_flat (More name ty rest) = (λ i. flat_with no_number ty i ++ nameless_flat rest i)
nameless_flat (Bare name rest) = nameless_flat rest

-- what a function gives that depends on what passes alone
alike : {A : Type 0} → (f : PlainFunc → A) → ((ty : PlainFunc) → f (passing ty) ≡ f ty) → (a b : PlainFunc) → passing a ≡ passing b → f a ≡ f b
alike f stays a b same = sym (stays a) ∙ (ap f same ∙ stays b)

pub lowered_alike : (a b : PlainFunc) → passing a ≡ passing b → lowered_type a ≡ lowered_type b
lowered_alike = alike lowered_type (λ ty. (λ i. lowered_of (nameless_flat ty.params i) (answer_flat no_number ty.answer i)))

pub memory_alike : (a b : PlainFunc) → passing a ≡ passing b → needs_memory a ≡ needs_memory b
memory_alike = alike needs_memory (λ ty. (λ i. needs_of (nameless_pointed ty.params i) (answer_pointed no_number ty.answer i) (nameless_flat ty.params i) (answer_flat no_number ty.answer i)))

pub lower_realloc_alike : (a b : PlainFunc) → passing a ≡ passing b → lower_needs_realloc a ≡ lower_needs_realloc b
lower_realloc_alike = alike lower_needs_realloc (λ ty. answer_pointed no_number ty.answer)
