-- Parameters pass as a record just as they pass as a tuple.
use Rattle.std.proofs.Common.{◌≡◌, ◌∙◌, ℕ, List, Option, Global, ap, refl}
use Rattle.std.specs.declared.rc.Rc.{Rc}
use Rattle.wit_types.specs.declared.types.Fields.{Fields, out-Fields}
use Rattle.wit_types.specs.declared.types.Types.{Types}
use Rattle.wit_types.specs.declared.types.FuncType.{FuncType}
use Rattle.wit_types.specs.declared.types.WitType.{WitType}
use Rattle.wit_types.specs.declared.types.WitType.TheVariants.{Record, Tuple}
use Rattle.wit_types.specs.Plain.{plain, plain_func, plain_result, fields_of, types_of, PlainFunc, RecordType, AsRecord, AsTuple}
use Rattle.abi_load.proofs.Sizes.{plain_is-Record, plain_is-Tuple}
use Rattle.wit_types.specs.PlainValue.{PlainValue}
use Rattle.abi_layout.specs.Handles.{renumbered}
use Rattle.comp_worlds.specs.Passing.{Passed, params_tuple, answer_parts, answer_tuple, handles_of, lower_params}
use Rattle.comp_worlds.specs.Hosts.{passed_by}
use Rattle.comp_worlds.specs.Groups.{Options, Config}
use Rattle.comp_worlds.specs.Locals.{lifts}

pub lifts_as_tuple : (most : ℕ) (f : PlainFunc) (options : Options) (ws : List ℕ) (c : Config ℕ) → lifts most (RecordType AsRecord f.params) options ws c ≡ lifts most (params_tuple f) options ws c
lifts_as_tuple most f options ws c = refl

pub passed_as_tuple : (f : PlainFunc) (v : PlainValue) → passed_by (RecordType AsRecord f.params) v ≡ passed_by (params_tuple f) v
passed_as_tuple f v = refl

pub handles_as_tuple : (f : PlainFunc) (p : Passed ℕ) → handles_of (RecordType AsRecord f.params) p ≡ handles_of (params_tuple f) p
handles_as_tuple f p = refl

pub renumbered_as_tuple : (f : PlainFunc) (v : PlainValue) (ns : List ℕ) → renumbered (RecordType AsRecord f.params) v ns ≡ renumbered (params_tuple f) v ns
renumbered_as_tuple f v ns = refl

pub lowers_as_tuple : (f : PlainFunc) (v : PlainValue) → lower_params (RecordType AsRecord f.params) v ≡ lower_params (params_tuple f) v
lowers_as_tuple f v = refl

-- ---- the types of a function

pub record_params : (rc : Rc Fields Global) (params : Fields) (f : FuncType) (g : PlainFunc) → rc.value ≡ params → params ≡ f.params → plain_func f ≡ g → plain (Record rc) ≡ RecordType AsRecord g.params
record_params rc params f g h k e =
    plain_is-Record (Record rc) rc rc.value _ refl refl refl ∙ ap (λ (x : Fields). RecordType AsRecord (fields_of (out-Fields x).items.items)) (h ∙ k) ∙ ap (λ (x : PlainFunc). RecordType AsRecord x.params) e

pub tuple_result : (rc : Rc Types Global) (answer : Types) (result : Option WitType) (f : FuncType) (g : PlainFunc) → rc.value ≡ answer → types_of answer.items.items ≡ answer_parts (plain_result result) → result ≡ f.result → plain_func f ≡ g → plain (Tuple rc) ≡ answer_tuple g
tuple_result rc answer result f g h k same e =
    plain_is-Tuple (Tuple rc) rc rc.value _ refl refl refl ∙ ap (λ (x : Types). RecordType AsTuple (types_of x.items.items)) h ∙ ap (RecordType AsTuple) (k ∙ ap (λ (r : Option WitType). answer_parts (plain_result r)) same) ∙ ap answer_tuple e
