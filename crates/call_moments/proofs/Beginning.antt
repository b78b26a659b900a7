-- Plans as they begin: what they leave among flat values, and that they ask for room before they come to memory.
use Rattle.std.proofs.Common.{◌≡◌, ℕ, List, [], ◌∷◌, ◌++◌, length, map, Option, Some, None, Bool, true, false, refl, sym, ap, subst, ◌∙◌, append-nil, arith}
use Rattle.std.specs.Prelude.{nat_lt, if◌then◌else◌}
use Rattle.virt_base.specs.declared.core_type.CoreType.{CoreType}
use Rattle.virt_base.specs.declared.core_type.CoreType.TheVariants.{I32}
use Rattle.core_store.specs.Words.{values_in}
use Rattle.wit_types.specs.Plain.{Plain, PlainFunc}
use Rattle.wit_types.specs.PlainValue.{PlainValue}
use Rattle.wit_types.specs.HasType.{is_of}
use Rattle.wit_types.specs.Layout.{flat, flat_fields}
use Rattle.abi_layout.specs.Functions.{flat_result, core_params, lowered}
use Rattle.abi_layout.specs.Storing.{Step, Ask, Write, Place, Refuse, Base, Target, Answer, FlatItem, lower_flat, spills}
use Rattle.abi_store.specs.Plan.{Plan, Nothing, at_plan, flat_plan, spill_plan, is_due, number_in, core_values}
use Rattle.comp_worlds.specs.Passing.{params_tuple, answer_tuple, answer_parts, most_params, most_results, spills_over}
use Rattle.comp_frames.specs.Within.{IsRoomy, StayWithin}
use Rattle.comp_frames.proofs.Rooms.{flat_within}
use Rattle.comp_frames.proofs.Halts.{begins_within}
use Rattle.comp_frames.proofs.Flats.{AreIntegerTypes, values_same, flat_integers}
use Rattle.instance_state.specs.Passed.{params_plan, result_plan}
use Rattle.call_moments.specs.Functions.{ComesLater}
use Rattle.call_moments.proofs.FlatCounts.{flats_count}

-- what a plan is as it begins, for flat values of these types
pub record BeginsAs (plan : Plan) (due : List CoreType) : Type 0 where
  pub types : plan.types ≡ due
  pub count : length plan.left.flats ≡ length plan.types
  pub numbers : (flats : List FlatItem) → core_values plan.types flats ≡ values_in 0 plan.types (map number_in flats)
  pub later : is_due plan.due ≡ false → (plan.due ≡ Nothing) × ComesLater plan.left.steps
  pub room : (memory : ℕ) → IsRoomy memory plan.due plan.left

-- steps that stay within rooms that are asked for come to none before
asks_first : (steps : List Step) → StayWithin None [] steps → ComesLater steps
asks_first [] w = tt
asks_first (Ask align len ∷ steps) w = tt
asks_first (Write Target offset bytes ∷ steps) w = w.0
asks_first (Write (Answer k) offset bytes ∷ steps) w = absurd (omega (arith, w.0.0))
asks_first (Place Target offset request ∷ steps) w = w.0
asks_first (Place (Answer k) offset request ∷ steps) w = absurd (omega (arith, w.0.0))
asks_first (Refuse ∷ steps) w = tt

flat_begins : (ty : Plain) (v : PlainValue) → is_of ty v ≡ true → BeginsAs (flat_plan ty v) (flat ty)
flat_begins ty v typed = record {
  types = refl;
  count = flats_count ty v 0 typed;
  numbers = λ flats. values_same (flat ty) flats (flat_integers ty);
  later = λ e. (refl, asks_first (lower_flat ty v 0).steps (flat_within None ty [] v 0 refl));
  room = λ memory. (begins_within memory 0 ty v).1;
}

spill_begins : (ty : Plain) (v : PlainValue) → BeginsAs (spill_plan ty v) (I32 ∷ [])
spill_begins ty v = record {
  types = refl;
  count = refl;
  numbers = λ flats. values_same (I32 ∷ []) flats (tt, tt);
  later = λ e. (refl, tt);
  room = λ memory. (begins_within memory 0 ty v).2;
}

at_begins : (at : ℕ) (ty : Plain) (v : PlainValue) → BeginsAs (at_plan at ty v) []
at_begins at ty v = record {
  types = refl;
  count = refl;
  numbers = λ flats. refl;
  later = λ e. absurd (cc);
  room = λ memory. (begins_within memory at ty v).0;
}

-- the flat types of the result alone
one_flat : (a : Option Plain) → flat_fields (answer_parts a) ≡ flat_result a
one_flat None = refl
one_flat (Some ty) = append-nil (flat ty)

pub params_begin : (f : PlainFunc) (v : PlainValue) → is_of (params_tuple f) v ≡ true → BeginsAs (params_plan (params_tuple f) v) (core_params f)
params_begin f v typed = go (spills_over most_params (params_tuple f)) refl
  where
    go : (b : Bool) → spills_over most_params (params_tuple f) ≡ b → BeginsAs (params_plan (params_tuple f) v) (core_params f)
    go true e =
        subst (λ c. BeginsAs (if c then spill_plan (params_tuple f) v else flat_plan (params_tuple f) v) (if c then I32 ∷ [] else flat_fields f.params)) (sym e) (spill_begins (params_tuple f) v)
    go false e =
        subst (λ c. BeginsAs (if c then spill_plan (params_tuple f) v else flat_plan (params_tuple f) v) (if c then I32 ∷ [] else flat_fields f.params)) (sym e) (flat_begins (params_tuple f) v typed)

pub result_begin : (f : PlainFunc) (at : ℕ) (v : PlainValue) → is_of (answer_tuple f) v ≡ true → BeginsAs (result_plan (answer_tuple f) at v) (lowered f).results
result_begin f at v typed =
    subst (λ ts. BeginsAs (result_plan (answer_tuple f) at v) (if nat_lt 1 (length ts) then [] else ts)) (one_flat f.answer) (go (spills_over most_results (answer_tuple f)) refl)
  where
    go : (b : Bool) → spills_over most_results (answer_tuple f) ≡ b → BeginsAs (result_plan (answer_tuple f) at v) (if nat_lt 1 (length (flat_fields (answer_parts f.answer))) then [] else flat_fields (answer_parts f.answer))
    go true e =
        subst (λ c. BeginsAs (if c then at_plan at (answer_tuple f) v else flat_plan (answer_tuple f) v) (if c then [] else flat_fields (answer_parts f.answer))) (sym e) (at_begins at (answer_tuple f) v)
    go false e =
        subst (λ c. BeginsAs (if c then at_plan at (answer_tuple f) v else flat_plan (answer_tuple f) v) (if c then [] else flat_fields (answer_parts f.answer))) (sym e) (flat_begins (answer_tuple f) v typed)
