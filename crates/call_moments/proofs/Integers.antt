-- Values of flat types are integers, so that lifting reads the numbers that the definition reads.
use Rattle.std.proofs.Common.{List, [], ◌∷◌, ◌++◌, Bool, true, false, Option, Some, None}
use Rattle.std.specs.Prelude.{if◌then◌else◌}
use Rattle.virt_base.specs.declared.core_type.CoreType.{CoreType}
use Rattle.virt_base.specs.declared.core_type.CoreType.TheVariants.{I32, I64, Funcref, Externref}
use Rattle.core_store.specs.Words.{HaveTypes}
use Rattle.core_store.specs.declared.value.CoreValue.{CoreValue}
use Rattle.core_store.specs.declared.value.CoreValue.TheVariants as values
use Rattle.wit_types.specs.Plain.{Plain, PlainFunc}
use Rattle.wit_types.specs.Layout.{flat_fields}
use Rattle.abi_layout.specs.Functions.{flat_result, params_spill, result_spills, core_params, lifted, lowered}
use Rattle.comp_frames.proofs.Flats.{AreIntegerTypes, flat_integers, fields_integers}
use Rattle.instance_state.proofs.Words.{AreIntegers}

integers_of : (ts : List CoreType) (vs : List CoreValue) → AreIntegerTypes ts → HaveTypes ts vs → AreIntegers vs
integers_of ts [] h typed = tt
integers_of [] (v ∷ vs) h typed = absurd typed
integers_of (t ∷ ts) (values.I32 n ∷ vs) h typed = integers_of ts vs h.1 typed.1
integers_of (t ∷ ts) (values.I64 n ∷ vs) h typed = integers_of ts vs h.1 typed.1
integers_of (I32 ∷ ts) (values.Ref r ∷ vs) h typed = absurd typed.0
integers_of (I64 ∷ ts) (values.Ref r ∷ vs) h typed = absurd typed.0
integers_of (Funcref ∷ ts) (values.Ref r ∷ vs) h typed = absurd h.0
integers_of (Externref ∷ ts) (values.Ref r ∷ vs) h typed = absurd h.0

joined : (xs ys : List CoreType) → AreIntegerTypes xs → AreIntegerTypes ys → AreIntegerTypes (xs ++ ys)
joined [] ys h k = k
joined (x ∷ xs) ys h k = (h.0, joined xs ys h.1 k)

chosen : (b : Bool) (xs ys : List CoreType) → AreIntegerTypes xs → AreIntegerTypes ys → AreIntegerTypes (if b then xs else ys)
chosen true xs ys h k = h
chosen false xs ys h k = k

result_integers : (o : Option Plain) → AreIntegerTypes (flat_result o)
result_integers None = tt
result_integers (Some ty) = flat_integers ty

pub params_are_integers : (ty : PlainFunc) (vs : List CoreValue) → HaveTypes (lowered ty).params vs → AreIntegers vs
params_are_integers ty vs typed =
    integers_of (lowered ty).params vs
    (joined (core_params ty) (if result_spills ty then I32 ∷ [] else []) (chosen (params_spill ty) (I32 ∷ []) (flat_fields ty.params) (tt, tt) (fields_integers ty.params)) (chosen (result_spills ty) (I32 ∷ []) [] (tt, tt) tt)) typed

pub results_are_integers : (ty : PlainFunc) (vs : List CoreValue) → HaveTypes (lifted ty).results vs → AreIntegers vs
results_are_integers ty vs typed = integers_of (lifted ty).results vs (chosen (result_spills ty) (I32 ∷ []) (flat_result ty.answer) (tt, tt) (result_integers ty.answer)) typed
