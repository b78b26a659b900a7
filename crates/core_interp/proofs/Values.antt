-- Values of words, and stores whose globals change.
use Rattle.std.proofs.Common.{◌≡◌, ℕ, zero, suc, length, length-set, refl, ap, sym, Bool, true, false}
use Rattle.std.specs.Prelude.{nat_lt, slice_set, if◌then◌else◌}
use borrow.Author.Tests.{ltb-true}
use Rattle.core_store.specs.declared.value.CoreRef.TheVariants.{Null, Func}
use Rattle.core_store.specs.declared.value.CoreValue.{CoreValue}
use Rattle.core_store.specs.declared.value.CoreValue.TheVariants.{I32, I64, Ref}
use Rattle.core_store.specs.Table.{IsRef}
use Rattle.core_store.specs.State.{State, IsStoreRef, IsStoreValue, IsSameType}
use Rattle.core_store.specs.Words.{ref_in, value_like}
use Rattle.core_store.specs.Scene.{scene_of}
use Rattle.core_interp.specs.Plains.{Stays}

chosen_names : (n f : ℕ) (b : Bool) → nat_lt f n ≡ b → IsRef n (if b then Func f else Null)
chosen_names n f true e = ltb-true f n e
chosen_names n f false e = tt

ref_in_names : (n w : ℕ) → IsRef n (ref_in n w)
ref_in_names n zero = tt
ref_in_names n (suc f) = chosen_names n f (nat_lt f n) refl

pub ref_names : (s : State) (w : ℕ) → IsStoreRef s (ref_in (length s.functions) w)
ref_names s w = ref_in_names (length s.functions) w

pub like_names : (n : ℕ) (old : CoreValue) (w : ℕ) → IsStoreValue n (value_like n old w)
like_names n (I32 m) w = tt
like_names n (I64 m) w = tt
like_names n (Ref r) w = ref_in_names n w

pub like_same : (n : ℕ) (old : CoreValue) (w : ℕ) → IsSameType old (value_like n old w)
like_same n (I32 m) w = tt
like_same n (I64 m) w = tt
like_same n (Ref r) w = tt

-- a global changes
pub stays_globals : (s : State) (k : ℕ) (v : CoreValue) → Stays s (record s { globals = slice_set s.globals k v })
stays_globals s k v = record { scene = ap (λ (n : ℕ). record (scene_of s) { globals = n }) (sym (length-set s.globals k v)); nesting = refl }
