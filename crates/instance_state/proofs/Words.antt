-- The numbers of flat values, which are integers.
use Rattle.std.proofs.Common.{◌≡◌, ℕ, List, [], ◌∷◌, refl, ap}
use Rattle.core_store.specs.declared.value.CoreValue.{CoreValue}
use Rattle.core_store.specs.declared.value.CoreValue.TheVariants as values
use Rattle.core_store.specs.Words.{words}
use Rattle.abi_load.specs.Lifted.{words as numbers}

abbrev pub AreIntegers : List CoreValue → Type 0
AreIntegers [] = Unit {0}
AreIntegers (values.I32 n ∷ vs) = AreIntegers vs
AreIntegers (values.I64 n ∷ vs) = AreIntegers vs
AreIntegers (values.Ref r ∷ vs) = ⊥

pub words_same : (vs : List CoreValue) → AreIntegers vs → numbers vs ≡ words vs
words_same [] h = refl
words_same (values.I32 n ∷ vs) h = ap (λ (ns : List ℕ). n ∷ ns) (words_same vs h)
words_same (values.I64 n ∷ vs) h = ap (λ (ns : List ℕ). n ∷ ns) (words_same vs h)
words_same (values.Ref r ∷ vs) h = absurd h
