-- Core values that are words of 32 bits.
use Rattle.std.specs.Prelude.{ℕ, List, [], ◌∷◌, Option, Some, None}
use Rattle.core_store.specs.declared.value.CoreValue.{CoreValue}
use Rattle.core_store.specs.declared.value.CoreValue.TheVariants.{I32, I64, Ref}

-- a value as a word, or 0
abbrev pub word_in : Option CoreValue → ℕ
word_in None = 0
word_in (Some (I32 w)) = w
word_in (Some (I64 w)) = 0
word_in (Some (Ref r)) = 0

abbrev pub word_if : CoreValue → Option ℕ
word_if (I32 w) = Some w
word_if (I64 w) = None
word_if (Ref r) = None

abbrev pub only_word_in : List CoreValue → Option ℕ
only_word_in [] = None
only_word_in (v ∷ []) = word_if v
only_word_in (v ∷ x ∷ xs) = None
