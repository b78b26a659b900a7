-- Values as one number each, a word, which is how operands and locals are kept (WebAssembly Core 2.0, section 4.2.1):
-- an integer as it is, null as 0, and a reference to the function at a place as one more than the place.
-- A word is read at the type that validity gives it.
use Rattle.std.specs.Prelude.{ℕ, zero, suc, ◌%◌, ◌^◌, ◌==◌, nat_lt, if◌then◌else◌, List, [], ◌∷◌, map}
use Rattle.virt_base.specs.declared.core_type.CoreType.{CoreType}
use Rattle.virt_base.specs.declared.core_type.CoreType.TheVariants.{I32, I64, Funcref, Externref}
use Rattle.core_store.specs.declared.value.CoreRef.{CoreRef}
use Rattle.core_store.specs.declared.value.CoreRef.TheVariants.{Null, Func}
use Rattle.core_store.specs.declared.value.CoreValue.{CoreValue}
use Rattle.core_store.specs.declared.value.CoreValue.TheVariants as values

abbrev pub word_of_ref : CoreRef → ℕ
word_of_ref Null = 0
word_of_ref (Func f) = suc f

abbrev pub word_of : CoreValue → ℕ
word_of (values.I32 n) = n
word_of (values.I64 n) = n
word_of (values.Ref r) = word_of_ref r

abbrev pub words : List CoreValue → List ℕ
words vs = map word_of vs

-- the word of an i32 is below 2^32
abbrev pub i32_in : ℕ → ℕ
i32_in w = w % 2 ^ 32

-- the word of a reference names one of the store's functions
abbrev pub ref_in : ℕ → ℕ → CoreRef
ref_in functions zero = Null
ref_in functions (suc f) = if nat_lt f functions then Func f else Null

abbrev pub value_in : ℕ → CoreType → ℕ → CoreValue
value_in functions I32 w = values.I32 (i32_in w)
value_in functions I64 w = values.I64 w
value_in functions Funcref w = values.Ref (ref_in functions w)
value_in functions Externref w = values.Ref (ref_in functions w)

abbrev pub values_in : ℕ → List CoreType → List ℕ → List CoreValue
values_in functions [] ws = []
values_in functions (t ∷ ts) [] = []
values_in functions (t ∷ ts) (w ∷ ws) = value_in functions t w ∷ values_in functions ts ws

-- the value of a word in the place of another value of its type
abbrev pub value_like : ℕ → CoreValue → ℕ → CoreValue
value_like functions (values.I32 n) w = values.I32 (i32_in w)
value_like functions (values.I64 n) w = values.I64 w
value_like functions (values.Ref r) w = values.Ref (ref_in functions w)

-- what a test leaves
abbrev pub word_of_bool : ℕ → ℕ
word_of_bool w = if w == 0 then 1 else 0

-- a value of this type
abbrev pub HasType : CoreType → CoreValue → Type 0
HasType I32 (values.I32 n) = Unit {0}
HasType I64 (values.I64 n) = Unit {0}
HasType Funcref (values.Ref r) = Unit {0}
HasType Externref (values.Ref r) = Unit {0}
HasType t v = ⊥

-- values of these types, one each
abbrev pub HaveTypes : List CoreType → List CoreValue → Type 0
HaveTypes [] [] = Unit {0}
HaveTypes [] (v ∷ vs) = ⊥
HaveTypes (t ∷ ts) [] = ⊥
HaveTypes (t ∷ ts) (v ∷ vs) = HasType t v × HaveTypes ts vs
