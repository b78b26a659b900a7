-- Types in words. A form stands in front of its parts, a name stands for what is known by it.
use Rattle.std.specs.Prelude.{List, [], ◌∷◌, ◌++◌, Option, Some, None, option_map, map, reverse, take, drop}
use Rattle.std.specs.List.{find}
use Rattle.std.specs.Str.{bytes_eq}
use Rattle.wit_types.specs.Plain.{Name, Plain, Parts, OneByte, TwoBytes, FourBytes, EightBytes, AsTuple, AsOption, AsResult, BoolType, UnsignedType, StringType, ListType, RecordType, VariantType, OwnType, BorrowType, End, More, Bare, case_part}
use Rattle.wasi_table.specs.declared.interface.Meaning.{Meaning}
use Rattle.wasi_table.specs.declared.forms.Form.{Form}
use Rattle.wasi_table.specs.declared.forms.Form.TheVariants.{Absent, Bool, U8, U16, U32, U64, Str, List as ListForm, Option as OptionForm, Result, Tuple, Own, Borrow, Arrow}
use Rattle.wasi_table.specs.Texts.{Line}
use Rattle.wasi_table.specs.Forms.{form_named}
use Rattle.wasi_table.specs.Plain.{PlainMeaning, IsType, IsKind, PlainKnown, plain_meaning}

-- what words stand for, one after another; none is a payload that is not there, or what cannot be told
abbrev pub Operand : Type 0
Operand = Option PlainMeaning

-- operands that are kept with the first at the end
abbrev pub operands : List (Option Meaning) → List Operand
operands items = reverse (map (option_map plain_meaning) items)

abbrev pub first : List Operand → Operand
first [] = None
first (x ∷ xs) = x

abbrev pub others : List Operand → List Operand
others [] = []
others (x ∷ xs) = xs

-- the type that an operand is
abbrev pub type_in : Operand → Option Plain
type_in None = None
type_in (Some (IsType ty)) = Some ty
type_in (Some (IsKind kind)) = None

abbrev pub list_of : Operand → Operand
list_of o = option_map (λ ty. IsType (ListType ty)) (type_in o)

abbrev pub option_of : Operand → Operand
option_of o = option_map (λ ty. IsType (VariantType AsOption (Bare [] (More [] ty End)))) (type_in o)

abbrev pub result_of : Operand → Operand → Operand
result_of ok err = Some (IsType (VariantType AsResult (case_part [] (type_in ok) (case_part [] (type_in err) End))))

abbrev pub own_of : Operand → Operand
own_of None = None
own_of (Some (IsType ty)) = None
own_of (Some (IsKind kind)) = Some (IsType (OwnType kind))

abbrev pub borrow_of : Operand → Operand
borrow_of None = None
borrow_of (Some (IsType ty)) = None
borrow_of (Some (IsKind kind)) = Some (IsType (BorrowType kind))

abbrev pub with_type : Option Plain → Parts → Parts
with_type None rest = rest
with_type (Some ty) rest = More [] ty rest

-- the types among operands, without names
abbrev pub types_in : List Operand → Parts
types_in [] = End
types_in (o ∷ os) = with_type (type_in o) (types_in os)

abbrev pub tuple_of : List Operand → Operand
tuple_of os = Some (IsType (RecordType AsTuple (types_in os)))

-- a form in front of operands
abbrev pub apply : Form → List Operand → List Operand
apply Absent os = None ∷ os
apply Bool os = Some (IsType BoolType) ∷ os
apply U8 os = Some (IsType (UnsignedType OneByte)) ∷ os
apply U16 os = Some (IsType (UnsignedType TwoBytes)) ∷ os
apply U32 os = Some (IsType (UnsignedType FourBytes)) ∷ os
apply U64 os = Some (IsType (UnsignedType EightBytes)) ∷ os
apply Str os = Some (IsType StringType) ∷ os
apply ListForm os = list_of (first os) ∷ others os
apply OptionForm os = option_of (first os) ∷ others os
apply Result os = result_of (first os) (first (others os)) ∷ others (others os)
apply (Tuple n) os = tuple_of (take n os) ∷ drop n os
apply Own os = own_of (first os) ∷ others os
apply Borrow os = borrow_of (first os) ∷ others os
apply Arrow os = None ∷ []

-- the one known by a name
abbrev pub known_by : Name → List PlainKnown → Option PlainKnown
known_by name known = find (λ k. bytes_eq k.named.name name) known

abbrev pub put_as : Option Form → Option PlainKnown → List Operand → List Operand
put_as None found os = option_map (λ k. k.named.meaning) found ∷ os
put_as (Some form) found os = apply form os

-- a word in front of operands
abbrev pub put : List PlainKnown → Name → List Operand → List Operand
put known word os = put_as (form_named word) (known_by word known) os

-- what words stand for
abbrev pub read : List PlainKnown → Line → List Operand
read known [] = []
read known (w ∷ ws) = put known w (read known ws)

-- a word that is a name
abbrev pub name_in : Option Form → Name → List Name
name_in None word = word ∷ []
name_in (Some form) word = []

-- the names among words
abbrev pub names_in : Line → List Name
names_in [] = []
names_in (w ∷ ws) = name_in (form_named w) w ++ names_in ws
