-- Values as the rows write them, and the parts of arguments.
use Rattle.std.specs.Prelude.{ℕ, zero, suc, pos, nat_abs, ◌^◌, ◌/◌, ◌%◌, ◌==◌, Bool, List, [], ◌∷◌, Option, Some, None}
use Rattle.wit_types.specs.PlainValue.{PlainValue, PlainValues, Payload, IntValue, StringValue, ListValue, RecordValue, VariantValue, FlagsValue, HandleValue, End, More, Without, With}

-- ---- values

abbrev pub number : ℕ → PlainValue
number n = IntValue (pos n)

-- a case without payload, as the label of an enum
abbrev pub label : ℕ → PlainValue
label n = VariantValue n Without

abbrev pub none : PlainValue
none = VariantValue 0 Without

abbrev pub some : PlainValue → PlainValue
some v = VariantValue 1 (With v)

abbrev pub ok : PlainValue → PlainValue
ok v = VariantValue 0 (With v)

-- a result without a value
abbrev pub done : PlainValue
done = VariantValue 0 Without

abbrev pub error : PlainValue → PlainValue
error v = VariantValue 1 (With v)

-- an error code of filesystem or sockets
abbrev pub error_code : ℕ → PlainValue
error_code code = error (label code)

-- stream-error.closed of wasi:io/streams
abbrev pub closed : PlainValue
closed = error (label 1)

abbrev pub values : List PlainValue → PlainValues
values [] = End
values (v ∷ vs) = More v (values vs)

abbrev pub list : List PlainValue → PlainValue
list vs = ListValue (values vs)

abbrev pub record_of : List PlainValue → PlainValue
record_of vs = RecordValue (values vs)

abbrev pub number_values : List ℕ → PlainValues
number_values [] = End
number_values (n ∷ ns) = More (number n) (number_values ns)

-- a list of numbers, as bytes
abbrev pub numbers : List ℕ → PlainValue
numbers ns = ListValue (number_values ns)

-- ---- parts of values

-- the value at a place, from 0
abbrev pub nth : ℕ → PlainValues → PlainValue
nth n End = none
nth zero (More v vs) = v
nth (suc n) (More v vs) = nth n vs

abbrev pub items : PlainValues → List PlainValue
items End = []
items (More v vs) = v ∷ items vs

abbrev pub number_in : PlainValue → ℕ
number_in (IntValue n) = nat_abs n
number_in _ = 0

abbrev pub text_in : PlainValue → List ℕ
text_in (StringValue bytes) = bytes
text_in _ = []

abbrev pub bits_in : PlainValue → ℕ
bits_in (FlagsValue bits) = bits
bits_in _ = 0

abbrev pub id_in : PlainValue → ℕ
id_in (HandleValue id) = id
id_in _ = 0

abbrev pub list_in : PlainValue → List PlainValue
list_in (ListValue vs) = items vs
list_in _ = []

abbrev pub fields_in : PlainValue → PlainValues
fields_in (RecordValue vs) = vs
fields_in _ = End

abbrev pub payload_in : Payload → Option PlainValue
payload_in Without = None
payload_in (With v) = Some v

-- the payload of a variant, as of an option
abbrev pub some_in : PlainValue → Option PlainValue
some_in (VariantValue _ payload) = payload_in payload
some_in _ = None

abbrev pub numbers_of : List PlainValue → List ℕ
numbers_of [] = []
numbers_of (v ∷ vs) = number_in v ∷ numbers_of vs

-- the numbers of a list, as bytes
abbrev pub numbers_in : PlainValue → List ℕ
numbers_in v = numbers_of (list_in v)

-- whether the flag at a place is set
abbrev pub has_flag : ℕ → ℕ → Bool
has_flag place bits = (bits / 2 ^ place) % 2 == 1
