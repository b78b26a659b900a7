-- Tables each word of which is known: a keyword, a form with its parts after it, a name that was defined before, or a label.
use Rattle.std.specs.Prelude.{ℕ, zero, suc, ◌+◌, Bool, true, false, ◌&&◌, List, [], ◌∷◌, drop, Option, Some, None, if◌then◌else◌}
use Rattle.wasi_table.specs.declared.forms.Form.{Form}
use Rattle.wasi_table.specs.declared.forms.Form.TheVariants.{Absent, Bool as BoolForm, U8, U16, U32, U64, Str, List as ListForm, Option as OptionForm, Result, Tuple, Own, Borrow, Arrow}
use Rattle.wasi_table.specs.Forms.{form_named}
use Rattle.wasi_table.specs.Plain.{PlainMeaning, IsType, IsKind, PlainKnown}
use Rattle.wasi_table.specs.Texts.{Line}
use Rattle.wasi_table.specs.Words.{known_by}
use Rattle.wasi_table.specs.Items.{PlainItem, UseOf, AliasOf, RecordOf, VariantOf, FlagsOf, EnumOf, ResourceOf, FunctionOf, item_in}
use Rattle.wasi_table.specs.Types.{declare, declared, kind_of}
use Rattle.wasi_table.specs.Functions.{behind_arrow}
use Rattle.wasi_table.specs.Wit.{before_arrow}
use Rattle.wasi_table.specs.Tables.{Items}

-- what words stand for: a type, a kind of resources, a payload that is not there, or nothing that is known
pub data Sort : Type 0 where
  AType : Sort
  AKind : Sort
  NoPayload : Sort
  Unknown : Sort

abbrev pub is_type : Sort → Bool
is_type AType = true
is_type AKind = false
is_type NoPayload = false
is_type Unknown = false

abbrev pub is_kind : Sort → Bool
is_kind AType = false
is_kind AKind = true
is_kind NoPayload = false
is_kind Unknown = false

abbrev pub is_payload : Sort → Bool
is_payload AType = true
is_payload AKind = false
is_payload NoPayload = true
is_payload Unknown = false

abbrev pub where_all : Bool → List Sort → List Sort
where_all good rest = (if good then AType else Unknown) ∷ rest

abbrev pub of_type : List Sort → List Sort
of_type [] = Unknown ∷ []
of_type (s ∷ ss) = where_all (is_type s) ss

abbrev pub of_kind : List Sort → List Sort
of_kind [] = Unknown ∷ []
of_kind (s ∷ ss) = where_all (is_kind s) ss

abbrev pub of_payloads : List Sort → List Sort
of_payloads [] = Unknown ∷ []
of_payloads (s ∷ []) = Unknown ∷ []
of_payloads (s ∷ t ∷ ss) = where_all (is_payload s && is_payload t) ss

-- whether the first that many are types
abbrev pub are_first_types : ℕ → List Sort → Bool
are_first_types zero ss = true
are_first_types (suc n) [] = false
are_first_types (suc n) (s ∷ ss) = is_type s && are_first_types n ss

abbrev pub sort_of_form : Form → List Sort → List Sort
sort_of_form Absent ss = NoPayload ∷ ss
sort_of_form BoolForm ss = AType ∷ ss
sort_of_form U8 ss = AType ∷ ss
sort_of_form U16 ss = AType ∷ ss
sort_of_form U32 ss = AType ∷ ss
sort_of_form U64 ss = AType ∷ ss
sort_of_form Str ss = AType ∷ ss
sort_of_form ListForm ss = of_type ss
sort_of_form OptionForm ss = of_type ss
sort_of_form Result ss = of_payloads ss
sort_of_form (Tuple n) ss = where_all (are_first_types n ss) (drop n ss)
sort_of_form Own ss = of_kind ss
sort_of_form Borrow ss = of_kind ss
sort_of_form Arrow ss = Unknown ∷ ss

abbrev pub sort_of_meaning : PlainMeaning → Sort
sort_of_meaning (IsType ty) = AType
sort_of_meaning (IsKind kind) = AKind

abbrev pub sort_of_name : Option PlainKnown → Sort
sort_of_name None = Unknown
sort_of_name (Some k) = sort_of_meaning k.named.meaning

abbrev pub sort_of : Option Form → Option PlainKnown → List Sort → List Sort
sort_of None found ss = sort_of_name found ∷ ss
sort_of (Some form) found ss = sort_of_form form ss

abbrev pub sorts_in : List PlainKnown → Line → List Sort
sorts_in known [] = []
sorts_in known (w ∷ ws) = sort_of (form_named w) (known_by w known) (sorts_in known ws)

abbrev pub are_types : List Sort → Bool
are_types [] = true
are_types (s ∷ ss) = is_type s && are_types ss

abbrev pub is_one : List Sort → Bool
is_one [] = false
is_one (s ∷ []) = is_type s
is_one (s ∷ t ∷ ss) = false

-- words that spell one type
abbrev pub spell_type : List PlainKnown → Line → Bool
spell_type known words = is_one (sorts_in known words)

-- words that spell a type, or no words
abbrev pub spell_payload : List PlainKnown → Line → Bool
spell_payload known [] = true
spell_payload known (w ∷ ws) = spell_type known (w ∷ ws)

abbrev pub is_signature : List PlainKnown → Line → Bool
is_signature known words = are_types (sorts_in known (before_arrow words)) && spell_payload known (behind_arrow words)

abbrev pub are_fields : List PlainKnown → List Line → Bool
are_fields known [] = true
are_fields known ([] ∷ lines) = false
are_fields known ((label ∷ words) ∷ lines) = spell_type known words && are_fields known lines

abbrev pub are_cases : List PlainKnown → List Line → Bool
are_cases known [] = true
are_cases known ([] ∷ lines) = false
are_cases known ((label ∷ words) ∷ lines) = spell_payload known words && are_cases known lines

abbrev pub are_methods : List PlainKnown → List Line → Bool
are_methods known [] = true
are_methods known ([] ∷ lines) = false
are_methods known ((name ∷ words) ∷ lines) = is_signature known words && are_methods known lines

abbrev pub is_there : Option PlainKnown → Bool
is_there None = false
is_there (Some k) = true

abbrev pub is_number : Option ℕ → Bool
is_number None = false
is_number (Some n) = true

-- an item each word of which is known, where so much is known before it, and so much with its whole interface
abbrev pub is_item : List PlainKnown → List PlainKnown → Option PlainItem → Bool
is_item before whole None = false
is_item before whole (Some (UseOf name)) = is_there (known_by name before)
is_item before whole (Some (AliasOf name words)) = spell_type before words
is_item before whole (Some (RecordOf name lines)) = are_fields before lines
is_item before whole (Some (VariantOf name lines)) = are_cases before lines
is_item before whole (Some (FlagsOf name words)) = true
is_item before whole (Some (EnumOf name words)) = true
is_item before whole (Some (ResourceOf name lines)) = is_number (kind_of name) && are_methods whole lines
is_item before whole (Some (FunctionOf name words)) = is_signature whole words

abbrev pub are_items : ℕ → List PlainKnown → List PlainKnown → Items → Bool
are_items number before whole [] = true
are_items number before whole (item ∷ items) =
    is_item before whole (item_in item) && are_items number (declare number before (item_in item)) whole items

-- the interfaces of a table, which are numbered from this on, where so much is known before; the first item of each is its name
abbrev pub are_known : ℕ → List PlainKnown → List Items → Bool
are_known number known [] = true
are_known number known (items ∷ rest) =
    let more = declared number known items in
    are_items number known more (drop 1 items) && are_known (number + 1) more rest
