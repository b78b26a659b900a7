-- What the items of a table define.
use Rattle.std.specs.Prelude.{ℕ, List, [], ◌∷◌, ◌++◌, map, Option, Some, None, option_map, position}
use Rattle.std.specs.Str.{bytes_eq}
use Rattle.wit_types.specs.Plain.{Name, Plain, Parts, AsRecord, AsVariant, AsEnum, RecordType, VariantType, FlagsType, End, More, bare, case_part}
use Rattle.wasi_table.specs.Texts.{Line}
use Rattle.wasi_table.specs.declared.kinds.TheConstants.{KINDS}
use Rattle.wasi_table.specs.Plain.{PlainMeaning, IsType, IsKind, PlainKnown}
use Rattle.wasi_table.specs.Words.{first, type_in, read, names_in}
use Rattle.wasi_table.specs.Items.{PlainItem, UseOf, AliasOf, RecordOf, VariantOf, FlagsOf, EnumOf, ResourceOf, FunctionOf, item_in}

-- the place of a name among names
abbrev pub place_in : Name → Line → Option ℕ
place_in name names = position (λ w. bytes_eq w name) names

-- the number of a kind
unfoldable pub kind_of : Name → Option ℕ
kind_of name = place_in name (map (λ w. w.now) KINDS)

-- the type that words spell, if they spell one
abbrev pub type_spelled : List PlainKnown → Line → Option Plain
type_spelled known words = type_in (first (read known words))

abbrev pub labelled : Name → Option Plain → Parts → Parts
labelled label None rest = rest
labelled label (Some ty) rest = More label ty rest

-- a field: its label and its type
abbrev pub field_in : List PlainKnown → Line → Parts → Parts
field_in known [] rest = rest
field_in known (label ∷ words) rest = labelled label (type_spelled known words) rest

abbrev pub fields_in : List PlainKnown → List Line → Parts
fields_in known [] = End
fields_in known (line ∷ lines) = field_in known line (fields_in known lines)

-- a case: its label, and its payload's type if it has one
abbrev pub case_in : List PlainKnown → Line → Parts → Parts
case_in known [] rest = rest
case_in known (label ∷ words) rest = case_part label (type_spelled known words) rest

abbrev pub cases_in : List PlainKnown → List Line → Parts
cases_in known [] = End
cases_in known (line ∷ lines) = case_in known line (cases_in known lines)

abbrev pub alias_of : Option Plain → Option PlainMeaning
alias_of ty = option_map IsType ty

abbrev pub resource_of : Name → Option PlainMeaning
resource_of name = option_map IsKind (kind_of name)

-- what the name of an item stands for, if it defines a type
abbrev pub meaning_of : List PlainKnown → PlainItem → Option PlainMeaning
meaning_of known (UseOf name) = None
meaning_of known (AliasOf name words) = alias_of (type_spelled known words)
meaning_of known (RecordOf name lines) = Some (IsType (RecordType AsRecord (fields_in known lines)))
meaning_of known (VariantOf name lines) = Some (IsType (VariantType AsVariant (cases_in known lines)))
meaning_of known (FlagsOf name words) = Some (IsType (FlagsType words))
meaning_of known (EnumOf name words) = Some (IsType (VariantType AsEnum (bare words)))
meaning_of known (ResourceOf name lines) = resource_of name
meaning_of known (FunctionOf name words) = None

-- the name that an item gives
abbrev pub name_of : PlainItem → Name
name_of (UseOf name) = name
name_of (AliasOf name words) = name
name_of (RecordOf name lines) = name
name_of (VariantOf name lines) = name
name_of (FlagsOf name words) = name
name_of (EnumOf name words) = name
name_of (ResourceOf name lines) = name
name_of (FunctionOf name words) = name

abbrev pub behind_first : Line → Line
behind_first [] = []
behind_first (w ∷ ws) = ws

-- the names after the labels of lines
abbrev pub names_behind : List Line → List Name
names_behind [] = []
names_behind (line ∷ lines) = names_in (behind_first line) ++ names_behind lines

-- the names of the types with which an item's type is written
abbrev pub names_of : PlainItem → List Name
names_of (UseOf name) = []
names_of (AliasOf name words) = names_in words
names_of (RecordOf name lines) = names_behind lines
names_of (VariantOf name lines) = names_behind lines
names_of (FlagsOf name words) = []
names_of (EnumOf name words) = []
names_of (ResourceOf name lines) = []
names_of (FunctionOf name words) = []

-- what is known once the name of an item of this interface stands for something
abbrev pub with_meaning : ℕ → List PlainKnown → PlainItem → Option PlainMeaning → List PlainKnown
with_meaning number known item None = known
with_meaning number known item (Some meaning) = known ++ record { interface = number; named = record { name = name_of item; meaning = meaning; names = names_of item } } ∷ []

abbrev pub declare : ℕ → List PlainKnown → Option PlainItem → List PlainKnown
declare number known None = known
declare number known (Some item) = with_meaning number known item (meaning_of known item)

-- what is known once the items of this interface are read
abbrev pub declared : ℕ → List PlainKnown → List (List Line) → List PlainKnown
declared number known [] = known
declared number known (item ∷ items) = declared number (declare number known (item_in item)) items
