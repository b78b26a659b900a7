-- The items of a table.
use Rattle.std.specs.Prelude.{List, [], ◌∷◌, Option, Some, None, codes, if◌then◌else◌}
use Rattle.std.specs.Str.{bytes_eq}
use Rattle.wit_types.specs.Plain.{Name}
use Rattle.wasi_table.specs.Texts.{Line, words_in, lines_in}
use Rattle.wasi_table.specs.declared.items.Item.{Item}
use Rattle.wasi_table.specs.declared.items.Item.TheVariants.{Use, Alias, Record, Variant, Flags, Enum, Resource, Function}

-- what an interface uses, defines or offers
pub data PlainItem : Type 0 where
  UseOf : (name : Name) → PlainItem
  AliasOf : (name : Name) → (words : Line) → PlainItem
  RecordOf : (name : Name) → (lines : List Line) → PlainItem
  VariantOf : (name : Name) → (lines : List Line) → PlainItem
  FlagsOf : (name : Name) → (words : Line) → PlainItem
  EnumOf : (name : Name) → (words : Line) → PlainItem
  ResourceOf : (name : Name) → (lines : List Line) → PlainItem
  FunctionOf : (name : Name) → (words : Line) → PlainItem

abbrev pub plain_item : Item → PlainItem
plain_item (Use name) = UseOf name.now
plain_item (Alias name words) = AliasOf name.now (words_in words)
plain_item (Record name lines) = RecordOf name.now (lines_in lines)
plain_item (Variant name lines) = VariantOf name.now (lines_in lines)
plain_item (Flags name words) = FlagsOf name.now (words_in words)
plain_item (Enum name words) = EnumOf name.now (words_in words)
plain_item (Resource name lines) = ResourceOf name.now (lines_in lines)
plain_item (Function name words) = FunctionOf name.now (words_in words)

-- the item, where the word is its keyword, else another
abbrev pub where_is : Name → Name → PlainItem → Option PlainItem → Option PlainItem
where_is word keyword item other = if bytes_eq word keyword then Some item else other

abbrev pub item_as : Name → Name → Line → List Line → Option PlainItem
item_as keyword name words lines =
    where_is keyword (codes "use") (UseOf name)
    (where_is keyword (codes "type") (AliasOf name words)
    (where_is keyword (codes "record") (RecordOf name lines)
    (where_is keyword (codes "variant") (VariantOf name lines)
    (where_is keyword (codes "flags") (FlagsOf name words)
    (where_is keyword (codes "enum") (EnumOf name words)
    (where_is keyword (codes "resource") (ResourceOf name lines)
    (where_is keyword (codes "function") (FunctionOf name words) None)))))))

abbrev pub named_item : Name → Line → List Line → Option PlainItem
named_item keyword [] lines = None
named_item keyword (name ∷ words) lines = item_as keyword name words lines

abbrev pub headed_item : Line → List Line → Option PlainItem
headed_item [] lines = None
headed_item (keyword ∷ rest) lines = named_item keyword rest lines

-- the item that lines spell: in the first of them a keyword, a name and words
abbrev pub item_in : List Line → Option PlainItem
item_in [] = None
item_in (head ∷ lines) = headed_item head lines
