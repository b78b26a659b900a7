-- What a table of interfaces says. Its interfaces are numbered one after another.
use Rattle.std.specs.Prelude.{ℕ, zero, suc, ◌+◌, ◌-◌, List, [], ◌∷◌, ◌++◌, map, drop, length, Option, Some, None, if◌then◌else◌}
use Rattle.std.specs.Str.{bytes_eq}
use Rattle.wit_types.specs.Plain.{Name}
use Rattle.wasi_table.specs.declared.interface.Use.{Use}
use Rattle.wasi_table.specs.Plain.{PlainKnown, PlainInterface}
use Rattle.wasi_table.specs.Texts.{Line, items_of}
use Rattle.wasi_table.specs.Words.{known_by}
use Rattle.wasi_table.specs.Items.{PlainItem, UseOf, AliasOf, RecordOf, VariantOf, FlagsOf, EnumOf, ResourceOf, FunctionOf, item_in}
use Rattle.wasi_table.specs.Types.{declared}
use Rattle.wasi_table.specs.Functions.{functions_in}

-- an interface is its items; the first of them is its name alone
abbrev pub Items : Type 0
Items = List (List Line)

abbrev pub first_word : Line → Name
first_word [] = []
first_word (w ∷ ws) = w

abbrev pub first_of_lines : List Line → Name
first_of_lines [] = []
first_of_lines (line ∷ lines) = first_word line

abbrev pub name_in : Items → Name
name_in [] = []
name_in (item ∷ items) = first_of_lines item

abbrev pub use_of : Option PlainKnown → List Use
use_of None = []
use_of (Some k) = record { interface = k.interface; name = k.named.name } ∷ []

-- the type of another interface that an item names
abbrev pub used_by : List PlainKnown → Option PlainItem → List Use
used_by known None = []
used_by known (Some (UseOf name)) = use_of (known_by name known)
used_by known (Some (AliasOf name words)) = []
used_by known (Some (RecordOf name lines)) = []
used_by known (Some (VariantOf name lines)) = []
used_by known (Some (FlagsOf name words)) = []
used_by known (Some (EnumOf name words)) = []
used_by known (Some (ResourceOf name lines)) = []
used_by known (Some (FunctionOf name words)) = []

abbrev pub uses_in : List PlainKnown → Items → List Use
uses_in known [] = []
uses_in known (item ∷ items) = used_by known (item_in item) ++ uses_in known items

-- what is known once these interfaces are read
abbrev pub declared_all : ℕ → List PlainKnown → List Items → List PlainKnown
declared_all number known [] = known
declared_all number known (items ∷ rest) = declared_all (number + 1) (declared number known items) rest

-- the interface of these items, where so much was known before, and so much after them
abbrev pub interface_of : List PlainKnown → List PlainKnown → Items → PlainInterface
interface_of before known items =
    record { name = name_in items; uses = uses_in known items; types = map (λ k. k.named) (drop (length before) known); functions = functions_in known items }

abbrev pub described_at : ℕ → List PlainKnown → Items → PlainInterface
described_at number before items = interface_of before (declared number before items) items

-- the interface after that many others, of which is known what they define
abbrev pub described_from : ℕ → List PlainKnown → List Items → ℕ → PlainInterface
described_from number known [] left = described_at number known (items_of [])
described_from number known (items ∷ rest) zero = described_at number known items
described_from number known (items ∷ rest) (suc left) = described_from number (declared (number - suc left) known items) rest left

-- the interface with a number, in a table whose first has another, where so much is known before
unfoldable pub described : List PlainKnown → ℕ → List Items → ℕ → PlainInterface
described known first table number = described_from number known table (number - first)

-- the number of the first interface with a name, where they are numbered from this on
abbrev pub numbered : ℕ → List Items → Name → Option ℕ
numbered number [] name = None
numbered number (items ∷ rest) name = if bytes_eq (name_in items) name then Some number else numbered (number + 1) rest name
