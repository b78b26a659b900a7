-- The format of a section of types (Component Model, Binary.md, "Type Definitions"). Its tree is a flat list: what an instance type
-- declares follows it, and there instance types may stand again, at any depth.
use Rattle.std.specs.Prelude.{ℕ, ◌+◌, ◌-◌, ◌<◌, ◌^◌, ◌≡◌, Bool, true, false, ◌&&◌, List, [], ◌∷◌, ◌++◌, length, ◌==◌, if◌then◌else◌}
use Rattle.wasm_format.specs.Format.{Format, ◌>>=◌, choose, lacking, tagged, both, image, behind, u32_format, name}
use Rattle.wasm_format.specs.Sections.{Sections}
use Rattle.wasm_format.specs.Until.{until}
use Rattle.wasm_ast.specs.declared.component.ExternDesc.{ExternDesc}
use Rattle.wasm_ast.specs.declared.component.ExternDesc.TheVariants as descs
use Rattle.wasm_ast.specs.declared.component.TypeAlias.{TypeAlias}
use Rattle.wasm_ast.specs.declared.component.TypeAlias.TheVariants as aliases
use Rattle.wasm_ast.specs.declared.component.TypeDef.{TypeDef}
use Rattle.wasm_ast.specs.declared.component.TypeDef.TheVariants as defs
use Rattle.wasm_ast.specs.declared.component.TypeItem.{TypeItem}
use Rattle.wasm_ast.specs.declared.component.TypeItem.TheVariants as items
use Rattle.wasm_ast.specs.ComponentItems.{extern_name, extern_desc}
use Rattle.comp_grammar.specs.Types.{declarations_in, type_def}

-- ---- one item

abbrev pub target : TypeAlias → ℕ
target (aliases.Export instance n) = 0
target (aliases.Outer count index) = 2

abbrev pub exported : TypeAlias → ℕ × List ℕ
exported (aliases.Export instance n) = (instance, n)
exported (aliases.Outer count index) = (0, [])

abbrev pub outer : TypeAlias → ℕ × ℕ
outer (aliases.Outer count index) = (count, index)
outer (aliases.Export instance n) = (0, 0)

-- an alias in an instance type: of a type alone
unfoldable pub type_alias : Format TypeAlias
type_alias = behind (3 ∷ []) (tagged target (λ b.
    choose (b == 0) (image (λ p. aliases.Export p.0 p.1) exported (both u32_format name)) (
    choose (b == 2) (image (λ p. aliases.Outer p.0 p.1) outer (both u32_format u32_format))
    (lacking b))))

abbrev pub no_def : TypeDef
no_def = defs.Own 0

abbrev pub def_in : TypeItem → TypeDef
def_in (items.Define d) = d
def_in _ = no_def

abbrev pub alias_in : TypeItem → TypeAlias
alias_in (items.Alias a) = a
alias_in _ = aliases.Outer 0 0

abbrev pub export_in : TypeItem → List ℕ × ExternDesc
export_in (items.Export n desc) = (n, desc)
export_in _ = ([], descs.Resource)

abbrev pub declaration_tag : TypeItem → ℕ
declaration_tag (items.Define d) = 1
declaration_tag (items.Alias a) = 2
declaration_tag (items.Export n desc) = 4

-- a definition of the section
unfoldable pub definition : Format TypeItem
definition = image items.Define def_in type_def

-- what an instance type declares
unfoldable pub declaration : Format TypeItem
declaration = tagged declaration_tag (λ b.
    choose (b == 1) (image items.Define def_in type_def) (
    choose (b == 2) (image items.Alias alias_in type_alias) (
    choose (b == 4) (image (λ p. items.Export p.0 p.1) export_in (both extern_name extern_desc))
    (lacking b))))

-- ---- the items of a section

-- What is due at a place in a section: that many of its own definitions, and of each instance type that is open there, the innermost
-- first, that many declarations, which are not 0.
pub record Due : Type 0 where
  pub types : ℕ
  pub open_types : List ℕ

abbrev pub is_none_open : List ℕ → Bool
is_none_open [] = true
is_none_open (n ∷ outer_types) = false

-- one declaration less of the innermost instance type that is open, if one is
abbrev pub declared : List ℕ → List ℕ
declared [] = []
declared (n ∷ outer_types) = if n == 1 then outer_types else ((n - 1) ∷ outer_types)

abbrev pub opened : ℕ → List ℕ → List ℕ
opened declarations open_now = if declarations == 0 then open_now else (declarations ∷ open_now)

-- the number of declarations that an item opens
abbrev pub declarations_of : TypeItem → ℕ
declarations_of (items.Define d) = declarations_in d
declarations_of (items.Alias a) = 0
declarations_of (items.Export n desc) = 0

abbrev pub open_after : List ℕ → TypeItem → List ℕ
open_after open_now item = opened (declarations_of item) (declared open_now)

abbrev pub after_item : Due → TypeItem → Due
after_item s item = record { types = if is_none_open s.open_types then s.types - 1 else s.types; open_types = open_after s.open_types item }

abbrev pub is_complete : Due → Bool
is_complete s = (s.types == 0) && is_none_open s.open_types

unfoldable pub type_walk : Sections Due TypeItem
type_walk = record { form = λ s. choose (is_none_open s.open_types) definition declaration; next = after_item; can_end = is_complete }

abbrev pub all_due : ℕ → Due
all_due types = record { types = types; open_types = [] }

-- how many definitions of the section itself stand among items, where these instance types are open
abbrev pub own_types : List ℕ → List TypeItem → ℕ
own_types open_now [] = 0
own_types open_now (item ∷ rest) = (if is_none_open open_now then 1 else 0) + own_types (open_after open_now item) rest

-- a number that is not kept, and what it leads
abbrev pub led_by : {A : Type 0} → (A → ℕ) → (ℕ → Format A) → Format A
led_by count form = record {
  Spells = λ at a text. (n : ℕ) × (x y : List ℕ) × u32_format.Spells at n x × (form n).Spells (at + length x) a y × (text ≡ x ++ y);
  read = λ p. u32_format.read p >>= λ n. (form n.0).read n.1;
  Fits = λ a. (count a < 2 ^ 32) × (form (count a)).Fits a;
  write = λ a. u32_format.write (count a) ++ (form (count a)).write a;
}

-- a number of definitions, and that many
unfoldable pub type_items : Format (List TypeItem)
type_items = led_by (own_types []) (λ types. until type_walk (all_due types))
