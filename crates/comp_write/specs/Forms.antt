-- What loops over items and sections write.
use Rattle.std.specs.Prelude.{ℕ, List, [], ◌∷◌, ◌++◌}
use Rattle.wasm_format.specs.Format.{choose}
use Rattle.wasm_ast.specs.declared.component.TypeItem.{TypeItem}
use Rattle.wasm_ast.specs.declared.component.Section.{Section}
use Rattle.comp_grammar.specs.Trees.{plain_section}
use Rattle.comp_grammar.specs.TypeSections.{definition, declaration, is_none_open, open_after}
use Rattle.comp_write.specs.Copying.{section_bytes, IsWritable}

-- items of a section of types, where these instance types are open
abbrev pub ItemsFit : List ℕ → List TypeItem → Type 0
ItemsFit open_now [] = Unit {0}
ItemsFit open_now (item ∷ rest) = (choose (is_none_open open_now) definition declaration).Fits item × ItemsFit (open_after open_now item) rest

abbrev pub items_bytes : List ℕ → List TypeItem → List ℕ
items_bytes open_now [] = []
items_bytes open_now (item ∷ rest) = (choose (is_none_open open_now) definition declaration).write item ++ items_bytes (open_after open_now item) rest

-- sections
abbrev pub AllWritable : List ℕ → List Section → Type 0
AllWritable source [] = Unit {0}
AllWritable source (s ∷ rest) = IsWritable source (plain_section s) × AllWritable source rest

abbrev pub bytes_of : List ℕ → List Section → List ℕ
bytes_of source [] = []
bytes_of source (s ∷ rest) = section_bytes source (plain_section s) ++ bytes_of source rest
