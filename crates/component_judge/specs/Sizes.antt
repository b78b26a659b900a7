-- How many bytes of code a component holds: those after the size of each section 10 (WebAssembly Core 2.0, section 5.5.13) of its
-- modules and of the modules of the components in it.
use Rattle.std.specs.Prelude.{ℕ, ◌≡◌, ◌+◌, ◌-◌, ◌^◌, zero, suc, min, ◌==◌, nat_le, nat_lt, List, [], ◌∷◌, length, take, drop, Option, Some, None, Result, Ok, Err, if◌then◌else◌}
use Rattle.virt_base.specs.Place.{Place, place}
use Rattle.virt_base.specs.Leb.{unsigned_at}
use Rattle.virt_base.specs.declared.cursor.Cursor.{Cursor}
use Rattle.virt_base.specs.declared.leb.LebFault.{LebFault}
use Rattle.wasm_ast.specs.declared.component.Span.{Span}
use Rattle.comp_grammar.specs.Trees.{Part, Tree, CoreModule, Nested, End, More}

-- ---- sections of a module

-- a section: its number, its size, and what stands after it
abbrev pub Head : Type 0
Head = ℕ × ℕ × Place

abbrev pub sized_at : ℕ → Result (ℕ × Place) LebFault → Option Head
sized_at id (Err e) = None
sized_at id (Ok x) = if nat_le x.0 (length x.1.rest) then Some (id, x.0, record { at = x.1.at + x.0; rest = drop x.0 x.1.rest }) else None

abbrev pub head_at : ℕ → List ℕ → Option Head
head_at at [] = None
head_at at (id ∷ rest) = sized_at id (unsigned_at (2 ^ 32) (at + 1) rest)

-- the section that stands next, if one does
abbrev pub section_at : Place → Option Head
section_at p = head_at p.at p.rest

-- its size, if it holds code
abbrev pub code_size : ℕ → ℕ → ℕ
code_size id size = if id == 10 then size else 0

abbrev pub counted : Option Head → (Place → ℕ) → ℕ
counted None later = 0
counted (Some h) later = code_size h.0 h.1 + later h.2

-- the bytes of the code sections among at most that many
unfoldable pub code_behind : ℕ → Place → ℕ
code_behind zero p = 0
code_behind (suc n) p = counted (section_at p) (λ q. code_behind n q)

-- of a module: its sections stand after a preamble of eight bytes
abbrev pub module_code : List ℕ → ℕ
module_code bytes = code_behind (length bytes) (record { at = 8; rest = drop 8 bytes })

-- ---- modules of a component

-- the part of the input from one offset up to another
abbrev pub cut : Span → List ℕ → List ℕ
cut span source = if nat_lt span.to span.from then [] else (if nat_lt (length source) span.to then [] else take (span.to - span.from) (drop span.from source))

abbrev mutual
  pub part_code : List ℕ → Part → ℕ
  part_code source (CoreModule span m) = module_code (cut span source)
  part_code source (Nested span tree) = tree_code source tree
  part_code source _ = 0

  pub tree_code : List ℕ → Tree → ℕ
  tree_code source End = 0
  tree_code source (More part rest) = part_code source part + tree_code source rest

-- a quantity as it is told: the greatest number of 64 bits stands for all above it
abbrev pub capped : ℕ → ℕ
capped n = min n (2 ^ 64 - 1)

-- ---- for private clauses

abbrev pub Heads : Option (ℕ × ℕ) → Cursor → Option Head → Type 0
Heads None c due = due ≡ None
Heads (Some s) c due = due ≡ Some (s.0, s.1, place c)
