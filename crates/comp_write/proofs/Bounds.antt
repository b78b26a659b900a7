-- What may be written, with a bound on how deep components stand in one another: there is one for each component.
use Rattle.std.proofs.Common.{◌≡◌, ℕ, zero, suc, ◌+◌, ◌≤◌, List, [], ◌∷◌, arith}
use Rattle.std.specs.Prelude.{max}
use Rattle.std.specs.List.{AllByRecursion}
use Rattle.std.proofs.Math.Nat.{le-max_left, le-max_right}
use Rattle.wasm_format.specs.Format.{AreBytes}
use Rattle.wasm_ast.specs.Modules.{note, core_module}
use Rattle.comp_grammar.specs.Trees.{Part, Tree, CoreModule, Nested, CoreInstances, Instances, Aliases, Types, Canons, Imports, Exports, Custom}
use Rattle.comp_grammar.specs.Components.{parts_of, component, SpellsComponent}
use Rattle.comp_grammar.proofs.DepthLaws.{deeper, spelled_once}
use Rattle.comp_write.specs.Copying.{bare, SpellsBare, cut, LiesIn, IsCopyable, MayWrite}

-- The bytes, which stand at this offset, are a spelling of the component, up to the places where its parts stand; at most that many
-- components stand in one another.
abbrev pub SpellsWithin : ℕ → ℕ → Tree → List ℕ → Type 0
SpellsWithin depth at t text = (u : Tree) × (component depth).Spells at u text × (bare u ≡ bare t)

-- What a section copies lies in the input, and is a spelling of what stands with it; components in it are at most so deep.
abbrev pub CopiesWithin : ℕ → List ℕ → Part → Type 0
CopiesWithin depth source (CoreModule span m) = LiesIn span source × core_module.Spells span.from m (cut span source)
CopiesWithin depth source (Nested span inner) = LiesIn span source × SpellsWithin depth span.from inner (cut span source)
CopiesWithin depth source (Custom span) = LiesIn span source × note.Spells span.from tt (cut span source)
CopiesWithin depth source (CoreInstances items) = Unit {0}
CopiesWithin depth source (Instances items) = Unit {0}
CopiesWithin depth source (Aliases items) = Unit {0}
CopiesWithin depth source (Types items) = Unit {0}
CopiesWithin depth source (Canons items) = Unit {0}
CopiesWithin depth source (Imports items) = Unit {0}
CopiesWithin depth source (Exports items) = Unit {0}

-- The component may be written, with such a bound: some bytes spell it, and what is copied is a spelling of what stands with it. Components in it are at
-- most so deep.
pub record WritesWithin (depth : ℕ) (source : List ℕ) (t : Tree) : Type 0 where
  pub spelled : (text : List ℕ) × AreBytes text × SpellsWithin (suc depth) 0 t text
  pub copied : AllByRecursion (CopiesWithin depth source) (parts_of t)

-- ---- a bound may be raised

spells_deeper : (d e at : ℕ) (t : Tree) (text : List ℕ) → d ≤ e → SpellsWithin d at t text → SpellsWithin e at t text
spells_deeper d e at t text h s = (s.0, deeper d e at s.0 text h s.1, s.2)

copies_deeper : (d e : ℕ) (source : List ℕ) (p : Part) → d ≤ e → CopiesWithin d source p → CopiesWithin e source p
copies_deeper d e source (CoreModule span m) h c = c
copies_deeper d e source (Nested span inner) h c = (c.0, spells_deeper d e span.from inner (cut span source) h c.1)
copies_deeper d e source (Custom span) h c = c
copies_deeper d e source (CoreInstances items) h c = c
copies_deeper d e source (Instances items) h c = c
copies_deeper d e source (Aliases items) h c = c
copies_deeper d e source (Types items) h c = c
copies_deeper d e source (Canons items) h c = c
copies_deeper d e source (Imports items) h c = c
copies_deeper d e source (Exports items) h c = c

all_deeper : (d e : ℕ) (source : List ℕ) (parts : List Part) → d ≤ e → AllByRecursion (CopiesWithin d source) parts → AllByRecursion (CopiesWithin e source) parts
all_deeper d e source [] h c = tt
all_deeper d e source (p ∷ parts) h c = (copies_deeper d e source p h c.0, all_deeper d e source parts h c.1)

-- ---- there is a bound

copy_bound : (source : List ℕ) (p : Part) → IsCopyable source p → (depth : ℕ) × CopiesWithin depth source p
copy_bound source (CoreModule span m) c = (0, c)
copy_bound source (Nested span inner) c = (c.1.1.0, (c.0, (c.1.0, c.1.1.1, c.1.2)))
copy_bound source (Custom span) c = (0, c)
copy_bound source (CoreInstances items) c = (0, c)
copy_bound source (Instances items) c = (0, c)
copy_bound source (Aliases items) c = (0, c)
copy_bound source (Types items) c = (0, c)
copy_bound source (Canons items) c = (0, c)
copy_bound source (Imports items) c = (0, c)
copy_bound source (Exports items) c = (0, c)

all_bound : (source : List ℕ) (parts : List Part) → AllByRecursion (IsCopyable source) parts → (depth : ℕ) × AllByRecursion (CopiesWithin depth source) parts
all_bound source [] c = (0, tt)
all_bound source (p ∷ parts) c =
    let one = copy_bound source p c.0 in
    let rest = all_bound source parts c.1 in
    (max one.0 rest.0, (copies_deeper one.0 (max one.0 rest.0) source p (le-max_left one.0 rest.0) one.1, all_deeper rest.0 (max one.0 rest.0) source parts (le-max_right one.0 rest.0) rest.1))

pub bound : (source : List ℕ) (t : Tree) → MayWrite source t → (depth : ℕ) × WritesWithin depth source t
bound source t h =
    let c = all_bound source (parts_of t) h.copied in
    let s = h.spelled.2 in
    let d : ℕ = max s.1.0 c.0 in
    let low : s.1.0 ≤ suc d = omega (arith, le-max_left s.1.0 c.0) in
    (d, record { spelled = (h.spelled.0, h.spelled.1, spells_deeper s.1.0 (suc d) 0 t h.spelled.0 low (s.0, s.1.1, s.2)); copied = all_deeper c.0 d source (parts_of t) (le-max_right s.1.0 c.0) c.1 })

-- ---- a bound is not needed

pub any_depth : (d at : ℕ) (t : Tree) (text : List ℕ) → SpellsWithin d at t text → SpellsBare at t text
any_depth d at t text s = (s.0, (d, s.1), s.2)

copy_any : (d : ℕ) (source : List ℕ) (p : Part) → CopiesWithin d source p → IsCopyable source p
copy_any d source (CoreModule span m) c = c
copy_any d source (Nested span inner) c = (c.0, any_depth d span.from inner (cut span source) c.1)
copy_any d source (Custom span) c = c
copy_any d source (CoreInstances items) c = c
copy_any d source (Instances items) c = c
copy_any d source (Aliases items) c = c
copy_any d source (Types items) c = c
copy_any d source (Canons items) c = c
copy_any d source (Imports items) c = c
copy_any d source (Exports items) c = c

all_any : (d : ℕ) (source : List ℕ) (parts : List Part) → AllByRecursion (CopiesWithin d source) parts → AllByRecursion (IsCopyable source) parts
all_any d source [] c = tt
all_any d source (p ∷ parts) c = (copy_any d source p c.0, all_any d source parts c.1)

pub may_at_any : (d : ℕ) (source : List ℕ) (t : Tree) → WritesWithin d source t → MayWrite source t
may_at_any d source t h = record { spelled = (h.spelled.0, h.spelled.1, any_depth (suc d) 0 t h.spelled.0 h.spelled.2); copied = all_any d source (parts_of t) h.copied }
