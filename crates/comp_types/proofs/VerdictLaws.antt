-- A valid component breaks no rule, and a component breaks one rule in one section alone.
use Rattle.std.proofs.Common.{◌≡◌, ◌∙◌, ℕ, ◌+◌, ◌<◌, List, [], ◌∷◌, Some, ap, sym, arith, inl, inr}
use Rattle.core_validate.specs.Validity.{IsLeastFailing}
use Rattle.comp_grammar.specs.Trees.{Part, Tree, CoreModule, Nested, CoreInstances, Instances, Aliases, Types, Canons, Imports, Exports, Custom, End, More}
use Rattle.comp_types.specs.Declarations.{Declaration, Declarations, ATypeDef, AnInstanceType, ATypeAlias, ATypeExport, Done, Then}
use Rattle.comp_types.specs.Spaces.{Space}
use Rattle.comp_types.specs.Definitions.{Definition, ACoreInstance, AnInstance, AnAlias, AType, ACanon, AnImport, AnExport, definitions}
use Rattle.comp_types.specs.Added.{opened, after_declaration, after, after_part, root}
use Rattle.comp_types.specs.Validity.{Holds, IsValidDeclaration, AreValidDeclarations, IsValidDefinition, AreValid, IsValidPart, IsValidTree, IsValidComponent, BreaksDeclaration, BreakDeclarations, BreaksDefinition, Break, BreaksPart, BreaksTree, BreaksComponent}

-- ---- of a valid component no rule fails

mutual
  sound_declaration : (around : List Space) (s : Space) (d : Declaration) (rule : ℕ) → IsValidDeclaration around s d → BreaksDeclaration around s d rule → ⊥
  sound_declaration around s (ATypeDef d) rule valid broken = broken.0 (valid rule)
  sound_declaration around s (ATypeAlias a) rule valid broken = broken.0 (valid rule)
  sound_declaration around s (ATypeExport n d) rule valid broken = broken.0 (valid rule)
  sound_declaration around s (AnInstanceType ds) rule valid (inl broken) = sound_declarations (s ∷ around) (opened s) ds rule valid.0 broken
  sound_declaration around s (AnInstanceType ds) rule valid (inr broken) = broken.2 valid.1

  sound_declarations : (around : List Space) (s : Space) (ds : Declarations) (rule : ℕ) → AreValidDeclarations around s ds → BreakDeclarations around s ds rule → ⊥
  sound_declarations around s Done rule valid broken = broken
  sound_declarations around s (Then d ds) rule valid (inl broken) = sound_declaration around s d rule valid.0 broken
  sound_declarations around s (Then d ds) rule valid (inr broken) = sound_declarations around (after_declaration around s d) ds rule valid.1 broken.1

sound_definition : (around : List Space) (s : Space) (d : Definition) (rule : ℕ) → IsValidDefinition around s d → BreaksDefinition around s d rule → ⊥
sound_definition around s (AType d) rule valid broken = sound_declaration around s d rule valid broken
sound_definition around s (ACoreInstance i) rule valid broken = broken.0 (valid rule)
sound_definition around s (AnInstance i) rule valid broken = broken.0 (valid rule)
sound_definition around s (AnAlias a) rule valid broken = broken.0 (valid rule)
sound_definition around s (ACanon c) rule valid broken = broken.0 (valid rule)
sound_definition around s (AnImport i) rule valid broken = broken.0 (valid rule)
sound_definition around s (AnExport e) rule valid broken = broken.0 (valid rule)

sound_all : (around : List Space) (s : Space) (ds : List Definition) (rule : ℕ) → AreValid around s ds → Break around s ds rule → ⊥
sound_all around s [] rule valid broken = broken
sound_all around s (d ∷ ds) rule valid (inl broken) = sound_definition around s d rule valid.0 broken
sound_all around s (d ∷ ds) rule valid (inr broken) = sound_all around (after around s d) ds rule valid.1 broken.1

sound_part : (around : List Space) (s : Space) (part : Part) (rule : ℕ) → IsValidPart around s part → BreaksPart around s part rule → ⊥
sound_part around s (CoreModule span m) rule valid broken = broken.1 valid
sound_part around s (Nested span tree) rule valid broken = broken.1 valid
sound_part around s (CoreInstances items) rule valid broken = sound_all around s (definitions (CoreInstances items)) rule valid broken
sound_part around s (Instances items) rule valid broken = sound_all around s (definitions (Instances items)) rule valid broken
sound_part around s (Aliases items) rule valid broken = sound_all around s (definitions (Aliases items)) rule valid broken
sound_part around s (Types items) rule valid broken = sound_all around s (definitions (Types items)) rule valid broken
sound_part around s (Canons items) rule valid broken = sound_all around s (definitions (Canons items)) rule valid broken
sound_part around s (Imports items) rule valid broken = sound_all around s (definitions (Imports items)) rule valid broken
sound_part around s (Exports items) rule valid broken = sound_all around s (definitions (Exports items)) rule valid broken
sound_part around s (Custom span) rule valid broken = sound_all around s [] rule valid broken

pub sound_tree : (around : List Space) (s : Space) (tree : Tree) (rule section : ℕ) → IsValidTree around s tree → BreaksTree around s tree rule section → ⊥
sound_tree around s End rule section valid broken = broken
sound_tree around s (More part rest) rule section valid (inl broken) = sound_part around s part rule valid.0 broken.1
sound_tree around s (More part rest) rule section valid (inr broken) = sound_tree around (after_part around s part) rest rule broken.1.0 valid.1 broken.1.2

pub valid_breaks_nothing : (tree : Tree) (rule section : ℕ) → IsValidComponent tree → BreaksComponent tree rule section → ⊥
valid_breaks_nothing tree rule section valid broken = sound_tree [] root tree rule section valid broken

-- ---- the fault is one

least_once : (holds : ℕ → Type 0) (a b : ℕ) → IsLeastFailing holds (Some a) → IsLeastFailing holds (Some b) → a ≡ b
least_once holds a b p q =
    let low : (a < b → ⊥) = λ h. p.0 (q.1 a h) in
    let high : (b < a → ⊥) = λ h. q.0 (p.1 b h) in
    omega arith

mutual
  one_declaration : (around : List Space) (s : Space) (d : Declaration) (a b : ℕ) → BreaksDeclaration around s d a → BreaksDeclaration around s d b → a ≡ b
  one_declaration around s (ATypeDef d) a b p q = least_once (Holds around s (AType (ATypeDef d))) a b p q
  one_declaration around s (ATypeAlias d) a b p q = least_once (Holds around s (AType (ATypeAlias d))) a b p q
  one_declaration around s (ATypeExport n d) a b p q = least_once (Holds around s (AType (ATypeExport n d))) a b p q
  one_declaration around s (AnInstanceType ds) a b (inl p) (inl q) = one_of (s ∷ around) (opened s) ds a b p q
  one_declaration around s (AnInstanceType ds) a b (inl p) (inr q) = absurd (sound_declarations (s ∷ around) (opened s) ds a q.0 p)
  one_declaration around s (AnInstanceType ds) a b (inr p) (inl q) = absurd (sound_declarations (s ∷ around) (opened s) ds b p.0 q)
  one_declaration around s (AnInstanceType ds) a b (inr p) (inr q) = p.1 ∙ sym q.1

  one_of : (around : List Space) (s : Space) (ds : Declarations) (a b : ℕ) → BreakDeclarations around s ds a → BreakDeclarations around s ds b → a ≡ b
  one_of around s Done a b p q = absurd p
  one_of around s (Then d ds) a b (inl p) (inl q) = one_declaration around s d a b p q
  one_of around s (Then d ds) a b (inl p) (inr q) = absurd (sound_declaration around s d a q.0 p)
  one_of around s (Then d ds) a b (inr p) (inl q) = absurd (sound_declaration around s d b p.0 q)
  one_of around s (Then d ds) a b (inr p) (inr q) = one_of around (after_declaration around s d) ds a b p.1 q.1

one_definition : (around : List Space) (s : Space) (d : Definition) (a b : ℕ) → BreaksDefinition around s d a → BreaksDefinition around s d b → a ≡ b
one_definition around s (AType d) a b p q = one_declaration around s d a b p q
one_definition around s (ACoreInstance i) a b p q = least_once (Holds around s (ACoreInstance i)) a b p q
one_definition around s (AnInstance i) a b p q = least_once (Holds around s (AnInstance i)) a b p q
one_definition around s (AnAlias i) a b p q = least_once (Holds around s (AnAlias i)) a b p q
one_definition around s (ACanon i) a b p q = least_once (Holds around s (ACanon i)) a b p q
one_definition around s (AnImport i) a b p q = least_once (Holds around s (AnImport i)) a b p q
one_definition around s (AnExport i) a b p q = least_once (Holds around s (AnExport i)) a b p q

one_in : (around : List Space) (s : Space) (ds : List Definition) (a b : ℕ) → Break around s ds a → Break around s ds b → a ≡ b
one_in around s [] a b p q = absurd p
one_in around s (d ∷ ds) a b (inl p) (inl q) = one_definition around s d a b p q
one_in around s (d ∷ ds) a b (inl p) (inr q) = absurd (sound_definition around s d a q.0 p)
one_in around s (d ∷ ds) a b (inr p) (inl q) = absurd (sound_definition around s d b p.0 q)
one_in around s (d ∷ ds) a b (inr p) (inr q) = one_in around (after around s d) ds a b p.1 q.1

one_part : (around : List Space) (s : Space) (part : Part) (a b : ℕ) → BreaksPart around s part a → BreaksPart around s part b → a ≡ b
one_part around s (CoreModule span m) a b p q = p.0 ∙ sym q.0
one_part around s (Nested span tree) a b p q = p.0 ∙ sym q.0
one_part around s (CoreInstances items) a b p q = one_in around s (definitions (CoreInstances items)) a b p q
one_part around s (Instances items) a b p q = one_in around s (definitions (Instances items)) a b p q
one_part around s (Aliases items) a b p q = one_in around s (definitions (Aliases items)) a b p q
one_part around s (Types items) a b p q = one_in around s (definitions (Types items)) a b p q
one_part around s (Canons items) a b p q = one_in around s (definitions (Canons items)) a b p q
one_part around s (Imports items) a b p q = one_in around s (definitions (Imports items)) a b p q
one_part around s (Exports items) a b p q = one_in around s (definitions (Exports items)) a b p q
one_part around s (Custom span) a b p q = absurd p

one_tree : (around : List Space) (s : Space) (tree : Tree) (a b m n : ℕ) → BreaksTree around s tree a m → BreaksTree around s tree b n → (a ≡ b) × (m ≡ n)
one_tree around s End a b m n p q = absurd p
one_tree around s (More part rest) a b m n (inl p) (inl q) = (one_part around s part a b p.1 q.1, p.0 ∙ sym q.0)
one_tree around s (More part rest) a b m n (inl p) (inr q) = absurd (sound_part around s part a q.0 p.1)
one_tree around s (More part rest) a b m n (inr p) (inl q) = absurd (sound_part around s part b p.0 q.1)
one_tree around s (More part rest) a b m n (inr p) (inr q) =
    let same = one_tree around (after_part around s part) rest a b p.1.0 q.1.0 p.1.2 q.1.2 in
    (same.0, p.1.1 ∙ ap (λ k. k + 1) same.1 ∙ sym q.1.1)

pub fault_is_one : (tree : Tree) (a b m n : ℕ) → BreaksComponent tree a m → BreaksComponent tree b n → (a ≡ b) × (m ≡ n)
fault_is_one tree a b m n p q = one_tree [] root tree a b m n p q
