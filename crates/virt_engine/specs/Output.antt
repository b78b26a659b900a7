-- The output of an application: a valid component that exports what the application exports, and holds the application unchanged. That
-- of an application that imports nothing imports nothing and does what the application does; any other imports what the policy needs of
-- the application's imports, and nothing else.
use Rattle.std.specs.Prelude.{◌≡◌, ◌≢◌, ◌⊎◌, ℕ, List, [], ◌∷◌, ◌++◌, length}
use mathlib.Core.Logic.{inl, inr}
use Rattle.wasm_format.specs.Format.{u32_format}
use Rattle.policy_data.specs.declared.policy.Policy.{Policy}
use Rattle.comp_types.specs.Items.{Entries, End}
use Rattle.comp_grammar.specs.Trees.{Tree}
use Rattle.comp_grammar.specs.Components.{SpellsComponent}
use Rattle.comp_write.specs.Copying.{bare}
use Rattle.comp_types.specs.Added.{type_of}
use Rattle.comp_types.specs.Validity.{IsValidComponent}
use Rattle.output_same.specs.Holding.{components_in, HoldsOnce}
use Rattle.comp_joined.specs.Form.{IsJoining}
use Rattle.output_same.specs.Strategies.{DoesTheSame}
use Rattle.virt_output.specs.Bytes.{front_bytes, back_bytes}
use Rattle.wasi_match.specs.declared.listed.ListedUse.{ListedUse}
use Rattle.adapter_world.specs.Imports.{AreNeeded}
use Rattle.adapter_world.specs.Names.{needed_count}
use Rattle.component_judge.specs.Applications.{IsApplication}
use Rattle.component_judge.specs.declared.limits.Purpose.TheVariants.{Virt}

-- Two sections of the outermost level hold components, and the second is the application's: its content is the application's bytes,
-- unchanged. The output makes an instance of each, and its own sections make nothing.
pub record HoldsBeside (app : List ℕ) (tree : Tree) (bytes : List ℕ) (output : Tree) : Type 0 where
  pub adapter : Tree
  pub inner : Tree
  pub both : components_in output ≡ adapter ∷ inner ∷ []
  pub joins : IsJoining adapter inner output
  pub same : bare inner ≡ bare tree
  pub before : List ℕ
  pub behind : List ℕ
  pub unchanged : bytes ≡ (before ++ (4 ∷ u32_format.write (length app))) ++ (app ++ behind)

-- ---- of a component that imports nothing

-- The bytes spell a valid component without imports, whose exports are those of the component in it, name by name with equal types, and
-- which holds that unchanged in one section of its outermost level.
pub record IsWrappedAlone (tree : Tree) (app bytes : List ℕ) : Type 0 where
  pub output : Tree
  pub spelled : SpellsComponent output bytes
  pub valid : IsValidComponent output
  pub imports : (type_of output).imports ≡ End
  pub exports : (type_of output).exports ≡ (type_of tree).exports
  pub unchanged : HoldsOnce app bytes output

-- ---- of a component that imports these of the listed interfaces, under a policy

-- The bytes spell a valid component, whose imports are those that are needed, whose exports are those of the component in it, name by name
-- with equal types, and which holds that unchanged in one section of its outermost level.
pub record IsWrappedBeside (policy : Policy) (uses : List ListedUse) (tree : Tree) (app bytes : List ℕ) : Type 0 where
  pub output : Tree
  pub spelled : SpellsComponent output bytes
  pub valid : IsValidComponent output
  pub imports : AreNeeded policy uses (type_of output).imports
  pub exports : (type_of output).exports ≡ (type_of tree).exports
  pub unchanged : HoldsBeside app tree bytes output

abbrev pub IsWrappedOf : Policy → List ListedUse → Tree → List ℕ → List ℕ → Type 0
IsWrappedOf policy uses tree app bytes = (((type_of tree).imports ≡ End) × IsWrappedAlone tree app bytes) ⊎ IsWrappedBeside policy uses tree app bytes

-- how many functions it imports
abbrev pub wrapped_count : (policy : Policy) (uses : List ListedUse) (tree : Tree) (app bytes : List ℕ) → IsWrappedOf policy uses tree app bytes → ℕ
wrapped_count policy uses tree app bytes (inl alone) = 0
wrapped_count policy uses tree app bytes (inr beside) = needed_count policy uses

-- ---- of an application

-- The bytes are an output of an application that imports nothing. Over whatever host, for every list of calls of its exports, it is seen to
-- do what the application does, in one step more.
pub record IsOutputAlone (app bytes : List ℕ) : Type 0 where
  pub tree : Tree
  pub uses : List ListedUse
  pub application : IsApplication Virt app tree uses
  pub nothing : (type_of tree).imports ≡ End
  pub wrapped : IsWrappedAlone tree app bytes
  pub behaves : DoesTheSame wrapped.output tree

-- The bytes are an output of an application with imports, under a policy.
pub record IsOutputBeside (policy : Policy) (app bytes : List ℕ) : Type 0 where
  pub tree : Tree
  pub uses : List ListedUse
  pub application : IsApplication Virt app tree uses
  pub something : (type_of tree).imports ≢ End
  pub wrapped : IsWrappedBeside policy uses tree app bytes

abbrev pub IsOutputOf : Policy → List ℕ → List ℕ → Type 0
IsOutputOf policy app bytes = IsOutputAlone app bytes ⊎ IsOutputBeside policy app bytes

-- how many functions it imports
abbrev pub imported_by : (policy : Policy) (app bytes : List ℕ) → IsOutputOf policy app bytes → ℕ
imported_by policy app bytes (inl alone) = 0
imported_by policy app bytes (inr beside) = needed_count policy beside.uses

-- the output that is written for an application that imports nothing and exports these
abbrev pub output_bytes : List ℕ → Entries → List ℕ
output_bytes app exports = front_bytes (length app) ++ (app ++ back_bytes exports)
