-- What is written around an application: an output that holds an adapter and the application, unchanged.
use Rattle.std.specs.Prelude.{◌≡◌, ℕ, List, [], ◌∷◌, ◌++◌, length}
use Rattle.wasm_format.specs.Format.{u32_format}
use Rattle.comp_grammar.specs.Trees.{Tree}
use Rattle.comp_write.specs.Copying.{SpellsBare}
use Rattle.comp_types.specs.Items.{Entries}
use Rattle.comp_types.specs.Added.{type_of}
use Rattle.comp_types.specs.Validity.{IsValidComponent}
use Rattle.output_same.specs.Holding.{components_in}
use Rattle.comp_joined.specs.Form.{IsJoining}
use Rattle.policy_data.specs.declared.policy.Policy.{Policy}
use Rattle.wasi_match.specs.declared.listed.ListedUse.{ListedUse}
use Rattle.adapter_world.specs.Names.{Named, needed_count, needed_names}
use Rattle.adapter_world.specs.Imports.{AreListedBy, AreNeeded}
use Rattle.compose.specs.declared.composed.Composed.{Composed}

-- an adapter: valid by itself, it imports what is needed, by these names, and nothing else
pub record IsAdapter (names : List Named) (adapter : Tree) : Type 0 where
  pub valid : IsValidComponent adapter
  pub imports : AreListedBy names (type_of adapter).imports

-- The bytes before and after an application of that many bytes, which imports these interfaces and exports these entries, make an
-- output of it under the policy.
pub record IsComposed (policy : Policy) (app : Tree) (uses : List ListedUse) (exported : Entries) (size : ℕ) (c : Composed) : Type 0 where
  pub output : Tree
  -- the application's bytes stand between the two parts
  pub spelled : (bytes : List ℕ) → length bytes ≡ size → SpellsBare 0 app bytes → SpellsBare 0 output (c.front.items ++ (bytes ++ c.back.items))
  pub valid : IsValidComponent output
  pub imports : AreNeeded policy uses (type_of output).imports
  pub exports : (type_of output).exports ≡ exported
  -- two components stand at the outermost level, the adapter and the application, in whose section are its bytes alone
  pub adapter : Tree
  pub right : IsAdapter (needed_names policy uses) adapter
  pub components : components_in output ≡ adapter ∷ app ∷ []
  -- it makes an instance of each, and its own sections make nothing
  pub joins : IsJoining adapter app output
  pub before : List ℕ
  pub front : c.front.items ≡ before ++ (4 ∷ u32_format.write size)
  pub count : c.needed ≡ needed_count policy uses
