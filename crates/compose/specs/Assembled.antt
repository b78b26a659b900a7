-- An output that is put together of an adapter and an application.
use Rattle.std.specs.Prelude.{◌≡◌, ℕ, List, [], ◌∷◌}
use Rattle.comp_grammar.specs.Trees.{Tree}
use Rattle.comp_types.specs.Items.{Entries}
use Rattle.comp_types.specs.Added.{type_of}
use Rattle.comp_types.specs.Validity.{IsValidComponent}
use Rattle.adapter_world.specs.Names.{Named}
use Rattle.adapter_world.specs.Imports.{AreListedBy}
use Rattle.output_same.specs.Holding.{components_in}
use Rattle.comp_joined.specs.Form.{IsJoining}
use Rattle.comp_pair.specs.Assembled.{IsFront, IsAssembled}
use Rattle.comp_pair.specs.declared.assembled.Front.{Front}
use Rattle.comp_pair.specs.declared.assembled.Assembled.{Assembled}
use Rattle.compose.specs.Composed.{IsAdapter}

-- a front with an adapter that is right
pub record HasAdapter (names : List Named) (f : Front) : Type 0 where
  pub adapter : Tree
  pub right : IsAdapter names adapter
  pub front : IsFront adapter f

-- an output with an adapter that is right
pub record IsMade (names : List Named) (app : Tree) (size : ℕ) (a : Assembled) : Type 0 where
  pub adapter : Tree
  pub right : IsAdapter names adapter
  pub assembled : IsAssembled adapter app size a

-- what is asked of an output
pub record IsRight (names : List Named) (exported : Entries) (output : Tree) : Type 0 where
  pub valid : IsValidComponent output
  pub imports : AreListedBy names (type_of output).imports
  pub exports : (type_of output).exports ≡ exported
  -- it joins the two that it holds
  pub joins : (first second : Tree) → components_in output ≡ first ∷ second ∷ [] → IsJoining first second output
