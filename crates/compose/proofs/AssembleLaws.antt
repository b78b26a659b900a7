-- An output with an adapter that is right.
use Rattle.std.proofs.Common.{◌≡◌, ℕ, List}
use Rattle.comp_grammar.specs.Trees.{Tree, plain}
use Rattle.comp_types.specs.Items.{Entries}
use Rattle.policy_data.specs.declared.policy.Policy.{Policy}
use Rattle.wasi_match.specs.declared.listed.ListedUse.{ListedUse}
use Rattle.adapter_world.specs.Names.{Named, needed_count, needed_names}
use Rattle.comp_pair.specs.declared.assembled.Front.{Front}
use Rattle.comp_pair.specs.declared.assembled.Assembled.{Assembled}
use Rattle.comp_pair.specs.Assembled.{IsFront, IsAssembled}
use Rattle.compose.specs.Composed.{IsComposed}
use Rattle.compose.specs.Assembled.{HasAdapter, IsMade, IsRight}

pub is_made : (names : List Named) (app : Tree) (size : ℕ) (f : Front) (a : Assembled) → HasAdapter names f → ((adapter : Tree) → IsFront adapter f → IsAssembled adapter app size a) → IsMade names app size a
is_made names app size f a h made = record { adapter = h.adapter; right = h.right; assembled = made h.adapter h.front }

-- What was made and is right is composed.
pub is_composed : (policy : Policy) (uses : List ListedUse) (app : Tree) (exported : Entries) (size needed : ℕ) (a : Assembled) → IsMade (needed_names policy uses) app size a → IsRight (needed_names policy uses) exported (plain a.whole) → needed ≡ needed_count policy uses
    → IsComposed policy app uses exported size (record { front = a.front; back = a.back; needed = needed })
is_composed policy uses app exported size needed a made right count = record {
  output = plain a.whole;
  spelled = made.assembled.spelled;
  valid = right.valid;
  imports = right.imports;
  exports = right.exports;
  adapter = made.adapter;
  right = made.right;
  components = made.assembled.components;
  joins = right.joins made.adapter app made.assembled.components;
  before = made.assembled.before;
  front = made.assembled.front;
  count = count;
}
