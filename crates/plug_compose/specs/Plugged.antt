-- One component that holds two, the second plugged into the first.
use Rattle.std.specs.Prelude.{◌≡◌, ℕ, List, [], ◌∷◌, ◌++◌}
use Rattle.comp_grammar.specs.Trees.{Tree, plain}
use Rattle.comp_write.specs.Copying.{SpellsBare}
use Rattle.comp_types.specs.Items.{Entries}
use Rattle.comp_types.specs.Added.{type_of}
use Rattle.comp_types.specs.Validity.{IsValidComponent}
use Rattle.comp_signature.specs.Signatures.{component_signature}
use Rattle.comp_signature.specs.declared.ComponentType.{ComponentType}
use Rattle.output_same.specs.Holding.{components_in}
use Rattle.comp_joined.specs.Form.{IsJoining}
use Rattle.wasi_match.specs.Listed.{IsListed}
use Rattle.wasi_match.specs.declared.listed.Listed.{Listed}
use Rattle.wasi_match.specs.declared.listed.ListedUse.{ListedUse}
use Rattle.comp_pair.specs.Assembled.{HasSection}
use Rattle.comp_pair.specs.declared.assembled.Assembled.{Assembled}
use Rattle.plug_compose.specs.declared.plugged.Plugged.{Plugged}

-- all bytes of what was put together around the second component's
abbrev pub bytes_around : Assembled → List ℕ → List ℕ
bytes_around a second = a.front.items ++ (second ++ a.back.items)

-- Both components, and no others, stand in the whole, with their bytes.
pub record HoldsBoth (first second : Tree) (first_bytes second_bytes : List ℕ) (a : Assembled) : Type 0 where
  pub spelled : SpellsBare 0 (plain a.whole) (bytes_around a second_bytes)
  pub components : components_in (plain a.whole) ≡ first ∷ second ∷ []
  pub held_first : HasSection first_bytes (bytes_around a second_bytes)
  pub held_second : HasSection second_bytes (bytes_around a second_bytes)

-- The whole is valid, of this type; it is listed, asks for exactly this of the host, exports exactly this, and joins the two that it holds.
pub record IsRight (whole : Tree) (exported : Entries) (imported : List ListedUse) (ty : ComponentType) (l : Listed) : Type 0 where
  pub valid : IsValidComponent whole
  pub typed : component_signature ty ≡ type_of whole
  pub listed : IsListed (type_of whole) l.uses
  pub imports : l.uses ≡ imported
  pub exports : (type_of whole).exports ≡ exported
  pub joins : (first second : Tree) → components_in whole ≡ first ∷ second ∷ [] → IsJoining first second whole

-- The two components, with these bytes, make one that imports this of the host and exports this.
pub record IsPlugged (first second : Tree) (exported : Entries) (imported : List ListedUse) (first_bytes second_bytes : List ℕ) (p : Plugged) : Type 0 where
  -- the bytes spell it
  pub spelled : SpellsBare 0 (plain p.component) p.bytes.items
  pub valid : IsValidComponent (plain p.component)
  pub typed : component_signature p.ty ≡ type_of (plain p.component)
  pub listed : IsListed (type_of (plain p.component)) p.listed.uses
  -- it imports exactly the functions that either asks for
  pub imports : p.listed.uses ≡ imported
  pub exports : (type_of (plain p.component)).exports ≡ exported
  -- two components stand at the outermost level, the first and the second, with their bytes unchanged
  pub components : components_in (plain p.component) ≡ first ∷ second ∷ []
  -- it makes an instance of each, and its own sections make nothing
  pub joins : IsJoining first second (plain p.component)
  pub held_first : HasSection first_bytes p.bytes.items
  pub held_second : HasSection second_bytes p.bytes.items
