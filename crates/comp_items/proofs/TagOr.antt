-- A value type is a tag or an index, by its first byte.
use Rattle.std.proofs.Common.{◌≡◌, ℕ, Bool, true, false, List, [], ◌∷◌, Err, refl, subst}
use Rattle.virt_base.specs.Place.{Place}
use Rattle.wasm_format.specs.declared.stop.Stop.TheVariants.{Malformed}
use Rattle.wasm_format.specs.Format.{choose, is_tag_byte}
use Rattle.comp_grammar.specs.Types.{primitive_type, indexed_type, val_type}

pub is_none : (p : Place) → p.rest ≡ [] → val_type.read p ≡ Err Malformed
unfolding val_type
is_none p e = rw e refl

pub is_tag : (p : Place) (b : ℕ) (more : List ℕ) → p.rest ≡ b ∷ more → true ≡ is_tag_byte b → val_type.read p ≡ primitive_type.read p
unfolding val_type
is_tag p b more e h = rw e (subst (λ (t : Bool). (choose t primitive_type indexed_type).read (record { at = p.at; rest = b ∷ more }) ≡ primitive_type.read (record { at = p.at; rest = b ∷ more })) h refl)

pub is_index : (p : Place) (b : ℕ) (more : List ℕ) → p.rest ≡ b ∷ more → false ≡ is_tag_byte b → val_type.read p ≡ indexed_type.read p
unfolding val_type
is_index p b more e h = rw e (subst (λ (t : Bool). (choose t primitive_type indexed_type).read (record { at = p.at; rest = b ∷ more }) ≡ indexed_type.read (record { at = p.at; rest = b ∷ more })) h refl)
