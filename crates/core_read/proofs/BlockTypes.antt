-- The type of a block is a tag or an index, by its first byte.
use Rattle.std.proofs.Common.{◌≡◌, ℕ, Bool, true, false, List, [], ◌∷◌, Err, refl, subst}
use Rattle.virt_base.specs.Place.{Place}
use Rattle.wasm_format.specs.declared.stop.Stop.TheVariants.{Malformed}
use Rattle.wasm_format.specs.Format.{choose, is_tag_byte}
use Rattle.wasm_ast.specs.Types.{tagged_block, numbered_block, block_type}

pub is_none : (p : Place) → p.rest ≡ [] → block_type.read p ≡ Err Malformed
unfolding block_type
is_none p e = rw e refl

pub is_tag : (p : Place) (b : ℕ) (more : List ℕ) → p.rest ≡ b ∷ more → true ≡ is_tag_byte b → block_type.read p ≡ tagged_block.read p
unfolding block_type
is_tag p b more e h = rw e (subst (λ (t : Bool). (choose t tagged_block numbered_block).read (record { at = p.at; rest = b ∷ more }) ≡ tagged_block.read (record { at = p.at; rest = b ∷ more })) h refl)

pub is_number : (p : Place) (b : ℕ) (more : List ℕ) → p.rest ≡ b ∷ more → false ≡ is_tag_byte b → block_type.read p ≡ numbered_block.read p
unfolding block_type
is_number p b more e h = rw e (subst (λ (t : Bool). (choose t tagged_block numbered_block).read (record { at = p.at; rest = b ∷ more }) ≡ numbered_block.read (record { at = p.at; rest = b ∷ more })) h refl)
