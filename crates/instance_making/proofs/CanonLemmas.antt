-- Options that say something else.
use Rattle.std.proofs.Common.{◌≡◌, refl, ℕ, List, ◌∷◌}
use Rattle.wasm_ast.specs.declared.component.CanonOption.{CanonOption}
use Rattle.wasm_ast.specs.declared.component.CanonOption.TheVariants.{Utf8, Memory, Realloc, PostReturn}
use Rattle.comp_link.specs.Linking.{Making as GroupMaking, memory_in, realloc_in, post_in}

pub skip-Memory : (g : GroupMaking) (o : CanonOption) (os : List CanonOption) → ((i : ℕ) → o ≡ Memory i → ⊥) → memory_in g (o ∷ os) ≡ memory_in g os
skip-Memory g Utf8 os h = refl
skip-Memory g (Memory i) os h = absurd (h i refl)
skip-Memory g (Realloc i) os h = refl
skip-Memory g (PostReturn i) os h = refl

pub skip-Realloc : (g : GroupMaking) (o : CanonOption) (os : List CanonOption) → ((i : ℕ) → o ≡ Realloc i → ⊥) → realloc_in g (o ∷ os) ≡ realloc_in g os
skip-Realloc g Utf8 os h = refl
skip-Realloc g (Memory i) os h = refl
skip-Realloc g (Realloc i) os h = absurd (h i refl)
skip-Realloc g (PostReturn i) os h = refl

pub skip-PostReturn : (g : GroupMaking) (o : CanonOption) (os : List CanonOption) → ((i : ℕ) → o ≡ PostReturn i → ⊥) → post_in g (o ∷ os) ≡ post_in g os
skip-PostReturn g Utf8 os h = refl
skip-PostReturn g (Memory i) os h = refl
skip-PostReturn g (Realloc i) os h = refl
skip-PostReturn g (PostReturn i) os h = absurd (h i refl)
