-- A module that breaks a rule is not valid.
use Rattle.std.proofs.Common.{subst, ℕ, List, [], ◌∷◌, ◌++◌}
use Rattle.wasm_ast.specs.declared.module.Module.{Module}
use Rattle.core_body.specs.Context.{Context}
use Rattle.core_validate.specs.Items.{Item}
use Rattle.core_validate.specs.Spaces.{context}
use Rattle.core_validate.specs.Validity.{AllHold, Holds, IsValidModule, Breaks}

holds_at : (c : Context) (before : List Item) (item : Item) (after : List Item) → AllHold c (before ++ item ∷ after) → (rule : ℕ) → Holds c item rule
holds_at c [] item after h = h.0
holds_at c (x ∷ xs) item after h = holds_at c xs item after h.1

pub broken_is_invalid : (m : Module) (rule : ℕ) → Breaks m rule → IsValidModule m → ⊥
broken_is_invalid m rule b valid = b.broken.0 (holds_at (context m) b.before b.item b.after (subst (AllHold (context m)) b.order valid) rule)
