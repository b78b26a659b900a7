-- Locals in runs.
use Rattle.std.proofs.Common.{◌≡◌, List, [], ◌∷◌, ◌++◌, replicate, refl, ap}
use Rattle.virt_base.specs.declared.core_type.CoreType.{CoreType}
use Rattle.wasm_ast.specs.declared.module.LocalRun.{LocalRun}
use Rattle.core_body.specs.Locals.{spread}
use Rattle.core_store.specs.Locals.{each_local}

-- the locals of the store's function are those of the module's body
pub spread_is_each : (runs : List LocalRun) → each_local runs ≡ spread runs
spread_is_each [] = refl
spread_is_each (r ∷ rs) = ap (λ (ts : List CoreType). replicate r.count r.ty ++ ts) (spread_is_each rs)
