-- Imports that match are as many as the module declares.
use Rattle.std.proofs.Common.{◌≡◌, ◌≢◌, ◌↔◌, suc, List, [], ◌∷◌, length, refl, ap, false, IsTrue}
use Rattle.wasm_ast.specs.declared.module.CoreFunc.{CoreFunc}
use Rattle.wasm_ast.specs.declared.module.Import.{Import}
use Rattle.core_store.specs.State.{State}
use Rattle.core_instance.specs.declared.external.Extern.{Extern}
use Rattle.core_instance.specs.Matching.{AllMatch}

as_many : (s : State) (types : List CoreFunc) (is : List Import) (es : List Extern) → AllMatch s types is es → length is ≡ length es
as_many s types [] [] m = refl
as_many s types [] (e ∷ es) m = absurd m
as_many s types (i ∷ is) [] m = absurd m
as_many s types (i ∷ is) (e ∷ es) m = ap suc (as_many s types is es m.1)

pub other_count : (s : State) (types : List CoreFunc) (is : List Import) (es : List Extern) → length is ≢ length es → (IsTrue false ↔ AllMatch s types is es)
other_count s types is es h = (λ t. absurd (cc), λ m. absurd (h (as_many s types is es m)))
