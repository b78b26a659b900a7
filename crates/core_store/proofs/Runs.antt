-- Locals in runs, one run more.
use Rattle.std.proofs.Common.{◌≡◌, ℕ, ◌+◌, ◌<◌, List, [], ◌∷◌, ◌++◌, length, take, replicate, get_or, ap, ◌∙◌}
use Rattle.std.proofs.lemmas.List.{append-nil, length-append, length-replicate, take_more}
use Rattle.std.proofs.lemmas.Grind.{flat_map-append}
use Rattle.virt_base.specs.declared.core_type.CoreType.{CoreType}
use Rattle.wasm_ast.specs.declared.module.LocalRun.{LocalRun}
use Rattle.core_store.specs.Locals.{each_local}

pub count_more : (runs : List LocalRun) (i : ℕ) (d : LocalRun) → i < length runs → length (each_local (take (i + 1) runs)) ≡ length (each_local (take i runs)) + (get_or runs i d).count
count_more runs i d less =
    let r = get_or runs i d in
    let run : LocalRun → List CoreType = λ r. replicate r.count r.ty in
    ap (λ (rs : List LocalRun). length (each_local rs)) (take_more runs i d less)
    ∙ (ap length (flat_map-append run (take i runs) (r ∷ []))
    ∙ (length-append (each_local (take i runs)) (run r ++ [])
    ∙ ap (λ (n : ℕ). length (each_local (take i runs)) + n) (ap length (append-nil (run r)) ∙ length-replicate r.count r.ty)))
