-- One more function is exported.
use Rattle.std.proofs.Common.{◌≡◌, ℕ, suc, ◌+◌, List, [], ◌∷◌, ◌++◌, length, ap, arith}
use Rattle.wasm_ast.specs.declared.module.Export.{Export}
use Rattle.wasm_ast.specs.declared.module.ExportItem.TheVariants as exported
use Rattle.adapter_transfer.specs.declared.module.Defined.{Defined}
use Rattle.adapter_transfer.specs.Module.{exports_from}

abbrev pub one : List ℕ → ℕ → Export
one name at = record { name = name; item = exported.Func at }

pub exports_more : (at n : ℕ) (ds : List Defined) (d : Defined) → n ≡ at + length ds → exports_from at (ds ++ d ∷ []) ≡ exports_from at ds ++ one d.name n ∷ []
exports_more at n [] d e =
    let same : at ≡ n = omega (arith, e) in
    ap (λ k. one d.name k ∷ []) same
exports_more at n (x ∷ ds) d e = ap (λ l. one x.name at ∷ l) (exports_more (suc at) n ds d (omega (arith, e)))
