-- Functions that are defined and exported, each of which may be written.
use Rattle.std.proofs.Common.{◌≡◌, ℕ, zero, suc, ◌+◌, ◌*◌, ◌<◌, ◌≤◌, ◌^◌, List, [], ◌∷◌, ◌++◌, map, length, refl, arith, length-append}
use Rattle.wasm_format.specs.Format.{sized, u32_format}
use Rattle.wasm_ast.specs.declared.module.Export.{Export}
use Rattle.wasm_ast.specs.declared.module.ExportItem.TheVariants as exported
use Rattle.wasm_ast.specs.declared.module.Body.{Body}
use Rattle.wasm_ast.specs.Items.{export, body}
use Rattle.adapter_transfer.specs.declared.module.Defined.{Defined}
use Rattle.adapter_transfer.specs.Module.{exports_from}
use Rattle.adapter_state.specs.declared.parts.Presence.{Presence}
use Rattle.adapter_state.specs.State.{each_kind}
use Rattle.adapter_bytes.proofs.Sections.{IsSmall, none, one_more, both, sized_fits}
use Rattle.adapter_bytes.proofs.Items.{IsName, func_export, export_fits, index_fits}

-- a function whose body takes that many bytes at most, its size among them
pub record IsFunction (most : ℕ) (d : Defined) : Type 0 where
  pub named : IsName 15 d.name
  pub ty : d.ty < 2 ^ 32
  pub fits : (sized body).Fits d.body
  pub few : length ((sized body).write d.body) ≤ most

-- functions whose bodies take that many together
abbrev pub AreFunctions : ℕ → List Defined → Type 0
AreFunctions total [] = Unit {0}
AreFunctions total (d ∷ ds) = (k rest : ℕ) × (k + rest ≤ total) × (0 < k) × IsFunction k d × AreFunctions rest ds

pub function_of : (most : ℕ) (d : Defined) → IsName 15 d.name → d.ty < 2 ^ 32 → most + 5 < 2 ^ 32 → body.Fits d.body × (length (body.write d.body) ≤ most) → AreFunctions (5 + most) (d ∷ [])
function_of most d n ty lt b =
    let s = sized_fits body most d.body b.0 b.1 (omega (arith, lt)) in
    (5 + most, 0, omega arith, omega arith, record { named = n; ty = ty; fits = s.0; few = s.1 }, tt)

pub functions_wider : (m n : ℕ) (ds : List Defined) → m ≤ n → AreFunctions m ds → AreFunctions n ds
functions_wider m n [] le fs = tt
functions_wider m n (d ∷ ds) le fs = (fs.0, fs.1, omega (arith, fs.2, le), fs.3, fs.4, fs.5)

pub functions_both : (m n : ℕ) (xs ys : List Defined) → AreFunctions m xs → AreFunctions n ys → AreFunctions (m + n) (xs ++ ys)
functions_both m n [] ys fs gs = functions_wider n (m + n) ys (omega arith) gs
functions_both m n (x ∷ xs) ys fs gs = (fs.0, fs.1 + n, omega (arith, fs.2), fs.3, fs.4, functions_both fs.1 n xs ys fs.5 gs)

pub functions_small : (total : ℕ) (ds : List Defined) → AreFunctions total ds → IsSmall u32_format (5 * length ds) (map (λ (d : Defined). d.ty) ds)
functions_small total [] fs = none u32_format
functions_small total (d ∷ ds) fs =
    let f = fs.4 in
    let i = index_fits d.ty f.ty in
    let more = one_more u32_format 5 (5 * length ds) d.ty (map (λ (d : Defined). d.ty) ds) (omega arith) i.0 i.1 (functions_small fs.1 ds fs.5) in
    record { fits = more.fits; count = omega (arith, more.count); few = omega (arith, more.few) }

pub exports_small : (total at : ℕ) (ds : List Defined) → at + length ds ≤ 2 ^ 32 → AreFunctions total ds → IsSmall export (26 * length ds) (exports_from at ds)
exports_small total at [] le fs = none export
exports_small total at (d ∷ ds) le fs =
    let f = fs.4 in
    let e = export_fits 15 6 (record { name = d.name; item = exported.Func at }) (omega arith) f.named (func_export at (omega (arith, le))) in
    let more = one_more export 26 (26 * length ds) _ (exports_from (suc at) ds) (omega arith) e.0 e.1 (exports_small fs.1 (suc at) ds (omega (arith, le)) fs.5) in
    record { fits = more.fits; count = omega (arith, more.count); few = omega (arith, more.few) }

pub code_small : (total : ℕ) (ds : List Defined) → AreFunctions total ds → IsSmall (sized body) total (map (λ (d : Defined). d.body) ds)
code_small total [] fs = record { fits = tt; count = omega arith; few = omega arith }
code_small total (d ∷ ds) fs =
    let f = fs.4 in
    let more = one_more (sized body) fs.0 fs.1 d.body (map (λ (d : Defined). d.body) ds) fs.3 f.fits f.few (code_small fs.1 ds fs.5) in
    record { fits = more.fits; count = omega (arith, more.count, fs.2); few = omega (arith, more.few, fs.2) }

-- ---- lists that are made kind by kind

pub each_function : (f : ℕ → Presence → List Defined) (bound kind : ℕ) (ps : List Presence) → kind + length ps ≤ bound → ((k : ℕ) (p : Presence) → k < bound → AreFunctions 3000 (f k p)) → AreFunctions (3000 * length ps) (each_kind f kind ps)
each_function f bound kind [] le each = tt
each_function f bound kind (p ∷ ps) le each =
    functions_wider (3000 + 3000 * length ps) (3000 * suc (length ps)) (each_kind f kind (p ∷ ps)) (omega arith)
    (functions_both 3000 (3000 * length ps) (f kind p) (each_kind f (suc kind) ps) (each kind p (omega (arith, le))) (each_function f bound (suc kind) ps (omega (arith, le)) each))
