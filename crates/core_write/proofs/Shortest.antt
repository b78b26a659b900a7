-- What is written for a module that bytes spell is the shortest spelling of it.
use Rattle.std.proofs.Common.{◌≡◌, ℕ, ◌+◌, List, [], length, sym, ap, subst, ◌∙◌}
use Rattle.virt_base.specs.Place.{Place}
use Rattle.wasm_format.specs.Format.{AreBytes}
use Rattle.wasm_format.proofs.Laws.{ok_is}
use Rattle.wasm_ast.specs.declared.module.Module.{Module}
use Rattle.wasm_ast.specs.Modules.{core_module, SpellsModule}
use Rattle.wasm_ast.proofs.ModuleLaws.{exact_core_module}
use Rattle.core_write.specs.Written.{IsShortestOf, ModuleFits, module_bytes}
use Rattle.core_write.proofs.ModuleLeast.{least_core_module}
use Rattle.core_write.proofs.ModuleWriting.{module_fits, module_written}

-- some bytes spell the module
abbrev pub IsSpelled : Module → Type 0
IsSpelled m = (text : List ℕ) × AreBytes text × SpellsModule m text

format_fits : (m : Module) → IsSpelled m → core_module.Fits m
format_fits m s = (least_core_module.least 0 m s.0 s.1 s.2).0

pub spelled_fits : (m : Module) → IsSpelled m → ModuleFits m
spelled_fits m s = module_fits m (format_fits m s)

-- the bytes of its sections are the spelling that is written
pub fits_is_written : (m : Module) (out : List ℕ) → core_module.Fits m → out ≡ module_bytes m → out ≡ core_module.write m
fits_is_written m out f e = e ∙ sym (module_written m f)

pub is_written : (m : Module) (out : List ℕ) → IsSpelled m → out ≡ module_bytes m → out ≡ core_module.write m
is_written m out s e = fits_is_written m out (format_fits m s) e

-- no bytes spell two modules
only_one : (m n : Module) (text : List ℕ) → SpellsModule m text → SpellsModule n text → n ≡ m
only_one m n text s t =
    let e = ok_is (n, record { at = 0 + length text; rest = [] }) (m, record { at = 0 + length text; rest = [] }) (sym (exact_core_module.again n text 0 t) ∙ exact_core_module.again m text 0 s) in
    ap (λ (x : Module × Place). x.0) e

pub fits_is_shortest : (m : Module) (out : List ℕ) → core_module.Fits m → out ≡ module_bytes m → IsShortestOf m out
fits_is_shortest m out f e =
    let written : SpellsModule m (core_module.write m) = exact_core_module.written m 0 f in
    subst (IsShortestOf m) (sym (fits_is_written m out f e)) (record {
      spelled = written;
      only = λ other t. only_one m other (core_module.write m) written t;
      least = λ other h t. (least_core_module.least 0 m other h t).1;
    })

pub is_shortest : (m : Module) (out : List ℕ) → IsSpelled m → out ≡ module_bytes m → IsShortestOf m out
is_shortest m out s e = fits_is_shortest m out (format_fits m s) e
