-- The result type of the first function with a name.
use Rattle.std.proofs.Common.{◌≡◌, ◌∙◌, refl, ap, sym, List, [], ◌∷◌, Bool, true, false, cond}
use Rattle.std.specs.Prelude.{Option, Some, None, option_copied}
use Rattle.std.specs.Borrow.{Bor}
use Rattle.std.specs.Str.{bytes_eq}
use Rattle.wit_types.specs.Plain.{Name, Plain, plain_result}
use Rattle.host_script.specs.Exports.{export_named}
use Rattle.host_script.specs.Script.{exports_seen}
use Rattle.host_script.specs.declared.script.ExportType.{ExportType}
use Rattle.wit_types.specs.declared.types.WitType.{WitType}
use Rattle.script_lines.specs.Lines.{type_of}
use Rattle.virt_engine.specs.Calling.{result_named}

abbrev answer_of : Option ExportType → Option Plain
answer_of None = None
answer_of (Some e) = plain_result e.ty.result

answer_at : (same : Bool) (e : ExportType) (o : Option ExportType) (p : Option Plain) → p ≡ answer_of o → cond same (plain_result e.ty.result) p ≡ answer_of (cond same (Some e) o)
answer_at true e o p h = refl
answer_at false e o p h = h

result_found : (q : Name) (es : List ExportType) → result_named q (exports_seen es) ≡ answer_of (export_named q es)
result_found q [] = refl
result_found q (e ∷ es) = answer_at (bytes_eq e.name q) e (export_named q es) _ (result_found q es)

pub result_is : (q : Name) (es : List ExportType) (e : ExportType) → Some e ≡ export_named q es → plain_result e.ty.result ≡ result_named q (exports_seen es)
result_is q es e is = ap answer_of is ∙ sym (result_found q es)

pub result_none : (q : Name) (es : List ExportType) → None ≡ export_named q es → None ≡ result_named q (exports_seen es)
result_none q es is = ap answer_of is ∙ sym (result_found q es)

pub typed_is : (r : Option (Bor WitType)) → type_of r ≡ plain_result (option_copied r)
typed_is None = refl
typed_is (Some ty) = refl
