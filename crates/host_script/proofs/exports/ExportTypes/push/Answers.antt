use Rattle.std.proofs.Common.{◌≡◌, ◌∙◌, ℕ, List, ◌∷◌, ◌++◌, [], ap, rules}
use Rattle.std.specs.Prelude.{string_bytes}
use Rattle.host_script.specs.declared.script.ExportType.{ExportType}
use Rattle.host_script.proofs.ExportPlaces.{placed-and}
use Rattle.host_script.proofs.exports.ExportTypes.push.Goals as goal

pub invariant_of-self-2 : goal.invariant_of-self-2
invariant_of-self-2 c =
    let es = c.self.inside.items.items in
    let export : ExportType = record { name = c.from_string-name.result; ty = c.args.export.ty } in
    let items = c.push_reserved.ensures.items ∙ ap (λ l. l ++ export ∷ []) c.reserve.ensures.items in
    let key : string_bytes c.in_ok-key.key ≡ c.from_string-name.result = search (rules, c.in_ok-key.ensures, c.from_string-name.ensures) in
    rw items (placed-and es c.self.inside.places c.add.new.self export (string_bytes c.in_ok-key.key) c.len.result c.self.invariant key (search (rules, c.len.ensures, c.reserve.ensures.items)) c.in_ok-add.ensures.ok)

abbrev named : List ℕ → ExportType → ExportType
named n e = record { name = n; ty = e.ty }

pub returns-clause-ok : goal.returns-clause-ok
returns-clause-ok c =
    let es = c.self.inside.items.items in
    let name : c.from_string-name.result ≡ c.args.export.name = c.from_string-name.ensures ∙ c.into_string-name.ensures in
    let pushed : ExportType = record { name = c.from_string-name.result; ty = c.args.export.ty } in
    let items = c.push_reserved.ensures.items ∙ ap (λ l. l ++ pushed ∷ []) c.reserve.ensures.items in
    items ∙ (ap (λ n. es ++ named n c.args.export ∷ []) name ∙ ap (λ l. l ++ c.args.export ∷ []) c.self.view_is)
