use Rattle.std.proofs.Common.{◌∙◌, ap, sym, Some}
use Rattle.std.specs.Prelude.{if◌then◌else◌}
use Rattle.std.specs.Option.{option_or}
use Rattle.comp_types.specs.CoreMatching.{same_text, core_look_up}
use Rattle.comp_scopes.specs.Found.{found}
use Rattle.comp_scopes.proofs.NamedLemmas.{look_last}
use Rattle.comp_scopes.proofs.modules.exports_by_name.Goals as goal

pub loop-export-preserved : goal.loop-export-preserved
loop-export-preserved c = λ q.
    ap (option_or (core_look_up q c.pop.new.self.items))
    (c.in_ok-put.ensures q ∙ ap (λ i. if same_text c.in-Some.export.name q then Some i else found c.loop-export.map q) c.new-item.ensures)
    ∙ (sym (look_last q c.pop.new.self.items c.in-Some.export (found c.loop-export.map q))
    ∙ (ap (λ xs. option_or (core_look_up q xs) (found c.loop-export.map q)) (sym c.in-Some.ensures.items)
    ∙ c.loop-export.invariant q))
