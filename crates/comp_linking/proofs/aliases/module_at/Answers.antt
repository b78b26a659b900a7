use Rattle.std.proofs.Common.{◌≡◌, ◌∙◌, ap, sym, subst, slice_get, ◌∷◌, ℕ, Some, None, Bor}
use Rattle.std.specs.Prelude.{option_map}
use Rattle.wasm_ast.specs.declared.module.Module.{Module}
use Rattle.comp_linking.specs.declared.draft.Draft.{Draft}
use Rattle.comp_linking.specs.Drafts.{module_at}
use Rattle.comp_linking.specs.Walks.{made}
use Rattle.comp_linking.specs.Names.{AreNamed}
use Rattle.comp_linking.proofs.PartLemmas.{numbers_module, outer_module_is}
use Rattle.comp_linking.proofs.aliases.module_at.Goals as goal

pub returns-in_default : goal.returns-in_default
returns-in_default c = λ ms todo outer a h.
    let cs = made ms c.args.planner.now.components.items in
    let here = slice_get (a ∷ outer) c.args.count in
    let n = subst (AreNamed ms cs here) (ap (option_map (λ (d : Bor Draft). d.now)) c.in_default.is) (c.draft_at.ensures ms todo outer a h) in
    numbers_module ms cs here None c.args.index n ∙ ap (option_map (λ (q : Module). Some q)) (sym (outer_module_is (a ∷ outer) c.args.count c.args.index))

pub returns-in-None : goal.returns-in-None
returns-in-None c = λ ms todo outer a h.
    let cs = made ms c.args.planner.now.components.items in
    let here = slice_get (a ∷ outer) c.args.count in
    let n = subst (AreNamed ms cs here) (ap (option_map (λ (d : Bor Draft). d.now)) c.in-Some.is) (c.draft_at.ensures ms todo outer a h) in
    let e : slice_get c.in-Some.draft.now.modules.items c.args.index ≡ None = sym c.module_at.ensures ∙ ap (option_map (λ (k : Bor ℕ). k.now)) c.in-None.is in
    ap (option_map (module_at ms)) (sym e) ∙ (numbers_module ms cs here (Some c.in-Some.draft.now) c.args.index n ∙ ap (option_map (λ (q : Module). Some q)) (sym (outer_module_is (a ∷ outer) c.args.count c.args.index)))

pub returns-in-Some-module_at : goal.returns-in-Some-module_at
returns-in-Some-module_at c = λ ms todo outer a h.
    let cs = made ms c.args.planner.now.components.items in
    let here = slice_get (a ∷ outer) c.args.count in
    let n = subst (AreNamed ms cs here) (ap (option_map (λ (d : Bor Draft). d.now)) c.in-Some.is) (c.draft_at.ensures ms todo outer a h) in
    let e : slice_get c.in-Some.draft.now.modules.items c.args.index ≡ Some c.in-Some-module_at.number.now = sym c.module_at.ensures ∙ ap (option_map (λ (k : Bor ℕ). k.now)) c.in-Some-module_at.is in
    ap (option_map (module_at ms)) (sym e) ∙ (numbers_module ms cs here (Some c.in-Some.draft.now) c.args.index n ∙ ap (option_map (λ (q : Module). Some q)) (sym (outer_module_is (a ∷ outer) c.args.count c.args.index)))
