use Rattle.std.proofs.Common.{◌≡◌, ◌∙◌, ap, sym, subst, slice_get, ◌∷◌, ◌++◌, ℕ, Option, Some, None, Bor}
use Rattle.std.specs.Prelude.{option_map}
use Rattle.comp_linking.specs.declared.draft.Draft.{Draft}
use Rattle.comp_linking.specs.Walks.{made}
use Rattle.comp_linking.specs.Names.{AreNamed, AreOne, outer_plan, outer_known}
use Rattle.comp_linking.proofs.PartLemmas.{one_named}
use Rattle.comp_linking.proofs.aliases.component_at.Goals as goal

pub returns-in_default : goal.returns-in_default
returns-in_default c = λ ms todo outer a h more.
    let cs = made ms c.args.planner.now.components.items in
    let n = subst (AreNamed ms cs (slice_get (a ∷ outer) c.args.count)) (ap (option_map (λ (d : Bor Draft). d.now)) c.in_default.is) (c.draft_at.ensures ms todo outer a h) in
    one_named ms cs (a ∷ outer) c.args.count c.args.index None more n

pub returns-in-None : goal.returns-in-None
returns-in-None c = λ ms todo outer a h more.
    let cs = made ms c.args.planner.now.components.items in
    let n = subst (AreNamed ms cs (slice_get (a ∷ outer) c.args.count)) (ap (option_map (λ (d : Bor Draft). d.now)) c.in-Some.is) (c.draft_at.ensures ms todo outer a h) in
    let e : slice_get c.in-Some.draft.now.components.items c.args.index ≡ None = sym c.component_at.ensures ∙ ap (option_map (λ (k : Bor ℕ). k.now)) c.in-None.is in
    subst (λ (m : Option ℕ). AreOne (cs ++ more) (outer_plan (a ∷ outer) c.args.count c.args.index) (outer_known (a ∷ outer) c.args.count c.args.index) m) e (one_named ms cs (a ∷ outer) c.args.count c.args.index (Some c.in-Some.draft.now) more n)

pub returns-in-Some-component_at : goal.returns-in-Some-component_at
returns-in-Some-component_at c = λ ms todo outer a h more.
    let cs = made ms c.args.planner.now.components.items in
    let n = subst (AreNamed ms cs (slice_get (a ∷ outer) c.args.count)) (ap (option_map (λ (d : Bor Draft). d.now)) c.in-Some.is) (c.draft_at.ensures ms todo outer a h) in
    let e : slice_get c.in-Some.draft.now.components.items c.args.index ≡ Some c.in-Some-component_at.number.now = sym c.component_at.ensures ∙ ap (option_map (λ (k : Bor ℕ). k.now)) c.in-Some-component_at.is in
    subst (λ (m : Option ℕ). AreOne (cs ++ more) (outer_plan (a ∷ outer) c.args.count c.args.index) (outer_known (a ∷ outer) c.args.count c.args.index) m) e (one_named ms cs (a ∷ outer) c.args.count c.args.index (Some c.in-Some.draft.now) more n)
