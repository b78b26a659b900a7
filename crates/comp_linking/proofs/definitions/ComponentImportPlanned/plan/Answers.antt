use Rattle.std.proofs.Common.{refl, List, [], ◌++◌, Some}
use Rattle.comp_types.specs.Definitions.{AnImport}
use Rattle.comp_link.specs.Planned.{PlannedComponent}
use Rattle.comp_linking.specs.Walks.{spaces, made}
use Rattle.comp_linking.proofs.StayLemmas.{import_stays}
use Rattle.type_table.proofs.ScopeLaws.{covers_grew}
use Rattle.comp_linking.proofs.StepLemmas.{behind_made, makes_behind}
use Rattle.comp_linking.proofs.definitions.ComponentImportPlanned.plan.Goals as goal

pub returns : goal.returns
returns c = λ ms todo outer a valid h.
    let x = c.args.planner.now in
    let old = x.scopes.types in
    let mid = c.import_item.new.types in
    let new = c.define_import.new.types in
    let planned = λ (more : List PlannedComponent). c.in_ok-item.ensures ms (made ms x.components.items ++ more) a.space h.scopes.inner h.scopes.covered.0 in
    let grew = (planned []).1 in
    let both = c.in_ok-define_import.ensures (spaces outer) a.space h.scopes.inner (covers_grew old mid a.space grew h.scopes.covered.0) in
    behind_made ms todo outer a (AnImport c.args.self.now) x c.define_import.new.scope new c.in_ok-define_import.field-0 c.add.new.self (Some c.in_ok-item.item) h
    (makes_behind old mid new a.space (AnImport c.args.self.now) c.in_ok-define_import.field-0 grew both.1) both.0 (λ r b. b.0 (valid r)) refl (import_stays (spaces outer) a.space c.args.self.now)
    c.in_ok-add.ensures.modules c.in_ok-add.ensures.components c.in_ok-add.ensures.items
    (λ more. (planned more).0)
