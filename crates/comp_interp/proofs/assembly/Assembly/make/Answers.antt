use Rattle.std.proofs.Common.{◌∙◌, ◌++◌, ◌∷◌, [], ap, sym, subst, Ok, Some, None}
use Rattle.comp_calls.specs.Moments.{at}
use Rattle.comp_interp.specs.Parts.{IsSoundPart}
use Rattle.comp_interp.specs.Levels.{AreSound}
use Rattle.comp_interp.specs.Going.{LevelsStand, LevelGoes}
use Rattle.comp_interp.proofs.First.{first_stood}
use Rattle.comp_interp.proofs.Looping.{level_went, level_stops}
use Rattle.comp_interp.proofs.Sounding.{sound_pop, whole_sound}
use Rattle.comp_interp.proofs.assembly.Assembly.make.Goals as goal

pub go_on-requires-clause-level : goal.go_on-requires-clause-level
go_on-requires-clause-level g c = (sound_pop c.args.linked.now c.pop.new.self.items c.in-Some.level (subst (AreSound c.args.linked.now) c.in-Some.ensures.items c.levels.invariant.0)).1

pub go_on-requires-clause-levels : goal.go_on-requires-clause-levels
go_on-requires-clause-levels g c = (sound_pop c.args.linked.now c.pop.new.self.items c.in-Some.level (subst (AreSound c.args.linked.now) c.in-Some.ensures.items c.levels.invariant.0)).0

pub levels-init : goal.levels-init
levels-init g c =
    let linked = c.args.linked.now in
    let first = at g.H.Host.kept c.args.self.now.world in
    let new = at g.H.Host.kept c.begin.new.self.world in
    let one = c.in_ok-push.ensures.items ∙ ap (λ xs. xs ++ c.in_ok-begin.field-0 ∷ []) c.new-levels.ensures.items in (
      subst (AreSound linked) (sym one) (subst (IsSoundPart linked) (sym c.in_ok-begin.ensures.part) (whole_sound linked c.requires), tt),
      λ none fresh frames.
          subst (λ levels. LevelsStand g.H.Host.step linked first c.begin.new.self.made.items levels new) (sym one)
          (first_stood g.H.Host.step linked c.requires first (at g.H.Host.kept c.imports.new.self.world) new c.imports.new.self.made.items c.begin.new.self.made.items c.in_ok-given.given c.in_ok-begin.field-0 fresh frames (c.in_ok-given.ensures none fresh)
          c.in_ok-begin.ensures.enters c.in_ok-begin.ensures.part c.in_ok-begin.ensures.at),
    )

pub levels-preserved : goal.levels-preserved
levels-preserved g c = (
  c.in_ok-exports.ensures.sound,
  λ none fresh frames.
      let linked = c.args.linked.now in
      let now = at g.H.Host.kept c.levels.self.world in
      let new = at g.H.Host.kept c.go_on.new.self.world in
      level_went g.H.Host.step linked (at g.H.Host.kept c.args.self.now.world) c.levels.self.made.items c.levels.levels.items now (c.levels.invariant.1 none fresh frames) c.pop.new.self.items c.in-Some.level c.in-Some.ensures.items c.go_on.new.self.made.items c.go_on.new.levels.items new
      (Ok None) (subst (λ o. LevelGoes g.H.Host.step linked c.levels.self.made.items c.pop.new.self.items c.in-Some.level now (Ok o) c.go_on.new.self.made.items c.go_on.new.levels.items new) c.in_default-2.is c.in_ok-exports.ensures.goes),
)

pub returns-in-Some-2 : goal.returns-in-Some-2
returns-in-Some-2 g c = λ none fresh frames.
    let linked = c.args.linked.now in
    let now = at g.H.Host.kept c.levels.self.world in
    let new = at g.H.Host.kept c.go_on.new.self.world in
    level_went g.H.Host.step linked (at g.H.Host.kept c.args.self.now.world) c.levels.self.made.items c.levels.levels.items now (c.levels.invariant.1 none fresh frames) c.pop.new.self.items c.in-Some.level c.in-Some.ensures.items c.go_on.new.self.made.items c.go_on.new.levels.items new
    (Ok (Some c.in-Some-2.exports)) (subst (λ o. LevelGoes g.H.Host.step linked c.levels.self.made.items c.pop.new.self.items c.in-Some.level now (Ok o) c.go_on.new.self.made.items c.go_on.new.levels.items new) c.in-Some-2.is c.in_ok-exports.ensures.goes)

pub returns-in_err-exports : goal.returns-in_err-exports
returns-in_err-exports g c = λ none fresh frames.
    let linked = c.args.linked.now in
    let now = at g.H.Host.kept c.levels.self.world in
    let new = at g.H.Host.kept c.go_on.new.self.world in
    level_stops g.H.Host.step linked (at g.H.Host.kept c.args.self.now.world) c.levels.self.made.items c.levels.levels.items now (c.levels.invariant.1 none fresh frames) c.pop.new.self.items c.in-Some.level c.in-Some.ensures.items c.go_on.new.self.made.items c.go_on.new.levels.items new
    c.in_err-exports.field-0.0 c.from_residual-in_err-exports.result c.from_residual-in_err-exports.ensures.1 c.in_err-exports.ensures.goes
