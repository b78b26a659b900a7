use Rattle.std.proofs.Common.{◌≡◌, refl, Bool}
use Rattle.std.specs.Prelude.{IsTrue}
use Rattle.wit_types.specs.Plain.{plain}
use Rattle.comp_facts.specs.Keys.{key_of}
use Rattle.comp_types.specs.Matching.{GoesOn, matched_value}
use Rattle.type_table.specs.Tables.{Has}
use Rattle.type_table.specs.Walked.{Remembers, Walks, Keeps}
use Rattle.type_table.proofs.WalkParts.{answers, ok-on}
use Rattle.type_table.proofs.matching.Matching.match_known.Goals as goal

pub invariant_of-self : goal.invariant_of-self
invariant_of-self c =
    let types = c.self.inside.types.now in
    let old = c.self.inside.walked in
    let mid = c.match_found-walk.new.walked in
    c.settle.ensures.kept types
    (ok-on c.match_found-walk.result c.match_found-walk.result (λ (same : Bool). Keeps types old mid same) (λ (same : Bool). IsTrue same → Remembers types mid) refl
    (λ same keeps. keeps c.self.invariant) c.match_found-walk.ensures.kept)

pub returns-clause-met : goal.returns-clause-met
returns-clause-met c =
    let types = c.self.inside.types.now in
    let old = c.self.inside.walked in
    let mid = c.match_found-walk.new.walked in
    let a = c.args.a.now in
    let b = c.args.b.now in
    let p = plain c.ty.result.now in
    let q = plain c.ty-2.result.now in
    let key = c.facts.result.now.key in
    let other = c.facts-2.result.now.key in
    ok-on c.match_found-walk.result c.settle.result
    (λ (same : Bool). key ≡ key_of p → other ≡ key_of q → Has types p → Has types q → Walks types old mid same (matched_value old.by p q))
    (λ (same : Bool). Has c.args.self.now.types a → Has c.args.self.now.types b → GoesOn same c.settle.new.self.by (matched_value c.args.self.now.by a b))
    c.settle.ensures.same
    (λ same walk. answers types old mid c.args.self.now c.settle.new.self.by same a b p q key other c.self.view_is c.ty.ensures c.ty-2.ensures c.facts.ensures.key c.facts-2.ensures.key c.settle.ensures.by c.self.invariant walk)
    c.match_found-walk.ensures.met
