use Rattle.std.proofs.Common.{◌≡◌, ◌<◌, ◌∙◌, arith, ap, refl, length, get_or}
use Rattle.wit_types.specs.declared.types.Field.{out-Field}
use Rattle.wit_types.specs.Plain.{plain}
use Rattle.comp_facts.specs.Keys.{key_of}
use Rattle.type_table.proofs.ParamLaws.{keys-count, key-of_field, has-field}
use Rattle.type_table.proofs.WalkParts.{same-parameter, other-parameter, all-parameters, walks-differ}
use Rattle.type_table.proofs.matching.match_parameters.Goals as goal

pub bounds-keys-i : goal.bounds-keys-i
bounds-keys-i c = omega (arith, c.loop-i-test.true, ap length c.requires.keys, keys-count c.args.a.now)

pub bounds-others-i : goal.bounds-others-i
bounds-others-i c = omega (arith, c.loop-i-test.true, c.loop-i.invariant.as_many, ap length c.requires.others, keys-count c.args.b.now)

pub loop-i-preserved : goal.loop-i-preserved
loop-i-preserved c =
    let types = c.args.types.now in
    let xs = c.args.a.now in
    let ys = c.args.b.now in
    let i = c.loop-i.i in
    let x = get_or xs i c.index-a-i.result in
    let y = get_or ys i c.index-b-i.result in
    let first : x ≡ get_or xs i x = ap (get_or xs i) c.index-a-i.is in
    let second : y ≡ get_or ys i y = ap (get_or ys i) c.index-b-i.is in
    let within : i < length xs = c.loop-i-test.true in
    let inside : i < length ys = omega (arith, within, c.loop-i.invariant.as_many) in
    let key : get_or c.args.keys.now i 0 ≡ key_of (plain (out-Field x).ty) = ap (λ ks. get_or ks i 0) c.requires.keys ∙ key-of_field xs i x 0 within first in
    let other : get_or c.args.others.now i 0 ≡ key_of (plain (out-Field y).ty) = ap (λ ks. get_or ks i 0) c.requires.others ∙ key-of_field ys i y 0 inside second in
    record {
      as_many = c.loop-i.invariant.as_many;
      kept = λ mem on. c.in_ok-match_found.ensures.kept (c.loop-i.invariant.kept mem refl) c.if-not-branch.false;
      met = λ h g. same-parameter types c.args.walked.now c.loop-i.walked xs ys i c.loop-i.invariant.as_many (c.loop-i.invariant.met h g) x y within first second c.match_found.new.walked _
          (c.in_ok-match_found.ensures.met key other (has-field types xs i x within first h) (has-field types ys i y inside second g)) c.if-not-branch.false;
    }

pub returns-then-a-b-clause-met : goal.returns-then-a-b-clause-met
returns-then-a-b-clause-met c = λ h g. walks-differ c.args.types.now c.args.walked.now c.args.walked.now c.args.a.now c.args.b.now (λ e. c.if-a-b.true e)

pub returns-then-not-branch-clause-met : goal.returns-then-not-branch-clause-met
returns-then-not-branch-clause-met c = λ h g.
    let types = c.args.types.now in
    let xs = c.args.a.now in
    let ys = c.args.b.now in
    let i = c.loop-i.i in
    let x = get_or xs i c.index-a-i.result in
    let y = get_or ys i c.index-b-i.result in
    let first : x ≡ get_or xs i x = ap (get_or xs i) c.index-a-i.is in
    let second : y ≡ get_or ys i y = ap (get_or ys i) c.index-b-i.is in
    let within : i < length xs = c.loop-i-test.true in
    let inside : i < length ys = omega (arith, within, c.loop-i.invariant.as_many) in
    let key : get_or c.args.keys.now i 0 ≡ key_of (plain (out-Field x).ty) = ap (λ ks. get_or ks i 0) c.requires.keys ∙ key-of_field xs i x 0 within first in
    let other : get_or c.args.others.now i 0 ≡ key_of (plain (out-Field y).ty) = ap (λ ks. get_or ks i 0) c.requires.others ∙ key-of_field ys i y 0 inside second in
    other-parameter types c.args.walked.now c.loop-i.walked xs ys i c.loop-i.invariant.as_many (c.loop-i.invariant.met h g) x y within first second c.match_found.new.walked _
    (c.in_ok-match_found.ensures.met key other (has-field types xs i x within first h) (has-field types ys i y inside second g)) c.if-not-branch.true

pub returns-clause-met : goal.returns-clause-met
returns-clause-met c = λ h g.
    let xs = c.args.a.now in
    let end : c.loop-i.i ≡ length xs = omega arith in
    all-parameters c.args.types.now c.args.walked.now c.loop-i.walked xs c.args.b.now c.loop-i.i c.loop-i.invariant.as_many (c.loop-i.invariant.met h g) end
