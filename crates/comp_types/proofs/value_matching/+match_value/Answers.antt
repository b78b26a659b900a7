use Rattle.std.proofs.Common.{◌∙◌, sym, []}
use Rattle.wit_types.specs.Plain.{Bare, More, End, plain}
use Rattle.comp_types.proofs.ValueLemmas.{cases_step, step_goes, result_goes}
use Rattle.comp_types.proofs.Only.{only-Option}
use Rattle.comp_types.proofs.Primitives.{is_primitive}
use Rattle.comp_types.proofs.value_matching.+match_value.Goals as goal

pub match_option-returns-in_default : goal.match_option-returns-in_default
match_option-returns-in_default t c = only-Option c.args.by.now (Bare [] (More [] (plain c.args.a.now) End)) c.args.b.now c.in_default.not-Option

pub match_cases-loop-i-preserved : goal.match_cases-loop-i-preserved
match_cases-loop-i-preserved t c = (
  c.loop-i.invariant.0,
  c.loop-i.invariant.1
      ∙ (cases_step c.loop-i.by c.args.a.now c.args.b.now c.loop-i.i _ _ _ _ c.loop-i-test.true c.loop-i.invariant.0
      ∙ step_goes _ _ _ _ _ c.in_ok-match_payload.ensures (sym c.same_name.ensures ∙ c.if-not-same_name.false) c.if-not-branch.false),
)

pub match_value-returns-in_ok-same-in-Result : goal.match_value-returns-in_ok-same-in-Result
match_value-returns-in_ok-same-in-Result t c =
    result_goes _ _ _ _ _ _ _ _ _ _ _ c.in-Result.is c.in-Result-b.is c.in_ok-match_payload-in-Result.ensures c.if-not-branch.false c.in_ok-same-in-Result.ensures

pub match_value-returns-in_default : goal.match_value-returns-in_default
match_value-returns-in_default t c =
    c.same_primitive.ensures _ (is_primitive _ c.in_default.not-Record c.in_default.not-Tuple c.in_default.not-Variant c.in_default.not-List c.in_default.not-Flags c.in_default.not-Enum c.in_default.not-Option c.in_default.not-Result c.in_default.not-Own c.in_default.not-Borrow)
