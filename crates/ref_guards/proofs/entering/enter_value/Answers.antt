use Rattle.std.proofs.Common.{◌≡◌, List, length, ap, ◌∙◌, arith}
use Rattle.wit_types.specs.Plain.{plain_result}
use Rattle.host_port.specs.Calls.{plain_option}
use Rattle.reference_step.specs.Atoms.{Atom, handles, result_atoms}
use Rattle.ref_guards.proofs.EnterLemmas.{length-numbers}
use Rattle.ref_guards.proofs.entering.enter_value.Goals as goal

pub renumber_result-requires : goal.renumber_result-requires
renumber_result-requires c =
    let many : length c.as_slice.result.now ≡ length (handles (result_atoms (plain_result c.args.ty.now) (plain_option c.args.value))) =
    ap length (c.as_slice.ensures.value ∙ c.in_ok-numbers.ensures.numbers) ∙ length-numbers c.args.standing _ _ ∙ ap (λ (atoms : List Atom). length (handles atoms)) c.requires.noted in
    omega (arith, many)
