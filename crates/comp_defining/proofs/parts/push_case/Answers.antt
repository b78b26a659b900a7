use Rattle.std.proofs.Common.{◌∙◌, ap}
use Rattle.wit_types.specs.Plain.{cases_of, payload_of}
use Rattle.comp_defining.specs.Parts.{and_case}
use Rattle.comp_defining.proofs.PartLemmas.{cases-and}
use Rattle.comp_defining.proofs.parts.push_case.Goals as goal

pub returns : goal.returns
returns c =
    ap cases_of c.in_ok-push.ensures.items
    ∙ (cases-and c.args.cases.now.items _
    ∙ (ap (λ n. and_case (cases_of c.args.cases.now.items) n (payload_of c.in_ok-ty.ty)) c.in_ok-name.ensures
    ∙ ap (and_case (cases_of c.args.cases.now.items) c.args.name.now) c.in_ok-ty.ensures))
