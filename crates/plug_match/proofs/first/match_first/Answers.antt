use Rattle.std.proofs.Common.{◌≡◌, subst}
use Rattle.std.specs.Prelude.{IfSome}
use Rattle.plug_match.specs.FirstWalk.{first_of}
use Rattle.plug_match.specs.Answers.{first_verdict}
use Rattle.plug_match.proofs.FirstLaws.{alone_too}
use Rattle.plug_match.proofs.first.match_first.Goals as goal

pub returns-clause-listed : goal.returns-clause-listed
returns-clause-listed c =
    let o = first_verdict c.match_uses.result in
    alone_too c.args.ty.now.imports o (subst (λ e. IfSome o (λ v. v ≡ first_of e)) c.as_slice.ensures c.match_uses.ensures)
