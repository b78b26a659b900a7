use Rattle.wasi_match.specs.Walk.{verdict}
use Rattle.wasi_match.proofs.VerdictLaws.{one_verdict}
use Rattle.wasi_match.proofs.WalkLaws.{verdict_holds}
use Rattle.wasi_match.proofs.imports.has_one_verdict.Goals as goal

pub returns : goal.returns
returns c = λ ty. (verdict_holds ty, λ v h. one_verdict ty v (verdict ty) h (verdict_holds ty))
