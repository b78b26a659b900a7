use Rattle.std.proofs.Common.{◌∙◌, sym}
use Rattle.std.specs.Prelude.{nat_eq}
use Rattle.wasi_match.specs.declared.listed.ListedUse.{ListedUse}
use Rattle.wasi_match.proofs.FoundLemmas.{any-map}
use Rattle.plug_match.proofs.first.is_used.Goals as goal

pub returns : goal.returns
returns c = c.has_use.ensures ∙ sym (any-map (λ (u : ListedUse). u.interface) (nat_eq c.args.interface) c.args.uses.now)
