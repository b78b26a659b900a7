use Rattle.std.proofs.Common.{List, ap, ◌∙◌}
use Rattle.wasi_match.specs.declared.listed.ListedUse.{ListedUse}
use Rattle.reference_host.specs.Versions.{version_of}
use Rattle.reference_host.proofs.VersionLemmas.{next_version}
use Rattle.reference_host.proofs.versions.versions_of.Goals as goal

pub loop-interface-preserved : goal.loop-interface-preserved
loop-interface-preserved c =
    next_version c.args.listed.now.uses c.loop-interface.interface c.loop-interface.versions.items c.push.new.self.items c.in_ok-version.version c.in_ok-push.ensures.items
    (c.in_ok-version.ensures ∙ c.version_of.ensures ∙ ap (λ (us : List ListedUse). version_of us c.loop-interface.interface) c.as_slice-uses.ensures) c.loop-interface.invariant
