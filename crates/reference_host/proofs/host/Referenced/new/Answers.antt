use Rattle.std.proofs.Common.{List, length, ap, ◌∙◌}
use Rattle.wit_types.specs.Plain.{Name}
use Rattle.reference_step.specs.State.{Reference, Setup, opening}
use Rattle.ref_answers.specs.Versions.{version_in}
use Rattle.reference_host.proofs.HostLemmas.{opening_over}
use Rattle.reference_host.proofs.VersionLemmas.{as_many}
use Rattle.reference_host.proofs.host.Referenced.new.Goals as goal

pub new-requires : goal.new-requires
new-requires g c = record { limits = c.requires.limits; trees = c.requires.trees; texts = c.requires.texts; versions = ap length c.in_ok-versions.ensures ∙ as_many c.args.listed.now.uses 27 }

pub returns : goal.returns
returns g c =
    let k = g.H.Host.kept c.args.host in
    let setup : List Name → Setup = λ names. record { policy = c.args.policy; trees = c.args.trees; version = version_in names } in
    record {
      kept = ap (λ (r : Reference g.H.Host.State). record { state = r; seen = k.seen })
          (opening_over c.in_ok-state.state (setup c.in_ok-versions.versions.items) k.state c.in_ok-state.ensures.opening ∙ ap (λ (names : List Name). opening (setup names) k.state) c.in_ok-versions.ensures);
    }
