use Rattle.std.proofs.Common.{◌≡◌, sym, subst}
use Rattle.core_validate.specs.Validity.{IsValidModule}
use Rattle.core_write.specs.Written.{IsShortestOf, IsWritable}
use Rattle.adapter_bytes.proofs.EmittedLaws.{emitted_writable}
use Rattle.adapter_bytes.proofs.bytes.emit_light.Goals as goal

pub write_both-requires-clause-state : goal.write_both-requires-clause-state
write_both-requires-clause-state c = subst IsWritable (sym c.in_ok-emitted.ensures.state) (emitted_writable c.args.routines.now c.requires.routines c.requires.numbered c.requires.light).0

pub write_both-requires-clause-stubs : goal.write_both-requires-clause-stubs
write_both-requires-clause-stubs c = subst IsWritable (sym c.in_ok-emitted.ensures.stubs) (emitted_writable c.args.routines.now c.requires.routines c.requires.numbered c.requires.light).1

pub returns-clause-state : goal.returns-clause-state
returns-clause-state c = subst (λ m. IsShortestOf m c.in_ok-bytes.bytes.state.items) c.in_ok-emitted.ensures.state c.in_ok-bytes.ensures.state

pub returns-clause-stubs : goal.returns-clause-stubs
returns-clause-stubs c = subst (λ m. IsShortestOf m c.in_ok-bytes.bytes.stubs.items) c.in_ok-emitted.ensures.stubs c.in_ok-bytes.ensures.stubs

pub returns-clause-valid : goal.returns-clause-valid
returns-clause-valid c = subst IsValidModule c.in_ok-emitted.ensures.state c.in_ok-emitted.ensures.valid

pub returns-clause-valid_stubs : goal.returns-clause-valid_stubs
returns-clause-valid_stubs c = subst IsValidModule c.in_ok-emitted.ensures.stubs c.in_ok-emitted.ensures.valid_stubs
