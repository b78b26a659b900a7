use Rattle.clap.specs.Words.{app_of}
use Rattle.virt_words.proofs.Refusals.{parse_ok, parse_err}
use Rattle.virt_words.proofs.reading.matches_of.Goals as goal

pub returns-in-Ok : goal.returns-in-Ok
returns-in-Ok c = parse_ok (app_of c.args.command) c.args.words.now c.in-Ok.matches c.requires.simple c.requires.free c.in-Ok.ensures.kinds c.in-Ok.ensures.matches

pub returns-in-Err : goal.returns-in-Err
returns-in-Err c = parse_err (app_of c.args.command) c.args.words.now c.in-Err.e _ c.requires.free c.in-Err.ensures.kinds c.fault_from.ensures.usage
