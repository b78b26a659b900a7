use Rattle.virt_engine.proofs.PairReading.{second_at_fault, second_meets_of, second_refused_of}
use Rattle.virt_engine.proofs.plugging.second_of.Goals as goal

pub returns-in-AtFault : goal.returns-in-AtFault
returns-in-AtFault c = second_at_fault c.args.asking.now c.args.part c.in-AtFault.fault c.in-AtFault.is

pub returns-in-Ok : goal.returns-in-Ok
returns-in-Ok c = second_meets_of c.args.asking.now c.args.part c.in-Sound.half c.in-Ok.joined c.in-Sound.is c.requires.first c.requires.second c.in-Ok.ensures

pub returns-in-Err : goal.returns-in-Err
returns-in-Err c = second_refused_of c.args.asking.now c.args.part c.in-Sound.half c.in-Err.fault c.refused_second.result c.in-Sound.is c.requires.first c.requires.second c.refused_second.ensures c.in-Err.ensures
