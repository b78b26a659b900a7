use Rattle.virt_engine.proofs.PairReading.{first_asks_of, first_at_fault, first_refused_of}
use Rattle.virt_engine.proofs.plugging.first_of.Goals as goal

pub returns-in-AtFault : goal.returns-in-AtFault
returns-in-AtFault c = first_at_fault c.args.part c.in-AtFault.fault c.in-AtFault.is

pub returns-in-Ok : goal.returns-in-Ok
returns-in-Ok c = first_asks_of c.args.part c.in-Sound.half c.in-Ok.asked c.in-Sound.is c.requires c.in-Ok.ensures.walked

pub returns-in-Err : goal.returns-in-Err
returns-in-Err c = first_refused_of c.args.part c.in-Sound.half c.in-Err.fault c.refused_first.result c.in-Sound.is c.requires c.refused_first.ensures c.in-Err.ensures.walked
