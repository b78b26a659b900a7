use Rattle.virt_engine.proofs.Runs.{completes, accepts, delivers}
use Rattle.virt_engine.proofs.GenLaws.{gen_completes, gen_delivers}
use Rattle.virt_engine.proofs.PairRuns.{plug_accepts, plug_completes, plug_delivers}
use Rattle.virt_engine.proofs.RunLaws.{run_accepts, run_completes}
use Rattle.virt_engine.proofs.engine.wasi_virt.Goals as goal

pub returns-clause-complete : goal.returns-clause-complete
returns-clause-complete g c = λ none. completes _ _ _ _ _ _ (c.do_words.ensures.virt none)

pub returns-clause-accepts : goal.returns-clause-accepts
returns-clause-accepts g c = λ none. accepts _ _ _ _ _ _ (c.do_words.ensures.virt none)

pub returns-clause-delivers : goal.returns-clause-delivers
returns-clause-delivers g c = λ none. delivers _ _ _ _ _ _ (c.do_words.ensures.virt none)

pub returns-clause-run_completes : goal.returns-clause-run_completes
returns-clause-run_completes g c = λ command run. run_completes _ _ _ _ _ _ (c.do_words.ensures.run command run)

pub returns-clause-run_accepts : goal.returns-clause-run_accepts
returns-clause-run_accepts g c = λ command run. run_accepts _ _ _ _ _ _ (c.do_words.ensures.run command run)

pub returns-clause-made_completes : goal.returns-clause-made_completes
returns-clause-made_completes g c = λ command made. gen_completes _ _ _ _ _ _ (c.do_words.ensures.made command made)

pub returns-clause-made_delivers : goal.returns-clause-made_delivers
returns-clause-made_delivers g c = λ command made. gen_delivers _ _ _ _ _ _ (c.do_words.ensures.made command made)

pub returns-clause-plug_completes : goal.returns-clause-plug_completes
returns-clause-plug_completes g c = λ command plugged. plug_completes _ _ _ _ _ _ (c.do_words.ensures.plugged command plugged)

pub returns-clause-plug_accepts : goal.returns-clause-plug_accepts
returns-clause-plug_accepts g c = λ command plugged. plug_accepts _ _ _ _ _ _ (c.do_words.ensures.plugged command plugged)

pub returns-clause-plug_delivers : goal.returns-clause-plug_delivers
returns-clause-plug_delivers g c = λ command plugged. plug_delivers _ _ _ _ _ _ (c.do_words.ensures.plugged command plugged)
