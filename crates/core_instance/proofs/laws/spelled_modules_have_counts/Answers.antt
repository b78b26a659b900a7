use Rattle.core_instance.proofs.CountLemmas.{spelled_counts}
use Rattle.core_instance.proofs.laws.spelled_modules_have_counts.Goals as goal

pub returns : goal.returns
returns c = spelled_counts
