use Rattle.link_rows.proofs.OtherNumbers.{kinds_examples}
use Rattle.link_rows.proofs.worlds.kinds_have_other_numbers.Goals as goal

pub returns : goal.returns
returns c = kinds_examples
