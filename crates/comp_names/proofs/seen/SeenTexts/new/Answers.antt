use Rattle.std.proofs.Common.{rules}
use Rattle.comp_names.specs.Seen.{holds_text}
use Rattle.comp_names.proofs.seen.SeenTexts.new.Goals as goal

pub returns : goal.returns
unfolding holds_text
returns c = search rules
