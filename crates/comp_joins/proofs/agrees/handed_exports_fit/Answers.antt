use Rattle.comp_joins.proofs.Handing.{handed_on_fits}
use Rattle.comp_joins.proofs.agrees.handed_exports_fit.Goals as goal

pub returns : goal.returns
returns c = handed_on_fits
