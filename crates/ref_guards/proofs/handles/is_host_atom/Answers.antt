use Rattle.std.proofs.Common.{sym, ◌∙◌}
use Rattle.ref_guards.proofs.HandleLemmas.{and_true}
use Rattle.ref_guards.proofs.handles.is_host_atom.Goals as goal

pub returns-in-Handle : goal.returns-in-Handle
returns-in-Handle c = λ f. rw c.in-Handle.is (c.is_host.ensures f ∙ sym (and_true _))
