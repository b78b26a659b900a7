use Rattle.std.proofs.Common.{List, ℕ, Bor, ap, ◌∙◌, option_map}
use Rattle.ref_virtual.proofs.NameLemmas.{same_named}
use Rattle.ref_virtual.proofs.named.method_among.Goals as goal

pub returns-in-Some : goal.returns-in-Some
returns-in-Some g c = ap (option_map (λ m. m.1)) c.in-Some.ensures ∙ same_named (λ (t : Bor (List ℕ)). t.now) c.args.function.now c.args.methods.now

pub returns-in-None : goal.returns-in-None
returns-in-None g c = ap (option_map (λ m. m.1)) c.in-None.ensures ∙ same_named (λ (t : Bor (List ℕ)). t.now) c.args.function.now c.args.methods.now
