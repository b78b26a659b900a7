use Rattle.std.proofs.Common.{sym, subst, Global}
use Rattle.std.specs.Prelude.{Option}
use Rattle.std.specs.declared.rc.Rc.{Rc}
use Rattle.wit_types.specs.Plain.{Plain}
use Rattle.comp_types.specs.Known.{AreKnownOf}
use Rattle.comp_defining.specs.Parts.{and_case, known_of}
use Rattle.comp_defining.proofs.parts.add_payload.Goals as goal

pub returns-in-None : goal.returns-in-None
returns-in-None c = λ ps h.
    subst (λ (o : Option (Rc Plain Global)). AreKnownOf (and_case ps c.args.name.now (known_of o)) c.add_bare.new.self) (sym c.in-None.is) (c.add_bare.ensures ps h)
