-- What is seen of them, over a host that counts its calls.
use Rattle.std.specs.Prelude.{ℕ, suc, ◌+◌, ◌≡◌, List, [], ◌∷◌, pos, codes, Option, Some, None}
use Rattle.wit_types.specs.Plain.{Plain, Parts, UnsignedType, FourBytes, End as NoParts, More as Part}
use Rattle.wit_types.specs.PlainValue.{PlainValue, PlainValues, IntValue, End as NoValues, More as Values}
use Rattle.host_port.specs.Calls.{PlainObservation, Called, Dropped, Returned, Trapped, Spent, Gives}
use Rattle.host_port.specs.Hosts.{HostStep}
use Rattle.comp_grammar.specs.Trees.{Tree}
use Rattle.comp_worlds.specs.Observed.{Call}
use Rattle.comp_link.specs.Components.{component_obs}
use Rattle.link_rows.specs.Trees.{reader, handing_on, dropper}
use Rattle.comp_link.specs.Plans.{plan_of}
use Rattle.comp_inside.specs.Later.{StaysWhole}
use Rattle.comp_inside.specs.Linked.{PlanKnows, unmade}
use Rattle.link_rows.specs.Guards.{starting, calling_back, owning, lending, drops_it}

abbrev pub counted : Option Plain → ℕ → Option PlainValue
counted None n = None
counted (Some ty) n = Some (IntValue (pos n))

abbrev pub clock : HostStep ℕ
clock = record {
  call = λ n c. record { seen = Called c ∷ []; answer = Gives (counted c.answer n); next = suc n };
  drop = λ n r x. record { seen = Dropped r x ∷ []; next = n };
}

abbrev pub called : List ℕ → Parts → Option Plain → PlainValues → PlainObservation
called name params answer args = Called (record { interface = codes "h"; function = name; params = params; args = args; answer = answer })

abbrev pub now : PlainObservation
now = called (codes "now") NoParts (Some (UnsignedType FourBytes)) NoValues

abbrev pub told : ℕ → PlainObservation
told n = called (codes "tell") (Part (codes "x") (UnsignedType FourBytes) NoParts) None (Values (IntValue (pos n)) NoValues)

abbrev pub f : Call
f = record { interface = []; function = codes "f"; args = NoValues }

abbrev pub runs : Tree → ℕ → List PlainObservation
runs tree n = component_obs tree clock 5 (f ∷ []) n

pub record ReaderExamples : Type 0 where
  -- the module, the lifted function, `call` and the lowered function
  pub once : runs reader 4 ≡ now ∷ Returned (Some (IntValue (pos 5))) ∷ []
  pub fewer : runs reader 3 ≡ Spent ∷ []

pub record NestedExamples : Type 0 where
  -- two components and a module, a component and a module, and the call
  pub handed_on : runs handing_on 8 ≡ now ∷ Returned (Some (IntValue (pos 5))) ∷ []
  pub fewer : runs handing_on 7 ≡ Spent ∷ []

pub record ResourceExamples : Type 0 where
  pub dropped : runs dropper 100 ≡ told 42 ∷ Returned None ∷ []

pub record StartExamples : Type 0 where
  -- two modules; then the start function, `call`, the lowered and the lifted function, `call`, and the host's function
  pub started : runs starting 7 ≡ now ∷ Spent ∷ []
  pub not_yet : runs starting 6 ≡ Spent ∷ []
  -- then `drop`; the lifted function, `call` and the host's function
  pub called_then : runs starting 11 ≡ now ∷ now ∷ Returned (Some (IntValue (pos 6))) ∷ []

pub record EnteredExamples : Type 0 where
  -- an instance that is entered is not called back
  pub called_back : runs calling_back 100 ≡ Trapped ∷ []
  -- a component and three modules; then three functions that are lifted, with `call` and a lowered function between two
  pub last_step : runs calling_back 11 ≡ Trapped ∷ []
  pub fewer : runs calling_back 10 ≡ Spent ∷ []

pub record BorrowExamples : Type 0 where
  -- what is borrowed is dropped before the call returns
  pub dropped : runs (lending drops_it) 100 ≡ Returned None ∷ []
  pub kept : runs (lending []) 100 ≡ Trapped ∷ []

-- inside another component, where seven resources are defined before
abbrev pub seven_more : ℕ → ℕ
seven_more r = 7 + r

pub record InsideExamples : Type 0 where
  pub stays : StaysWhole 1 owning
  pub knows : PlanKnows seven_more (plan_of owning) (unmade owning)
