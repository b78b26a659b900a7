-- What is seen of outputs, and hosts by what they were asked.
use Rattle.std.specs.Prelude.{◌≡◌, List, [], ◌∷◌, codes, None}
use Rattle.wit_types.specs.Plain.{End as NoParts}
use Rattle.wit_types.specs.PlainValue.{End as NoValues}
use Rattle.host_port.specs.declared.call.Resource.{Resource}
use Rattle.host_port.specs.Calls.{PlainCall, Spent, Trapped, Called as SeenCalled, Dropped as SeenDropped, Gives}
use Rattle.comp_link.specs.Components.{component_obs}
use Rattle.output_same.specs.ValidLaws.{output_of}
use Rattle.output_same.specs.Strategies.{Asked, Called, Dropped, state_after, strategy}
use Rattle.link_rows.specs.WrapsTrees.{constant, silent}
use Rattle.link_rows.specs.WrapsRows.{counting, f, f_of_i, t, runs, answered}

-- the instance of the application, and then what it does alone
pub record OutputExamples : Type 0 where
  pub both : runs (output_of constant) (f ∷ f_of_i ∷ []) 6 ≡ answered ∷ answered ∷ []
  pub fewer : runs (output_of constant) (f ∷ f_of_i ∷ []) 5 ≡ answered ∷ Spent ∷ []
  pub no_function : runs (output_of constant) (t ∷ []) 4 ≡ Trapped ∷ []
  pub nothing : runs (output_of silent) (f ∷ []) 3 ≡ Trapped ∷ []
  pub over_strategy : component_obs (output_of constant) (strategy counting 5) [] (f ∷ []) 4 ≡ answered ∷ []

abbrev pub now : PlainCall
now = record { interface = codes "c"; function = codes "now"; params = NoParts; args = NoValues; answer = None }

abbrev pub thing : Resource
thing = record { interface = codes "c"; name = codes "thing" }

-- a drop is not counted
abbrev pub before : List Asked
before = Dropped thing 9 ∷ Called now ∷ Called now ∷ []

-- a host that counts calls, by what it was asked
pub record StrategyExamples : Type 0 where
  pub none_asked : state_after counting 5 [] ≡ 5
  pub asked : state_after counting 5 before ≡ 7
  pub called : (strategy counting 5).call before now ≡ record { seen = SeenCalled now ∷ []; answer = Gives None; next = Called now ∷ before }
  pub dropped : (strategy counting 5).drop before thing 4 ≡ record { seen = SeenDropped thing 4 ∷ []; next = Dropped thing 4 ∷ before }
