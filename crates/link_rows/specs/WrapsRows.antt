-- What is seen of them.
use Rattle.std.specs.Prelude.{ℕ, suc, ◌≡◌, List, [], ◌∷◌, pos, codes, Some, None}
use Rattle.wit_types.specs.PlainValue.{IntValue, End as NoValues}
use Rattle.host_port.specs.Calls.{PlainObservation, Called, Dropped, Returned, Spent, Trapped, Gives}
use Rattle.host_port.specs.Hosts.{HostStep}
use Rattle.wit_types.specs.Plain.{Name, Plain, PlainFunc, BoolType, OwnType, BorrowType, End as NoParts, More as Part}
use Rattle.comp_types.specs.Items.{FuncItem, InstanceItem, KindItem, ResourceKind, ValueKind, End, More}
use Rattle.comp_grammar.specs.Trees.{Tree}
use Rattle.comp_types.specs.Added.{type_of}
use Rattle.comp_link.specs.Linking.{GivenFunc, GivenInstance, GivenType, Nothing, Giving, linked}
use Rattle.comp_worlds.specs.Groups.{Target, Theirs}
use Rattle.comp_worlds.specs.Observed.{Call}
use Rattle.comp_link.specs.Components.{component_obs}
use Rattle.comp_inside.specs.Wrapping.{Wraps}
use Rattle.comp_inside.specs.Laws.{ImportsNone}
use Rattle.comp_link.specs.Sections.{DefinesTypes}
use Rattle.comp_link.specs.Exports.{IsOf, AreExportsOf}
use Rattle.link_rows.specs.WrapsTrees.{constant, wrapped, silent, silent_wrapped, silent_handed}

-- a host that would count its calls
abbrev pub counting : HostStep ℕ
counting = record {
  call = λ n c. record { seen = Called c ∷ []; answer = Gives None; next = suc n };
  drop = λ n r x. record { seen = Dropped r x ∷ []; next = n };
}

-- the function, and that of the instance
abbrev pub f : Call
f = record { interface = []; function = codes "f"; args = NoValues }

abbrev pub f_of_i : Call
f_of_i = record { interface = codes "i"; function = codes "f"; args = NoValues }

-- a type is no function
abbrev pub t : Call
t = record { interface = []; function = codes "t"; args = NoValues }

abbrev pub runs : Tree → List Call → ℕ → List PlainObservation
runs tree calls n = component_obs tree counting 5 calls n

abbrev pub answered : PlainObservation
answered = Returned (Some (IntValue (pos 42)))

pub record AloneExamples : Type 0 where
  -- the module, and twice the lifted function and its instruction
  pub both : runs constant (f ∷ f_of_i ∷ []) 5 ≡ answered ∷ answered ∷ []
  pub fewer : runs constant (f ∷ f_of_i ∷ []) 4 ≡ answered ∷ Spent ∷ []
  pub no_function : runs constant (t ∷ []) 3 ≡ Trapped ∷ []

pub record WrappedExamples : Type 0 where
  -- the instance of the component in it, and then the same
  pub both : runs wrapped (f ∷ f_of_i ∷ []) 6 ≡ answered ∷ answered ∷ []
  pub fewer : runs wrapped (f ∷ f_of_i ∷ []) 5 ≡ answered ∷ Spent ∷ []
  pub no_function : runs wrapped (t ∷ []) 4 ≡ Trapped ∷ []
  pub no_step : runs wrapped (f ∷ []) 0 ≡ Spent ∷ []

-- the module alone; in the wrapping component the instance before it
pub record SilentExamples : Type 0 where
  pub alone : runs silent [] 1 ≡ []
  pub alone_fewer : runs silent [] 0 ≡ Spent ∷ []
  pub no_function : runs silent (f ∷ []) 2 ≡ Trapped ∷ []
  pub wrapped : runs silent_wrapped [] 2 ≡ []
  pub wrapped_fewer : runs silent_wrapped [] 1 ≡ Spent ∷ []
  pub wrapped_no_function : runs silent_wrapped (f ∷ []) 3 ≡ Trapped ∷ []
  pub empty_sections : runs silent_handed (f ∷ []) 3 ≡ Trapped ∷ []

-- a function of one parameter, and where a call of an import of its type leads
abbrev pub taking : Name → Plain → PlainFunc
taking name ty = record { params = Part name ty NoParts; answer = None }

abbrev pub imported : Plain → Target
imported ty = Theirs (record { interface = []; function = codes "f"; ty = taking (codes "x") ty })

-- a function where the type has one, an instance with the items of its type, a resource and another type
pub record ExportsExamples : Type 0 where
  pub item_by_item : AreExportsOf (type_of constant).exports (linked constant).exports
  pub of_the_instance : IsOf (GivenInstance (Giving (codes "g") GivenType (Giving (codes "f") GivenType Nothing))) (InstanceItem (More (codes "g") (KindItem (ValueKind BoolType)) End))
  -- whatever the name of its parameter and the number of its resource are
  pub of_the_type : IsOf (GivenFunc (imported (OwnType 3))) (FuncItem (taking (codes "y") (OwnType 5)))
  pub of_another_type : IsOf (GivenFunc (imported (OwnType 3))) (FuncItem (taking (codes "x") (BorrowType 3))) → ⊥
  pub no_instance : IsOf GivenType (InstanceItem End) → ⊥
  pub no_resource : IsOf GivenType (KindItem (ResourceKind 0)) → ⊥
  pub one_more : AreExportsOf End (Giving (codes "f") GivenType Nothing) → ⊥
  pub defines : DefinesTypes constant

pub record PremisesHold : Type 0 where
  pub wraps : Wraps wrapped constant
  pub imports_none : ImportsNone constant
  pub silent_wraps : Wraps silent_wrapped silent
  pub empty_wraps : Wraps silent_handed silent
