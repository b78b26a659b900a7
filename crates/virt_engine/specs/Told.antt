-- What is to be told of a run, by the definition: what is observed of a component over a host, each result with the type of its function,
-- and how the run ends.
use Rattle.std.specs.Prelude.{ℕ, List, [], ◌∷◌, ◌++◌, map, Option, None}
use Rattle.wit_types.specs.Plain.{Plain}
use Rattle.wit_types.specs.PlainValue.{PlainValue}
use Rattle.host_port.specs.Calls.{PlainObservation, Returned, Spent as IsSpent}
use Rattle.host_port.specs.Hosts.{HostStep}
use Rattle.comp_worlds.specs.Acts.{End, Trapped, ScriptEnded, BadAnswer, TooDeep, end_item, Out, Next, Over, Spent, Act, ◌>>◌, gives}
use Rattle.comp_worlds.specs.Passing.{out_of_tuple}
use Rattle.comp_worlds.specs.Groups.{Nesting, Nested, Group, World}
use Rattle.comp_worlds.specs.Calls.{is_made}
use Rattle.comp_worlds.specs.Hosts.{hosted}
use Rattle.comp_worlds.specs.Observed.{first_state, Call, asks_export, leaves_export}
use Rattle.call_moments.specs.declared.end.RunEnd.{RunEnd}
use Rattle.call_moments.specs.declared.end.RunEnd.TheVariants as ends

-- something observed, with the type of a result where its function has one
pub record Item : Type 0 where
  pub ty : Option Plain
  pub seen : PlainObservation

pub record Told : Type 0 where
  pub items : List Item
  pub end : RunEnd

-- a call, and the type of its result
pub record TypedCall : Type 0 where
  pub ty : Option Plain
  pub call : Call

abbrev pub end_of : End → RunEnd
end_of Trapped = ends.Trapped
end_of ScriptEnded = ends.ScriptEnded
end_of BadAnswer = ends.BadAnswer
end_of TooDeep = ends.TooDeep

-- what is seen of the host, and how a run ends, has no type
abbrev pub untyped : List PlainObservation → List Item
untyped seen = map (λ o. record { ty = None; seen = o }) seen

abbrev pub last : List PlainObservation → PlainObservation → RunEnd → Told
last seen o end = record { items = untyped (seen ++ o ∷ []); end = end }

abbrev pub before : List Item → Told → Told
before items told = record { items = items ++ told.items; end = told.end }

-- what is seen meanwhile, what is told of its answer, and then what follows; or the run ends
abbrev pub told_after : {S A : Type 0} → (A → List Item) → Out (World S) A → (World S → ℕ → Told) → Told
told_after of (Next o l w a) next = before (untyped o ++ of a) (next w l)
told_after of (Over o e) next = last o (end_item e) (end_of e)
told_after of (Spent o) next = last o IsSpent ends.Spent

-- at most 65,536 calls are in progress
abbrev pub at_most : Nesting
at_most = Nested 65536 0

-- a result is told by the type of its function
abbrev pub result_item : Option Plain → Option PlainValue → List Item
result_item ty v = record { ty = ty; seen = Returned v } ∷ []

-- of the making nothing more is told
abbrev pub nothing_more : Unit {0} → List Item
nothing_more u = []

module _ {S : Type 0} (G : Group) (h : HostStep S) where
  -- a call from outside, up to its result
  abbrev pub calls_export : Call → Act (World S) (Option PlainValue)
  calls_export call =
      asks_export G (hosted h) at_most call >> λ answer.
      leaves_export G (hosted h) at_most answer.due >> λ _.
      gives (out_of_tuple answer.passed.value)

  abbrev pub told_calls : List TypedCall → World S → ℕ → Told
  told_calls [] w n = record { items = []; end = ends.Returned None }
  told_calls (c ∷ cs) w n = told_after (result_item c.ty) (calls_export c.call w n) (λ w' l. told_calls cs w' l)

  -- the group is made over the host in this state, and then these calls are made, in at most that many steps
  abbrev pub told : List TypedCall → S → ℕ → Told
  told calls s n = told_after nothing_more (is_made G (hosted h) at_most (first_state (G ∷ []) s) n) (λ w l. told_calls calls w l)
