-- Calls, answers and observations without the places where they lie in memory, so that two are equal where their trees are.
use Rattle.std.specs.Prelude.{ℕ, Option, Some, None}
use Rattle.wit_types.specs.declared.value.Value.{Value}
use Rattle.wit_types.specs.declared.types.Fields.{Fields, out-Fields}
use Rattle.wit_types.specs.Plain.{Name, Plain, Parts, fields_of, plain_result}
use Rattle.wit_types.specs.PlainValue.{PlainValue, PlainValues, plain_value, plain_values}
use Rattle.host_port.specs.declared.call.HostCall.{HostCall}
use Rattle.host_port.specs.declared.call.Resource.{Resource}
use Rattle.host_port.specs.declared.answer.Answer.{Answer}
use Rattle.host_port.specs.declared.answer.Answer.TheVariants.{Value as Value', Trap as Trap', Ended as Ended', Bad as Bad'}
use Rattle.host_port.specs.declared.answer.Observation.{Observation}
use Rattle.host_port.specs.declared.answer.Observation.TheVariants.{Called as Called', Dropped as Dropped', Returned as Returned', Trapped as Trapped', ScriptEnded as ScriptEnded', BadAnswer as BadAnswer', Spent as Spent', TooDeep as TooDeep'}

-- a call: the names of the function, the types of an import, and the arguments
pub record PlainCall : Type 0 where
  pub interface : Name
  pub function : Name
  pub params : Parts
  pub args : PlainValues
  pub answer : Option Plain

pub data PlainAnswer : Type 0 where
  Gives : (value : Option PlainValue) → PlainAnswer
  Trap : PlainAnswer
  Ended : PlainAnswer
  Bad : PlainAnswer

pub data PlainObservation : Type 0 where
  Called : (call : PlainCall) → PlainObservation
  Dropped : (resource : Resource) → (id : ℕ) → PlainObservation
  Returned : (value : Option PlainValue) → PlainObservation
  Trapped : PlainObservation
  ScriptEnded : PlainObservation
  BadAnswer : PlainObservation
  Spent : PlainObservation
  TooDeep : PlainObservation

abbrev pub fields_in : Fields → Parts
fields_in fields = fields_of (out-Fields fields).items.items

abbrev pub plain_call : HostCall → PlainCall
plain_call c = record { interface = c.func.value.interface; function = c.func.value.function; params = fields_in c.func.value.params; args = plain_values c.args; answer = plain_result c.func.value.result }

abbrev pub plain_option : Option Value → Option PlainValue
plain_option None = None
plain_option (Some value) = Some (plain_value value)

abbrev pub plain_answer : Answer → PlainAnswer
plain_answer (Value' value) = Gives (plain_option value)
plain_answer Trap' = Trap
plain_answer Ended' = Ended
plain_answer Bad' = Bad

abbrev pub plain_observation : Observation → PlainObservation
plain_observation (Called' call) = Called (plain_call call)
plain_observation (Dropped' resource id) = Dropped resource id
plain_observation (Returned' value) = Returned (plain_option value)
plain_observation Trapped' = Trapped
plain_observation ScriptEnded' = ScriptEnded
plain_observation BadAnswer' = BadAnswer
plain_observation Spent' = Spent
plain_observation TooDeep' = TooDeep
