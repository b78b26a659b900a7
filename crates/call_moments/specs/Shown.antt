-- Frames as what awaits in the definition.
use Rattle.std.specs.Prelude.{Bool, true, false}
use Rattle.wit_types.specs.PlainValue.{plain_value}
use Rattle.abi_store.specs.Plan as plans
use Rattle.abi_store.specs.Plan.{Plan, Nothing, Given, Asked}
use Rattle.comp_worlds.specs.Groups.{Nesting, Nested, Due as GroupDue, Nothing as NothingDue, Served as IsServed, Below}
use Rattle.instance_state.specs.Targets.{target_of, lifting_of}
use Rattle.instance_state.specs.Loans.{indexes_of}
use Rattle.instance_state.specs.Passed.{options_of}
use Rattle.comp_frames.specs.Frames as defined
use Rattle.call_moments.specs.declared.depth.Depth.{Depth}
use Rattle.call_moments.specs.declared.frame.Call.{Call}
use Rattle.call_moments.specs.declared.frame.Caller.{Caller}
use Rattle.call_moments.specs.declared.frame.Caller.TheVariants as callers
use Rattle.call_moments.specs.declared.frame.Service.{Service}
use Rattle.call_moments.specs.declared.frame.Storing.{Storing}
use Rattle.call_moments.specs.declared.frame.Stored.{Stored}
use Rattle.call_moments.specs.declared.frame.Stored.TheVariants as stored
use Rattle.call_moments.specs.declared.frame.Due.{Due}
use Rattle.call_moments.specs.declared.frame.Due.TheVariants as dues
use Rattle.call_moments.specs.declared.frame.Back.{Back}
use Rattle.call_moments.specs.declared.frame.Back.TheVariants as backs
use Rattle.call_moments.specs.declared.frame.Visit.{Visit}
use Rattle.call_moments.specs.declared.frame.Visit.TheVariants as visits
use Rattle.call_moments.specs.declared.frame.Purpose.{Purpose}
use Rattle.call_moments.specs.declared.frame.Purpose.TheVariants as purposes

abbrev pub depth_of : Depth → Nesting
depth_of d = Nested 65536 d.calls

abbrev pub asker_of : Call → defined.Asker
asker_of c = record { target = target_of c.target; options = options_of c.options; place = c.place; loans = indexes_of c.loans.items }

abbrev pub caller_of : Caller → defined.Caller
caller_of callers.Outside = defined.FromOutside
caller_of (callers.Inside call) = defined.FromCode (asker_of call)

abbrev pub service_of : Service → defined.Service
service_of s = record { instance = s.instance; lifting = lifting_of s.lifting.value; caller = caller_of s.caller; depth = depth_of s.depth }

-- a host's call is left below, where nothing is due
abbrev pub due_of : Due → GroupDue
due_of dues.Host = Below NothingDue
due_of (dues.Served s) = IsServed s.instance (lifting_of s.lifting.value) s.results

abbrev pub next_of : Stored → defined.Stored
next_of (stored.Params service) = defined.Params (service_of service)
next_of (stored.Result due) = defined.Result (due_of due)

abbrev pub storing_of : Storing → defined.Storing
storing_of s = record { options = options_of s.options; depth = depth_of s.depth; types = s.plan.types; next = next_of s.then }

-- a value that goes outside holds no handles, so that it is what passes
abbrev pub back_of : Back → defined.Back
back_of (backs.Outside value) = defined.ToOutside (plain_value value)
back_of (backs.Inside results) = defined.ToCode results

abbrev pub visits_of : Visit → Bool
visits_of visits.Own = false
visits_of visits.Other = true

-- realloc runs for a plan that asked for room
abbrev pub grants_of : defined.Storing → plans.Due → Plan → defined.Purpose
grants_of storing Nothing plan = defined.Starts
grants_of storing (Given place align len) plan = defined.Starts
grants_of storing (Asked align len) plan = defined.Grants storing align len plan.left

abbrev pub purpose_of : Purpose → defined.Purpose
purpose_of purposes.Starts = defined.Starts
purpose_of (purposes.Serves service) = defined.Serves (service_of service)
purpose_of (purposes.Grants storing) = grants_of (storing_of storing) storing.plan.due storing.plan
purpose_of (purposes.Returns back) = defined.Returns (back_of back)
purpose_of (purposes.Destroys visit) = defined.Destroys (visits_of visit)
