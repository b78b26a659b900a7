-- What a row makes, and what its first handle stands for then.
use Rattle.std.specs.Prelude.{◌≡◌, ℕ, ◌+◌, ◌≤◌, List, Option, Some, None, true, IfSome, slice_index_or, slice_set, option_map}
use Rattle.wit_types.specs.PlainValue.{PlainValues}
use Rattle.host_port.specs.Calls.{plain_option}
use Rattle.reference_step.specs.Values.{id_in, nth}
use Rattle.ref_answers.specs.declared.row.Effect.{Effect}
use Rattle.ref_answers.specs.declared.row.Row.{Row}
use Rattle.ref_answers.specs.declared.row.Row.TheVariants.{Traps, Does}
use Rattle.ref_guards.specs.declared.standing.Standing.TheVariants.{Made}
use Rattle.ref_guards.specs.Entering.{IsInside, with_handles}
use Rattle.ref_host_calls.specs.declared.request.Request.{Request}
use Rattle.ref_host_calls.specs.Requests.{call_of, handles_in}
use Rattle.ref_rules.specs.declared.content.Content.{Content}
use Rattle.ref_rules.specs.declared.content.Handle.{Handle}
use Rattle.ref_rules.specs.Lives.{LiveTable, count_of_kind, is_inside, standing_for}
use Rattle.ref_guards.specs.RoomEntering.{are_kinds, count_kind}

-- the first handle of arguments, if it is live, stands for this
abbrev pub becomes_in : List (Option Handle) → PlainValues → Option Content → List (Option Handle)
becomes_in handles args None = handles
becomes_in handles args (Some content) =
    let id = id_in (nth 0 args) in
    slice_set handles id (option_map (standing_for content) (slice_index_or handles id None))

-- the live handles after an effect, and after a row
abbrev pub live_after : Request → LiveTable → Effect → LiveTable
live_after q live e = record live { handles = with_handles (Made e.makes) (becomes_in live.handles (call_of q).args e.becomes) (handles_in q (plain_option e.value)) }

abbrev pub live_behind : Request → LiveTable → Row → LiveTable
live_behind q live Traps = live
live_behind q live (Does e) = live_after q live e

-- what an effect makes has room and is of listed kinds, and each scratch file that is held then is one of those that may be
pub record MayEnter (q : Request) (live : LiveTable) (e : Effect) : Type 0 where
  pub kinds : are_kinds (handles_in q (plain_option e.value)) ≡ true
  pub room : (kind : ℕ) → count_kind kind (handles_in q (plain_option e.value)) + count_of_kind kind live.handles ≤ live.slots
  pub makes : IsInside live.files (Made e.makes)
  pub becomes : IfSome e.becomes (λ content. is_inside live.files content ≡ true)

abbrev pub RowMayEnter : Request → LiveTable → Row → Type 0
RowMayEnter q live Traps = Unit {0}
RowMayEnter q live (Does e) = MayEnter q live e
