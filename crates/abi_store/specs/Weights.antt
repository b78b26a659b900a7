-- How many turns what is in progress takes at most.
use Rattle.std.specs.Prelude.{ℕ, ◌+◌, List, [], ◌∷◌}
use Rattle.wit_types.specs.PlainValue.{PlainValue, PlainValues, Payload, BoolValue, IntValue, CharValue, StringValue, ListValue, RecordValue, VariantValue, FlagsValue, HandleValue, End, More, Without, With, plain_value}
use Rattle.wit_types.specs.declared.value.Value.{Value}
use Rattle.abi_store.specs.declared.work.Work.{Work}
use Rattle.abi_store.specs.declared.work.Work.TheVariants.{List as OfList, Record as OfRecord, Value as OfValue, Place as OfPlace}
use Rattle.abi_store.specs.declared.work.Begun.{Begun}
use Rattle.abi_store.specs.declared.work.Begun.TheVariants.{Stored, Opened, Asks, Trapped}

-- a list asks at once
abbrev mutual
  pub turns : PlainValue → ℕ
  turns (BoolValue b) = 1
  turns (IntValue n) = 1
  turns (CharValue code) = 1
  turns (StringValue bytes) = 1
  turns (ListValue vs) = all_turns vs + 1
  turns (RecordValue vs) = all_turns vs + 2
  turns (VariantValue n p) = payload_turns p + 2
  turns (FlagsValue bits) = 1
  turns (HandleValue index) = 1

  pub all_turns : PlainValues → ℕ
  all_turns End = 0
  all_turns (More v vs) = turns v + all_turns vs

  pub payload_turns : Payload → ℕ
  payload_turns Without = 0
  payload_turns (With v) = turns v

-- the turns of values of which the last one stands first
abbrev pub left_turns : List Value → ℕ
left_turns [] = 0
left_turns (v ∷ vs) = turns (plain_value v) + left_turns vs

abbrev pub work_turns : Work → ℕ
work_turns (OfList w) = left_turns w.left.items + 1
work_turns (OfRecord w) = left_turns w.left.items + 1
work_turns (OfValue w) = turns (plain_value w.value)
work_turns (OfPlace w) = 1

abbrev pub works_turns : List Work → ℕ
works_turns [] = 0
works_turns (w ∷ ws) = work_turns w + works_turns ws

abbrev pub begun_turns : Begun → ℕ
begun_turns Stored = 0
begun_turns (Opened work) = work_turns work
begun_turns (Asks request) = 0
begun_turns Trapped = 0
