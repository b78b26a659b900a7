-- Rows of streams, pollables, clocks and the environment return what their functions' types say.
use Rattle.std.proofs.Common.{ℕ, ◌<◌, ◌≤◌, ◌+◌, ◌^◌, Bool, true, false, nat_le, List, [], ◌∷◌, length, replicate, All, Option, Some, None, refl, arith}
use Rattle.std.specs.Prelude.{unwrap_or, if◌then◌else◌}
use Rattle.std.proofs.lemmas.List.Elements.{All-nil, All-cons}
use Rattle.wit_types.specs.Plain.{Plain, OneByte, FourBytes, EightBytes, StringType, ListType}
use Rattle.wit_types.specs.PlainValue.{PlainValue, StringValue}
use Rattle.wit_types.specs.HasType.{is_of}
use Rattle.policy_data.specs.declared.data.WorkingDirectory.{WorkingDirectory}
use Rattle.policy_data.specs.declared.data.WorkingDirectory.TheVariants.{Given as ThisFolder}
use Rattle.policy_data.specs.declared.data.WallClock.{WallClock}
use Rattle.policy_data.specs.declared.data.WallClock.TheVariants.{Fixed as FixedWall}
use Rattle.tree_table.specs.Scratches.{ScratchMap, content_at, read_at, written}
use Rattle.reference_step.specs.Handles.{Content, FileAt, ScratchIn, ScratchOut, is_host}
use Rattle.reference_step.specs.Nodes.{node_at, bytes_at}
use Rattle.reference_step.specs.Values.{id_in, number, numbers, ok, done, closed}
use Rattle.reference_step.specs.State.{View, returns}
use Rattle.reference_step.specs.InputStreams as input
use Rattle.reference_step.specs.OutputStreams as output
use Rattle.reference_step.specs.Pollables as pollables
use Rattle.reference_step.specs.Environment as environment
use Rattle.reference_step.specs.Clocks as clocks
use Rattle.reference_host.specs.Sound.{AreFileBytes, IsSoundClock, IsSound}
use Rattle.reference_host.proofs.ValueForms.{Has, u8, u32, u64, result, stream_error, streamed, datetime, variable, optional, number_has, numbers_have, closed_has, each_pass}
use Rattle.reference_host.proofs.RowForms.{RowHas, both_true, either, returned, moved, node_bytes, part_bytes}

-- ---- wasi:io

pub is_closed : (good : Option Plain) → RowHas (streamed good) (returns closed)
unfolding RowHas
is_closed good = closed_has good

reads : (bytes : List ℕ) (place len : ℕ) (at : ℕ → Content) → AreFileBytes bytes → RowHas (streamed (Some (ListType u8))) (input.reads bytes place len at)
reads bytes place len at are =
    either _ (nat_le (length bytes) place) _ _ (is_closed (Some (ListType u8)))
    (moved (result (Some (ListType u8)) stream_error) (at (place + length (read_at bytes place len))) (ok (numbers (read_at bytes place len))) (numbers_have OneByte (read_at bytes place len) (part_bytes bytes place len are).bytes))

skips : (bytes : List ℕ) (place len : ℕ) (at : ℕ → Content) → AreFileBytes bytes → RowHas (streamed (Some u64)) (input.skips bytes place len at)
skips bytes place len at are =
    either _ (nat_le (length bytes) place) _ _ (is_closed (Some u64))
    (moved (result (Some u64) stream_error) (at (place + length (read_at bytes place len))) (ok (number (length (read_at bytes place len)))) (number_has EightBytes (length (read_at bytes place len)) (part_bytes bytes place len are).count))

wrote : (n : ℕ) (place : Option ℕ) (len : ℕ) (o : Option ScratchMap) → RowHas (streamed None) (output.wrote n place len o)
unfolding RowHas
wrote n place len None = closed_has None
wrote n place len (Some m) = refl

-- places up to an end
among : (content : ℕ → Content) (end place : ℕ) (vs : List PlainValue) → place + length vs ≤ end → All (λ n. n < end) (pollables.always_among content place vs)
among content end place [] most = All-nil (λ n. n < end)
among content end place (v ∷ vs) most = by (is_host (content (id_in v))) (among content end (place + 1) vs (omega (arith, most)))
  where
    by : (b : Bool) → All (λ n. n < end) (pollables.always_among content (place + 1) vs) → All (λ n. n < end) (if b then pollables.always_among content (place + 1) vs else place ∷ pollables.always_among content (place + 1) vs)
    by true later = later
    by false later = All-cons (λ n. n < end) place (pollables.always_among content (place + 1) vs) (omega (arith, most)) later

pub poll : (content : ℕ → Content) (vs : List PlainValue) → length vs < 2 ^ 32 → RowHas (Some (ListType u32)) (pollables.poll_of content vs)
unfolding RowHas
poll content [] few = tt
poll content (v ∷ vs) few = numbers_have FourBytes (pollables.always_among content 0 (v ∷ vs)) (among content (2 ^ 32) 0 (v ∷ vs) (omega (arith, few)))

module _ (v : View) (sound : IsSound v) where
  pub read : (c : Content) (len : ℕ) → RowHas (streamed (Some (ListType u8))) (input.read v c len)
  read (FileAt tree path place) len = reads (bytes_at v.trees tree path) place len (FileAt tree path) (node_bytes (node_at v.trees tree path) (sound.nodes tree path))
  read (ScratchIn file place) len = reads (content_at v.scratch file) place len (ScratchIn file) (sound.files file)
  read _ len = is_closed (Some (ListType u8))

  pub skip : (c : Content) (len : ℕ) → RowHas (streamed (Some u64)) (input.skip v c len)
  skip (FileAt tree path place) len = skips (bytes_at v.trees tree path) place len (FileAt tree path) (node_bytes (node_at v.trees tree path) (sound.nodes tree path))
  skip (ScratchIn file place) len = skips (content_at v.scratch file) place len (ScratchIn file) (sound.files file)
  skip _ len = is_closed (Some u64)

  pub write : (c : Content) (bytes : List ℕ) → RowHas (streamed None) (output.write v c bytes)
  write (ScratchOut n place) bytes = wrote n place (length bytes) (written v.scratch n (unwrap_or place (length (content_at v.scratch n))) bytes)
  write _ bytes = returned (result None stream_error) done refl

  pub write-zeroes : (c : Content) (len : ℕ) → RowHas (streamed None) (output.write-zeroes v c len)
  write-zeroes (ScratchOut n place) len = wrote n place len (written v.scratch n (unwrap_or place (length (content_at v.scratch n))) (replicate len 0))
  write-zeroes _ len = returned (result None stream_error) done refl

  -- ---- wasi:clocks

  wall : (clock : WallClock) → IsSoundClock clock → Has datetime (clocks.wall_time clock)
  wall (FixedWall t) is = both_true _ _ (number_has EightBytes t.seconds is.0) (both_true _ _ (number_has FourBytes t.nanoseconds is.1) refl)
  wall _ is = refl

  pub wall_now : RowHas (Some datetime) (clocks.wall_now v)
  unfolding RowHas
  wall_now = wall v.policy.clocks_wall sound.wall

  pub monotonic_now : RowHas (Some u64) (clocks.monotonic_now v)
  unfolding RowHas
  monotonic_now = number_has EightBytes (clocks.instant v.policy.clocks_monotonic) sound.monotonic

  -- ---- wasi:cli/environment

  pub get-environment : RowHas (Some (ListType variable)) (environment.get-environment v)
  unfolding RowHas
  get-environment = each_pass (λ x. is_of variable x) environment.variable_value (λ x. refl) v.policy.env_set

  pub get-arguments : RowHas (Some (ListType StringType)) (environment.get-arguments v)
  unfolding RowHas
  get-arguments = each_pass (λ x. is_of StringType x) StringValue (λ x. refl) (environment.arguments_in v.policy.env_arguments)

  cwd : (folder : WorkingDirectory) → Has (optional StringType) (environment.folder_in folder)
  cwd (ThisFolder text) = refl
  cwd _ = refl

  pub initial-cwd : RowHas (Some (optional StringType)) (environment.initial-cwd v)
  unfolding RowHas
  initial-cwd = cwd v.policy.env_cwd
