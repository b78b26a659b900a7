-- The rows of a fixed wall clock equal the reference host's.
use Rattle.std.proofs.Common.{◌≡◌, ℕ, ◌^◌, ◌<◌, List, [], ◌∷◌, Some, codes, refl, ap, ◌∙◌, arith}
use Rattle.std.proofs.lemmas.Bool.{lt-ltb, le-leb}
use Rattle.wit_types.specs.Plain.{Name}
use Rattle.abi_layout.specs.Storing.{stores}
use Rattle.policy_data.specs.declared.data.WallTime.{WallTime}
use Rattle.policy_data.specs.declared.data.WallClock.TheVariants.{Fixed as FixedWall}
use Rattle.host_port.specs.Hosts.{HostStep}
use Rattle.reference_step.specs.State.{returns}
use Rattle.reference_step.specs.Access.{Virtual, by_wall}
use Rattle.reference_step.specs.Clocks.{datetime, wall_time}
use Rattle.reference_step.specs.Steps.{by_row}
use Rattle.adapter_code.specs.Layout.{transfer_at}
use Rattle.adapter_code.specs.Run.{State, ended}
use Rattle.table_bytes.proofs.Own.{called_runs}
use Rattle.row_runs.specs.Passing.{answer_tuple, in_tuple}
use Rattle.row_runs.specs.RowRun.{begun, before_runs}
use Rattle.row_runs.specs.Equals.{Fixed, RowEquals, placed_call}
use Rattle.row_runs.specs.Telling.{tell_code}
use Rattle.row_runs.proofs.Cases.{is_light, refused_none, not_denied, not_asked, virtual_case}
use Rattle.row_runs.proofs.Telling.{IsConstant, constant_equals}
use Rattle.row_laws.specs.Wall.{time, wall_type, wall_listed, wall_widths, wall_row}

time_is : (s n : ℕ) → s < 2 ^ 64 → n < 2 ^ 32 → IsConstant wall_type time (datetime s n)
time_is s n fits fits' = record {
  fixed = refl;
  typed = rw (le-leb 0 s (omega arith), lt-ltb s (2 ^ 64) fits, le-leb 0 n (omega arith), lt-ltb n (2 ^ 32) fits') refl;
  handle_free = refl;
  small = omega arith;
  aligned = refl;
  whole = refl;
}

pub wall_now_equals : {S : Type 0} (h : HostStep S) (w : Fixed) (t : WallTime) (names : List Name) → t.seconds < 2 ^ 64 → t.nanoseconds < 2 ^ 32 → w.setup.policy.clocks_wall ≡ FixedWall t → RowEquals w h (wall_listed (codes "now") names) (wall_row t.seconds t.nanoseconds) wall_widths
wall_now_equals {S} h w t names fits fits' fixed r a place c typed setup stands passed =
    let f = wall_listed (codes "now") names in
    let c' = placed_call place f c in
    let clock : r.setup.policy.clocks_wall ≡ FixedWall t = ap (λ z. z.policy.clocks_wall) setup ∙ fixed in
    let virtual = ap by_wall clock in
    let start : State = record { locals = begun wall_widths []; memory = a.memory; table = a.handles; effects = [] } in
    let code = tell_code (stores (answer_tuple wall_type) (in_tuple (Some (datetime t.seconds t.nanoseconds)))) in
    constant_equals h w r a place setup stands f time (wall_row t.seconds t.nanoseconds) wall_widths c c' (datetime t.seconds t.nanoseconds) (time_is t.seconds t.nanoseconds fits fits')
    (2 ∷ 3 ∷ []) (begun wall_widths []) (transfer_at w.layout) (record { flag_apart = refl; flag_is = refl; result_apart = refl; result_is = refl }) (λ z. refl)
    (ap (λ R. before_runs h w.layout (wall_row t.seconds t.nanoseconds) wall_type wall_widths c' (transfer_at w.layout) r.inner (ended R)) (called_runs (2 ∷ 3 ∷ []) code 0 start refl refl))
    (virtual_case h r f c (is_light h r f c refl) refl (not_denied r.setup.policy f c Virtual virtual (refused_none r.setup.policy f.function.name c.args refl) refl) (not_asked h r f c Virtual virtual refl) refl
    ∙ ap (λ x. by_row h r f c (returns (wall_time x))) clock)
    refl

pub wall_resolution_equals : {S : Type 0} (h : HostStep S) (w : Fixed) (t : WallTime) (names : List Name) → w.setup.policy.clocks_wall ≡ FixedWall t → RowEquals w h (wall_listed (codes "resolution") names) (wall_row 0 1) wall_widths
wall_resolution_equals {S} h w t names fixed r a place c typed setup stands passed =
    let f = wall_listed (codes "resolution") names in
    let c' = placed_call place f c in
    let virtual = ap by_wall (ap (λ z. z.policy.clocks_wall) setup ∙ fixed) in
    let start : State = record { locals = begun wall_widths []; memory = a.memory; table = a.handles; effects = [] } in
    let code = tell_code (stores (answer_tuple wall_type) (in_tuple (Some (datetime 0 1)))) in
    constant_equals h w r a place setup stands f time (wall_row 0 1) wall_widths c c' (datetime 0 1) (time_is 0 1 (omega arith) (omega arith))
    (2 ∷ 3 ∷ []) (begun wall_widths []) (transfer_at w.layout) (record { flag_apart = refl; flag_is = refl; result_apart = refl; result_is = refl }) (λ z. refl)
    (ap (λ R. before_runs h w.layout (wall_row 0 1) wall_type wall_widths c' (transfer_at w.layout) r.inner (ended R)) (called_runs (2 ∷ 3 ∷ []) code 0 start refl refl))
    (virtual_case h r f c (is_light h r f c refl) refl (not_denied r.setup.policy f c Virtual virtual (refused_none r.setup.policy f.function.name c.args refl) refl) (not_asked h r f c Virtual virtual refl) refl)
    refl
