-- The row of a fixed clock equals the reference host's.
use Rattle.std.proofs.Common.{◌≡◌, ℕ, pos, ◌%◌, ◌^◌, ◌<◌, List, [], Some, refl, ap, ◌∙◌}
use Rattle.std.proofs.Math.Nat.{mod-eq_of_lt}
use Rattle.wit_types.specs.Plain.{Name}
use Rattle.wit_types.specs.PlainValue.{IntValue}
use Rattle.policy_data.specs.declared.data.MonotonicClock.TheVariants.{Fixed as FixedMonotonic}
use Rattle.host_port.specs.Calls.{Gives}
use Rattle.host_port.specs.Hosts.{HostStep, Reaction}
use Rattle.reference_step.specs.State.{Reference}
use Rattle.reference_step.specs.Access.{Virtual, by_monotonic}
use Rattle.reference_step.specs.Clocks.{instant}
use Rattle.reference_step.specs.Steps.{weighed}
use Rattle.row_runs.specs.RowRun.{Ran, row_run}
use Rattle.row_runs.specs.Equals.{Fixed, RowEquals, placed_call}
use Rattle.row_runs.proofs.Cases.{is_light, refused_none, not_denied, not_asked, virtual_case}
use Rattle.row_laws.specs.Now.{now_type, now_listed, now_widths, now_row}

pub now_equals : {S : Type 0} (h : HostStep S) (w : Fixed) (n : ℕ) (names : List Name) → n < 2 ^ 64 → w.setup.policy.clocks_monotonic ≡ FixedMonotonic n → RowEquals w h (now_listed names) (now_row n) now_widths
now_equals {S} h w n names small fixed r a place c typed setup stands passed =
    let p = r.setup.policy in
    let f = now_listed names in
    let clock : p.clocks_monotonic ≡ FixedMonotonic n = ap (λ s. s.policy.clocks_monotonic) setup ∙ fixed in
    let virtual = ap by_monotonic clock in
    let told : Reaction (Reference S) = record { seen = []; answer = Gives (Some (IntValue (pos n))); next = r } in
    let reference : weighed h r f c ≡ told =
    virtual_case h r f c (is_light h r f c refl) refl
    (not_denied p f c Virtual virtual (refused_none p f.function.name c.args refl) refl)
    (not_asked h r f c Virtual virtual refl) refl
    ∙ ap (λ x. let t : Reaction (Reference S) = record { seen = []; answer = Gives (Some (IntValue (pos (instant x)))); next = r } in t) clock in
    let low : (n % 2 ^ 64) % 2 ^ 64 ≡ n = ap (λ x. x % 2 ^ 64) (mod-eq_of_lt small) ∙ mod-eq_of_lt small in
    let given : Ran S = record { seen = []; answer = Gives (Some (IntValue (pos n))); adapter = a; inner = r.inner } in
    let run : row_run h w.layout (now_row n) now_type now_widths (placed_call place f c) a r.inner ≡ given =
    ap (λ x. let t : Ran S = record { seen = []; answer = Gives (Some (IntValue (pos x))); adapter = a; inner = r.inner } in t) low in
    rw (reference, run) (record { seen = refl; inner = refl; setup = setup; place' = place; stay = λ id x there. record { handle = x; there = there; kind = refl; same = refl }; answer = refl; stands = λ v. stands })
