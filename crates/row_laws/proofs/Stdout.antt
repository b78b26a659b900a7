-- The row of an ignored output equals the reference host's.
use Rattle.std.proofs.Common.{◌≡◌, ◌&&◌, Bool, true, false, List, [], refl, ap, ◌∙◌, lit<}
use Rattle.wit_types.specs.Plain.{Name, End}
use Rattle.policy_data.specs.declared.words.Stream.TheVariants.{Ignore as IgnoredStream}
use Rattle.host_port.specs.Hosts.{HostStep}
use Rattle.reference_step.specs.Handles.{Discard}
use Rattle.reference_step.specs.Access.{Virtual, by_stream}
use Rattle.reference_step.specs.Rules.{fit}
use Rattle.adapter_code.specs.Layout.{table_at, transfer_at}
use Rattle.adapter_code.specs.Run.{own_resource, runs, ended}
use Rattle.table_bytes.specs.declared.entry.Entry.TheVariants as entry
use Rattle.table_bytes.specs.Own.{own_of}
use Rattle.table_bytes.proofs.Own.{called_runs}
use Rattle.row_runs.specs.RowRun.{begun, before_runs}
use Rattle.row_runs.specs.Equals.{Fixed, RowEquals, placed_call}
use Rattle.row_runs.proofs.Cases.{is_light, refused_none, not_denied, not_asked, virtual_case, full_case}
use Rattle.row_runs.proofs.Making.{make-run}
use Rattle.row_runs.proofs.Maps.{passes_one}
use Rattle.row_runs.proofs.Giving.{GivesBy, handles_fit, gives_equal}
use Rattle.row_laws.specs.Laid.{IsLaid}
use Rattle.row_laws.specs.Stdout.{stdout_type, stdout_listed, stdout_widths, stdout_places, stdout_code, stdout_row}

and_true : (b : Bool) → (b && true) ≡ b
and_true true = refl
and_true false = refl

pub stdout_equals : {S : Type 0} (h : HostStep S) (w : Fixed) (names : List Name) → IsLaid w → w.setup.policy.stdio_stdout ≡ IgnoredStream → RowEquals w h (stdout_listed names) (stdout_row w.layout) stdout_widths
stdout_equals {S} h w names laid ignored r a place c typed setup stands passed =
    let l = w.layout in
    let p = r.setup.policy in
    let f = stdout_listed names in
    let stream : p.stdio_stdout ≡ IgnoredStream = ap (λ z. z.policy.stdio_stdout) setup ∙ ignored in
    let virtual = ap by_stream stream in
    let light = is_light h r f c refl in
    let good : GivesBy w 3 Discard entry.Discard = record { kind_lt = lit< tt; slots = laid.slots; few = laid.few; stands = λ m. refl; ours = refl; not_host = λ index is. absurd cc } in
    let free = (stands.tables 3 (lit< tt)).free in
    let base = table_at l 3 in
    let outer = begun stdout_widths [] in
    let ends = make-run base l.slots 3 free 3 0 0 0 0 0 0 entry.Discard a.memory a.handles [] (record { word = lit< tt; long = lit< tt })
    (stands.tables 3 (lit< tt)).table (λ rep. let q = passes_one a.handles (own_resource 3) rep stands.shown (handles_fit w r a place stands laid.few) in (q.0, q.1.made)) in
    let own = called_runs stdout_places (stdout_code l) 0 (record { locals = outer; memory = a.memory; table = a.handles; effects = [] }) refl refl in
    gives_equal w 3 Discard entry.Discard good h r a place setup stands 6 f.function.name names End stdout_widths (stdout_row l) c (placed_call place f c)
    (runs (stdout_code l) 0 (own_of stdout_places (record { locals = outer; memory = a.memory; table = a.handles; effects = [] }))) stdout_places outer (transfer_at l)
    (record { ok = refl; nine = refl; result_is = refl; flag_apart = refl; flag_is = refl })
    ends (ap (λ x. before_runs h l (stdout_row l) stdout_type stdout_widths (placed_call place f c) (transfer_at l) r.inner (ended x)) own) (and_true (fit p r.live 3 1))
    (λ room. virtual_case h r f c light room (not_denied p f c Virtual virtual (refused_none p f.function.name c.args refl) refl) (not_asked h r f c Virtual virtual refl) refl)
    (λ none. full_case h r f c light none)
