-- Stubs whose routines were tried.
use Rattle.std.proofs.Common.{◌-◌, ◌≤◌, length, max, arith}
use Rattle.std.specs.List.{All}
use Rattle.std.proofs.Math.Nat.{max-le}
use Rattle.adapter_code.specs.Code.{code_of}
use Rattle.adapter_compile.specs.Bounds.{nesting}
use Rattle.adapter_stubs.specs.declared.stub.Stub.{Stub}
use Rattle.adapter_stubs.specs.Widths.{IsFlat, stub_widths}
use Rattle.adapter_stubs.specs.Bodies.{HostFits, IsStub}
use Rattle.routine_rows.specs.Fitting.{Fits}

pub is_stub : (s : Stub) → All IsFlat s.flat.params → All IsFlat s.flat.results → length s.flat.results ≤ 1 → HostFits s.flat.results s.host → Fits (stub_widths s) (code_of s.before.items) → Fits (stub_widths s) (code_of s.after.items) → IsStub s
is_stub s params results single host before after =
    let room : max (nesting (code_of s.before.items)) (nesting (code_of s.after.items)) ≤ 40000 - length (stub_widths s) = max-le (omega (arith, before.few)) (omega (arith, after.few)) in
    record {
      params = params;
      results = results;
      single = single;
      host = host;
      few = omega (arith, room, before.few);
      before = before.fine;
      after = after.fine;
      before_shallow = before.shallow;
      after_shallow = after.shallow;
    }
