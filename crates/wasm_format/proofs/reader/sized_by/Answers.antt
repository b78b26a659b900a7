use Rattle.std.proofs.Common.{◌≡◌, ◌+◌, ℕ, List, Bor, take, length, ap, arith}
use Rattle.std.proofs.lemmas.List.{length-take}
use Rattle.std.proofs.lemmas.Result.{err_from_is_err_and}
use Rattle.wasm_format.proofs.Within.{within_err, within_short, within_ok}
use Rattle.wasm_format.proofs.reader.sized_by.Goals as goal

pub returns-in_err-content-clause-value : goal.returns-in_err-content-clause-value
returns-in_err-content-clause-value g c =
    let p = err_from_is_err_and c.from_residual-in_err-content.result c.from_residual-in_err-content.ensures.1 in
    rw (p.1, p.2, c.in_ok-size.ensures.value) (within_err (g.R.Reader.format c.args.reader.now) c.in_err-content.field-0.0 c.read.new.c.bytes.now c.read.new.c.at c.in_ok-size.field-0 (omega arith) c.in_err-content.ensures.value)

pub returns-then-inside-end-clause-value : goal.returns-then-inside-end-clause-value
returns-then-inside-end-clause-value g c =
    let same : c.read-2.new.c.bytes.now ≡ take (c.read.new.c.at + c.in_ok-size.field-0) c.read.new.c.bytes.now = ap (λ (b : Bor (List ℕ)). b.now) c.in_ok-content.ensures.input in
    rw c.in_ok-size.ensures.value (within_short (g.R.Reader.format c.args.reader.now) c.read.new.c.bytes.now c.read-2.new.c.bytes.now c.read.new.c.at c.in_ok-size.field-0 c.read-2.new.c.at c.in_ok-content.content (omega arith) same (omega (arith, c.read-2.new.c.within, ap length same, length-take (c.read.new.c.at + c.in_ok-size.field-0) c.read.new.c.bytes.now)) c.in_ok-content.ensures.value)

pub returns-clause-value : goal.returns-clause-value
returns-clause-value g c =
    let same : c.read-2.new.c.bytes.now ≡ take (c.read.new.c.at + c.in_ok-size.field-0) c.read.new.c.bytes.now = ap (λ (b : Bor (List ℕ)). b.now) c.in_ok-content.ensures.input in
    rw c.in_ok-size.ensures.value (within_ok (g.R.Reader.format c.args.reader.now) c.read.new.c.bytes.now c.read-2.new.c.bytes.now c.read.new.c.at c.in_ok-size.field-0 c.read-2.new.c.at c.in_ok-content.content (omega arith) same c.if-inside-end.false c.in_ok-content.ensures.value)
