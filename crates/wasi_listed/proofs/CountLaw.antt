-- How many functions each interface has.
use Rattle.std.proofs.Common.{◌≡◌, ℕ, zero, suc, ◌+◌, ◌<◌, List, [], ◌∷◌, length, get_or, refl, sym, ap, ◌∙◌, arith}
use Rattle.wasi_table.specs.Forms.{form_named}
use Rattle.wasi_table.specs.Types.{kind_of}
use Rattle.wasi_table.specs.Tables.{described as described_by}
use Rattle.wasi_listed.specs.IoListed.{described as described_io, known_types}
use Rattle.wasi_listed.specs.FsListed.{described as described_fs}
use Rattle.wasi_listed.specs.NetListed.{described as described_net}
use Rattle.wasi_listed.specs.declared.TheConstants.{COUNTS}
use Rattle.wasi_listed.specs.Listed.{described}

abbrev pub counts_from : ℕ → ℕ → List ℕ
counts_from zero interface = []
counts_from (suc count) interface = length (described interface).functions ∷ counts_from count (interface + 1)

pub counted : counts_from 27 0 ≡ COUNTS
unfolding described described_by described_io described_fs described_net known_types form_named kind_of
counted = refl

count-at : (k i j d : ℕ) → j < k → get_or (counts_from k i) j d ≡ length (described (i + j)).functions
count-at zero i j d less = absurd (omega arith)
count-at (suc k) i zero d less =
    let e : i ≡ i + 0 = omega arith in
    ap (λ n. length (described n).functions) e
count-at (suc k) i (suc j) d less =
    let e : i + 1 + j ≡ i + suc j = omega arith in
    count-at k (i + 1) j d (omega arith) ∙ ap (λ n. length (described n).functions) e

pub count_of : (interface d : ℕ) → interface < 27 → length (described interface).functions ≡ get_or COUNTS interface d
count_of interface d less =
    let e : interface ≡ 0 + interface = omega arith in
    ap (λ n. length (described n).functions) e ∙ sym (count-at 27 0 interface d less) ∙ ap (λ cs. get_or cs interface d) counted
