-- Few functions are needed.
use Rattle.std.proofs.Common.{◌≡◌, ◌∙◌, ℕ, zero, suc, ◌+◌, ◌*◌, ◌<◌, ◌≤◌, List, [], ◌∷◌, Bool, true, false, length, ap, refl, sym, nat_lt, add-one, arith, length-append}
use Rattle.std.specs.Prelude.{◌&&◌, if◌then◌else◌}
use Rattle.std.proofs.lemmas.Bool.{false≢true}
use Rattle.std.proofs.lemmas.Bool.Decides.{nat_tests}
use Rattle.policy_data.specs.declared.policy.Policy.{Policy}
use Rattle.wasi_table.specs.Forms.{form_named}
use Rattle.wasi_table.specs.Types.{kind_of}
use Rattle.wasi_table.specs.Tables.{described as described_by}
use Rattle.wasi_table.specs.Plain.{PlainNamedFunc}
use Rattle.wasi_listed.specs.IoListed.{described as described_io, known_types}
use Rattle.wasi_listed.specs.FsListed.{described as described_fs}
use Rattle.wasi_listed.specs.NetListed.{described as described_net}
use Rattle.wasi_listed.specs.Listed.{described}
use Rattle.wasi_match.specs.declared.listed.ListedUse.{ListedUse}
use Rattle.adapter_world.specs.Needed.{is_needed_at, if_needed, needed_from, needed_in}
use Rattle.adapter_world.specs.Behind.{below}

-- ---- of each interface

abbrev are_few : ℕ → ℕ → Bool
are_few zero interface = true
are_few (suc count) interface = nat_lt (length (described interface).functions) 100 && are_few count (interface + 1)

all-few : are_few 27 0 ≡ true
unfolding described described_by described_io described_fs described_net known_types form_named kind_of
all-few = refl

both : (a b : Bool) → (a && b) ≡ true → (a ≡ true) × (b ≡ true)
both true true h = (refl, refl)
both true false h = absurd (false≢true h)
both false b h = absurd (false≢true h)

few-at : (k i j : ℕ) → j < k → are_few k i ≡ true → nat_lt (length (described (i + j)).functions) 100 ≡ true
few-at zero i j less h = absurd (omega arith)
few-at (suc k) i zero less h =
    let e : i ≡ i + 0 = omega arith in
    ap (λ n. nat_lt (length (described n).functions) 100) (sym e) ∙ (both _ _ h).0
few-at (suc k) i (suc j) less h =
    let e : i + suc j ≡ i + 1 + j = omega arith in
    ap (λ n. nat_lt (length (described n).functions) 100) e ∙ few-at k (i + 1) j (omega (arith, less)) (both _ _ h).1

few-functions : (number : ℕ) → number < 27 → length (described number).functions < 100
few-functions number less =
    let e : number ≡ 0 + number = omega arith in
    let h = ap (λ n. nat_lt (length (described n).functions) 100) e ∙ few-at 27 0 number less all-few in
    grind (arith, nat_tests, h)

-- ---- of those, the needed

at-most-one : (b : Bool) (f : PlainNamedFunc) → length (if b then f ∷ [] else []) ≤ 1
at-most-one true f = omega arith
at-most-one false f = omega arith

from-few : (p : Policy) (uses : List ListedUse) (i k : ℕ) (fs : List PlainNamedFunc) → length (needed_from p uses i k fs) ≤ length fs
from-few p uses i k [] = omega arith
from-few p uses i k (f ∷ fs) =
    let one : length (if_needed p uses i k f) ≤ 1 = at-most-one (is_needed_at p uses i k f) f in
    let rest : length (needed_from p uses i (k + 1) fs) ≤ length fs = from-few p uses i (k + 1) fs in
    let sum : length (needed_from p uses i k (f ∷ fs)) ≡ length (if_needed p uses i k f) + length (needed_from p uses i (k + 1) fs) = length-append (if_needed p uses i k f) (needed_from p uses i (k + 1) fs) in
    omega (arith, one, rest, sum)

in-few : (p : Policy) (uses : List ListedUse) (i : ℕ) → i < 27 → length (needed_in p uses i) < 100
in-few p uses i less =
    let few = from-few p uses i 0 (described i).functions in
    let all = few-functions i less in
    omega (arith, few, all)

below-few : (p : Policy) (uses : List ListedUse) (n : ℕ) → n ≤ 27 → length (below (needed_in p uses) n) ≤ 100 * n
below-few p uses zero h = omega arith
below-few p uses (suc n) h =
    let rest = below-few p uses n (omega (arith, h)) in
    let here = in-few p uses n (omega (arith, h)) in
    let sum : length (below (needed_in p uses) (suc n)) ≡ length (below (needed_in p uses) n) + length (needed_in p uses n) = length-append (below (needed_in p uses) n) (needed_in p uses n) in
    omega (arith, rest, here, sum)

-- those of one interface more
pub counted_more : (p : Policy) (uses : List ListedUse) (n : ℕ) → length (below (needed_in p uses) (n + 1)) ≡ length (below (needed_in p uses) n) + length (needed_in p uses n)
counted_more p uses n = rw add-one (length-append (below (needed_in p uses) n) (needed_in p uses n))

pub counted_few : (p : Policy) (uses : List ListedUse) (n : ℕ) → n < 27 → length (below (needed_in p uses) n) + length (needed_in p uses n) ≤ 2700
counted_few p uses n less =
    let rest = below-few p uses n (omega (arith, less)) in
    let here = in-few p uses n less in
    omega (arith, rest, here, less)
