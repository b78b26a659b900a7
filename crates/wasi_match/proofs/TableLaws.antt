-- What the tables of the listed interfaces hold: uses of listed interfaces, and few functions.
use Rattle.std.proofs.Common.{◌≡◌, ◌∙◌, ℕ, zero, suc, ◌+◌, ◌<◌, ◌^◌, List, [], ◌∷◌, Bool, true, false, length, ap, refl, sym, nat_lt, arith}
use Rattle.std.specs.Prelude.{All, ◌&&◌}
use Rattle.std.specs.List.{list_all}
use Rattle.std.proofs.lemmas.Bool.{false≢true}
use Rattle.std.proofs.lemmas.Bool.Decides.{nat_tests}
use Rattle.std.proofs.lemmas.List.Elements.{All-nil, All-cons}
use Rattle.wasi_table.specs.declared.interface.Use.{Use}
use Rattle.wasi_table.specs.Plain.{PlainInterface}
use Rattle.wasi_table.specs.Forms.{form_named}
use Rattle.wasi_table.specs.Types.{kind_of}
use Rattle.wasi_table.specs.Tables.{described as described_by}
use Rattle.wasi_listed.specs.IoListed.{described as described_io, known_types}
use Rattle.wasi_listed.specs.FsListed.{described as described_fs}
use Rattle.wasi_listed.specs.NetListed.{described as described_net}
use Rattle.wasi_listed.specs.Listed.{described}

abbrev is_good : PlainInterface → Bool
is_good i = nat_lt (length i.functions) 100 && list_all (λ u. nat_lt u.interface 27) i.uses

abbrev are_good : ℕ → ℕ → Bool
are_good zero interface = true
are_good (suc count) interface = is_good (described interface) && are_good count (interface + 1)

all_good : are_good 27 0 ≡ true
unfolding described described_by described_io described_fs described_net known_types form_named kind_of
all_good = refl

both : (a b : Bool) → (a && b) ≡ true → (a ≡ true) × (b ≡ true)
both true true h = (refl, refl)
both true false h = absurd (false≢true h)
both false b h = absurd (false≢true h)

good-at : (k i j : ℕ) → j < k → are_good k i ≡ true → is_good (described (i + j)) ≡ true
good-at zero i j less h = absurd (omega arith)
good-at (suc k) i zero less h =
    let e : i ≡ i + 0 = omega arith in
    ap (λ n. is_good (described n)) (sym e) ∙ (both _ _ h).0
good-at (suc k) i (suc j) less h =
    let e : i + suc j ≡ i + 1 + j = omega arith in
    ap (λ n. is_good (described n)) e ∙ good-at k (i + 1) j (omega (arith, less)) (both _ _ h).1

good : (number : ℕ) → number < 27 → is_good (described number) ≡ true
good number less =
    let e : number ≡ 0 + number = omega arith in
    ap (λ n. is_good (described n)) e ∙ good-at 27 0 number less all_good

pub few_functions : (number : ℕ) → number < 27 → length (described number).functions < 2 ^ 32
few_functions number less =
    let h = (both (nat_lt (length (described number).functions) 100) (list_all (λ (u : Use). nat_lt u.interface 27) (described number).uses) (good number less)).0 in
    let few : length (described number).functions < 100 = grind (arith, nat_tests, h) in
    omega (arith, few)

listed-uses : (us : List Use) → list_all (λ u. nat_lt u.interface 27) us ≡ true → All (λ (u : Use). u.interface < 27) us
listed-uses [] h = All-nil (λ (u : Use). u.interface < 27)
listed-uses (u ∷ us) h =
    let e = both (nat_lt u.interface 27) (list_all (λ v. nat_lt v.interface 27) us) h in
    let less : u.interface < 27 = grind (arith, nat_tests, e.0) in
    All-cons (λ (v : Use). v.interface < 27) u us less (listed-uses us e.1)

pub uses_listed : (number : ℕ) → number < 27 → All (λ (u : Use). u.interface < 27) (described number).uses
uses_listed number less =
    listed-uses (described number).uses (both (nat_lt (length (described number).functions) 100) (list_all (λ (u : Use). nat_lt u.interface 27) (described number).uses) (good number less)).1
