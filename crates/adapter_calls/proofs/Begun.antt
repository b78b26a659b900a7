-- The state in which a stub's routine begins: its first locals are the arguments, and the others zeros.
use Rattle.std.proofs.Common.{◌≡◌, ◌∙◌, refl, sym, ap, subst, ℕ, zero, suc, ◌<◌, ◌^◌, List, [], ◌∷◌, ◌++◌, map, take, length, replicate, append_assoc, All, arith, mod-eq_of_lt}
use Rattle.std.proofs.lemmas.List.Elements.{All-head, All-tail}
use Rattle.virt_base.specs.declared.core_type.CoreType.{CoreType}
use Rattle.virt_base.specs.declared.core_type.CoreType.TheVariants.{I32, I64, Funcref, Externref}
use Rattle.core_store.specs.declared.value.CoreValue.TheVariants as values
use Rattle.core_store.specs.Words.{words, values_in}
use Rattle.adapter_code.specs.declared.statement.Width.{Width}
use Rattle.adapter_code.specs.declared.statement.Width.TheVariants.{Narrow, Broad}
use Rattle.adapter_code.specs.declared.state.Local.{Local}
use Rattle.adapter_code.specs.declared.state.Local.TheVariants.{Small, Wide}
use Rattle.adapter_code.specs.Run.{value, local_width, local_at}
use Rattle.adapter_compile.specs.Does.{Fits, core_value, BeginsAsZeros}
use Rattle.adapter_stubs.specs.declared.stub.Stub.{Stub}
use Rattle.adapter_stubs.specs.Widths.{IsFlat, widths_of, host_params, result_width, further, further_of, stub_widths}
use Rattle.adapter_stubs.specs.Calls.{results_in}
use Rattle.row_runs.specs.RowRun.{begun}
use Rattle.row_runs.specs.RowRun as row

pub widths_begun : (ws : List Width) (ns : List ℕ) → map local_width (begun ws ns) ≡ ws
widths_begun [] ns = refl
widths_begun (Narrow ∷ ws) [] = ap (λ xs. Narrow ∷ xs) (widths_begun ws [])
widths_begun (Broad ∷ ws) [] = ap (λ xs. Broad ∷ xs) (widths_begun ws [])
widths_begun (Narrow ∷ ws) (n ∷ ns) = ap (λ xs. Narrow ∷ xs) (widths_begun ws ns)
widths_begun (Broad ∷ ws) (n ∷ ns) = ap (λ xs. Broad ∷ xs) (widths_begun ws ns)

zeros_begun : (ws : List Width) → map value (begun ws []) ≡ replicate (length (begun ws [])) 0
zeros_begun [] = refl
zeros_begun (Narrow ∷ ws) = ap (λ xs. 0 ∷ xs) (zeros_begun ws)
zeros_begun (Broad ∷ ws) = ap (λ xs. 0 ∷ xs) (zeros_begun ws)

abbrev less : ℕ → ℕ
less zero = 0
less (suc n) = n

-- after the arguments there are zeros
zeros_behind : (ts : List CoreType) (ws : List Width) (ns : List ℕ) → length ns ≡ length ts → BeginsAsZeros (length ts) (begun (widths_of ts ++ ws) ns)
zeros_behind [] ws [] is = zeros_begun ws
zeros_behind [] ws (n ∷ ns) is = absurd (omega (arith, is))
zeros_behind (t ∷ ts) ws [] is = absurd (omega (arith, is))
zeros_behind (t ∷ ts) ws (n ∷ ns) is = zeros_behind ts ws ns (ap less is)

-- and these are the values of the flat parameters
arguments_so : (ts : List CoreType) (ws : List Width) (ns : List ℕ) → All IsFlat ts → length ns ≡ length ts → ((i : ℕ) → Fits (local_at (begun (widths_of ts ++ ws) ns) i)) →
    values_in 0 ts ns ≡ map core_value (take (length ts) (begun (widths_of ts ++ ws) ns))
arguments_so [] ws ns flat is fits = refl
arguments_so (t ∷ ts) ws [] flat is fits = absurd (omega (arith, is))
arguments_so (I32 ∷ ts) ws (n ∷ ns) flat is fits =
    let small : n < 2 ^ 32 = fits 0 in
    ap (λ m. values.I32 m ∷ values_in 0 ts ns) (mod-eq_of_lt small)
    ∙ ap (λ vs. values.I32 n ∷ vs) (arguments_so ts ws ns (All-tail IsFlat I32 ts flat) (ap less is) (λ i. fits (suc i)))
arguments_so (I64 ∷ ts) ws (n ∷ ns) flat is fits = ap (λ vs. values.I64 n ∷ vs) (arguments_so ts ws ns (All-tail IsFlat I64 ts flat) (ap less is) (λ i. fits (suc i)))
arguments_so (Funcref ∷ ts) ws (n ∷ ns) flat is fits = absurd (All-head IsFlat Funcref ts flat)
arguments_so (Externref ∷ ts) ws (n ∷ ns) flat is fits = absurd (All-head IsFlat Externref ts flat)

module _ (stub : Stub) where
  abbrev behind : List Width
  behind = (Narrow ∷ (widths_of (host_params stub.host) ++ result_width stub.flat.results ∷ [])) ++ further 0 (further_of stub)

  parts : stub_widths stub ≡ widths_of stub.flat.params ++ behind
  parts = append_assoc (widths_of stub.flat.params) (Narrow ∷ (widths_of (host_params stub.host) ++ result_width stub.flat.results ∷ [])) (further 0 (further_of stub))

  pub begins_as_zeros : (ns : List ℕ) → length ns ≡ length stub.flat.params → BeginsAsZeros (length stub.flat.params) (begun (stub_widths stub) ns)
  begins_as_zeros ns is = subst (λ ws. BeginsAsZeros (length stub.flat.params) (begun ws ns)) (sym parts) (zeros_behind stub.flat.params behind ns is)

  pub arguments_begun : (ns : List ℕ) → All IsFlat stub.flat.params → length ns ≡ length stub.flat.params → ((i : ℕ) → Fits (local_at (begun (stub_widths stub) ns) i)) →
      values_in 0 stub.flat.params ns ≡ map core_value (take (length stub.flat.params) (begun (stub_widths stub) ns))
  arguments_begun ns flat is fits =
      arguments_so stub.flat.params behind ns flat is (subst (λ ws. (i : ℕ) → Fits (local_at (begun ws ns) i)) parts fits)
      ∙ ap (λ ws. map core_value (take (length stub.flat.params) (begun ws ns))) (sym parts)

-- the flat result as numbers
word_of_local : (l : Local) → words (core_value l ∷ []) ≡ value l ∷ []
word_of_local (Small n) = refl
word_of_local (Wide n) = refl

pub results_as_words : (ts : List CoreType) (l : Local) → words (results_in ts l) ≡ row.results_in ts (value l)
results_as_words [] l = refl
results_as_words (t ∷ ts) l = word_of_local l
