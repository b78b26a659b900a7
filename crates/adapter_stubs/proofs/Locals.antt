-- Where the locals of a stub stand.
use Rattle.std.proofs.Common.{◌≡◌, ℕ, zero, suc, ◌+◌, List, [], ◌∷◌, ◌++◌, Some, All, map, length, take, drop, refl, sym, ap, ◌∙◌, arith, append_assoc}
use Rattle.std.specs.Prelude.{slice_get}
use Rattle.std.specs.Option.{option_map}
use Rattle.std.proofs.lemmas.List.{length-map}
use Rattle.std.proofs.lemmas.List.Elements.{All-head, All-tail}
use Rattle.std.proofs.lemmas.Option.{slice_get-map}
use Rattle.virt_base.specs.declared.core_type.CoreType.{CoreType}
use Rattle.virt_base.specs.declared.core_type.CoreType.TheVariants.{I32, I64, Funcref, Externref}
use Rattle.core_body.specs.Context.{Context}
use Rattle.core_body.specs.Locals.{spread}
use Rattle.adapter_code.specs.declared.statement.Width.{Width}
use Rattle.adapter_code.specs.declared.statement.Width.TheVariants.{Narrow}
use Rattle.adapter_compile.specs.Does.{core_type, declared_of}
use Rattle.adapter_transfer.proofs.Functions.{get_front, get_back, locals_of, whole_locals}
use Rattle.adapter_stubs.specs.declared.stub.Stub.{Stub}
use Rattle.adapter_stubs.specs.Widths.{width_of, IsFlat, widths_of, further, further_of, result_width, host_params, first_widths, stub_widths, flag_of, result_of}
use Rattle.adapter_stubs.specs.Bodies.{counters_of}

pub flat_same : (t : CoreType) → IsFlat t → core_type (width_of t) ≡ t
flat_same I32 is = refl
flat_same I64 is = refl
flat_same Funcref is = absurd is
flat_same Externref is = absurd is

flats_same : (ts : List CoreType) → All IsFlat ts → map core_type (widths_of ts) ≡ ts
flats_same [] is = refl
flats_same (t ∷ ts) is = ap (λ u. u ∷ map core_type (widths_of ts)) (flat_same t (All-head IsFlat t ts is)) ∙ ap (λ l. t ∷ l) (flats_same ts (All-tail IsFlat t ts is))

taken : {A : Type 0} → (xs ys : List A) (n : ℕ) → n ≡ length xs → take n (xs ++ ys) ≡ xs
taken [] ys zero e = refl
taken [] ys (suc n) e = absurd (omega (arith, e))
taken (x ∷ xs) ys zero e = absurd (omega (arith, e))
taken (x ∷ xs) ys (suc n) e = ap (λ l. x ∷ l) (taken xs ys n (omega (arith, e)))

module _ (s : Stub) where
  abbrev P : List Width
  P = widths_of s.flat.params

  abbrev H : List Width
  H = widths_of (host_params s.host)

  abbrev R : Width
  R = result_width s.flat.results

  long_params : length P ≡ length s.flat.params
  long_params = length-map s.flat.params width_of

  long_host : length H ≡ length (host_params s.host)
  long_host = length-map (host_params s.host) width_of

  -- the function's locals are the parameters and what it declares
  pub function_locals : All IsFlat s.flat.params → s.flat.params ++ spread (declared_of (drop (length s.flat.params) (stub_widths s)) (counters_of s)) ≡ locals_of (stub_widths s) (counters_of s)
  function_locals flat =
      let p = length s.flat.params in
      let rest = declared_of (drop p (stub_widths s)) (counters_of s) in
      let front : take p (stub_widths s) ≡ P =
      ap (take p) (append_assoc P (Narrow ∷ (H ++ R ∷ [])) (further 0 (further_of s))) ∙ taken P ((Narrow ∷ (H ++ R ∷ [])) ++ further 0 (further_of s)) p (sym long_params) in
      ap (λ l. l ++ spread rest) (sym (ap (map core_type) front ∙ flats_same s.flat.params flat)) ∙ whole_locals p (stub_widths s) (counters_of s)

  -- ---- by their places
  pub at_flag : slice_get (stub_widths s) (flag_of s) ≡ Some Narrow
  at_flag =
      let here = get_back P (Narrow ∷ (H ++ R ∷ [])) 0 (flag_of s) (omega (arith, long_params)) in
      get_front (first_widths s) (further 0 (further_of s)) (flag_of s) Narrow here

  pub at_param : (i : ℕ) (t : CoreType) → slice_get (host_params s.host) i ≡ Some t → slice_get (stub_widths s) (flag_of s + 1 + i) ≡ Some (width_of t)
  at_param i t is =
      let inner = get_front H (R ∷ []) i (width_of t) (slice_get-map width_of (host_params s.host) i ∙ ap (option_map width_of) is) in
      let here = get_back P (Narrow ∷ (H ++ R ∷ [])) (suc i) (flag_of s + 1 + i) (omega (arith, long_params)) in
      get_front (first_widths s) (further 0 (further_of s)) (flag_of s + 1 + i) (width_of t) (here ∙ inner)

  pub at_result : slice_get (stub_widths s) (result_of s) ≡ Some R
  at_result =
      let inner = get_back H (R ∷ []) 0 (length (host_params s.host)) (omega (arith, long_host)) in
      let here = get_back P (Narrow ∷ (H ++ R ∷ [])) (suc (length (host_params s.host))) (result_of s) (omega (arith, long_params)) in
      get_front (first_widths s) (further 0 (further_of s)) (result_of s) R (here ∙ inner)

  -- in a context that has these locals
  pub local_at : (c : Context) (n i : ℕ) (w : Width) → c.locals ≡ locals_of (stub_widths s) n → slice_get (stub_widths s) i ≡ Some w → slice_get c.locals i ≡ Some (core_type w)
  local_at c n i w e is =
      ap (λ l. slice_get l i) e ∙ get_front (map core_type (stub_widths s)) _ i (core_type w) (slice_get-map core_type (stub_widths s) i ∙ ap (option_map core_type) is)
