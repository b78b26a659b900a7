-- The run of `check_after`, after an answer without a handle.
use Rattle.std.proofs.Common.{◌≡◌, ℕ, ◌≤◌, List, length, refl, arith}
use Rattle.handle_space.specs.HandleMap.{HandleMap}
use Rattle.adapter_code.specs.declared.layout.Layout.{Layout}
use Rattle.adapter_code.specs.declared.state.Effect.{Effect}
use Rattle.adapter_code.specs.Number.{word}
use Rattle.adapter_code.specs.Run.{Run, Next, Left, Over, runs}
use Rattle.adapter_code.proofs.Enough.{enough_runs}
use Rattle.table_bytes.specs.Routines.{state_of}
use Rattle.row_laws.specs.Check.{check_after, check_locals, StateIs}

abbrev pub AfterEnds : ℕ → ℕ → List ℕ → HandleMap ℕ → List Effect → Run → Type 0
AfterEnds flag index m h es (Next k new) = StateIs flag index 0 0 m h es new
AfterEnds flag index m h es (Left name k new) = ⊥
AfterEnds flag index m h es (Over end k new) = ⊥

module _ (l : Layout) (self flag index base scratch spot tag held long test at made : ℕ) (m : List ℕ) (h : HandleMap ℕ) (es : List Effect) (far : 16 ≤ length m) where
  pub after-succeeded : word m 0 1 ≡ 0 → AfterEnds flag index m h es (runs (check_after l) 0 (state_of (check_locals self flag index 0 0 base scratch spot tag held long test at made) m h es))
  after-succeeded ok =
      enough_runs (check_after l) (AfterEnds flag index m h es) 0 (state_of (check_locals self flag index 0 0 base scratch spot tag held long test at made) m h es)
      (omega arith, (λ wrong. absurd (wrong ok), λ none. record { self = _; base = _; scratch = _; spot = _; tag = _; held = _; long = _; test = _; at = _; made = _; is = refl }))

  pub after-closed : word m 0 1 ≡ 1 → word m 8 1 ≡ 1 → AfterEnds flag index m h es (runs (check_after l) 0 (state_of (check_locals self flag index 0 0 base scratch spot tag held long test at made) m h es))
  after-closed wrong ended =
      enough_runs (check_after l) (AfterEnds flag index m h es) 0 (state_of (check_locals self flag index 0 0 base scratch spot tag held long test at made) m h es) (
        omega arith,
        (
          λ some. (omega arith, (λ more. record { self = _; base = _; scratch = _; spot = _; tag = _; held = _; long = _; test = _; at = _; made = _; is = refl }, λ none. absurd (omega (arith, none, ended)))),
          λ none. absurd (omega (arith, none, wrong)),
        ),
      )
