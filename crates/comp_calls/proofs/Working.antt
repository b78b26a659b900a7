-- One piece of core code more.
use Rattle.std.proofs.Common.{◌≡◌, ◌+◌, ℕ, List, [], ◌∷◌, ◌++◌, arith}
use Rattle.std.proofs.lemmas.List.Sums.{sum_by-append}
use Rattle.call_moments.specs.declared.frame.Frame.{Frame}
use Rattle.comp_calls.specs.Work.{weight, weights, work}

pub weights_more : (fs : List Frame) (f : Frame) → weights (fs ++ f ∷ []) ≡ weights fs + weight f.purpose
weights_more fs f = omega (arith, sum_by-append (λ (x : Frame). weight x.purpose) fs (f ∷ []))

-- a step less
pub work_less : (n m : ℕ) (fs : List Frame) → n ≡ m + 1 → work n fs ≡ work m fs + 3
work_less n m fs h = omega arith

pub ruleset works = (weights_more, work_less)
