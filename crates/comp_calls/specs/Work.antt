-- How much is left to do at most: steps, and core code in progress that is to end.
use Rattle.std.specs.Prelude.{ℕ, ◌+◌, ◌*◌, List, sum_by}
use Rattle.call_moments.specs.declared.frame.Frame.{Frame}
use Rattle.call_moments.specs.declared.frame.Purpose.{Purpose}
use Rattle.call_moments.specs.declared.frame.Purpose.TheVariants.{Starts, Serves, Grants, Returns, Destroys}
use Rattle.call_moments.specs.declared.frame.Stored.{Stored}
use Rattle.call_moments.specs.declared.frame.Stored.TheVariants.{Params, Result}

-- after the last `realloc` for parameters the function runs, which takes no step of its own
abbrev pub weight : Purpose → ℕ
weight Starts = 1
weight (Serves service) = 1
weight (Grants storing) = 2
weight (Returns back) = 1
weight (Destroys visit) = 1

abbrev pub weights : List Frame → ℕ
weights frames = sum_by (λ (f : Frame). weight f.purpose) frames

abbrev pub work : ℕ → List Frame → ℕ
work budget frames = 3 * budget + weights frames

-- what may begin without a step once all is stored
abbrev pub weight_behind : Stored → ℕ
weight_behind (Params service) = 1
weight_behind (Result due) = 0
