-- The last line names how a run ended, and each line is one of something seen.
use Rattle.std.proofs.Common.{◌≡◌, sym, subst, ℕ, List, [], ◌∷◌, ◌++◌}
use Rattle.std.specs.Prelude.{All, Option}
use Rattle.std.proofs.lemmas.List.Elements.{All-push}
use Rattle.wit_types.specs.Plain.{Plain}
use Rattle.host_port.specs.Calls.{PlainObservation}
use Rattle.call_moments.specs.declared.end.RunEnd.{RunEnd}
use Rattle.call_moments.specs.declared.end.RunEnd.TheVariants as calls
use Rattle.script_lines.specs.Lines.{line_text}
use Rattle.virt_engine.specs.Lines.{IsLine, Adds, EndsBy, end_by, seen_by}

ends_by : (end : RunEnd) (ty : Option Plain) (old new : List (List ℕ)) → Adds old new (line_text ty (seen_by end)) → EndsBy new (end_by end)
ends_by (calls.Returned value) ty old new h = tt
ends_by calls.Trapped ty old new h = (old, h)
ends_by calls.ScriptEnded ty old new h = (old, h)
ends_by calls.BadAnswer ty old new h = (old, h)
ends_by calls.Spent ty old new h = (old, h)
ends_by calls.TooDeep ty old new h = (old, h)

pub ended_so : (end : RunEnd) (how : RunEnd) (seen : PlainObservation) (ty : Option Plain) (old new : List (List ℕ)) → how ≡ end_by end → seen ≡ seen_by end
    → Adds old new (line_text ty seen) → EndsBy new how
ended_so end how seen ty old new is same h =
    subst (λ x. EndsBy new x) (sym is) (ends_by end ty old new (subst (λ s. Adds old new (line_text ty s)) same h))

pub line_more : (old new : List (List ℕ)) (line : List ℕ) (ty : Option Plain) (seen : PlainObservation) → All IsLine old → line ≡ line_text ty seen → new ≡ old ++ line ∷ [] → All IsLine new
line_more old new line ty seen all is same = subst (λ xs. All IsLine xs) (sym same) (All-push IsLine old line all (ty, seen, is))

pub lines_kept : (old new : List (List ℕ)) → All IsLine old → new ≡ old → All IsLine new
lines_kept old new all same = subst (λ xs. All IsLine xs) (sym same) all
