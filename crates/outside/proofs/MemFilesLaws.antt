-- Calls of files in memory.
use Rattle.std.proofs.Common.{◌≡◌, ℕ, List, [], Bool, true, false, Result, is_err, refl, ap, ◌∙◌}
use Rattle.std.specs.Prelude.{◌||◌, Some, if◌then◌else◌}
use Rattle.outside.specs.Failing.{Calls, is_listed, after}
use Rattle.outside.specs.Files.{Held, with_file, with_more, no_place, no_room}
use Rattle.outside.specs.MemFiles.{MemFilesState, MemCreates, MemAppends, what_fits}
use Rattle.outside.specs.declared.files.WriteFailed.{WriteFailed}

pub creates : (m : MemFilesState) (calls : Calls) (held : Held) (name : List ℕ) (r : Result (Unit {0}) WriteFailed) (listed : Bool)
    → listed ≡ is_listed m.calls → is_err r ≡ (listed || no_place m.held name) → calls ≡ after m.calls (is_err r)
    → held ≡ (if listed || no_place m.held name then m.held else with_file m.held name (Some []))
    → MemCreates name m (record { calls = calls; held = held }) r
creates m calls held name r listed is fails counted kept =
    let due : is_err r ≡ (is_listed m.calls || no_place m.held name) = fails ∙ ap (λ b. b || no_place m.held name) is in
    record {
      fails = due;
      calls = counted ∙ ap (after m.calls) due;
      held = kept ∙ ap (λ b. if b || no_place m.held name then m.held else with_file m.held name (Some [])) is;
    }

pub appends : (m : MemFilesState) (calls : Calls) (held : Held) (name bytes : List ℕ) (r : Result (Unit {0}) WriteFailed) (listed : Bool)
    → listed ≡ is_listed m.calls → is_err r ≡ (listed || no_room m.held name bytes) → calls ≡ after m.calls (is_err r)
    → held ≡ (if listed then m.held else with_more m.held name (what_fits m.held name bytes))
    → MemAppends name bytes m (record { calls = calls; held = held }) r
appends m calls held name bytes r listed is fails counted kept =
    let due : is_err r ≡ (is_listed m.calls || no_room m.held name bytes) = fails ∙ ap (λ b. b || no_room m.held name bytes) is in
    record {
      fails = due;
      calls = counted ∙ ap (after m.calls) due;
      held = kept ∙ ap (λ b. if b then m.held else with_more m.held name (what_fits m.held name bytes)) is;
    }

pub else_is : {A : Type 0} (b : Bool) (x y : A) → b ≡ false → y ≡ (if b then x else y)
else_is true x y e = absurd cc
else_is false x y e = refl
