-- What reading the sections of a component gives, as trees.
use Rattle.std.specs.Prelude.{◌≡◌, ℕ, Result, Ok, Err}
use Rattle.wasm_format.specs.declared.stop.Stop.{Stop}
use Rattle.wasm_format.specs.Sections.{Run, Ran}
use Rattle.wasm_ast.specs.declared.component.Span.{Span}
use Rattle.wasm_ast.specs.declared.component.Component.{Component}
use Rattle.comp_grammar.specs.Trees.{Tree, plain}

-- What a call returned, seen as view says, and the offset that it left, is what reading gives, unless memory ran out.
abbrev pub RanAs : {X S : Type 0} → (X → S) → Result X Stop → ℕ → Run S → Type 0
RanAs view (Ok x) good r = r ≡ record { good = good; outcome = Ok (view x) }
RanAs {X} {S} view (Err e) good r = Ran {S = S} (Err e) good r

abbrev pub plain_placed : Span × Component → Span × Tree
plain_placed p = (p.0, plain p.1)
