-- Items up to a state that ends them, where each is read in the state that those before it leave.
use Rattle.std.specs.Prelude.{◌≡◌, ℕ, zero, suc, ◌+◌, true, false, List, [], ◌∷◌, ◌++◌, length, Result, Ok, Err, if◌then◌else◌}
use Rattle.virt_base.specs.Place.{Place}
use Rattle.wasm_format.specs.declared.stop.Stop.{Stop}
use Rattle.wasm_format.specs.declared.stop.Stop.TheVariants.{Malformed}
use Rattle.wasm_format.specs.Format.{Format, ◌>>=◌}
use Rattle.wasm_format.specs.Sections.{Sections, write_parts}

abbrev pub UntilSpells : {S P : Type 0} → Sections S P → S → ℕ → List P → List ℕ → Type 0
UntilSpells G s at [] text = (G.can_end s ≡ true) × (text ≡ [])
UntilSpells G s at (part ∷ parts) text = (x y : List ℕ) × (G.can_end s ≡ false) × (G.form s).Spells at part x × UntilSpells G (G.next s part) (at + length x) parts y × (text ≡ x ++ y)

unfoldable pub read_until : {S P : Type 0} → Sections S P → ℕ → S → Place → Result (List P × Place) Stop
read_until G zero s p = if G.can_end s then Ok ([], p) else Err Malformed
read_until G (suc fuel) s p = if G.can_end s then Ok ([], p) else ((G.form s).read p >>= λ a. read_until G fuel (G.next s a.0) a.1 >>= λ items. Ok (a.0 ∷ items.0, items.1))

abbrev pub UntilFits : {S P : Type 0} → Sections S P → S → List P → Type 0
UntilFits G s [] = G.can_end s ≡ true
UntilFits G s (part ∷ parts) = (G.can_end s ≡ false) × (G.form s).Fits part × UntilFits G (G.next s part) parts

abbrev pub until : {S P : Type 0} → Sections S P → S → Format (List P)
until G s = record {
  Spells = UntilSpells G s;
  read = λ p. read_until G (length p.rest) s p;
  Fits = UntilFits G s;
  write = write_parts G s;
}
