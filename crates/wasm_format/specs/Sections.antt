-- A sequence of sections to the end of the bytes, where each is read in the state that those before it leave.
use Rattle.std.specs.Prelude.{◌≡◌, ℕ, zero, suc, ◌+◌, Bool, true, List, [], ◌∷◌, ◌++◌, length, Result, Ok, Err, if◌then◌else◌}
use Rattle.virt_base.specs.Place.{Place}
use Rattle.wasm_format.specs.declared.stop.Stop.{Stop}
use Rattle.wasm_format.specs.declared.stop.Stop.TheVariants.{NoMemory, Malformed, Unsupported, TooNested}
use Rattle.wasm_format.specs.Format.{Format}

pub record Sections (S P : Type 0) : Type 1 where
  -- how the next section is spelled
  pub form : S → Format P
  -- the state after it
  pub next : S → P → S
  -- the sections may end here
  pub can_end : S → Bool

abbrev pub SectionsSpell : {S P : Type 0} → Sections S P → S → ℕ → List P → List ℕ → Type 0
SectionsSpell G s at [] text = text ≡ []
SectionsSpell G s at (part ∷ parts) text = (x y : List ℕ) × (G.form s).Spells at part x × SectionsSpell G (G.next s part) (at + length x) parts y × (text ≡ x ++ y)

abbrev pub built : {S P : Type 0} → Sections S P → S → List P → S
built G s [] = s
built G s (part ∷ parts) = built G (G.next s part) parts

-- The bytes at this offset are sections that lead from s to t, where they may end.
abbrev pub SpellsTo : {S P : Type 0} → Sections S P → S → ℕ → S → List ℕ → Type 0
SpellsTo {S} {P} G s at t text = (parts : List P) × SectionsSpell G s at parts text × (built G s parts ≡ t) × (G.can_end t ≡ true)

-- what reading gives, and the last offset at which the sections might have ended
pub record Run (S : Type 0) : Type 0 where
  pub good : ℕ
  pub outcome : Result S Stop

abbrev pub after_part : {S P : Type 0} → ℕ → Result (P × Place) Stop → (P × Place → Run S) → Run S
after_part good (Ok x) f = f x
after_part good (Err e) f = record { good = good; outcome = Err e }

abbrev pub good_at : {S P : Type 0} → Sections S P → S → ℕ → ℕ → ℕ
good_at G s good at = if G.can_end s then at else good

-- Reading at most that many sections.
unfoldable pub run : {S P : Type 0} → Sections S P → ℕ → S → ℕ → ℕ → List ℕ → Run S
run G fuel s good at [] = record { good = good_at G s good at; outcome = if G.can_end s then Ok s else Err Malformed }
run G zero s good at (b ∷ rest) = record { good = good_at G s good at; outcome = Err Malformed }
run G (suc fuel) s good at (b ∷ rest) =
    after_part (good_at G s good at) ((G.form s).read (record { at = at; rest = b ∷ rest }))
    (λ x. run G fuel (G.next s x.0) (good_at G s good at) x.1.at x.1.rest)

-- What a call returned, and the offset that it left, is what reading gives, unless memory ran out.
abbrev pub Ran : {S : Type 0} → Result S Stop → ℕ → Run S → Type 0
Ran (Ok t) good r = r ≡ record { good = good; outcome = Ok t }
Ran (Err NoMemory) good r = Unit {0}
Ran (Err Malformed) good r = r ≡ record { good = good; outcome = Err Malformed }
Ran (Err (Unsupported at byte)) good r = r ≡ record { good = good; outcome = Err (Unsupported at byte) }
Ran (Err TooNested) good r = r ≡ record { good = good; outcome = Err TooNested }

-- ---- the sections that follow a place, as one value

abbrev pub ended : {S : Type 0} → Place → Result S Stop → Result (S × Place) Stop
ended p (Ok s) = Ok (s, record { at = p.at + length p.rest; rest = [] })
ended p (Err e) = Err e

abbrev pub PartsFit : {S P : Type 0} → Sections S P → S → List P → Type 0
PartsFit G s [] = Unit {0}
PartsFit G s (part ∷ parts) = (G.form s).Fits part × PartsFit G (G.next s part) parts

abbrev pub write_parts : {S P : Type 0} → Sections S P → S → List P → List ℕ
write_parts G s [] = []
write_parts G s (part ∷ parts) = (G.form s).write part ++ write_parts G (G.next s part) parts

-- Sections to the end of the bytes, from the state s. Those that are written are named by parts_of.
abbrev pub to_the_end : {S P : Type 0} → Sections S P → S → (S → List P) → Format S
to_the_end G s parts_of = record {
  Spells = λ at t text. SpellsTo G s at t text;
  read = λ p. ended p (run G (length p.rest) s 0 p.at p.rest).outcome;
  Fits = λ t. PartsFit G s (parts_of t) × (built G s (parts_of t) ≡ t) × (G.can_end t ≡ true);
  write = λ t. write_parts G s (parts_of t);
}
