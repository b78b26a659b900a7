-- A name and those after it, where no step and where some steps are left.
use Rattle.std.proofs.Common.{◌≡◌, ℕ, zero, suc, ◌-◌, List, [], ◌∷◌, refl, ap, arith, append_assoc}
use Rattle.std.proofs.lemmas.List.{append-nil}
use Rattle.std.specs.List.{flat_map}
use Rattle.wasi_table.specs.Plain.{PlainInterface}
use Rattle.adapter_world.specs.declared.type_names.TypeName.{TypeName}
use Rattle.adapter_world.specs.Behind.{behind, reached}

pub reached_more : (all : List PlainInterface) (n : ℕ) (t : TypeName) → (n ≡ 0 → ⊥) → reached all n t ≡ t ∷ flat_map (reached all (n - 1)) (behind all t)
reached_more all zero t some = absurd (some refl)
reached_more all (suc n) t some =
    let e : n ≡ suc n - 1 = omega arith in
    ap (λ k. t ∷ flat_map (reached all k) (behind all t)) e

pub reached_none : (all : List PlainInterface) (n : ℕ) (t : TypeName) → n ≡ 0 → reached all n t ≡ t ∷ []
reached_none all zero t none = refl
reached_none all (suc n) t none = absurd (omega arith)

pub ruleset reaching = (reached_more, reached_none, append_assoc, append-nil)
