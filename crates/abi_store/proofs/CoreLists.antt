-- Flat values as values of core types, one after another.
use Rattle.std.proofs.Common.{◌≡◌, ℕ, ◌≤◌, ap, refl, sym, ◌∙◌, List, [], ◌∷◌, ◌++◌, length, drop, append-nil, arith, min, length-drop}
use Rattle.virt_base.specs.declared.core_type.CoreType.{CoreType}
use Rattle.core_store.specs.declared.value.CoreValue.{CoreValue}
use Rattle.abi_store.specs.Plan.{core_values}
use Rattle.abi_store.specs.Slots.{known}

none_left : (ts : List CoreType) (ns : List ℕ) → min (length ts) (length ns) ≡ 0 → core_values ts (known ns) ≡ []
none_left [] ns is = refl
none_left (t ∷ ts) [] is = refl
none_left (t ∷ ts) (n ∷ ns) is = let some : min (length (t ∷ ts)) (length (n ∷ ns)) ≡ 0 = is in absurd (omega arith)

pub values_end : (due vs : List CoreValue) (ts : List CoreType) (ns : List ℕ) (i : ℕ) → vs ++ core_values (drop i ts) (known (drop i ns)) ≡ due → min (length ts) (length ns) ≤ i → vs ≡ due
values_end due vs ts ns i so past =
    let types = length-drop i ts in
    let numbers = length-drop i ns in
    sym (append-nil vs) ∙ ap (λ (ws : List CoreValue). vs ++ ws) (sym (none_left (drop i ts) (drop i ns) (omega arith))) ∙ so
