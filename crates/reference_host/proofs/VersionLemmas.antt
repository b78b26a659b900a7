-- Versions, one interface after another.
use Rattle.std.proofs.Common.{◌≡◌, ℕ, zero, suc, ◌+◌, List, [], ◌∷◌, ◌++◌, length, refl, sym, ap, ◌∙◌, arith}
use Rattle.std.proofs.lemmas.List.{length-append}
use Rattle.wit_types.specs.Plain.{Name}
use Rattle.wasi_match.specs.declared.listed.ListedUse.{ListedUse}
use Rattle.reference_host.specs.Versions.{first_versions, version_of}

one_more : (n : ℕ) → suc n ≡ n + 1
one_more n = omega arith

pub next_version : (uses : List ListedUse) (n : ℕ) (old new : List Name) (text : Name) → new ≡ old ++ text ∷ [] → text ≡ version_of uses n → old ≡ first_versions uses n → new ≡ first_versions uses (n + 1)
next_version uses n old new text is same before =
    is ∙ ap (λ (xs : List Name). xs ++ text ∷ []) before ∙ ap (λ (t : Name). first_versions uses n ++ t ∷ []) same ∙ ap (first_versions uses) (one_more n)

pub as_many : (uses : List ListedUse) (n : ℕ) → length (first_versions uses n) ≡ n
as_many uses zero = refl
as_many uses (suc n) = length-append (first_versions uses n) (version_of uses n ∷ []) ∙ ap (λ (k : ℕ). k + 1) (as_many uses n) ∙ sym (one_more n)
