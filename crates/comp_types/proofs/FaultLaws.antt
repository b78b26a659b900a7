-- What the first test that fails says of the rules.
use Rattle.std.proofs.Common.{◌≡◌, ◌∙◌, ℕ, zero, suc, ◌<◌, List, [], ◌∷◌, Bool, true, false, Option, Some, None, sym, refl, subst, arith}
use Rattle.std.specs.Option.{option_map}
use Rattle.comp_types.specs.Spaces.{Space}
use Rattle.comp_types.specs.Definitions.{Definition}
use Rattle.comp_types.specs.Rules.{StatedTypesFit, ArgumentsFit}
use Rattle.comp_types.specs.Validity.{Holds, AllHold, IsLeastOf}
use Rattle.comp_types.specs.Faults.{tests, test_at, first_failing, fault}

-- ---- the first test that fails

was_none : (o : Option ℕ) → option_map (λ n. suc n) o ≡ None → o ≡ None
was_none None e = refl
was_none (Some k) e = absurd (cc)

was_some : (o : Option ℕ) (r : ℕ) → option_map (λ n. suc n) o ≡ Some r → (k : ℕ) × (o ≡ Some k) × (r ≡ suc k)
was_some None r e = absurd (cc)
was_some (Some k) r e = (k, refl, sym (cc))

none_fails : (bs : List Bool) → first_failing bs ≡ None → (n : ℕ) → test_at bs n ≡ true
none_fails [] h n = refl
none_fails (true ∷ bs) h zero = refl
none_fails (true ∷ bs) h (suc n) = none_fails bs (was_none (first_failing bs) h) n
none_fails (false ∷ bs) h n = absurd (cc)

one_more : (bs : List Bool) (k : ℕ) → ((n : ℕ) → n < k → test_at bs n ≡ true) → (n : ℕ) → n < suc k → test_at (true ∷ bs) n ≡ true
one_more bs k h zero lt = refl
one_more bs k h (suc n) lt = h n (omega arith)

first_fails : (bs : List Bool) (r : ℕ) → first_failing bs ≡ Some r → (test_at bs r ≡ false) × ((n : ℕ) → n < r → test_at bs n ≡ true)
first_fails [] r h = absurd (cc)
first_fails (false ∷ bs) r h = let e : 0 ≡ r = cc in (subst (λ n. test_at (false ∷ bs) n ≡ false) e refl, λ n lt. absurd (omega arith))
first_fails (true ∷ bs) r h =
    let m = was_some (first_failing bs) r h in
    let f = first_fails bs m.0 m.1 in
    (subst (λ n. test_at (true ∷ bs) n ≡ false) (sym m.2) f.0, λ n lt. one_more bs m.0 f.1 n (subst (λ k. n < k) m.2 lt))

-- ---- a rule, and its test

pub kept : (around : List Space) (s : Space) (d : Definition) (rule : ℕ) → Holds around s d rule → test_at (tests around s d) rule ≡ true
kept around s d zero h = refl
kept around s d (suc zero) h = refl
kept around s d (suc (suc zero)) h = refl
kept around s d (suc (suc (suc zero))) h = h.indexes refl
kept around s d (suc (suc (suc (suc zero)))) h = h.core_arguments refl
kept around s d (suc (suc (suc (suc (suc zero))))) h = h.core_types refl
kept around s d (suc (suc (suc (suc (suc (suc zero)))))) h = h.inline_names refl
kept around s d (suc (suc (suc (suc (suc (suc (suc zero))))))) h = h.aliases refl
kept around s d (suc (suc (suc (suc (suc (suc (suc (suc zero)))))))) h = h.borders refl
kept around s d (suc (suc (suc (suc (suc (suc (suc (suc (suc zero))))))))) h = h.labels refl
kept around s d (suc (suc (suc (suc (suc (suc (suc (suc (suc (suc zero)))))))))) h = h.sizes refl
kept around s d (suc (suc (suc (suc (suc (suc (suc (suc (suc (suc (suc zero))))))))))) h = h.kinds refl
kept around s d (suc (suc (suc (suc (suc (suc (suc (suc (suc (suc (suc (suc zero)))))))))))) h = h.resources refl
kept around s d (suc (suc (suc (suc (suc (suc (suc (suc (suc (suc (suc (suc (suc zero))))))))))))) h = h.functions refl
kept around s d (suc (suc (suc (suc (suc (suc (suc (suc (suc (suc (suc (suc (suc (suc zero)))))))))))))) h = h.destructors refl
kept around s d (suc (suc (suc (suc (suc (suc (suc (suc (suc (suc (suc (suc (suc (suc (suc zero))))))))))))))) h = h.declared_names refl
kept around s d (suc (suc (suc (suc (suc (suc (suc (suc (suc (suc (suc (suc (suc (suc (suc (suc zero)))))))))))))))) h = h.flat_types refl
kept around s d (suc (suc (suc (suc (suc (suc (suc (suc (suc (suc (suc (suc (suc (suc (suc (suc (suc zero))))))))))))))))) h = h.options refl
kept around s d (suc (suc (suc (suc (suc (suc (suc (suc (suc (suc (suc (suc (suc (suc (suc (suc (suc (suc zero)))))))))))))))))) h = h.own_resources refl
kept around s d (suc (suc (suc (suc (suc (suc (suc (suc (suc (suc (suc (suc (suc (suc (suc (suc (suc (suc (suc zero))))))))))))))))))) h = h.import_names refl
kept around s d (suc (suc (suc (suc (suc (suc (suc (suc (suc (suc (suc (suc (suc (suc (suc (suc (suc (suc (suc (suc zero)))))))))))))))))))) h = h.legal_names refl
kept around s d (suc (suc (suc (suc (suc (suc (suc (suc (suc (suc (suc (suc (suc (suc (suc (suc (suc (suc (suc (suc (suc zero))))))))))))))))))))) h = h.export_names refl
kept around s d (suc (suc (suc (suc (suc (suc (suc (suc (suc (suc (suc (suc (suc (suc (suc (suc (suc (suc (suc (suc (suc (suc zero)))))))))))))))))))))) h = refl
kept around s d (suc (suc (suc (suc (suc (suc (suc (suc (suc (suc (suc (suc (suc (suc (suc (suc (suc (suc (suc (suc (suc (suc (suc zero))))))))))))))))))))))) h = refl
kept around s d (suc (suc (suc (suc (suc (suc (suc (suc (suc (suc (suc (suc (suc (suc (suc (suc (suc (suc (suc (suc (suc (suc (suc (suc zero)))))))))))))))))))))))) h = h.annotations refl
kept around s d (suc (suc (suc (suc (suc (suc (suc (suc (suc (suc (suc (suc (suc (suc (suc (suc (suc (suc (suc (suc (suc (suc (suc (suc (suc n))))))))))))))))))))))))) h = refl

pub made : (around : List Space) (s : Space) (d : Definition) (rule : ℕ) → test_at (tests around s d) rule ≡ true
    → (rule ≡ 22 → StatedTypesFit s d) → (rule ≡ 23 → ArgumentsFit s d) → Holds around s d rule
made around s d rule h stated arguments =
    let at : (n : ℕ) → rule ≡ n → test_at (tests around s d) n ≡ true = λ n e. subst (λ k. test_at (tests around s d) k ≡ true) e h in
    record { indexes = at 3; core_arguments = at 4; core_types = at 5; inline_names = at 6; aliases = at 7; borders = at 8; labels = at 9; sizes = at 10; kinds = at 11; resources = at 12; functions = at 13; destructors = at 14; declared_names = at 15; flat_types = at 16; options = at 17; own_resources = at 18; import_names = at 19; legal_names = at 20; export_names = at 21; stated_types = stated; arguments = arguments; annotations = at 24 }

-- ---- all rules hold, or which is the least that fails

pub all_hold : (around : List Space) (s : Space) (d : Definition) → fault around s d ≡ None → StatedTypesFit s d → ArgumentsFit s d → AllHold around s d
all_hold around s d none stated arguments = λ rule. made around s d rule (none_fails (tests around s d) none rule) (λ e. stated) (λ e. arguments)

pub least_fails : (around : List Space) (s : Space) (d : Definition) (rule : ℕ) → fault around s d ≡ Some rule → StatedTypesFit s d → ArgumentsFit s d → IsLeastOf around s d rule
least_fails around s d rule some stated arguments =
    let f = first_fails (tests around s d) rule some in
    (λ h. let never : false ≡ true = sym f.0 ∙ kept around s d rule h in cc, λ less lt. made around s d less (f.1 less lt) (λ e. stated) (λ e. arguments))

-- where nothing else fails, the types that an export states, or the arguments of an instantiation
pub stated_fails : (around : List Space) (s : Space) (d : Definition) → fault around s d ≡ None → (StatedTypesFit s d → ⊥) → IsLeastOf around s d 22
stated_fails around s d none wrong =
    (λ h. wrong (h.stated_types refl), λ less lt. made around s d less (none_fails (tests around s d) none less) (λ e. absurd (omega arith)) (λ e. absurd (omega arith)))

pub arguments_fail : (around : List Space) (s : Space) (d : Definition) → fault around s d ≡ None → StatedTypesFit s d → (ArgumentsFit s d → ⊥) → IsLeastOf around s d 23
arguments_fail around s d none stated wrong =
    (λ h. wrong (h.arguments refl), λ less lt. made around s d less (none_fails (tests around s d) none less) (λ e. stated) (λ e. absurd (omega arith)))
