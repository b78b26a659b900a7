-- The first definition of a section of types is that of the first items, and the others are those of the items after.
use Rattle.std.proofs.Common.{◌≡◌, ◌∙◌, ◌+◌, ◌-◌, ◌<◌, ap, sym, refl, ℕ, zero, suc, List, [], ◌∷◌, take, drop, arith}
use Rattle.std.specs.Prelude.{unwrap_or}
use Rattle.wasm_ast.specs.declared.component.TypeDef.{TypeDef}
use Rattle.wasm_ast.specs.declared.component.TypeDef.TheVariants as defs
use Rattle.wasm_ast.specs.declared.component.TypeItem.{TypeItem}
use Rattle.wasm_ast.specs.declared.component.TypeItem.TheVariants as items
use Rattle.wasm_ast.specs.KeptTypes.{declaration_count, resource_destructor}
use Rattle.comp_types.specs.Declarations.{Declaration, Declarations, ATypeDef, AnInstanceType, ATypeAlias, ATypeExport, Done, Then, first_of, behind, grouped}
use Rattle.comp_types.specs.Spaces.{Space}
use Rattle.comp_link.specs.Plans.{of_type}
use Rattle.comp_linking.specs.Firsts.{declared_by, destructor_in, taken, of_item}

-- ---- what is told of a definition at once

pub declarations_counted : (def : TypeDef) → unwrap_or (declaration_count def) 0 ≡ declared_by (items.Define def)
declarations_counted (defs.Instance n) = refl
declarations_counted _ = refl

pub destructor_told : (def : TypeDef) → resource_destructor def ≡ destructor_in (items.Define def)
destructor_told (defs.Resource destructor) = refl
destructor_told _ = refl

-- ---- that many definitions, and that many more

behind_none : (n : ℕ) → behind n Done ≡ Done
behind_none zero = refl
behind_none (suc n) = refl

behind_more : (n k : ℕ) (ds : Declarations) → behind n (behind k ds) ≡ behind (n + k) ds
behind_more n zero ds = let e : n + 0 ≡ n = omega arith in ap (λ m. behind m ds) (sym e)
behind_more n (suc k) Done = behind_none n ∙ sym (behind_none (n + suc k))
behind_more n (suc k) (Then d ds) = let e : suc (n + k) ≡ n + suc k = omega arith in behind_more n k ds ∙ ap (λ m. behind m (Then d ds)) e

first_none : (n : ℕ) → first_of n Done ≡ Done
first_none zero = refl
first_none (suc n) = refl

first_within : (n k : ℕ) (ds : Declarations) → first_of k (first_of (n + k) ds) ≡ first_of k ds
first_within n zero ds = refl
first_within n (suc k) Done = ap (first_of (suc k)) (first_none (n + suc k))
first_within n (suc k) (Then d ds) =
    let e : n + suc k ≡ suc (n + k) = omega arith in
    ap (λ m. first_of (suc k) (first_of m (Then d ds))) e ∙ ap (Then d) (first_within n k ds)

first_behind : (n k : ℕ) (ds : Declarations) → behind k (first_of (n + k) ds) ≡ first_of n (behind k ds)
first_behind n zero ds = let e : n + 0 ≡ n = omega arith in ap (λ m. first_of m ds) e
first_behind n (suc k) Done = ap (behind (suc k)) (first_none (n + suc k)) ∙ sym (first_none n)
first_behind n (suc k) (Then d ds) =
    let e : n + suc k ≡ suc (n + k) = omega arith in
    ap (λ m. behind (suc k) (first_of m (Then d ds))) e ∙ first_behind n k ds

-- ---- the items that are taken

pub record Cuts (n : ℕ) (xs : List TypeItem) : Type 0 where
  pub later : behind n (grouped xs) ≡ grouped (drop (taken n xs) xs)
  pub ahead : first_of n (grouped (take (taken n xs) xs)) ≡ first_of n (grouped xs)
  pub ended : behind n (grouped (take (taken n xs) xs)) ≡ Done

cuts_alone : (n : ℕ) (x : TypeItem) (d : Declaration) (xs : List TypeItem) → ((ys : List TypeItem) → grouped (x ∷ ys) ≡ Then d (grouped ys)) → declared_by x ≡ 0 → Cuts n xs → Cuts (suc n) (x ∷ xs)
cuts_alone n x d xs g none c =
    let e : n + declared_by x ≡ n = omega (arith, none) in
    let k : taken (suc n) (x ∷ xs) ≡ suc (taken n xs) = ap (λ m. suc (taken m xs)) e in
    record {
      later = ap (behind (suc n)) (g xs) ∙ (c.later ∙ ap (λ m. grouped (drop m (x ∷ xs))) (sym k));
      ahead = ap (λ m. first_of (suc n) (grouped (take m (x ∷ xs)))) k ∙ (ap (first_of (suc n)) (g (take (taken n xs) xs)) ∙ (ap (Then d) c.ahead ∙ sym (ap (first_of (suc n)) (g xs))));
      ended = ap (λ m. behind (suc n) (grouped (take m (x ∷ xs)))) k ∙ (ap (behind (suc n)) (g (take (taken n xs) xs)) ∙ c.ended);
    }

cuts_whole : (n k : ℕ) (xs : List TypeItem) → Cuts (n + k) xs → Cuts (suc n) (items.Define (defs.Instance k) ∷ xs)
cuts_whole n k xs c =
    let some = grouped (take (taken (n + k) xs) xs) in
    let all = grouped xs in
    record {
      later = behind_more n k all ∙ c.later;
      ahead = (λ i. Then (AnInstanceType ((sym (first_within n k some) ∙ (ap (first_of k) c.ahead ∙ first_within n k all)) i))
          ((sym (first_behind n k some) ∙ (ap (behind k) c.ahead ∙ first_behind n k all)) i));
      ended = behind_more n k some ∙ c.ended;
    }

pub cuts : (n : ℕ) (xs : List TypeItem) → Cuts n xs
cuts zero xs = record { later = refl; ahead = refl; ended = refl }
cuts (suc n) [] = record { later = refl; ahead = refl; ended = refl }
cuts (suc n) (items.Define (defs.Instance k) ∷ xs) = cuts_whole n k xs (cuts (n + k) xs)
cuts (suc n) (items.Define (defs.Primitive p) ∷ xs) = cuts_alone n _ (ATypeDef (defs.Primitive p)) xs (λ ys. refl) refl (cuts n xs)
cuts (suc n) (items.Define (defs.Record fields) ∷ xs) = cuts_alone n _ (ATypeDef (defs.Record fields)) xs (λ ys. refl) refl (cuts n xs)
cuts (suc n) (items.Define (defs.Variant cases) ∷ xs) = cuts_alone n _ (ATypeDef (defs.Variant cases)) xs (λ ys. refl) refl (cuts n xs)
cuts (suc n) (items.Define (defs.List item) ∷ xs) = cuts_alone n _ (ATypeDef (defs.List item)) xs (λ ys. refl) refl (cuts n xs)
cuts (suc n) (items.Define (defs.Tuple types) ∷ xs) = cuts_alone n _ (ATypeDef (defs.Tuple types)) xs (λ ys. refl) refl (cuts n xs)
cuts (suc n) (items.Define (defs.Flags labels) ∷ xs) = cuts_alone n _ (ATypeDef (defs.Flags labels)) xs (λ ys. refl) refl (cuts n xs)
cuts (suc n) (items.Define (defs.Enum labels) ∷ xs) = cuts_alone n _ (ATypeDef (defs.Enum labels)) xs (λ ys. refl) refl (cuts n xs)
cuts (suc n) (items.Define (defs.Option item) ∷ xs) = cuts_alone n _ (ATypeDef (defs.Option item)) xs (λ ys. refl) refl (cuts n xs)
cuts (suc n) (items.Define (defs.Result ok err) ∷ xs) = cuts_alone n _ (ATypeDef (defs.Result ok err)) xs (λ ys. refl) refl (cuts n xs)
cuts (suc n) (items.Define (defs.Own i) ∷ xs) = cuts_alone n _ (ATypeDef (defs.Own i)) xs (λ ys. refl) refl (cuts n xs)
cuts (suc n) (items.Define (defs.Borrow i) ∷ xs) = cuts_alone n _ (ATypeDef (defs.Borrow i)) xs (λ ys. refl) refl (cuts n xs)
cuts (suc n) (items.Define (defs.Func params result) ∷ xs) = cuts_alone n _ (ATypeDef (defs.Func params result)) xs (λ ys. refl) refl (cuts n xs)
cuts (suc n) (items.Define (defs.Resource destructor) ∷ xs) = cuts_alone n _ (ATypeDef (defs.Resource destructor)) xs (λ ys. refl) refl (cuts n xs)
cuts (suc n) (items.Alias a ∷ xs) = cuts_alone n _ (ATypeAlias a) xs (λ ys. refl) refl (cuts n xs)
cuts (suc n) (items.Export name desc ∷ xs) = cuts_alone n _ (ATypeExport name desc) xs (λ ys. refl) refl (cuts n xs)

-- ---- the first definition

pub record First (xs : List TypeItem) (x : TypeItem) : Type 0 where
  pub first : Declaration
  pub alone : grouped (take (taken 1 xs) xs) ≡ Then first Done
  pub all : grouped xs ≡ Then first (grouped (drop (taken 1 xs) xs))
  pub plans : (s : Space) → of_item s x ≡ of_type s first

only_one : (ds : Declarations) → behind 1 ds ≡ Done → first_of 1 ds ≡ ds
only_one Done h = refl
only_one (Then d rest) h = ap (Then d) (sym h)

first_is : (xs : List TypeItem) (x : TypeItem) (d : Declaration) (rest : Declarations) → grouped xs ≡ Then d rest → ((s : Space) → of_item s x ≡ of_type s d) → First xs x
first_is xs x d rest g p =
    let c = cuts 1 xs in
    record {
      first = d;
      alone = sym (only_one (grouped (take (taken 1 xs) xs)) c.ended) ∙ (c.ahead ∙ ap (first_of 1) g);
      all = g ∙ ap (Then d) (sym (ap (behind 1) g) ∙ c.later);
      plans = p;
    }

pub first : (x : TypeItem) (xs : List TypeItem) → First (x ∷ xs) x
first (items.Define (defs.Instance k)) xs = first_is _ _ (AnInstanceType (first_of k (grouped xs))) (behind k (grouped xs)) refl (λ s. refl)
first (items.Define (defs.Primitive p)) xs = first_is _ _ (ATypeDef (defs.Primitive p)) (grouped xs) refl (λ s. refl)
first (items.Define (defs.Record fields)) xs = first_is _ _ (ATypeDef (defs.Record fields)) (grouped xs) refl (λ s. refl)
first (items.Define (defs.Variant cases)) xs = first_is _ _ (ATypeDef (defs.Variant cases)) (grouped xs) refl (λ s. refl)
first (items.Define (defs.List item)) xs = first_is _ _ (ATypeDef (defs.List item)) (grouped xs) refl (λ s. refl)
first (items.Define (defs.Tuple types)) xs = first_is _ _ (ATypeDef (defs.Tuple types)) (grouped xs) refl (λ s. refl)
first (items.Define (defs.Flags labels)) xs = first_is _ _ (ATypeDef (defs.Flags labels)) (grouped xs) refl (λ s. refl)
first (items.Define (defs.Enum labels)) xs = first_is _ _ (ATypeDef (defs.Enum labels)) (grouped xs) refl (λ s. refl)
first (items.Define (defs.Option item)) xs = first_is _ _ (ATypeDef (defs.Option item)) (grouped xs) refl (λ s. refl)
first (items.Define (defs.Result ok err)) xs = first_is _ _ (ATypeDef (defs.Result ok err)) (grouped xs) refl (λ s. refl)
first (items.Define (defs.Own i)) xs = first_is _ _ (ATypeDef (defs.Own i)) (grouped xs) refl (λ s. refl)
first (items.Define (defs.Borrow i)) xs = first_is _ _ (ATypeDef (defs.Borrow i)) (grouped xs) refl (λ s. refl)
first (items.Define (defs.Func params result)) xs = first_is _ _ (ATypeDef (defs.Func params result)) (grouped xs) refl (λ s. refl)
first (items.Define (defs.Resource destructor)) xs = first_is _ _ (ATypeDef (defs.Resource destructor)) (grouped xs) refl (λ s. refl)
first (items.Alias a) xs = first_is _ _ (ATypeAlias a) (grouped xs) refl (λ s. refl)
first (items.Export name desc) xs = first_is _ _ (ATypeExport name desc) (grouped xs) refl (λ s. refl)

-- ---- counting

pub taken_one : (n : ℕ) (x : TypeItem) (xs : List TypeItem) → 0 < n → taken n (x ∷ xs) ≡ taken (n - 1 + declared_by x) xs + 1
taken_one zero x xs h = absurd (omega arith)
taken_one (suc n) x xs h = let e : n ≡ suc n - 1 = omega arith in ap (λ m. suc (taken (m + declared_by x) xs)) e ∙ omega arith
