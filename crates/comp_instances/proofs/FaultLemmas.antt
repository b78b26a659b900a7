-- The first test that fails, where only those before a rule are asked.
use Rattle.std.proofs.Common.{◌≡◌, ◌∙◌, ℕ, zero, suc, ◌<◌, List, [], ◌∷◌, Bool, true, false, Option, Some, None, sym, refl, subst, ap, take, drop, length, slice_get, arith}
use Rattle.std.specs.Prelude.{◌&&◌, nat_lt}
use Rattle.std.specs.List.{list_all}
use Rattle.std.specs.Option.{option_map}
use Rattle.std.proofs.lemmas.Bool.{false≢true}
use Rattle.std.proofs.lemmas.Bool.Decides.{Decides-ltb, nat_tests}
use Rattle.wasm_ast.specs.declared.component.Sort.{Sort}
use Rattle.wasm_ast.specs.declared.component.Sort.TheVariants as sorts
use Rattle.wasm_ast.specs.declared.component.ComponentExport.{ComponentExport}
use Rattle.wasm_ast.specs.declared.component.ComponentImport.{ComponentImport}
use Rattle.wasm_ast.specs.declared.component.ExternDesc.{ExternDesc}
use Rattle.comp_names.specs.Names.{is_legal}
use Rattle.comp_types.specs.Items.{Item, FuncItem, InstanceItem, KindItem}
use Rattle.comp_types.specs.Spaces.{Space, TypeEntry, item_at}
use Rattle.comp_types.specs.Declarations.{ATypeExport}
use Rattle.comp_types.specs.Definitions.{Definition, AType, AnImport, AnExport}
use Rattle.comp_types.specs.Added.{after, described, exported}
use Rattle.comp_types.specs.GivenResources.{is_among}
use Rattle.comp_types.specs.Faults.{tests, test_at, first_failing, fault}
use Rattle.comp_types.specs.Rules.{IsStated, IsStatedIfAny, StatedTypesFit, annotations_fit, desc_has_kind, desc_stands, export_stands, if_there, is_new_in, item_stands, lengths_of, name_fits, named_in_desc}
use Rattle.comp_types.specs.Validity.{IsLeastOf}
use Rattle.comp_types.proofs.FaultLaws.{kept, made, all_hold, least_fails}
use Rattle.comp_scopes.specs.declared.scope.Scope.{Scope}
use Rattle.comp_scopes.specs.Judged.{Judged}
use Rattle.comp_scopes.specs.Stands.{Stands}
use Rattle.comp_instances.specs.Early.{early_fault}

was_none : (o : Option ℕ) → option_map (λ n. suc n) o ≡ None → o ≡ None
was_none None e = refl
was_none (Some k) e = absurd (cc)

was_some : (o : Option ℕ) (r : ℕ) → option_map (λ n. suc n) o ≡ Some r → (k : ℕ) × (o ≡ Some k) × (r ≡ suc k)
was_some None r e = absurd (cc)
was_some (Some k) r e = (k, refl, sym (cc))

none_before : (k : ℕ) (bs : List Bool) → first_failing (take k bs) ≡ None → (n : ℕ) → n < k → test_at bs n ≡ true
none_before zero bs h n lt = absurd (omega arith)
none_before (suc k) [] h n lt = refl
none_before (suc k) (true ∷ bs) h zero lt = refl
none_before (suc k) (true ∷ bs) h (suc n) lt = none_before k bs (was_none (first_failing (take k bs)) h) n (omega arith)
none_before (suc k) (false ∷ bs) h n lt = absurd (cc)

one_more : (bs : List Bool) (k : ℕ) → ((n : ℕ) → n < k → test_at bs n ≡ true) → (n : ℕ) → n < suc k → test_at (true ∷ bs) n ≡ true
one_more bs k h zero lt = refl
one_more bs k h (suc n) lt = h n (omega arith)

fails_before : (k : ℕ) (bs : List Bool) (r : ℕ) → first_failing (take k bs) ≡ Some r → (r < k) × (test_at bs r ≡ false) × ((n : ℕ) → n < r → test_at bs n ≡ true)
fails_before zero bs r h = absurd (cc)
fails_before (suc k) [] r h = absurd (cc)
fails_before (suc k) (false ∷ bs) r h =
    let e : 0 ≡ r = cc in (omega arith, subst (λ n. test_at (false ∷ bs) n ≡ false) e refl, λ n lt. absurd (omega arith))
fails_before (suc k) (true ∷ bs) r h =
    let m = was_some (first_failing (take k bs)) r h in
    let f = fails_before k bs m.0 m.1 in
    (omega (arith, f.0, m.2), subst (λ n. test_at (true ∷ bs) n ≡ false) (sym m.2) f.1, λ n lt. one_more bs m.0 f.2 n (subst (λ k. n < k) m.2 lt))

-- ---- what that says of the rules

pub early_fails : (around : List Space) (s : Space) (d : Definition) (rule : ℕ) → early_fault around s d ≡ Some rule → IsLeastOf around s d rule
early_fails around s d rule e =
    let f = fails_before 22 (tests around s d) rule e in
    (λ h. let never : false ≡ true = sym f.1 ∙ kept around s d rule h in cc, λ less lt. made around s d less (f.2 less lt) (λ is. absurd (omega (arith, f.0))) (λ is. absurd (omega (arith, f.0))))

pub stated_fails_first : (around : List Space) (s : Space) (d : Definition) → early_fault around s d ≡ None → (StatedTypesFit s d → ⊥) → IsLeastOf around s d 22
stated_fails_first around s d none wrong =
    (λ h. wrong (h.stated_types refl), λ less lt. made around s d less (none_before 22 (tests around s d) none less lt) (λ e. absurd (omega arith)) (λ e. absurd (omega arith)))

abbrev plus : ℕ → Option ℕ → Option ℕ
plus zero o = o
plus (suc k) o = option_map (λ n. suc n) (plus k o)

plus-none : (k : ℕ) → None ≡ plus k None
plus-none zero = refl
plus-none (suc k) = ap (option_map (λ n. suc n)) (plus-none k)

rest_of : (k : ℕ) (bs : List Bool) → first_failing (take k bs) ≡ None → first_failing bs ≡ plus k (first_failing (drop k bs))
rest_of zero bs h = refl
rest_of (suc k) [] h = plus-none (suc k)
rest_of (suc k) (true ∷ bs) h = ap (option_map (λ n. suc n)) (rest_of k bs (was_none (first_failing (take k bs)) h))
rest_of (suc k) (false ∷ bs) h = absurd (cc)

abbrev last : (b : Bool) → Option ℕ
last b = plus 22 (first_failing (true ∷ true ∷ b ∷ []))

module _ (around : List Space) (s : Space) (e : ComponentExport) (x : Scope) (none : early_fault around s (AnExport e) ≡ None) (stated : StatedTypesFit s (AnExport e)) where
  whole : fault around s (AnExport e) ≡ last (annotations_fit s (AnExport e))
  whole = rest_of 22 (tests around s (AnExport e)) none

  pub annotations_fail : annotations_fit s (AnExport e) ≡ false → Judged around s (AnExport e) x (Some 24)
  annotations_fail wrong = least_fails around s (AnExport e) 24 (whole ∙ ap last wrong) stated tt

  pub valid_export : annotations_fit s (AnExport e) ≡ true → Stands (after around s (AnExport e)) x → Judged around s (AnExport e) x None
  valid_export fits h = (all_hold around s (AnExport e) (whole ∙ ap last fits) stated tt, h)

-- ---- which rule is the least that fails

abbrev pub import_broken : (borders kinds differs legal fits : Bool) → Option ℕ
import_broken false kinds differs legal fits = Some 8
import_broken true false differs legal fits = Some 11
import_broken true true false legal fits = Some 19
import_broken true true true false fits = Some 20
import_broken true true true true false = Some 24
import_broken true true true true true = None

import_rules : (borders kinds differs legal fits : Bool) → first_failing (true ∷ true ∷ true ∷ true ∷ true ∷ true ∷ true ∷ true ∷ borders ∷ true ∷ true ∷ kinds ∷ true ∷ true ∷ true ∷ true ∷ true ∷ true ∷ true ∷ differs ∷ legal ∷ true ∷ true ∷ true ∷ fits ∷ []) ≡ import_broken borders kinds differs legal fits
import_rules false kinds differs legal fits = refl
import_rules true false differs legal fits = refl
import_rules true true false legal fits = refl
import_rules true true true false fits = refl
import_rules true true true true false = refl
import_rules true true true true true = refl

import_due : (around : List Space) (s : Space) (im : ComponentImport) → desc_stands (lengths_of s) im.desc ≡ true → fault around s (AnImport im) ≡ import_broken (list_all (is_among s.imported) (named_in_desc s im.desc)) (desc_has_kind s im.desc) (is_new_in s.imports im.name) (is_legal im.name) (name_fits s.imports im.name (described s im.desc))
import_due around s im stands = ap (λ a. first_failing (true ∷ true ∷ true ∷ a ∷ true ∷ true ∷ true ∷ true ∷ (list_all (is_among s.imported) (named_in_desc s im.desc)) ∷ true ∷ true ∷ (desc_has_kind s im.desc) ∷ true ∷ true ∷ true ∷ true ∷ true ∷ true ∷ true ∷ (is_new_in s.imports im.name) ∷ (is_legal im.name) ∷ true ∷ true ∷ true ∷ (name_fits s.imports im.name (described s im.desc)) ∷ [])) stands ∙ import_rules (list_all (is_among s.imported) (named_in_desc s im.desc)) (desc_has_kind s im.desc) (is_new_in s.imports im.name) (is_legal im.name) (name_fits s.imports im.name (described s im.desc))

-- the answer, by what each test says
pub import_answered : (around : List Space) (s : Space) (im : ComponentImport) (borders kinds differs legal fits : Bool) → desc_stands (lengths_of s) im.desc ≡ true
    → borders ≡ (list_all (is_among s.imported) (named_in_desc s im.desc)) → kinds ≡ (desc_has_kind s im.desc) → differs ≡ (is_new_in s.imports im.name) → legal ≡ (is_legal im.name) → fits ≡ (name_fits s.imports im.name (described s im.desc)) → import_broken borders kinds differs legal fits ≡ fault around s (AnImport im)
import_answered around s im borders kinds differs legal fits stands e0 e1 e2 e3 e4 = (λ i. import_broken (e0 i) (e1 i) (e2 i) (e3 i) (e4 i)) ∙ sym (import_due around s im stands)

abbrev pub declared_broken : (kinds differs legal fits : Bool) → Option ℕ
declared_broken false differs legal fits = Some 11
declared_broken true false legal fits = Some 15
declared_broken true true false fits = Some 20
declared_broken true true true false = Some 24
declared_broken true true true true = None

declared_rules : (kinds differs legal fits : Bool) → first_failing (true ∷ true ∷ true ∷ true ∷ true ∷ true ∷ true ∷ true ∷ true ∷ true ∷ true ∷ kinds ∷ true ∷ true ∷ true ∷ differs ∷ true ∷ true ∷ true ∷ true ∷ legal ∷ true ∷ true ∷ true ∷ fits ∷ []) ≡ declared_broken kinds differs legal fits
declared_rules false differs legal fits = refl
declared_rules true false legal fits = refl
declared_rules true true false fits = refl
declared_rules true true true false = refl
declared_rules true true true true = refl

declared_due : (around : List Space) (s : Space) (n : List ℕ) (d : ExternDesc) → desc_stands (lengths_of s) d ≡ true → fault around s (AType (ATypeExport n d)) ≡ declared_broken (desc_has_kind s d) (is_new_in s.exports n) (is_legal n) (name_fits s.exports n (described s d))
declared_due around s n d stands = ap (λ a. first_failing (true ∷ true ∷ true ∷ a ∷ true ∷ true ∷ true ∷ true ∷ true ∷ true ∷ true ∷ (desc_has_kind s d) ∷ true ∷ true ∷ true ∷ (is_new_in s.exports n) ∷ true ∷ true ∷ true ∷ true ∷ (is_legal n) ∷ true ∷ true ∷ true ∷ (name_fits s.exports n (described s d)) ∷ [])) stands ∙ declared_rules (desc_has_kind s d) (is_new_in s.exports n) (is_legal n) (name_fits s.exports n (described s d))

-- the answer, by what each test says
pub declared_answered : (around : List Space) (s : Space) (n : List ℕ) (d : ExternDesc) (kinds differs legal fits : Bool) → desc_stands (lengths_of s) d ≡ true
    → kinds ≡ (desc_has_kind s d) → differs ≡ (is_new_in s.exports n) → legal ≡ (is_legal n) → fits ≡ (name_fits s.exports n (described s d)) → declared_broken kinds differs legal fits ≡ fault around s (AType (ATypeExport n d))
declared_answered around s n d kinds differs legal fits stands e0 e1 e2 e3 = (λ i. declared_broken (e0 i) (e1 i) (e2 i) (e3 i)) ∙ sym (declared_due around s n d stands)

abbrev pub early_broken : (kinds legal differs : Bool) → Option ℕ
early_broken false legal differs = Some 11
early_broken true false differs = Some 20
early_broken true true false = Some 21
early_broken true true true = None

early_rules : (kinds legal differs : Bool) → first_failing (true ∷ true ∷ true ∷ true ∷ true ∷ true ∷ true ∷ true ∷ true ∷ true ∷ true ∷ kinds ∷ true ∷ true ∷ true ∷ true ∷ true ∷ true ∷ true ∷ true ∷ legal ∷ differs ∷ []) ≡ early_broken kinds legal differs
early_rules false legal differs = refl
early_rules true false differs = refl
early_rules true true false = refl
early_rules true true true = refl

early_due : (around : List Space) (s : Space) (ex : ComponentExport) → export_stands (lengths_of s) ex ≡ true → early_fault around s (AnExport ex) ≡ early_broken (if_there (desc_has_kind s) ex.desc) (is_legal ex.name) (is_new_in s.exports ex.name)
early_due around s ex stands = ap (λ a. first_failing (true ∷ true ∷ true ∷ a ∷ true ∷ true ∷ true ∷ true ∷ true ∷ true ∷ true ∷ (if_there (desc_has_kind s) ex.desc) ∷ true ∷ true ∷ true ∷ true ∷ true ∷ true ∷ true ∷ true ∷ (is_legal ex.name) ∷ (is_new_in s.exports ex.name) ∷ [])) stands ∙ early_rules (if_there (desc_has_kind s) ex.desc) (is_legal ex.name) (is_new_in s.exports ex.name)

-- the answer, by what each test says
pub early_answered : (around : List Space) (s : Space) (ex : ComponentExport) (kinds legal differs : Bool) → export_stands (lengths_of s) ex ≡ true
    → kinds ≡ (if_there (desc_has_kind s) ex.desc) → legal ≡ (is_legal ex.name) → differs ≡ (is_new_in s.exports ex.name) → early_broken kinds legal differs ≡ early_fault around s (AnExport ex)
early_answered around s ex kinds legal differs stands e0 e1 e2 = (λ i. early_broken (e0 i) (e1 i) (e2 i)) ∙ sym (early_due around s ex stands)

-- ---- stated types

pub stated_onward : (s : Space) (ex : ComponentExport) (d : ExternDesc) (o : Option Item) → ex.desc ≡ Some d → o ≡ item_at s ex.sort ex.index → IsStated s o d → StatedTypesFit s (AnExport ex)
stated_onward s ex d o states there p =
    subst (λ (m : Option ExternDesc). IsStatedIfAny s (item_at s ex.sort ex.index) m) (sym states) (subst (λ (q : Option Item). IsStated s q d) there p)

pub stated_back : (s : Space) (ex : ComponentExport) (d : ExternDesc) (o : Option Item) → ex.desc ≡ Some d → o ≡ item_at s ex.sort ex.index → StatedTypesFit s (AnExport ex) → IsStated s o d
stated_back s ex d o states there p =
    subst (λ (q : Option Item). IsStated s q d) (sym there) (subst (λ (m : Option ExternDesc). IsStatedIfAny s (item_at s ex.sort ex.index) m) states p)

pub stated_nothing : (s : Space) (ex : ComponentExport) → ex.desc ≡ None → StatedTypesFit s (AnExport ex)
stated_nothing s ex plain = subst (λ (m : Option ExternDesc). IsStatedIfAny s (item_at s ex.sort ex.index) m) (sym plain) tt

pub export_fits : (s : Space) (ex : ComponentExport) (i : Item) → exported s ex ≡ Some i → annotations_fit s (AnExport ex) ≡ name_fits s.exports ex.name i
export_fits s ex i e = ap (if_there (name_fits s.exports ex.name)) e

-- ---- what stands at an index

got_some : {A : Type 0} (xs : List A) (i : ℕ) → nat_lt i (length xs) ≡ true → slice_get xs i ≡ None → ⊥
got_some [] i h e = absurd (omega (arith, (Decides-ltb i 0).0 h))
got_some (x ∷ xs) zero h e = cc
got_some (x ∷ xs) (suc i) h e = got_some xs i (grind (arith, nat_tests)) e

was_nothing : {A B : Type 0} (f : A → B) (o : Option A) → option_map f o ≡ None → o ≡ None
was_nothing f None e = refl
was_nothing f (Some a) e = absurd (cc)

item_stands_there : (s : Space) (sort : Sort) (i : ℕ) → item_stands (lengths_of s) sort i ≡ true → item_at s sort i ≡ None → ⊥
item_stands_there s sorts.Func i h e = got_some s.functions i h (was_nothing FuncItem _ e)
item_stands_there s sorts.Type i h e = got_some s.types i h (was_nothing (λ (t : TypeEntry). t.kind) _ (was_nothing KindItem _ e))
item_stands_there s sorts.Instance i h e = got_some s.instances i h (was_nothing InstanceItem _ e)

first_holds : (a b : Bool) → (a && b) ≡ true → a ≡ true
first_holds true b h = refl
first_holds false b h = absurd (false≢true h)

pub export_is_there : (s : Space) (ex : ComponentExport) → export_stands (lengths_of s) ex ≡ true → item_at s ex.sort ex.index ≡ None → ⊥
export_is_there s ex h e = item_stands_there s ex.sort ex.index (first_holds (item_stands (lengths_of s) ex.sort ex.index) (if_there (desc_stands (lengths_of s)) ex.desc) h) e

-- ---- definitions without stated types

pub broken_import : (around : List Space) (s : Space) (i : ComponentImport) (x : Scope) (rule : ℕ) → Some rule ≡ fault around s (AnImport i) → Judged around s (AnImport i) x (Some rule)
broken_import around s i x rule e = least_fails around s (AnImport i) rule (sym e) tt tt

pub valid_import : (around : List Space) (s : Space) (i : ComponentImport) (x : Scope) → None ≡ fault around s (AnImport i) → Stands (after around s (AnImport i)) x → Judged around s (AnImport i) x None
valid_import around s i x e h = (all_hold around s (AnImport i) (sym e) tt tt, h)

pub broken_declared : (around : List Space) (s : Space) (n : List ℕ) (d : ExternDesc) (x : Scope) (rule : ℕ) → Some rule ≡ fault around s (AType (ATypeExport n d)) → Judged around s (AType (ATypeExport n d)) x (Some rule)
broken_declared around s n d x rule e = least_fails around s (AType (ATypeExport n d)) rule (sym e) tt tt

pub valid_declared : (around : List Space) (s : Space) (n : List ℕ) (d : ExternDesc) (x : Scope) → None ≡ fault around s (AType (ATypeExport n d)) → Stands (after around s (AType (ATypeExport n d))) x
    → Judged around s (AType (ATypeExport n d)) x None
valid_declared around s n d x e h = (all_hold around s (AType (ATypeExport n d)) (sym e) tt tt, h)
