-- Aliases and exports of what can be named may be written.
use Rattle.std.proofs.Common.{rules, ◌≡◌, ◌∙◌, refl, ap, sym, subst, ℕ, ◌+◌, ◌<◌, ◌≤◌, ◌^◌, List, [], ◌∷◌, ◌++◌, length, true, None, append_assoc, arith}
use Rattle.std.specs.List.{AllByRecursion}
use Rattle.std.specs.Prelude.{IsUtf8}
use Rattle.std.specs.Str.{is_utf8}
use Rattle.std.proofs.lemmas.Str.{is_utf8-from_IsUtf8}
use Rattle.std.proofs.lemmas.List.{append-nil}
use Rattle.wasm_format.specs.Format.{vec, u32_format, name}
use Rattle.wasm_ast.specs.ComponentItems.{sort, extern_name, argument, instance, alias, type_alias_format, stated_desc, component_export}
use Rattle.wasm_ast.specs.declared.component.Sort.{Sort}
use Rattle.wasm_ast.specs.declared.component.Sort.TheVariants as sorts
use Rattle.wasm_ast.specs.declared.component.Alias.{Alias}
use Rattle.wasm_ast.specs.declared.component.Alias.TheVariants.{Export}
use Rattle.wasm_ast.specs.declared.component.ComponentExport.{ComponentExport}
use Rattle.comp_types.specs.Items.{Entries, End, More, names}
use Rattle.virt_output.specs.declared.counts.Counts.{Counts}
use Rattle.virt_output.specs.Counts.{sort_of, count_of, and_one}
use Rattle.virt_output.specs.Output.{one_instance, aliases_of, exports_from, behind_instance, exports_of}
use Rattle.comp_types.specs.Views.{item_of, entries_of}
use Rattle.comp_types.specs.declared.types.InstanceEntry.{InstanceEntry}
use Rattle.virt_output.specs.Bytes.{AreShort, CanBeNamed}

-- ---- one item

alias_fits_at : (s : Sort) (n : List ℕ) → is_utf8 n ≡ true → length n < 2 ^ 32 → alias.Fits (Export s 0 n)
unfolding alias type_alias_format u32_format name
alias_fits_at sorts.Func n u short = let low : 0 < 2 ^ 32 = omega arith in (refl, ((refl), (refl, (low, (u, (short, tt))))))
alias_fits_at sorts.Type n u short = let low : 0 < 2 ^ 32 = omega arith in (refl, (low, (u, (short, tt))))
alias_fits_at sorts.Instance n u short = let low : 0 < 2 ^ 32 = omega arith in (refl, ((refl), (refl, (low, (u, (short, tt))))))

pub alias_fits : (s : Sort) (n : List ℕ) → IsUtf8 n → length n < 2 ^ 32 → alias.Fits (Export s 0 n)
alias_fits s n u short = alias_fits_at s n (is_utf8-from_IsUtf8 n u) short

sort_fits : (s : Sort) → sort.Fits s
unfolding sort
sort_fits sorts.Func = refl
sort_fits sorts.Type = refl
sort_fits sorts.Instance = refl

export_fits_at : (s : Sort) (n : List ℕ) (i : ℕ) → is_utf8 n ≡ true → length n < 2 ^ 32 → i < 2 ^ 32 → component_export.Fits (record { name = n; sort = s; index = i; desc = None })
unfolding component_export extern_name stated_desc u32_format name
export_fits_at s n i u short low = (refl, ((u, (short, tt)), (sort_fits s, (low, refl))))

pub export_fits : (s : Sort) (n : List ℕ) (i : ℕ) → IsUtf8 n → length n < 2 ^ 32 → i < 2 ^ 32 → component_export.Fits (record { name = n; sort = s; index = i; desc = None })
export_fits s n i u short low = export_fits_at s n i (is_utf8-from_IsUtf8 n u) short low

pub instance_fits : (vec instance).Fits one_instance
unfolding instance argument u32_format
instance_fits = search rules

-- ---- lists

pub all_push : {A : Type 0} → (P : A → Type 0) (xs : List A) (x : A) → AllByRecursion P xs → P x → AllByRecursion P (xs ++ x ∷ [])
all_push P [] x h p = (p, tt)
all_push P (y ∷ xs) x h p = (h.0, all_push P xs x h.1 p)

pub length-aliases : (es : Entries) → length (aliases_of es) ≡ length (names es)
length-aliases End = refl
length-aliases (More n i rest) = omega (arith, length-aliases rest)

pub length-exports : (c : Counts) (es : Entries) → length (exports_from c es) ≡ length (names es)
length-exports c End = refl
length-exports c (More n i rest) = omega (arith, length-exports (and_one c (sort_of i)) rest)

-- ---- indexes

-- no index passes 2 ^ 32 with that many exports to come
pub record Room (c : Counts) (left : ℕ) : Type 0 where
  pub functions : c.functions + left ≤ 2 ^ 32
  pub types : c.types + left ≤ 2 ^ 32
  pub instances : c.instances + left ≤ 2 ^ 32

pub index_low : (c : Counts) (s : Sort) (left : ℕ) → Room c (left + 1) → count_of c s < 2 ^ 32
index_low c sorts.Func left h = omega (arith, h.functions)
index_low c sorts.Type left h = omega (arith, h.types)
index_low c sorts.Instance left h = omega (arith, h.instances)

pub room_left : (c : Counts) (s : Sort) (left : ℕ) → Room c (left + 1) → Room (and_one c s) left
room_left c sorts.Func left h = record { functions = omega (arith, h.functions); types = omega (arith, h.types); instances = omega (arith, h.instances) }
room_left c sorts.Type left h = record { functions = omega (arith, h.functions); types = omega (arith, h.types); instances = omega (arith, h.instances) }
room_left c sorts.Instance left h = record { functions = omega (arith, h.functions); types = omega (arith, h.types); instances = omega (arith, h.instances) }

-- ---- one turn of the loops

-- the items so far, with those of the entries that are left
abbrev pub SoFar : {A : Type 0} → (fits : A → Type 0) → (items left all : List A) → Entries → Type 0
SoFar fits items left all rest = (items ++ left ≡ all) × AllByRecursion fits items × AreShort rest

one_more : {A : Type 0} → (fits : A → Type 0) (items new left all : List A) (x : A) → new ≡ items ++ x ∷ [] → items ++ (x ∷ left) ≡ all → AllByRecursion fits items → fits x → (new ++ left ≡ all) × AllByRecursion fits new
one_more fits items new left all x e h each fit =
    (ap (λ z. z ++ left) e ∙ append_assoc items (x ∷ []) left ∙ h, subst (AllByRecursion fits) (sym e) (all_push fits items x each fit))

pub alias_more : (items new all : List Alias) (x : Alias) (rest more : List InstanceEntry) (e : InstanceEntry) → rest ≡ e ∷ more → new ≡ items ++ x ∷ [] → x ≡ Export (sort_of (item_of e.ty)) 0 e.name → IsUtf8 e.name
    → SoFar alias.Fits items (aliases_of (entries_of rest)) all (entries_of rest) → SoFar alias.Fits new (aliases_of (entries_of more)) all (entries_of more)
alias_more items new all x rest more e first pushed is utf so =
    let sofar : SoFar alias.Fits items (aliases_of (entries_of (e ∷ more))) all (entries_of (e ∷ more)) = subst (λ (r : List InstanceEntry). SoFar alias.Fits items (aliases_of (entries_of r)) all (entries_of r)) first so in
    let fit : alias.Fits (Export (sort_of (item_of e.ty)) 0 e.name) = alias_fits (sort_of (item_of e.ty)) e.name utf sofar.2.0 in
    let done = one_more alias.Fits items new (aliases_of (entries_of more)) all (Export (sort_of (item_of e.ty)) 0 e.name) (pushed ∙ ap (λ (y : Alias). items ++ y ∷ []) is) sofar.0 sofar.1 fit in
    (done.0, done.1, sofar.2.1)

abbrev pub exported_as : Counts → InstanceEntry → ComponentExport
exported_as c e = record { name = e.name; sort = sort_of (item_of e.ty); index = count_of c (sort_of (item_of e.ty)); desc = None }

pub room_here : (c : Counts) (rest more : List InstanceEntry) (e : InstanceEntry) → rest ≡ e ∷ more → Room c (length (names (entries_of rest))) → Room c (length (names (entries_of more)) + 1)
room_here c rest more e first room =
    let h : Room c (length (names (entries_of (e ∷ more)))) = subst (λ (r : List InstanceEntry). Room c (length (names (entries_of r)))) first room in
    record { functions = omega (arith, h.functions); types = omega (arith, h.types); instances = omega (arith, h.instances) }

pub export_more : (c d : Counts) (items new all : List ComponentExport) (x : ComponentExport) (rest more : List InstanceEntry) (e : InstanceEntry) → rest ≡ e ∷ more → new ≡ items ++ x ∷ [] → x ≡ exported_as c e
    → d ≡ and_one c (sort_of (item_of e.ty)) → IsUtf8 e.name → Room c (length (names (entries_of rest)))
    → SoFar component_export.Fits items (exports_from c (entries_of rest)) all (entries_of rest)
    → SoFar component_export.Fits new (exports_from d (entries_of more)) all (entries_of more) × Room d (length (names (entries_of more)))
export_more c d items new all x rest more e first pushed is counted utf room so =
    let s : Sort = sort_of (item_of e.ty) in
    let sofar : SoFar component_export.Fits items (exports_from c (entries_of (e ∷ more))) all (entries_of (e ∷ more)) = subst (λ (r : List InstanceEntry). SoFar component_export.Fits items (exports_from c (entries_of r)) all (entries_of r)) first so in
    let here = room_here c rest more e first room in
    let low : count_of c s < 2 ^ 32 = index_low c s (length (names (entries_of more))) here in
    let fit : component_export.Fits (exported_as c e) = export_fits s e.name (count_of c s) utf sofar.2.0 low in
    let done = one_more component_export.Fits items new (exports_from (and_one c s) (entries_of more)) all (exported_as c e) (pushed ∙ ap (λ (y : ComponentExport). items ++ y ∷ []) is) sofar.0 sofar.1 fit in
    subst (λ (k : Counts). SoFar component_export.Fits new (exports_from k (entries_of more)) all (entries_of more) × Room k (length (names (entries_of more)))) (sym counted)
    ((done.0, done.1, sofar.2.1), room_left c s (length (names (entries_of more))) here)

-- ---- the loops at their end

pub aliases_whole : (items : List Alias) (rest es : List InstanceEntry) → length rest ≡ 0 → CanBeNamed (entries_of es) → SoFar alias.Fits items (aliases_of (entries_of rest)) (aliases_of (entries_of es)) (entries_of rest) → (vec alias).Fits items
aliases_whole items [] es none named so =
    let all : length items ≡ length (aliases_of (entries_of es)) = ap length (sym (append-nil items) ∙ so.0) in
    (omega (arith, all, length-aliases (entries_of es), named.count), so.1)
aliases_whole items (e ∷ rest) es none named so = absurd (omega (arith, none))

pub exports_whole : (items : List ComponentExport) (c : Counts) (rest es : List InstanceEntry) → length rest ≡ 0 → CanBeNamed (entries_of es)
    → SoFar component_export.Fits items (exports_from c (entries_of rest)) (exports_of (entries_of es)) (entries_of rest) → (vec component_export).Fits items
exports_whole items c [] es none named so =
    let all : length items ≡ length (exports_of (entries_of es)) = ap length (sym (append-nil items) ∙ so.0) in
    (omega (arith, all, length-exports behind_instance (entries_of es), named.count), so.1)
exports_whole items c (e ∷ rest) es none named so = absurd (omega (arith, none))
