-- Sections added one after another.
use Rattle.std.proofs.Common.{◌≡◌, ◌∙◌, refl, ap, sym, subst, ℕ, ◌<◌, ◌≤◌, ◌^◌, List, [], ◌∷◌, ◌++◌, length, Bool, true, false, append_assoc, arith, Ok, Err}
use Rattle.std.specs.Prelude.{Result, Vec, ◌↔◌, IsTrue, ◌==◌}
use Rattle.std.specs.declared.alloc.Global.{Global}
use Rattle.std.proofs.lemmas.List.{append-nil}
use Rattle.std.proofs.lemmas.Bool.{false≢true, eqb-true}
use Rattle.wasm_format.specs.Format.{vec, u32_format}
use Rattle.wasm_ast.specs.ComponentItems.{instance, alias, component_export}
use Rattle.wasm_ast.specs.declared.component.Alias.{Alias}
use Rattle.wasm_ast.specs.declared.component.ComponentExport.{ComponentExport}
use Rattle.wasm_ast.specs.declared.component.Instance.{Instance}
use Rattle.comp_types.specs.Items.{Entries, End, names}
use Rattle.comp_types.specs.Views.{entries_of}
use Rattle.comp_types.specs.declared.types.InstanceEntry.{InstanceEntry}
use Rattle.virt_output.specs.Pieces.{Adds}
use Rattle.virt_output.specs.declared.fault.PieceFault.{PieceFault}
use Rattle.virt_output.specs.declared.fault.PieceFault.TheVariants.{NoMemory, TooLong}
use Rattle.virt_output.specs.Output.{one_instance, aliases_of, exports_of}
use Rattle.virt_output.specs.Bytes.{section_bytes, alias_content, export_content, exporting_bytes, AreShort, CanBeNamed, CanBeSized, AreWritable, AddsExports, Ends}
use Rattle.virt_output.proofs.AroundLaws.{instance_content}

-- ---- how many exports, and how long their names are

pub length-names : (es : List InstanceEntry) → length (names (entries_of es)) ≡ length es
length-names [] = refl
length-names (e ∷ es) = omega (arith, length-names es)

pub too_many : (es : List InstanceEntry) → 4294967295 < length es → IsTrue false ↔ CanBeNamed (entries_of es)
too_many es many = (λ h. absurd (false≢true h), λ n. absurd (omega (arith, many, n.count, length-names es)))

pub few_enough : (es : List InstanceEntry) (b : Bool) → length es ≤ 4294967295 → (IsTrue b ↔ AreShort (entries_of es)) → IsTrue b ↔ CanBeNamed (entries_of es)
few_enough es b few h = (λ yes. record { count = omega (arith, few, length-names es); short = h.0 yes }, λ n. h.1 n.short)

-- ---- the sections of exports

sized_none : CanBeSized End
unfolding u32_format
sized_none = record { aliases = omega arith; exported = omega arith }

writable_none : AreWritable End
unfolding u32_format
writable_none = let low : 0 < 2 ^ 32 = omega arith in record { aliases = (low, tt); exported = (low, tt) }

pub none_added : (es : List InstanceEntry) (old : List ℕ) → (length es == 0) ≡ true → AddsExports (entries_of es) old old (Ok tt)
none_added [] old h = (sized_none, writable_none, sym (append-nil old))
none_added (e ∷ es) old h = absurd (omega (arith, eqb-true (length (e ∷ es)) 0 h))

some_bytes : (es : List InstanceEntry) → (length es == 0) ≡ false → exporting_bytes (entries_of es) ≡ section_bytes 6 (alias_content (entries_of es)) ++ section_bytes 11 (export_content (entries_of es))
some_bytes [] h = absurd (false≢true (sym h))
some_bytes (e ∷ es) h = refl

pub aliases_failed : (es : Entries) (ls : List Alias) (old mid new : List ℕ) (e : PieceFault) → ls ≡ aliases_of es → Adds 6 ((vec alias).write ls) old mid (Err e) → AddsExports es old new (Err e)
aliases_failed es ls old mid new NoMemory is h = tt
aliases_failed es ls old mid new TooLong is h = λ sized. absurd (omega (arith, sized.aliases, subst (λ (xs : List Alias). 2 ^ 32 ≤ length ((vec alias).write xs)) is h))

pub both_added : (es : List InstanceEntry) (ls : List Alias) (xs : List ComponentExport) (old mid new : List ℕ) (r : Result (Unit {0}) PieceFault) → (length es == 0) ≡ false → ls ≡ aliases_of (entries_of es) → xs ≡ exports_of (entries_of es) → (vec alias).Fits ls → (vec component_export).Fits xs
    → Adds 6 ((vec alias).write ls) old mid (Ok tt) → Adds 11 ((vec component_export).write xs) mid new r → AddsExports (entries_of es) old new r
both_added es ls xs old mid new (Err NoMemory) some a x f g first second = tt
both_added es ls xs old mid new (Err TooLong) some a x f g first second =
    λ sized. absurd (omega (arith, sized.exported, subst (λ (ys : List ComponentExport). 2 ^ 32 ≤ length ((vec component_export).write ys)) x second))
both_added es ls xs old mid new (Ok done) some a x f g first second =
    let one : Adds 6 (alias_content (entries_of es)) old mid (Ok tt) = subst (λ (ys : List Alias). Adds 6 ((vec alias).write ys) old mid (Ok tt)) a first in
    let two : Adds 11 (export_content (entries_of es)) mid new (Ok done) = subst (λ (ys : List ComponentExport). Adds 11 ((vec component_export).write ys) mid new (Ok done)) x second in (
      record { aliases = one.0; exported = two.0 },
      record { aliases = subst (λ (ys : List Alias). (vec alias).Fits ys) a f; exported = subst (λ (ys : List ComponentExport). (vec component_export).Fits ys) x g },
      two.1
          ∙ ap (λ (z : List ℕ). z ++ section_bytes 11 (export_content (entries_of es))) one.1
          ∙ append_assoc old (section_bytes 6 (alias_content (entries_of es))) (section_bytes 11 (export_content (entries_of es)))
          ∙ ap (λ (z : List ℕ). old ++ z) (sym (some_bytes es some)),
    )

-- ---- what stands after an application

pub instance_failed : (es : Entries) (is : List Instance) (old mid : List ℕ) (e : PieceFault) → is ≡ one_instance → Adds 5 ((vec instance).write is) old mid (Err e) → Ends es (Err e)
instance_failed es is old mid NoMemory same h = tt
instance_failed es is old mid TooLong same h = absurd (omega (arith, instance_content, subst (λ (xs : List Instance). 2 ^ 32 ≤ length ((vec instance).write xs)) same h))

pub exports_failed : (es : Entries) (old mid : List ℕ) (e : PieceFault) → AddsExports es old mid (Err e) → Ends es (Err e)
exports_failed es old mid NoMemory h = tt
exports_failed es old mid TooLong h = h

pub all_added : (es : Entries) (is : List Instance) (old mid : List ℕ) (back : Vec ℕ Global) → old ≡ [] → is ≡ one_instance → Adds 5 ((vec instance).write is) old mid (Ok tt) → AddsExports es mid back.items (Ok tt) → Ends es (Ok back)
all_added es is old mid back none same first second =
    let one : Adds 5 ((vec instance).write one_instance) old mid (Ok tt) = subst (λ (xs : List Instance). Adds 5 ((vec instance).write xs) old mid (Ok tt)) same first in
    (second.0, second.1, second.2 ∙ ap (λ (z : List ℕ). z ++ exporting_bytes es) (one.1 ∙ ap (λ (z : List ℕ). z ++ section_bytes 5 ((vec instance).write one_instance)) none))

pub leaves_exports : (es : Entries) (old new : List ℕ) (r : Result (Unit {0}) PieceFault) (e : PieceFault) → r ≡ Err e → AddsExports es old new (Err e) → AddsExports es old new r
leaves_exports es old new r e same h = subst (λ (x : Result (Unit {0}) PieceFault). AddsExports es old new x) (sym same) h

pub leaves_ends : (es : Entries) (r : Result (Vec ℕ Global) PieceFault) (e : PieceFault) → r ≡ Err e → Ends es (Err e) → Ends es r
leaves_ends es r e same h = subst (λ (x : Result (Vec ℕ Global) PieceFault). Ends es x) (sym same) h
