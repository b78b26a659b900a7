-- Of a component that bytes spell, sections of types only define types.
use Rattle.std.proofs.Common.{◌≡◌, ℕ, zero, suc, ◌+◌, ◌-◌, Bool, true, false, eqb, ltb, cond, List, [], ◌∷◌, length, refl, sym, ap, subst, ◌∙◌, arith}
use Rattle.std.specs.Prelude.{◌==◌}
use Rattle.std.specs.List.{AllByRecursion}
use Rattle.std.proofs.lemmas.Bool.{eqb-true}
use Rattle.wasm_format.specs.Format.{Format, choose, lacking, image, vec, sized}
use Rattle.wasm_format.specs.Sections.{SectionsSpell, built}
use Rattle.wasm_format.specs.Until.{UntilSpells}
use Rattle.wasm_ast.specs.declared.component.Span.{Span}
use Rattle.wasm_ast.specs.declared.component.TypeDef.{TypeDef}
use Rattle.wasm_ast.specs.declared.component.TypeDef.TheVariants as defs
use Rattle.wasm_ast.specs.declared.component.TypeItem.{TypeItem}
use Rattle.wasm_ast.specs.declared.component.TypeItem.TheVariants as items
use Rattle.wasm_ast.specs.ComponentItems.{instance, alias, component_export}
use Rattle.comp_grammar.specs.Trees.{Part, Tree, CoreModule, Nested, CoreInstances, Instances, Aliases, Types, Canons, Imports, Exports, Custom, End, More}
use Rattle.comp_grammar.specs.CoreInstances.{core_instance}
use Rattle.comp_grammar.specs.Items.{canon, component_import}
use Rattle.comp_grammar.specs.TypeSections.{definition, declaration, Due, is_none_open, declared, opened, declarations_of, open_after, after_item, type_walk, all_due, type_items}
use Rattle.comp_grammar.specs.Components.{add, custom_in, core_module_in, core_instances_in, instances_in, aliases_in, types_in, canons_in, imports_in, exports_in, custom, placed_module, placed, nested_section, low_section, high_section, section, sections, parts_of, all_sections, component, SpellsComponent}
use Rattle.comp_grammar.proofs.BuiltLaws.{built_is, parts_built}
use Rattle.comp_types.specs.Declarations.{Declaration, Declarations, ATypeDef, AnInstanceType, ATypeAlias, ATypeExport, Done, Then, first_of, behind, defined, grouped}
use Rattle.comp_link.specs.Sections.{IsDefined, AreDefined, DefinesIn, DefinesTypes}

-- ---- a section of types

-- after what the open instance types still declare, types are defined
abbrev Behind : List ℕ → Declarations → Type 0
Behind [] ds = AreDefined ds
Behind (n ∷ open_types) ds = Behind open_types (behind n ds)

-- each instance type that is open declares something yet
abbrev AreOpen : List ℕ → Type 0
AreOpen [] = Unit {0}
AreOpen (zero ∷ open_types) = ⊥
AreOpen (suc n ∷ open_types) = AreOpen open_types

one_fewer : (n : ℕ) (open_types : List ℕ) → declared (suc (suc n) ∷ open_types) ≡ suc n ∷ open_types
one_fewer n open_types = at_test (suc (suc n) == 1) refl
  where
    at_test : (b : Bool) → (suc (suc n) == 1) ≡ b → cond b open_types ((suc (suc n) - 1) ∷ open_types) ≡ suc n ∷ open_types
    at_test true e = absurd (omega (arith, eqb-true (suc (suc n)) 1 e))
    at_test false e = ap (λ k. k ∷ open_types) (let q : suc (suc n) - 1 ≡ suc n = omega arith in q)

one_opened : (n : ℕ) (open_types : List ℕ) → opened (suc n) open_types ≡ suc n ∷ open_types
one_opened n open_types = at_test (suc n == 0) refl
  where
    at_test : (b : Bool) → (suc n == 0) ≡ b → cond b open_types (suc n ∷ open_types) ≡ suc n ∷ open_types
    at_test true e = absurd (omega (arith, eqb-true (suc n) 0 e))
    at_test false e = refl

one_less : (open_types : List ℕ) → AreOpen open_types → AreOpen (declared open_types)
one_less [] h = tt
one_less (zero ∷ open_types) h = absurd h
one_less (suc zero ∷ open_types) h = h
one_less (suc (suc n) ∷ open_types) h = subst AreOpen (sym (one_fewer n open_types)) h

opened_open : (n : ℕ) (open_types : List ℕ) → AreOpen open_types → AreOpen (opened n open_types)
opened_open zero open_types h = h
opened_open (suc n) open_types h = subst AreOpen (sym (one_opened n open_types)) h

-- a declaration of the innermost one
declared_behind : (n : ℕ) (open_types : List ℕ) (d : Declaration) (ds : Declarations) → AreOpen (n ∷ open_types) → Behind (declared (n ∷ open_types)) ds → Behind (n ∷ open_types) (Then d ds)
declared_behind zero open_types d ds h b = absurd h
declared_behind (suc zero) open_types d ds h b = b
declared_behind (suc (suc n)) open_types d ds h b = subst (λ z. Behind z ds) (one_fewer n open_types) b

any_behind : (open_types : List ℕ) (d : Declaration) (ds : Declarations) → IsDefined d → AreOpen open_types → Behind (declared open_types) ds → Behind open_types (Then d ds)
any_behind [] d ds defined' h b = (defined', b)
any_behind (n ∷ open_types) d ds defined' h b = declared_behind n open_types d ds h b

-- what an instance type declares is taken in
taken_behind : (n : ℕ) (open_types : List ℕ) (ds : Declarations) → Behind (opened n open_types) ds → Behind open_types (behind n ds)
taken_behind zero open_types ds b = b
taken_behind (suc n) open_types ds b = subst (λ z. Behind z ds) (one_opened n open_types) b

def_behind : (open_types : List ℕ) (d : TypeDef) (ds : Declarations) → AreOpen open_types → Behind (open_after open_types (items.Define d)) ds → Behind open_types (defined d ds)
def_behind open_types (defs.Instance n) ds h b = any_behind open_types (AnInstanceType (first_of n ds)) (behind n ds) tt h (taken_behind n (declared open_types) ds b)
def_behind open_types (defs.Primitive p) ds h b = any_behind open_types (ATypeDef (defs.Primitive p)) ds tt h b
def_behind open_types (defs.Record fields) ds h b = any_behind open_types (ATypeDef (defs.Record fields)) ds tt h b
def_behind open_types (defs.Variant cases) ds h b = any_behind open_types (ATypeDef (defs.Variant cases)) ds tt h b
def_behind open_types (defs.List item) ds h b = any_behind open_types (ATypeDef (defs.List item)) ds tt h b
def_behind open_types (defs.Tuple types) ds h b = any_behind open_types (ATypeDef (defs.Tuple types)) ds tt h b
def_behind open_types (defs.Flags labels) ds h b = any_behind open_types (ATypeDef (defs.Flags labels)) ds tt h b
def_behind open_types (defs.Enum labels) ds h b = any_behind open_types (ATypeDef (defs.Enum labels)) ds tt h b
def_behind open_types (defs.Option item) ds h b = any_behind open_types (ATypeDef (defs.Option item)) ds tt h b
def_behind open_types (defs.Result ok err) ds h b = any_behind open_types (ATypeDef (defs.Result ok err)) ds tt h b
def_behind open_types (defs.Own i) ds h b = any_behind open_types (ATypeDef (defs.Own i)) ds tt h b
def_behind open_types (defs.Borrow i) ds h b = any_behind open_types (ATypeDef (defs.Borrow i)) ds tt h b
def_behind open_types (defs.Func params result) ds h b = any_behind open_types (ATypeDef (defs.Func params result)) ds tt h b
def_behind open_types (defs.Resource destructor) ds h b = any_behind open_types (ATypeDef (defs.Resource destructor)) ds tt h b

-- outside instance types only definitions stand
item_behind : (open_types : List ℕ) (item : TypeItem) (rest : List TypeItem) (at : ℕ) (text : List ℕ) → AreOpen open_types → (choose (is_none_open open_types) definition declaration).Spells at item text → Behind (open_after open_types item) (grouped rest)
    → Behind open_types (grouped (item ∷ rest))
unfolding definition
item_behind open_types (items.Define d) rest at text h s b = def_behind open_types d (grouped rest) h b
item_behind (n ∷ open_types) (items.Alias a) rest at text h s b = declared_behind n open_types (ATypeAlias a) (grouped rest) h b
item_behind (n ∷ open_types) (items.Export name desc) rest at text h s b = declared_behind n open_types (ATypeExport name desc) (grouped rest) h b
item_behind [] (items.Alias a) rest at text h s b = absurd (let q : items.Alias a ≡ items.Define s.0 = s.1 in cc)
item_behind [] (items.Export name desc) rest at text h s b = absurd (let q : items.Export name desc ≡ items.Define s.0 = s.1 in cc)

items_behind : (items : List TypeItem) (due : Due) (at : ℕ) (text : List ℕ) → AreOpen due.open_types → UntilSpells type_walk due at items text → Behind due.open_types (grouped items)
unfolding type_walk
items_behind [] due at text h s = none_behind due.open_types
  where
    none_behind : (open_types : List ℕ) → Behind open_types Done
    none_behind [] = tt
    none_behind (zero ∷ open_types) = none_behind open_types
    none_behind (suc n ∷ open_types) = none_behind open_types
items_behind (item ∷ rest) due at text h s =
    item_behind due.open_types item rest at s.0 h s.3
    (items_behind rest (after_item due item) (at + length s.0) s.1 (opened_open (declarations_of item) (declared due.open_types) (one_less due.open_types h)) s.4)

types_defined : (at : ℕ) (items : List TypeItem) (text : List ℕ) → type_items.Spells at items text → AreDefined (grouped items)
unfolding type_items
types_defined at items text s = items_behind items (all_due s.0) (at + length s.1) s.2 tt s.4

-- ---- sections

abbrev IsSound : Format Part → Type 0
IsSound F = (at : ℕ) (p : Part) (text : List ℕ) → F.Spells at p text → DefinesIn p

sound_choose : (b : Bool) (F G : Format Part) → IsSound F → IsSound G → IsSound (choose b F G)
sound_choose true F G f g = f
sound_choose false F G f g = g

sound_lacking : (tag : ℕ) → IsSound (lacking tag)
sound_lacking tag at p text s = absurd s

sound_image : {A : Type 0} (make : A → Part) (from : Part → A) (F : Format A) → ((a : A) → DefinesIn (make a)) → IsSound (image make from F)
sound_image make from F f at p text s = subst DefinesIn (sym s.1) (f s.0)

sound_types : IsSound (image Types types_in (sized type_items))
sound_types at p text s = subst DefinesIn (sym s.1) (types_defined (at + length s.2.0) s.0 s.2.1 s.2.3)

sound_low : (b : ℕ) → IsSound (low_section b)
unfolding low_section
sound_low b =
    sound_choose (eqb b 0) _ _ (sound_image Custom custom_in (sized custom) (λ a. tt)) (
    sound_choose (eqb b 1) _ _ (sound_image (λ p. CoreModule p.0 p.1) core_module_in (sized placed_module) (λ a. tt)) (
    sound_choose (eqb b 2) _ _ (sound_image CoreInstances core_instances_in (sized (vec core_instance)) (λ a. tt))
    (sound_lacking b)))

sound_high : (b : ℕ) → IsSound (high_section b)
unfolding high_section
sound_high b =
    sound_choose (eqb b 5) _ _ (sound_image Instances instances_in (sized (vec instance)) (λ a. tt)) (
    sound_choose (eqb b 6) _ _ (sound_image Aliases aliases_in (sized (vec alias)) (λ a. tt)) (
    sound_choose (eqb b 7) _ _ sound_types (
    sound_choose (eqb b 8) _ _ (sound_image Canons canons_in (sized (vec canon)) (λ a. tt)) (
    sound_choose (eqb b 10) _ _ (sound_image Imports imports_in (sized (vec component_import)) (λ a. tt)) (
    sound_choose (eqb b 11) _ _ (sound_image Exports exports_in (sized (vec component_export)) (λ a. tt))
    (sound_lacking b))))))

-- what the format spells defines types
abbrev AreSound : Format Tree → Type 0
AreSound F = (at : ℕ) (u : Tree) (text : List ℕ) → F.Spells at u text → DefinesTypes u

sound_nested : (F : Format Tree) → AreSound F → IsSound (nested_section F)
unfolding nested_section placed
sound_nested F f at p text s =
    let w = s.2 in
    let here : ℕ = at + length w.0 in
    let span : Span = record { from = here; to = here + length w.1 } in
    let holds : p ≡ Nested span w.3.0 = s.1 ∙ ap (λ (x : Span × Tree). Nested x.0 x.1) w.3.1 in
    subst DefinesIn (sym holds) (f here w.3.0 w.1 w.3.2)

sound_section : (F : Format Tree) → AreSound F → IsSound (section F)
unfolding section
sound_section F f at p [] s = absurd s
sound_section F f at p (b ∷ text) s =
    sound_choose (eqb b 4) (nested_section F) (choose (ltb b 5) (low_section b) (high_section b)) (sound_nested F f) (sound_choose (ltb b 5) (low_section b) (high_section b) (sound_low b) (sound_high b)) (at + 1) p text s

abbrev AllSound : List Part → Type 0
AllSound parts = AllByRecursion DefinesIn parts

parts_sound : (F : Format Tree) → AreSound F → (parts : List Part) (t : Tree) (at : ℕ) (text : List ℕ) → SectionsSpell (sections F) t at parts text → AllSound parts
unfolding sections
parts_sound F f [] t at text w = tt
parts_sound F f (p ∷ parts) t at text w = (sound_section F f at p w.0 w.2, parts_sound F f parts (add t p) (at + length w.0) w.1 w.3)

of_parts : (t : Tree) → AllSound (parts_of t) → DefinesTypes t
of_parts End h = tt
of_parts (More part rest) h = (h.0, of_parts rest h.1)

-- the sections of what is spelled
same_sections : (F : Format Tree) (t u : Tree) (parts : List Part) → t ≡ u → built (sections F) End parts ≡ u → parts_of t ≡ parts
same_sections F t u parts e h = ap parts_of (e ∙ sym h ∙ built_is F End parts) ∙ parts_built parts

sound : (depth : ℕ) → AreSound (component depth)
unfolding component all_sections
sound zero at t text s = absurd s
sound (suc depth) at t text s =
    let pair = s.2 in
    let inner : Format Tree = component depth in
    let each = parts_sound inner (sound depth) pair.3.0 End (at + length pair.0) pair.1 pair.3.1 in
    let same : parts_of t ≡ pair.3.0 = same_sections inner t s.0.1 pair.3.0 s.1 pair.3.2 in
    of_parts t (subst AllSound (sym same) each)

pub spelled_define : (c : Tree) (bytes : List ℕ) → SpellsComponent c bytes → DefinesTypes c
spelled_define c bytes s = sound s.0 0 c bytes s.1
