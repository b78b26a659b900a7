-- The format of a section of types is exact.
use Rattle.std.proofs.Common.{◌≡◌, ◌+◌, ◌-◌, ◌&&◌, ◌==◌, cond, ℕ, zero, suc, Bool, true, false, List, [], ◌∷◌, ◌++◌, length, Ok, Err, refl, sym, ap, subst, ◌∙◌, append_assoc, arith}
use Rattle.std.proofs.lemmas.Bool.{eqb-true}
use Rattle.std.proofs.lemmas.List.{length-append}
use Rattle.virt_base.specs.Place.{Place}
use Rattle.wasm_format.specs.declared.stop.Stop.TheVariants.{Unsupported}
use Rattle.wasm_format.specs.Format.{Format, choose, u32_format}
use Rattle.wasm_format.specs.Until.{UntilSpells, until}
use Rattle.wasm_format.proofs.Laws.{IsExact, Stands, Takes-then, before, after, bind_ok, u32_fits, exact_choose, exact_lacking, exact_tagged, exact_value, exact_both, exact_image, exact_behind, exact_u32, exact_vec, exact_name}
use Rattle.wasm_format.proofs.SectionLaws.{AreExact}
use Rattle.wasm_format.proofs.UntilLaws.{exact_until}
use Rattle.wasm_ast.specs.declared.component.TypeItem.{TypeItem}
use Rattle.wasm_ast.proofs.ComponentGrammar.{exact_extern_name, exact_extern_desc}
use Rattle.comp_grammar.specs.Types.{type_def}
use Rattle.comp_grammar.specs.TypeSections.{type_alias, definition, declaration, Due, is_none_open, after_item, type_walk, all_due, own_types, led_by, type_items}
use Rattle.comp_grammar.proofs.TypeLaws.{exact_type_def}

ruleset exact = (exact_choose, exact_lacking, exact_tagged, exact_value, exact_both, exact_image, exact_behind, exact_u32, exact_vec, exact_name)

pub exact_type_alias : IsExact type_alias
unfolding type_alias
exact_type_alias = search exact depth 14

pub exact_definition : IsExact definition
unfolding definition
exact_definition = search (exact, exact_type_def) depth 4

pub exact_declaration : IsExact declaration
unfolding declaration
exact_declaration = search (exact, exact_type_def, exact_type_alias, exact_extern_name, exact_extern_desc) depth 14

led_found : {A : Type 0} (count : A → ℕ) (form : ℕ → Format A) → ((n : ℕ) → IsExact (form n)) → (p : Place) (c : A × Place) → (led_by count form).read p ≡ Ok c → Stands (led_by count form) p c
led_found {A} count form f p c e =
    let n = bind_ok (u32_format.read p) (λ n. (form n.0).read n.1) c e in
    let s = exact_u32.found p n.0 n.1 in
    let t = (f n.0.0).found n.0.1 c n.2 in
    (s.0 ++ t.0, (n.0.0, s.0, t.0, s.1, subst (λ (k : ℕ). (form n.0.0).Spells k c.0 t.0) s.2.moved t.1, refl {a = s.0 ++ t.0}), Takes-then s.0 t.0 p n.0.1 c.1 s.2 t.2)

led_again : {A : Type 0} (count : A → ℕ) (form : ℕ → Format A) → ((n : ℕ) → IsExact (form n)) → (a : A) (text : List ℕ) (at : ℕ) (more : List ℕ) → (led_by count form).Spells at a text → (led_by count form).read (before at text more) ≡ Ok (a, after at text more)
led_again {A} count form f a text at more s =
    let same : before at text more ≡ before at s.1 (s.2 ++ more) = ap (λ (z : List ℕ). record { at = at; rest = z }) (ap (λ (z : List ℕ). z ++ more) s.5 ∙ append_assoc s.1 s.2 more) in
    let far : at + length s.1 + length s.2 ≡ at + length text = omega (arith, ap length s.5, length-append s.1 s.2) in
    rw (same, exact_u32.again s.0 s.1 at (s.2 ++ more) s.3, (f s.0).again a s.2 (at + length s.1) more s.4) (ap (λ (n : ℕ). Ok (a, record { at = n; rest = more })) far)

pub exact_led_by : {A : Type 0} (count : A → ℕ) (form : ℕ → Format A) → ((n : ℕ) → IsExact (form n)) → IsExact (led_by count form)
exact_led_by count form f = record {
  found = led_found count form f;
  again = led_again count form f;
  written = λ a at h.
      let x = u32_format.write (count a) in
      (count a, x, (form (count a)).write a, exact_u32.written (count a) at (u32_fits (count a) h.0), (f (count a)).written a (at + length x) h.1, refl);
}

definition_filled : (at : ℕ) (item : TypeItem) → definition.Spells at item [] → ⊥
unfolding definition type_def
definition_filled at item h = h.2

declaration_filled : (at : ℕ) (item : TypeItem) → declaration.Spells at item [] → ⊥
unfolding declaration
declaration_filled at item h = h

definition_no_tag : (at a byte : ℕ) → definition.read (record { at = at; rest = [] }) ≡ Err (Unsupported a byte) → ⊥
unfolding definition type_def
definition_no_tag at a byte e = cc

declaration_no_tag : (at a byte : ℕ) → declaration.read (record { at = at; rest = [] }) ≡ Err (Unsupported a byte) → ⊥
unfolding declaration
declaration_no_tag at a byte e = cc

filled : (b : Bool) (at : ℕ) (item : TypeItem) → (choose b definition declaration).Spells at item [] → ⊥
filled true at item h = definition_filled at item h
filled false at item h = declaration_filled at item h

no_tag : (b : Bool) (at a byte : ℕ) → (choose b definition declaration).read (record { at = at; rest = [] }) ≡ Err (Unsupported a byte) → ⊥
no_tag true at a byte e = definition_no_tag at a byte e
no_tag false at a byte e = declaration_no_tag at a byte e

pub exact_type_walk : AreExact type_walk
unfolding type_walk
exact_type_walk = record {
  exact = λ s. exact_choose (is_none_open s.open_types) definition declaration exact_definition exact_declaration;
  nonempty = λ s at item h. filled (is_none_open s.open_types) at item h;
  no_tag = λ s at a byte e. no_tag (is_none_open s.open_types) at a byte e;
}

pub exact_type_items : IsExact type_items
unfolding type_items
exact_type_items = exact_led_by (own_types []) (λ types. until type_walk (all_due types)) (λ n. exact_until type_walk (all_due n) exact_type_walk)

-- ---- the number of definitions is that of the list

both_true : (a b : Bool) → (a && b) ≡ true → a ≡ true
both_true true b e = refl
both_true false b e = e

and_true : (a : Bool) → (a && true) ≡ false → a ≡ false
and_true true e = e
and_true false e = refl

types_left : (n : ℕ) (none : Bool) → ((n == 0) && none) ≡ false → cond none 1 0 + cond none (n - 1) n ≡ n
types_left zero true e = absurd cc
types_left (suc n) true e = omega arith
types_left n false e = omega arith

pub own_types_are : (items : List TypeItem) (s : Due) (at : ℕ) (text : List ℕ) → UntilSpells type_walk s at items text → own_types s.open_types items ≡ s.types
unfolding type_walk
own_types_are [] s at text h = sym (eqb-true s.types 0 (both_true (s.types == 0) (is_none_open s.open_types) h.0))
own_types_are (item ∷ items) s at text h =
    ap (λ (n : ℕ). cond (is_none_open s.open_types) 1 0 + n) (own_types_are items (after_item s item) (at + length h.0) h.1 h.4)
    ∙ types_left s.types (is_none_open s.open_types) h.2
