use Rattle.std.proofs.Common.{◌∙◌, ap, refl, sym, true, false}
use Rattle.std.specs.Prelude.{nat_le, ◌&&◌}
use Rattle.comp_types.specs.Measures.{kind_depth, kind_parts}
use Rattle.comp_types.specs.Rules.{def_stands}
use Rattle.comp_defining.proofs.TypeLemmas.{answered}
use Rattle.comp_defining.proofs.faults.type_fault.Goals as goal

pub returns-then-not-def_stands : goal.returns-then-not-def_stands
returns-then-not-def_stands c = λ around s h k.
    answered around s c.args.def.now false _ _ _ _ _ _ _
    (c.if-not-def_stands.ensures ∙ ap (λ l. def_stands l c.args.def.now) (c.lengths.ensures s h)) refl refl refl refl refl refl refl

pub returns-then-not-filled : goal.returns-then-not-filled
returns-then-not-filled c = λ around s h k.
    answered around s c.args.def.now true false _ _ _ _ _ _
    (c.if-not-def_stands.ensures ∙ ap (λ l. def_stands l c.args.def.now) (c.lengths.ensures s h)) (sym c.if-not-filled.true ∙ c.in_ok-filled.ensures) refl refl refl refl refl refl

pub returns-then-not-is_small : goal.returns-then-not-is_small
returns-then-not-is_small c = λ around s h k.
    answered around s c.args.def.now true true false _ _ _ _ _
    (c.if-not-def_stands.ensures ∙ ap (λ l. def_stands l c.args.def.now) (c.lengths.ensures s h)) (sym c.if-not-filled.false ∙ c.in_ok-filled.ensures) (c.if-not-is_small.ensures ∙ ap (λ q. nat_le (kind_depth q) 100 && nat_le (kind_parts q) 1000000) k) refl refl refl refl refl

pub returns-then-not-def_has_values : goal.returns-then-not-def_has_values
returns-then-not-def_has_values c = λ around s h k.
    answered around s c.args.def.now true true true false _ _ _ _
    (c.if-not-def_stands.ensures ∙ ap (λ l. def_stands l c.args.def.now) (c.lengths.ensures s h)) (sym c.if-not-filled.false ∙ c.in_ok-filled.ensures) (c.if-not-is_small.ensures ∙ ap (λ q. nat_le (kind_depth q) 100 && nat_le (kind_parts q) 1000000) k) (c.if-not-def_has_values.ensures s h) refl refl refl refl

pub returns-then-not-resources_are_due : goal.returns-then-not-resources_are_due
returns-then-not-resources_are_due c = λ around s h k.
    answered around s c.args.def.now true true true true false _ _ _
    (c.if-not-def_stands.ensures ∙ ap (λ l. def_stands l c.args.def.now) (c.lengths.ensures s h)) (sym c.if-not-filled.false ∙ c.in_ok-filled.ensures) (c.if-not-is_small.ensures ∙ ap (λ q. nat_le (kind_depth q) 100 && nat_le (kind_parts q) 1000000) k) (c.if-not-def_has_values.ensures s h) (c.if-not-resources_are_due.ensures s h) refl refl refl

pub returns-then-not-sound : goal.returns-then-not-sound
returns-then-not-sound c = λ around s h k.
    answered around s c.args.def.now true true true true true false _ _
    (c.if-not-def_stands.ensures ∙ ap (λ l. def_stands l c.args.def.now) (c.lengths.ensures s h)) (sym c.if-not-filled.false ∙ c.in_ok-filled.ensures) (c.if-not-is_small.ensures ∙ ap (λ q. nat_le (kind_depth q) 100 && nat_le (kind_parts q) 1000000) k) (c.if-not-def_has_values.ensures s h) (c.if-not-resources_are_due.ensures s h) (sym c.if-not-sound.true ∙ c.in_ok-sound.ensures s h) refl refl

pub returns-then-not-resources_are_sound : goal.returns-then-not-resources_are_sound
returns-then-not-resources_are_sound c = λ around s h k.
    answered around s c.args.def.now true true true true true true false _
    (c.if-not-def_stands.ensures ∙ ap (λ l. def_stands l c.args.def.now) (c.lengths.ensures s h)) (sym c.if-not-filled.false ∙ c.in_ok-filled.ensures) (c.if-not-is_small.ensures ∙ ap (λ q. nat_le (kind_depth q) 100 && nat_le (kind_parts q) 1000000) k) (c.if-not-def_has_values.ensures s h) (c.if-not-resources_are_due.ensures s h) (sym c.if-not-sound.false ∙ c.in_ok-sound.ensures s h) (c.if-not-resources_are_sound.ensures s h) refl

pub returns-then-not-def_labels_are_legal : goal.returns-then-not-def_labels_are_legal
returns-then-not-def_labels_are_legal c = λ around s h k.
    answered around s c.args.def.now true true true true true true true false
    (c.if-not-def_stands.ensures ∙ ap (λ l. def_stands l c.args.def.now) (c.lengths.ensures s h)) (sym c.if-not-filled.false ∙ c.in_ok-filled.ensures) (c.if-not-is_small.ensures ∙ ap (λ q. nat_le (kind_depth q) 100 && nat_le (kind_parts q) 1000000) k) (c.if-not-def_has_values.ensures s h) (c.if-not-resources_are_due.ensures s h) (sym c.if-not-sound.false ∙ c.in_ok-sound.ensures s h) (c.if-not-resources_are_sound.ensures s h) c.if-not-def_labels_are_legal.ensures

pub returns : goal.returns
returns c = λ around s h k.
    answered around s c.args.def.now true true true true true true true true
    (c.if-not-def_stands.ensures ∙ ap (λ l. def_stands l c.args.def.now) (c.lengths.ensures s h)) (sym c.if-not-filled.false ∙ c.in_ok-filled.ensures) (c.if-not-is_small.ensures ∙ ap (λ q. nat_le (kind_depth q) 100 && nat_le (kind_parts q) 1000000) k) (c.if-not-def_has_values.ensures s h) (c.if-not-resources_are_due.ensures s h) (sym c.if-not-sound.false ∙ c.in_ok-sound.ensures s h) (c.if-not-resources_are_sound.ensures s h) c.if-not-def_labels_are_legal.ensures
