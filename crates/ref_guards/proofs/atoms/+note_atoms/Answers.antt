use Rattle.std.proofs.Common.{◌≡◌, ◌++◌, List, [], length, rules, arith, sym, ap, subst, ◌∙◌}
use Rattle.std.specs.Prelude.{OnOk}
use Rattle.std.proofs.lemmas.Grind.{common_steps}
use Rattle.std.proofs.lemmas.List.{append-nil}
use Rattle.wit_types.specs.declared.types.WitType.{WitType}
use Rattle.wit_types.specs.Plain.{AsEnum, Plain, plain, cases_of}
use Rattle.wit_types.specs.PlainValue.{PlainValue, plain_value, plain_values, values_of}
use Rattle.wit_types.proofs.PlainLemmas.{plain-Enum}
use Rattle.wit_types.proofs.ValueLemmas.{plain_values-Each}
use Rattle.reference_step.specs.Atoms.{Atom, atoms, atoms_at, variant_atoms}
use Rattle.ref_guards.specs.Noted.{shown_all, items_atoms}
use Rattle.wit_types.specs.declared.types.WitType.TheFolds.{the_lemmas}
use Rattle.abi_layout.proofs.LayoutLemmas.{few-Record, few-Tuple, few-Variant, few-Option, few-Result}
use Rattle.ref_guards.proofs.AtomLemmas.{enum_atoms, noted_list, few_list, few_within, case_there, case_past, no_more_fields, no_more_types}
use Rattle.ref_guards.proofs.atoms.+note_atoms.Goals as goal

pub note_atoms-note_record-requires : goal.note_atoms-note_record-requires
note_atoms-note_record-requires t c = (search (rules, the_lemmas), few-Record _ c.in-Record.fields _ _ _ c.in-Record.is c.deref.ensures c.deref-in-Record.ensures.value c.requires)

pub note_atoms-note_tuple-requires : goal.note_atoms-note_tuple-requires
note_atoms-note_tuple-requires t c = (search (rules, the_lemmas), few-Tuple _ c.in-Tuple.types _ _ _ c.in-Tuple.is c.deref-in-Tuple.ensures c.deref-in-Tuple-2.ensures.value c.requires)

pub note_atoms-note_variant-requires : goal.note_atoms-note_variant-requires
note_atoms-note_variant-requires t c = (search (rules, the_lemmas), few-Variant _ c.in-Variant.cases _ _ _ c.in-Variant.is c.deref-in-Variant.ensures c.deref-in-Variant-2.ensures.value c.requires)

pub note_atoms-note_list-requires : goal.note_atoms-note_list-requires
note_atoms-note_list-requires t c = (search (rules, the_lemmas), rw c.deref-in-List.ensures (few_list _ c.in-List.item _ c.in-List.is c.requires))

pub note_atoms-note_option-requires : goal.note_atoms-note_option-requires
note_atoms-note_option-requires t c = (search (rules, the_lemmas), rw c.deref-in-Option.ensures (few-Option _ c.in-Option.some _ c.in-Option.is c.requires))

pub note_fields_each-returns : goal.note_fields_each-returns
note_fields_each-returns t c = no_more_fields _ _ _ c.loop-i.i _ (λ a b. omega (arith, a, b, c.loop-i-test.false, c.min-count.ensures)) c.loop-i.invariant.noted

pub note_types_each-returns : goal.note_types_each-returns
note_types_each-returns t c = no_more_types _ _ _ c.loop-i.i _ (λ a b. omega (arith, a, b, c.loop-i-test.false, c.min-count.ensures)) c.loop-i.invariant.noted

pub note_atoms-note_payload-requires : goal.note_atoms-note_payload-requires
note_atoms-note_payload-requires t c = (search (rules, the_lemmas), (few-Result _ _ _ _ c.in-Result.is c.requires).0)

pub note_atoms-note_payload-requires-then-number-eq1 : goal.note_atoms-note_payload-requires-then-number-eq1
note_atoms-note_payload-requires-then-number-eq1 t c = (search (rules, the_lemmas), (few-Result _ _ _ _ c.in-Result.is c.requires).1)

pub note_atoms-returns-in-Enum : goal.note_atoms-returns-in-Enum
note_atoms-returns-in-Enum t c =
    let v : PlainValue = plain_value c.args.value.now in
    let none : atoms (plain c.args.ty.now) v ≡ [] = ap (λ (ty : WitType). atoms (plain ty) v) c.in-Enum.is ∙ ap (λ (p : Plain). atoms p v) (plain-Enum _) ∙ enum_atoms AsEnum _ v in
    sym (append-nil (shown_all c.args.noted.now.items)) ∙ ap (λ each. shown_all c.args.noted.now.items ++ each) (sym none)

pub note_variant-note_payload-requires : goal.note_variant-note_payload-requires
note_variant-note_payload-requires t c = (search (rules, the_lemmas), few_within _ _ _ _ c.if-number-cases.true c.requires)

pub note_variant-returns-then-number-cases : goal.note_variant-returns-then-number-cases
note_variant-returns-then-number-cases t c =
    let chosen = ap (variant_atoms (λ n x. atoms_at (cases_of c.args.cases.now) n x)) c.in-Some.ensures.some ∙ case_there _ _ _ _ c.if-number-cases.true in
    subst (λ (each : List Atom). OnOk c.note_payload.result (shown_all c.note_payload.new.noted.items ≡ shown_all c.args.noted.now.items ++ each)) (sym chosen) c.note_payload.ensures

pub note_variant-returns-else-number-cases : goal.note_variant-returns-else-number-cases
note_variant-returns-else-number-cases t c =
    let none = ap (variant_atoms (λ n x. atoms_at (cases_of c.args.cases.now) n x)) c.in-Some.ensures.some ∙ case_past _ _ _ c.if-number-cases.false in
    sym (append-nil (shown_all c.args.noted.now.items)) ∙ ap (λ each. shown_all c.args.noted.now.items ++ each) (sym none)

pub note_items-returns-in_ok-note_each-in-Each : goal.note_items-returns-in_ok-note_each-in-Each
note_items-returns-in_ok-note_each-in-Each t c =
    let same : plain_values c.args.values.now ≡ values_of c.deref.result.now = ap plain_values c.in-Each.is ∙ plain_values-Each _ ∙ ap values_of (sym c.deref.ensures.value) in
    let many : c.len.result ≡ length c.deref.result.now = grind (arith, common_steps, c.len.ensures, c.deref.ensures.len, c.deref.ensures.value) in
    noted_list _ _ _ _ _ _ _ c.in_ok-note-in-Each.ensures c.in_ok-note_each-in-Each.ensures many c.size.ensures.value
    ∙ ap (λ vs. shown_all c.args.noted.now.items ++ items_atoms (plain c.args.item.now) vs) (sym same)
