use Rattle.std.proofs.Common.{rules, ◌-◌, List, length, map, Ok, Err, ap, ◌∙◌}
use Rattle.std.specs.Option.{option_map}
use Rattle.wasm_ast.specs.declared.module.Export.{Export}
use Rattle.core_store.specs.declared.value.CoreSpaces.{CoreSpaces}
use Rattle.core_store.specs.State.{State}
use Rattle.core_instance.specs.Spaces.{named_extern, place_at, places_of}
use Rattle.core_instance.specs.Instantiation.{apply_segments}
use Rattle.core_instance.proofs.ExportLemmas.{done_grew, only_grew, done_gives}
use Rattle.core_instance.proofs.FineLemmas.{stays_fine, done_fine}
use Rattle.core_instance.proofs.ValidLemmas.{valid_closes}
use Rattle.core_instance.proofs.WholeLemmas.{elements_keep, tables_in_store, memories_in_store, segments_in_store, segment_places, elements_due, segments_due, whole, stopped, answers_err, answers_as, instance_is}
use Rattle.core_instance.proofs.instance.instantiate.Goals as goal

pub allocate-requires-clause-closed : goal.allocate-requires-clause-closed
allocate-requires-clause-closed c = valid_closes c.args.core.now c.requires.valid

pub apply_elements-requires-clause-tables : goal.apply_elements-requires-clause-tables
apply_elements-requires-clause-tables c =
    tables_in_store c.args.store.now c.args.core.now c.args.imports.now c.in_ok-places.field-0.places c.allocate.new.store c.requires.imports c.in_ok-places.ensures.places c.in_ok-places.ensures.store

pub returns-in_err-apply_elements-clause-answers : goal.returns-in_err-apply_elements-clause-answers
returns-in_err-apply_elements-clause-answers c =
    let s = c.args.store.now in
    let m = c.args.core.now in
    let imports = c.args.imports.now in
    let due = elements_due s m imports c.in_ok-places.field-0.places c.in_ok-places.field-0.names c.allocate.new.store c.as_slice-2.result.now (Err c.apply_elements.new.store) c.in_ok-places.ensures.places c.in_ok-places.ensures.names c.in_ok-places.ensures.store c.as_slice-2.ensures c.in_err-apply_elements.ensures in
    answers_err s m imports c.apply_elements.new.store c.from_residual-in_err-apply_elements.result c.from_residual-in_err-apply_elements.ensures.0 (stopped s m imports c.apply_elements.new.store due)

pub apply_segments-requires-clause-held : goal.apply_segments-requires-clause-held
apply_segments-requires-clause-held c =
    let kept = (elements_keep c.in_ok-places.field-0.places c.in_ok-places.field-0.names c.allocate.new.store c.apply_elements.new.store (length c.allocate.new.store.elements - length c.as_slice-2.result.now) c.as_slice-2.result.now c.in_ok-apply_elements.ensures).0 ∙ ap (λ (x : State). x.segments) c.in_ok-places.ensures.store in
    segments_in_store c.args.store.now c.args.core.now c.args.imports.now c.apply_elements.new.store c.as_slice-3.result.now kept c.as_slice-3.ensures

pub apply_segments-requires-clause-places : goal.apply_segments-requires-clause-places
apply_segments-requires-clause-places c =
    let kept = (elements_keep c.in_ok-places.field-0.places c.in_ok-places.field-0.names c.allocate.new.store c.apply_elements.new.store (length c.allocate.new.store.elements - length c.as_slice-2.result.now) c.as_slice-2.result.now c.in_ok-apply_elements.ensures).0 ∙ ap (λ (x : State). x.segments) c.in_ok-places.ensures.store in
    segment_places c.args.store.now c.args.core.now c.args.imports.now c.in_ok-places.field-0.places c.apply_elements.new.store c.as_slice-3.result.now c.in_ok-places.ensures.places kept c.as_slice-3.ensures

pub apply_segments-requires-clause-memories : goal.apply_segments-requires-clause-memories
apply_segments-requires-clause-memories c =
    let kept = (elements_keep c.in_ok-places.field-0.places c.in_ok-places.field-0.names c.allocate.new.store c.apply_elements.new.store (length c.allocate.new.store.elements - length c.as_slice-2.result.now) c.as_slice-2.result.now c.in_ok-apply_elements.ensures).1 ∙ ap (λ (x : State). x.memories) c.in_ok-places.ensures.store in
    memories_in_store c.args.store.now c.args.core.now c.args.imports.now c.in_ok-places.field-0.places c.apply_elements.new.store c.requires.imports c.in_ok-places.ensures.places kept

pub returns-in_err-apply_segments-clause-answers : goal.returns-in_err-apply_segments-clause-answers
returns-in_err-apply_segments-clause-answers c =
    let s = c.args.store.now in
    let m = c.args.core.now in
    let imports = c.args.imports.now in
    let first = elements_due s m imports c.in_ok-places.field-0.places c.in_ok-places.field-0.names c.allocate.new.store c.as_slice-2.result.now (Ok c.apply_elements.new.store) c.in_ok-places.ensures.places c.in_ok-places.ensures.names c.in_ok-places.ensures.store c.as_slice-2.ensures c.in_ok-apply_elements.ensures in
    let kept = (elements_keep c.in_ok-places.field-0.places c.in_ok-places.field-0.names c.allocate.new.store c.apply_elements.new.store (length c.allocate.new.store.elements - length c.as_slice-2.result.now) c.as_slice-2.result.now c.in_ok-apply_elements.ensures).0 ∙ ap (λ (x : State). x.segments) c.in_ok-places.ensures.store in
    answers_as s m imports (apply_segments c.in_ok-places.field-0.places c.in_ok-places.field-0.names c.apply_elements.new.store (length c.apply_elements.new.store.segments - length c.as_slice-3.result.now) c.as_slice-3.result.now) c.apply_segments.new.store c.from_residual-in_err-apply_segments.result c.in_err-apply_segments.field-0.0 (search (rules, c.from_residual-in_err-apply_segments.ensures)) c.in_err-apply_segments.ensures
    (λ e. whole s m imports c.apply_elements.new.store (Err c.apply_segments.new.store) first (segments_due s m imports c.in_ok-places.field-0.places c.in_ok-places.field-0.names c.apply_elements.new.store c.as_slice-3.result.now (Err c.apply_segments.new.store) c.in_ok-places.ensures.places c.in_ok-places.ensures.names kept c.as_slice-3.ensures e))

pub returns-clause-answers : goal.returns-clause-answers
returns-clause-answers c =
    let s = c.args.store.now in
    let m = c.args.core.now in
    let imports = c.args.imports.now in
    let first = elements_due s m imports c.in_ok-places.field-0.places c.in_ok-places.field-0.names c.allocate.new.store c.as_slice-2.result.now (Ok c.apply_elements.new.store) c.in_ok-places.ensures.places c.in_ok-places.ensures.names c.in_ok-places.ensures.store c.as_slice-2.ensures c.in_ok-apply_elements.ensures in
    let kept = (elements_keep c.in_ok-places.field-0.places c.in_ok-places.field-0.names c.allocate.new.store c.apply_elements.new.store (length c.allocate.new.store.elements - length c.as_slice-2.result.now) c.as_slice-2.result.now c.in_ok-apply_elements.ensures).0 ∙ ap (λ (x : State). x.segments) c.in_ok-places.ensures.store in
    let last = segments_due s m imports c.in_ok-places.field-0.places c.in_ok-places.field-0.names c.apply_elements.new.store c.as_slice-3.result.now (Ok c.apply_segments.new.store) c.in_ok-places.ensures.places c.in_ok-places.ensures.names kept c.as_slice-3.ensures c.in_ok-apply_segments.ensures in
    let exports = c.in_ok-exports.ensures ∙ (ap (λ (v : CoreSpaces). map (named_extern v) c.as_slice.result.now) c.in_ok-places.ensures.places ∙ ap (λ (es : List Export). map (named_extern (places_of s m imports)) es) c.as_slice.ensures) in
    let start = c.start_of-start.ensures ∙ ap (λ (v : CoreSpaces). option_map (λ n. place_at v.functions n) m.start) c.in_ok-places.ensures.places in
    (whole s m imports c.apply_elements.new.store (Ok c.apply_segments.new.store) first last, instance_is c.instances-number.result _ c.in_ok-exports.exports _ c.start_of-start.result _ c.instances-number.ensures exports start)

pub returns-in_err-apply_elements-clause-fine : goal.returns-in_err-apply_elements-clause-fine
returns-in_err-apply_elements-clause-fine c = stays_fine _ _ _ _ _ c.requires.valid c.requires.imports (returns-in_err-apply_elements-clause-answers c)

pub returns-in_err-apply_segments-clause-fine : goal.returns-in_err-apply_segments-clause-fine
returns-in_err-apply_segments-clause-fine c = stays_fine _ _ _ _ _ c.requires.valid c.requires.imports (returns-in_err-apply_segments-clause-answers c)

pub returns-clause-fine : goal.returns-clause-fine
returns-clause-fine c = done_fine c.args.store.now c.args.core.now c.args.imports.now c.apply_segments.new.store c.requires.valid c.requires.imports (returns-clause-answers c).0

pub returns-in_err-apply_elements-clause-grew : goal.returns-in_err-apply_elements-clause-grew
returns-in_err-apply_elements-clause-grew c = only_grew c.args.store.now c.args.core.now c.args.imports.now _ _ (returns-in_err-apply_elements-clause-answers c)

pub returns-in_err-apply_segments-clause-grew : goal.returns-in_err-apply_segments-clause-grew
returns-in_err-apply_segments-clause-grew c = only_grew c.args.store.now c.args.core.now c.args.imports.now _ _ (returns-in_err-apply_segments-clause-answers c)

pub returns-clause-grew : goal.returns-clause-grew
returns-clause-grew c = done_grew c.args.store.now c.args.core.now c.args.imports.now c.apply_segments.new.store (returns-clause-answers c).0

pub returns-clause-exports : goal.returns-clause-exports
returns-clause-exports c =
    done_gives c.args.store.now c.args.core.now c.args.imports.now c.apply_segments.new.store _ c.requires.valid c.requires.imports (returns-clause-answers c).0 (returns-clause-answers c).1
