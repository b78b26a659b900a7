use Rattle.std.proofs.Common.{◌≡◌, ◌∙◌, ◌+◌, ◌<◌, arith, ap, refl, length, drop, get_or}
use Rattle.wit_types.specs.declared.types.Field.{out-Field}
use Rattle.wit_types.specs.Plain.{fields_of, plain}
use Rattle.comp_types.specs.GivenResources.{named_in_parts, named_in_value}
use Rattle.type_table.specs.Tables.{trees}
use Rattle.type_table.proofs.ParamLaws.{keys-count, key-of_field, has-field}
use Rattle.type_relations.proofs.OnceLemmas.{next_is}
use Rattle.type_relations.proofs.SearchLemmas.{going-on, going-all}
use Rattle.type_relations.proofs.SlotLemmas.{drop-all}
use Rattle.type_relations.proofs.nodes.add_params.Goals as goal

pub loop-index-init : goal.loop-index-init
loop-index-init c = λ has h. (refl, h)

pub bounds-keys-index : goal.bounds-keys-index
bounds-keys-index c = omega (arith, c.loop-index-test.true, ap length c.requires, keys-count c.args.params.now)

pub add_keyed-requires : goal.add_keyed-requires
add_keyed-requires c =
    let xs = c.args.params.now in
    let i = c.loop-index.index in
    let x = get_or xs i c.index-params-index.result in
    let is : x ≡ get_or xs i x = ap (get_or xs i) c.index-params-index.is in
    ap (λ ks. get_or ks i 0) c.requires ∙ key-of_field xs i x 0 c.loop-index-test.true is

pub loop-index-preserved : goal.loop-index-preserved
loop-index-preserved c = λ has.
    let types = c.args.types.now in
    let xs = c.args.params.now in
    let i = c.loop-index.index in
    let x = get_or xs i c.index-params-index.result in
    let is : x ≡ get_or xs i x = ap (get_or xs i) c.index-params-index.is in
    let within : i < length xs = c.loop-index-test.true in
    going-on (trees types) c.args.search.now c.loop-index.search c.add_keyed.new.search (named_in_parts (fields_of xs)) (named_in_parts (fields_of (drop i xs)))
    (named_in_value (plain (out-Field x).ty)) (named_in_parts (fields_of (drop (i + 1) xs))) (c.loop-index.invariant has)
    (ap (λ fs. named_in_parts (fields_of fs)) (next_is xs i x within is)) (c.in_ok-add_keyed.ensures (has-field types xs i x within is has))

pub returns : goal.returns
returns c = λ has.
    let xs = c.args.params.now in
    let end : c.loop-index.index ≡ length xs = omega arith in
    going-all (trees c.args.types.now) c.args.search.now c.loop-index.search (named_in_parts (fields_of xs)) (named_in_parts (fields_of (drop c.loop-index.index xs))) (c.loop-index.invariant has)
    (ap (λ n. named_in_parts (fields_of (drop n xs))) end ∙ ap (λ fs. named_in_parts (fields_of fs)) (drop-all xs))
