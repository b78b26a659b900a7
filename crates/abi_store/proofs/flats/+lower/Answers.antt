use Rattle.std.proofs.Common.{◌≡◌, ◌+◌, ◌*◌, ap, subst, arith, length, length-append, Option, [], ◌∷◌, ◌++◌}
use Rattle.std.specs.Prelude.{reverse}
use Rattle.wit_types.specs.declared.types.WitType.{WitType}
use Rattle.wit_types.specs.Plain.{plain, payload_of}
use Rattle.wit_types.specs.PlainValue.{plain_value, values_of, payload_of as value_payload_of}
use Rattle.wit_types.specs.Layout.{flat, flat_cases}
use Rattle.wit_types.specs.Limits.{parts}
use Rattle.abi_layout.specs.Storing.{lower_fields}
use Rattle.abi_store.specs.Parts.{parts_from, cases_in, IsNext}
use Rattle.abi_store.specs.Flows.{chain}
use Rattle.abi_store.specs.Slots.{slots_lowered}
use Rattle.abi_store.proofs.Lowers.{variant_appends, variant_parts, variant_flat, flat_count, payload_small, payload_short, fields_more, fields_stop, next_parts, next_flat}
use Rattle.abi_store.proofs.Only.{short_number}
use Rattle.abi_store.proofs.flats.+lower.Goals as goal

pub lower_parts-loop-value-preserved : goal.lower_parts-loop-value-preserved
lower_parts-loop-value-preserved t c =
    let ps = parts_from c.args.parts.now c.loop-value.next in
    let rest = parts_from c.args.parts.now (c.loop-value.next + 1) in
    let next = subst (λ (o : Option WitType). IsNext ps rest o) c.in-Some-2.is c.in_ok-part.ensures in
    let one = next_parts ps rest next.0 (plain c.in-Some-2.ty) next.1 in
    let wide = next_flat ps rest next.0 (plain c.in-Some-2.ty) next.1 in
    let small = c.loop-value.invariant.small in
    let few = c.loop-value.invariant.few in
    let count = c.loop-value.invariant.count in
    let cut : length c.loop-value.left.items ≡ length (c.pop.new.self.items ++ c.in-Some.value ∷ []) = ap length c.in-Some.ensures.items in
    let grown = length-append c.pop.new.self.items (c.in-Some.value ∷ []) in
    record {
      flats =
          fields_more c.loop-value.slots.items c.lower.new.slots.items ps rest next.0 (plain c.in-Some-2.ty) c.loop-value.left.items c.pop.new.self.items c.in-Some.value
          (chain (slots_lowered c.args.slots.now.items) (lower_fields (parts_from c.args.parts.now 0) (values_of (reverse c.args.values.items)))) c.loop-value.invariant.flats next.1 c.in-Some.ensures.items c.in_ok-lower-in-Some-2.ensures;
      small = omega arith;
      few = omega arith;
      count = omega arith;
    }

pub lower_parts-returns : goal.lower_parts-returns
lower_parts-returns t c =
    let cases = c.in_default.ensures.cases in
    let empty : length c.loop-value.left.items ≡ 0 = omega arith in
    fields_stop c.args.slots.now.items c.loop-value.slots.items (parts_from c.args.parts.now c.loop-value.next) (parts_from c.args.parts.now 0) c.loop-value.left.items c.args.values.items c.loop-value.invariant.flats empty

pub lower_variant-lower_payload-requires : goal.lower_variant-lower_payload-requires
lower_variant-lower_payload-requires t c =
    let now : 3 * parts (plain c.args.ty.now) + 1 ≡ t = c.decreases in
    let kind = c.requires.kind in
    let sizes = variant_parts (plain c.args.ty.now) kind.0 kind.1 kind.2 in
    let wide = variant_flat (plain c.args.ty.now) kind.0 kind.1 kind.2 in
    let part = payload_small (payload_of c.in_ok-payload_ty-in-Some.payload_ty) (cases_in (plain c.args.ty.now)) c.in-Some.number c.in_ok-payload_ty-in-Some.ensures in
    let short = payload_short (payload_of c.in_ok-payload_ty-in-Some.payload_ty) (cases_in (plain c.args.ty.now)) c.in-Some.number c.in_ok-payload_ty-in-Some.ensures in
    let small = c.requires.small in
    let few = c.requires.few in
    (omega arith, (omega arith, omega arith))

pub lower_variant-returns-in_ok-pad-in-Some : goal.lower_variant-returns-in_ok-pad-in-Some
lower_variant-returns-in_ok-pad-in-Some t c =
    let kind = c.requires.kind in
    let wide = variant_flat (plain c.args.ty.now) kind.0 kind.1 kind.2 in
    let count = flat_count c.flatten.result (flat (plain c.args.ty.now)) c.flatten.ensures c.requires.few in
    let len = c.len.ensures in
    let ends : c.len.result + c.flatten.result.count ≡ length c.args.slots.now.items + (length (flat_cases (cases_in (plain c.args.ty.now))) + 1) = omega arith in
    variant_appends c.args.slots.now.items c.push_number.new.slots.items c.lower_payload.new.slots.items c.pad.new.slots.items (cases_in (plain c.args.ty.now)) (plain_value c.args.value) c.in-Some.number
    (c.len.result + c.flatten.result.count) (value_payload_of c.in-Some.payload) (payload_of c.in_ok-payload_ty-in-Some.payload_ty) c.in-Some.ensures.some c.in_ok-push_number-in-Some.ensures.flats c.in_ok-push_number-in-Some.ensures.count
    c.in_ok-payload_ty-in-Some.ensures c.in_ok-lower_payload-in-Some.ensures c.in_ok-pad-in-Some.ensures ends

pub lower-returns-in_default : goal.lower-returns-in_default
lower-returns-in_default t c =
    short_number c.args.slots.now.items c.lower_number.new.slots.items c.lower_number.result (plain_value c.args.value) c.args.ty.now
    c.in_default.not-S64 c.in_default.not-U64 c.in_default.not-Str c.in_default.not-Record c.in_default.not-Tuple c.in_default.not-Variant c.in_default.not-List c.in_default.not-Enum c.in_default.not-Option c.in_default.not-Result
    c.lower_number.ensures
