use Rattle.std.proofs.Common.{◌≡◌, ◌∙◌, length, ◌+◌, ◌*◌, ◌^◌, ◌<◌, ◌∷◌, drop, true, false, ap, sym, refl, rules, arith, add-one}
use Rattle.std.specs.Prelude.{option_map}
use Rattle.std.proofs.Math.Nat.{pow-suc}
use Rattle.std.proofs.lemmas.List.{drop_more, drop_all}
use Rattle.serde_json.specs.View.{items_view}
use Rattle.host_port.specs.Untyped.{flags_from}
use Rattle.host_script.specs.Json.{untyped_items}
use Rattle.host_script.specs.Reads.{begins_with}
use Rattle.host_script.proofs.Flags.{take_flag, pass_flag, none_left}
use Rattle.host_script.proofs.labels.bits_in.Goals as goal
use Rattle.host_script.proofs.labels.bits_in.Goals.{then-is_next, else-is_next}

pub returns-then-read-items : goal.returns-then-read-items
returns-then-read-items c = c.loop-label.invariant.rest ∙ rw (drop_all c.loop-label.label-index c.args.labels.now (omega (arith, c.loop-label-test.false)), none_left c.loop-label.bit c.args.items.now c.loop-label.read c.if-read-items.true) refl

pub loop-label-preserved : goal.loop-label-preserved
loop-label-preserved c =
    let at = c.loop-label in
    let x = c.label-item.result in
    let labels = c.args.labels.now in
    let later = drop (at.label-index + 1) labels in
    let twice : 2 ^ (at.label-index + 1) ≡ 2 ^ at.label-index * 2 = rw add-one (pow-suc 2 at.label-index) in
    let bit = at.invariant.bit in
    let twice_bit : at.bit * 2 ≡ 2 ^ (at.label-index + 1) = omega (arith, twice, bit) in
    let bits = at.invariant.bits in
    let read = at.invariant.read in
    let more : drop at.label-index labels ≡ x ∷ later = drop_more labels at.label-index x c.loop-label-test.true ∙ ap (λ y. y ∷ later) (sym c.label-item.is) in
    elim c.if-is_next.branch [
      | then-is_next w ↦
          let within : at.read < length c.args.items.now = search (rules, c.is_next.ensures.within, w.if-is_next) in
          let set : begins_with x (untyped_items (items_view (drop at.read c.args.items.now))) ≡ true = search (rules, c.is_next.ensures.value, c.as_str.ensures, w.if-is_next) in
          let sum = w.bits-is in
          let next = w.read-is in
          record {
            bit = twice_bit;
            bits = omega (arith, sum, bits);
            few = at.invariant.few;
            read = omega (arith, next, within);
            rest = at.invariant.rest ∙ rw more (take_flag at.bits at.bit x later c.args.items.now at.read set)
                ∙ ap (λ b. option_map (λ n. b + n) (flags_from (at.bit * 2) later (untyped_items (items_view (drop (at.read + 1) c.args.items.now))))) (sym w.bits-is)
                ∙ ap (λ r. option_map (λ n. c.if-is_next.bits + n) (flags_from (at.bit * 2) later (untyped_items (items_view (drop r c.args.items.now))))) (sym w.read-is);
          }
      | else-is_next w ↦
          let unset : begins_with x (untyped_items (items_view (drop at.read c.args.items.now))) ≡ false = search (rules, c.is_next.ensures.value, c.as_str.ensures, w.if-is_next) in
          let sum = w.bits-is in
          let next = w.read-is in
          record {
            bit = twice_bit;
            bits = omega (arith, sum, bits);
            few = at.invariant.few;
            read = omega (arith, next, read);
            rest = at.invariant.rest ∙ rw more (ap (λ o. option_map (λ n. at.bits + n) o) (pass_flag at.bit x later (untyped_items (items_view (drop at.read c.args.items.now))) unset))
                ∙ ap (λ b. option_map (λ n. b + n) (flags_from (at.bit * 2) later (untyped_items (items_view (drop at.read c.args.items.now))))) (sym w.bits-is)
                ∙ ap (λ r. option_map (λ n. c.if-is_next.bits + n) (flags_from (at.bit * 2) later (untyped_items (items_view (drop r c.args.items.now))))) (sym w.read-is);
          }
    ]
