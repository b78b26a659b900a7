use Rattle.std.proofs.Common.{not, refl, ap, arith}
use Rattle.host_port.specs.Calls.{plain_call}
use Rattle.reference_step.specs.Atoms.{atoms_of, weight}
use Rattle.ref_answers.specs.Versions.{plain_found}
use Rattle.reference_host.proofs.StepLemmas.{ends_as, goes_as, heavy, if_false, if_true, light, ok_map, on_map, small_result}
use Rattle.reference_host.proofs.TypedLemmas.{further, never}
use Rattle.reference_host.proofs.calling.weighed.Goals as goal

pub returns-in-None-clause-reaction : goal.returns-in-None-clause-reaction
returns-in-None-clause-reaction g c =
    let same = ap weight c.requires.noted in
    ends_as _ _ _ _ (if_true _ _ _ (heavy c.args.setting.now.policy.transfer_limit (weight (atoms_of (plain_found c.args.found).function.ty.params (plain_call c.args.call.now).args)) (λ few. c.in-None.ensures (omega (arith, same, few)))))

pub with_room-requires : goal.with_room-requires
with_room-requires g c =
    let same = ap weight c.requires.noted in
    let fits = c.in-Some.ensures.0 in
    let is = c.in-Some.ensures.1 in
    record {
      setting = c.requires.setting;
      holding = c.requires.holding;
      asked = record {
        policy = refl;
        named = c.requires.named;
        typed = c.requires.typed;
        noted = record { noted = c.requires.noted; left = omega (arith, same, fits, is); small = small_result _ c.requires.small.answer };
      };
    }

pub returns-in-Some-clause-reaction : goal.returns-in-Some-clause-reaction
returns-in-Some-clause-reaction g c = ok_map c.with_room.result _ _ (λ a e.
    let same = ap weight c.requires.noted in
    let fits = c.in-Some.ensures.0 in
    goes_as _ _ _ _ _ _ (if_false _ _ _ (light c.args.setting.now.policy.transfer_limit (weight (atoms_of (plain_found c.args.found).function.ty.params (plain_call c.args.call.now).args)) (omega (arith, same, fits)))) e) c.with_room.ensures.reaction

pub returns-in-None-clause-typed : goal.returns-in-None-clause-typed
returns-in-None-clause-typed g c =
    let same = ap weight c.requires.noted in
    never _ _ _ (ap not (heavy c.args.setting.now.policy.transfer_limit (weight (atoms_of (plain_found c.args.found).function.ty.params (plain_call c.args.call.now).args)) (λ few. c.in-None.ensures (omega (arith, same, few)))))

pub returns-in-Some-clause-typed : goal.returns-in-Some-clause-typed
returns-in-Some-clause-typed g c = on_map c.with_room.result _ _ (λ typed. further _ _ _ typed) c.with_room.ensures.typed
