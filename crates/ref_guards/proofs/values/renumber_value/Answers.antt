use Rattle.std.proofs.Common.{◌≤◌, ℕ, List, length, ap, sym, ◌∙◌, arith}
use Rattle.wit_types.specs.Plain.{plain}
use Rattle.wit_types.specs.PlainValue.{PlainValue, plain_value}
use Rattle.abi_layout.specs.Handles.{handles}
use Rattle.ref_guards.proofs.NumberLaws.{numbers_agree}
use Rattle.ref_guards.proofs.EnterLemmas.{count_agrees}
use Rattle.ref_guards.proofs.values.renumber_value.Goals as goal

pub renumber-requires : goal.renumber-requires
renumber-requires c = record { room = let same = count_agrees (plain c.args.ty.now) (plain_value c.args.value) in let few = c.requires in omega (arith, same, few) }

pub returns : goal.returns
returns c =
    let same = count_agrees (plain c.args.ty.now) (plain_value c.args.value) in
    let few : length (handles (plain c.args.ty.now) (plain_value c.args.value)) ≤ length c.args.numbers.now = let all = c.requires in omega (arith, same, all) in
    c.renumber.ensures.value ∙ sym (ap (λ (x : PlainValue × List ℕ). x.0) (numbers_agree (plain c.args.ty.now) (plain_value c.args.value) c.args.numbers.now few))
