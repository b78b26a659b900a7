use Rattle.std.proofs.Common.{◌≡◌, ℕ, ◌+◌, refl, sym, ap, ◌∙◌, arith}
use Rattle.wit_types.specs.Plain.{plain, plain_result}
use Rattle.reference_step.specs.Rules.{owns, owns_of}
use Rattle.ref_guards.proofs.RoomLemmas.{as_many}
use Rattle.ref_guards.proofs.room.owned_kinds.Goals as goal

nothing_before : (n : ℕ) → 0 + n ≡ n
nothing_before n = omega arith

pub returns-in-Some : goal.returns-in-Some
returns-in-Some c =
    c.note_owned.ensures (λ kind. 0) refl
    ∙ as_many (λ kind. 0 + owns kind (plain c.in-Some.ty)) (λ kind. owns_of kind (plain_result c.args.ty.now)) (λ kind. nothing_before (owns kind (plain c.in-Some.ty)) ∙ ap (λ ty. owns_of kind (plain_result ty)) (sym c.in-Some.is))
