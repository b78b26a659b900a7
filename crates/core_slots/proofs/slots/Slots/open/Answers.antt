use Rattle.std.proofs.Common.{◌≡◌, ◌-◌, ◌∷◌, ◌++◌, ◌∙◌, ap, arith, length, refl}
use Rattle.std.specs.Prelude.{ℕ, List, [], reverse, replicate}
use Rattle.std.proofs.lemmas.List.{reverse-append}
use Rattle.core_slots.specs.declared.slots.Base.{Base}
use Rattle.core_slots.specs.Layout.{stacked}
use Rattle.core_slots.proofs.WordLaws.{open_at}
use Rattle.core_slots.proofs.slots.Slots.open.Goals as goal

pub returns : goal.returns
returns c =
    let ws = c.self.inside.words.items in
    let b : Base = record { locals = c.self.inside.locals; operands = c.self.inside.operands } in
    let bs = reverse c.self.inside.callers.items in
    let words : c.add_zeros.new.words.items ≡ ws ++ replicate c.args.locals 0 = c.in_ok-add_zeros.ensures.added in
    let e : reverse c.push.new.self.items ≡ b ∷ bs = ap reverse c.in_ok-push.ensures.items ∙ reverse-append c.self.inside.callers.items (b ∷ []) in
    let first : c.len.result - c.args.params ≡ length ws - c.args.params = omega arith in
    let top : c.len-self-inside.result ≡ length (ws ++ replicate c.args.locals 0) = (let n = ap length words in omega arith) in
    ap (λ (xs : List ℕ). stacked xs (c.len.result - c.args.params) c.len-self-inside.result (reverse c.push.new.self.items)) words
    ∙ ap (λ (k : ℕ). stacked (ws ++ replicate c.args.locals 0) k c.len-self-inside.result (reverse c.push.new.self.items)) first
    ∙ ap (λ (k : ℕ). stacked (ws ++ replicate c.args.locals 0) (length ws - c.args.params) k (reverse c.push.new.self.items)) top
    ∙ ap (λ (xs : List Base). stacked (ws ++ replicate c.args.locals 0) (length ws - c.args.params) (length (ws ++ replicate c.args.locals 0)) xs) e
    ∙ open_at ws c.self.inside.locals c.self.inside.operands c.args.params c.args.locals b bs _ refl refl c.self.invariant c.self.view_is c.requires
