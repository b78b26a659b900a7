use Rattle.std.proofs.Common.{◌≡◌, ◌∙◌, refl, sym, subst, ◌++◌, ℕ, List}
use Rattle.comp_grammar.specs.Trees.{plain}
use Rattle.comp_write.specs.Copying.{SpellsBare}
use Rattle.plug_compose.specs.Plugged.{HoldsBoth}
use Rattle.plug_compose.proofs.PlugLaws.{is_plugged}
use Rattle.plug_compose.proofs.plugging.plug.Goals as goal

pub put_together-requires-clause-first : goal.put_together-requires-clause-first
put_together-requires-clause-first c = subst (SpellsBare 0 (plain c.args.first.component)) (sym c.as_slice-4.ensures.value) c.requires.first

pub put_together-requires-clause-second : goal.put_together-requires-clause-second
put_together-requires-clause-second c = subst (SpellsBare 0 (plain c.args.second.component)) (sym c.as_slice-5.ensures.value) c.requires.second

pub returns : goal.returns
returns c =
    let first = plain c.args.first.component in
    let second = plain c.args.second.component in
    let a = c.in_ok-assembled.assembled in
    let both : HoldsBoth first second c.args.first.bytes.items c.args.second.bytes.items a =
    subst (λ (z : List ℕ). HoldsBoth first second c.args.first.bytes.items z a) c.as_slice-5.ensures.value
    (subst (λ (z : List ℕ). HoldsBoth first second z c.as_slice-5.result.now a) c.as_slice-4.ensures.value c.in_ok-assembled.ensures) in
    is_plugged first second _ c.as_slice-6.result.now _ c.args.first.bytes.items c.args.second.bytes.items a _ both refl c.in_ok-ty.ensures (c.as_slice-6.ensures ∙ c.in_ok-imported.ensures)
    (c.in_ok-bytes.ensures ∙ (λ i. a.front.items ++ (c.as_slice-7.ensures.value i ++ c.as_slice-8.ensures.value i)))
