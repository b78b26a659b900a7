-- Numbers of lists that take the operands of a table.
use Rattle.std.proofs.Common.{◌≡◌, ℕ, refl, sym, ◌∙◌, ap, Option, Some, List, Bool, true, false, cond, ◌&&◌}
use Rattle.std.specs.declared.cmp.Ordering.{Ordering}
use Rattle.std.specs.declared.cmp.Ordering.TheVariants.{Less, Equal, Greater}
use Rattle.std.specs.BTreeSet.{BTreeSet, contains, IsEmpty, Updates}
use Rattle.std.specs.List.{list_any}
use Rattle.std.specs.Ordering.{is_eq, nat_cmp}
use Rattle.std.proofs.lemmas.Map.Lookups.{exact_unsigned}
use Rattle.wasm_ast.specs.declared.module.CoreFunc.{CoreFunc}
use Rattle.core_body.specs.declared.operand.Operand.{Operand}
use Rattle.core_body.specs.declared.source.Source.{Source}
use Rattle.core_body.specs.declared.numbers.ListNumbers.{ListNumbers}
use Rattle.core_body.specs.Typing.{operands}
use Rattle.core_body.specs.Machine.{all_below, takes_them}
use Rattle.core_body.specs.Sources.{listed_in}
use Rattle.core_body.specs.Numbers.{number_in, Distinguish}
use Rattle.core_body.specs.Fitting.{AllFit}

module _ (types : List CoreFunc) (numbers : List ListNumbers) (first : Bool) (os : List Operand) where
  pub fit-none : (known : BTreeSet ℕ) → IsEmpty known → AllFit types numbers first os known
  fit-none known empty n h s e = let never : false ≡ true = sym (ap (list_any _) empty) ∙ h in cc

  -- a list whose number is among them
  pub fit-known : (known : BTreeSet ℕ) (label : Source) (at : Option (List Operand)) → AllFit types numbers first os known → contains nat_cmp known (number_in numbers label) ≡ true →
      at ≡ Some (operands (listed_in types label)) → (first && true) ≡ (first && takes_them at os)
  fit-known known label at fit h e = fit (number_in numbers label) h label refl ∙ ap (λ x. first && takes_them x os) (sym e)

  -- the number of a list that takes them
  pub fit-more : (old new : BTreeSet ℕ) (label : Source) → Distinguish types numbers → AllFit types numbers first os old → Updates nat_cmp old new (number_in numbers label) true →
      all_below os (operands (listed_in types label)) ≡ true → AllFit types numbers first os new
  fit-more old new label apart fit updates fits m h s e = go (nat_cmp (number_in numbers label) m) refl (sym (updates.0 m) ∙ h)
    where
      go : (o : Ordering) → nat_cmp (number_in numbers label) m ≡ o → cond (is_eq o) true (contains nat_cmp old m) ≡ true →
          (first && true) ≡ (first && all_below os (operands (listed_in types s)))
      go Less is u = fit m u s e
      go Equal is u =
          let same = (apart s label).0 (e ∙ sym (exact_unsigned (number_in numbers label) m is)) in
          sym (ap (λ ts. first && all_below os (operands ts)) same ∙ ap (λ b. first && b) fits)
      go Greater is u = fit m u s e
