-- What the table of interfaces says of names.
use Rattle.std.proofs.Common.{◌≡◌, ℕ, ◌+◌, ◌<◌, List, [], ◌∷◌, ◌++◌, length, map, get_or, Option, Some, option_map, sym, ap, ◌∙◌, inl, inr, arith}
use Rattle.std.proofs.lemmas.Bool.{cases_lt}
use Rattle.std.proofs.lemmas.List.{length-append}
use Rattle.std.proofs.lemmas.Grind.{common_steps}
use Rattle.std.specs.List.{find}
use Rattle.std.specs.Str.{bytes_eq}
use Rattle.wit_types.specs.Plain.{Name}
use Rattle.wasi_table.specs.declared.interface.Interface.{Interface}
use Rattle.wasi_table.specs.declared.interface.NamedFunc.{NamedFunc}
use Rattle.wasi_table.specs.Plain.{PlainInterface, plain_interface, plain_named_func}
use Rattle.reference_step.specs.Listed.{interface_at, interface_named, listed_function, function_in, listed_in}
use Rattle.ref_answers.specs.Versions.{AreFirst, IsSmall, version_in}
use Rattle.ref_answers.proofs.KindLaws.{find-map}
use Rattle.ref_answers.proofs.SmallLaw.{small_function}

-- one interface more
pub first_more : (n : ℕ) (xs : List Interface) (x : Interface) → AreFirst n xs → plain_interface x ≡ interface_at n → AreFirst (n + 1) (xs ++ x ∷ [])
first_more n xs x first is = record {
  all = length-append xs (x ∷ []) ∙ omega (arith, first.all);
  each = λ i d less. elim (cases_lt i n) [
    | inl before ↦ let same : get_or (xs ++ x ∷ []) i d ≡ get_or xs i d = grind (arith, common_steps, first.all) in ap plain_interface same ∙ first.each i d before
    | inr least ↦ let last : i ≡ n = omega (arith, less, least) in let same : get_or (xs ++ x ∷ []) i d ≡ x = grind (arith, common_steps, first.all, last) in ap plain_interface same ∙ is ∙ ap interface_at (sym last)
  ];
}

module _ (versions : List Name) (interfaces : List Interface) (all : AreFirst 27 interfaces) (interface name : Name) (n : ℕ) (d : Interface) (less : n < 27) (fs : List NamedFunc) (fs_is : fs ≡ (get_or interfaces n d).functions) where
  found : (o : Option NamedFunc) → find (λ f. bytes_eq f.name name) fs ≡ o → find (λ f. bytes_eq f.name name) (interface_at n).functions ≡ option_map plain_named_func o
  found o e =
      ap (λ (i : PlainInterface). find (λ f. bytes_eq f.name name) i.functions) (sym (all.each n d less))
      ∙ find-map plain_named_func (λ f. bytes_eq f.name name) (get_or interfaces n d).functions
      ∙ ap (option_map plain_named_func) (ap (find (λ f. bytes_eq f.name name)) (sym fs_is) ∙ e)

  pub function_found : (o : Option NamedFunc) → interface_named (version_in versions) interface ≡ Some n → find (λ f. bytes_eq f.name name) fs ≡ o → listed_function (version_in versions) interface name ≡ listed_in n (option_map plain_named_func o)
  function_found o named e = ap (function_in name) named ∙ ap (listed_in n) (found o e)

  pub function_small : (f : NamedFunc) → find (λ f. bytes_eq f.name name) fs ≡ Some f → IsSmall (plain_named_func f).ty
  function_small f e = small_function n (λ f. bytes_eq f.name name) (plain_named_func f) less (found (Some f) e)
