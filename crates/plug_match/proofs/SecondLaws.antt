-- The walk through the imports of the second component, and what comes after it.
use Rattle.std.proofs.Common.{◌≡◌, ◌∙◌, ap, refl, sym, subst, ℕ, ◌+◌, ◌<◌, ◌≤◌, List, [], ◌∷◌, Bool, true, false, cond, Option, Some, None, length, drop, get_or}
use Rattle.std.specs.List.{list_any}
use Rattle.std.proofs.lemmas.List.{drop_more, drop_all}
use Rattle.wit_types.specs.Plain.{Name}
use Rattle.comp_types.specs.Items.{Item, Entries, End, More}
use Rattle.comp_types.specs.Resources.{entries_have_resource}
use Rattle.comp_types.specs.Views.{item_of, entries_of}
use Rattle.comp_types.specs.declared.types.InstanceEntry.{InstanceEntry}
use Rattle.wasi_match.specs.declared.fault.Cause.{Cause}
use Rattle.wasi_match.specs.declared.fault.Cause.TheVariants.{HandleExport}
use Rattle.wasi_match.specs.Verdicts.{HasHandle}
use Rattle.wasi_match.specs.Walk.{first_handle}
use Rattle.plug_match.specs.declared.first.First.{First}
use Rattle.plug_match.specs.declared.source.Plugging.{Plugging}
use Rattle.plug_match.specs.declared.source.Source.{Source}
use Rattle.plug_match.specs.Steps.{Came}
use Rattle.plug_match.specs.Walk.{SecondVerdict, Plugs, SecondAtFault, MeetsNothing, is_met, of_exports, at_end, second_step, on_second, second_from}
use Rattle.plug_match.proofs.HandleLaws.{no_first, is_first}

module _ (first : First) (given exports : Entries) (xs : List InstanceEntry) (i : ℕ) (so_far : Plugging) (v : SecondVerdict)
    (now : second_from first given so_far (entries_of (drop i xs)) exports ≡ v) where
  -- ---- one import after another

  module _ (x : InstanceEntry) (less : i < length xs) (is : x ≡ get_or xs i x) (cause : Option Cause) (new : Plugging)
      (came : Came cause new (second_step first given so_far x.name (item_of x.ty))) where
    abbrev rest : Entries
    rest = entries_of (drop (i + 1) xs)

    there : on_second x.name (second_step first given so_far x.name (item_of x.ty)) (λ more. second_from first given more rest exports) ≡ v
    there = ap (λ ys. second_from first given so_far (entries_of ys) exports) (sym (drop_more xs i x less ∙ ap (λ y. y ∷ drop (i + 1) xs) (sym is))) ∙ now

    pub second_goes : cause ≡ None → second_from first given new rest exports ≡ v
    second_goes e =
        let goes = subst (λ o. Came o new (second_step first given so_far x.name (item_of x.ty))) e came in
        ap (λ s. on_second x.name s (λ more. second_from first given more rest exports)) (sym goes) ∙ there

    pub second_stops : (why : Cause) → cause ≡ Some why → SecondAtFault why x.name ≡ v
    second_stops why e =
        let stops = subst (λ o. Came o new (second_step first given so_far x.name (item_of x.ty))) e came in
        ap (λ s. on_second x.name s (λ more. second_from first given more rest exports)) (sym stops) ∙ there

  -- ---- after all imports

  module _ (past : length xs ≤ i) where
    ends : at_end so_far.sources exports ≡ v
    ends = ap (λ ys. second_from first given so_far (entries_of ys) exports) (sym (drop_all i xs past)) ∙ now

    pub nothing_met : list_any is_met so_far.sources ≡ false → MeetsNothing ≡ v
    nothing_met e = ap (λ b. cond b (of_exports so_far.sources (first_handle exports)) MeetsNothing) (sym e) ∙ ends

    module _ (e : list_any is_met so_far.sources ≡ true) where
      at_exports : of_exports so_far.sources (first_handle exports) ≡ v
      at_exports = ap (λ b. cond b (of_exports so_far.sources (first_handle exports)) MeetsNothing) (sym e) ∙ ends

      pub all_well : entries_have_resource exports ≡ false → Plugs so_far.sources ≡ v
      all_well h = ap (of_exports so_far.sources) (sym (no_first exports h)) ∙ at_exports

      pub handle_shown : (name : Name) → HasHandle exports name → SecondAtFault HandleExport name ≡ v
      handle_shown name h = ap (of_exports so_far.sources) (sym (is_first exports name h)) ∙ at_exports
