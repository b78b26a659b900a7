use Rattle.std.proofs.Common.{◌≡◌, refl, rules, sym, subst, List, [], reverse, true}
use Rattle.comp_types.specs.Added.{root}
use Rattle.type_table.specs.Tables.{Types}
use Rattle.type_table.specs.Covers.{Covers}
use Rattle.type_table.proofs.HasLaws.{sound_none}
use Rattle.type_table.proofs.ScopeLaws.{covers_empty}
use Rattle.comp_defining.specs.declared.scopes.Level.{Level}
use Rattle.comp_defining.specs.Around.{StandEach}
use Rattle.comp_defining.proofs.scopes.Scopes.root.Goals as goal

pub returns : goal.returns
returns c =
    let e : c.new-2.result.items ≡ [] = search rules in
    record {
      inner = c.new.ensures;
      inside = refl;
      outer = subst (λ (xs : List Level). StandEach [] (reverse xs)) (sym e) tt;
      covered = (subst (λ (ts : Types). Covers ts root) (sym c.none.ensures) (covers_empty [] true 0 sound_none), tt);
    }
