use Rattle.std.proofs.Common.{◌≡◌, ℕ, List, Bool, true, false, not, Option, Some, None, refl, sym, ap, subst, ◌∙◌, true≢false}
use Rattle.std.specs.Prelude.{is_none, is_some, String}
use Rattle.std.specs.BTreeMap.{BTreeMap}
use Rattle.tree_table.specs.declared.entries.Entry.{Entry}
use Rattle.mount_tree.specs.Growing.{IsAt, IsIndex, child_in, is_free}
use Rattle.mount_tree.proofs.GrowLemmas.{free-name, taken-name}
use Rattle.mount_tree.proofs.paths.Paths.is_free.Goals as goal

free-by : {Y : Type 0} (there : List Entry) (maps : List (BTreeMap (String Y) ℕ)) (name : List ℕ) (f : ℕ) (above : List (List ℕ)) (o : Option ℕ) → child_in maps f name ≡ o → IsIndex there maps → IsAt there above (Some f) → is_none o ≡ is_free there above name
free-by there maps name f above None found h at = sym (free-name there maps h f name above at found)
free-by there maps name f above (Some k) found h at = sym (taken-name there maps h f name above at k found)

none-by : (o : Option ℕ) (r : Bool) → is_some o ≡ not r → r ≡ is_none o
none-by None true h = refl
none-by None false h = absurd (true≢false (sym h))
none-by (Some k) true h = absurd (true≢false h)
none-by (Some k) false h = refl

pub returns-in-Some : goal.returns-in-Some
returns-in-Some c = λ above at.
    let there = c.args.self.now in
    let maps = c.self.inside.inside.items in
    let name = c.args.name.now in
    let f = c.in-Some.folder in
    let h : IsIndex there maps = subst (λ (es : List Entry). IsIndex es maps) c.self.view_is c.self.invariant in
    let here : IsAt there above (Some f) = subst (IsAt there above) c.in-Some.is at in
    let found : child_in maps f name ≡ c.child_in.result = ap (λ ms. child_in ms f name) (sym c.as_slice.ensures.value) ∙ sym c.child_in.ensures in
    none-by c.child_in.result c.is_none.result c.is_none.ensures ∙ free-by there maps name f above c.child_in.result found h here
