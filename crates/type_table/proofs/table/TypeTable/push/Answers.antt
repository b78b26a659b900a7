use Rattle.std.proofs.Common.{◌≡◌, ◌∙◌, ap, sym, subst, ◌∷◌, [], ◌++◌, length, Some, rules}
use Rattle.std.specs.Prelude.{Contains}
use Rattle.std.specs.BTreeMap.{Updates}
use Rattle.std.specs.Ordering.{nat_cmp}
use Rattle.std.proofs.lemmas.List.{map-append, length-map}
use Rattle.wit_types.specs.Plain.{Plain}
use Rattle.comp_facts.specs.Keys.{key_of}
use Rattle.type_table.specs.Tables.{Placed, Types, trees}
use Rattle.type_table.specs.Nodes.{placed, types_in, AreBelow, IsLonger, AreNodes}
use Rattle.type_table.proofs.NodeLemmas.{pushed}
use Rattle.type_table.proofs.AddLemmas.{longer_push}
use Rattle.type_table.proofs.table.TypeTable.push.Goals as goal

pub invariant_of-self-2 : goal.invariant_of-self-2
invariant_of-self-2 c =
    let nodes = c.self.inside.nodes.items in
    let types = types_in nodes in
    let places = c.self.inside.places in
    let key = c.own_key-key.result in
    let p : Placed = record { tree = c.args.known.value; links = c.args.links } in
    let is : key ≡ key_of c.args.known.value = cc in
    let count : c.len.result ≡ length nodes = search (rules, c.len.ensures, c.reserve.ensures.items) in
    let at : c.len.result ≡ length types = count ∙ sym (length-map nodes placed) in
    let items : types_in c.push_reserved.new.self.items ≡ types ++ p ∷ [] =
    ap types_in c.push_reserved.ensures.items ∙ (map-append placed c.reserve.new.self.items _ ∙ ap (λ ns. types_in ns ++ p ∷ []) c.reserve.ensures.items) in
    subst (λ ts. AreNodes ts c.insert.new.self) (sym items)
    (pushed types places c.insert.new.self c.self.invariant key p is
    (subst (λ i. Updates nat_cmp places c.insert.new.self key (Some i)) at c.in_ok-insert.ensures.updates)
    (subst (λ (ts : Types). (t : Plain) → key_of p.tree ≡ key_of t → Contains (trees ts) t → ⊥) (sym c.self.view_is) c.requires.new)
    (subst (λ ts. AreBelow (length ts) c.args.links) (sym c.self.view_is) c.requires.below))

pub returns-clause-longer : goal.returns-clause-longer
returns-clause-longer c =
    let nodes = c.self.inside.nodes.items in
    let p : Placed = record { tree = c.args.known.value; links = c.args.links } in
    let items : types_in c.push_reserved.new.self.items ≡ types_in nodes ++ p ∷ [] =
    ap types_in c.push_reserved.ensures.items ∙ (map-append placed c.reserve.new.self.items _ ∙ ap (λ ns. types_in ns ++ p ∷ []) c.reserve.ensures.items) in
    subst (IsLonger c.args.self.now) (sym items) (subst (λ ts. IsLonger ts (types_in nodes ++ p ∷ [])) c.self.view_is (longer_push (types_in nodes) p c.self.invariant.below))
