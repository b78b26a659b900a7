-- A component that is of the form but for the places in which its parts lie in memory is of the form.
use Rattle.std.proofs.Common.{◌≡◌, ◌∙◌, refl, sym, ap, subst, ℕ, List, [], ◌∷◌}
use Rattle.std.specs.List.{AllByRecursion}
use Rattle.wasm_ast.specs.declared.component.Span.{Span}
use Rattle.wasm_ast.specs.declared.component.NamedItem.{NamedItem}
use Rattle.comp_grammar.specs.Trees.{Part, Tree, CoreModule, Nested, CoreInstances, Instances, Aliases, Types, Canons, Imports, Exports, Custom, End, More as Section}
use Rattle.comp_write.specs.Copying.{bare_part, bare}
use Rattle.comp_joins.specs.Joining.{in_front, Joint, instance_of, joining}
use Rattle.comp_joined.specs.Form.{MakesNothing, IsJoining, Joins}

-- ---- one section more

abbrev head_of : Tree → Part → Part
head_of End p = p
head_of (Section part rest) p = part

abbrev rest_of : Tree → Tree
rest_of End = End
rest_of (Section part rest) = rest

-- a component that has a section
pub record Begins (u : Tree) (part : Part) (rest : Tree) : Type 0 where
  pub own : Part
  pub more : Tree
  pub is : u ≡ Section own more
  pub same_part : bare_part own ≡ part
  pub same_rest : bare more ≡ rest

no_end : {A : Type 0} (part : Part) (rest : Tree) → End ≡ Section part rest → A
no_end part rest e = absurd cc

begins : (u : Tree) (part : Part) (rest : Tree) → bare u ≡ Section part rest → Begins u part rest
unfolding bare
begins End part rest e = no_end part rest e
begins (Section own more) part rest e = record { own = own; more = more; is = refl; same_part = ap (λ (t : Tree). head_of t part) e; same_rest = ap rest_of e }

bare_more : (part : Part) (rest : Tree) → bare (Section part rest) ≡ Section (bare_part part) (bare rest)
unfolding bare
bare_more part rest = refl

bare_end : bare End ≡ End
unfolding bare
bare_end = refl

end_only : (u : Tree) → bare u ≡ End → u ≡ End
unfolding bare
end_only End e = refl
end_only (Section part rest) e = no_end (bare_part part) (bare rest) (sym e)

-- ---- sections that make nothing have no such places

stays : (p : Part) → MakesNothing p → bare_part p ≡ p
unfolding bare_part
stays (Types items) h = refl
stays (Aliases items) h = refl
stays (Imports items) h = refl
stays (Exports items) h = refl
stays (CoreModule span m) h = absurd h
stays (Nested span inner) h = absurd h
stays (CoreInstances items) h = absurd h
stays (Instances items) h = absurd h
stays (Canons items) h = absurd h
stays (Custom span) h = absurd h

found_nothing : (q : Part) → MakesNothing (bare_part q) → bare_part q ≡ q
unfolding bare_part
found_nothing (Types items) h = refl
found_nothing (Aliases items) h = refl
found_nothing (Imports items) h = refl
found_nothing (Exports items) h = refl
found_nothing (CoreModule span m) h = absurd h
found_nothing (Nested span inner) h = absurd h
found_nothing (CoreInstances items) h = absurd h
found_nothing (Instances items) h = absurd h
found_nothing (Canons items) h = absurd h
found_nothing (Custom span) h = absurd h

same_nothing : (p q : Part) → MakesNothing p → bare_part q ≡ bare_part p → q ≡ p
same_nothing p q h e =
    let is : bare_part q ≡ p = e ∙ stays p h in
    sym (found_nothing q (subst MakesNothing (sym is) h)) ∙ is

pub record Follows (u : Tree) (parts : List Part) (rest : Tree) : Type 0 where
  pub more : Tree
  pub is : u ≡ in_front parts more
  pub same : bare more ≡ bare rest

follows : (parts : List Part) (u rest : Tree) → AllByRecursion MakesNothing parts → bare u ≡ bare (in_front parts rest) → Follows u parts rest
follows [] u rest h e = record { more = u; is = refl; same = e }
follows (part ∷ parts) u rest h e =
    let b = begins u (bare_part part) (bare (in_front parts rest)) (e ∙ bare_more part (in_front parts rest)) in
    let own : b.own ≡ part = same_nothing part b.own h.0 b.same_part in
    let f = follows parts b.more rest h.1 b.same_rest in
    record { more = f.more; is = b.is ∙ ap (λ (p : Part). Section p b.more) own ∙ ap (Section part) f.is; same = f.same }

-- ---- a component, and an instance of it

pub record IsHeld (q : Part) (inner : Tree) : Type 0 where
  pub span : Span
  pub tree : Tree
  pub is : q ≡ Nested span tree
  pub same : bare tree ≡ bare inner

abbrev inner_in : Part → Tree → Tree
inner_in (Nested span inner) t = inner
inner_in _ t = t

held : (span : Span) (inner : Tree) (q : Part) → bare_part q ≡ bare_part (Nested span inner) → IsHeld q inner
unfolding bare_part
held span inner (Nested own tree) e = record { span = own; tree = tree; is = refl; same = ap (λ (p : Part). inner_in p End) e }
held span inner (CoreModule own m) e = absurd cc
held span inner (CoreInstances items) e = absurd cc
held span inner (Instances items) e = absurd cc
held span inner (Aliases items) e = absurd cc
held span inner (Types items) e = absurd cc
held span inner (Canons items) e = absurd cc
held span inner (Imports items) e = absurd cc
held span inner (Exports items) e = absurd cc
held span inner (Custom own) e = absurd cc

same_instance : (component : ℕ) (args : List NamedItem) (q : Part) → bare_part q ≡ bare_part (instance_of component args) → q ≡ instance_of component args
unfolding bare_part
same_instance component args (Instances items) e = e
same_instance component args (Nested own tree) e = absurd cc
same_instance component args (CoreModule own m) e = absurd cc
same_instance component args (CoreInstances items) e = absurd cc
same_instance component args (Aliases items) e = absurd cc
same_instance component args (Types items) e = absurd cc
same_instance component args (Canons items) e = absurd cc
same_instance component args (Imports items) e = absurd cc
same_instance component args (Exports items) e = absurd cc
same_instance component args (Custom own) e = absurd cc

pub record Instantiates (u : Tree) (component : ℕ) (inner : Tree) (args : List NamedItem) (rest : Tree) : Type 0 where
  pub span : Span
  pub tree : Tree
  pub more : Tree
  pub is : u ≡ Section (Nested span tree) (Section (instance_of component args) more)
  pub same : bare tree ≡ bare inner
  pub same_rest : bare more ≡ bare rest

instantiates : (span : Span) (component : ℕ) (inner : Tree) (args : List NamedItem) (u rest : Tree) → bare u ≡ bare (Section (Nested span inner) (Section (instance_of component args) rest)) → Instantiates u component inner args rest
instantiates span component inner args u rest e =
    let tail : Tree = Section (instance_of component args) rest in
    let b = begins u (bare_part (Nested span inner)) (bare tail) (e ∙ bare_more (Nested span inner) tail) in
    let c = begins b.more (bare_part (instance_of component args)) (bare rest) (b.same_rest ∙ bare_more (instance_of component args) rest) in
    let h = held span inner b.own b.same_part in
    let i : c.own ≡ instance_of component args = same_instance component args c.own c.same_part in
    record {
      span = h.span;
      tree = h.tree;
      more = c.more;
      is = b.is ∙ ap (λ (p : Part). Section p b.more) h.is ∙ ap (Section (Nested h.span h.tree)) (c.is ∙ ap (λ (p : Part). Section p c.more) i);
      same = h.same;
      same_rest = c.same_rest;
    }

-- ---- the whole

pub joins_placed : (u whole first second : Tree) → bare u ≡ bare whole → IsJoining first second whole → Joins first second u
joins_placed u whole first second same is =
    let j : Joint = is.joint in
    let after_second : Tree = in_front j.behind End in
    let with_second : Tree = Section (Nested j.second_span second) (Section (instance_of 1 j.second_args) after_second) in
    let with_first : Tree = Section (Nested j.first_span first) (Section (instance_of 0 j.first_args) (in_front j.between with_second)) in
    let f = follows j.front u with_first is.front (same ∙ ap bare is.is) in
    let one = instantiates j.first_span 0 first j.first_args f.more (in_front j.between with_second) f.same in
    let b = follows j.between one.more with_second is.between one.same_rest in
    let two = instantiates j.second_span 1 second j.second_args b.more after_second b.same in
    let l = follows j.behind two.more End is.behind two.same_rest in
    let end : l.more ≡ End = end_only l.more (l.same ∙ bare_end) in
    record {
      one = one.tree;
      other = two.tree;
      first_one = one.same;
      second_one = two.same;
      joining = record {
        joint = record { front = j.front; first_span = one.span; first_args = j.first_args; between = j.between; second_span = two.span; second_args = j.second_args; behind = j.behind };
        is = f.is ∙ ap (in_front j.front) (one.is ∙ ap (λ (t : Tree). Section (Nested one.span one.tree) (Section (instance_of 0 j.first_args) t))
            (b.is ∙ ap (in_front j.between) (two.is ∙ ap (λ (t : Tree). Section (Nested two.span two.tree) (Section (instance_of 1 j.second_args) t))
            (l.is ∙ ap (in_front j.behind) end))));
        front = is.front;
        between = is.between;
        behind = is.behind;
      };
    }
