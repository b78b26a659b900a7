-- A component that was read from its front is of the form.
use Rattle.std.proofs.Common.{◌≡◌, ◌∙◌, refl, sym, ap, List, [], ◌∷◌, length, nat_eq, true, eqb-true}
use Rattle.std.proofs.lemmas.List.{nil_from_length}
use Rattle.std.specs.List.{AllByRecursion}
use Rattle.wasm_ast.specs.declared.component.Section.{Section as ASection}
use Rattle.comp_grammar.specs.Trees.{Part, Tree, CoreModule, Nested, CoreInstances, Instances, Aliases, Types, Canons, Imports, Exports, Custom, End, More as Section, plain_section, plain_sections}
use Rattle.comp_joins.specs.Joining.{in_front, Joint, instance_of, joining}
use Rattle.output_same.specs.Holding.{and_inner, components_in}
use Rattle.comp_joined.specs.Form.{MakesNothing, IsPast, IsPastInstance, IsJoining}

-- ---- reading from the front

pub none_left : (xs : List ASection) → nat_eq (length xs) 0 ≡ true → xs ≡ []
none_left xs e = nil_from_length xs (eqb-true (length xs) 0 e)

pub past_none : (sections : List ASection) → IsPast sections sections
past_none sections = record { parts = []; nothing = tt; is = refl }

pub past_one : (first : ASection) (more rest : List ASection) → MakesNothing (plain_section first) → IsPast more rest → IsPast (first ∷ more) rest
past_one first more rest nothing past = record { parts = plain_section first ∷ past.parts; nothing = (nothing, past.nothing); is = ap (Section (plain_section first)) past.is }

-- ---- the components in it

none_in : (part : Part) (rest : List Tree) → MakesNothing part → and_inner part rest ≡ rest
none_in (Types items) rest h = refl
none_in (Aliases items) rest h = refl
none_in (Imports items) rest h = refl
none_in (Exports items) rest h = refl
none_in (CoreModule span m) rest h = absurd h
none_in (Nested span inner) rest h = absurd h
none_in (CoreInstances items) rest h = absurd h
none_in (Instances items) rest h = absurd h
none_in (Canons items) rest h = absurd h
none_in (Custom span) rest h = absurd h

none_in_front : (parts : List Part) (rest : Tree) → AllByRecursion MakesNothing parts → components_in (in_front parts rest) ≡ components_in rest
none_in_front [] rest h = refl
none_in_front (part ∷ parts) rest h = none_in part (components_in (in_front parts rest)) h.0 ∙ none_in_front parts rest h.1

abbrev first_in : List Tree → Tree → Tree
first_in [] t = t
first_in (x ∷ xs) t = x

abbrev tail_of : List Tree → List Tree
tail_of [] = []
tail_of (x ∷ xs) = xs

module _ (j : Joint) (front : AllByRecursion MakesNothing j.front) (between : AllByRecursion MakesNothing j.between) (behind : AllByRecursion MakesNothing j.behind) where
  both_in : (f s : Tree) → components_in (joining j f s) ≡ f ∷ s ∷ []
  both_in f s =
      none_in_front j.front (Section (Nested j.first_span f) (Section (instance_of 0 j.first_args) (in_front j.between (Section (Nested j.second_span s) (Section (instance_of 1 j.second_args) (in_front j.behind End)))))) front
      ∙ ap (λ (z : List Tree). f ∷ z) (none_in_front j.between (Section (Nested j.second_span s) (Section (instance_of 1 j.second_args) (in_front j.behind End))) between)
      ∙ ap (λ (z : List Tree). f ∷ s ∷ z) (none_in_front j.behind End behind)

  joins_two : (whole f s first second : Tree) → whole ≡ joining j f s → components_in whole ≡ first ∷ second ∷ [] → IsJoining first second whole
  joins_two whole f s first second is two =
      let both : f ∷ s ∷ [] ≡ first ∷ second ∷ [] = sym (both_in f s) ∙ sym (ap components_in is) ∙ two in
      let one : f ≡ first = ap (λ (z : List Tree). first_in z f) both in
      let other : s ≡ second = ap (λ (z : List Tree). first_in (tail_of z) s) both in
      record { joint = j; is = is ∙ ap (λ (t : Tree). joining j t s) one ∙ ap (joining j first) other; front = front; between = between; behind = behind }

pub holds_two : (first second whole : Tree) → IsJoining first second whole → components_in whole ≡ first ∷ second ∷ []
holds_two first second whole is = ap components_in is.is ∙ both_in is.joint is.front is.between is.behind first second

-- ---- the whole

module _ (all front after_first between after_second end : List ASection) (f : IsPast all front) (one : IsPastInstance 0 front after_first) (b : IsPast after_first between) (two : IsPastInstance 1 between after_second) (l : IsPast after_second end) (none : end ≡ []) where
  abbrev joint_of : Joint
  joint_of = record { front = f.parts; first_span = one.span; first_args = one.args; between = b.parts; second_span = two.span; second_args = two.args; behind = l.parts }

  whole_is : plain_sections all ≡ joining joint_of one.inner two.inner
  whole_is =
      f.is ∙ ap (in_front f.parts) (one.is ∙ ap (λ (t : Tree). Section (Nested one.span one.inner) (Section (instance_of 0 one.args) t))
      (b.is ∙ ap (in_front b.parts) (two.is ∙ ap (λ (t : Tree). Section (Nested two.span two.inner) (Section (instance_of 1 two.args) t))
      (l.is ∙ ap (λ (z : List ASection). in_front l.parts (plain_sections z)) none))))

  pub is_joined : (first second : Tree) → components_in (plain_sections all) ≡ first ∷ second ∷ [] → IsJoining first second (plain_sections all)
  is_joined first second both = joins_two joint_of f.nothing b.nothing l.nothing (plain_sections all) one.inner two.inner first second whole_is both
