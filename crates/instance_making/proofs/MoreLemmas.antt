-- With more instances that are made, what stood for something stands for it still.
use Rattle.std.proofs.Common.{◌≡◌, ◌∙◌, ap, sym, refl, subst, ℕ, zero, suc, List, [], ◌∷◌, ◌++◌, Option, Some, None, slice_get, length, append_assoc, append-nil}
use Rattle.std.proofs.lemmas.Option.{none-some}
use Rattle.comp_link.specs.Linking.{Given as GroupGiven, Givens as GroupGivens, find, Making as GroupMaking}
use Rattle.instance_making.specs.declared.named.Named.{Named}
use Rattle.instance_making.specs.declared.given.Given.{Given}
use Rattle.instance_making.specs.declared.given.Given.TheVariants.{Func, Instance, Resource, «Type»}
use Rattle.instance_making.specs.declared.making.Making.{Making}
use Rattle.instance_making.specs.Named.{found}
use Rattle.instance_making.specs.Made.{IsInstance, IsGiven, IsSame, Holds, EachHolds, AreMade, AndMore}
use Rattle.instance_making.specs.Shown.{AreInstances, Stands}

pub get_more : {A : Type 0} (xs zs : List A) (n : ℕ) (y : A) → slice_get xs n ≡ Some y → slice_get (xs ++ zs) n ≡ Some y
get_more [] zs n y e = absurd (none-some y e)
get_more (x ∷ xs) zs zero y e = e
get_more (x ∷ xs) zs (suc n) y e = get_more xs zs n y e

pub get_last : {A : Type 0} (xs : List A) (z : A) → slice_get (xs ++ z ∷ []) (length xs) ≡ Some z
get_last [] z = refl
get_last (x ∷ xs) z = get_last xs z

module _ (made xs : List GroupGivens) where
  pub given_more : (item : Given) (g : GroupGiven) → IsGiven made item g → IsGiven (made ++ xs) item g
  given_more (Func target) g h = h
  given_more (Instance number) g h = (h.0, get_more made xs number h.0 h.1, h.2)
  given_more (Resource r) g h = h
  given_more «Type» g h = h

  pub same_more : (o : Option Given) (p : Option GroupGiven) → IsSame made o p → IsSame (made ++ xs) o p
  same_more None None h = h
  same_more (Some item) (Some g) h = given_more item g h
  same_more None (Some g) h = absurd h
  same_more (Some item) None h = absurd h

  pub holds_more : (items : Named Given) (givens : GroupGivens) → Holds made items givens → Holds (made ++ xs) items givens
  holds_more items givens h = λ q. same_more (found items q) (find q givens) (h q)

  each_more : (is : List (Named Given)) (gs : List GroupGivens) → EachHolds made is gs → EachHolds (made ++ xs) is gs
  each_more [] [] h = h
  each_more (i ∷ is) (g ∷ gs) h = (holds_more i g h.0, each_more is gs h.1)
  each_more [] (g ∷ gs) h = absurd h
  each_more (i ∷ is) [] h = absurd h

  instances_more : (ns : List ℕ) (gs : List GroupGivens) → AreInstances made ns gs → AreInstances (made ++ xs) ns gs
  instances_more [] [] h = h
  instances_more (n ∷ ns) (g ∷ gs) h = (get_more made xs n g h.0, instances_more ns gs h.1)
  instances_more [] (g ∷ gs) h = absurd h
  instances_more (n ∷ ns) [] h = absurd h

  pub stands_more : (m : Making) (g : GroupMaking) → Stands made m g → Stands (made ++ xs) m g
  stands_more m g h = record {
    instance = h.instance;
    given = get_more made xs m.given g.given h.given;
    canons = h.canons;
    core_functions = h.core_functions;
    core_tables = h.core_tables;
    core_memories = h.core_memories;
    core_globals = h.core_globals;
    core_instances = h.core_instances;
    functions = h.functions;
    instances = instances_more m.instances.items g.instances h.instances;
    resources = h.resources;
    exports = holds_more m.exports g.exports h.exports;
  }

each_and : (made : List GroupGivens) (is : List (Named Given)) (gs : List GroupGivens) (i : Named Given) (g : GroupGivens) → EachHolds made is gs → Holds made i g → EachHolds made (is ++ i ∷ []) (gs ++ g ∷ [])
each_and made [] [] i g h k = (k, tt)
each_and made (x ∷ is) (y ∷ gs) i g h k = (h.0, each_and made is gs i g h.1 k)
each_and made [] (y ∷ gs) i g h k = absurd h
each_and made (x ∷ is) [] i g h k = absurd h

each_length : (made : List GroupGivens) (is : List (Named Given)) (gs : List GroupGivens) → EachHolds made is gs → length is ≡ length gs
each_length made [] [] h = refl
each_length made (i ∷ is) (g ∷ gs) h = ap suc (each_length made is gs h.1)
each_length made [] (g ∷ gs) h = absurd h
each_length made (i ∷ is) [] h = absurd h

-- an instance that is made now
pub made_and : (made : List GroupGivens) (is : List (Named Given)) (i : Named Given) (g : GroupGivens) → AreMade is made → Holds made i g → AreMade (is ++ i ∷ []) (made ++ g ∷ [])
made_and made is i g h k = each_and (made ++ g ∷ []) is made i g (each_more made (g ∷ []) is made h) (holds_more made (g ∷ []) i g k)

-- its number
pub made_last : (made : List GroupGivens) (is : List (Named Given)) (g : GroupGivens) (n : ℕ) → AreMade is made → n ≡ length is → IsInstance (made ++ g ∷ []) n g
made_last made is g n h e = subst (λ k. slice_get (made ++ g ∷ []) k ≡ Some g) (sym (e ∙ each_length made is made h)) (get_last made g)

-- no instance is made
pub more_none : (before : List GroupGivens) (is : List (Named Given)) (P : List GroupGivens → Type 0) → AreMade is before → ((all : List GroupGivens) → P all) → AndMore before is P
more_none before is P h p = record { more = []; made = subst (λ all. AreMade is all) (sym (append-nil before)) h; holds = p (before ++ []) }

-- some are made, and then others
pub more_then : (before : List GroupGivens) (is js : List (Named Given)) (P Q R : List GroupGivens → Type 0) (a : AndMore before is P) → AndMore (before ++ a.more) js Q
    → ((xs ys : List GroupGivens) → P xs → Q (xs ++ ys) → R (xs ++ ys)) → AndMore before js R
more_then before is js P Q R a b step = record {
  more = a.more ++ b.more;
  made = subst (λ all. AreMade js all) (append_assoc before a.more b.more) b.made;
  holds = subst R (append_assoc before a.more b.more) (step (before ++ a.more) b.more a.holds b.holds);
}
