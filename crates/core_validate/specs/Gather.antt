-- Lists from the items of a list.
use Rattle.std.specs.Prelude.{List, [], ◌∷◌, ◌++◌}

-- what each item gives, in order
abbrev pub gather : {A B : Type 0} → (A → List B) → List A → List B
gather f [] = []
gather f (x ∷ xs) = f x ++ gather f xs

-- each item with those before it
abbrev pub with_earlier : {A B : Type 0} → (List A → A → B) → List A → List A → List B
with_earlier f before [] = []
with_earlier f before (x ∷ xs) = f before x ∷ with_earlier f (before ++ x ∷ []) xs
