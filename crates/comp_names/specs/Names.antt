-- Names of imports and exports (Component Model, Explainer.md, "Import and Export Definitions").
use Rattle.std.specs.Prelude.{ℕ, ◌+◌, List, [], ◌∷◌, Bool, false, not, ◌&&◌, ◌||◌, ◌==◌, Option, Some, None, is_some, option_map, position, length, codes, take, drop, if◌then◌else◌}
use Rattle.std.specs.List.{list_all, slice_split}
use Rattle.std.specs.Str.{bytes_eq}
use Rattle.comp_names.specs.declared.names.Annotation.{Annotation}
use Rattle.comp_names.specs.declared.names.Annotation.TheVariants.{Constructor, Method, Static}
use Rattle.comp_names.specs.Labels.{is_label, is_lower, is_upper, is_digit}

-- what stands before the first such byte, and what after it
abbrev pub cut : ℕ → List ℕ → Option (List ℕ × List ℕ)
cut byte text = option_map (λ place. (take place text, drop (place + 1) text)) (position (λ b. b == byte) text)

-- the parts that a byte joins, by the first place where it stands
abbrev pub parts_with : ℕ → List ℕ → Option (List ℕ × List ℕ) → List (List ℕ)
parts_with joiner text None = text ∷ []
parts_with joiner text (Some p) = p.0 ∷ slice_split (λ b. b == joiner) p.1

-- what stands after a prefix
abbrev pub behind : List ℕ → List ℕ → Option (List ℕ)
behind prefix text = if bytes_eq (take (length prefix) text) prefix then Some (drop (length prefix) text) else None

-- ---- [constructor]L, [method]L.L and [static]L.L

abbrev pub resource_of : Option (List ℕ × List ℕ) → Option (List ℕ)
resource_of None = None
resource_of (Some p) = if is_label p.0 && is_label p.1 then Some p.0 else None

abbrev pub of_constructor : Option (List ℕ) → Option (List ℕ)
of_constructor None = None
of_constructor (Some rest) = if is_label rest then Some rest else None

abbrev pub of_member : Option (List ℕ) → Option (List ℕ)
of_member None = None
of_member (Some rest) = resource_of (cut 46 rest)

abbrev pub annotated : Annotation → Option (List ℕ) → Option (Annotation × List ℕ)
annotated a None = None
annotated a (Some label) = Some (a, label)

abbrev pub either_of : Option (Annotation × List ℕ) → Option (Annotation × List ℕ) → Option (Annotation × List ℕ)
either_of None b = b
either_of (Some a) b = Some a

-- an annotation, and the label of its resource
abbrev pub annotation_of : List ℕ → Option (Annotation × List ℕ)
annotation_of name =
    either_of (annotated Constructor (of_constructor (behind (codes "[constructor]") name)))
    (either_of (annotated Method (of_member (behind (codes "[method]") name)))
    (annotated Static (of_member (behind (codes "[static]") name))))

-- ---- L:L/L and L:L/L@version

abbrev pub is_in_version : ℕ → Bool
is_in_version c = ((is_lower c || is_upper c) || is_digit c) || ((c == 46) || ((c == 45) || (c == 43)))

abbrev pub is_version : List ℕ → Bool
is_version text = not (length text == 0) && list_all is_in_version text

-- a label, and perhaps a version
abbrev pub is_versioned : List ℕ → Option (List ℕ × List ℕ) → Bool
is_versioned text None = is_label text
is_versioned text (Some p) = is_label p.0 && is_version p.1

-- a label, `/`, and a label that may have a version
abbrev pub is_in_package : Option (List ℕ × List ℕ) → Bool
is_in_package None = false
is_in_package (Some p) = is_label p.0 && is_versioned p.1 (cut 64 p.1)

abbrev pub is_in_namespace : Option (List ℕ × List ℕ) → Bool
is_in_namespace None = false
is_in_namespace (Some p) = is_label p.0 && is_in_package (cut 47 p.1)

abbrev pub is_interface : List ℕ → Bool
is_interface name = is_in_namespace (cut 58 name)

-- ---- all of them

abbrev pub is_legal : List ℕ → Bool
is_legal name = is_label name || (is_some (annotation_of name) || is_interface name)
