-- What stands around an application spells its output.
use Rattle.std.proofs.Common.{◌≡◌, ◌∙◌, refl, sym, subst, ℕ, zero, suc, ◌+◌, ◌/◌, ◌%◌, ◌<◌, ◌≤◌, ◌^◌, List, [], ◌∷◌, ◌++◌, length, append_assoc, arith, Ok, Bool, true, false}
use Rattle.std.specs.Prelude.{nat_lt, if◌then◌else◌}
use Rattle.virt_base.specs.Leb.{shortest_unsigned}
use Rattle.std.proofs.lemmas.List.{append-nil}
use Rattle.wasm_format.specs.Format.{vec, u32_format}
use Rattle.wasm_ast.specs.ComponentItems.{argument, instance, alias, component_export}
use Rattle.comp_types.specs.Items.{Entries, End, More}
use Rattle.comp_grammar.specs.Trees.{Part, Tree, Nested, Instances, Aliases, Exports, End as NoSection, More as Section}
use Rattle.comp_grammar.specs.Components.{add, no_span, preamble}
use Rattle.comp_write.specs.Copying.{SpellsBare}
use Rattle.virt_output.specs.declared.piece.Piece.{Piece}
use Rattle.virt_output.specs.declared.piece.Piece.TheVariants as pieces
use Rattle.virt_output.specs.Pieces.{id_of, content_of, ItemsFit, IsPieceOf}
use Rattle.virt_output.proofs.Adding.{begun}
use Rattle.virt_output.proofs.PieceLaws.{piece_added, head_added}
use Rattle.virt_output.specs.Output.{one_instance, aliases_of, exports_of, output_tree}
use Rattle.virt_output.specs.Bytes.{front_bytes, section_bytes, alias_content, export_content, exporting_bytes, back_bytes, CanBeSized}
use Rattle.virt_output.proofs.FitLemmas.{instance_fits}

pub instance_content : length ((vec instance).write one_instance) < 2 ^ 32
unfolding instance argument u32_format
instance_content = omega arith

-- a section more
section_added : (piece : Piece) (part : Part) (t : Tree) (old : List ℕ) → ItemsFit piece → length (content_of piece) < 2 ^ 32 → IsPieceOf piece part → SpellsBare 0 t old → SpellsBare 0 (add t part) (old ++ section_bytes (id_of piece) (content_of piece))
section_added piece part t old fits low is spelled = piece_added piece old (old ++ section_bytes (id_of piece) (content_of piece)) (Ok tt) fits (low, refl) t part is spelled

-- the sections that an application's exports make
exported : (t : Tree) (es : Entries) (old : List ℕ) → (vec alias).Fits (aliases_of es) → (vec component_export).Fits (exports_of es) → CanBeSized es
    → SpellsBare 0 (Section (Nested no_span t) (Section (Instances one_instance) NoSection)) old → SpellsBare 0 (output_tree t es) (old ++ exporting_bytes es)
exported t End old a e sized spelled = subst (λ (z : List ℕ). SpellsBare 0 (output_tree t End) z) (sym (append-nil old)) spelled
exported t (More n i rest) old a e sized spelled =
    let es : Entries = More n i rest in
    let first = section_added (pieces.Aliases (aliases_of es)) (Aliases (aliases_of es)) (Section (Nested no_span t) (Section (Instances one_instance) NoSection)) old a sized.aliases refl spelled in
    let second = section_added (pieces.Exports (exports_of es)) (Exports (exports_of es)) (add (Section (Nested no_span t) (Section (Instances one_instance) NoSection)) (Aliases (aliases_of es))) (old ++ section_bytes 6 (alias_content es)) e sized.exported refl first in
    subst (λ (z : List ℕ). SpellsBare 0 (output_tree t es) z) (append_assoc old (section_bytes 6 (alias_content es)) (section_bytes 11 (export_content es))) second

pub output_spelled : (t : Tree) (es : Entries) (size : ℕ) (app : List ℕ) → size < 2 ^ 32 → (vec alias).Fits (aliases_of es) → (vec component_export).Fits (exports_of es) → CanBeSized es → length app ≡ size → SpellsBare 0 t app
    → SpellsBare 0 (output_tree t es) (front_bytes size ++ (app ++ back_bytes es))
output_spelled t es size app low a e sized is spelled =
    let front : List ℕ = front_bytes size in
    let here : List ℕ = section_bytes 5 ((vec instance).write one_instance) in
    let nested : SpellsBare 0 (Section (Nested no_span t) NoSection) (front ++ app) = head_added size preamble front low refl NoSection t app is spelled (begun preamble refl) in
    let behind = section_added (pieces.Instances one_instance) (Instances one_instance) (Section (Nested no_span t) NoSection) (front ++ app) instance_fits instance_content refl nested in
    let all = exported t es ((front ++ app) ++ here) a e sized behind in
    let same : ((front ++ app) ++ here) ++ exporting_bytes es ≡ front ++ (app ++ back_bytes es) =
    append_assoc (front ++ app) here (exporting_bytes es) ∙ append_assoc front app (here ++ exporting_bytes es) in
    subst (λ (z : List ℕ). SpellsBare 0 (output_tree t es) z) same all

-- ---- how much stands before the application

few_by : (b : Bool) (x y k : ℕ) (rest : List ℕ) → 1 ≤ k → length rest ≤ k → length (if b then x ∷ [] else (y ∷ rest)) ≤ k + 1
few_by true x y k rest some h = omega arith
few_by false x y k rest some h = omega (arith, h)

few_shortest : (more n : ℕ) → length (shortest_unsigned more n) ≤ more + 1
few_shortest zero n = omega arith
few_shortest (suc more) n =
    let h = few_by (nat_lt n 128) n (n % 128 + 128) (more + 1) (shortest_unsigned more (n / 128)) (omega arith) (few_shortest more (n / 128)) in
    omega (arith, h)

pub few_before : (size : ℕ) → length (front_bytes size) ≤ 14
unfolding u32_format
few_before size = omega (arith, few_shortest 4 size)
