use Rattle.std.proofs.Common.{◌≡◌, ◌∙◌, sym, ap, subst, map, option_map, Option, Some, None, List}
use Rattle.std.specs.List.{find}
use Rattle.std.specs.Str.{bytes_eq}
use Rattle.std.specs.Borrow.{Bor}
use Rattle.comp_types.specs.Items.{Item}
use Rattle.comp_types.specs.Views.{item_of}
use Rattle.comp_types.specs.Matching.{GoesOn, if_found, matched_item}
use Rattle.wasi_table.specs.declared.interface.NamedType.{NamedType}
use Rattle.wasi_table.specs.declared.interface.NamedFunc.{NamedFunc}
use Rattle.wasi_table.specs.Plain.{plain_named, plain_named_func}
use Rattle.wasi_match.proofs.OfferLaws.{found_type, found_function}
use Rattle.wasi_match.proofs.entries.match_entry.Goals as goal

pub returns-in_ok-same-in-Some : goal.returns-in_ok-same-in-Some
returns-in_ok-same-in-Some c =
    let name = c.args.entry.now.name in
    let types = map plain_named c.args.offered.now.types in
    let functions = map plain_named_func c.args.offered.now.functions in
    let found : find (λ t. bytes_eq t.name name) types ≡ Some (plain_named c.in-Some.found.now) =
    ap (λ (ts : List NamedType). find (λ t. bytes_eq t.name name) (map plain_named ts)) (sym c.as_slice.ensures)
    ∙ sym c.type_named.ensures ∙ ap (option_map (λ (t : Bor NamedType). plain_named t.now)) c.in-Some.is in
    subst (λ (o : Option Item). GoesOn c.in_ok-same-in-Some.same c.match_meaning.new.by (if_found (λ other. matched_item c.args.by.now other (item_of c.args.entry.now.ty)) o))
    (sym (found_type name types functions (plain_named c.in-Some.found.now) found)) c.in_ok-same-in-Some.ensures

pub returns-in-None-function_named : goal.returns-in-None-function_named
returns-in-None-function_named c =
    let name = c.args.entry.now.name in
    let types = map plain_named c.args.offered.now.types in
    let functions = map plain_named_func c.args.offered.now.functions in
    let none : find (λ t. bytes_eq t.name name) types ≡ None =
    ap (λ (ts : List NamedType). find (λ t. bytes_eq t.name name) (map plain_named ts)) (sym c.as_slice.ensures)
    ∙ sym c.type_named.ensures ∙ ap (option_map (λ (t : Bor NamedType). plain_named t.now)) c.in-None.is in
    let nothing : find (λ f. bytes_eq f.name name) functions ≡ None =
    ap (λ (fs : List NamedFunc). find (λ f. bytes_eq f.name name) (map plain_named_func fs)) (sym c.as_slice-in-None.ensures)
    ∙ sym c.function_named.ensures ∙ ap (option_map (λ (f : Bor NamedFunc). plain_named_func f.now)) c.in-None-function_named.is in
    ap (if_found (λ other. matched_item c.args.by.now other (item_of c.args.entry.now.ty))) (found_function name types functions None none nothing)

pub returns-in_ok-same-in-Some-function_named : goal.returns-in_ok-same-in-Some-function_named
returns-in_ok-same-in-Some-function_named c =
    let name = c.args.entry.now.name in
    let types = map plain_named c.args.offered.now.types in
    let functions = map plain_named_func c.args.offered.now.functions in
    let none : find (λ t. bytes_eq t.name name) types ≡ None =
    ap (λ (ts : List NamedType). find (λ t. bytes_eq t.name name) (map plain_named ts)) (sym c.as_slice.ensures)
    ∙ sym c.type_named.ensures ∙ ap (option_map (λ (t : Bor NamedType). plain_named t.now)) c.in-None.is in
    let found : find (λ f. bytes_eq f.name name) functions ≡ Some (plain_named_func c.in-Some-function_named.found.now) =
    ap (λ (fs : List NamedFunc). find (λ f. bytes_eq f.name name) (map plain_named_func fs)) (sym c.as_slice-in-None.ensures)
    ∙ sym c.function_named.ensures ∙ ap (option_map (λ (f : Bor NamedFunc). plain_named_func f.now)) c.in-Some-function_named.is in
    subst (λ (o : Option Item). GoesOn c.in_ok-same-in-Some-function_named.same c.match_function.new.by (if_found (λ other. matched_item c.args.by.now other (item_of c.args.entry.now.ty)) o))
    (sym (found_function name types functions (Some (plain_named_func c.in-Some-function_named.found.now)) none found)) c.in_ok-same-in-Some-function_named.ensures
