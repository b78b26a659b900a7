-- Functions that are gathered entry by entry.
use Rattle.std.proofs.Common.{◌≡◌, ◌∙◌, ℕ, ◌+◌, ◌<◌, ◌≤◌, List, ◌∷◌, ◌++◌, length, drop, get_or, ap, sym, append_assoc, append-nil}
use Rattle.std.proofs.lemmas.List.{drop_more, drop_all}
use Rattle.wit_types.specs.Plain.{Name}
use Rattle.comp_types.specs.Items.{More}
use Rattle.comp_types.specs.Views.{entries_of, item_of}
use Rattle.comp_types.specs.declared.types.InstanceEntry.{InstanceEntry}
use Rattle.host_script.specs.Script.{Exports}
use Rattle.component_judge.specs.Callable.{callable, functions_of, inner_functions, inner_name, one_function}

entries_cut : (entries : List InstanceEntry) (i : ℕ) (e : InstanceEntry) → i < length entries → e ≡ get_or entries i e
    → entries_of (drop i entries) ≡ More e.name (item_of e.ty) (entries_of (drop (i + 1) entries))
entries_cut entries i e h is = ap entries_of (drop_more entries i e h ∙ ap (λ y. y ∷ drop (i + 1) entries) (sym is))

-- one more after those so far
joined : (old new one later whole : Exports) → new ≡ old ++ one → old ++ (one ++ later) ≡ whole → new ++ later ≡ whole
joined old new one later whole pushed is = ap (λ xs. xs ++ later) pushed ∙ (append_assoc old one later ∙ is)

pub inner_more : (instance : Name) (old new whole : Exports) (entries : List InstanceEntry) (i : ℕ) (e : InstanceEntry) → i < length entries → e ≡ get_or entries i e
    → old ++ inner_functions instance (entries_of (drop i entries)) ≡ whole → new ≡ old ++ one_function (inner_name instance e.name) (item_of e.ty)
    → new ++ inner_functions instance (entries_of (drop (i + 1) entries)) ≡ whole
inner_more instance old new whole entries i e h is so_far pushed =
    joined old new (one_function (inner_name instance e.name) (item_of e.ty)) (inner_functions instance (entries_of (drop (i + 1) entries))) whole pushed
    (sym (ap (λ es. old ++ inner_functions instance es) (entries_cut entries i e h is)) ∙ so_far)

pub inner_all : (instance : Name) (old whole : Exports) (entries : List InstanceEntry) (i : ℕ) → length entries ≤ i
    → old ++ inner_functions instance (entries_of (drop i entries)) ≡ whole → old ≡ whole
inner_all instance old whole entries i h so_far =
    sym (append-nil old) ∙ (sym (ap (λ es. old ++ inner_functions instance (entries_of es)) (drop_all i entries h)) ∙ so_far)

pub more : (old new whole : Exports) (entries : List InstanceEntry) (i : ℕ) (e : InstanceEntry) → i < length entries → e ≡ get_or entries i e
    → old ++ callable (entries_of (drop i entries)) ≡ whole → new ≡ old ++ functions_of e.name (item_of e.ty) → new ++ callable (entries_of (drop (i + 1) entries)) ≡ whole
more old new whole entries i e h is so_far pushed =
    joined old new (functions_of e.name (item_of e.ty)) (callable (entries_of (drop (i + 1) entries))) whole pushed
    (sym (ap (λ es. old ++ callable es) (entries_cut entries i e h is)) ∙ so_far)

pub all : (old whole : Exports) (entries : List InstanceEntry) (i : ℕ) → length entries ≤ i → old ++ callable (entries_of (drop i entries)) ≡ whole → old ≡ whole
all old whole entries i h so_far = sym (append-nil old) ∙ (sym (ap (λ es. old ++ callable (entries_of es)) (drop_all i entries h)) ∙ so_far)
