-- Imports of interfaces, one after others.
use Rattle.std.proofs.Common.{◌≡◌, ◌∙◌, ap, refl, sym, ℕ, List, [], ◌∷◌, ◌++◌, Some}
use Rattle.wit_types.specs.Plain.{Name}
use Rattle.comp_types.specs.Items.{Item, Entries, InstanceItem, End, More, and_entry}
use Rattle.wasi_listed.specs.Listed.{described}
use Rattle.wasi_match.specs.Names.{Versioned}
use Rattle.wasi_match.specs.declared.listed.ListedUse.{ListedUse}
use Rattle.wasi_match.specs.Listed.{IsNamed, IsUse, AreUses, places}

-- ---- an import has one meaning

pub one_name : (name : Name) (item : Item) (a b : Versioned) (es fs : Entries) → IsNamed name item a es → IsNamed name item b fs → (a ≡ b) × (es ≡ fs)
one_name name item a b es fs h g =
    let names : Some a ≡ Some b = sym h.named ∙ g.named in
    let items : InstanceItem es ≡ InstanceItem fs = sym h.instance ∙ g.instance in
    (cc, cc)

abbrev taken : ℕ → Name → List ℕ → ListedUse
taken i v fs = record { interface = i; version = v; functions = fs }

same_use : (a b : ListedUse) → a.interface ≡ b.interface → a.version ≡ b.version → a.functions ≡ b.functions → a ≡ b
same_use a b i v f =
    ap (λ n. taken n a.version a.functions) i ∙ ap (λ n. taken b.interface n a.functions) v ∙ ap (taken b.interface b.version) f

pub one_use : (Meets Others : ℕ → ℕ → Type 0) (name : Name) (item : Item) (a b : ListedUse) → IsUse Meets name item a → IsUse Others name item b → a ≡ b
one_use Meets Others name item a b h g =
    let o = one_name name item _ _ h.entries g.entries h.named g.named in
    let interface : a.interface ≡ b.interface = ap (λ v. v.interface) o.0 in
    let version : a.version ≡ b.version = ap (λ v. v.version) o.0 in
    let functions : a.functions ≡ b.functions =
    h.functions ∙ ap (λ n. places (described n).functions h.entries) interface ∙ ap (places (described b.interface).functions) o.1 ∙ sym g.functions in
    same_use a b interface version functions

-- ---- one import more

pub uses-push : (Meets : ℕ → ℕ → Type 0) (before : Entries) (name : Name) (item : Item) (uses : List ListedUse) (taken : ListedUse)
    → AreUses Meets before uses → IsUse Meets name item taken → AreUses Meets (and_entry before name item) (uses ++ taken ∷ [])
uses-push Meets End name item uses taken a u = (taken, [], ap (λ us. us ++ taken ∷ []) a, u, refl)
uses-push Meets (More m j rest) name item uses taken a u = (a.0, a.1 ++ taken ∷ [], ap (λ us. us ++ taken ∷ []) a.2, a.3, uses-push Meets rest name item a.1 taken a.4 u)

pub uses-last : (Meets : ℕ → ℕ → Type 0) (before : Entries) (name : Name) (item : Item) (uses : List ListedUse) → AreUses Meets (and_entry before name item) uses
    → (front : List ListedUse) × (last : ListedUse) × (uses ≡ front ++ last ∷ []) × AreUses Meets before front × IsUse Meets name item last
uses-last Meets End name item uses a = ([], a.0, a.2 ∙ ap (λ us. a.0 ∷ us) a.4, refl, a.3)
uses-last Meets (More m j rest) name item uses a =
    let r = uses-last Meets rest name item a.1 a.4 in
    (a.0 ∷ r.0, r.1, a.2 ∙ ap (λ us. a.0 ∷ us) r.2, (a.0, r.0, refl, a.3, r.3), r.4)

-- ---- two readings of the same imports

pub uses-same : (Meets Others : ℕ → ℕ → Type 0) (imports : Entries) (uses others : List ListedUse) → AreUses Meets imports uses → AreUses Others imports others → uses ≡ others
uses-same Meets Others End uses others a b = a ∙ sym b
uses-same Meets Others (More name item rest) uses others a b =
    let first = one_use Meets Others name item a.0 b.0 a.3 b.3 in
    let more = uses-same Meets Others rest a.1 b.1 a.4 b.4 in
    a.2 ∙ ap (λ u. u ∷ a.1) first ∙ ap (λ us. b.0 ∷ us) more ∙ sym b.2
