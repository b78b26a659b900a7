-- Where the functions of the state module stand among its functions, and what it imports.
use Rattle.std.proofs.Common.{◌≡◌, ℕ, zero, suc, ◌+◌, List, [], ◌∷◌, ◌++◌, Bool, true, false, Option, Some, None, IsSome, length, take, refl, ap, ◌∙◌, arith, length-append}
use Rattle.std.specs.Prelude.{slice_get, codes}
use Rattle.std.specs.List.{flat_map}
use Rattle.core_store.specs.declared.value.StoreFunc.{StoreFunc}
use Rattle.core_store.specs.declared.value.StoreFunc.TheVariants.{Outside}
use Rattle.core_instance.specs.declared.external.Extern.{Extern}
use Rattle.core_instance.specs.declared.external.Extern.TheVariants.{Func, Table, Memory, Global}
use Rattle.core_instance.specs.Spaces.{functions_of, memories_of, globals_of}
use Rattle.adapter_code.specs.declared.layout.Layout.{Layout}
use Rattle.adapter_code.specs.declared.statement.Width.{Width}
use Rattle.adapter_code.specs.declared.statement.Width.TheVariants.{Narrow, Broad}
use Rattle.adapter_compile.specs.Instructions.{call_at}
use Rattle.adapter_compile.specs.Handles.{Numbers, drops_type}
use Rattle.adapter_transfer.proofs.Functions.{get_back}
use Rattle.adapter_transfer.specs.declared.module.Defined.{Defined}
use Rattle.adapter_transfer.specs.Transfer.{reset_code}
use Rattle.adapter_transfer.specs.Transfer.{body_of as closed}
use Rattle.adapter_state.specs.declared.parts.Presence.{Presence}
use Rattle.adapter_state.specs.declared.parts.Presence.TheVariants.{Absent, Own, Host}
use Rattle.adapter_state.specs.declared.parts.Posts.{Posts}
use Rattle.adapter_state.specs.State.{each_kind, hosts, drop_calls, posts_of}
use Rattle.adapter_state.proofs.EachKind.{none_at}
use Rattle.adapter_bytes.specs.StateWorks.{AreDrops, has_post, before_post}

-- what the kind at a place gives, where it gives one
pub each_at : {A : Type 0} (f : ℕ → Presence → List A) → (k j i : ℕ) (ps : List Presence) (p : Presence) (x : A) → slice_get ps i ≡ Some p → j ≡ k + i → f j p ≡ x ∷ [] →
    slice_get (each_kind f k ps) (length (each_kind f k (take i ps))) ≡ Some x
each_at f k j i [] p x here is one = absurd (cc)
each_at f k j zero (q ∷ ps) p x here is one =
    let same : q ≡ p = cc in
    let first : k ≡ j = omega (arith, is) in
    ap (λ r. slice_get (f k r ++ each_kind f (suc k) ps) 0) same ∙ ap (λ n. slice_get (f n p ++ each_kind f (suc k) ps) 0) first ∙ ap (λ l. slice_get (l ++ each_kind f (suc k) ps) 0) one
each_at f k j (suc i) (q ∷ ps) p x here is one =
    get_back (f k q) (each_kind f (suc k) ps) (length (each_kind f (suc k) (take i ps))) (length (each_kind f k (take (suc i) (q ∷ ps)))) (length-append (f k q) (each_kind f (suc k) (take i ps)))
    ∙ each_at f (suc k) j i ps p x here (omega (arith, is)) one

-- ---- post-returns

abbrev name_of : Option Width → List ℕ
name_of None = codes "post"
name_of (Some Narrow) = codes "post-i32"
name_of (Some Broad) = codes "post-i64"

abbrev pub type_at : Option Width → ℕ
type_at None = 2
type_at (Some Narrow) = 0
type_at (Some Broad) = 3

abbrev pub post_of : Layout → Option Width → Defined
post_of l flat = record { name = name_of flat; ty = type_at flat; body = closed (reset_code l) }

abbrev posts_with : Bool → Bool → Bool → Posts
posts_with bare narrow broad = record { bare = bare; narrow = narrow; broad = broad }

post_there : (l : Layout) (bare narrow broad : Bool) (flat : Option Width) → has_post (posts_with bare narrow broad) flat ≡ true → slice_get (posts_of l (posts_with bare narrow broad)) (before_post (posts_with bare narrow broad) flat) ≡ Some (post_of l flat)
post_there l true narrow broad None e = refl
post_there l false narrow broad None e = absurd (cc)
post_there l true true broad (Some Narrow) e = refl
post_there l false true broad (Some Narrow) e = refl
post_there l bare false broad (Some Narrow) e = absurd (cc)
post_there l true true true (Some Broad) e = refl
post_there l true false true (Some Broad) e = refl
post_there l false true true (Some Broad) e = refl
post_there l false false true (Some Broad) e = refl
post_there l bare narrow false (Some Broad) e = absurd (cc)

pub post_here : (l : Layout) (posts : Posts) (flat : Option Width) → has_post posts flat ≡ true → slice_get (posts_of l posts) (before_post posts flat) ≡ Some (post_of l flat)
post_here l posts flat e = post_there l posts.bare posts.narrow posts.broad flat e

-- ---- what is imported

pub none_memories : (numbers : Numbers) (fs : List StoreFunc) (k : ℕ) (ps : List Presence) (is : List Extern) → AreDrops numbers fs k ps is → flat_map memories_of is ≡ []
none_memories numbers fs k [] [] are = refl
none_memories numbers fs k [] (i ∷ is) are = absurd are
none_memories numbers fs k (Absent ∷ ps) is are = none_memories numbers fs (suc k) ps is are
none_memories numbers fs k (Own ∷ ps) is are = none_memories numbers fs (suc k) ps is are
none_memories numbers fs k (Host ∷ ps) [] are = absurd are
none_memories numbers fs k (Host ∷ ps) (Func place ∷ is) are = none_memories numbers fs (suc k) ps is are.1
none_memories numbers fs k (Host ∷ ps) (Table place ∷ is) are = absurd are
none_memories numbers fs k (Host ∷ ps) (Memory place ∷ is) are = absurd are
none_memories numbers fs k (Host ∷ ps) (Global place ∷ is) are = absurd are

pub none_globals : (numbers : Numbers) (fs : List StoreFunc) (k : ℕ) (ps : List Presence) (is : List Extern) → AreDrops numbers fs k ps is → flat_map globals_of is ≡ []
none_globals numbers fs k [] [] are = refl
none_globals numbers fs k [] (i ∷ is) are = absurd are
none_globals numbers fs k (Absent ∷ ps) is are = none_globals numbers fs (suc k) ps is are
none_globals numbers fs k (Own ∷ ps) is are = none_globals numbers fs (suc k) ps is are
none_globals numbers fs k (Host ∷ ps) [] are = absurd are
none_globals numbers fs k (Host ∷ ps) (Func place ∷ is) are = none_globals numbers fs (suc k) ps is are.1
none_globals numbers fs k (Host ∷ ps) (Table place ∷ is) are = absurd are
none_globals numbers fs k (Host ∷ ps) (Memory place ∷ is) are = absurd are
none_globals numbers fs k (Host ∷ ps) (Global place ∷ is) are = absurd are

-- where a kind's call leads
pub record Leads (numbers : Numbers) (fs : List StoreFunc) (is : List Extern) (kind at f : ℕ) : Type 0 where
  pub index : ℕ
  pub place : ℕ
  pub behind : f ≡ at + index
  pub named : slice_get (flat_map functions_of is) index ≡ Some place
  pub outside : slice_get fs place ≡ Some (Outside drops_type (numbers.drops kind))

further : (numbers : Numbers) (fs : List StoreFunc) (place : ℕ) (is : List Extern) (kind at f : ℕ) → Leads numbers fs is kind (at + 1) f → Leads numbers fs (Func place ∷ is) kind at f
further numbers fs place is kind at f p =
    let behind = p.behind in
    record { index = suc p.index; place = p.place; behind = omega (arith, behind); named = p.named; outside = p.outside }

same_start : (numbers : Numbers) (fs : List StoreFunc) (is : List Extern) (kind at f : ℕ) → Leads numbers fs is kind (at + 0) f → Leads numbers fs is kind at f
same_start numbers fs is kind at f p =
    let behind = p.behind in
    record { index = p.index; place = p.place; behind = omega (arith, behind); named = p.named; outside = p.outside }

pub drops_lead : (numbers : Numbers) (fs : List StoreFunc) (k j : ℕ) (ps : List Presence) (is : List Extern) (at kind f : ℕ) → AreDrops numbers fs k ps is → j ≡ k + kind → call_at (drop_calls at ps) kind ≡ Some f → Leads numbers fs is j at f
drops_lead numbers fs k j [] is at kind f are e here = let never = none_at kind in absurd (cc)
drops_lead numbers fs k j (Absent ∷ ps) is at zero f are e here = absurd (cc)
drops_lead numbers fs k j (Absent ∷ ps) is at (suc kind) f are e here = same_start numbers fs is j at f (drops_lead numbers fs (suc k) j ps is (at + 0) kind f are (omega (arith, e)) here)
drops_lead numbers fs k j (Own ∷ ps) is at zero f are e here = absurd (cc)
drops_lead numbers fs k j (Own ∷ ps) is at (suc kind) f are e here = same_start numbers fs is j at f (drops_lead numbers fs (suc k) j ps is (at + 0) kind f are (omega (arith, e)) here)
drops_lead numbers fs k j (Host ∷ ps) [] at kind f are e here = absurd are
drops_lead numbers fs k j (Host ∷ ps) (Func place ∷ is) at zero f are e here =
    let same : at ≡ f = cc in
    let number : k ≡ j = omega (arith, e) in
    record { index = 0; place = place; behind = omega (arith, same); named = refl; outside = are.0 ∙ ap (λ n. Some (Outside drops_type (numbers.drops n))) number }
drops_lead numbers fs k j (Host ∷ ps) (Func place ∷ is) at (suc kind) f are e here = further numbers fs place is j at f (drops_lead numbers fs (suc k) j ps is (at + 1) kind f are.1 (omega (arith, e)) here)
drops_lead numbers fs k j (Host ∷ ps) (Table place ∷ is) at kind f are e here = absurd are
drops_lead numbers fs k j (Host ∷ ps) (Memory place ∷ is) at kind f are e here = absurd are
drops_lead numbers fs k j (Host ∷ ps) (Global place ∷ is) at kind f are e here = absurd are

pub can_drop : (at kind : ℕ) (ps : List Presence) → slice_get ps kind ≡ Some Host → IsSome (call_at (drop_calls at ps) kind)
can_drop at kind [] e = absurd (cc)
can_drop at zero (Absent ∷ ps) e = absurd (cc)
can_drop at zero (Own ∷ ps) e = absurd (cc)
can_drop at zero (Host ∷ ps) e = refl
can_drop at (suc kind) (p ∷ ps) e = can_drop (at + hosts p) kind ps e
