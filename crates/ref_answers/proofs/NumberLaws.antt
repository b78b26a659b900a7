-- The place of an interface's name among the described interfaces is its number by the tables.
use Rattle.std.proofs.lemmas.Bool.Decides.{nat_tests}
use Rattle.std.proofs.Common.{◌≡◌, ℕ, zero, suc, ◌+◌, ◌<◌, List, [], ◌∷◌, ◌++◌, Bool, true, false, not, cond, Option, Some, None, length, map, get_or, refl, sym, ap, ◌∙◌, arith}
use Rattle.std.specs.Prelude.{position, nat_lt}
use Rattle.std.specs.List.{position_from, position_or_len}
use Rattle.std.specs.Str.{bytes_eq}
use Rattle.wit_types.specs.Plain.{Name}
use Rattle.wasi_table.specs.declared.interface.Interface.{Interface}
use Rattle.wasi_table.specs.Plain.{PlainInterface, plain_interface}
use Rattle.wasi_table.specs.Texts.{table_of}
use Rattle.wasi_table.specs.Forms.{form_named}
use Rattle.wasi_table.specs.Types.{kind_of}
use Rattle.wasi_table.specs.Tables.{Items, name_in, numbered, described as described_by}
use Rattle.wasi_listed.specs.declared.io_table.TheConstants.{TABLE as IO}
use Rattle.wasi_listed.specs.declared.fs_table.TheConstants.{TABLE as FS}
use Rattle.wasi_listed.specs.declared.net_table.TheConstants.{TABLE as NET}
use Rattle.wasi_listed.specs.IoListed.{numbered as numbered_io, described as described_io, known_types}
use Rattle.wasi_listed.specs.FsListed.{numbered as numbered_fs, described as described_fs}
use Rattle.wasi_listed.specs.NetListed.{numbered as numbered_net, described as described_net}
use Rattle.reference_step.specs.Listed.{interface_at, interface_numbered, or_else}
use Rattle.ref_answers.specs.Versions.{AreDescribed}

abbrev has_name : Name → Name → Bool
has_name name other = bytes_eq other name

-- the names of a table's interfaces
abbrev names_in : List Items → List Name
names_in table = map name_in table

-- the names of that many interfaces, from this number on
abbrev names_from : ℕ → ℕ → List Name
names_from zero i = []
names_from (suc n) i = (interface_at i).name ∷ names_from n (i + 1)

in_table : (number : ℕ) (table : List Items) (name : Name) → numbered number table name ≡ position_from (has_name name) number (names_in table)
in_table number [] name = refl
in_table number (items ∷ rest) name = ap (cond (bytes_eq (name_in items) name) (Some number)) (in_table (number + 1) rest name)

-- a search in two lists, one after the other
joined : {X : Type 0} (p : X → Bool) (n : ℕ) (xs ys : List X) → or_else (position_from p n xs) (position_from p (n + length xs) ys) ≡ position_from p n (xs ++ ys)
joined p n [] ys = ap (λ k. position_from p k ys) (omega arith)
joined p n (x ∷ xs) ys = by (p x) (joined p (n + 1) xs ys)
  where
    same : n + length (x ∷ xs) ≡ n + 1 + length xs
    same = omega arith

    by : (b : Bool) → or_else (position_from p (n + 1) xs) (position_from p (n + 1 + length xs) ys) ≡ position_from p (n + 1) (xs ++ ys)
        → or_else (cond b (Some n) (position_from p (n + 1) xs)) (position_from p (n + length (x ∷ xs)) ys) ≡ cond b (Some n) (position_from p (n + 1) (xs ++ ys))
    by true others = refl
    by false others = ap (λ k. or_else (position_from p (n + 1) xs) (position_from p k ys)) same ∙ others

position_map : {X Y : Type 0} (f : X → Y) (p : Y → Bool) (n : ℕ) (xs : List X) → position_from p n (map f xs) ≡ position_from (λ x. p (f x)) n xs
position_map f p n [] = refl
position_map f p n (x ∷ xs) = ap (cond (p (f x)) (Some n)) (position_map f p (n + 1) xs)

-- a search from a number on gives that much more than the place
abbrev behind : ℕ → ℕ → ℕ → Option ℕ
behind n place many = cond (nat_lt place many) (Some (n + place)) None

behind_one : (n place many : ℕ) → behind (n + 1) place many ≡ behind n (1 + place) (suc many)
behind_one n place many =
    let less : nat_lt place many ≡ nat_lt (1 + place) (suc many) = grind (arith, nat_tests) in
    let more : n + 1 + place ≡ n + (1 + place) = omega arith in
    ap (λ k. cond (nat_lt place many) (Some k) None) more ∙ ap (λ b. cond b (Some (n + (1 + place))) None) less

behind_none : (n many : ℕ) → Some n ≡ behind n 0 (suc many)
behind_none n many =
    let less : nat_lt 0 (suc many) ≡ true = grind (arith, nat_tests) in
    let same : n ≡ n + 0 = omega arith in
    ap Some same ∙ ap (λ b. cond b (Some (n + 0)) None) (sym less)

from_place : {X : Type 0} (p : X → Bool) (n : ℕ) (xs : List X) → position_from p n xs ≡ behind n (position_or_len p xs) (length xs)
from_place p n [] = refl
from_place p n (x ∷ xs) = by (p x) (from_place p (n + 1) xs)
  where
    by : (b : Bool) → position_from p (n + 1) xs ≡ behind (n + 1) (position_or_len p xs) (length xs)
        → cond b (Some n) (position_from p (n + 1) xs) ≡ behind n (cond (not b) (1 + position_or_len p xs) 0) (suc (length xs))
    by true others = behind_none n (length xs)
    by false others = others ∙ behind_one n (position_or_len p xs) (length xs)

from_first : {X : Type 0} (p : X → Bool) (xs : List X) → position_from p 0 xs ≡ position p xs
from_first p xs =
    let none : 0 + position_or_len p xs ≡ position_or_len p xs = omega arith in
    from_place p 0 xs ∙ ap (λ k. cond (nat_lt (position_or_len p xs) (length xs)) (Some k) None) none

abbrev all_names : List Name
all_names = names_in (table_of IO.now) ++ (names_in (table_of FS.now) ++ names_in (table_of NET.now))

all_named : names_from 27 0 ≡ all_names
unfolding described_by described_io described_fs described_net known_types form_named kind_of
all_named = refl

by_tables : (name : Name) → interface_numbered name ≡ position_from (has_name name) 0 all_names
unfolding numbered_io numbered_fs numbered_net
by_tables name =
    ap (λ o. or_else o (or_else (numbered 18 (table_of FS.now) name) (numbered 20 (table_of NET.now) name))) (in_table 0 (table_of IO.now) name)
    ∙ ap (λ o. or_else (position_from (has_name name) 0 (names_in (table_of IO.now))) (or_else o (numbered 20 (table_of NET.now) name))) (in_table 18 (table_of FS.now) name)
    ∙ ap (λ o. or_else (position_from (has_name name) 0 (names_in (table_of IO.now))) (or_else (position_from (has_name name) 18 (names_in (table_of FS.now))) o)) (in_table 20 (table_of NET.now) name)
    ∙ ap (or_else (position_from (has_name name) 0 (names_in (table_of IO.now)))) (joined (has_name name) 18 (names_in (table_of FS.now)) (names_in (table_of NET.now)))
    ∙ joined (has_name name) 0 (names_in (table_of IO.now)) (names_in (table_of FS.now) ++ names_in (table_of NET.now))

are_named : (n i : ℕ) (xs : List Interface) → length xs ≡ n → ((j : ℕ) (d : Interface) → j < n → plain_interface (get_or xs j d) ≡ interface_at (i + j)) → map (λ x. x.name) xs ≡ names_from n i
are_named zero i [] all each = refl
are_named zero i (x ∷ xs) all each = absurd (omega (arith, all))
are_named (suc n) i [] all each = absurd (omega (arith, all))
are_named (suc n) i (x ∷ xs) all each =
    let here : i + 0 ≡ i = omega arith in
    let first : x.name ≡ (interface_at i).name = ap (λ (p : PlainInterface). p.name) (each 0 x (omega arith) ∙ ap interface_at here) in
    let others = are_named n (i + 1) xs (omega (arith, all)) (λ j d less. let more : i + suc j ≡ i + 1 + j = omega arith in each (suc j) d (omega (arith, less)) ∙ ap interface_at more) in
    ap (λ name. name ∷ map (λ x. x.name) xs) first ∙ ap (λ names. (interface_at i).name ∷ names) others

module _ (interfaces : List Interface) (all : AreDescribed interfaces) (name : Name) where
  number_is : position (λ i. bytes_eq i.name name) interfaces ≡ interface_numbered name
  number_is =
      sym (from_first (λ i. bytes_eq i.name name) interfaces)
      ∙ sym (position_map (λ i. i.name) (has_name name) 0 interfaces)
      ∙ ap (position_from (has_name name) 0) (are_named 27 0 interfaces all.all (λ j d less. let same : j ≡ 0 + j = omega arith in all.each j d less ∙ ap interface_at same) ∙ all_named)
      ∙ sym (by_tables name)

  pub number_found : (others : List Interface) (place o : Option ℕ) → others ≡ interfaces → place ≡ position (λ i. bytes_eq i.name name) others → place ≡ o → o ≡ interface_numbered name
  number_found others place o same found is = sym is ∙ found ∙ ap (position (λ i. bytes_eq i.name name)) same ∙ number_is
