-- Locals and their widths.
use Rattle.std.proofs.Common.{◌≡◌, ℕ, zero, suc, ◌<◌, List, [], ◌∷◌, length, refl, ap, arith}
use Rattle.std.specs.Prelude.{map, slice_set}
use Rattle.adapter_code.specs.declared.statement.Width.{Width}
use Rattle.adapter_code.specs.declared.state.Local.{Local}
use Rattle.adapter_code.specs.declared.state.Local.TheVariants.{Small, Wide}
use Rattle.adapter_code.specs.Run.{local_width, with_value, local_at}
use Rattle.adapter_code.specs.WellFormed.{HasWidth}

pub widths_set : (ls : List Local) (i n : ℕ) → map local_width (slice_set ls i (with_value (local_at ls i) n)) ≡ map local_width ls
widths_set [] i n = refl
widths_set (Small v ∷ ls) zero n = refl
widths_set (Wide v ∷ ls) zero n = refl
widths_set (l ∷ ls) (suc i) n = ap (λ xs. local_width l ∷ xs) (widths_set ls i n)

pub has_width : (ls : List Local) (i : ℕ) (w : Width) → HasWidth (map local_width ls) i w → local_width (local_at ls i) ≡ w
has_width [] i w h = cc
has_width (l ∷ ls) zero w h = cc
has_width (l ∷ ls) (suc i) w h = has_width ls i w h

pub has_place : (ls : List Local) (i : ℕ) (w : Width) → HasWidth (map local_width ls) i w → i < length ls
has_place [] i w h = cc
has_place (l ∷ ls) zero w h = omega arith
has_place (l ∷ ls) (suc i) w h = let r = has_place ls i w h in omega arith
