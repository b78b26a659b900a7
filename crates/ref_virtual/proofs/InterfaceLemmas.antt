-- The interfaces by their numbers.
use Rattle.std.proofs.Common.{◌≡◌, ◌<◌, ◌≤◌, ℕ, [], get_or, sym}
use Rattle.std.proofs.lemmas.List.{get_or_past, get_or-map}
use Rattle.reference_step.specs.Rows.{all_rows}
use Rattle.ref_virtual.specs.declared.interfaces.Interface.{Interface}
use Rattle.ref_virtual.specs.declared.interfaces.Interface.TheVariants.{Rowless}
use Rattle.ref_virtual.specs.declared.interfaces.TheConstants.{INTERFACES}
use Rattle.ref_virtual.specs.Interfaces.{rows_of}

pub rows_at : (n : ℕ) (d : Interface) → n < 19 → rows_of (get_or INTERFACES n d) ≡ get_or all_rows n []
rows_at n d less = sym (get_or-map rows_of INTERFACES n d [] less)

pub no_rows : (n : ℕ) → 19 ≤ n → rows_of Rowless ≡ get_or all_rows n []
no_rows n past = sym (get_or_past all_rows n [] past)
