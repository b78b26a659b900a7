-- Values that are not of a form.
use Rattle.std.specs.Prelude.{◌≡◌, true, false}
use Rattle.wit_types.specs.PlainValue.{PlainValue}
use Rattle.abi_layout.specs.Storing.{on_string, on_list, on_record, on_variant}

abbrev pub IsNoString : PlainValue → Type 0
IsNoString v = on_string true (λ _. false) v ≡ true

abbrev pub IsNoList : PlainValue → Type 0
IsNoList v = on_list true (λ _. false) v ≡ true

abbrev pub IsNoRecord : PlainValue → Type 0
IsNoRecord v = on_record true (λ _. false) v ≡ true

abbrev pub IsNoVariant : PlainValue → Type 0
IsNoVariant v = on_variant true (λ _ _. false) v ≡ true
