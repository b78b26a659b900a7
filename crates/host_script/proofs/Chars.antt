-- A character is a text of one.
use Rattle.std.proofs.Common.{◌≡◌, ◌≢◌, ℕ, List, [], ◌∷◌, refl, ap, sym, ◌∙◌, true, false, Bool, ◌&&◌, append-nil}
use Rattle.std.specs.Prelude.{chars, Some, None}
use Rattle.std.specs.Str.{IsUtf8}
use lib.Utf8.{scalar, scalars, encode, encodes}
use Rattle.std.proofs.lemmas.Str.{chars-encodes, encodes-chars, scalars-chars}
use Rattle.wit_types.specs.PlainValue.{CharValue}
use Rattle.host_port.specs.Untyped.{only_char}

alone : (b : Bool) → b ≡ true → (b && true) ≡ true
alone true h = refl
alone false h = h

first_of : (a b : Bool) → (a && b) ≡ true → a ≡ true
first_of true b h = refl
first_of false b h = h

chars_one : (c : ℕ) → scalar c ≡ true → chars (encode c) ≡ c ∷ []
chars_one c s = ap chars (sym (append-nil (encode c))) ∙ chars-encodes (c ∷ []) (alone (scalar c) s)

pub one_char : (c : ℕ) (bs : List ℕ) → scalar c ≡ true → bs ≡ encode c → only_char (chars bs) ≡ Some (CharValue c)
one_char c bs s e = ap (λ x. only_char (chars x)) e ∙ ap only_char (chars_one c s)

none_of : (bs cs : List ℕ) → scalars cs ≡ true → encodes cs ≡ bs → ((c : ℕ) → scalar c ≡ true → bs ≢ encode c) → only_char cs ≡ None
none_of bs [] s e other = refl
none_of bs (c ∷ []) s e other = absurd (other c (first_of (scalar c) true s) (sym e ∙ append-nil (encode c)))
none_of bs (c ∷ d ∷ cs) s e other = refl

pub no_char : (bs : List ℕ) → IsUtf8 bs → ((c : ℕ) → scalar c ≡ true → bs ≢ encode c) → only_char (chars bs) ≡ None
no_char bs ok other = none_of bs (chars bs) (scalars-chars bs ok) (encodes-chars bs ok) other
