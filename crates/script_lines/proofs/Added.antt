-- What is added to a text that is written token by token, step for step.
use Rattle.std.proofs.Common.{◌≡◌, ◌∙◌, ℕ, ℤ, ◌∷◌, ◌++◌, [], List, true, false, Some, None, decimal, refl, ap, ap₂, subst, append_assoc}
use Rattle.std.specs.Fmt.{signed_decimal}
use Rattle.std.proofs.lemmas.Bool.{or_parts}
use Rattle.json.specs.Token.{Token}
use Rattle.json.specs.Print.{print}
use Rattle.json.specs.Tree.{json_tokens, items_tokens, members_tokens}
use Rattle.json.specs.Written.{Written}
use Rattle.serde_json.specs.Data.{Num, unsigned, negative, float, Data, Items, item, Members, member}
use Rattle.serde_json.specs.Find.{as_u64, as_i64, is_float}
use Rattle.serde_json.specs.Written.{number_text, outline, items_outline, members_outline, has_float, items_have_float, members_have_float, compact_text}
use Rattle.serde_json.proofs.Texts.{print-outline}
use Rattle.script_lines.specs.Added.{Adds, AddsData, AddsItems, AddsExact, AddsExactItems, AddsExactMembers}

-- ---- steps one after the other

pub adds_more : (a b c : Written) (ts us : List Token) → Adds a b ts → Adds b c us → Adds a c (ts ++ us)
adds_more a b c ts us first next = (next.0 ∙ ap (λ x. x ++ us) first.0 ∙ append_assoc a.tokens ts us, next.1 ∙ first.1)

-- ---- numbers

pub u64_text : (x : Num) (n : ℕ) → Some n ≡ as_u64 x → decimal n ≡ number_text x
u64_text (unsigned m) n h = ap decimal cc
u64_text (negative z) n h = absurd cc
u64_text (float x) n h = absurd cc

pub i64_text : (x : Num) (z : ℤ) → as_u64 x ≡ None → Some z ≡ as_i64 x → signed_decimal z ≡ number_text x
i64_text (unsigned m) z none h = absurd cc
i64_text (negative y) z none h = ap signed_decimal cc
i64_text (float x) z none h = absurd cc

pub no_text : (x : Num) → as_u64 x ≡ None → None ≡ as_i64 x → is_float x ≡ true
no_text (unsigned m) none h = absurd cc
no_text (negative y) none h = absurd cc
no_text (float x) none h = refl

-- ---- trees

pub exact_item : (a b c : Written) (d : Data) (ds : Items) → AddsExact a b d → AddsExactItems b c ds → AddsExactItems a c (item d ds)
exact_item a b c d ds first rest whole =
    let parts = or_parts (has_float d) (items_have_float ds) whole in
    adds_more a b c (json_tokens (outline d)) (items_tokens (items_outline ds)) (first parts.0) (rest parts.1)

pub exact_member : (a b c e : Written) (k : List ℕ) (d : Data) (ms : Members) → Adds a b (Token.key k ∷ []) → AddsExact b c d → AddsExactMembers c e ms → AddsExactMembers a e (member k d ms)
exact_member a b c e k d ms key first rest whole =
    let parts = or_parts (has_float d) (members_have_float ms) whole in
    adds_more a b e (Token.key k ∷ []) (json_tokens (outline d) ++ members_tokens (members_outline ms)) key
    (adds_more b c e (json_tokens (outline d)) (members_tokens (members_outline ms)) (first parts.0) (rest parts.1))

-- ---- data

pub adds_item : (a b c : Written) (d : Data) (ds : Items) → AddsData a b d → AddsItems b c ds → AddsItems a c (item d ds)
adds_item a b c d ds first rest = adds_more a b c (json_tokens (outline d)) (items_tokens (items_outline ds)) first rest

pub exact_data : (a b : Written) (d e : Data) → d ≡ e → has_float e ≡ false → AddsExact a b d → AddsData a b e
exact_data a b d e is whole added = subst (AddsData a b) is (added (ap has_float is ∙ whole))

-- the text of all that was written since the start
pub written_text : (a b : Written) (d : Data) → a.before ≡ [] → a.tokens ≡ [] → AddsData a b d → b.before ++ print b.tokens ≡ compact_text d
written_text a b d start none added =
    ap₂ (λ s ts. s ++ print ts) (added.1 ∙ start) (added.0 ∙ ap (λ ts. ts ++ json_tokens (outline d)) none) ∙ print-outline d
