-- Texts without an escape.
use Rattle.std.proofs.Common.{◌≡◌, ◌≢◌, ℕ, Bool, true, false, not, ◌==◌, List, [], ◌∷◌, ◌++◌, All, refl, sym, ap, ap₂, ◌∙◌, arith, append-nil, filter, get_or, suc, if◌then◌else◌}
use Rattle.std.proofs.lemmas.List.Elements.{All-from_get_or, filter-append, filter_passes}
use Rattle.std.proofs.lemmas.Bool.Decides.{nat_tests}
use Rattle.std.proofs.lemmas.Str.{inside_one}
use Rattle.std.specs.Str.{encode_utf8_all}
use Rattle.std.specs.Prelude.{encode_utf8}
use lib.Utf8.{encode}
use Rattle.tigertopo_words.specs.Escapes.{escape, plain_text}

-- the number is no escape
abbrev pub is_plain : ℕ → Bool
is_plain c = not (c == escape)

-- of the bytes that spell a character, one is an escape only where the character is
All-encode_utf8 : (c : ℕ) → c ≢ escape → All (λ byte. byte ≢ escape) (encode_utf8 c)
All-encode_utf8 c other =
    All-from_get_or (λ byte. byte ≢ escape) (encode_utf8 c) 0
    (λ k within same. other (inside_one c _ (encode_utf8 c) k (sym (append-nil _)) within (omega arith) ∙ same))

-- a text without an escape stays
plain_text-none : (text : List ℕ) → All (λ byte. byte ≢ escape) text → plain_text text ≡ text
plain_text-none [] h = refl
plain_text-none (x ∷ xs) h =
    let other : x ≢ escape = h 0 0 (omega arith) in
    let here : (x == escape) ≡ false = grind (arith, nat_tests) in
    rw here (ap (λ l. x ∷ l) (plain_text-none xs (λ k d within. h (suc k) d (omega arith))))

plain_text-encode : (c : ℕ) (test : Bool) → (c == escape) ≡ test
    → plain_text (encode_utf8 c) ≡ (if not test then encode_utf8 c else [])
unfolding encode
plain_text-encode c true e =
    let same : c ≡ escape = grind (arith, nat_tests) in
    ap (λ n. plain_text (encode_utf8 n)) same
plain_text-encode c false e =
    let other : c ≢ escape = grind (arith, nat_tests) in
    plain_text-none (encode_utf8 c) (All-encode_utf8 c other)

kept : (c : ℕ) (cs : List ℕ) (test : Bool) → (c == escape) ≡ test
    → encode_utf8_all (if not test then c ∷ cs else cs) ≡ (if not test then encode_utf8 c else []) ++ encode_utf8_all cs
kept c cs true e = refl
kept c cs false e = refl

-- characters that are kept, spelt
pub plain_text-chars : (cs : List ℕ) → plain_text (encode_utf8_all cs) ≡ encode_utf8_all (filter is_plain cs)
plain_text-chars [] = refl
plain_text-chars (c ∷ cs) =
    filter-append is_plain (encode_utf8 c) (encode_utf8_all cs)
    ∙ ap₂ (λ a b. a ++ b) (plain_text-encode c (c == escape) refl) (plain_text-chars cs)
    ∙ sym (kept c (filter is_plain cs) (c == escape) refl)

-- a text that was made plain has no escape
pub All-plain_text : (text : List ℕ) → All (λ byte. byte ≢ escape) (plain_text text)
All-plain_text text k d within same =
    let kept : is_plain (get_or (plain_text text) k d) ≡ true = filter_passes is_plain text k d within in
    let lost : is_plain (get_or (plain_text text) k d) ≡ false = ap is_plain same in
    cc
