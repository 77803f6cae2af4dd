-- A word that stands first among bytes, and what follows it.
use Rattle.std.proofs.Common.{◌≡◌, ◌≢◌, ℕ, ℤ, zero, suc, ◌+◌, ◌-◌, ◌<◌, ◌≤◌, take, drop, take_all, length-drop, ap, subst, All, List, [], ◌∷◌, ◌++◌, length, get_or, below_more, refl, sym, ◌∙◌, arith, decimal, FitsSigned, w32}
use Rattle.std.proofs.lemmas.List.{get_or_default, length-take-le, get_or-take, take-append-drop}
use Rattle.std.specs.Fmt.{signed_decimal}
use Rattle.std.proofs.lemmas.List.Elements.{All-head, All-tail}
use Rattle.tl_cert.specs.Text.{number, coordinate_text}
use Rattle.tl_cert.specs.Certificates.{IsNumber}
use Rattle.tl_cert.specs.Keeping.Words.{StartsWord, IsSplit}
use Rattle.tl_cert.proofs.WordLemmas.{same_first, same_rest, decimal_no_space, signed_no_space, magnitude_32}

-- no space so far, and none here
pub none_more : (bytes : List ℕ) (end : ℕ) → end < length bytes → get_or bytes end 0 ≢ 32 → ((k d : ℕ) → k < end → get_or bytes k d ≢ 32)
    → (k d : ℕ) → k < end + 1 → get_or bytes k d ≢ 32
none_more bytes end below here none = λ k d small.
    below_more (λ k. (d : ℕ) → get_or bytes k d ≢ 32) end (λ k small d. none k d small) (λ d is. here (get_or_default bytes end 0 d below ∙ is)) k small d

-- what stands at the first space, or at the end
starts_at : (bytes : List ℕ) (end : ℕ) → (end < length bytes → get_or bytes end 0 ≡ 32) → StartsWord (drop end bytes)
starts_at [] zero ends = tt
starts_at [] (suc end) ends = tt
starts_at (byte ∷ bytes) zero ends = ends (omega arith)
starts_at (byte ∷ bytes) (suc end) ends = starts_at bytes end (λ below. ends (omega (arith, below)))

-- a word and what follows it, behind a space
pub word_split : (bytes others : List ℕ) (end : ℕ) → bytes ≡ 32 ∷ others → end ≤ length others → ((k d : ℕ) → k < end → get_or others k d ≢ 32)
    → (end < length others → get_or others end 0 ≡ 32) → IsSplit bytes (take end others) (take (length others - end) (drop end others))
word_split bytes others end is within none ends =
    let all : take (length others - end) (drop end others) ≡ drop end others = take_all (length others - end) (drop end others) (omega (arith, length-drop end others)) in
    record {
      joined = is ∙ ap (λ l. 32 ∷ l) (sym (ap (λ l. take end others ++ l) all ∙ take-append-drop end others));
      inside = λ k d small.
          let here : k < end = omega (arith, small, length-take-le end others within) in
          λ space. none k d here (sym (get_or-take end others k d here) ∙ space);
      behind = subst StartsWord (sym all) (starts_at others end ends);
    }

-- words up to their end
words_only : (front other x y : List ℕ) → All (λ byte. byte ≢ 32) front → All (λ byte. byte ≢ 32) other → StartsWord x → StartsWord y
    → front ++ x ≡ other ++ y → (front ≡ other) × (x ≡ y)
words_only [] [] x y none nothing starts begins same = (refl, same)
words_only [] (byte ∷ other) [] y none nothing starts begins same = absurd (no_front byte (other ++ y) same)
  where
    no_front : (byte : ℕ) (bytes : List ℕ) → [] ≡ byte ∷ bytes → ⊥
    no_front byte bytes same = cc
words_only [] (byte ∷ other) (next ∷ x) y none nothing starts begins same =
    absurd (All-head (λ byte. byte ≢ 32) byte other nothing (sym (same_first next byte x (other ++ y) same) ∙ starts))
words_only (byte ∷ front) [] x [] none nothing starts begins same = absurd (no_back byte (front ++ x) same)
  where
    no_back : (byte : ℕ) (bytes : List ℕ) → byte ∷ bytes ≡ [] → ⊥
    no_back byte bytes same = cc
words_only (byte ∷ front) [] x (next ∷ y) none nothing starts begins same =
    absurd (All-head (λ byte. byte ≢ 32) byte front none (same_first byte next (front ++ x) y same ∙ begins))
words_only (byte ∷ front) (next ∷ other) x y none nothing starts begins same =
    let rest = words_only front other x y (All-tail (λ byte. byte ≢ 32) byte front none) (All-tail (λ byte. byte ≢ 32) next other nothing) starts begins
    (same_rest byte next (front ++ x) (other ++ y) same) in
    let first = same_first byte next (front ++ x) (other ++ y) same in
    (cc (first, rest.0), rest.1)

-- what stands first behind a space is the word
pub split_only : (bytes word rest other others : List ℕ) → IsSplit bytes word rest → All (λ byte. byte ≢ 32) other → StartsWord others
    → bytes ≡ 32 ∷ (other ++ others) → (word ≡ other) × (rest ≡ others)
split_only bytes word rest other others split none starts same =
    words_only word other rest others split.inside none split.behind starts (same_rest 32 32 (word ++ rest) (other ++ others) (sym split.joined ∙ same))

pub number_split : (bytes word rest : List ℕ) (n : ℕ) (others : List ℕ) → IsSplit bytes word rest → IsNumber n → StartsWord others
    → bytes ≡ number n ++ others → (word ≡ decimal n) × (rest ≡ others)
number_split bytes word rest n others split small starts same = split_only bytes word rest (decimal n) others split (decimal_no_space n (omega (arith, small))) starts same

pub coordinate_split : (bytes word rest : List ℕ) (z : ℤ) (others : List ℕ) → IsSplit bytes word rest → FitsSigned w32 z → StartsWord others
    → bytes ≡ coordinate_text z ++ others → (word ≡ signed_decimal z) × (rest ≡ others)
coordinate_split bytes word rest z others split fits starts same =
    split_only bytes word rest (signed_decimal z) others split (signed_no_space z (omega (arith, magnitude_32 z fits))) starts same
