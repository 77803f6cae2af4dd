-- What is printed piece by piece, told by what is still to come.
use Rattle.std.proofs.Common.{◌≡◌, ℕ, ◌+◌, ◌<◌, ◌≤◌, List, [], ◌∷◌, ◌++◌, length, get_or, drop, refl, sym, ap, ◌∙◌, append_assoc, append-nil}
use Rattle.std.proofs.lemmas.List.{drop_more, drop_all}
use Rattle.std.proofs.lemmas.Option.{slice_get_within, get_or_from_slice_get}
use Rattle.std.specs.Prelude.{slice_get, Some, flat_map}
use Rattle.tl_cert_output.specs.Pages.{IsAdding}
use Rattle.tl_cert_output.proofs.PageLemmas.{both, as_text, nothing}

-- of a whole a part was printed, and this is to come
pub record PrintsUpTo {P : Type 0} (adds : P → P → List ℕ → Type 0) (a b : P) (whole rest : List ℕ) : Type 0 where
  pub done : List ℕ
  pub prints : adds a b done
  pub left : done ++ rest ≡ whole

module _ {P : Type 0} {adds : P → P → List ℕ → Type 0} (page : IsAdding adds) where
  -- before anything is printed
  pub at_start : {a : P} {whole : List ℕ} → PrintsUpTo adds a a whole whole
  at_start = record { done = []; prints = nothing page; left = refl }

  -- a piece more
  pub piece_more : {a b c : P} {whole rest piece : List ℕ} (behind : List ℕ) → rest ≡ piece ++ behind → PrintsUpTo adds a b whole rest → adds b c piece
      → PrintsUpTo adds a c whole behind
  piece_more {piece = piece} behind split before more = record {
    done = before.done ++ piece;
    prints = both page before.prints more;
    left = append_assoc before.done piece behind ∙ ap (λ l. before.done ++ l) (sym split) ∙ before.left;
  }

  -- nothing is to come
  pub at_end : {a b : P} {whole rest : List ℕ} → rest ≡ [] → PrintsUpTo adds a b whole rest → adds a b whole
  at_end none before = as_text page before.prints (sym (append-nil before.done) ∙ ap (λ l. before.done ++ l) (sym none) ∙ before.left)

-- a list from the place of one of it on
pub from_place : {A : Type 0} (xs : List A) (n : ℕ) (x : A) → slice_get xs n ≡ Some x → drop n xs ≡ x ∷ drop (n + 1) xs
from_place xs n x is = drop_more xs n x (slice_get_within xs n x is) ∙ ap (λ y. y ∷ drop (n + 1) xs) (get_or_from_slice_get xs n x x is)

-- the text of one of a list before that of those behind it
pub flat_next : {A : Type 0} (f : A → List ℕ) (xs : List A) (i : ℕ) (d : A) → i < length xs → flat_map f (drop i xs) ≡ f (get_or xs i d) ++ flat_map f (drop (i + 1) xs)
flat_next f xs i d within = ap (flat_map f) (drop_more xs i d within)

pub flat_end : {A : Type 0} (f : A → List ℕ) (xs : List A) (i : ℕ) → length xs ≤ i → flat_map f (drop i xs) ≡ []
flat_end f xs i past = ap (flat_map f) (drop_all i xs past)

pub eight_pieces : (a b c d e f g h : List ℕ) → (a ++ b ++ c ++ d) ++ (e ++ f ++ g ++ h) ≡ a ++ b ++ c ++ d ++ e ++ f ++ g ++ h
eight_pieces a b c d e f g h = simp append_assoc

pub five_pieces : (a b c d e : List ℕ) → a ++ (b ++ c ++ d ++ e) ≡ a ++ b ++ c ++ d ++ e
five_pieces a b c d e = simp append_assoc
