-- Lists of JSON that are printed in parts.
use Rattle.std.proofs.Common.{◌≡◌, ℕ, ◌+◌, ◌-◌, ◌<◌, List, [], ◌∷◌, ◌++◌, length, get_or, take, drop, codes, sym, ap, ◌∙◌, append_assoc, append-nil, arith}
use Rattle.std.proofs.Common.{Some, slice_get}
use Rattle.std.specs.Option.{option_map_or}
use Rattle.std.proofs.lemmas.Option.{slice_get-get_or}
use Rattle.std.specs.List.{flat_map}
use Rattle.std.proofs.lemmas.List.{take_all}
use Rattle.std.proofs.lemmas.Grind.{flat_map-append}
use Rattle.tigertopo_pictures.specs.Items.{separated}
use Rattle.tigertopo_faults.specs.Geojson.Named.{Pair, listed}
use Rattle.tigertopo_pictures.proofs.GeojsonLemmas.TextLemmas.{each_at}

module _ {X : Type 0} (text : X → List ℕ) where
  -- an item behind a comma
  abbrev pub behind_comma : X → List ℕ
  behind_comma x = codes "," ++ text x

  -- the first item, and those behind it
  pub separated_parts : (xs : List X) (d : X) → 0 < length xs
      → text (get_or xs 0 d) ++ flat_map behind_comma (take (length xs - 1) (drop 1 xs)) ≡ separated text xs
  separated_parts [] d some = absurd (omega arith)
  separated_parts (x ∷ rest) d some =
      ap (λ l. text x ++ flat_map behind_comma l) (take_all (length (x ∷ rest) - 1) rest (omega arith))

  -- a list behind another
  pub separated_both : (xs ys : List X) → 0 < length xs → separated text xs ++ flat_map behind_comma ys ≡ separated text (xs ++ ys)
  separated_both [] ys some = absurd (omega arith)
  separated_both (x ∷ rest) ys some =
      append_assoc (text x) (flat_map behind_comma rest) (flat_map behind_comma ys) ∙ ap (λ l. text x ++ l) (sym (flat_map-append behind_comma rest ys))

  -- one item more
  pub more_next : (xs : List X) (i : ℕ) (d : X) → i < length xs
      → flat_map behind_comma (take i xs) ++ codes "," ++ text (get_or xs i d) ≡ flat_map behind_comma (take (i + 1) xs)
  more_next xs i d within =
      append_assoc (flat_map behind_comma (take i xs)) (codes ",") (text (get_or xs i d)) ∙ sym (each_at behind_comma xs i d within)

  -- a list of two
  pub two_separated : (pair : Pair X) (x y : X) → pair.0 ≡ Some x → pair.1 ≡ Some y → text x ++ codes "," ++ text y ≡ separated text (listed pair)
  two_separated pair x y first second =
      rw (first, second) (append_assoc (text x) (codes ",") (text y) ∙ ap (λ l. text x ++ l) (sym (append-nil (codes "," ++ text y))))

-- the text of an item that is looked up
pub text_at : {X : Type 0} (text : X → List ℕ) (xs : List X) (i : ℕ) (x : X) → i < length xs → x ≡ get_or xs i x → text x ≡ option_map_or text (slice_get xs i) []
text_at text xs i x within is = rw (slice_get-get_or xs i x within) (ap text is)
