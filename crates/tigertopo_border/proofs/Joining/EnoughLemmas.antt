-- The maps of several texts, and that of their borders' texts, decide the map of all texts as one.
use Rattle.std.proofs.Common.{◌≡◌, ◌↔◌, ℕ, zero, suc, List, [], ◌∷◌, length, Some, None, refl, arith}
use Rattle.std.specs.Prelude.{slice_get}
use Rattle.tl_record.specs.declared.options.Options.{Options}
use Rattle.tl_record.specs.declared.options.TheConstants.{PLAIN}
use Rattle.tl_record.specs.Layout.{layout_with}
use Rattle.tl_record.specs.Records.{records_of}
use Rattle.tl_map_county.specs.TheMap.{TheMap}
use Rattle.tl_map_rules.specs.Reading.{IsReadFrom}
use Rattle.tigertopo_border.specs.Whole.Borders.{IsBorderOf, AreBordersOf}
use Rattle.tigertopo_border.specs.Whole.Sound.{IsSoundWithFaces, AreSoundWithFaces}
use Rattle.tigertopo_border.proofs.WholeLemmas.Bordering.{joined_borders}
use Rattle.tigertopo_border.proofs.WholeLemmas.Enough.{parts_are_enough}
use Rattle.tigertopo_border.specs.Border.{border_text}
use Rattle.tigertopo_border.specs.Spellable.{IsName}
use Rattle.tigertopo_border.specs.Readable.{IsReadable}
use Rattle.tigertopo_border.specs.Again.{IsReadAgain}
use Rattle.tigertopo_border.specs.Parts.{homes_of}
use Rattle.tigertopo_border.specs.InParts.{border_texts, records_together, AreReadApart, IsDrawnInParts}
use Rattle.tigertopo_border.proofs.LawLemmas.{read_again}
use Rattle.tigertopo_border.proofs.ReadableLemmas.{text_readable}
use Rattle.tigertopo_border.proofs.Joining.WalkLemmas.{rising_chains}
use Rattle.tigertopo_border.proofs.Joining.DrawnLemmas.{item_beside}
use Rattle.tigertopo_border.proofs.Joining.ProperLemmas.{proper_chains}
use Rattle.tigertopo_border.proofs.Joining.TextsLemmas.{texts_joined}
use Rattle.tigertopo_border.proofs.Joining.BorderLemmas.{of_borders_joined}

-- maps whose borders are read of their texts
pub record HaveBorders (names : List (List ℕ)) (parts : List TheMap) : Type 0 where
  pub borders : List TheMap
  pub apart : AreReadApart PLAIN (border_texts names parts) borders
  pub are : AreBordersOf parts borders

one_more : (name : List ℕ) (names : List (List ℕ)) (part : TheMap) (parts : List TheMap) → IsReadAgain name part → HaveBorders names parts → HaveBorders (name ∷ names) (part ∷ parts)
one_more name names part parts again rest =
    let many = rest.apart.many in
    let many_too = rest.are.many in
    record {
      borders = again.border ∷ rest.borders;
      apart = record { many = omega (arith, many); each = λ k text border is at. read k text border is at };
      are = record { many = omega (arith, many_too); each = λ k one border is at. border_of k one border is at };
    }
  where
    read : (k : ℕ) (text : List ℕ) (border : TheMap) → slice_get (border_texts (name ∷ names) (part ∷ parts)) k ≡ Some text → slice_get (again.border ∷ rest.borders) k ≡ Some border
        → IsReadFrom (records_of (layout_with PLAIN) text) border
    read zero text border is at =
        let text_is : border_text name part ≡ text = cc in
        let border_is : again.border ≡ border = cc in
        let own : IsReadFrom (records_of (layout_with PLAIN) (border_text name part)) again.border = again.drawn in
        rw (← text_is, ← border_is) own
    read (suc k) text border is at = rest.apart.each k text border is at

    border_of : (k : ℕ) (one border : TheMap) → slice_get (part ∷ parts) k ≡ Some one → slice_get (again.border ∷ rest.borders) k ≡ Some border → IsBorderOf one border
    border_of zero one border is at =
        let one_is : part ≡ one = cc in
        let border_is : again.border ≡ border = cc in
        rw (← one_is, ← border_is) (again.is_border again.border again.drawn)
    border_of (suc k) one border is at = rest.are.each k one border is at

pub have_borders : (names : List (List ℕ)) (parts : List TheMap) → length names ≡ length parts → ((k : ℕ) (name : List ℕ) → slice_get names k ≡ Some name → IsName name)
    → ((k : ℕ) (part : TheMap) → slice_get parts k ≡ Some part → IsReadable part) → HaveBorders names parts
have_borders [] [] many named readable = record {
  borders = [];
  apart = record { many = refl; each = λ k text border is at. absurd (let wrong : None ≡ Some text = is in cc) };
  are = record { many = refl; each = λ k part border is at. absurd (let wrong : None ≡ Some part = is in cc) };
}
have_borders [] (part ∷ parts) many named readable = absurd (omega (arith, many))
have_borders (name ∷ names) [] many named readable = absurd (omega (arith, many))
have_borders (name ∷ names) (part ∷ parts) many named readable =
    one_more name names part parts (read_again name part (named 0 name refl) (readable 0 part refl))
    (have_borders names parts (omega (arith, many)) (λ k other is. named (suc k) other is) (λ k other is. readable (suc k) other is))

module _ (options : Options) (texts names : List (List ℕ)) (parts : List TheMap) (m b : TheMap) (read : IsDrawnInParts options texts names parts m b) where
  part_readable : (k : ℕ) (part : TheMap) → slice_get parts k ≡ Some part → IsReadable part
  part_readable k part at =
      let text = item_beside texts parts k part read.apart.many at in
      text_readable options text.0 part (read.apart.each k text.0 part text.1 at)

  pub have : HaveBorders names parts
  have = have_borders names parts read.named.many read.named.each part_readable

  pub decided : IsSoundWithFaces m ↔ (AreSoundWithFaces parts × IsSoundWithFaces b)
  decided =
      let rising = rising_chains m.chains read.together.map.chains.rising in
      let border_rising = rising_chains b.chains read.borders.map.chains.rising in
      let together = texts_joined options texts parts m read.apart read.together in
      let borders = of_borders_joined parts have.borders m b together have.are (texts_joined PLAIN (border_texts names parts) have.borders b have.apart read.borders) read.empty_last border_rising in
      parts_are_enough (homes_of parts) parts m b together (joined_borders (homes_of parts) parts have.borders m b together have.are borders rising border_rising)
      (proper_chains (records_together options texts) m read.together.no_fault read.together.map)
