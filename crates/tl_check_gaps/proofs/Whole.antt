-- What is told about some segments that came into a list is told of the whole list, if it was before.
use Rattle.std.proofs.Common.{◌≡◌, ⊎_elim, ℕ, ◌+◌, ◌≤◌, ℤ, ◌≤ℤ◌, Option, Some, List, [], ◌∷◌, ◌++◌, length, take, drop, append_assoc, refl, sym, ap, subst}
use Rattle.std.proofs.Common.{◌∙◌, Vec, Global, arith}
use Rattle.std.specs.Prelude.{slice_get}
use Rattle.std.proofs.lemmas.Bool.{cases_order}
use Rattle.std.proofs.lemmas.Int.{ints}
use Rattle.std.proofs.lemmas.List.{append-nil, length-append, get_or_append_left}
use Rattle.std.proofs.lemmas.List.Elements.{All-push}
use Rattle.std.proofs.lemmas.List.Quantifiers.{Any-push}
use Rattle.std.proofs.Math.Seq.{take-append_seam, drop-append_seam}
use Rattle.tl_geom.specs.declared.point.Point.{Point}
use Rattle.tl_map_county.specs.TheMap.{MapChain}
use Rattle.tl_check_planar.specs.ByHeight.Heights.{height, widest}
use Rattle.tl_check_planar.specs.ByHeight.Slabs.{IsListOf}
use Rattle.tl_check_faces.specs.declared.odd.OddGap.{OddGap}
use Rattle.tl_check_faces.specs.Odd.{IsOddGap, first_number, last_number}
use Rattle.tl_check_active.specs.Blocks.Lined.{last_of}
use Rattle.tl_check_gaps.specs.declared.watch.Watch.{Watch}
use Rattle.tl_check_gaps.specs.Keeping.Passing.{HasLooked}
use Rattle.tl_check_gaps.specs.Keeping.Watched.{IsOpen}
use Rattle.tl_check_gaps.proofs.Odd.{parted, last_is, first_is}
use Rattle.tl_check_gaps.specs.Gaps.{DifferAcross, IsListed}
use Rattle.tl_check_gaps.specs.Telling.{IsToldAlong, IsKept, IsAt, IsToldAt, ListAbout, front_of, back_of, AreToldAbout}
use Rattle.tl_check_gaps.proofs.Splits.{last_behind, parted_or, EndsWithin}

-- ---- one gap

pub listed_more : (gap : OddGap) (old : List OddGap) → IsKept old (old ++ gap ∷ [])
listed_more gap old n west east a =
    let lt = a.2 in
    (a.0, a.1, omega (arith, length-append old (gap ∷ []), lt), get_or_append_left old (gap ∷ []) a.1 a.0 a.2 ∙ a.3, a.4)

module _ (chains : List MapChain) (p : Point) (west east : Option ℕ) (front back : List ℕ) (old : List OddGap) (is_west : west ≡ last_of front)
    (is_east : east ≡ slice_get back 0) where
  pub told_there : DifferAcross widest chains west east → IsToldAt chains p front back old (old ++ record { at = p; west = west; east = east } ∷ [])
  told_there odd = record {
    kept = listed_more (record { at = p; west = west; east = east }) old;
    told = λ _. Any-push (λ (g : OddGap). (g.west ≡ last_number front) × (g.east ≡ first_number back) × (height widest g.at ≤ℤ height widest p)) old
        (record { at = p; west = west; east = east }) (is_west ∙ last_is front, is_east ∙ first_is back, omega (arith, ints));
    true_ones = λ of all. All-push (IsOddGap widest chains) old (record { at = p; west = west; east = east }) all (record {
      front = front;
      back = back;
      listed = of;
      is_west = is_west ∙ last_is front;
      is_east = is_east ∙ first_is back;
      west = odd.side;
      east = odd.opposite;
      named_west = odd.named_west;
      named_east = odd.named_east;
      differ = odd.differ;
    });
    here = λ all. All-push (IsAt p) old (record { at = p; west = west; east = east }) all refl;
  }

  pub none_there : ¬ DifferAcross widest chains west east → IsToldAt chains p front back old old
  none_there never = record {
    kept = λ n w e listed. listed;
    told = λ odd. absurd (never (subst (λ o. DifferAcross widest chains o east) (sym (is_west ∙ last_is front))
        (subst (λ o. DifferAcross widest chains (last_number front) o) (sym (is_east ∙ first_is back)) odd)));
    true_ones = λ of all. all;
    here = λ all. all;
  }

-- ---- one gap more

pub none_yet : (chains : List MapChain) (p : Point) (list : ListAbout) (gaps : List OddGap) → AreToldAbout chains p list 0 gaps gaps
none_yet chains p list gaps = record {
  kept = λ n w e listed. listed;
  told = λ k lt. absurd (omega (arith, lt));
  true_ones = λ of all. all;
  here = λ all. all;
}

pub one_more : (chains : List MapChain) (p : Point) (list : ListAbout) (k : ℕ) (old mid new : List OddGap) →
    AreToldAbout chains p list k old mid → IsToldAt chains p (front_of list k) (back_of list k) mid new → AreToldAbout chains p list (k + 1) old new
one_more chains p list k old mid new before here = record {
  kept = λ n w e listed. here.kept n w e (before.kept n w e listed);
  told = λ j lt. ⊎_elim
      (λ (same : j ≡ k). subst (λ m. DifferAcross widest chains (last_number (front_of list m)) (first_number (back_of list m)) →
      IsListed widest (height widest p) (last_number (front_of list m)) (first_number (back_of list m)) new) (sym same) here.told)
      (λ w. ⊎_elim (λ less. λ odd. here.kept _ _ _ (before.told j less odd)) (λ more. absurd (omega (arith, lt, more))) w)
      (cases_order j k);
  true_ones = λ of all. here.true_ones (subst (IsListOf widest (height widest p) chains) (sym (parted list.west list.ins list.east k)) of)
      (before.true_ones of all);
  here = λ all. here.here (before.here all);
}

-- ---- the whole list

module _ (chains : List MapChain) (p : Point) (west outs ins east : List ℕ) (old new : List OddGap)
    (before : IsToldAlong chains (height widest p) (west ++ (outs ++ east)) old)
    (about : AreToldAbout chains p (record { west = west; ins = ins; east = east }) (length ins + 1) old new) where
  -- the sides differ there, and it is told
  abbrev IsSure : (one other : Option ℕ) → Type 0
  IsSure one other = DifferAcross widest chains one other → IsListed widest (height widest p) one other new

  in_west : (front back : List ℕ) → EndsWithin west (ins ++ east) front back → IsSure (last_number front) (first_number back)
  in_west front back w =
      let is : west ++ (outs ++ east) ≡ front ++ ((w.number ∷ w.more) ++ (outs ++ east)) =
      ap (λ l. l ++ (outs ++ east)) w.first ∙ append_assoc front (w.number ∷ w.more) (outs ++ east) in
      let first : first_number back ≡ Some w.number = ap first_number w.last in
      subst (IsSure (last_number front)) (sym first)
      (λ odd. about.kept (height widest p) (last_number front) (Some w.number) (before front ((w.number ∷ w.more) ++ (outs ++ east)) is odd))

  at_place : (k : ℕ) → k ≤ length ins → (front back : List ℕ) → front ≡ west ++ take k ins → back ≡ drop k ins ++ east →
      IsSure (last_number front) (first_number back)
  at_place k le front back e f =
      subst (λ l. IsSure (last_number l) (first_number back)) (sym e)
      (subst (λ l. IsSure (last_number (west ++ take k ins)) (first_number l)) (sym f) (about.told k (omega (arith, le))))

  in_ins : (front back more : List ℕ) → front ≡ west ++ more → EndsWithin ins east more back → IsSure (last_number front) (first_number back)
  in_ins front back more e w =
      let whole = w.first in
      let some : take (length more) ins ≡ more = ap (take (length more)) whole ∙ take-append_seam more (w.number ∷ w.more) in
      let others : drop (length more) ins ≡ w.number ∷ w.more = ap (drop (length more)) whole ∙ drop-append_seam more (w.number ∷ w.more) in
      let long : length ins ≡ length more + length (w.number ∷ w.more) = ap length whole ∙ length-append more (w.number ∷ w.more) in
      at_place (length more) (omega (arith, long)) front back (e ∙ ap (λ l. west ++ l) (sym some)) (w.last ∙ ap (λ l. l ++ east) (sym others))

  in_east : (front back more rest : List ℕ) → front ≡ west ++ more → more ≡ ins ++ rest → east ≡ rest ++ back → IsSure (last_number front) (first_number back)
  in_east front back more [] e f g =
      let all : take (length ins) ins ≡ ins = ap (take (length ins)) (sym (append-nil ins)) ∙ take-append_seam ins [] in
      let none : drop (length ins) ins ≡ [] = ap (drop (length ins)) (sym (append-nil ins)) ∙ drop-append_seam ins [] in
      at_place (length ins) (omega arith) front back (e ∙ ap (λ l. west ++ l) (f ∙ append-nil ins ∙ sym all)) (sym g ∙ ap (λ l. l ++ east) (sym none))
  in_east front back more (y ∷ rest) e f g =
      let is : west ++ (outs ++ east) ≡ (west ++ (outs ++ (y ∷ rest))) ++ back =
      ap (λ l. west ++ (outs ++ l)) g ∙ ap (λ l. west ++ l) (sym (append_assoc outs (y ∷ rest) back)) ∙ sym (append_assoc west (outs ++ (y ∷ rest)) back) in
      let was : last_number (west ++ (outs ++ (y ∷ rest))) ≡ last_number (y ∷ rest) =
      ap last_number (sym (append_assoc west outs (y ∷ rest))) ∙ last_behind (west ++ outs) y rest in
      let now : last_number front ≡ last_number (y ∷ rest) =
      ap last_number (e ∙ ap (λ l. west ++ l) f ∙ sym (append_assoc west ins (y ∷ rest))) ∙ last_behind (west ++ ins) y rest in
      subst (λ o. IsSure o (first_number back)) (was ∙ sym now)
      (λ odd. about.kept (height widest p) (last_number (west ++ (outs ++ (y ∷ rest)))) (first_number back) (before (west ++ (outs ++ (y ∷ rest))) back is odd))

  pub told_on : IsToldAlong chains (height widest p) ((west ++ ins) ++ east) new
  told_on front back is =
      ⊎_elim (λ w. in_west front back w)
      (λ b. ⊎_elim (λ w. in_ins front back b.more b.first w) (λ c. in_east front back b.more c.more b.first c.first c.last)
      (parted_or ins east b.more back b.last))
      (parted_or west (ins ++ east) front back (sym (append_assoc west ins east) ∙ is))

-- what is told of a slab or a lower one is told of a higher one or a lower one
pub listed_up : (m n : ℤ) (west east : Option ℕ) (gaps : List OddGap) → m ≤ℤ n → IsListed widest m west east gaps → IsListed widest n west east gaps
listed_up m n west east gaps le a = let low = a.4.2 in (a.0, a.1, a.2, a.3, (a.4.0, a.4.1, omega (arith, ints, low, le)))

pub told_up : (chains : List MapChain) (m n : ℤ) (list : List ℕ) (gaps : List OddGap) → m ≤ℤ n → IsToldAlong chains m list gaps → IsToldAlong chains n list gaps
told_up chains m n list gaps le told front back is odd = listed_up m n _ _ gaps le (told front back is odd)

-- ---- a list of which nothing was told before

pub nothing_along : (chains : List MapChain) (n : ℤ) (gaps : List OddGap) → IsToldAlong chains n [] gaps
nothing_along chains n gaps [] [] is odd = absurd (odd.differ (odd.named_west ∙ sym odd.named_east))
nothing_along chains n gaps [] (y ∷ back) is odd = absurd (cc)
nothing_along chains n gaps (x ∷ front) back is odd = absurd (cc)

pub all_told : (chains : List MapChain) (p : Point) (list : List ℕ) (old new : List OddGap) →
    AreToldAbout chains p (record { west = []; ins = list; east = [] }) (length list + 1) old new → IsToldAlong chains (height widest p) list new
all_told chains p list old new about =
    subst (λ l. IsToldAlong chains (height widest p) l new) (append-nil list)
    (told_on chains p [] [] list [] old new (nothing_along chains (height widest p) old) about)

-- ---- what is told of a vertex

pub looked : (chains : List MapChain) (p : Point) (west outs ins east : List ℕ) (gaps : Option ℕ) (old : Watch) (told : Vec OddGap Global) →
    AreToldAbout chains p (record { west = west; ins = ins; east = east }) (length ins + 1) old.told.items told.items → ¬ (gaps ≡ Some 0) →
    IsOpen old →
    HasLooked chains p (west ++ (outs ++ east)) ((west ++ ins) ++ east) gaps old (record { asked = old.asked; told = told })
looked chains p west outs ins east gaps old told about some still = record {
  asked = refl;
  told = λ still before. told_on chains p west outs ins east old.told.items told.items before about;
  kept = about.kept;
  true_ones = about.true_ones;
  here = about.here;
  quiet = λ none. absurd (some none);
  closed = λ never. absurd (never still);
}
