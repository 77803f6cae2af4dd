-- Where no gap is told, faces agree; and what is told at the end of a sweep is so.
use Rattle.std.proofs.Common.{◌≡◌, ◌≢◌, inl, inr, ⊎_elim, ℕ, List, [], ◌∷◌, ◌++◌, length, append_assoc, refl, sym, ap, subst, ◌∙◌, arith}
use Rattle.std.proofs.lemmas.Bool.{cases_eq}
use Rattle.tl_map_county.specs.declared.sides.Side.{Side}
use Rattle.tl_map_county.specs.declared.sides.Side.TheVariants.{Outside, Polygon}
use Rattle.tl_map_county.specs.TheMap.{MapChain}
use Rattle.tl_check_planar.specs.Planar.{IsPlanar}
use Rattle.tl_check_planar.specs.ByHeight.Heights.{widest}
use Rattle.tl_check_planar.specs.ByHeight.Slabs.{IsListOf}
use Rattle.tl_check_faces.specs.Facing.{FacesAgree}
use Rattle.tl_check_faces.specs.Lists.{AreAllNear, AreFacingFrom, west_side, east_side}
use Rattle.tl_check_faces.specs.Odd.{IsNamedWest, first_number, last_number}
use Rattle.tl_check_faces.specs.declared.odd.OddGap.{OddGap}
use Rattle.tl_check_faces.proofs.FromSlabs.{by_slabs}
use Rattle.tl_check_faces.proofs.ToFaces as faces
use Rattle.tl_check_gaps.specs.declared.watch.Gaps.{Gaps}
use Rattle.tl_check_gaps.specs.declared.watch.Gaps.TheVariants.{First, All}
use Rattle.tl_check_gaps.specs.declared.watch.Watch.{Watch}
use Rattle.tl_check_gaps.specs.Gaps.{DifferAcross, AreLowestOfEach, AreAllOddGaps}
use Rattle.tl_check_gaps.specs.Keeping.Watched.{IsOpen, AreToldOfSlabs, IsWatchedToEnd, AreTrueGaps}
use Rattle.tl_check_gaps.proofs.Keeping.{all_of_lowest}
use Rattle.tl_check_gaps.proofs.Lowest.{all_lowest, first_lowest}
use Rattle.tl_check_gaps.proofs.Splits.{last_behind}

one_side : (side other : Side) → ¬ (side ≢ other) → side ≡ other
one_side Outside Outside h = refl
one_side Outside (Polygon q) h = absurd (h (λ e. cc))
one_side (Polygon p) Outside h = absurd (h (λ e. cc))
one_side (Polygon p) (Polygon q) h = ⊎_elim (λ e. ap Polygon e) (λ ne. absurd (h (λ e. ne (same p q e)))) (cases_eq p q)
  where
    same : (p q : ℕ) → Polygon p ≡ Polygon q → p ≡ q
    same p q e = cc

module _ (chains : List MapChain) where
  facing : (front back : List ℕ) (west : Side) → IsNamedWest widest chains (last_number front) west →
      ((xs ys : List ℕ) → front ++ back ≡ xs ++ ys → ¬ DifferAcross widest chains (last_number xs) (first_number ys)) → AreFacingFrom widest chains west back
  facing front [] west named none =
      one_side west Outside (λ differ. none front [] refl (record { side = west; opposite = Outside; named_west = named; named_east = refl; differ = differ }))
  facing front (s ∷ back) west named none = λ u is. (
    one_side west (west_side widest is.joins.chain u) (λ differ.
        none front (s ∷ back) refl (record {
          side = west;
          opposite = west_side widest is.joins.chain u;
          named_west = named;
          named_east = record { segment = u; is = is; names = refl };
          differ = differ;
        })),
    facing (front ++ (s ∷ [])) back (east_side widest is.joins.chain u)
        (subst (λ o. IsNamedWest widest chains o (east_side widest is.joins.chain u)) (sym (last_behind front s []))
        (record { segment = u; is = is; names = refl }))
        (λ xs ys e. none xs ys (sym (append_assoc front (s ∷ []) back) ∙ e)),
  )

  -- where no gap of all is told, faces agree
  pub none_told : AreAllNear widest chains → IsPlanar chains → (gaps : List OddGap) → AreAllOddGaps widest chains gaps → gaps ≡ [] → FacesAgree chains
  none_told near planar gaps all none =
      faces.agree chains planar (by_slabs widest chains near planar (λ n.
      let list = all.slabs n in (
        list.0,
        list.1,
        facing [] list.0 Outside refl (λ xs ys e odd.
            let listed = all.complete n xs ys (subst (λ l. IsListOf widest n chains l) e list.1) odd in
            let lt = listed.2 in absurd (let long : length gaps ≡ 0 = ap length none in omega (arith, lt, long))),
      )))

  -- of what is told of all slabs the lowest of each are so
  pub true_of_all : AreAllNear widest chains → IsPlanar chains → (gaps kept : List OddGap) → AreToldOfSlabs chains gaps →
      AreLowestOfEach widest gaps kept → (asked : Gaps) → AreTrueGaps chains asked kept
  true_of_all near planar gaps kept told are asked =
      let whole : AreAllOddGaps widest chains kept = all_of_lowest chains planar gaps kept told are in
      record { planar = planar; true_ones = all_lowest widest chains kept whole; agree = none_told near planar kept whole; whole = λ e. whole }

  -- what is told at the end of a sweep is so
  module _ (near : AreAllNear widest chains) (planar : IsPlanar chains) (watch : Watch) (watched : IsWatchedToEnd chains watch) where
    of_slabs : IsOpen watch → AreToldOfSlabs chains watch.told.items
    of_slabs still = record { near = near; true_ones = watched.true_ones; slabs = watched.slabs still }

    pub true_first : watch.asked ≡ First → AreTrueGaps chains watch.asked watch.told.items
    true_first first = record {
      planar = planar;
      true_ones = λ k d lt. first_lowest chains near planar _ (watched.true_ones k d lt) (watched.first first k d lt);
      agree = λ none.
          none_told near planar watch.told.items
          (all_of_lowest chains planar watch.told.items watch.told.items (of_slabs (inr none)) (record {
            of_these = λ k d lt. absurd (let long : length watch.told.items ≡ 0 = ap length none in omega (arith, lt, long));
            listed = λ n west east listed. listed;
            in_order = λ i j d lt within. absurd (let long : length watch.told.items ≡ 0 = ap length none in omega (arith, within, long));
          }))
          none;
      whole = λ all. absurd (let e : First ≡ All = sym first ∙ all in cc);
    }

    pub true_all : watch.asked ≡ All → (kept : List OddGap) → AreLowestOfEach widest watch.told.items kept → AreTrueGaps chains watch.asked kept
    true_all all kept are = true_of_all near planar watch.told.items kept (of_slabs (inl all)) are watch.asked
