-- Maps that are alike but for sides that name hidden polygons tell the same of chains, and of polygons that aren't hidden.
use Rattle.std.proofs.Common.{◌≡◌, ℕ, zero, suc, ◌<◌, ℤ, ◌+ℤ◌, Bool, true, false, Some, List, [], ◌∷◌, refl, sym, subst, ap, ap₂, ◌∙◌, arith}
use Rattle.std.specs.Prelude.{slice_get}
use Rattle.std.specs.List.{All}
use Rattle.std.proofs.lemmas.Option.{slice_get_within, same_Some}
use Rattle.std.proofs.lemmas.List.Elements.{All-head, All-tail}
use Rattle.tl_geom.specs.declared.point.Point.{Point}
use Rattle.tl_geom.specs.Plane.{whole}
use Rattle.tl_map_county.specs.Chains.{IsProperChain}
use Rattle.tl_map_county.specs.Remaining.{remaining}
use Rattle.tl_map_county.specs.TheMap.{TheMap, MapChain}
use Rattle.tl_map_county.specs.declared.polygons.Polygon.{Polygon}
use Rattle.tl_check_planar.specs.Planar.{IsPlanar, IsOnChain, IsSimple, ShareEndsAlone}
use Rattle.tl_check_inside.specs.declared.misplaced.Misplaced.{Misplaced}
use Rattle.tl_check_inside.specs.declared.misplaced.Misplaced.TheVariants.{OnChain, Outside, InOther}
use Rattle.tl_check_inside.specs.Inside.{is_polygon, IsCount, IsPolygonCount}
use Rattle.tl_check_inside.specs.Places.{IsHeldBy}
use Rattle.tl_check_faces.specs.Crossings.Headings.{AreProper}
use Rattle.tl_check_faces.proofs.CrossingsLemmas.Rays.{counted}
use Rattle.tl_check_faces.proofs.CrossingsLemmas.Weighed.{chain_weight, chains_weight, balance_is}
use Rattle.tl_check_points.specs.Listing.AllMisplaced.{FaultPlace, IsTrueAt, AreTrueAt, IsSettled, AreAllMisplaced}
use Rattle.tl_check_points.specs.Listing.Hidden.{AreAlikeChains, AreAlikeBut, AreMapsAlikeBut}
use Rattle.tl_check_points.proofs.ListingLemmas.Wholes.{each_of}

module _ (H : ℕ → Type 0) where
  pub alike_back : (cs ds : List MapChain) → AreAlikeBut H cs ds → AreAlikeBut H ds cs
  alike_back [] [] a = tt
  alike_back [] (d ∷ ds) a = absurd a
  alike_back (c ∷ cs) [] a = absurd a
  alike_back (c ∷ cs) (d ∷ ds) a = (
    record { tlids = sym a.0.tlids; points = sym a.0.points; lefts = λ p kept. sym (a.0.lefts p kept); rights = λ p kept. sym (a.0.rights p kept) },
    alike_back cs ds a.1,
  )

  -- a map is alike itself
  pub alike_itself : (cs : List MapChain) → AreAlikeBut H cs cs
  alike_itself [] = tt
  alike_itself (c ∷ cs) = (record { tlids = refl; points = refl; lefts = λ p kept. refl; rights = λ p kept. refl }, alike_itself cs)

  -- the chain at the same place
  record HasAlike (ds : List MapChain) (c : ℕ) (one : MapChain) : Type 0 where
    other : MapChain
    is : slice_get ds c ≡ Some other
    alike : AreAlikeChains H one other

  alike_at : (cs ds : List MapChain) (c : ℕ) (one : MapChain) → AreAlikeBut H cs ds → slice_get cs c ≡ Some one → HasAlike ds c one
  alike_at [] ds c one a is = absurd (let lt : c < 0 = slice_get_within [] c one is in omega (arith, lt))
  alike_at (x ∷ cs) [] c one a is = absurd a
  alike_at (x ∷ cs) (d ∷ ds) zero one a is = record { other = d; is = refl; alike = subst (λ (z : MapChain). AreAlikeChains H z d) (same_Some x one is) a.0 }
  alike_at (x ∷ cs) (d ∷ ds) (suc c) one a is = let h = alike_at cs ds c one a.1 is in record { other = h.other; is = h.is; alike = h.alike }

  pub proper_there : (cs ds : List MapChain) → AreAlikeBut H cs ds → AreProper cs → AreProper ds
  proper_there cs ds a proper c chain is = let h = alike_at ds cs c chain (alike_back cs ds a) is in subst IsProperChain (sym h.alike.points) (proper c h.other h.is)

  -- ---- counts

  weights : (cs ds : List MapChain) (q : Point) (p : ℕ) → ¬ H p → AreAlikeBut H cs ds → chains_weight q (is_polygon p) cs ≡ chains_weight q (is_polygon p) ds
  weights [] [] q p kept a = refl
  weights [] (d ∷ ds) q p kept a = absurd a
  weights (c ∷ cs) [] q p kept a = absurd a
  weights (c ∷ cs) (d ∷ ds) q p kept a =
      let one : chain_weight q (is_polygon p) c ≡ chain_weight q (is_polygon p) d = rw (a.0.lefts p kept, a.0.rights p kept, a.0.points) refl in
      ap₂ (λ (w v : ℤ). w +ℤ v) one (weights cs ds q p kept a.1)

  weight_told : (cs : List MapChain) (q : Point) (p : ℕ) (n : ℤ) → AreProper cs → IsPolygonCount cs q p n → n ≡ chains_weight q (is_polygon p) cs
  weight_told cs q p n proper c = c.counted ∙ balance_is cs proper q c.crossed c.are (is_polygon p)

  -- a polygon that isn't hidden has the same count
  pub count_there : (cs ds : List MapChain) (q : Point) (p : ℕ) (n : ℤ) → ¬ H p → AreAlikeBut H cs ds → AreProper cs → IsPolygonCount cs q p n → IsPolygonCount ds q p n
  count_there cs ds q p n kept a proper count =
      let others : AreProper ds = proper_there cs ds a proper in
      let there = counted ds q (is_polygon p) others in
      let is : there.0 ≡ n = weight_told ds q p there.0 others there.1 ∙ sym (weights cs ds q p kept a) ∙ sym (weight_told cs q p n proper count) in
      subst (λ z. IsCount ds q (is_polygon p) z) is there.1

  -- ---- faults

  held_there : (cs ds : List MapChain) (q : Point) (c : ℕ) → AreAlikeBut H cs ds → IsHeldBy cs q c → IsHeldBy ds q c
  held_there cs ds q c a held =
      let h = alike_at cs ds c held.chain a held.is in
      record { chain = h.other; is = h.is; on = subst (λ ps. IsOnChain ps (whole q)) h.alike.points held.on }

  module _ (m o : TheMap) (alike : AreMapsAlikeBut H m o) (proper : AreProper m.chains) where
    back : AreAlikeBut H o.chains m.chains
    back = alike_back m.chains o.chains alike.chains

    others_proper : AreProper o.chains
    others_proper = proper_there m.chains o.chains alike.chains proper

    point_there : (p : ℕ) (polygon : Polygon) → slice_get m.polygons p ≡ Some polygon → slice_get o.polygons p ≡ Some polygon
    point_there p polygon is = ap (λ (ps : List Polygon). slice_get ps p) alike.polygons ∙ is

    -- what is true at a settled place is true there too
    pub true_there : (at : FaultPlace) (fault : Misplaced) → IsSettled H at → IsTrueAt m at fault → IsTrueAt o at fault
    unfolding alike_at held_there
    true_there at (OnChain key tlid) s t = record {
      kind = t.kind;
      point = t.point;
      of = point_there at.polygon (record { key = key; point = t.point }) t.of;
      held = held_there m.chains o.chains t.point at.other alike.chains t.held;
      tlid_is = let h = alike_at m.chains o.chains at.other t.held.chain alike.chains t.held.is in sym h.alike.tlids ∙ t.tlid_is;
    }
    true_there at (Outside key) s t = record {
      kind = t.kind;
      no_other = t.no_other;
      point = t.point;
      of = point_there at.polygon (record { key = key; point = t.point }) t.of;
      outside = λ inside. t.outside (count_there o.chains m.chains t.point at.polygon _ (s.own t.kind) back others_proper inside);
    }
    true_there at (InOther key other) s t = record {
      kind = t.kind;
      point = t.point;
      of = point_there at.polygon (record { key = key; point = t.point }) t.of;
      other_point = t.other_point;
      other_of = point_there at.other (record { key = other; point = t.other_point }) t.other_of;
      two = t.two;
      within = λ clear. t.within (count_there o.chains m.chains t.point at.other _ (s.other t.kind) back others_proper clear);
    }

    told_there : (places : List FaultPlace) (found : List Misplaced) → All (IsSettled H) places → AreTrueAt m places found → AreTrueAt o places found
    told_there [] [] s t = tt
    told_there [] (fault ∷ found) s t = absurd t
    told_there (at ∷ places) [] s t = absurd t
    told_there (at ∷ places) (fault ∷ found) s t =
        (true_there at fault (All-head (IsSettled H) at places s) t.0, told_there places found (All-tail (IsSettled H) at places s) t.1)

  -- so the list of one is that of the other
  pub misplaced_there : (m o : TheMap) (found : List Misplaced) → AreMapsAlikeBut H m o → AreProper m.chains → AreAllMisplaced H o found → AreAllMisplaced H m found
  misplaced_there m o found alike proper all =
      let turned : AreMapsAlikeBut H o m = record { chains = alike_back m.chains o.chains alike.chains; polygons = sym alike.polygons } in
      let told : AreTrueAt m all.places found = told_there o m turned (proper_there m.chains o.chains alike.chains proper) all.places found all.settled all.told in
      record {
        each = each_of m all.places found told;
        every = λ at fault s t. all.every at fault s (true_there m o alike proper at fault s t);
        places = all.places;
        told = told;
        settled = all.settled;
        whole = λ at fault s t. all.whole at fault s (true_there m o alike proper at fault s t);
        in_order = all.in_order;
      }

  -- ---- planar chains

  pub planar_there : (cs ds : List MapChain) → AreAlikeBut H cs ds → IsPlanar ds → IsPlanar cs
  planar_there cs ds a planar = record {
    apart = λ c d one other differ is too.
        let h = alike_at cs ds c one a is in
        let g = alike_at cs ds d other a too in
        subst (λ ps. ShareEndsAlone ps other.points) (sym h.alike.points)
        (subst (ShareEndsAlone h.other.points) (sym g.alike.points) (planar.apart c d h.other g.other differ h.is g.is));
    simple = λ c chain is. let h = alike_at cs ds c chain a is in subst IsSimple (sym h.alike.points) (planar.simple c h.other h.is);
  }

  pub remaining_there : (marks : List Bool) (cs ds : List MapChain) → AreAlikeBut H cs ds → AreAlikeBut H (remaining marks cs) (remaining marks ds)
  remaining_there marks [] [] a = tt
  remaining_there marks [] (d ∷ ds) a = absurd a
  remaining_there marks (c ∷ cs) [] a = absurd a
  remaining_there [] (c ∷ cs) (d ∷ ds) a = (a.0, remaining_there [] cs ds a.1)
  remaining_there (true ∷ marks) (c ∷ cs) (d ∷ ds) a = remaining_there marks cs ds a.1
  remaining_there (false ∷ marks) (c ∷ cs) (d ∷ ds) a = (a.0, remaining_there marks cs ds a.1)

-- the list is the same where the same polygons are hidden
pub hidden_as : (H G : ℕ → Type 0) (m : TheMap) (found : List Misplaced) → ((p : ℕ) → H p → G p) → ((p : ℕ) → G p → H p) → AreAllMisplaced H m found → AreAllMisplaced G m found
hidden_as H G m found there back all = record {
  each = all.each;
  every = λ at fault s t. all.every at fault (fewer at s) t;
  places = all.places;
  told = all.told;
  settled = λ k d lt. let s = all.settled k d lt in record { own = λ e g. s.own e (back _ g); other = λ e g. s.other e (back _ g) };
  whole = λ at fault s t. all.whole at fault (fewer at s) t;
  in_order = all.in_order;
}
  where
    fewer : (at : FaultPlace) → IsSettled G at → IsSettled H at
    fewer at s = record { own = λ e h. s.own e (there at.polygon h); other = λ e h. s.other e (there at.other h) }
