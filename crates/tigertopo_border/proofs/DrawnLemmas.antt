-- The map that the records of a border draw.
use Rattle.std.proofs.Common.{◌≡◌, ℕ, zero, suc, ◌-◌, ◌<◌, Bool, true, false, inl, inr, List, [], ◌∷◌, ◌++◌, length, take, map, get_or, slice_get, Some, None, Contains, sum_by, refl, sym, ap, subst, ◌∙◌, arith, append_assoc}
use Rattle.std.specs.List.{AllByRecursion}
use Rattle.std.proofs.lemmas.List.Sums.{sum_by-cons}
use Rattle.tl_geom.specs.declared.point.Point.{Point}
use Rattle.tl_record.specs.declared.record.Record.TheVariants.{Chain}
use Rattle.tl_map_county.specs.declared.polygons.Polygon.{Polygon}
use Rattle.tl_map_county.specs.declared.sides.Side.{Side}
use Rattle.tl_map_county.specs.declared.sides.Side.TheVariants.{Outside, Polygon as InPolygon}
use Rattle.tl_map_county.specs.Chains.{CompleteChain, tlids, segment_count}
use Rattle.tl_map_county.specs.Sides.{IsSideAmong}
use Rattle.tl_map_county.specs.TheMap.{TheMap, MapChain}
use Rattle.tl_map_rules.specs.ChainsOf.{IsDrawn, AreChainsOf}
use Rattle.tl_map_rules.specs.declared.entry.LandmarkEntry.{LandmarkEntry}
use Rattle.tl_map_rules.specs.MapOf.{keys, side_of, without_sides, landmark_of, firsts, IsSided, IsMapOf}
use Rattle.tl_map_rules.proofs.KeyLemmas.{same_key-refl}
use Rattle.tigertopo_border.specs.Whole.Told.{AreTold}
use Rattle.tigertopo_border.specs.Whole.Borders.{as_one, has_blank, IsBorderOf, IsPointWithin}
use Rattle.tigertopo_border.specs.Border.{border_key, side_key, start_of, end_of}
use Rattle.tigertopo_border.specs.Readable.{IsTellable}
use Rattle.tigertopo_border.proofs.TlidLemmas.{Rise, all_of, chain_contained, sides_contained, sides_entry}
use Rattle.tigertopo_border.proofs.FaultLemmas.{found_here, each_at, entry_of, first_polygon, polygons_are, landmarks_are}
use Rattle.tigertopo_border.proofs.FaultlessLemmas.{found_of, points_drawn, segments_are}
use Rattle.tigertopo_border.proofs.FilterLemmas.{told, rising_again}

-- a chain of the border's map
abbrev pub named : MapChain → MapChain
named c = record { tlid = c.tlid; points = c.points; left = as_one c.left; right = as_one c.right; start_cell = None; end_cell = None }

-- the map
abbrev pub map_with : List ℕ → List MapChain → List Polygon → TheMap
map_with name cs polygons = record { chains = map named cs; polygons = first_polygon name polygons; landmarks = []; skipped = 0 }

-- what lies on a side
side_is : (name : List ℕ) (polygons : List Polygon) (side : Side) → IsSideAmong (length polygons) side → as_one side ≡ side_of (keys (first_polygon name polygons)) (side_key name side)
side_is name polygons Outside among = refl
side_is name [] (InPolygon p) among = absurd (let lt = among in omega (arith, lt))
side_is name (q ∷ rest) (InPolygon p) among = rw (same_key-refl (border_key name)) refl

tlid_there : (before : List MapChain) (c : MapChain) (behind : List MapChain) → Contains (tlids (map without_sides (map named (before ++ (c ∷ behind))))) c.tlid
tlid_there [] c behind = (0, omega arith, refl)
tlid_there (b ∷ before) c behind = let has = tlid_there before c behind in let lt = has.1 in (suc has.0, omega (arith, lt), has.2)

same_segments : (cs : List MapChain) → segment_count (map without_sides (map named cs)) ≡ sum_by (λ c. length c.points - 1) cs
same_segments [] = refl
same_segments (c ∷ cs) =
    omega (arith, sum_by-cons (λ (d : CompleteChain). length d.points - 1) (without_sides (named c)) (map without_sides (map named cs)), sum_by-cons (λ (d : MapChain). length d.points - 1) c cs, same_segments cs)

module _ (name : List ℕ) (cs : List MapChain) (polygons : List Polygon) (rise : Rise cs) (tellable : AllByRecursion (IsTellable (length polygons)) cs) where
  is_drawn : (before : List MapChain) (c : MapChain) (behind : List MapChain) → cs ≡ before ++ (c ∷ behind) → IsDrawn (all_of name cs polygons) (without_sides (named c))
  is_drawn before c behind is = record {
    from = start_of c.points;
    to = end_of c.points;
    record_of_it = chain_contained name cs polygons c.tlid (found_here cs before c behind rise is);
    points = sym (points_drawn name cs polygons rise tellable c.tlid (found_here cs before c behind rise is));
  }

  drawn_from : (before behind : List MapChain) → cs ≡ before ++ behind → (k : ℕ) (d : CompleteChain) → k < length (map without_sides (map named behind)) → IsDrawn (all_of name cs polygons) (get_or (map without_sides (map named behind)) k d)
  drawn_from before [] is k d lt = absurd (omega (arith, lt))
  drawn_from before (c ∷ behind) is zero d lt = is_drawn before c behind is
  drawn_from before (c ∷ behind) is (suc k) d lt = drawn_from (before ++ (c ∷ [])) behind (is ∙ sym (append_assoc before (c ∷ []) behind)) k d (omega (arith, lt))

  is_sided : (before : List MapChain) (c : MapChain) (behind : List MapChain) → cs ≡ before ++ (c ∷ behind) → IsSided (all_of name cs polygons) (named c)
  is_sided before c behind is =
      let fine : IsTellable (length polygons) c = each_at (IsTellable (length polygons)) cs before c behind is tellable in
      let same = polygons_are name cs polygons in
      record {
        sides = entry_of name c;
        record_of_it = sides_entry (all_of name cs polygons) c.tlid None None (side_key name c.left) (side_key name c.right) (sides_contained name cs polygons c.tlid (found_here cs before c behind rise is));
        tlid = refl;
        left = side_is name polygons c.left fine.left ∙ ap (λ (ps : List Polygon). side_of (keys ps) (side_key name c.left)) (sym same);
        right = side_is name polygons c.right fine.right ∙ ap (λ (ps : List Polygon). side_of (keys ps) (side_key name c.right)) (sym same);
        start_cell = refl;
        end_cell = refl;
      }

  sided_from : (before behind : List MapChain) → cs ≡ before ++ behind → (k : ℕ) (d : MapChain) → k < length (map named behind) → IsSided (all_of name cs polygons) (get_or (map named behind) k d)
  sided_from before [] is k d lt = absurd (omega (arith, lt))
  sided_from before (c ∷ behind) is zero d lt = is_sided before c behind is
  sided_from before (c ∷ behind) is (suc k) d lt = sided_from (before ++ (c ∷ [])) behind (is ∙ sym (append_assoc before (c ∷ []) behind)) k d (omega (arith, lt))

  complete : (t : ℕ) (from to : Point) → Contains (all_of name cs polygons) (Chain t from to) → Contains (tlids (map without_sides (map named cs))) t
  complete t from to has =
      let found = found_of name cs polygons rise tellable t from to has in
      let there = tlid_there found.before found.chain found.behind in
      subst (λ u. Contains (tlids (map without_sides (map named cs))) u) found.tlid
      (subst (λ ds. Contains (tlids (map without_sides (map named ds))) found.chain.tlid) (sym found.is) there)

  chains_drawn : AreChainsOf (all_of name cs polygons) (map without_sides (map named cs))
  chains_drawn = record {
    rising = rising_again named (λ c. refl) cs rise;
    drawn = drawn_from [] cs refl;
    complete = complete;
    segments = same_segments cs ∙ sym (segments_are name cs polygons rise tellable);
  }

  -- the records draw it
  pub is_map : IsMapOf (all_of name cs polygons) (map_with name cs polygons)
  is_map = record {
    chains = chains_drawn;
    sides = sided_from [] cs refl;
    polygons = sym (polygons_are name cs polygons);
    landmarks = sym (ap (λ (es : List LandmarkEntry). map (landmark_of (all_of name cs polygons)) (firsts (λ (e : LandmarkEntry). e.land) es)) (landmarks_are name cs polygons));
  }

-- ---- it is the border

skipped_chain : (c : MapChain) (cs others : List MapChain) → has_blank c ≡ false → AreTold as_one has_blank cs others → AreTold as_one has_blank (c ∷ cs) others
skipped_chain c cs [] is rest = (is, rest)
skipped_chain c cs (o ∷ others) is rest = inr (is, rest)

told_step : (c : MapChain) (cs : List MapChain) (b : Bool) → has_blank c ≡ b → AreTold as_one has_blank cs (map named (told cs)) → AreTold as_one has_blank (c ∷ cs) (map named (told (c ∷ cs)))
told_step c cs true is rest = rw is (inl (is, (record { tlid = refl; points = refl; left = refl; right = refl }, rest)))
told_step c cs false is rest = rw is (skipped_chain c cs (map named (told cs)) is rest)

are_told : (chains : List MapChain) → AreTold as_one has_blank chains (map named (told chains))
are_told [] = refl
are_told (c ∷ cs) = told_step c cs (has_blank c) refl (are_told cs)

one_or_none : (name : List ℕ) (polygons : List Polygon) → length (first_polygon name polygons) ≡ length (take 1 polygons)
one_or_none name [] = refl
one_or_none name (p ∷ rest) = refl

point_of : (name : List ℕ) (m : TheMap) (polygons : List Polygon) → m.polygons ≡ polygons → (polygon : Polygon) → slice_get (first_polygon name polygons) 0 ≡ Some polygon → IsPointWithin m polygon
point_of name m [] same polygon is = absurd (cc is)
point_of name m (p ∷ rest) same polygon is =
    let one : (let q : Polygon = record { key = border_key name; point = p.point } in q ≡ polygon) = cc is in
    record { place = 0; other = p; is = ap (λ (ps : List Polygon). slice_get ps 0) same; point = ap (λ (q : Polygon). q.point) (sym one) }

pub is_border : (name : List ℕ) (m : TheMap) → IsBorderOf m (map_with name (told m.chains) m.polygons)
is_border name m = record {
  chains = are_told m.chains;
  many = one_or_none name m.polygons;
  points = point_of name m m.polygons refl;
}
