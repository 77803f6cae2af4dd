-- The faults of all polygons are all that there are.
use Rattle.std.proofs.Common.{◌≡◌, ℕ, zero, suc, ◌<◌, ◌≤◌, List, [], ◌∷◌}
use Rattle.std.proofs.Common.{length, get_or, Contains, refl, sym, subst, ap, ◌∙◌, arith}
use Rattle.std.specs.Prelude.{slice_get}
use Rattle.std.specs.List.{All, AllByRecursion}
use Rattle.std.proofs.lemmas.List.Elements.{All-from_recursion, All-weaker}
use Rattle.std.proofs.lemmas.Option.{slice_get_within}
use Rattle.tl_geom.specs.declared.point.Point.{Point}
use Rattle.tl_record_key.specs.declared.key.PolyKey.{PolyKey}
use Rattle.tl_map_county.specs.declared.polygons.Polygon.{Polygon}
use Rattle.tl_map_county.specs.TheMap.{TheMap, MapChain}
use Rattle.tl_check_planar.specs.Keeping.Apart.{one_found}
use Rattle.tl_check_inside.specs.declared.misplaced.Misplaced.{Misplaced}
use Rattle.tl_check_inside.specs.declared.misplaced.Misplaced.TheVariants.{OnChain, Outside, InOther}
use Rattle.tl_check_inside.specs.Placed.{IsPointOf, IsTrueMisplaced}
use Rattle.tl_check_points.specs.Listing.AllMisplaced.{FaultPlace, IsTrueAt, AreTrueAt, IsSettled, AreAllMisplaced}
use Rattle.tl_check_points.specs.Listing.Keeping.Parts.{AreFaultsIn, IsBefore, AndSettled}

-- what is true at a place is true
pub true_at : (m : TheMap) (at : FaultPlace) (fault : Misplaced) → IsTrueAt m at fault → IsTrueMisplaced m fault
true_at m at (OnChain key tlid) t = record { p = at.polygon; point = t.point; of = t.of; c = at.other; held = t.held; tlid_is = t.tlid_is }
true_at m at (Outside key) t = record { p = at.polygon; point = t.point; of = t.of; outside = t.outside }
true_at m at (InOther key other) t = record {
  p = at.polygon;
  point = t.point;
  of = t.of;
  q = at.other;
  other_point = t.other_point;
  other_of = t.other_of;
  two = t.two;
  within = t.within;
}

-- what is true is true at a place
pub record HasPlace (m : TheMap) (fault : Misplaced) : Type 0 where
  pub at : FaultPlace
  pub is : IsTrueAt m at fault

pub place_of : (m : TheMap) (fault : Misplaced) → IsTrueMisplaced m fault → HasPlace m fault
place_of m (OnChain key tlid) t = record {
  at = record { polygon = t.p; kind = 0; other = t.c };
  is = record { kind = refl; point = t.point; of = t.of; held = t.held; tlid_is = t.tlid_is };
}
place_of m (Outside key) t = record {
  at = record { polygon = t.p; kind = 1; other = 0 };
  is = record { kind = refl; no_other = refl; point = t.point; of = t.of; outside = t.outside };
}
place_of m (InOther key other) t = record {
  at = record { polygon = t.p; kind = 2; other = t.q };
  is = record { kind = refl; point = t.point; of = t.of; other_point = t.other_point; other_of = t.other_of; two = t.two; within = t.within };
}

one_key : (m : TheMap) (p : ℕ) (key other : PolyKey) (q r : Point) → IsPointOf m p key q → IsPointOf m p other r → key ≡ other
one_key m p key other q r a b = ap (λ (z : Polygon). z.key) (one_found (record { key = key; point = q }) (record { key = other; point = r })
    (slice_get m.polygons p) a b)

-- at one place one fault is true
pub one_fault : (m : TheMap) (at : FaultPlace) (f g : Misplaced) → IsTrueAt m at f → IsTrueAt m at g → f ≡ g
one_fault m at (OnChain key tlid) (OnChain other id) a b =
    let keys : key ≡ other = one_key m at.polygon key other a.point b.point a.of b.of in
    let chains : a.held.chain ≡ b.held.chain = one_found a.held.chain b.held.chain (slice_get m.chains at.other) a.held.is b.held.is in
    let ids : tlid ≡ id = sym a.tlid_is ∙ ap (λ (c : MapChain). c.tlid) chains ∙ b.tlid_is in
    λ i. OnChain (keys i) (ids i)
one_fault m at (OnChain key tlid) (Outside other) a b = absurd (let k = a.kind in let l = b.kind in omega (arith, k, l))
one_fault m at (OnChain key tlid) (InOther other second) a b = absurd (let k = a.kind in let l = b.kind in omega (arith, k, l))
one_fault m at (Outside key) (OnChain other id) a b = absurd (let k = a.kind in let l = b.kind in omega (arith, k, l))
one_fault m at (Outside key) (Outside other) a b = let keys : key ≡ other = one_key m at.polygon key other a.point b.point a.of b.of in λ i. Outside (keys i)
one_fault m at (Outside key) (InOther other second) a b = absurd (let k = a.kind in let l = b.kind in omega (arith, k, l))
one_fault m at (InOther key first) (OnChain other id) a b = absurd (let k = a.kind in let l = b.kind in omega (arith, k, l))
one_fault m at (InOther key first) (Outside other) a b = absurd (let k = a.kind in let l = b.kind in omega (arith, k, l))
one_fault m at (InOther key first) (InOther other second) a b =
    let keys : key ≡ other = one_key m at.polygon key other a.point b.point a.of b.of in
    let others : first ≡ second = one_key m at.other first second a.other_point b.other_point a.other_of b.other_of in
    λ i. InOther (keys i) (others i)

-- a place in the list, and the fault that is told of it
pub record IsToldAt (m : TheMap) (found : List Misplaced) (k : ℕ) (at : FaultPlace) : Type 0 where
  pub within : k < length found
  pub fault : Misplaced
  pub is : (d : Misplaced) → get_or found k d ≡ fault
  pub true_one : IsTrueAt m at fault

pub told_at : (m : TheMap) (places : List FaultPlace) (found : List Misplaced) (k : ℕ) (d : FaultPlace) → AreTrueAt m places found →
    k < length places → IsToldAt m found k (get_or places k d)
told_at m [] found k d t lt = absurd (let no : k < 0 = lt in omega (arith, no))
told_at m (at ∷ places) [] k d t lt = absurd t
told_at m (at ∷ places) (fault ∷ found) zero d t lt = record { within = omega arith; fault = fault; is = λ e. refl; true_one = t.0 }
told_at m (at ∷ places) (fault ∷ found) (suc k) d t lt =
    let rest = told_at m places found k d t.1 (omega (arith, lt)) in
    record { within = let w = rest.within in omega (arith, w); fault = rest.fault; is = rest.is; true_one = rest.true_one }

each_true : (m : TheMap) (places : List FaultPlace) (found : List Misplaced) → AreTrueAt m places found → AllByRecursion (IsTrueMisplaced m) found
each_true m [] [] t = tt
each_true m [] (fault ∷ found) t = absurd t
each_true m (at ∷ places) [] t = absurd t
each_true m (at ∷ places) (fault ∷ found) t = (true_at m at fault t.0, each_true m places found t.1)

pub each_of : (m : TheMap) (places : List FaultPlace) (found : List Misplaced) → AreTrueAt m places found → All (IsTrueMisplaced m) found
each_of m places found t = All-from_recursion (IsTrueMisplaced m) found (each_true m places found t)

-- what is true at one of the places is told
told_has : (m : TheMap) (places : List FaultPlace) (found : List Misplaced) (at : FaultPlace) (fault : Misplaced) → AreTrueAt m places found →
    Contains places at → IsTrueAt m at fault → Contains found fault
told_has m places found at fault t has is =
    let told = told_at m places found has.0 at t has.1 in
    let there : IsTrueAt m at told.fault = subst (λ f. IsTrueAt m f told.fault) has.2 told.true_one in
    (has.0, told.within, told.is fault ∙ one_fault m at told.fault fault there is)

known_at : (m : TheMap) (at : FaultPlace) (fault : Misplaced) → IsTrueAt m at fault → at.polygon < length m.polygons
known_at m at (OnChain key tlid) t = slice_get_within m.polygons at.polygon (record { key = key; point = t.point }) t.of
known_at m at (Outside key) t = slice_get_within m.polygons at.polygon (record { key = key; point = t.point }) t.of
known_at m at (InOther key other) t = slice_get_within m.polygons at.polygon (record { key = key; point = t.point }) t.of

pub all_of : (H : ℕ → Type 0) (m : TheMap) (n : ℕ) (found : List Misplaced) → length m.polygons ≤ n → AreFaultsIn m (AndSettled H (IsBefore n)) found → AreAllMisplaced H m found
all_of H m n found past part = record {
  each = each_of m part.places found part.told;
  every = λ at fault s is. told_has m part.places found at fault part.told (whole at fault s is) is;
  places = part.places;
  told = part.told;
  settled = All-weaker (AndSettled H (IsBefore n)) (IsSettled H) (λ at inside. inside.1) part.places part.within;
  whole = whole;
  in_order = part.in_order;
}
  where
    whole : (at : FaultPlace) (fault : Misplaced) → IsSettled H at → IsTrueAt m at fault → Contains part.places at
    whole at fault s is = part.whole at fault (let known = known_at m at fault is in omega (arith, known, past), s) is
