use Rattle.std.proofs.Common.{◌≡◌, ℕ, zero, suc, ◌<◌, Some, None, List, [], ◌∷◌, length, map, get_or, All, refl, sym, ap, ◌∙◌, arith, subst}
use Rattle.std.specs.Prelude.{slice_get}
use Rattle.std.proofs.lemmas.Option.{slice_get-get_or}
use Rattle.std.proofs.lemmas.List.Elements.{All-head, All-tail}
use Rattle.tl_geom.specs.declared.point.Point.{Point}
use Rattle.tl_map_county.specs.declared.sides.ChainSides.{ChainSides}
use Rattle.tl_map_county.specs.Chains.{CompleteChain, tlids, IsProperChain}
use Rattle.tl_map_county.specs.TheMap.{IsChain, MapChain}
use Rattle.tl_map_county.specs.Rows.{with_sides, sided}
use Rattle.tl_map_county.specs.Sides.{AreSidesAmong, HasSidesAmong}
use Rattle.tl_map_county.proofs.PlaceLemmas.{slice_get-image}

-- as many chains with sides as without
pub length-sided : (cs : List CompleteChain) (ss : List ChainSides) → length ss ≡ length cs → length (sided cs ss) ≡ length cs
length-sided [] ss same = refl
length-sided (c ∷ cs) [] same = absurd (omega arith)
length-sided (c ∷ cs) (s ∷ ss) same = ap suc (length-sided cs ss (omega arith))

-- the chain with its sides at a place
pub slice_get-sided : (cs : List CompleteChain) (ss : List ChainSides) (i : ℕ) (c : CompleteChain) (s : ChainSides) → slice_get cs i ≡ Some c → slice_get ss i ≡ Some s → slice_get (sided cs ss) i ≡ Some (with_sides c s)
slice_get-sided [] ss i c s a b = absurd (let e : None ≡ Some c = a in cc)
slice_get-sided (x ∷ cs) [] i c s a b = absurd (let e : None ≡ Some s = b in cc)
slice_get-sided (x ∷ cs) (y ∷ ss) zero c s a b = let e : x ≡ c = cc in let f : y ≡ s = cc in rw (e, f) refl
slice_get-sided (x ∷ cs) (y ∷ ss) (suc i) c s a b = slice_get-sided cs ss i c s a b

-- what is read of a chain
pub chain_read : (cs : List CompleteChain) (ss : List ChainSides) (i t : ℕ) (ps : List Point) (s : ChainSides) → i < length cs → length ss ≡ length cs → slice_get (tlids cs) i ≡ Some t → slice_get (map (λ (c : CompleteChain). c.points) cs) i ≡ Some ps → s ≡ get_or ss i s → IsChain (slice_get (sided cs ss) i) t ps s.left s.right
chain_read cs ss i t ps s lt same tlid points at =
    let d : CompleteChain = record { tlid = 0; points = [] } in
    let c : CompleteChain = get_or cs i d in
    let one = slice_get-image (λ (x : CompleteChain). x.tlid) cs i d lt in
    let two = slice_get-image (λ (x : CompleteChain). x.points) cs i d lt in
    record {
      chain = with_sides c s;
      is = slice_get-sided cs ss i c s (slice_get-get_or cs i d lt) (slice_get-get_or ss i s (omega arith) ∙ ap Some (sym at));
      tlid_is = (cc);
      points_are = (cc);
      left_is = refl;
      right_is = refl;
    }

-- the points of a chain are proper
pub proper_read : (cs : List CompleteChain) (i : ℕ) (ps : List Point) → i < length cs → slice_get (map (λ (c : CompleteChain). c.points) cs) i ≡ Some ps → All (λ (c : CompleteChain). IsProperChain c.points) cs → IsProperChain ps
proper_read cs i ps lt points all =
    let d : CompleteChain = record { tlid = 0; points = [] } in
    let two = slice_get-image (λ (x : CompleteChain). x.points) cs i d lt in
    let same : (get_or cs i d).points ≡ ps = cc in
    rw (← same) (all i d lt)

-- the sides of a chain at a place
pub sides_read : (cs : List CompleteChain) (ss : List ChainSides) (i : ℕ) (s : ChainSides) → i < length cs → length ss ≡ length cs → s ≡ get_or ss i s → slice_get (sided cs ss) i ≡ Some (with_sides (get_or cs i (record { tlid = 0; points = [] })) s)
sides_read cs ss i s lt same at =
    slice_get-sided cs ss i _ s (slice_get-get_or cs i (record { tlid = 0; points = [] }) lt) (slice_get-get_or ss i s (omega arith) ∙ ap Some (sym at))

-- what the sides beside chains name, those of the chains name
pub sided_among : (n : ℕ) (cs : List CompleteChain) (ss : List ChainSides) → length ss ≡ length cs → All (AreSidesAmong n) ss
    → All (HasSidesAmong n) (sided cs ss)
sided_among n [] ss same all i d lt = absurd (omega (arith, lt))
sided_among n (c ∷ cs) [] same all i d lt = absurd (omega (arith, same))
sided_among n (c ∷ cs) (s ∷ ss) same all zero d lt =
    let here = All-head (AreSidesAmong n) s ss all in
    record { left = here.left; right = here.right }
sided_among n (c ∷ cs) (s ∷ ss) same all (suc i) d lt =
    sided_among n cs ss (omega (arith, same)) (All-tail (AreSidesAmong n) s ss all) i d (omega (arith, lt))

-- the chains are proper with their sides as without
pub sided_proper : (cs : List CompleteChain) (ss : List ChainSides) (i : ℕ) (chain : MapChain) → All (λ (c : CompleteChain). IsProperChain c.points) cs → slice_get (sided cs ss) i ≡ Some chain
    → IsProperChain chain.points
sided_proper [] ss i chain all is = absurd (let e : None ≡ Some chain = is in cc)
sided_proper (c ∷ cs) [] i chain all is = absurd (let e : None ≡ Some chain = is in cc)
sided_proper (c ∷ cs) (s ∷ ss) zero chain all is =
    let e : with_sides c s ≡ chain = cc in
    subst (λ (m : MapChain). IsProperChain m.points) e (All-head (λ (x : CompleteChain). IsProperChain x.points) c cs all)
sided_proper (c ∷ cs) (s ∷ ss) (suc i) chain all is = sided_proper cs ss i chain (All-tail (λ (x : CompleteChain). IsProperChain x.points) c cs all) is
