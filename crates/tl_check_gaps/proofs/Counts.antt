-- Where facing sides differ along lists that are joined, and along one of which a part goes and another comes.
use Rattle.std.proofs.Common.{◌≡◌, ℕ, ◌+◌, Option, Some, None, List, [], ◌∷◌, ◌++◌, append_assoc, refl, sym, ap, ◌∙◌, arith}
use Rattle.std.proofs.lemmas.Bool.Decides.{nat_tests}
use Rattle.std.specs.Prelude.{slice_get}
use Rattle.tl_check_planar.specs.Keeping.Apart.{one_found}
use Rattle.tl_map_county.specs.declared.sides.Side.{Side}
use Rattle.tl_map_county.specs.declared.sides.Side.TheVariants.{Outside, Polygon}
use Rattle.tl_map_county.specs.TheMap.{MapChain}
use Rattle.tl_check_inside.specs.Inside.{flanks_at}
use Rattle.tl_check_gaps.specs.Beside.{AreFacing, seen_side}
use Rattle.tl_check_gaps.specs.Keeping.Facing.{gap, gaps_between, gaps_of, last_far}
use Rattle.tl_check_active.specs.Blocks.Lined.{last_of}
use Rattle.tl_check_active.proofs.Lining.{last_more}

-- ---- two sides

pub none_is : (a b : Side) → gap a b ≡ 0 → a ≡ b
none_is Outside Outside e = refl
none_is Outside (Polygon q) e = absurd (omega (arith, e))
none_is (Polygon p) Outside e = absurd (omega (arith, e))
none_is (Polygon p) (Polygon q) e = ap Polygon (go p q e)
  where
    go : (p q : ℕ) → gap (Polygon p) (Polygon q) ≡ 0 → p ≡ q
    go p q e = grind (arith, nat_tests)

module _ (chains : List MapChain) where
  -- ---- lists that are joined

  part : Side → List ℕ → ℕ
  part west [] = 0
  part west (s ∷ rest) = gap west (flanks_at chains s).near + part (flanks_at chains s).far rest

  beyond : List ℕ → ℕ
  beyond [] = 0
  beyond (s ∷ rest) = gaps_between chains (flanks_at chains s).far rest Outside

  in_front : (west : Side) (xs ys : List ℕ) → gaps_between chains west (xs ++ ys) Outside ≡ part west xs + gaps_between chains (last_far chains west xs) ys Outside
  unfolding part
  in_front west [] ys = omega arith
  in_front west (s ∷ xs) ys = let rest = in_front (flanks_at chains s).far xs ys in omega (arith, rest)

  behind : (west : Side) (xs ys : List ℕ) → gaps_between chains west (xs ++ ys) Outside ≡ gaps_between chains west xs (seen_side chains ys) + beyond ys
  unfolding beyond
  behind west [] [] = omega arith
  behind west [] (s ∷ ys) = refl
  behind west (s ∷ xs) ys = let rest = behind (flanks_at chains s).far xs ys in omega (arith, rest)

  parts : (front mid back : List ℕ) → gaps_of chains (front ++ (mid ++ back)) ≡ part Outside front + (gaps_between chains (last_far chains Outside front) mid (seen_side chains back) + beyond back)
  parts front mid back =
      let one = in_front Outside front (mid ++ back) in
      let two = behind (last_far chains Outside front) mid back in
      omega (arith, one, two)

  -- the one part goes, and the other comes
  pub in_stead : (front outs ins back old new : List ℕ) (n before : ℕ) → old ≡ front ++ (outs ++ back) → new ≡ (front ++ ins) ++ back → before ≡ gaps_of chains old →
      n + gaps_between chains (last_far chains Outside front) outs (seen_side chains back) ≡ before + gaps_between chains (last_far chains Outside front) ins (seen_side chains back) → n ≡ gaps_of chains new
  in_stead front outs ins back old new n before e f is counted =
      let old_is : gaps_of chains old ≡ gaps_of chains (front ++ (outs ++ back)) = ap (gaps_of chains) e in
      let new_is : gaps_of chains new ≡ gaps_of chains (front ++ (ins ++ back)) = ap (gaps_of chains) (f ∙ append_assoc front ins back) in
      let one = parts front outs back in
      let two = parts front ins back in
      omega (arith, old_is, new_is, one, two, is, counted)

  -- where they differ nowhere, they don't between two parts
  pub none_between : (front back : List ℕ) → gaps_of chains (front ++ back) ≡ 0 → last_far chains Outside front ≡ seen_side chains back
  none_between front back e = let all = parts front [] back in none_is (last_far chains Outside front) (seen_side chains back) (omega (arith, all, e))

  -- ---- the side of the last

  pub far_of_last : (west : Side) (xs : List ℕ) (s : ℕ) → last_of xs ≡ Some s → last_far chains west xs ≡ (flanks_at chains s).far
  far_of_last west [] s e = absurd (cc)
  far_of_last west (x ∷ []) s e = ap (λ (o : Option ℕ). (flanks_at chains (number x o)).far) e
    where
      number : ℕ → Option ℕ → ℕ
      number d None = d
      number d (Some n) = n
  far_of_last west (x ∷ (y ∷ xs)) s e = far_of_last (flanks_at chains x).far (y ∷ xs) s (sym (last_more x y xs) ∙ e)

  -- ---- the side of the first

  pub near_of_first : (ys : List ℕ) (s : ℕ) → slice_get ys 0 ≡ Some s → seen_side chains ys ≡ (flanks_at chains s).near
  near_of_first [] s e = absurd (cc)
  near_of_first (y ∷ ys) s e = ap (λ n. (flanks_at chains n).near) (one_found y s (Some y) refl e)

  pub none_behind : (ys : List ℕ) → slice_get ys 0 ≡ None → seen_side chains ys ≡ Outside
  none_behind [] e = refl
  none_behind (y ∷ ys) e = absurd (cc)

  -- ---- none

  facing : (west : Side) (list : List ℕ) → gaps_between chains west list Outside ≡ 0 → AreFacing chains list
  facing west [] e = tt
  facing west (s ∷ []) e = none_is (flanks_at chains s).far Outside (omega (arith, e))
  facing west (s ∷ (t ∷ rest)) e = (none_is (flanks_at chains s).far (flanks_at chains t).near (omega (arith, e)), facing (flanks_at chains s).far (t ∷ rest) (omega (arith, e)))

  pub facing_behind : (front back : List ℕ) → gaps_of chains (front ++ back) ≡ 0 → AreFacing chains back
  facing_behind front back e = let split = in_front Outside front back in facing (last_far chains Outside front) back (omega (arith, e, split))

pub none_before : (xs : List ℕ) → last_of xs ≡ None → xs ≡ []
none_before [] e = refl
none_before (x ∷ []) e = absurd (cc)
none_before (x ∷ (y ∷ xs)) e = absurd (go (none_before (y ∷ xs) (sym (last_more x y xs) ∙ e)))
  where
    go : (y ∷ xs) ≡ [] → ⊥
    go e = cc
