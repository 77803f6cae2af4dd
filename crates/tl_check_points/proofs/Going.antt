-- On the way from one gap to another.
use Rattle.std.proofs.Common.{◌≡◌, ℕ, ◌+◌, ◌<◌, Bool, false, List, [], ◌∷◌, ◌++◌, length, get_or, All, refl, sym, ap, subst, ◌∙◌, arith}
use Rattle.std.proofs.lemmas.List.Elements.{All-push}
use Rattle.std.proofs.lemmas.Option.{slice_get_within, get_or_from_slice_get}
use Rattle.tl_map_county.specs.declared.sides.Side.{Side}
use Rattle.tl_map_county.specs.declared.sides.Side.TheVariants.{Outside}
use Rattle.tl_map_county.specs.Sides.{IsSideAmong}
use Rattle.tl_check_active.proofs.Bits.{bit}
use Rattle.tl_check_inside.specs.declared.flanks.Flanks.{Flanks}
use Rattle.tl_check_inside.specs.Keeping.Tallies.{near_count, far_count}
use Rattle.tl_check_points.specs.declared.labels.Gap.{Gap}
use Rattle.tl_check_points.specs.Keeping.Balances.{AreAmong}
use Rattle.tl_check_points.specs.Keeping.Ways.{IsGap, IsWay, TellGap}
use Rattle.tl_check_points.proofs.Balances.{near_more, far_more, near_joined, far_joined}
use Rattle.tl_check_points.proofs.Treed.{one_way}

-- what is written differs from the way that is sought by what the ways from two gaps differ
pub record IsGoing (n : ℕ) (gaps : List Gap) (to one other : ℕ) (journal : List Flanks) : Type 0 where
  pub way : List Flanks
  pub is : IsWay n gaps to way
  pub first : List Flanks
  pub is_first : IsWay n gaps one first
  pub second : List Flanks
  pub is_second : IsWay n gaps other second
  pub balance : (S : Side → Bool) → S Outside ≡ false →
      near_count journal S + near_count second S + far_count way S + far_count first S
      ≡ far_count journal S + far_count second S + near_count way S + near_count first S
  pub among : All (AreAmong n) journal

module _ (n : ℕ) (gaps : List Gap) where
  pub begun : (from to : ℕ) (journal : List Flanks) → TellGap n gaps from journal → (way : List Flanks) × IsWay n gaps to way →
      All (AreAmong n) journal → IsGoing n gaps to from to journal
  begun from to journal told known among = record {
    way = known.0;
    is = known.1;
    first = told.way;
    is_first = told.is;
    second = known.0;
    is_second = known.1;
    balance = λ S none. (let e = told.one S none in omega (arith, e));
    among = among;
  }

  -- where a way has a first gap
  pub record HasFirst (g : ℕ) (way : List Flanks) : Type 0 where
    pub flanks : Flanks
    pub rest : List Flanks
    pub is : way ≡ flanks ∷ rest
    pub gap : IsGap n gaps g flanks
    pub on : IsWay n gaps gap.gap.parent rest

  pub first_of_way : (g : ℕ) (way : List Flanks) → 0 < g → IsWay n gaps g way → HasFirst g way
  first_of_way g [] some is = absurd (omega (arith, some, is))
  first_of_way g (f ∷ rest) some is = record { flanks = f; rest = rest; is = refl; gap = is.0; on = is.1 }

  pub within : (g : ℕ) (way : List Flanks) → 0 < g → IsWay n gaps g way → g < length gaps
  within g way some is = let first = first_of_way g way some is in slice_get_within gaps g first.gap.gap first.gap.is

  -- the gap of that number
  pub gap_is : (g : ℕ) (d : Gap) (way : List Flanks) (some : 0 < g) (is : IsWay n gaps g way) →
      (first_of_way g way some is).gap.gap ≡ get_or gaps g d
  gap_is g d way some is =
      let first = first_of_way g way some is in
      sym (get_or_from_slice_get gaps g first.gap.gap d first.gap.is)

  pub lower : (g : ℕ) (d : Gap) (way : List Flanks) → 0 < g → IsWay n gaps g way → (get_or gaps g d).parent < g
  lower g d way some is =
      let first = first_of_way g way some is in
      subst (λ (x : Gap). x.parent < g) (gap_is g d way some is) first.gap.lower

  pub less_up : (one other : ℕ) (d : Gap) (way : List Flanks) → 0 < one → IsWay n gaps one way → (get_or gaps one d).parent + other < one + other
  less_up one other d way some is = let less = lower one d way some is in omega (arith, less)

  pub less_down : (one other : ℕ) (d : Gap) (way : List Flanks) → 0 < other → IsWay n gaps other way → one + (get_or gaps other d).parent < one + other
  less_down one other d way some is = let less = lower other d way some is in omega (arith, less)

  module _ (to one other : ℕ) (journal new : List Flanks) (d : Gap) (going : IsGoing n gaps to one other journal) where
    -- a step from the first
    pub up : (back : Flanks) → 0 < one → back.near ≡ (get_or gaps one d).flanks.far → back.far ≡ (get_or gaps one d).flanks.near → new ≡ journal ++ back ∷ [] →
        IsGoing n gaps to (get_or gaps one d).parent other new
    up back some near far pushed =
        let first = first_of_way one going.first some going.is_first in
        let same : first.gap.gap ≡ get_or gaps one d = gap_is one d going.first some going.is_first in
        let flanks_are : (get_or gaps one d).flanks ≡ first.flanks = ap (λ (x : Gap). x.flanks) (sym same) ∙ first.gap.flanks_are in
        record {
          way = going.way;
          is = going.is;
          first = first.rest;
          is_first = subst (λ (x : Gap). IsWay n gaps x.parent first.rest) same first.on;
          second = going.second;
          is_second = going.is_second;
          balance = λ S none.
              let e = going.balance S none in
              let a : near_count new S ≡ near_count (journal ++ back ∷ []) S = ap (λ l. near_count l S) pushed in
              let b : far_count new S ≡ far_count (journal ++ back ∷ []) S = ap (λ l. far_count l S) pushed in
              let a' = near_joined S journal (back ∷ []) in let b' = far_joined S journal (back ∷ []) in
              let f : near_count going.first S ≡ near_count (first.flanks ∷ first.rest) S = ap (λ l. near_count l S) first.is in
              let g : far_count going.first S ≡ far_count (first.flanks ∷ first.rest) S = ap (λ l. far_count l S) first.is in
              let f' = near_more S first.flanks first.rest in let g' = far_more S first.flanks first.rest in
              let k = near_more S back [] in let k' = far_more S back [] in
              let x : bit (S back.near) ≡ bit (S first.flanks.far) = ap (λ y. bit (S y)) (near ∙ ap (λ (y : Flanks). y.far) flanks_are) in
              let y : bit (S back.far) ≡ bit (S first.flanks.near) = ap (λ y. bit (S y)) (far ∙ ap (λ (y : Flanks). y.near) flanks_are) in
              omega (arith, e, a, b, a', b', f, g, f', g', k, k', x, y);
          among = subst (All (AreAmong n)) (sym pushed)
              (All-push (AreAmong n) journal back going.among
              (record {
                near = subst (IsSideAmong n) (sym (near ∙ ap (λ (y : Flanks). y.far) flanks_are)) first.gap.among.far;
                far = subst (IsSideAmong n) (sym (far ∙ ap (λ (y : Flanks). y.near) flanks_are)) first.gap.among.near;
              }));
        }

    -- a step from the second
    pub down : 0 < other → new ≡ journal ++ (get_or gaps other d).flanks ∷ [] → IsGoing n gaps to one (get_or gaps other d).parent new
    down some pushed =
        let second = first_of_way other going.second some going.is_second in
        let same : second.gap.gap ≡ get_or gaps other d = gap_is other d going.second some going.is_second in
        let flanks_are : (get_or gaps other d).flanks ≡ second.flanks = ap (λ (x : Gap). x.flanks) (sym same) ∙ second.gap.flanks_are in
        record {
          way = going.way;
          is = going.is;
          first = going.first;
          is_first = going.is_first;
          second = second.rest;
          is_second = subst (λ (x : Gap). IsWay n gaps x.parent second.rest) same second.on;
          balance = λ S none.
              let e = going.balance S none in
              let a : near_count new S ≡ near_count (journal ++ (get_or gaps other d).flanks ∷ []) S = ap (λ l. near_count l S) pushed in
              let b : far_count new S ≡ far_count (journal ++ (get_or gaps other d).flanks ∷ []) S = ap (λ l. far_count l S) pushed in
              let a' = near_joined S journal ((get_or gaps other d).flanks ∷ []) in let b' = far_joined S journal ((get_or gaps other d).flanks ∷ []) in
              let f : near_count going.second S ≡ near_count (second.flanks ∷ second.rest) S = ap (λ l. near_count l S) second.is in
              let g : far_count going.second S ≡ far_count (second.flanks ∷ second.rest) S = ap (λ l. far_count l S) second.is in
              let f' = near_more S second.flanks second.rest in let g' = far_more S second.flanks second.rest in
              let k = near_more S (get_or gaps other d).flanks [] in let k' = far_more S (get_or gaps other d).flanks [] in
              let x : bit (S (get_or gaps other d).flanks.near) ≡ bit (S second.flanks.near) = ap (λ (y : Flanks). bit (S y.near)) flanks_are in
              let y : bit (S (get_or gaps other d).flanks.far) ≡ bit (S second.flanks.far) = ap (λ (y : Flanks). bit (S y.far)) flanks_are in
              omega (arith, e, a, b, a', b', f, g, f', g', k, k', x, y);
          among = subst (All (AreAmong n)) (sym pushed) (All-push (AreAmong n) journal (get_or gaps other d).flanks going.among (subst (AreAmong n) (sym flanks_are) second.gap.among));
        }

  -- where both are at one gap
  pub come : (to one other : ℕ) (journal : List Flanks) → one ≡ other → IsGoing n gaps to one other journal → TellGap n gaps to journal
  come to one other journal same going =
      let equal : going.first ≡ going.second = one_way n gaps other going.first going.second (subst (λ g. IsWay n gaps g going.first) same going.is_first) going.is_second in
      record {
        way = going.way;
        is = going.is;
        one = λ S none.
            let e = going.balance S none in
            let a : near_count going.first S ≡ near_count going.second S = ap (λ l. near_count l S) equal in
            let b : far_count going.first S ≡ far_count going.second S = ap (λ l. far_count l S) equal in
            omega (arith, e, a, b);
      }
