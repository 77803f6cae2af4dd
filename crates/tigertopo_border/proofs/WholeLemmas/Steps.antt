-- The border of the border between parts is a border of the joined map.
use Rattle.std.proofs.Common.{◌≡◌, inl, inr, ⊎_elim, ◌<◌, Bool, true, false, ◌||◌, Some, List, [], ◌∷◌, length, take, slice_get, refl, sym, ap, subst, ◌∙◌, arith}
use Rattle.std.proofs.lemmas.Bool.{false≢true}
use Rattle.std.proofs.lemmas.Option.{slice_get_within}
use Rattle.tl_map_county.specs.declared.polygons.Polygon as polygons
use Rattle.tl_map_county.specs.declared.sides.Side.{Side}
use Rattle.tl_map_county.specs.declared.sides.Side.TheVariants.{Outside, Polygon}
use Rattle.tl_map_county.specs.TheMap.{TheMap, MapChain}
use Rattle.tigertopo_border.specs.Whole.Told.{IsNamed, AreTold}
use Rattle.tigertopo_border.specs.Whole.Homes.{Homes, is_blank, name, is_border}
use Rattle.tigertopo_border.specs.Whole.Joined.{IsBorder, IsPointOfPart}
use Rattle.tigertopo_border.specs.Whole.Borders.{as_one, has_blank, IsPointWithin, IsBorderOf}
use Rattle.tigertopo_border.proofs.WholeLemmas.Names.{border_left, border_right}

module _ (homes : Homes) where
  blank_name : (s : Side) → is_blank (name homes s) ≡ is_blank s
  blank_name Outside = refl
  blank_name (Polygon p) = refl

  one_name : (s : Side) → as_one (name homes s) ≡ as_one s
  one_name Outside = refl
  one_name (Polygon p) = refl

  blank_is : (s : Side) → is_blank s ≡ true → s ≡ Outside
  blank_is Outside e = refl
  blank_is (Polygon p) e = absurd (false≢true e)

  -- a chain with a blank is of the border
  of_border : (c : MapChain) → has_blank c ≡ true → is_border homes c ≡ true
  of_border c = by (is_blank c.left) refl
    where
      by : (b : Bool) → is_blank c.left ≡ b → (is_blank c.left || is_blank c.right) ≡ true → is_border homes c ≡ true
      by true e f = border_left homes c (blank_is c.left e)
      by false e f = border_right homes c (blank_is c.right (sym (ap (λ b. b || is_blank c.right) e) ∙ f))

  no_blank : (c : MapChain) → is_border homes c ≡ false → has_blank c ≡ false
  no_blank c e = by (has_blank c) refl
    where
      by : (b : Bool) → has_blank c ≡ b → has_blank c ≡ false
      by true f = absurd (false≢true (sym e ∙ of_border c f))
      by false f = f

  blank_same : (c n : MapChain) → IsNamed (name homes) c n → has_blank n ≡ has_blank c
  blank_same c n named = λ i. (ap is_blank named.left ∙ blank_name c.left) i || (ap is_blank named.right ∙ blank_name c.right) i

  named_same : (c n b : MapChain) → IsNamed (name homes) c n → IsNamed as_one n b → IsNamed as_one c b
  named_same c n b p q = record {
    tlid = q.tlid ∙ p.tlid;
    points = q.points ∙ p.points;
    left = q.left ∙ ap as_one p.left ∙ one_name c.left;
    right = q.right ∙ ap as_one p.right ∙ one_name c.right;
  }

  past : (c : MapChain) (chains bs : List MapChain) → has_blank c ≡ false → AreTold as_one has_blank chains bs → AreTold as_one has_blank (c ∷ chains) bs
  past c chains [] e t = (e, t)
  past c chains (b ∷ bs) e t = inr (e, t)

  told_twice : (chains named bs : List MapChain) → AreTold (name homes) (is_border homes) chains named → AreTold as_one has_blank named bs → AreTold as_one has_blank chains bs
  told_twice [] named bs t u = subst (λ l. AreTold as_one has_blank l bs) t u
  told_twice (c ∷ chains) [] bs t u = past c chains bs (no_blank c t.0) (told_twice chains [] bs t.1 u)
  told_twice (c ∷ chains) (n ∷ named) [] t u =
      ⊎_elim
      (λ h. past c chains [] (sym (blank_same c n h.1.0) ∙ u.0) (told_twice chains named [] h.1.1 u.1))
      (λ h. past c chains [] (no_blank c h.0) (told_twice chains (n ∷ named) [] h.1 u))
      t
  told_twice (c ∷ chains) (n ∷ named) (b ∷ bs) t u =
      ⊎_elim
      (λ h.
      ⊎_elim
      (λ k. inl (sym (blank_same c n h.1.0) ∙ k.0, (named_same c n b h.1.0 k.1.0, told_twice chains named bs h.1.1 k.1.1)))
      (λ k. inr (sym (blank_same c n h.1.0) ∙ k.0, told_twice chains named (b ∷ bs) h.1.1 k.1))
      u)
      (λ h. inr (no_blank c h.0, told_twice chains (n ∷ named) (b ∷ bs) h.1 u))
      t

-- both lists have a first, or none has
same_taken : (ps qs : List polygons.Polygon) → (0 < length ps → 0 < length qs) → (0 < length qs → 0 < length ps) → length (take 1 ps) ≡ length (take 1 qs)
same_taken [] [] f g = refl
same_taken [] (q ∷ qs) f g = absurd (let h = g (omega arith) in omega (arith, h))
same_taken (p ∷ ps) [] f g = absurd (let h = f (omega arith) in omega (arith, h))
same_taken (p ∷ ps) (q ∷ qs) f g = refl

module _ (homes : Homes) (joined border : TheMap) (is_border_of : IsBorder homes joined border) where
  some_joined : 0 < length border.polygons → 0 < length joined.polygons
  some_joined lt = go (head border.polygons lt)
    where
      head : (ps : List polygons.Polygon) → 0 < length ps → (p : polygons.Polygon) × (slice_get ps 0 ≡ Some p)
      head [] h = absurd (omega (arith, h))
      head (p ∷ ps) h = (p, refl)

      go : (p : polygons.Polygon) × (slice_get border.polygons 0 ≡ Some p) → 0 < length joined.polygons
      go (p, is) =
          let w : IsPointOfPart homes joined 0 p = is_border_of.points 0 p is in
          let h = slice_get_within joined.polygons w.place w.other w.is in omega (arith, h)

  some_border : 0 < length joined.polygons → 0 < length border.polygons
  some_border lt = go (head joined.polygons lt)
    where
      head : (ps : List polygons.Polygon) → 0 < length ps → (p : polygons.Polygon) × (slice_get ps 0 ≡ Some p)
      head [] h = absurd (omega (arith, h))
      head (p ∷ ps) h = (p, refl)

      go : (p : polygons.Polygon) × (slice_get joined.polygons 0 ≡ Some p) → 0 < length border.polygons
      go (p, is) = let h = is_border_of.all 0 p is in omega (arith, h)

  pub border_of_border : (b : TheMap) → IsBorderOf border b → IsBorderOf joined b
  border_of_border b own = record {
    chains = told_twice homes joined.chains border.chains b.chains is_border_of.chains own.chains;
    many = own.many ∙ same_taken border.polygons joined.polygons some_joined some_border;
    points = λ polygon is. by (own.points polygon is);
  }
    where
      by : {polygon : polygons.Polygon} → IsPointWithin border polygon → IsPointWithin joined polygon
      by {polygon} w =
          let p : IsPointOfPart homes joined w.place w.other = is_border_of.points w.place w.other w.is in
          record { place = p.place; other = p.other; is = p.is; point = w.point ∙ p.point }
