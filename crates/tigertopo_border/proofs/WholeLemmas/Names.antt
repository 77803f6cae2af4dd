-- What parts name, and which chains they tell.
use Rattle.std.proofs.Common.{◌≡◌, ◌≢◌, ℕ, ◌<◌, Bool, true, false, not, refl, sym, ap, subst, ◌∙◌}
use Rattle.std.specs.Prelude.{◌==◌, if◌then◌else◌, IsTrue}
use Rattle.std.proofs.lemmas.Bool.{false≢true, eqb-true, eq-eqb}
use Rattle.tl_map_county.specs.declared.sides.Side.{Side}
use Rattle.tl_map_county.specs.declared.sides.Side.TheVariants.{Outside, Polygon}
use Rattle.tl_map_county.specs.TheMap.{MapChain}
use Rattle.tl_check_inside.specs.Inside.{is_polygon}
use Rattle.tigertopo_border.specs.Whole.Homes.{Homes, is_of, is_blank, is_named, own, tells, name, are_of_one, is_border, IsOfParts, IsToldByParts}

module _ (homes : Homes) where
  pub named_own : (k : ℕ) (s : Side) → is_named (own homes k s) ≡ is_of homes k s
  named_own k Outside = refl
  named_own k (Polygon p) = go (homes.part p == k)
    where
      go : (t : Bool) → is_named (if t then Polygon (homes.number p) else Outside) ≡ t
      go true = refl
      go false = refl

  pub polygon_name : (k : ℕ) (s : Side) → is_polygon k (name homes s) ≡ is_of homes k s
  polygon_name k Outside = refl
  polygon_name k (Polygon p) = refl

  pub own_none : (k : ℕ) (s : Side) → is_of homes k s ≡ false → own homes k s ≡ Outside
  own_none k Outside e = refl
  own_none k (Polygon p) e = rw e refl

  pub own_there : (k p : ℕ) → homes.part p ≡ k → own homes k (Polygon p) ≡ Polygon (homes.number p)
  own_there k p e = let t = eq-eqb (homes.part p) k e in rw t refl

  -- ---- which chains are told

  module _ (k : ℕ) (c : MapChain) where
    pub untold : tells homes k c ≡ false → (is_of homes k c.left ≡ false) × (is_of homes k c.right ≡ false)
    untold = go (is_of homes k c.left) (is_of homes k c.right) refl refl
      where
        go : (s t : Bool) → is_of homes k c.left ≡ s → is_of homes k c.right ≡ t → tells homes k c ≡ false → (is_of homes k c.left ≡ false) × (is_of homes k c.right ≡ false)
        go true t e f g = absurd (false≢true (sym g ∙ told_left e))
          where
            told_left : is_of homes k c.left ≡ true → tells homes k c ≡ true
            told_left e = rw e refl
        go false true e f g = absurd (false≢true (sym g ∙ told_right e f))
          where
            told_right : is_of homes k c.left ≡ false → is_of homes k c.right ≡ true → tells homes k c ≡ true
            told_right e f = rw (e, f) refl
        go false false e f g = (e, f)

    pub tells_left : is_of homes k c.left ≡ true → tells homes k c ≡ true
    tells_left e = rw e refl

    pub tells_right : is_of homes k c.right ≡ true → tells homes k c ≡ true
    tells_right e = go (is_of homes k c.left) refl
      where
        go : (s : Bool) → is_of homes k c.left ≡ s → tells homes k c ≡ true
        go true f = rw f refl
        go false f = rw (f, e) refl

    pub tells_blank : c.left ≡ Outside → c.right ≡ Outside → homes.teller c.tlid ≡ k → tells homes k c ≡ true
    tells_blank l r e = let t = eq-eqb (homes.teller c.tlid) k e in rw (l, r, t) refl

    -- what isn't told is named alike on both sides
    pub passed : tells homes k c ≡ false → own homes k c.left ≡ own homes k c.right
    passed e = let two = untold e in own_none k c.left two.0 ∙ sym (own_none k c.right two.1)

    pub border_of : is_of homes k c.left ≢ is_of homes k c.right → is_border homes c ≡ true
    border_of = by c.left c.right
      where
        by : (l r : Side) → is_of homes k l ≢ is_of homes k r → not (are_of_one homes l r) ≡ true
        by Outside r ne = refl
        by (Polygon p) Outside ne = refl
        by (Polygon p) (Polygon q) ne = go (homes.part p == homes.part q) refl
          where
            go : (t : Bool) → (homes.part p == homes.part q) ≡ t → not t ≡ true
            go true e = absurd (ne (ap (λ z. z == k) (eqb-true (homes.part p) (homes.part q) e)))
            go false e = refl

    pub not_both : is_border homes c ≡ true → is_of homes k c.left ≡ true → is_of homes k c.right ≡ true → ⊥
    not_both = by c.left c.right
      where
        by : (l r : Side) → not (are_of_one homes l r) ≡ true → is_of homes k l ≡ true → is_of homes k r ≡ true → ⊥
        by Outside r e f g = false≢true f
        by (Polygon p) Outside e f g = false≢true g
        by (Polygon p) (Polygon q) e f g =
            let same : (homes.part p == homes.part q) ≡ true = eq-eqb (homes.part p) (homes.part q) (eqb-true (homes.part p) k f ∙ sym (eqb-true (homes.part q) k g)) in
            false≢true (ap not (sym same) ∙ e)

  pub one_of : (j k : ℕ) (s : Side) → is_of homes j s ≡ true → is_of homes k s ≡ true → j ≡ k
  one_of j k Outside e f = absurd (false≢true e)
  one_of j k (Polygon p) e f = sym (eqb-true (homes.part p) j e) ∙ eqb-true (homes.part p) k f

  pub is_of_own : (p : ℕ) → is_of homes (homes.part p) (Polygon p) ≡ true
  is_of_own p = eq-eqb (homes.part p) (homes.part p) refl

  -- a chain of no border has one part on both sides
  pub record IsInner (c : MapChain) : Type 0 where
    pub k : ℕ
    pub left : is_of homes k c.left ≡ true
    pub right : is_of homes k c.right ≡ true

  pub inner : (c : MapChain) → is_border homes c ≡ false → IsInner c
  inner c e =
      let h : (k : ℕ) × (is_of homes k c.left ≡ true) × (is_of homes k c.right ≡ true) = by c.left c.right e in
      record { k = h.0; left = h.1; right = h.2 }
    where
      by : (l r : Side) → not (are_of_one homes l r) ≡ false → (k : ℕ) × (is_of homes k l ≡ true) × (is_of homes k r ≡ true)
      by Outside r e = absurd (false≢true (sym e))
      by (Polygon p) Outside e = absurd (false≢true (sym e))
      by (Polygon p) (Polygon q) e = go (homes.part p == homes.part q) refl e
        where
          go : (t : Bool) → (homes.part p == homes.part q) ≡ t → not t ≡ false → (k : ℕ) × (is_of homes k (Polygon p) ≡ true) × (is_of homes k (Polygon q) ≡ true)
          go true f e = (homes.part q, f, eq-eqb (homes.part q) (homes.part q) refl)
          go false f e = absurd (false≢true (sym e))

  pub inner_names : (c : MapChain) → is_border homes c ≡ false → name homes c.left ≡ name homes c.right
  inner_names c = by c.left c.right
    where
      by : (l r : Side) → not (are_of_one homes l r) ≡ false → name homes l ≡ name homes r
      by Outside r e = absurd (false≢true (sym e))
      by (Polygon p) Outside e = absurd (false≢true (sym e))
      by (Polygon p) (Polygon q) e = go (homes.part p == homes.part q) refl e
        where
          go : (t : Bool) → (homes.part p == homes.part q) ≡ t → not t ≡ false → name homes (Polygon p) ≡ name homes (Polygon q)
          go true f e = ap Polygon (eqb-true (homes.part p) (homes.part q) f)
          go false f e = absurd (false≢true (sym e))

  pub border_left : (c : MapChain) → c.left ≡ Outside → is_border homes c ≡ true
  border_left c e = ap (λ s. not (are_of_one homes s c.right)) e

  pub border_right : (c : MapChain) → c.right ≡ Outside → is_border homes c ≡ true
  border_right c e = ap (λ s. not (are_of_one homes c.left s)) e ∙ by c.left
    where
      by : (l : Side) → not (are_of_one homes l Outside) ≡ true
      by Outside = refl
      by (Polygon p) = refl

  not_blank : (k : ℕ) (s : Side) → is_of homes k s ≡ true → is_blank s ≡ false
  not_blank k Outside e = absurd (false≢true e)
  not_blank k (Polygon p) e = refl

  -- a chain inside another part isn't told
  pub untold_inner : (i j : ℕ) (c : MapChain) → i ≢ j → is_of homes i c.left ≡ true → is_of homes i c.right ≡ true → tells homes j c ≡ false
  untold_inner i j c ne left right = by (is_of homes j c.left) (is_of homes j c.right) refl refl
    where
      by : (s t : Bool) → is_of homes j c.left ≡ s → is_of homes j c.right ≡ t → tells homes j c ≡ false
      by true t e f = absurd (ne (one_of i j c.left left e))
      by false true e f = absurd (ne (one_of i j c.right right f))
      by false false e f = rw (e, f, not_blank i c.left left) refl

  -- ---- each chain is told by a part

  pub record IsToldBy (n : ℕ) (c : MapChain) : Type 0 where
    pub k : ℕ
    pub below : k < n
    pub told : tells homes k c ≡ true

  pub some_part : (n : ℕ) (c : MapChain) → IsToldByParts homes n c → IsToldBy n c
  some_part n c t = by c.left c.right refl refl
    where
      by : (l r : Side) → c.left ≡ l → c.right ≡ r → IsToldBy n c
      by (Polygon p) r e f = record {
        k = homes.part p;
        below = subst (IsOfParts homes n) e t.left;
        told = tells_left (homes.part p) c (ap (is_of homes (homes.part p)) e ∙ is_of_own p);
      }
      by Outside (Polygon p) e f = record {
        k = homes.part p;
        below = subst (IsOfParts homes n) f t.right;
        told = tells_right (homes.part p) c (ap (is_of homes (homes.part p)) f ∙ is_of_own p);
      }
      by Outside Outside e f = record {
        k = homes.teller c.tlid;
        below = t.blank (subst (λ s. IsTrue (is_blank s)) (sym e) refl) (subst (λ s. IsTrue (is_blank s)) (sym f) refl);
        told = tells_blank (homes.teller c.tlid) c e f refl;
      }

  -- a side of a known part
  pub below_by : (n k : ℕ) (s : Side) → IsOfParts homes n s → is_of homes k s ≡ true → k < n
  below_by n k Outside known e = absurd (false≢true e)
  below_by n k (Polygon p) known e = subst (λ z. z < n) (eqb-true (homes.part p) k e) known

  -- ---- a polygon by its number in its part

  module _ (apart : (p q : ℕ) → homes.part p ≡ homes.part q → homes.number p ≡ homes.number q → p ≡ q) where
    pub polygon_own : (p : ℕ) (s : Side) → is_polygon (homes.number p) (own homes (homes.part p) s) ≡ is_polygon p s
    polygon_own p Outside = refl
    polygon_own p (Polygon q) = go (homes.part q == homes.part p) (homes.number q == homes.number p) (q == p) refl refl refl
      where
        go : (a b c : Bool) → (homes.part q == homes.part p) ≡ a → (homes.number q == homes.number p) ≡ b → (q == p) ≡ c →
            is_polygon (homes.number p) (if a then Polygon (homes.number q) else Outside) ≡ c
        go true true true e f g = f
        go true true false e f g =
            absurd (false≢true (sym g ∙ eq-eqb q p (apart q p (eqb-true (homes.part q) (homes.part p) e) (eqb-true (homes.number q) (homes.number p) f))))
        go true false true e f g = absurd (false≢true (sym f ∙ eq-eqb (homes.number q) (homes.number p) (ap homes.number (eqb-true q p g))))
        go true false false e f g = f
        go false b true e f g = absurd (false≢true (sym e ∙ eq-eqb (homes.part q) (homes.part p) (ap homes.part (eqb-true q p g))))
        go false b false e f g = refl
