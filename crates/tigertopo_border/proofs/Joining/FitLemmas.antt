-- What two records that fit say, and what stays of them.
use Rattle.std.proofs.Common.{◌≡◌, ℕ, ◌≤◌, ◌⊎◌, true, false, not, ◌&&◌, List, [], ◌∷◌, ◌++◌, length, filter, Option, Some, None, refl, sym, ap, ◌∙◌, inl, inr, arith}
use Rattle.std.specs.List.{list_any}
use Rattle.std.specs.Option.{option_eq}
use Rattle.std.specs.Cmp.Lexicographic.{pointwise}
use Rattle.std.proofs.lemmas.Bool.{true≢false, cases_Bool, and_parts, not-true, eq-eqb}
use Rattle.std.proofs.lemmas.List.Elements.{filter_agree}
use Rattle.std.proofs.lemmas.List.Folds.{list_any_at}
use Rattle.tl_geom.specs.declared.point.Point.{Point}
use Rattle.tl_geom.proofs.Conditions.{same_point as one_point}
use Rattle.tl_record_key.specs.declared.key.PolyKey.{PolyKey}
use Rattle.tl_record.specs.declared.record.Record.{Record}
use Rattle.tl_record.specs.declared.record.Record.TheVariants.{Chain, Shape, Sides}
use Rattle.tl_record.specs.Joining.{tells_chain, tells_sides, tells_shape_at, same_point, sides_complete, ids_agree, fits, are_two_that_fit, is_shape_apart, is_told_twice}
use Rattle.tl_map.proofs.JoinedLemmas.ApartLemmas.{key, chain_at, shape_at, sides_at}
use Rattle.tigertopo_border.proofs.Joining.KeyedLemmas.{told}
use Rattle.tigertopo_border.proofs.Joining.InLemmas.{In, contained}
use Rattle.tl_map.proofs.JoinedLemmas.JoinLemmas.{twice_fit as twice_parts}

-- these are two, and they fit
pub record AreTwo (xs : List Record) : Type 0 where
  pub first : Record
  pub second : Record
  pub are : xs ≡ first ∷ second ∷ []
  pub fit : fits first second ≡ true

pub two_of : (xs : List Record) → are_two_that_fit xs ≡ true → AreTwo xs
two_of [] fit = absurd (true≢false (sym fit))
two_of (a ∷ []) fit = absurd (true≢false (sym fit))
two_of (a ∷ b ∷ []) fit = record { first = a; second = b; are = refl; fit = fit }
two_of (a ∷ b ∷ c ∷ xs) fit = absurd (true≢false (sym fit))

-- one of each of two lists
pub one_each : (xs ys : List Record) (a b : Record) → xs ++ ys ≡ a ∷ b ∷ [] → length xs ≤ 1 → length ys ≤ 1 → (xs ≡ a ∷ []) × (ys ≡ b ∷ [])
one_each [] ys a b are few other = absurd (let two = ap length are in omega (arith, two, other))
one_each (x ∷ []) ys a b are few other = (let e : x ≡ a = cc in ap (λ z. z ∷ []) e, cc)
one_each (x ∷ z ∷ xs) ys a b are few other = absurd (omega (arith, few))

pub none_each : (xs ys : List Record) → xs ++ ys ≡ [] → (xs ≡ []) × (ys ≡ [])
none_each [] ys none = (refl, none)
none_each (x ∷ xs) ys none = absurd (let wrong : x ∷ (xs ++ ys) ≡ [] = none in cc)

-- ---- what fits

pub same_ends : (t u : ℕ) (f g o p : Point) → fits (Chain t f o) (Chain u g p) ≡ true → (f ≡ g) × (o ≡ p)
same_ends t u f g o p fit =
    let both = and_parts (same_point f g) (same_point o p) fit in
    (one_point f g (same_point f g) refl both.0, one_point o p (same_point o p) refl both.1)

same_pair : (p q : Option Point) → option_eq same_point p q ≡ true → p ≡ q
same_pair None None same = refl
same_pair None (Some q) same = absurd (true≢false (sym same))
same_pair (Some p) None same = absurd (true≢false (sym same))
same_pair (Some p) (Some q) same = ap (λ x. Some x) (one_point p q (same_point p q) refl same)

same_pairs : (ps qs : List (Option Point)) → pointwise (option_eq same_point) ps qs ≡ true → ps ≡ qs
same_pairs [] [] same = refl
same_pairs [] (q ∷ qs) same = absurd (true≢false (sym same))
same_pairs (p ∷ ps) [] same = absurd (true≢false (sym same))
same_pairs (p ∷ ps) (q ∷ qs) same =
    let both = and_parts (option_eq same_point p q) (pointwise (option_eq same_point) ps qs) same in
    let first = same_pair p q both.0 in
    let rest = same_pairs ps qs both.1 in
    λ i. first i ∷ rest i

pub pairs_fit : (t n u m : ℕ) (ps qs : List (Option Point)) → fits (Shape t n ps) (Shape u m qs) ≡ true → ps ≡ qs
pairs_fit t n u m ps qs fit = same_pairs ps qs fit

-- one names the left alone, the other the right alone
pub data AreHalves (l r other_l other_r : Option PolyKey) : Type 0 where
  left_first : (k j : PolyKey) → l ≡ Some k → r ≡ None → other_l ≡ None → other_r ≡ Some j → AreHalves l r other_l other_r
  right_first : (k j : PolyKey) → l ≡ None → r ≡ Some j → other_l ≡ Some k → other_r ≡ None → AreHalves l r other_l other_r

halves : (l r m s : Option PolyKey) → sides_complete l r m s ≡ true → AreHalves l r m s
halves (Some k) None None (Some j) is = left_first k j refl refl refl refl
halves None (Some j) (Some k) None is = right_first k j refl refl refl refl
halves None None m s is = absurd (true≢false (sym is))
halves (Some k) (Some j) m s is = absurd (true≢false (sym is))
halves (Some k) None (Some m) s is = absurd (true≢false (sym is))
halves (Some k) None None None is = absurd (true≢false (sym is))
halves None (Some j) None s is = absurd (true≢false (sym is))
halves None (Some j) (Some m) (Some s) is = absurd (true≢false (sym is))

pub sides_fit : (t u : ℕ) (s e s' e' : Option ℕ) (l r l' r' : Option PolyKey) → fits (Sides t s e l r) (Sides u s' e' l' r') ≡ true → AreHalves l r l' r'
sides_fit t u s e s' e' l r l' r' fit = halves l r l' r' (and_parts (sides_complete l r l' r') (ids_agree s s' && ids_agree e e') fit).0

-- ---- a chain that is told twice

pub record IsToldTwice (rs : List Record) (t : ℕ) : Type 0 where
  pub chain : AreTwo (told (key t 49 0) rs)
  pub sides : AreTwo (told (key t 73 0) rs)
  pub shapes : (n : ℕ) (pairs : List (Option Point)) → In (Shape t n pairs) rs → AreTwo (told (key t 50 n) rs)

pub told_twice : (rs : List Record) (t : ℕ) → is_told_twice rs t ≡ true → IsToldTwice rs t
told_twice rs t twice =
    let parts = twice_parts rs t twice in
    record {
      chain = two_of (told (key t 49 0) rs) (ap are_two_that_fit (filter_agree _ _ (chain_at t) rs) ∙ parts.0);
      sides = two_of (told (key t 73 0) rs) (ap are_two_that_fit (filter_agree _ _ (sides_at t) rs) ∙ parts.1);
      shapes = λ n pairs has. shapes_of n pairs has (cases_Bool (are_two_that_fit (filter (tells_shape_at t n) rs))) parts.2;
    }
  where
    shapes_of : (n : ℕ) (pairs : List (Option Point)) → In (Shape t n pairs) rs → (are_two_that_fit (filter (tells_shape_at t n) rs) ≡ true) ⊎ (are_two_that_fit (filter (tells_shape_at t n) rs) ≡ false)
        → list_any (is_shape_apart rs t) rs ≡ false → AreTwo (told (key t 50 n) rs)
    shapes_of n pairs has (inl fit) none = two_of (told (key t 50 n) rs) (ap are_two_that_fit (filter_agree _ _ (shape_at t n) rs) ∙ fit)
    shapes_of n pairs has (inr apart) none =
        let own : is_shape_apart rs t (Shape t n pairs) ≡ true = rw (eq-eqb t t refl, apart) refl in
        let there = contained rs (Shape t n pairs) has in
        absurd (true≢false (sym (list_any_at (is_shape_apart rs t) rs there.0 (Shape t n pairs) there.1 (rw there.2 own)) ∙ none))
