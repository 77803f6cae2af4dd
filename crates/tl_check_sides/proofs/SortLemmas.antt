-- The order in which darts are sorted is one that a sort can take.
use Rattle.std.proofs.Common.{◌≡◌, ◌⊎◌, inl, inr, arith, Bool, true, false, refl, sym, ◌∙◌}
use Rattle.std.proofs.lemmas.Bool.{cases_lt, true≢false}
use Rattle.std.specs.Cmp.{IsStrictWeakOrder}
use Rattle.std.specs.Ordering.{is_lt}
use Rattle.std.specs.declared.cmp.Ordering.{Ordering}
use Rattle.std.specs.declared.cmp.Ordering.TheVariants.{Less, Equal, Greater}
use Rattle.tl_geom.specs.Turning.{IsOneDirection}
use Rattle.tl_geom.proofs.Order.{one_back}
use Rattle.tl_geom.proofs.Within.{below_trans, alike_below, alike_above}
use Rattle.tl_check_sides.proofs.Headings.{never_both, never_one}
use Rattle.tl_check_sides.proofs.Turns.{order, joined}
use Rattle.tl_check_sides.specs.declared.headed.HeadedDart.{HeadedDart}
use Rattle.tl_check_sides.specs.Headed.{HeadsFirst, ComesBefore}

-- both are one dart, as far as the order tells
pub record AreTied (s t : HeadedDart) : Type 0 where
  pub node : s.node ≡ t.node
  pub one : IsOneDirection s.heading t.heading
  pub dart : s.dart ≡ t.dart

-- the first comes before the other, or neither does, or the other before it
abbrev pub Compared : HeadedDart → HeadedDart → Type 0
Compared s t = ComesBefore s t ⊎ (AreTied s t ⊎ ComesBefore t s)

pub compare : (s t : HeadedDart) → Compared s t
compare s t = elim (cases_lt s.node t.node) [
  | inl less ↦ inl (inl less)
  | inr not ↦ elim (cases_lt t.node s.node) [
    | inl more ↦ inr (inr (inl more))
    | inr none ↦
        let same : s.node ≡ t.node = omega (arith, not, none) in
        elim (order s.heading t.heading) [
          | inl below ↦ inl (inr (same, inl below))
          | inr (inl one) ↦ elim (cases_lt s.dart t.dart) [
            | inl first ↦ inl (inr (same, inr (one, first)))
            | inr later ↦ elim (cases_lt t.dart s.dart) [
              | inl behind ↦ inr (inr (inr (sym same, inr (one_back s.heading t.heading one, behind))))
              | inr level ↦ inr (inl (record { node = same; one = one; dart = omega (arith, later, level) }))
            ]
          ]
          | inr (inr above) ↦ inr (inr (inr (sym same, inl above)))
        ]
  ]
]

heads_once : (s t : HeadedDart) → HeadsFirst s t → ¬ HeadsFirst t s
heads_once s t (inl a) (inl b) = never_both s.heading t.heading a b
heads_once s t (inl a) (inr b) = never_one s.heading t.heading a (one_back t.heading s.heading b.0)
heads_once s t (inr a) (inl b) = never_one t.heading s.heading b (one_back s.heading t.heading a.0)
heads_once s t (inr a) (inr b) = let x = a.1 in let y = b.1 in omega (arith, x, y)

pub never_after : (s t : HeadedDart) → ComesBefore s t → ¬ ComesBefore t s
never_after s t (inl less) (inl more) = omega (arith, less, more)
never_after s t (inl less) (inr more) = omega (arith, less, more.0)
never_after s t (inr less) (inl more) = omega (arith, less.0, more)
never_after s t (inr less) (inr more) = heads_once s t less.1 more.1

pub never_tied : (s t : HeadedDart) → ComesBefore s t → ¬ AreTied s t
never_tied s t (inl less) tied = let e = tied.node in omega (arith, less, e)
never_tied s t (inr (same, inl below)) tied = never_one s.heading t.heading below tied.one
never_tied s t (inr (same, inr first)) tied = let e = tied.dart in let lt = first.1 in omega (arith, lt, e)

heads_chained : (s t u : HeadedDart) → HeadsFirst s t → HeadsFirst t u → HeadsFirst s u
heads_chained s t u (inl a) (inl b) = inl (below_trans s.heading t.heading u.heading a b)
heads_chained s t u (inl a) (inr b) = inl (alike_above u.heading t.heading s.heading (one_back t.heading u.heading b.0) a)
heads_chained s t u (inr a) (inl b) = inl (alike_below s.heading t.heading u.heading a.0 b)
heads_chained s t u (inr a) (inr b) = inr (joined s.heading t.heading u.heading a.0 b.0, (let x = a.1 in let y = b.1 in omega (arith, x, y)))

chained : (s t u : HeadedDart) → ComesBefore s t → ComesBefore t u → ComesBefore s u
chained s t u (inl one) (inl two) = inl (omega (arith, one, two))
chained s t u (inl one) (inr two) = inl (omega (arith, one, two.0))
chained s t u (inr one) (inl two) = inl (omega (arith, one.0, two))
chained s t u (inr one) (inr two) = inr (one.0 ∙ two.0, heads_chained s t u one.1 two.1)

-- one comes before what ties with another that it comes before
before_alike : (s t u : HeadedDart) → ComesBefore s u → AreTied t u → ComesBefore s t
before_alike s t u (inl less) tied = let e = tied.node in inl (omega (arith, less, e))
before_alike s t u (inr (same, inl below)) tied = inr (same ∙ sym tied.node, inl (alike_above t.heading u.heading s.heading tied.one below))
before_alike s t u (inr (same, inr first)) tied =
    let e = tied.dart in
    let lt = first.1 in
    inr (same ∙ sym tied.node, inr (joined s.heading u.heading t.heading first.0 (one_back t.heading u.heading tied.one), omega (arith, lt, e)))

-- ---- as a test

abbrev test_of : (s t : HeadedDart) → Compared s t → Bool
test_of s t (inl before) = true
test_of s t (inr other) = false

abbrev pub comes : HeadedDart → HeadedDart → Bool
comes s t = test_of s t (compare s t)

true_of : (s t : HeadedDart) (c : Compared s t) → test_of s t c ≡ true → ComesBefore s t
true_of s t (inl before) e = before
true_of s t (inr other) e = absurd (true≢false (sym e))

false_of : (s t : HeadedDart) (c : Compared s t) → test_of s t c ≡ false → ¬ ComesBefore s t
false_of s t (inl before) e = absurd (true≢false e)
false_of s t (inr (inl tied)) e = λ before. never_tied s t before tied
false_of s t (inr (inr after)) e = λ before. never_after s t before after

is_true : (s t : HeadedDart) (c : Compared s t) → ComesBefore s t → test_of s t c ≡ true
is_true s t (inl before) b = refl
is_true s t (inr (inl tied)) b = absurd (never_tied s t b tied)
is_true s t (inr (inr after)) b = absurd (never_after s t b after)

is_false : (s t : HeadedDart) (c : Compared s t) → ¬ ComesBefore s t → test_of s t c ≡ false
is_false s t (inl before) no_such = absurd (no_such before)
is_false s t (inr other) no_such = refl

pub not_before : (s t : HeadedDart) → comes s t ≡ false → ¬ ComesBefore s t
not_before s t e = false_of s t (compare s t) e

pub weak_order : IsStrictWeakOrder comes
weak_order = record {
  one_way = λ s t e. is_false t s (compare t s) (λ after. never_after s t (true_of s t (compare s t) e) after);
  chain = λ s t u e f. is_false s u (compare s u) (λ before. not_both s t u (false_of s t (compare s t) e) (false_of t u (compare t u) f) before);
}
  where
    not_both : (s t u : HeadedDart) → ¬ ComesBefore s t → ¬ ComesBefore t u → ¬ ComesBefore s u
    not_both s t u one two before = elim (compare t u) [
      | inl less ↦ two less
      | inr (inl tied) ↦ one (before_alike s t u before tied)
      | inr (inr more) ↦ one (chained s u t before more)
    ]

-- an answer that is less exactly where the first comes before the other
pub as_test : (s t : HeadedDart) (answer : Ordering) → ((answer ≡ Less) → ComesBefore s t) → (ComesBefore s t → answer ≡ Less) → is_lt answer ≡ comes s t
as_test s t Less to from = sym (is_true s t (compare s t) (to refl))
as_test s t Equal to from = sym (is_false s t (compare s t) (λ before. cc (from before)))
as_test s t Greater to from = sym (is_false s t (compare s t) (λ before. cc (from before)))
