-- The order of darts by their nodes, and about one node by their headings.
use Rattle.std.proofs.Common.{◌≡◌, ◌⊎◌, inl, inr, arith, sym, ◌∙◌}
use Rattle.std.proofs.lemmas.Bool.{cases_lt}
use Rattle.tl_geom.proofs.Within.{below_trans}
use Rattle.tl_check_sides.specs.declared.headed.HeadedDart.{HeadedDart}
use Rattle.tl_check_sides.specs.Headed.{HeadTogether}
use Rattle.tl_check_sides.proofs.Headings.{never_one}
use Rattle.tl_check_sides.proofs.Turns.{order}
use Rattle.tl_build_propose.specs.Keeping.Sorting.{ComesBefore}

-- the first comes before the other, or neither does, or the other before it
abbrev pub Compared : HeadedDart → HeadedDart → Type 0
Compared s t = ComesBefore s t ⊎ (HeadTogether s t ⊎ ComesBefore t s)

pub compare : (s t : HeadedDart) → Compared s t
compare s t = elim (cases_lt s.node t.node) [
  | inl less ↦ inl (inl less)
  | inr not ↦ elim (cases_lt t.node s.node) [
    | inl more ↦ inr (inr (inl more))
    | inr none ↦
        let same : s.node ≡ t.node = omega (arith, not, none) in
        elim (order s.heading t.heading) [
          | inl below ↦ inl (inr (same, below))
          | inr (inl one) ↦ inr (inl (record { node = same; one = one }))
          | inr (inr above) ↦ inr (inr (inr (sym same, above)))
        ]
  ]
]

pub never_ties : (s t : HeadedDart) → ComesBefore s t → ¬ HeadTogether s t
never_ties s t (inl less) ties = omega (arith, less, ties.node)
never_ties s t (inr less) ties = never_one s.heading t.heading less.1 ties.one

pub chained : (s t u : HeadedDart) → ComesBefore s t → ComesBefore t u → ComesBefore s u
chained s t u (inl one) (inl two) = inl (omega (arith, one, two))
chained s t u (inl one) (inr two) = inl (omega (arith, one, two.0))
chained s t u (inr one) (inl two) = inl (omega (arith, one.0, two))
chained s t u (inr one) (inr two) = inr (one.0 ∙ two.0, below_trans s.heading t.heading u.heading one.1 two.1)
