use Rattle.std.proofs.Common.{◌≡◌, ◌↔◌, ℤ, ◌*ℤ◌, eqb, sym, ap, subst, ◌∙◌, rules}
use Rattle.std.specs.Bool.{IsTrue}
use Rattle.std.proofs.lemmas.Bool.{eqb-true, eq-eqb, false≢true}
use Rattle.std.proofs.lemmas.Int.{to_z-of_z}
use mir.Syntax.{w32, w128}
use mir.Val.{SFits, to_z, of_z}
use Rattle.tl_check_planar.proofs.allowed.is_product.Goals as goal

-- numbers that fit are one where they are written alike
written_alike : (x y : ℤ) → SFits w128 x → SFits w128 y → IsTrue (eqb (of_z w128 x) (of_z w128 y)) ↔ (x ≡ y)
written_alike x y f g = (
  (λ h. sym (to_z-of_z w128 x f) ∙ ap (to_z w128) (eqb-true (of_z w128 x) (of_z w128 y) h) ∙ to_z-of_z w128 y g),
  (λ e. eq-eqb (of_z w128 x) (of_z w128 y) (ap (of_z w128) e)),
)

-- what is multiplied are the two numbers
factors : (a d r : ℤ) → SFits w32 a → SFits w128 d → SFits w128 r → r ≡ to_z w32 (of_z w32 a) → to_z w128 (of_z w128 r) *ℤ to_z w128 (of_z w128 d) ≡ a *ℤ d
factors a d r f g h e =
    ap (λ z. z *ℤ to_z w128 (of_z w128 d)) (to_z-of_z w128 r h ∙ e ∙ to_z-of_z w32 a f)
    ∙ ap (λ z. a *ℤ z) (to_z-of_z w128 d g)

pub returns-in-Some : goal.returns-in-Some
returns-in-Some c =
    let wide : SFits w128 c.from.result = search rules in
    let product : c.in-Some.product ≡ c.args.a *ℤ c.args.d =
    c.in-Some.ensures.1 ∙ factors c.args.a c.args.d c.from.result c.ranges.a c.ranges.d wide c.from.ensures in
    let alike : IsTrue (eqb (of_z w128 c.args.x) (of_z w128 c.in-Some.product)) ↔ (c.args.x ≡ c.in-Some.product) =
    written_alike c.args.x c.in-Some.product c.ranges.x (subst (SFits w128) (sym c.in-Some.ensures.1) c.in-Some.ensures.0) in
    (λ h. alike.0 h ∙ product, λ e. alike.1 (e ∙ sym product))

pub returns-in-None : goal.returns-in-None
returns-in-None c =
    let wide : SFits w128 c.from.result = search rules in (
      λ h. absurd (false≢true h),
      λ e. absurd (c.in-None.ensures (subst (SFits w128) (e ∙ sym (factors c.args.a c.args.d c.from.result c.ranges.a c.ranges.d wide c.from.ensures)) c.ranges.x)),
    )
