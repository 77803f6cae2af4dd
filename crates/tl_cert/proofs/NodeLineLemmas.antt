-- The first line of a leaf, where it is no inner node's.
use Rattle.std.proofs.Common.{◌≡◌, ◌≤◌, ℕ, zero, suc, arith, List, ◌∷◌, ◌++◌, Option, None, Some, MatchOption, refl, sym, ◌∙◌}
use Rattle.tl_geom.specs.declared.rect.Rect.{Rect}
use Rattle.tl_cert.specs.declared.node_line.NodeStart.{NodeStart}
use Rattle.tl_cert.specs.declared.node_line.NodeStart.TheVariants.{Inner, Leaf}
use Rattle.tl_cert.specs.Certificates.{IsInRange}
use Rattle.tl_cert.specs.Text.{rectangle, children, number}
use Rattle.tl_cert.specs.Keeping.Kinds.{node_line, NodeFits, ChildrenFit, children_told}
use Rattle.tl_cert.proofs.WordLemmas.{same_first, same_rest}
use Rattle.tl_cert.proofs.KindLemmas.{behind_rectangle, children_start, number_is}

pub leaf_parsed : (version : ℕ) (line bytes : List ℕ) (result : Option NodeStart) → ((others : List ℕ) → line ≡ 66 ∷ others → ⊥) → line ≡ 76 ∷ bytes
    → MatchOption result ((version : ℕ) (r : Rect) (k : ℕ) → IsInRange r → 1 ≤ k → k ≤ 8 → 76 ∷ bytes ≡ node_line version (Leaf r k) → ⊥)
    (λ node. (version : ℕ) → NodeFits version node × (76 ∷ bytes ≡ node_line version node))
    → MatchOption result ((value : NodeStart) → NodeFits version value → line ≡ node_line version value → ⊥)
    (λ value. NodeFits version value × (line ≡ node_line version value))
leaf_parsed version line bytes (Some node) no_inner is told = let k = told version in (k.0, is ∙ k.1)
leaf_parsed version line bytes None no_inner is told = λ value fits same. by_kind value fits same
  where
    by_kind : (value : NodeStart) → NodeFits version value → line ≡ node_line version value → ⊥
    by_kind (Inner r k) fits same = no_inner (rectangle r ++ children version k) same
    by_kind (Leaf r k) fits same = told version r k fits.0 fits.1 fits.2 (sym is ∙ same)

same_children : (version j k : ℕ) → ChildrenFit version j → ChildrenFit version k → children version j ≡ children version k → j ≡ k
same_children zero j k fits fit same = omega (arith, fits.two (omega arith), fit.two (omega arith))
same_children (suc zero) j k fits fit same = omega (arith, fits.two (omega arith), fit.two (omega arith))
same_children (suc (suc version)) j k fits fit same = number_is (number j) j k refl (omega (arith, fits.most)) same (omega (arith, fit.most))

-- a line tells one number of children
pub children_same : (version : ℕ) (line : List ℕ) (a b : NodeStart) → NodeFits version a → NodeFits version b
    → line ≡ node_line version a → line ≡ node_line version b → children_told a ≡ children_told b
children_same version line (Inner r j) (Inner s k) fits fit is same =
    let rest = same_rest 66 66 (rectangle r ++ children version j) (rectangle s ++ children version k) (sym is ∙ same) in
    same_children version j k fits.1 fit.1 (behind_rectangle r s (children version j) (children version k) fits.0 fit.0 (children_start version j) (children_start version k) rest)
children_same version line (Inner r j) (Leaf s k) fits fit is same =
    let letters = same_first 66 76 (rectangle r ++ children version j) (rectangle s ++ number k) (sym is ∙ same) in omega (arith, letters)
children_same version line (Leaf r j) (Inner s k) fits fit is same =
    let letters = same_first 76 66 (rectangle r ++ number j) (rectangle s ++ children version k) (sym is ∙ same) in omega (arith, letters)
children_same version line (Leaf r j) (Leaf s k) fits fit is same = refl
