-- A step of the sweep.
use Rattle.std.proofs.Common.{◌≡◌, ℕ, ◌+◌, List, ◌++◌, sym, ap, subst, ◌∙◌, arith}
use Rattle.std.specs.Prelude.{slice_get}
use Rattle.tl_map_county.specs.TheMap.{MapChain}
use Rattle.tl_tree_index.specs.Hits.{times}
use Rattle.tl_tree_index.proofs.Times.{times-append}
use Rattle.tl_check_planar.specs.ByHeight.Heights.{widest}
use Rattle.tl_check_planar.specs.ByHeight.Neighbours.{AreTested, EachTwo}
use Rattle.tl_check_planar.proofs.ByHeight.Walking.{two_front, two_back}
use Rattle.tl_check_active.specs.Blocks.Lined.{TheLine, list_of, last_of}
use Rattle.tl_check_active.specs.Passed.{IsShifted, HasPassed}
use Rattle.tl_check_active.specs.declared.passing.BothSides.{BothSides}

-- a step from a list that is the same, with the segments in another order
pub passed_by : (chains : List MapChain) (list : List ℕ) (stood line : TheLine) (outs outs' ins ins' o i : List ℕ) (both : BothSides) → list_of stood ≡ list →
    ((s : ℕ) → times s outs' ≡ times s outs) → ((s : ℕ) → times s ins' ≡ times s ins) → o ≡ outs' → i ≡ ins' → IsShifted chains o i stood line →
    both.west ≡ last_of stood.front → both.east ≡ slice_get line.back 0 → HasPassed chains list line outs outs' ins ins' both
passed_by chains list stood line outs outs' ins ins' o i both same so si eo ei step west east = record {
  west = stood.front;
  was = sym same ∙ ap (λ b. stood.front ++ b) (step.back ∙ ap (λ x. x ++ line.back) eo);
  is = step.front ∙ ap (λ x. stood.front ++ x) ei;
  same_outs = so;
  same_ins = si;
  tested = λ two.
      let all : EachTwo (AreTested widest chains) (list_of stood) = subst (EachTwo (AreTested widest chains)) (sym same) two in
      step.tested (two_front (AreTested widest chains) stood.front stood.back all)
      (two_back (AreTested widest chains) o line.back
      (subst (EachTwo (AreTested widest chains)) step.back (two_back (AreTested widest chains) stood.front stood.back all)));
  west_is = west;
  east_is = east;
}

-- what stands in the list before and after
pub moved : (chains : List MapChain) (list : List ℕ) (line : TheLine) (outs outs' ins ins' : List ℕ) (both : BothSides) →
    HasPassed chains list line outs outs' ins ins' both → (s : ℕ) → times s (list_of line) + times s outs ≡ times s list + times s ins
moved chains list line outs outs' ins ins' both p s =
    let was = ap (times s) p.was in
    let is = ap (times s) p.is in
    let a = times-append s p.west (outs' ++ line.back) in
    let b = times-append s outs' line.back in
    let c = times-append s line.front line.back in
    let d = times-append s p.west ins' in
    let o = p.same_outs s in
    let i = p.same_ins s in
    omega (arith, was, is, a, b, c, d, o, i)
