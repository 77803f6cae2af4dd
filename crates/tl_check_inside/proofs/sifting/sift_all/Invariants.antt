use Rattle.tl_check_inside.specs.Keeping.Sifted.{AreHolders, AreSiftedFlanks}
use Rattle.tl_check_inside.proofs.sifting.sift_all.Given as goal

-- the hits so far are sifted
abbrev pub invariant-loop-place : goal.invariant-loop-place
invariant-loop-place l = record {
  held : AreHolders l.map.chains l.point l.hits l.held.items l.place;
  sifted : AreSiftedFlanks l.map.chains l.point l.hits l.crossed.items l.place;
}
