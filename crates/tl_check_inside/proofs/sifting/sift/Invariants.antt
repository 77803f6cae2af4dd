use Rattle.tl_check_inside.specs.Keeping.Sifted.{AreOff, AreSiftedFlanks}
use Rattle.tl_check_inside.proofs.sifting.sift.Given as goal

-- none of the hits so far holds the point, and they are sifted
abbrev pub invariant-loop-place : goal.invariant-loop-place
invariant-loop-place l = record {
  off : AreOff l.map.chains l.point l.hits l.place;
  sifted : AreSiftedFlanks l.map.chains l.point l.hits l.crossed.items l.place;
}
