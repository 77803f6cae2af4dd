use Rattle.tl_check_points.proofs.ListingLemmas.Joined.{AreSifted, AreMore}
use Rattle.tl_check_points.proofs.listing.beside.suspects_beside.Given as goal

abbrev pub invariant-loop-p : goal.invariant-loop-p
invariant-loop-p g l = record {
  more : AreMore l.map l.part.suspects.items l.suspects.items;
  sifted : AreSifted l.map l.taken l.suspects.items l.p;
}
