-- What is known of the certificate that is proposed for a map, whether the map is sound or not.
use Rattle.std.specs.Prelude.{◌≡◌, ◌≤◌}
use Rattle.tl_map_county.specs.TheMap.{TheMap}
use Rattle.tl_tree_index.specs.Trees.{depth, tree_of}
use Rattle.tl_tree_index.specs.Packed.{IsEvenlySplit}
use Rattle.tl_check_planar.specs.Planar.{IsPlanar}
use Rattle.tl_check_sides.specs.Lists.{HoldOnce}
use Rattle.tl_check_sides.specs.Sides.{dart_count}
use Rattle.tl_check_sides.specs.Rounds.{AreRounds}
use Rattle.tl_check_sides.specs.Walks.{AreWalks}
use Rattle.tl_check_faces.specs.Crossings.Headings.{AreProper}
use Rattle.tl_cert.specs.Certificates.{TheCertificate}
use Rattle.tl_check_verdict.specs.Valid.{AreCounts, IsTree}

-- it is of version 2, its counts are the map's, its tree fits the map's segments, is split evenly and has at most 8 levels, and
-- its rounds and its walks hold each dart once; where the chains are planar, they are the map's
pub record IsProposal (m : TheMap) (c : TheCertificate) : Type 0 where
  pub version : c.version ≡ 2
  pub counts : AreCounts m c.counts
  pub tree : IsTree m c.tree
  pub shallow : depth (tree_of c.tree) ≤ 8
  pub split : IsEvenlySplit (tree_of c.tree)
  pub rounds : HoldOnce (dart_count m.chains) c.rounds
  pub walks : HoldOnce (dart_count m.chains) c.walks
  pub are_rounds : AreProper m.chains → IsPlanar m.chains → AreRounds m.chains c.rounds
  pub are_walks : AreProper m.chains → IsPlanar m.chains → AreWalks m.chains c.walks
