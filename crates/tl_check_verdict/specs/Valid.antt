-- Certificates that are valid for a map.
use Rattle.std.specs.Prelude.{◌≡◌, ℕ, ◌≤◌, List, length}
use Rattle.tl_geom.specs.declared.point.Point.{Point}
use Rattle.tl_map_county.specs.TheMap.{TheMap}
use Rattle.tl_map_county.specs.Nodes.{AreNodes}
use Rattle.tl_map_county.specs.Segments.{segments_before}
use Rattle.tl_tree_index.specs.declared.node.TreeNode.{TreeNode}
use Rattle.tl_tree_index.specs.Fits.{Fits}
use Rattle.tl_tree_index.specs.Trees.{depth, tree_of}
use Rattle.tl_check_planar.specs.Rectangles.{segment_rect}
use Rattle.tl_check_sides.specs.Rounds.{AreRounds}
use Rattle.tl_check_sides.specs.Walks.{AreWalks}
use Rattle.tl_cert.specs.declared.certificate.Counts.{Counts}
use Rattle.tl_cert.specs.Certificates.{TheCertificate}

-- how many segments the map's chains have
abbrev pub segments_in_map : TheMap → ℕ
segments_in_map m = segments_before m.chains (length m.chains)

-- the counts are the map's
pub record AreCounts (m : TheMap) (c : Counts) : Type 0 where
  pub chains : c.chains ≡ length m.chains
  pub segments : c.segments ≡ segments_in_map m
  pub nodes : (points : List Point) → AreNodes m.chains points → c.nodes ≡ length points
  pub polygons : c.polygons ≡ length m.polygons

-- the greatest depth of a node, where that of the root is 1
abbrev pub greatest_depth : ℕ
greatest_depth = 64

-- the nodes are a tree over the map's segments: each stands in one leaf, once, nothing else does, each rectangle holds all
-- points of those of the segments below it, and no node is too deep
pub record IsTree (m : TheMap) (nodes : List TreeNode) : Type 0 where
  pub fits : Fits (tree_of nodes) (segments_in_map m) (segment_rect m.chains)
  pub shallow : depth (tree_of nodes) ≤ greatest_depth

-- a search may be made by the certificate: its counts are the map's, and its tree fits
pub record AllowsSearch (m : TheMap) (c : TheCertificate) : Type 0 where
  pub counts : AreCounts m c.counts
  pub tree : IsTree m c.tree

-- the certificate is valid for the map
pub record IsValid (m : TheMap) (c : TheCertificate) : Type 0 where
  pub counts : AreCounts m c.counts
  pub tree : IsTree m c.tree
  pub rounds : AreRounds m.chains c.rounds
  pub walks : AreWalks m.chains c.walks
