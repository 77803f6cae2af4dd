-- What each fault says.
use Rattle.std.specs.Prelude.{⊤, ◌≡◌, ◌≢◌, ℕ, ◌<◌, Bool, IsTrue, Some}
use Rattle.tl_geom.specs.declared.point.Point.{Point}
use Rattle.tl_map_county.specs.TheMap.{TheMap}
use Rattle.tl_map_county.specs.Darts.{dart_start, dart_left}
use Rattle.tl_tree_index.specs.Fits.{IsFaultOf}
use Rattle.tl_tree_index.specs.Trees.{depth, tree_of}
use Rattle.tl_check_planar.specs.Rectangles.{segment_rect}
use Rattle.tl_check_planar.specs.Searching.{IsTrueMeet}
use Rattle.tl_check_sides.specs.Sides.{IsNext, dart_right}
use Rattle.tl_check_sides.specs.Rounds.{IsRoundFault}
use Rattle.tl_check_sides.specs.Walks.{IsWalkFault}
use Rattle.tl_check_inside.specs.Placed.{IsTrueMisplaced}
use Rattle.tl_check_sides.specs.Cells.Cells.{AreCellsAtOdds}
use Rattle.tl_check_faces.specs.declared.fault.FaceFault.{FaceFault}
use Rattle.tl_check_faces.specs.Faults.{IsTrueFaceFault}
use Rattle.tl_check_faces.specs.Truth.{AreFacesTrue}
use Rattle.tl_cert.specs.Certificates.{TheCertificate}
use Rattle.tl_check_verdict.specs.declared.fault.MapFault.{MapFault}
use Rattle.tl_check_verdict.specs.declared.fault.MapFault.TheVariants.{Records, NoRecords, Meet, Side, PolygonPoint, Cell, Face}
use Rattle.tl_check_verdict.specs.declared.fault.CertFault.{CertFault}
use Rattle.tl_check_verdict.specs.declared.fault.CertFault.TheVariants.{Text, Counts, Tree, TooDeep, Round, Walk}
use Rattle.tl_check_verdict.specs.Sound.{IsSound}
use Rattle.tl_check_verdict.specs.Valid.{segments_in_map, AreCounts, greatest_depth}

-- about the node the second dart is next after the first, and what is on the left of the first isn't on the right of the
-- second
pub record AreAtOdds (m : TheMap) (node : Point) (first next : ℕ) : Type 0 where
  pub at : dart_start m.chains first ≡ Some node
  pub is_next : IsNext m.chains first next
  pub differ : dart_left m.chains first ≢ dart_right m.chains next

-- what a fault says of a map for which no faces are asked: two segments meet where they may not, sides don't agree, a polygon's point
-- is misplaced, or zero-cell ids don't agree. That its records have a fault, that there are none of some type, or that faces disagree
-- is never true of such a map
abbrev pub IsTrueOfMap : TheMap → MapFault → Type 0
IsTrueOfMap m (Records fault) = ⊥
IsTrueOfMap m (NoRecords lacking) = ⊥
IsTrueOfMap m (Meet meet) = IsTrueMeet m.chains meet
IsTrueOfMap m (Side node first next) = AreAtOdds m node first next
IsTrueOfMap m (PolygonPoint fault) = IsTrueMisplaced m fault
IsTrueOfMap m (Cell odds) = AreCellsAtOdds m.chains odds.first odds.second odds.first_id odds.second_id
IsTrueOfMap m (Face fault) = ⊥

-- what a fault of faces says of a map: nothing else is wrong with it, and faces disagree, so that they aren't true
abbrev pub IsTrueOfFaces : TheMap → FaceFault → Type 0
IsTrueOfFaces m fault = IsSound m × (IsTrueFaceFault m fault × ¬ AreFacesTrue m.chains)

-- what a fault says of a map for which faces are asked or not: the same, and of faces only where they are asked for
abbrev pub IsTrueOfMapFor : (faces : Bool) → TheMap → MapFault → Type 0
IsTrueOfMapFor faces m (Face fault) = IsTrue faces × IsTrueOfFaces m fault
IsTrueOfMapFor faces m other = IsTrueOfMap m other

-- what a fault says of a certificate beside a map; that no certificate has the text is never true of a certificate
abbrev pub IsTrueOfCert : TheMap → TheCertificate → CertFault → Type 0
IsTrueOfCert m c (Text line) = ⊥
IsTrueOfCert m c Counts = ¬ AreCounts m c.counts
IsTrueOfCert m c (Tree fault) = IsFaultOf (tree_of c.tree) (segments_in_map m) (segment_rect m.chains) fault
IsTrueOfCert m c TooDeep = greatest_depth < depth (tree_of c.tree)
IsTrueOfCert m c (Round fault) = IsRoundFault m.chains c.rounds fault
IsTrueOfCert m c (Walk fault) = IsWalkFault m.chains c.walks fault

-- the fault is of rounds or of walks
abbrev pub IsOfDarts : CertFault → Type 0
IsOfDarts (Text line) = ⊥
IsOfDarts Counts = ⊥
IsOfDarts (Tree fault) = ⊥
IsOfDarts TooDeep = ⊥
IsOfDarts (Round fault) = ⊤
IsOfDarts (Walk fault) = ⊤
