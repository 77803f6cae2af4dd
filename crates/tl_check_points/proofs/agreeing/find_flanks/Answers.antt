use Rattle.tl_check_gaps.proofs.Odd.{both_named}
use Rattle.tl_check_points.proofs.Naming.{west_among, east_among}
use Rattle.tl_check_points.proofs.agreeing.find_flanks.Goals as goal

pub returns-clause-flanks : goal.returns-clause-flanks
returns-clause-flanks c = both_named c.args.map.now.chains c.args.s c.flanks_by_height.result c.flanks_by_height.ensures.west c.flanks_by_height.ensures.east

pub returns-clause-among : goal.returns-clause-among
returns-clause-among c = record {
  near = west_among _ c.args.map.now.chains c.args.s c.flanks_by_height.result.near c.names_its_polygons.ensures c.flanks_by_height.ensures.west;
  far = east_among _ c.args.map.now.chains c.args.s c.flanks_by_height.result.far c.names_its_polygons.ensures c.flanks_by_height.ensures.east;
}
