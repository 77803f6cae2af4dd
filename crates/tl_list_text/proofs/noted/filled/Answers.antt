use Rattle.std.proofs.Common.{◌++◌, List, None, Option, ap, length}
use Rattle.std.proofs.lemmas.List.{drop-replicate}
use Rattle.tl_geom.specs.declared.point.Point.{Point}
use Rattle.tl_record.specs.declared.record.TheConstants.{PAIRS}
use Rattle.tl_list_text.proofs.noted.filled.Goals as goal

pub returns : goal.returns
returns c = rw c.copy_from_slice.ensures.after (ap (λ (l : List (Option Point)). c.args.used.now ++ l) (drop-replicate (length c.args.used.now) PAIRS None))
