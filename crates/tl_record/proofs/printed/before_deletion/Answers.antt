use Rattle.std.proofs.lemmas.Simd.{length-chunk}
use lib.Lanes.{chunk}
use Rattle.tl_record.proofs.Marks.{lanes_told, splat_bitmask, not_above}
use Rattle.tl_record.proofs.printed.before_deletion.Goals as goal

pub returns-clause-few : goal.returns-clause-few
returns-clause-few c =
    let bytes = c.args.bytes.now in
    let mask = splat_bitmask (chunk 0 16 bytes) 127 (length-chunk 0 16 bytes c.requires) in
    (lanes_told _ bytes _ c.lanes_before.result c.requires mask c.lanes_before.ensures).0

pub returns-clause-none : goal.returns-clause-none
returns-clause-none c =
    let bytes = c.args.bytes.now in
    let mask = splat_bitmask (chunk 0 16 bytes) 127 (length-chunk 0 16 bytes c.requires) in
    let told = lanes_told _ bytes _ c.lanes_before.result c.requires mask c.lanes_before.ensures in
    λ k below. not_above _ (told.1 k below)
