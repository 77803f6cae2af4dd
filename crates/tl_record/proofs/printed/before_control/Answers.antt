use Rattle.std.proofs.Common.{ltb, lit≤, w8}
use Rattle.std.proofs.lemmas.Simd.{bitmask_splat, length-chunk}
use lib.Lanes.{chunk}
use Rattle.tl_record.proofs.Marks.{lanes_told, not_below}
use Rattle.tl_record.proofs.printed.before_control.Goals as goal

pub returns-clause-few : goal.returns-clause-few
returns-clause-few c =
    let bytes = c.args.bytes.now in
    let mask = bitmask_splat w8 ltb (chunk 0 16 bytes) 16 32 (length-chunk 0 16 bytes c.requires) (lit≤ tt) in
    (lanes_told _ bytes _ c.lanes_before.result c.requires mask c.lanes_before.ensures).0

pub returns-clause-none : goal.returns-clause-none
returns-clause-none c =
    let bytes = c.args.bytes.now in
    let mask = bitmask_splat w8 ltb (chunk 0 16 bytes) 16 32 (length-chunk 0 16 bytes c.requires) (lit≤ tt) in
    let told = lanes_told _ bytes _ c.lanes_before.result c.requires mask c.lanes_before.ensures in
    λ k below. not_below _ (told.1 k below)
