use Rattle.std.proofs.Common.{◌≡◌, eqb, not, length, refl, lit≤, w8, arith}
use Rattle.std.proofs.lemmas.Simd.{bitmask_splat, length-chunk}
use lib.Lanes.{chunk}
use Rattle.tl_record.proofs.Blanks.{blanks_told}
use Rattle.tl_record.proofs.aligned.leading_blanks.Goals as goal

pub returns-clause-few : goal.returns-clause-few
returns-clause-few c =
    let bytes = c.args.bytes.now in
    let long : length (chunk 0 16 bytes) ≡ 16 = length-chunk 0 16 bytes (omega arith) in
    let told = blanks_told bytes (chunk 0 16 bytes) _ c.lanes_before.result refl long (bitmask_splat w8 (λ a b. not (eqb a b)) (chunk 0 16 bytes) 16 32 long (lit≤ tt)) c.lanes_before.ensures in
    told.0

pub returns-clause-blanks : goal.returns-clause-blanks
returns-clause-blanks c =
    let bytes = c.args.bytes.now in
    let long : length (chunk 0 16 bytes) ≡ 16 = length-chunk 0 16 bytes (omega arith) in
    let told = blanks_told bytes (chunk 0 16 bytes) _ c.lanes_before.result refl long (bitmask_splat w8 (λ a b. not (eqb a b)) (chunk 0 16 bytes) 16 32 long (lit≤ tt)) c.lanes_before.ensures in
    told.1
