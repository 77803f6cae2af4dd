use Rattle.std.proofs.Common.{◌*◌, length, refl, arith}
use Rattle.tl_cert_output.proofs.PageLemmas.{as_text}
use Rattle.tl_cert.proofs.PutLemmas.{put_slice}
use Rattle.tl_cert.proofs.write.write_batch.Goals as goal

pub put_numbers-start-requires : goal.put_numbers-start-requires
put_numbers-start-requires g c = record { room = omega (arith, c.requires); within = omega arith }

pub returns : goal.returns
returns g c =
    let page = g.met.P.Page.adding in
    as_text page c.add.ensures (put_slice (13 * length c.args.numbers.now) c.put_numbers-start.result 208 _ c.put_numbers-start.new.text _ refl c.put_numbers-start.ensures)
