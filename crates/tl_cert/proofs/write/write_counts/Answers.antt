use Rattle.std.proofs.Common.{refl, arith}
use Rattle.tl_cert_output.proofs.PageLemmas.{as_text}
use Rattle.tl_cert.proofs.PutLemmas.{put_slice}
use Rattle.tl_cert.proofs.write.write_counts.Goals as goal

pub put_counts-start-requires : goal.put_counts-start-requires
put_counts-start-requires g c = record { room = omega arith; within = omega arith }

pub returns : goal.returns
returns g c =
    let page = g.met.P.Page.adding in
    as_text page c.add.ensures (put_slice 46 c.put_counts-start.result 46 _ c.put_counts-start.new.text _ refl c.put_counts-start.ensures)
