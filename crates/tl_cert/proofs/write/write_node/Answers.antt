use Rattle.std.proofs.Common.{◌≡◌, length, rules, arith}
use Rattle.tl_cert_output.proofs.PageLemmas.{as_text}
use Rattle.tl_cert.proofs.PutLemmas.{put_slice}
use Rattle.tl_cert.proofs.write.write_node.Goals as goal

pub put_node-start-requires : goal.put_node-start-requires
put_node-start-requires g c =
    let size : length c.args.text.now ≡ 165 = search rules in
    record { room = omega arith; within = omega (arith, size) }

pub returns : goal.returns
returns g c =
    let page = g.met.P.Page.adding in
    let size : length c.args.text.now ≡ 165 = search rules in
    as_text page c.add.ensures (put_slice 165 c.put_node-start.result 165 c.args.text.now c.put_node-start.new.text _ size c.put_node-start.ensures)
