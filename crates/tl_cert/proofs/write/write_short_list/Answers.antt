use Rattle.std.proofs.Common.{◌≡◌, ◌*◌, ◌∷◌, [], length, rules, arith}
use Rattle.tl_cert_output.specs.Writing.{line_of}
use Rattle.tl_cert_output.proofs.PageLemmas.{as_text}
use Rattle.tl_cert.specs.Text.{numbered_line, dart_lines}
use Rattle.tl_record.specs.Lines.{joined_lines}
use Rattle.tl_cert.proofs.WriteLemmas.{line_first}
use Rattle.tl_cert.proofs.PutLemmas.{put_slice, puts_both, room_left}
use Rattle.tl_cert.proofs.write.write_short_list.Goals as goal

pub put_numbers-behind-requires : goal.put_numbers-behind-requires
put_numbers-behind-requires g c =
    let size : length c.args.text.now ≡ 221 = search rules in
    record { room = omega (arith, c.requires); within = omega (arith, size) }

pub put_number-start-requires : goal.put_number-start-requires
put_number-start-requires g c =
    let size : length c.args.text.now ≡ 221 = search rules in
    room_left 221 (13 * length c.args.darts.now) 13 221 _ c.args.text.now _ _ (omega (arith, c.requires)) (record { room = omega arith; within = omega (arith, size) }) c.put_numbers-behind.ensures

pub returns : goal.returns
returns g c =
    let page = g.met.P.Page.adding in
    let size : length c.args.text.now ≡ 221 = search rules in
    let line = line_of (numbered_line (c.args.letter ∷ []) (length c.args.darts.now)) in
    let put = puts_both 221 (13 * length c.args.darts.now) 13 221 _ _ _ _ _ line (joined_lines (dart_lines c.args.darts.now)) _ (omega (arith, c.requires))
    c.put_numbers-behind.ensures c.put_number-start.ensures
    (line_first (numbered_line (c.args.letter ∷ []) (length c.args.darts.now)) (dart_lines c.args.darts.now)) in
    as_text page c.add.ensures (put_slice 221 c.put_number-start.result 221 c.args.text.now c.put_number-start.new.text _ size put)
