use Rattle.std.proofs.Common.{rules, ◌∷◌, [], ap, refl, arith}
use Rattle.tl_cert.specs.Text.{coordinate_text}
use Rattle.tl_cert.specs.Keeping.Putting.{Puts}
use Rattle.tl_cert.proofs.PutLemmas.{room_first, room_left, puts_both, words_flat}
use Rattle.tl_cert.proofs.put.put_rectangle.Goals as goal

pub put_coordinate-ymax-requires : goal.put_coordinate-ymax-requires
put_coordinate-ymax-requires c = room_first 49 12 c.args.end c.args.text.now (omega arith) c.requires

pub put_coordinate-xmax-requires : goal.put_coordinate-xmax-requires
put_coordinate-xmax-requires c = room_left 49 12 12 _ _ _ _ _ (omega arith) c.requires c.put_coordinate-ymax.ensures

pub put_coordinate-ymin-requires : goal.put_coordinate-ymin-requires
put_coordinate-ymin-requires c =
    let xs = puts_both 24 12 12 _ _ _ _ _ _ _ _ _ (omega arith) c.put_coordinate-ymax.ensures c.put_coordinate-xmax.ensures refl in
    room_left 49 24 12 _ _ _ _ _ (omega arith) c.requires xs

pub put_coordinate-xmin-requires : goal.put_coordinate-xmin-requires
put_coordinate-xmin-requires c =
    let two = puts_both 24 12 12 _ _ _ _ _ _ _ _ _ (omega arith) c.put_coordinate-ymax.ensures c.put_coordinate-xmax.ensures refl in
    let three = puts_both 36 24 12 _ _ _ _ _ _ _ _ _ (omega arith) two c.put_coordinate-ymin.ensures refl in
    room_left 49 36 12 _ _ _ _ _ (omega arith) c.requires three

pub put_byte-requires : goal.put_byte-requires
put_byte-requires c =
    let two = puts_both 24 12 12 _ _ _ _ _ _ _ _ _ (omega arith) c.put_coordinate-ymax.ensures c.put_coordinate-xmax.ensures refl in
    let three = puts_both 36 24 12 _ _ _ _ _ _ _ _ _ (omega arith) two c.put_coordinate-ymin.ensures refl in
    let four = puts_both 48 36 12 _ _ _ _ _ _ _ _ _ (omega arith) three c.put_coordinate-xmin.ensures refl in
    room_left 49 48 1 _ _ _ _ _ (omega arith) c.requires four

pub returns : goal.returns
returns c =
    let rect = c.args.rect in
    let ymax : Puts 12 c.args.end c.put_coordinate-ymax.result c.args.text.now c.put_coordinate-ymax.new.text (coordinate_text rect.ymax) = search rules in
    let xmax : Puts 12 c.put_coordinate-ymax.result c.put_coordinate-xmax.result c.put_coordinate-ymax.new.text c.put_coordinate-xmax.new.text (coordinate_text rect.xmax) = search rules in
    let ymin : Puts 12 c.put_coordinate-xmax.result c.put_coordinate-ymin.result c.put_coordinate-xmax.new.text c.put_coordinate-ymin.new.text (coordinate_text rect.ymin) = search rules in
    let xmin : Puts 12 c.put_coordinate-ymin.result c.put_coordinate-xmin.result c.put_coordinate-ymin.new.text c.put_coordinate-xmin.new.text (coordinate_text rect.xmin) = search rules in
    let two = puts_both 24 12 12 _ _ _ _ _ _ (coordinate_text rect.xmax) (coordinate_text rect.ymax) _ (omega arith) ymax xmax refl in
    let three = puts_both 36 24 12 _ _ _ _ _ _ (coordinate_text rect.ymin) _ _ (omega arith) two ymin refl in
    let four = puts_both 48 36 12 _ _ _ _ _ _ (coordinate_text rect.xmin) _ _ (omega arith) three xmin refl in
    puts_both 49 48 1 _ _ _ _ _ _ (c.args.letter ∷ []) _ _ (omega arith) four c.put_byte.ensures
    (ap (λ l. c.args.letter ∷ l) (words_flat (coordinate_text rect.xmin) (coordinate_text rect.ymin) (coordinate_text rect.xmax) (coordinate_text rect.ymax)))
