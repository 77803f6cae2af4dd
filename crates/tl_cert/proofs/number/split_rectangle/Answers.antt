use Rattle.std.proofs.Common.{◌++◌, ◌∙◌, refl}
use Rattle.tl_cert.specs.Text.{coordinate_text}
use Rattle.tl_cert.proofs.RectangleLemmas.{left_behind, rectangle_before, rectangle_read}
use Rattle.tl_cert.proofs.number.split_rectangle.Goals as goal

pub returns-in_default-split_coordinate : goal.returns-in_default-split_coordinate
returns-in_default-split_coordinate c = λ r others fits starts is.
    let one = left_behind _ c.in-Some.others.now (coordinate_text r.ymin ++ (coordinate_text r.xmax ++ (coordinate_text r.ymax ++ others))) c.in-Some.xmin r.xmin c.in-Some.ensures fits.xmin refl (is ∙ rectangle_before r others) in
    c.in_default-split_coordinate.ensures r.ymin _ fits.ymin refl one

pub returns-in_default-split_coordinate-2 : goal.returns-in_default-split_coordinate-2
returns-in_default-split_coordinate-2 c = λ r others fits starts is.
    let one = left_behind _ c.in-Some.others.now (coordinate_text r.ymin ++ (coordinate_text r.xmax ++ (coordinate_text r.ymax ++ others))) c.in-Some.xmin r.xmin c.in-Some.ensures fits.xmin refl (is ∙ rectangle_before r others) in
    let two = left_behind _ c.in-Some-split_coordinate.others.now (coordinate_text r.xmax ++ (coordinate_text r.ymax ++ others)) c.in-Some-split_coordinate.ymin r.ymin c.in-Some-split_coordinate.ensures fits.ymin refl one in
    c.in_default-split_coordinate-2.ensures r.xmax _ fits.xmax refl two

pub returns-in_default-split_coordinate-3 : goal.returns-in_default-split_coordinate-3
returns-in_default-split_coordinate-3 c = λ r others fits starts is.
    let one = left_behind _ c.in-Some.others.now (coordinate_text r.ymin ++ (coordinate_text r.xmax ++ (coordinate_text r.ymax ++ others))) c.in-Some.xmin r.xmin c.in-Some.ensures fits.xmin refl (is ∙ rectangle_before r others) in
    let two = left_behind _ c.in-Some-split_coordinate.others.now (coordinate_text r.xmax ++ (coordinate_text r.ymax ++ others)) c.in-Some-split_coordinate.ymin r.ymin c.in-Some-split_coordinate.ensures fits.ymin refl one in
    let three = left_behind _ c.in-Some-split_coordinate-2.others.now (coordinate_text r.ymax ++ others) c.in-Some-split_coordinate-2.xmax r.xmax c.in-Some-split_coordinate-2.ensures fits.xmax refl two in
    c.in_default-split_coordinate-3.ensures r.ymax others fits.ymax starts three

pub returns : goal.returns
returns c =
    rectangle_read _ c.in-Some.others.now c.in-Some-split_coordinate.others.now c.in-Some-split_coordinate-2.others.now c.in-Some-split_coordinate-3.others.now
    c.in-Some.xmin c.in-Some-split_coordinate.ymin c.in-Some-split_coordinate-2.xmax c.in-Some-split_coordinate-3.ymax c.rect_of.result
    c.in-Some.ensures c.in-Some-split_coordinate.ensures c.in-Some-split_coordinate-2.ensures c.in-Some-split_coordinate-3.ensures c.rect_of.ensures
