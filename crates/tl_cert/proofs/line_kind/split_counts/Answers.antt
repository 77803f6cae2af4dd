use Rattle.std.proofs.Common.{◌++◌, ◌∙◌, refl}
use Rattle.tl_cert.specs.Text.{number}
use Rattle.tl_cert.proofs.KindLemmas.{left_after, counts_before}
use Rattle.tl_cert.proofs.line_kind.split_counts.Goals as goal

pub returns-in_default-split_number : goal.returns-in_default-split_number
returns-in_default-split_number c = λ d others small starts is.
    let one = left_after c.args.bytes.now c.in-Some.others.now (number d.segments ++ (number d.nodes ++ (number d.polygons ++ others))) c.in-Some.chains d.chains c.in-Some.ensures small.chains refl (is ∙ counts_before d others) in
    c.in_default-split_number.ensures d.segments _ small.segments refl one

pub returns-in_default-split_number-2 : goal.returns-in_default-split_number-2
returns-in_default-split_number-2 c = λ d others small starts is.
    let one = left_after c.args.bytes.now c.in-Some.others.now (number d.segments ++ (number d.nodes ++ (number d.polygons ++ others))) c.in-Some.chains d.chains c.in-Some.ensures small.chains refl (is ∙ counts_before d others) in
    let two = left_after _ c.in-Some-split_number.others.now (number d.nodes ++ (number d.polygons ++ others)) c.in-Some-split_number.segments d.segments c.in-Some-split_number.ensures small.segments refl one in
    c.in_default-split_number-2.ensures d.nodes _ small.nodes refl two

pub returns-in_default-split_number-3 : goal.returns-in_default-split_number-3
returns-in_default-split_number-3 c = λ d others small starts is.
    let one = left_after c.args.bytes.now c.in-Some.others.now (number d.segments ++ (number d.nodes ++ (number d.polygons ++ others))) c.in-Some.chains d.chains c.in-Some.ensures small.chains refl (is ∙ counts_before d others) in
    let two = left_after _ c.in-Some-split_number.others.now (number d.nodes ++ (number d.polygons ++ others)) c.in-Some-split_number.segments d.segments c.in-Some-split_number.ensures small.segments refl one in
    let three = left_after _ c.in-Some-split_number-2.others.now (number d.polygons ++ others) c.in-Some-split_number-2.nodes d.nodes c.in-Some-split_number-2.ensures small.nodes refl two in
    c.in_default-split_number-3.ensures d.polygons others small.polygons starts three
