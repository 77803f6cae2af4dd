use Rattle.std.proofs.Common.{codes, option_map}
use Rattle.tl_cert_output.proofs.PageLemmas.{both, as_text}
use Rattle.tigertopo_pictures.specs.Svg.Texts.{size_text, style_text, chains_part, marks_part, faults_part, key_part}
use Rattle.tigertopo_pictures.specs.Svg.Fills.{fills_part}
use Rattle.tigertopo_pictures.specs.Svg.Whole.{picture_text}
use Rattle.tigertopo_pictures.proofs.PieceLemmas.{eight_pieces}
use Rattle.tigertopo_pictures.proofs.svg.print.print_picture.Goals as goal

pub returns : goal.returns
unfolding picture_text
returns g c =
    let page = g.met.P.Page.adding in
    let m = c.args.map.now in
    let picture = c.args.picture in
    let faults = c.args.faults.now in
    let fills = fills_part picture.frame m (option_map (λ f. f.now.filling) c.args.fills) in
    let circles = faults_part picture.frame faults c.args.places.now in
    as_text page (both page c.print_front.ensures c.print_back.ensures)
    (eight_pieces (size_text picture.frame) style_text fills (chains_part picture m) (marks_part picture m) circles (key_part picture faults) (codes "</svg>\n"))
