use Rattle.std.proofs.Common.{arith, ◌∙◌}
use Rattle.tl_cert_output.proofs.PageLemmas.{as_text}
use Rattle.tigertopo_words.specs.Json.{byte_character}
use Rattle.tigertopo_pictures.proofs.PieceLemmas.{at_start, piece_more, at_end, flat_next, flat_end}
use Rattle.tigertopo_faults.proofs.shown.json.print_characters.Goals as goal

pub loop-byte-init : goal.loop-byte-init
loop-byte-init g c =
    let page = g.met.P.Page.adding in
    at_start page

pub loop-byte-preserved : goal.loop-byte-preserved
loop-byte-preserved g c =
    let page = g.met.P.Page.adding in
    piece_more page _ (flat_next byte_character c.args.bytes.now c.loop-byte.byte-index _ c.loop-byte-test.true) c.loop-byte.invariant
    (as_text page c.add.ensures (c.as_slice.ensures.value ∙ c.byte_character.ensures))

pub returns : goal.returns
returns g c =
    let page = g.met.P.Page.adding in
    at_end page (flat_end byte_character c.args.bytes.now c.loop-byte.byte-index (omega (arith, c.loop-byte-test.false))) c.loop-byte.invariant
