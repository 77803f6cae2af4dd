use Rattle.std.proofs.Common.{◌∷◌, [], ap, refl, arith}
use Rattle.tl_cert.specs.Text.{number}
use Rattle.tl_cert.proofs.PutLemmas.{room_first, room_left, puts_both, words_before}
use Rattle.tl_cert.proofs.put.put_counts.Goals as goal

pub put_byte-feed-requires : goal.put_byte-feed-requires
put_byte-feed-requires c = room_first 46 1 c.args.end c.args.text.now (omega arith) c.requires

pub put_word-polygons-requires : goal.put_word-polygons-requires
put_word-polygons-requires c = room_left 46 1 11 _ _ _ _ _ (omega arith) c.requires c.put_byte-feed.ensures

pub put_word-nodes-requires : goal.put_word-nodes-requires
put_word-nodes-requires c =
    let one = puts_both 12 1 11 _ _ _ _ _ _ (number c.args.counts.polygons) (10 ∷ []) _ (omega arith) c.put_byte-feed.ensures c.put_word-polygons.ensures refl in
    room_left 46 12 11 _ _ _ _ _ (omega arith) c.requires one

pub put_word-segments-requires : goal.put_word-segments-requires
put_word-segments-requires c =
    let one = puts_both 12 1 11 _ _ _ _ _ _ (number c.args.counts.polygons) (10 ∷ []) _ (omega arith) c.put_byte-feed.ensures c.put_word-polygons.ensures refl in
    let two = puts_both 23 12 11 _ _ _ _ _ _ (number c.args.counts.nodes) _ _ (omega arith) one c.put_word-nodes.ensures refl in
    room_left 46 23 11 _ _ _ _ _ (omega arith) c.requires two

pub put_word-chains-requires : goal.put_word-chains-requires
put_word-chains-requires c =
    let one = puts_both 12 1 11 _ _ _ _ _ _ (number c.args.counts.polygons) (10 ∷ []) _ (omega arith) c.put_byte-feed.ensures c.put_word-polygons.ensures refl in
    let two = puts_both 23 12 11 _ _ _ _ _ _ (number c.args.counts.nodes) _ _ (omega arith) one c.put_word-nodes.ensures refl in
    let three = puts_both 34 23 11 _ _ _ _ _ _ (number c.args.counts.segments) _ _ (omega arith) two c.put_word-segments.ensures refl in
    room_left 46 34 11 _ _ _ _ _ (omega arith) c.requires three

pub put_byte-requires : goal.put_byte-requires
put_byte-requires c =
    let one = puts_both 12 1 11 _ _ _ _ _ _ (number c.args.counts.polygons) (10 ∷ []) _ (omega arith) c.put_byte-feed.ensures c.put_word-polygons.ensures refl in
    let two = puts_both 23 12 11 _ _ _ _ _ _ (number c.args.counts.nodes) _ _ (omega arith) one c.put_word-nodes.ensures refl in
    let three = puts_both 34 23 11 _ _ _ _ _ _ (number c.args.counts.segments) _ _ (omega arith) two c.put_word-segments.ensures refl in
    let four = puts_both 45 34 11 _ _ _ _ _ _ (number c.args.counts.chains) _ _ (omega arith) three c.put_word-chains.ensures refl in
    room_left 46 45 1 _ _ _ _ _ (omega arith) c.requires four

pub returns : goal.returns
returns c =
    let counts = c.args.counts in
    let one = puts_both 12 1 11 _ _ _ _ _ _ (number counts.polygons) (10 ∷ []) _ (omega arith) c.put_byte-feed.ensures c.put_word-polygons.ensures refl in
    let two = puts_both 23 12 11 _ _ _ _ _ _ (number counts.nodes) _ _ (omega arith) one c.put_word-nodes.ensures refl in
    let three = puts_both 34 23 11 _ _ _ _ _ _ (number counts.segments) _ _ (omega arith) two c.put_word-segments.ensures refl in
    let four = puts_both 45 34 11 _ _ _ _ _ _ (number counts.chains) _ _ (omega arith) three c.put_word-chains.ensures refl in
    puts_both 46 45 1 _ _ _ _ _ _ (67 ∷ []) _ _ (omega arith) four c.put_byte.ensures
    (ap (λ l. 67 ∷ l) (words_before (number counts.chains) (number counts.segments) (number counts.nodes) (number counts.polygons) (10 ∷ [])))
