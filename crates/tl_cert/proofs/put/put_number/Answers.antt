use Rattle.std.proofs.Common.{◌∷◌, [], refl, arith}
use Rattle.tl_cert.specs.Text.{number}
use Rattle.tl_cert.proofs.PutLemmas.{room_first, room_left, puts_both}
use Rattle.tl_cert.proofs.put.put_number.Goals as goal

pub put_byte-feed-requires : goal.put_byte-feed-requires
put_byte-feed-requires c = room_first 13 1 c.args.end c.args.text.now (omega arith) c.requires

pub put_word-word-requires : goal.put_word-word-requires
put_word-word-requires c =
    room_left 13 1 11 c.args.end c.put_byte-feed.result c.args.text.now c.put_byte-feed.new.text _ (omega arith) c.requires c.put_byte-feed.ensures

pub put_byte-requires : goal.put_byte-requires
put_byte-requires c =
    room_left 13 12 1 c.args.end c.put_word-word.result c.args.text.now c.put_word-word.new.text _ (omega arith) c.requires
    (puts_both 12 1 11 _ _ _ _ _ _ (number c.args.number) (10 ∷ []) _ (omega arith) c.put_byte-feed.ensures c.put_word-word.ensures refl)

pub returns : goal.returns
returns c =
    puts_both 13 12 1 _ _ _ _ _ _ (c.args.letter ∷ []) _ _ (omega arith)
    (puts_both 12 1 11 _ _ _ _ _ _ (number c.args.number) (10 ∷ []) _ (omega arith) c.put_byte-feed.ensures c.put_word-word.ensures refl)
    c.put_byte.ensures refl
