use Rattle.std.proofs.Common.{◌*◌, ◌∷◌, [], length, ap, append_assoc, sym, refl, arith}
use Rattle.tl_record.specs.Lines.{joined_lines}
use Rattle.tl_cert.specs.Text.{number, rectangle, item_lines}
use Rattle.tl_cert.proofs.PutLemmas.{room_first, room_left, puts_both}
use Rattle.tl_cert.proofs.put.put_leaf.Goals as goal

pub put_numbers-behind-requires : goal.put_numbers-behind-requires
put_numbers-behind-requires c =
    room_first 165 (13 * length c.args.items.now) c.args.end c.args.text.now (omega (arith, c.requires.few)) c.requires.room

pub put_byte-feed-requires : goal.put_byte-feed-requires
put_byte-feed-requires c =
    room_left 165 (13 * length c.args.items.now) 1 _ _ _ _ _ (omega (arith, c.requires.few)) c.requires.room c.put_numbers-behind.ensures

pub put_word-count-requires : goal.put_word-count-requires
put_word-count-requires c =
    let line = puts_both 105 (13 * length c.args.items.now) 1 _ _ _ _ _ _ (10 ∷ []) (joined_lines (item_lines c.args.items.now)) _
    (omega (arith, c.requires.few)) c.put_numbers-behind.ensures c.put_byte-feed.ensures refl in
    room_left 165 105 11 _ _ _ _ _ (omega arith) c.requires.room line

pub put_rectangle-requires : goal.put_rectangle-requires
put_rectangle-requires c =
    let line = puts_both 105 (13 * length c.args.items.now) 1 _ _ _ _ _ _ (10 ∷ []) (joined_lines (item_lines c.args.items.now)) _
    (omega (arith, c.requires.few)) c.put_numbers-behind.ensures c.put_byte-feed.ensures refl in
    let told = puts_both 116 105 11 _ _ _ _ _ _ (number (length c.args.items.now)) _ _ (omega arith) line c.put_word-count.ensures refl in
    room_left 165 116 49 _ _ _ _ _ (omega arith) c.requires.room told

pub returns : goal.returns
returns c =
    let items = c.args.items.now in
    let rect = rectangle c.args.rect in
    let line = puts_both 105 (13 * length items) 1 _ _ _ _ _ _ (10 ∷ []) (joined_lines (item_lines items)) _
    (omega (arith, c.requires.few)) c.put_numbers-behind.ensures c.put_byte-feed.ensures refl in
    let told = puts_both 116 105 11 _ _ _ _ _ _ (number (length items)) (10 ∷ joined_lines (item_lines items)) _ (omega arith) line c.put_word-count.ensures refl in
    puts_both 165 116 49 _ _ _ _ _ _ (76 ∷ rect) _ _ (omega arith) told c.put_rectangle.ensures
    (ap (λ l. 76 ∷ l) (sym (append_assoc rect (number (length items)) (10 ∷ joined_lines (item_lines items)))))
