use Rattle.std.proofs.Common.{◌∷◌, [], ap, append_assoc, sym, refl, arith}
use Rattle.tl_cert.specs.Text.{children, rectangle}
use Rattle.tl_cert.proofs.PutLemmas.{room_first, room_left, puts_both}
use Rattle.tl_cert.proofs.put.put_inner.Goals as goal

pub put_byte-feed-requires : goal.put_byte-feed-requires
put_byte-feed-requires c = room_first 61 1 c.args.end c.args.text.now (omega arith) c.requires

pub put_children-behind-requires : goal.put_children-behind-requires
put_children-behind-requires c = room_left 61 1 11 _ _ _ _ _ (omega arith) c.requires c.put_byte-feed.ensures

pub put_rectangle-requires : goal.put_rectangle-requires
put_rectangle-requires c =
    let told = puts_both 12 1 11 _ _ _ _ _ _ (children c.args.version c.args.children) (10 ∷ []) _ (omega arith) c.put_byte-feed.ensures c.put_children-behind.ensures refl in
    room_left 61 12 49 _ _ _ _ _ (omega arith) c.requires told

pub returns : goal.returns
returns c =
    let told = puts_both 12 1 11 _ _ _ _ _ _ (children c.args.version c.args.children) (10 ∷ []) _ (omega arith) c.put_byte-feed.ensures c.put_children-behind.ensures refl in
    puts_both 61 12 49 _ _ _ _ _ _ (66 ∷ rectangle c.args.rect) _ _ (omega arith) told c.put_rectangle.ensures
    (ap (λ l. 66 ∷ l) (sym (append_assoc (rectangle c.args.rect) (children c.args.version c.args.children) (10 ∷ []))))
