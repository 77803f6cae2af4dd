use Rattle.std.proofs.lemmas.Option.{slice_get_within}
use Rattle.tl_check_inside.proofs.Misplacing.{on_chain}
use Rattle.tl_check_inside.proofs.misplaced.on_chain.Goals as goal

pub returns : goal.returns
returns c = λ p is. on_chain c.args.map.now p c.args.c c.chain.result.tlid c.args.polygon c.chain.result.points.now c.chain.result.left c.chain.result.right is c.requires c.chain.ensures.chain

pub chain-requires : goal.chain-requires
chain-requires c = slice_get_within c.args.map.now.chains c.args.c c.requires.chain c.requires.is
