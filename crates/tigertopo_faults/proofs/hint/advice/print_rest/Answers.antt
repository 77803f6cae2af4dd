use Rattle.std.proofs.Common.{string_bytes, arith, rules}
use Rattle.tigertopo_words.specs.Shell.{shell_word}
use Rattle.tigertopo_faults.specs.Hint.Advice.{word_instead}
use Rattle.tigertopo_faults.proofs.WordLemmas.{word_next, words_end}
use Rattle.tl_cert_output.proofs.PageLemmas.{both}
use Rattle.tigertopo_pictures.proofs.PieceLemmas.{at_start, piece_more, at_end}
use Rattle.tigertopo_faults.proofs.hint.advice.print_rest.Goals as goal

pub loop-word-init : goal.loop-word-init
loop-word-init g c =
    let page = g.met.P.Page.adding in
    at_start page

pub loop-word-preserved : goal.loop-word-preserved
loop-word-preserved g c =
    let page = g.met.P.Page.adding in
    let word : g.P.Page.adds _ _ (shell_word (word_instead c.args.name.now (string_bytes c.word-item.result))) = search rules in
    piece_more page _ (word_next string_bytes c.args.name.now c.args.words.now c.loop-word.word-index c.word-item.result c.loop-word-test.true c.word-item.is) c.loop-word.invariant (both page c.add.ensures word)

pub returns : goal.returns
returns g c =
    let page = g.met.P.Page.adding in
    at_end page (words_end string_bytes c.args.name.now c.args.words.now c.loop-word.word-index (omega (arith, c.loop-word-test.false))) c.loop-word.invariant
