use Rattle.std.proofs.Common.{◌≡◌, length, ap, ◌∙◌, arith}
use Rattle.memchr.specs.Find.{is_byte}
use Rattle.memchr.proofs.lemmas.CallerLemmas.{length-places}
use Rattle.tl_record.specs.Lines.{line_feed, line_feeds}
use Rattle.tigertopo_files.proofs.counting.line_feeds.Goals as goal

pub places-init : goal.places-init
places-init c =
    let all : length c.memchr_iter-found.result ≡ line_feeds c.args.bytes.now =
    ap length c.memchr_iter-found.ensures.value ∙ length-places (is_byte line_feed) c.args.bytes.now in
    omega (arith, all)
