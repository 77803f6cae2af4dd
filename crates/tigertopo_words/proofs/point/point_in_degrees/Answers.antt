use Rattle.std.proofs.Common.{◌≤◌, w32, to_z, of_z, unsigned_abs, rules, arith}
use Rattle.tl_record.specs.Limits.{greatest_longitude, greatest_latitude}
use Rattle.std.proofs.lemmas.Str.Pattern.{strip_prefix_char}
use Rattle.tigertopo_words.specs.Points.{AreDegrees}
use Rattle.tigertopo_words.proofs.PointLemmas.{no_front, with_front, no_split, both, spells_both}
use Rattle.tigertopo_words.proofs.DegreesLemmas.{degrees_no_comma}
use Rattle.tigertopo_words.proofs.point.point_in_degrees.Goals as goal

pub returns-in_err-strip_prefix : goal.returns-in_err-strip_prefix
returns-in_err-strip_prefix c =
    rw c.from_residual.ensures (no_front AreDegrees degrees_no_comma c.args.word.now c.strip_prefix.result (strip_prefix_char 64 c.args.word.now c.strip_prefix.result c.strip_prefix.ensures.cases (omega arith)) c.in_err-strip_prefix.was)

pub returns-in_err-longitude : goal.returns-in_err-longitude
returns-in_err-longitude c =
    let front = with_front c.args.word.now c.strip_prefix.result _ (strip_prefix_char 64 c.args.word.now c.strip_prefix.result c.strip_prefix.ensures.cases (omega arith)) c.in_ok-strip_prefix.was in
    rw c.from_residual-in_err-longitude.ensures (no_split AreDegrees degrees_no_comma c.args.word.now _ c.split_once.result front c.split_once.ensures.cases c.in_err-longitude.was)

pub returns-in_err-x : goal.returns-in_err-x
returns-in_err-x c =
    let front = with_front c.args.word.now c.strip_prefix.result _ (strip_prefix_char 64 c.args.word.now c.strip_prefix.result c.strip_prefix.ensures.cases (omega arith)) c.in_ok-strip_prefix.was in
    rw c.from_residual-in_err-x.ensures (λ p spells.
    let these = both AreDegrees degrees_no_comma c.args.word.now _ c.split_once.result c.in_ok-longitude.longitude c.in_ok-longitude.latitude front c.split_once.ensures.cases c.in_ok-longitude.was p spells in
    c.in_err-x.ensures p.x spells.longitude these.0)

pub returns-in_err-y : goal.returns-in_err-y
returns-in_err-y c =
    let front = with_front c.args.word.now c.strip_prefix.result _ (strip_prefix_char 64 c.args.word.now c.strip_prefix.result c.strip_prefix.ensures.cases (omega arith)) c.in_ok-strip_prefix.was in
    rw c.from_residual-in_err-y.ensures (λ p spells.
    let these = both AreDegrees degrees_no_comma c.args.word.now _ c.split_once.result c.in_ok-longitude.longitude c.in_ok-longitude.latitude front c.split_once.ensures.cases c.in_ok-longitude.was p spells in
    c.in_err-y.ensures p.y spells.latitude these.1)

pub returns : goal.returns
returns c =
    let front = with_front c.args.word.now c.strip_prefix.result _ (strip_prefix_char 64 c.args.word.now c.strip_prefix.result c.strip_prefix.ensures.cases (omega arith)) c.in_ok-strip_prefix.was in
    let east : AreDegrees c.in_ok-longitude.longitude.now (to_z w32 (of_z w32 c.in_ok-x.x)) × (unsigned_abs (to_z w32 (of_z w32 c.in_ok-x.x)) ≤ greatest_longitude) = search rules in
    let north : AreDegrees c.in_ok-longitude.latitude.now (to_z w32 (of_z w32 c.in_ok-y.y)) × (unsigned_abs (to_z w32 (of_z w32 c.in_ok-y.y)) ≤ greatest_latitude) = search rules in
    spells_both AreDegrees degrees_no_comma c.args.word.now _ c.split_once.result c.in_ok-longitude.longitude c.in_ok-longitude.latitude _ front c.split_once.ensures.cases c.in_ok-longitude.was east north
