use Rattle.std.proofs.Common.{◌≡◌, ◌∷◌, [], ℕ, Vec, Option, Err, refl, arith, subst, ◌∙◌}
use Rattle.std.specs.Global.{Global}
use Rattle.tl_cert.specs.declared.place.NextPart.{NextPart}
use Rattle.tl_cert.specs.declared.place.CertPart.{CertPart}
use Rattle.tl_cert.specs.declared.place.NextPart.TheVariants.{Rounds, Walks}
use Rattle.tl_cert.specs.Text.{numbered_line}
use Rattle.tl_cert.specs.Keeping.Places.{ReadsPart}
use Rattle.tl_cert.specs.Keeping.Steps.{at_walks}
use Rattle.tl_cert.specs.Keeping.Lines.{at}
use Rattle.tl_cert.proofs.AllowedLemmas.{allowed_walks}
use Rattle.tl_cert.proofs.PlaceLemmas.{round_read, round_stops, passed, walk_for_round, pass_walks, number_missing}
use Rattle.tl_cert.proofs.FailureLemmas.{fails_later, tells_later}
use Rattle.tl_cert.proofs.next.read_round.Goals as goal

pub returns-in-Ok-clause-reads : goal.returns-in-Ok-clause-reads
returns-in-Ok-clause-reads g c =
    let darts = c.in-Ok.ensures.reads 0 in
    round_read g.R.Source.remaining c.args.left c.in-Ok.darts (at c.args.lines.now c.args.source.now) (at c.read_darts.new.lines c.read_darts.new.source) c.if-left-gt0.true darts.0 darts.1 c.requires

pub returns-in-Err-clause-reads : goal.returns-in-Err-clause-reads
returns-in-Err-clause-reads g c =
    round_stops g.R.Source.remaining c.args.left (at c.args.lines.now c.args.source.now) (at c.read_darts.new.lines c.read_darts.new.source) (at c.read_darts.new.lines c.read_darts.new.source) c.in-Err.stop c.if-left-gt0.true c.in-Err.ensures.reads

pub returns-in-Ok-read-clause-reads : goal.returns-in-Ok-read-clause-reads
returns-in-Ok-read-clause-reads g c =
    let none : 0 ≡ c.args.left = omega (arith, c.if-left-gt0.false) in
    let small = c.in-Ok-read.ensures.reads.0.0 in
    subst (λ n. ReadsPart g.R.Source.remaining (Rounds n) (at c.args.lines.now c.args.source.now) (at c.read_walk.new.lines c.read_walk.new.source) c.read_walk.result) none
    (passed g.R.Source.remaining (Rounds 0) (Walks c.in-Ok-read.walks) (numbered_line (87 ∷ []) c.in-Ok-read.walks) (at c.args.lines.now c.args.source.now) (at c.read.new.self c.read.new.source) (at c.read_walk.new.lines c.read_walk.new.source) c.read_walk.result
    (pass_walks c.in-Ok-read.walks small) (omega (arith, small)) walk_for_round tt (at_walks c.in-Ok-read.walks small) c.in-Ok-read.ensures.reads.1 c.read_walk.ensures.reads refl)

pub returns-in-Err-read-clause-reads : goal.returns-in-Err-read-clause-reads
returns-in-Err-read-clause-reads g c =
    let none : 0 ≡ c.args.left = omega (arith, c.if-left-gt0.false) in
    subst (λ n. ReadsPart g.R.Source.remaining (Rounds n) (at c.args.lines.now c.args.source.now) (at c.read.new.self c.read.new.source) (Err c.in-Err-read.stop)) none
    (number_missing g.R.Source.remaining 87 (Rounds 0) (at c.args.lines.now c.args.source.now) (at c.read.new.self c.read.new.source) (at c.read.new.self c.read.new.source) c.in-Err-read.stop allowed_walks (λ e. cc e) c.in-Err-read.ensures.reads)

pub returns-in-Ok-clause-failures : goal.returns-in-Ok-clause-failures
returns-in-Ok-clause-failures g c = c.in-Ok.ensures.failures

pub returns-in-Ok-clause-same_reference : goal.returns-in-Ok-clause-same_reference
returns-in-Ok-clause-same_reference g c = c.in-Ok.ensures.same_reference

pub returns-in-Err-clause-failures : goal.returns-in-Err-clause-failures
returns-in-Err-clause-failures g c = fails_later (Vec ℕ Global) (Option (CertPart × NextPart)) _ _ _ c.in-Err.stop refl c.in-Err.ensures.failures

pub returns-in-Err-clause-same_reference : goal.returns-in-Err-clause-same_reference
returns-in-Err-clause-same_reference g c = c.in-Err.ensures.same_reference

pub returns-in-Ok-read-clause-failures : goal.returns-in-Ok-read-clause-failures
returns-in-Ok-read-clause-failures g c = tells_later (Option (CertPart × NextPart)) _ _ _ c.read_walk.result c.in-Ok-read.ensures.failures c.read_walk.ensures.failures

pub returns-in-Ok-read-clause-same_reference : goal.returns-in-Ok-read-clause-same_reference
returns-in-Ok-read-clause-same_reference g c = c.read_walk.ensures.same_reference ∙ c.in-Ok-read.ensures.same_reference

pub returns-in-Err-read-clause-failures : goal.returns-in-Err-read-clause-failures
returns-in-Err-read-clause-failures g c = fails_later ℕ (Option (CertPart × NextPart)) _ _ _ c.in-Err-read.stop refl c.in-Err-read.ensures.failures

pub returns-in-Err-read-clause-same_reference : goal.returns-in-Err-read-clause-same_reference
returns-in-Err-read-clause-same_reference g c = c.in-Err-read.ensures.same_reference

pub read_darts-requires : goal.read_darts-requires
read_darts-requires g c = let few = c.requires in omega (arith, few)

pub overflow_sub-result : goal.overflow_sub-result
overflow_sub-result g c = omega (arith, c.if-left-gt0.true)

pub read-requires : goal.read-requires
read-requires g c = let few = c.requires in omega (arith, few)

pub read_walk-requires : goal.read_walk-requires
read_walk-requires g c = let few = c.requires in let counted = c.in-Ok-read.ensures.reads.1.counted in omega (arith, few, counted, c.in-Ok-read.ensures.reads.0.0)
