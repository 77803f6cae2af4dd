use Rattle.std.proofs.Common.{◌≡◌, ℕ, Vec, Option, Ok, Err, None, refl, arith, subst, ◌∙◌}
use Rattle.std.specs.Global.{Global}
use Rattle.tl_cert.specs.declared.place.NextPart.{NextPart}
use Rattle.tl_cert.specs.declared.place.CertPart.{CertPart}
use Rattle.tl_cert.specs.declared.place.NextPart.TheVariants.{Walks}
use Rattle.tl_cert.specs.Keeping.Places.{ReadsPart}
use Rattle.tl_cert.specs.Keeping.Lines.{at}
use Rattle.tl_cert.proofs.PlaceLemmas.{walk_read, walk_stops, text_ends, text_goes_on, end_missing}
use Rattle.tl_cert.proofs.FailureLemmas.{fails_later}
use Rattle.tl_cert.proofs.next.read_walk.Goals as goal

pub returns-in-Ok-clause-reads : goal.returns-in-Ok-clause-reads
returns-in-Ok-clause-reads g c =
    let darts = c.in-Ok.ensures.reads 0 in
    walk_read g.R.Source.remaining c.args.left c.in-Ok.darts (at c.args.lines.now c.args.source.now) (at c.read_darts.new.lines c.read_darts.new.source) c.if-left-gt0.true darts.0 darts.1 c.requires

pub returns-in-Err-clause-reads : goal.returns-in-Err-clause-reads
returns-in-Err-clause-reads g c =
    walk_stops g.R.Source.remaining c.args.left (at c.args.lines.now c.args.source.now) (at c.read_darts.new.lines c.read_darts.new.source) (at c.read_darts.new.lines c.read_darts.new.source) c.in-Err.stop c.if-left-gt0.true c.in-Err.ensures.reads

pub returns-in-Ok-end-clause-reads : goal.returns-in-Ok-end-clause-reads
returns-in-Ok-end-clause-reads g c =
    let none : 0 ≡ c.args.left = omega (arith, c.if-left-gt0.false) in
    subst (λ n. ReadsPart g.R.Source.remaining (Walks n) (at c.args.lines.now c.args.source.now) (at c.end.new.self c.end.new.source) (Ok None)) none
    (text_ends g.R.Source.remaining (at c.args.lines.now c.args.source.now) (at c.read.new.self c.read.new.source) (at c.end.new.self c.end.new.source) c.in-Ok-read.ensures.reads.1 c.in-Ok-end.ensures.ends)

pub returns-in-Err-end-clause-reads : goal.returns-in-Err-end-clause-reads
returns-in-Err-end-clause-reads g c =
    let none : 0 ≡ c.args.left = omega (arith, c.if-left-gt0.false) in
    subst (λ n. ReadsPart g.R.Source.remaining (Walks n) (at c.args.lines.now c.args.source.now) (at c.end.new.self c.end.new.source) (Err c.in-Err-end.stop)) none
    (text_goes_on g.R.Source.remaining (at c.args.lines.now c.args.source.now) (at c.read.new.self c.read.new.source) (at c.end.new.self c.end.new.source) c.in-Err-end.stop c.in-Ok-read.ensures.reads.1 c.in-Err-end.ensures.ends)

pub returns-in-Err-read-clause-reads : goal.returns-in-Err-read-clause-reads
returns-in-Err-read-clause-reads g c =
    let none : 0 ≡ c.args.left = omega (arith, c.if-left-gt0.false) in
    subst (λ n. ReadsPart g.R.Source.remaining (Walks n) (at c.args.lines.now c.args.source.now) (at c.read.new.self c.read.new.source) (Err c.in-Err-read.stop)) none
    (end_missing g.R.Source.remaining (at c.args.lines.now c.args.source.now) (at c.read.new.self c.read.new.source) (at c.read.new.self c.read.new.source) c.in-Err-read.stop c.in-Err-read.ensures.reads)

pub returns-in-Ok-clause-failures : goal.returns-in-Ok-clause-failures
returns-in-Ok-clause-failures g c = c.in-Ok.ensures.failures

pub returns-in-Ok-clause-same_reference : goal.returns-in-Ok-clause-same_reference
returns-in-Ok-clause-same_reference g c = c.in-Ok.ensures.same_reference

pub returns-in-Err-clause-failures : goal.returns-in-Err-clause-failures
returns-in-Err-clause-failures g c = fails_later (Vec ℕ Global) (Option (CertPart × NextPart)) _ _ _ c.in-Err.stop refl c.in-Err.ensures.failures

pub returns-in-Err-clause-same_reference : goal.returns-in-Err-clause-same_reference
returns-in-Err-clause-same_reference g c = c.in-Err.ensures.same_reference

pub returns-in-Ok-end-clause-failures : goal.returns-in-Ok-end-clause-failures
returns-in-Ok-end-clause-failures g c = c.in-Ok-end.ensures.failures ∙ c.in-Ok-read.ensures.failures

pub returns-in-Ok-end-clause-same_reference : goal.returns-in-Ok-end-clause-same_reference
returns-in-Ok-end-clause-same_reference g c = c.in-Ok-end.ensures.same_reference ∙ c.in-Ok-read.ensures.same_reference

pub returns-in-Err-end-clause-failures : goal.returns-in-Err-end-clause-failures
returns-in-Err-end-clause-failures g c = fails_later (Unit {0}) (Option (CertPart × NextPart)) _ _ _ c.in-Err-end.stop c.in-Ok-read.ensures.failures c.in-Err-end.ensures.failures

pub returns-in-Err-end-clause-same_reference : goal.returns-in-Err-end-clause-same_reference
returns-in-Err-end-clause-same_reference g c = c.in-Err-end.ensures.same_reference ∙ c.in-Ok-read.ensures.same_reference

pub returns-in-Err-read-clause-failures : goal.returns-in-Err-read-clause-failures
returns-in-Err-read-clause-failures g c = fails_later (Unit {0}) (Option (CertPart × NextPart)) _ _ _ c.in-Err-read.stop refl c.in-Err-read.ensures.failures

pub returns-in-Err-read-clause-same_reference : goal.returns-in-Err-read-clause-same_reference
returns-in-Err-read-clause-same_reference g c = c.in-Err-read.ensures.same_reference

pub read_darts-requires : goal.read_darts-requires
read_darts-requires g c = let few = c.requires in omega (arith, few)

pub overflow_sub-result : goal.overflow_sub-result
overflow_sub-result g c = omega (arith, c.if-left-gt0.true)

pub read-requires : goal.read-requires
read-requires g c = let few = c.requires in omega (arith, few)

pub end-requires : goal.end-requires
end-requires g c = let few = c.requires in let counted = c.in-Ok-read.ensures.reads.1.counted in omega (arith, few, counted)
