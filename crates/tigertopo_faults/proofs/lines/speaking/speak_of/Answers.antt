use Rattle.std.proofs.Common.{refl}
use Rattle.std.specs.Prelude.{option_copied}
use Rattle.std.proofs.lemmas.Result.{err_from_is_err_and}
use Rattle.tigertopo_faults.specs.Records.SpokenOf.{chains_of}
use Rattle.tigertopo_faults.proofs.LinesLemmas.SpeakingLemmas.{then_all}
use Rattle.tigertopo_faults.proofs.lines.speaking.speak_of.Goals as goal

pub returns : goal.returns
returns c = record {
  placed = c.in_ok-places.ensures;
  counted = refl;
  lines = then_all (chains_of (option_copied c.args.drawn)) c.args.faults.now c.in_ok-subjects.subjects.keys c.in_ok-kept.kept c.note_all.new.self c.in_ok-lines.lines c.args.records.now c.in_ok-lines.ensures c.in_ok-subjects.ensures
      c.in_ok-kept.ensures.wanted c.in_ok-kept.ensures.empty c.in_ok-note_all.ensures;
}

pub returns-in_err-places : goal.returns-in_err-places
returns-in_err-places c = let p = err_from_is_err_and c.from_residual.result c.from_residual.ensures.1 in rw p.1 tt

pub returns-in_err-subjects : goal.returns-in_err-subjects
returns-in_err-subjects c = let p = err_from_is_err_and c.from_residual-in_err-subjects.result c.from_residual-in_err-subjects.ensures.1 in rw p.1 tt

pub returns-in_err-kept : goal.returns-in_err-kept
returns-in_err-kept c = let p = err_from_is_err_and c.from_residual-in_err-kept.result c.from_residual-in_err-kept.ensures.1 in rw p.1 tt

pub returns-in_err-note_all : goal.returns-in_err-note_all
returns-in_err-note_all c = let p = err_from_is_err_and c.from_residual-in_err-note_all.result c.from_residual-in_err-note_all.ensures.1 in rw p.1 tt

pub returns-in_err-lines : goal.returns-in_err-lines
returns-in_err-lines c = let p = err_from_is_err_and c.from_residual-in_err-lines.result c.from_residual-in_err-lines.ensures.1 in rw p.1 tt
