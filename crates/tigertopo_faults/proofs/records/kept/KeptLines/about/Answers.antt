use Rattle.std.proofs.Common.{◌<◌, length, refl, arith, ◌∙◌}
use Rattle.std.proofs.lemmas.Option.{slice_get-get_or, slice_get_past}
use Rattle.tigertopo_faults.proofs.KeptLemmas.{derived_index}
use Rattle.tigertopo_faults.proofs.records.kept.KeptLines.about.Goals as goal
use Rattle.tigertopo_faults.proofs.records.kept.KeptLines.about.Goals.{in_default-via-in-Some+else-number-len, in_default-via-in_default}

pub returns-in-Some : goal.returns-in-Some
returns-in-Some c =
    let kept = c.args.self.now in
    let number = c.in-Some.number in
    let index = derived_index kept.subjects.keys c.args.subject.now _ c.in-Some.ensures.index in
    let inside : number < length kept.lines.items = omega (arith, c.if-number-len.true, c.len.ensures, kept.lines.ok.0) in
    rw (c.as_slice.ensures.value, index, slice_get-get_or kept.lines.items number c.index.result.now inside, ← c.index.ensures) refl

pub returns-in_default : goal.returns-in_default
returns-in_default c =
    let kept = c.args.self.now in
    elim c.in_default.branch [
      | in_default-via-in-Some+else-number-len w ↦
          let index = derived_index kept.subjects.keys c.args.subject.now _ w.in-Some.ensures.index in
          rw (index, slice_get_past kept.lines.items w.in-Some.number (omega (arith, w.if-number-len.false, w.len.ensures, kept.lines.ok.0))) refl
      | in_default-via-in_default w ↦
          let none = derived_index kept.subjects.keys c.args.subject.now _ c.get_index_of.ensures.index ∙ w.in_default.is in
          rw none refl
    ]
