use Rattle.std.proofs.Common.{refl, sym}
use Rattle.tigertopo_words.proofs.ArgumentLemmas.{word_given, seen_the_same, with_faults, without_faces}
use Rattle.tigertopo_words.proofs.asking.drawing_of.Goals as goal
use Rattle.tigertopo_words.proofs.asking.drawing_of.Goals.{else-switch_of-via-then-switch_of+else-not-faults, else-switch_of-via-else-switch_of}

pub returns-in_default : goal.returns-in_default
returns-in_default c = λ needs.
    let center = c.given.ensures in
    let width = c.given-2.ensures in
    c.in_default.ensures needs.1.0 (seen_the_same needs.1.0 _ _ _ _ (sym center) (sym width) needs.1.1)

pub returns-in-Some-2 : goal.returns-in-Some-2
returns-in-Some-2 c =
    let center = c.given.ensures in
    let width = c.given-2.ensures in (
      refl,
      record {
        to = word_given c.in_ok-made.field-0 _ c.in-Some-2.made c.in_ok-made.ensures c.in-Some-2.is;
        seen = seen_the_same c.in-Some.view _ _ _ _ center width c.in-Some.ensures;
        shown = c.switch_of-faults.ensures;
        needed = elim c.else-switch_of.branch [
          | else-switch_of-via-then-switch_of+else-not-faults w ↦ with_faults _ _ c.switch_of-faults.result c.switch_of-faults.ensures w.if-not-faults.false
          | else-switch_of-via-else-switch_of w ↦ without_faces _ _ c.switch_of.result c.switch_of.ensures w.if-switch_of.false
        ];
      },
    )
