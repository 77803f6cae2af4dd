use Rattle.std.proofs.Common.{◌≡◌, refl, arith, ◌∙◌}
use Rattle.std.proofs.KnownBytes.{Keeps-refl, Keeps-trans}
use Rattle.tigertopo_files.proofs.JoiningLemmas.{keeps_none}
use Rattle.tigertopo_files.proofs.joined.JoinedSourcesSource.fetch.Goals as goal

pub loop-self-init : goal.loop-self-init
loop-self-init g c = (Keeps-refl _, refl)

pub loop-self-preserved : goal.loop-self-preserved
loop-self-preserved g c =
    let none : c.in_ok-count.count ≡ 0 = omega arith in (
      Keeps-trans _ _ _ c.loop-self.invariant.0 (keeps_none _ _ c.in_ok-count.count c.step.new.buf none c.in_ok-count.ensures.bytes),
      c.in_ok-count.ensures.failures ∙ c.loop-self.invariant.1,
    )

pub loop-self-smaller : goal.loop-self-smaller
loop-self-smaller g c =
    let none : c.in_ok-count.count ≡ 0 = omega arith in
    omega (arith, c.in_ok-count.ensures.next none, c.in_ok-count.ensures.readers)
