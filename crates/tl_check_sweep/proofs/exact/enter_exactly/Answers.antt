use Rattle.std.proofs.Common.{◌≡◌, ℕ, suc, ◌+◌, ◌<◌, Some, [], ◌∷◌, ◌++◌, append_assoc, get_or, length, take, refl, ap, sym, subst, ◌∙◌, arith}
use Rattle.std.specs.Prelude.{slice_get}
use Rattle.std.proofs.lemmas.List.{take_more}
use Rattle.std.proofs.lemmas.Option.{slice_get-get_or}
use Rattle.tl_check_planar.specs.Keeping.Apart.{one_found}
use Rattle.tl_check_planar.specs.ByHeight.Heights.{widest}
use Rattle.tl_check_planar.specs.ByHeight.Neighbours.{AreTested, EachTwo}
use Rattle.tl_check_active.specs.Blocks.Lined.{last_of}
use Rattle.tl_check_active.proofs.Lining.{pushed}
use Rattle.tl_check_sweep.specs.Keeping.Exact.{MayFollow}
use Rattle.tl_check_sweep.proofs.Putting.{last_pushed, two_at}
use Rattle.tl_check_sweep.proofs.exact.enter_exactly.Goals as goal

pub meet_between-requires-clause-follow : goal.meet_between-requires-clause-follow
meet_between-requires-clause-follow c = λ s t e f.
    c.loop-k.invariant.next s t (sym c.previous.ensures ∙ e) (slice_get-get_or c.args.ins.now c.loop-k.k 0 c.loop-k-test.true ∙ f)

pub loop-k-preserved : goal.loop-k-preserved
loop-k-preserved c =
    let chains = c.args.map.now.chains in
    let ins = c.args.ins.now in
    let k = c.loop-k.k in
    let one : ℕ = get_or ins k 0 in
    let lt : k < length ins = c.loop-k-test.true in
    let here : slice_get ins k ≡ Some one = slice_get-get_or ins k 0 lt in
    let old = c.loop-k.line.front in
    record {
      back = c.in_ok-put.ensures.back ∙ c.loop-k.invariant.back;
      front = c.in_ok-put.ensures.front ∙ ap (λ l. l ++ one ∷ []) c.loop-k.invariant.front ∙ append_assoc c.args.line.now.front (take k ins) (one ∷ [])
          ∙ ap (λ l. c.args.line.now.front ++ l) (sym (take_more ins k 0 lt));
      tested = λ before.
          subst (EachTwo (AreTested widest chains)) (sym c.in_ok-put.ensures.front)
          (pushed (AreTested widest chains) old one (c.loop-k.invariant.tested before) (λ t e. c.meet_between.ensures.none c.in_default.is t one (c.previous.ensures ∙ e) refl));
      next = λ s t e f.
          let last : s ≡ one = one_found s one (last_of (old ++ one ∷ [])) (ap last_of (sym c.in_ok-put.ensures.front) ∙ e) (last_pushed old one) in
          let next : suc k ≡ k + 1 = omega arith in
          subst (λ n. MayFollow chains n t) (sym last)
          (two_at (MayFollow chains) ins k one t c.requires.among here (ap (slice_get ins) next ∙ f));
    }
