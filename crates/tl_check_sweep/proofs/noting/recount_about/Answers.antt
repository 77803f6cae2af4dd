use Rattle.std.proofs.Common.{◌≡◌, ◌+◌, ◌++◌, refl, ap, sym, ◌∙◌}
use Rattle.tl_map_county.specs.declared.sides.Side.TheVariants.{Outside}
use Rattle.tl_check_active.proofs.BlocksLemmas.Answered.{ok_more}
use Rattle.tl_check_gaps.specs.Beside.{seen_side}
use Rattle.tl_check_gaps.specs.Keeping.Facing.{gaps_between, last_far, raised}
use Rattle.tl_check_gaps.proofs.Counts.{in_stead}
use Rattle.tl_check_sweep.proofs.noting.recount_about.Goals as goal

pub returns : goal.returns
returns c =
    let chains = raised c.args.map.now.chains in
    let outs = c.args.outs.now in
    let ins = c.args.ins.now in
    ok_more c.look_about.result _ _
    (λ done looked west east is_front is_back. record {
      counted = λ counted n is.
          let told = c.recount.ensures n is in
          let first : told.1 ≡ last_far chains Outside west = c.far_of-west.ensures.side told.1 west told.4 is_front in
          let last : told.2 ≡ seen_side chains east = c.near_of-east.ensures.side told.2 east told.5 is_back in
          let between : (list : _) → gaps_between chains told.1 list told.2 ≡ gaps_between chains (last_far chains Outside west) list (seen_side chains east) =
          λ list. rw (first, last) refl in
          in_stead chains west outs ins east (west ++ (outs ++ east)) ((west ++ ins) ++ east) n told.0 refl refl
          (counted told.0 told.3) (sym (ap (λ g. n + g) (between outs)) ∙ told.6 ∙ ap (λ g. told.0 + g) (between ins));
      looked = looked west outs east is_front is_back;
    })
    c.look_about.ensures
