use Rattle.std.proofs.Common.{◌≡◌, ℕ, ◌+◌, ◌<◌, true, List, get_or, length, take, slice_set, sym, subst, ◌∙◌, arith}
use Rattle.std.proofs.lemmas.Bool.{false≢true}
use Rattle.std.proofs.lemmas.List.{length-set, take-set, take_more_set, at_drop_all}
use Rattle.tl_geom.specs.Rectangle.{AreMeeting}
use Rattle.tl_tree_index.specs.Pairs.{meeting, cross_sum, AreToldApart, AllCross}
use Rattle.tl_tree.proofs.Listing.{Lists, by_Bool, item-listed, item-apart, item-sum, item-most, item-free}
use Rattle.tl_tree.proofs.PairLemmas.{cross-nil, all_cross-nil}
use Rattle.tl_tree.proofs.Steps.{below-at}
use Rattle.tl_tree.proofs.near_items.list_items.Goals as goal

pub loop-other-init : goal.loop-other-init
loop-other-init g c =
    record { sum = omega arith; most = λ f. omega arith; free = λ f h. (f, h); known = λ k. k; fits = omega arith; complete = omega arith }

pub bounds-requires : goal.bounds-requires
bounds-requires g c = below-at _ _ c.loop-other.other-index c.loop-other-test.true c.requires.others

pub loop-other-preserved : goal.loop-other-preserved
loop-other-preserved g c =
    let n = g.I.Items.count c.args.items.now in
    let b = g.I.Items.bounds_of c.args.items.now in
    let tells = g.I.Items.tells c.args.items.now in
    let xs = c.args.some.now in
    let ys = c.args.others.now in
    let k = c.loop-other.other-index in
    let len = c.loop-other.more in
    let near = c.loop-other.near in
    let y = get_or ys k 0 in
    let known : y < n = below-at n ys k c.loop-other-test.true c.requires.others in
    let within : len < length near = omega (arith, c.loop-other.invariant.fits, c.loop-other.invariant.complete, c.loop-other-test.true, c.requires.room) in
    let P : ℕ → Type 0 = λ m. Lists n b tells xs y (take len near) (take m (slice_set near len y)) in
    let Q : List ℕ → Type 0 = Lists n b tells xs y (take len near) in
    let no : c.are_apart.result ≡ true → AreMeeting (b y) c.args.around → ⊥ = λ f m. false≢true (sym (c.are_apart.ensures.1 (rw c.bounds.ensures m)) ∙ f) in
    let step : Lists n b tells xs y (take len near) (take c.next_place-more.result (slice_set near len y)) =
    by_Bool c.are_apart.result
    (λ e. subst P (sym (c.next_place-more.ensures.same e)) (subst Q (sym (take-set near len y)) (item-apart n b tells xs (g.met.I.Items.apart c.args.items.now) c.args.around c.requires.around c.requires.some (take len near) y known (no e))))
    (λ e. subst P (sym (c.next_place-more.ensures.next e)) (subst Q (sym (take_more_set near len y within)) (item-listed n b tells xs (take len near) y known))) in
    let fits : c.next_place-more.result < len + 2 =
    by_Bool c.are_apart.result (λ e. omega (arith, c.next_place-more.ensures.same e)) (λ e. omega (arith, c.next_place-more.ensures.next e)) in
    record {
      sum = omega (arith, step.sum, item-sum n b tells xs ys k c.loop-other-test.true, c.loop-other.invariant.sum);
      most = λ f. omega (arith, step.most f, item-most n b tells xs f ys k c.loop-other-test.true, c.loop-other.invariant.most f);
      free = λ f h. let p = step.free f in c.loop-other.invariant.free p.0 (item-free n b tells xs ys k c.loop-other-test.true p.1 h);
      known = λ k. step.known (c.loop-other.invariant.known k);
      fits = omega (arith, fits, c.loop-other.invariant.fits);
      complete = length-set near len y ∙ c.loop-other.invariant.complete;
    }

pub returns-clause-listed : goal.returns-clause-listed
returns-clause-listed g c =
    let tells = g.I.Items.tells c.args.items.now in
    let meet = meeting (g.I.Items.bounds_of c.args.items.now) in
    let xs = c.args.some.now in
    let e = at_drop_all (λ (zs : List ℕ). zs) c.args.others.now c.loop-other.other-index (omega (arith, c.loop-other-test.false)) in
    let s = at_drop_all (λ (zs : List ℕ). cross_sum meet xs zs) c.args.others.now c.loop-other.other-index (omega (arith, c.loop-other-test.false)) in
    let P : List ℕ → Type 0 = AllCross (AreToldApart tells) xs in
    record {
      sum = omega (arith, s, cross-nil meet xs, c.loop-other.invariant.sum);
      most = λ f. omega (arith, c.loop-other.invariant.most f);
      free = λ f. c.loop-other.invariant.free f (subst P (sym e) (all_cross-nil (AreToldApart tells) xs));
      known = c.loop-other.invariant.known;
    }
