use Rattle.std.proofs.lemmas.Result.{err_from_is_err_and}
use Rattle.std.proofs.Common.{◌≡◌, ◌≢◌, ◌∙◌, ℕ, ◌-◌, ◌<◌, ◌≤◌, List, length, map, take, drop, get_or, sym, ap, inl, inr, refl, arith}
use Rattle.std.proofs.lemmas.Bool.{cases_lt}
use Rattle.std.proofs.lemmas.List.{length-append}
use Rattle.tl_map.specs.declared.landmarks.Link.{Link}
use Rattle.tl_map_rules.specs.MapOf.{firsts}
use Rattle.tl_map.specs.Keeping.Landmarks.{links_to}
use Rattle.tl_map.proofs.ListedLemmas.{run_of, above_links, row_more, part_inside}
use Rattle.tl_map.proofs.landmarks.append_rows.Goals as goal

pub loop-landmark-preserved : goal.loop-landmark-preserved
loop-landmark-preserved c =
    let links = c.args.links.now in
    let s = c.loop-landmark.start in
    let e = c.run_end-end.result in
    let l = c.loop-landmark.landmark in
    let before = c.loop-landmark.invariant in
    let key : c.from.result ≡ l = c.from.ensures in
    let same : (k : ℕ) (d : Link) → s ≤ k → k < e → (get_or links k d).landmark ≡ l = λ k d low high. c.run_end-end.ensures.same k d low high ∙ key in
    let stops : (d : Link) → e < length links → (get_or links e d).landmark ≢ l = λ d lt at. c.run_end-end.ensures.stops d lt (at ∙ sym key) in
    let above = above_links links s e l c.run_end-end.ensures.from c.requires.rising before.ahead stops in
    let run : links_to l links ≡ take (e - s) (drop s links) = run_of links s e l c.run_end-end.ensures.from c.run_end-end.ensures.within before.behind same above in
    let more : List ℕ = firsts (λ p. p) (map (λ (m : Link). m.polygon) (take (e - s) (drop s links))) in
    let long = ap length c.in_ok-append_once.ensures.linked in
    let rows = row_more links l c.loop-landmark.linked.items more c.loop-landmark.rows.items c.len-first.result (c.len.result - c.len-first.result) before.rows.count
    (omega (arith, c.len-first.ensures, c.loop-landmark.linked.ok.0)) (omega (arith, c.len-first.ensures, c.len.ensures, c.loop-landmark.linked.ok.0, c.append_once.new.linked.ok.0, long, length-append c.loop-landmark.linked.items more)) (ap (λ (ms : List Link). firsts (λ p. p) (map (λ (m : Link). m.polygon) ms)) (sym run)) before.rows in
    record {
      within = c.run_end-end.ensures.within;
      behind = λ k d lt. elim (cases_lt k s) [
        | inl earlier ↦ let h = before.behind k d earlier in omega (arith, h)
        | inr later ↦ let h = same k d later lt in omega (arith, h)
      ];
      ahead = λ k d low high. let h = above k d low high in omega (arith, h);
      marks = c.in_ok-append_once.ensures.length ∙ before.marks;
      fresh = c.in_ok-append_once.ensures.marks;
      rows = rw (c.in_ok-push.ensures.items, c.in_ok-append_once.ensures.linked) rows;
    }

pub append_once-requires : goal.append_once-requires
append_once-requires c =
    let marks = c.loop-landmark.marks in
    let long : length marks ≡ length c.args.marks.now = c.loop-landmark.invariant.marks in
    record {
      inside = part_inside (λ (m : Link). m.polygon < length marks) c.args.links.now c.loop-landmark.start (c.run_end-end.result - c.loop-landmark.start) (λ k d lt. let h = c.requires.inside k d lt in omega (arith, h, long)) (omega (arith, c.run_end-end.ensures.from, c.run_end-end.ensures.within));
      fresh = λ k d lt. let h = c.loop-landmark.invariant.fresh k d lt in omega (arith, h);
    }

pub returns : goal.returns
returns c = let same : c.loop-landmark.landmark ≡ c.args.landmarks = omega (arith, c.loop-landmark-test.false, c.loop-landmark.auto.landmark-end) in rw same at c.loop-landmark.invariant.rows

pub returns-in_err-append_once : goal.returns-in_err-append_once
returns-in_err-append_once c =
    let p = err_from_is_err_and c.from_residual.result c.from_residual.ensures.1 in
    rw p.1 tt

pub returns-in_err-push : goal.returns-in_err-push
returns-in_err-push c =
    let p = err_from_is_err_and c.from_residual-in_err-push.result c.from_residual-in_err-push.ensures.1 in
    rw p.1 tt

pub run_end-end-requires : goal.run_end-end-requires
run_end-end-requires c = c.loop-landmark.invariant.within

pub loop-landmark-init : goal.loop-landmark-init
loop-landmark-init c = record {
  within = omega arith;
  behind = λ k d lt. absurd (omega (arith, lt));
  ahead = λ k d low high. omega arith;
  marks = refl;
  fresh = c.requires.fresh;
  rows = rw c.requires.none (record {
    count = refl;
    within = λ k d lt. absurd (omega (arith, lt));
    are = λ k d lt. absurd (omega (arith, lt));
  });
}
