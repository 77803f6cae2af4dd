use Rattle.std.proofs.Common.{◌≡◌, ◌+◌, ◌-◌, ◌/◌, ◌%◌, ◌^◌, ℕ, [], ◌∷◌, refl, sym, ap, ◌∙◌, arith}
use Rattle.tigertopo_faults.specs.Places.Degrees.{digits_below}
use Rattle.tigertopo_faults.proofs.DegreeLemmas.{digit_next}
use Rattle.tl_cert_output.proofs.PageLemmas.{as_text, nothing}
use Rattle.tigertopo_pictures.proofs.PieceLemmas.{at_start, piece_more, at_end}
use Rattle.tigertopo_faults.proofs.places.degrees.print_digits.Goals as goal

pub loop-done-init : goal.loop-done-init
loop-done-init g c =
    let page = g.met.P.Page.adding in
    let same : c.args.places - 0 ≡ c.args.places = omega arith in
    piece_more page _ (ap (λ (p : ℕ). digits_below p c.args.number) (sym same)) (at_start page) (nothing page)

pub loop-done-preserved : goal.loop-done-preserved
loop-done-preserved g c =
    let page = g.met.P.Page.adding in
    let same : c.args.places - 1 - c.loop-done.done ≡ c.args.places - (c.loop-done.done + 1) = omega arith in
    let power = c.power.ensures.power ∙ ap (λ (e : ℕ). 10 ^ e) same in
    piece_more page _ (digit_next c.args.number (c.args.places - (c.loop-done.done + 1)) (c.args.places - c.loop-done.done) (omega arith)) c.loop-done.invariant
    (as_text page c.add.ensures (ap (λ (p : ℕ). (48 + c.args.number / p % 10) ∷ []) power))

pub returns : goal.returns
returns g c =
    let page = g.met.P.Page.adding in
    let none : c.args.places - c.loop-done.done ≡ 0 = omega (arith, c.loop-done-test.false) in
    at_end page (rw none refl) c.loop-done.invariant
