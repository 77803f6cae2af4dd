use Rattle.std.proofs.Common.{◌<◌, ◌≡◌, ◌∷◌, [], ◌++◌, List, length, get_or, take, refl, ap, ◌∙◌, sym, arith}
use Rattle.std.specs.List.{flat_map}
use Rattle.std.proofs.lemmas.List.{take_all, take_more, append-nil, append_assoc}
use Rattle.std.proofs.lemmas.List.Concat.{flat_map-append}
use Rattle.std.proofs.lemmas.Result.{err_from_is_err_and}
use Rattle.tl_map_rules.specs.declared.entry.SidesEntry.{SidesEntry}
use Rattle.tl_map_rules.specs.declared.listing.kept.NamedSide.{NamedSide}
use Rattle.tl_map_rules.specs.Listing.Kept.{named, names_of}
use Rattle.tl_map.proofs.PairLemmas.{no_sides}
use Rattle.tl_map.proofs.left.names_of_sides.Goals as goal

pub loop-place-init : goal.loop-place-init
loop-place-init c = c.new-made.ensures.items

pub loop-place-preserved : goal.loop-place-preserved
loop-place-preserved c =
    let i = c.loop-place.place in
    let sides = c.args.sides.now in
    let lt : i < length sides = omega (arith, c.loop-place-test.true, c.len-count.ensures) in
    let s : SidesEntry = get_or sides i no_sides in
    let entry : c.get-entry.result ≡ s = c.get-entry.ensures no_sides in
    let before : List NamedSide = flat_map names_of (take i sides) in
    let more : c.append_name-in-loop-place.new.names.items ≡ (before ++ named s.tlid s.left) ++ named s.tlid s.right = rw (c.in_ok-append_name-2.ensures, c.in_ok-append_name.ensures, c.loop-place.invariant, entry) refl in
    more ∙ append_assoc before (named s.tlid s.left) (named s.tlid s.right) ∙ ap (λ (xs : List NamedSide). before ++ xs) (sym (append-nil (names_of s)))
    ∙ sym (ap (flat_map names_of) (take_more sides i no_sides lt) ∙ flat_map-append names_of (take i sides) (s ∷ []))

pub returns : goal.returns
returns c = c.loop-place.invariant ∙ ap (flat_map names_of) (take_all c.loop-place.place c.args.sides.now (omega (arith, c.loop-place-test.false, c.len-count.ensures)))

pub returns-in_err-append_name : goal.returns-in_err-append_name
returns-in_err-append_name c = let p = err_from_is_err_and c.from_residual.result c.from_residual.ensures.1 in rw p.1 tt

pub returns-in_err-append_name-2 : goal.returns-in_err-append_name-2
returns-in_err-append_name-2 c = let p = err_from_is_err_and c.from_residual-in_err-append_name-2.result c.from_residual-in_err-append_name-2.ensures.1 in rw p.1 tt
