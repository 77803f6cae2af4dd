use Rattle.std.proofs.Common.{◌≡◌, ℕ, true, take, slice_set, refl, sym, subst, ◌∙◌, arith}
use Rattle.std.proofs.lemmas.Bool.{false≢true}
use Rattle.std.proofs.lemmas.List.{take-set, take_more_set}
use Rattle.tl_geom.specs.Rectangle.{AreMeeting}
use Rattle.tl_tree.specs.Keeping.Listing.{StandsFor}
use Rattle.tl_tree.specs.Keeping.Walking.{items_below}
use Rattle.tl_tree.proofs.Listing.{by_Bool, one-listed, one-apart}
use Rattle.tl_tree.proofs.Walks.{sound-first}
use Rattle.tl_tree.proofs.near.list_one.Goals as goal

pub returns-clause-fits : goal.returns-clause-fits
returns-clause-fits g c =
    by_Bool c.are_apart.result (λ e. omega (arith, c.next_place.ensures.same e)) (λ e. omega (arith, c.next_place.ensures.next e))

pub returns-clause-listed : goal.returns-clause-listed
returns-clause-listed g c =
    let see = g.W.Trees.forest in
    let n = g.I.Items.count c.args.items.now in
    let b = g.I.Items.bounds_of c.args.items.now in
    let tells = g.I.Items.tells c.args.items.now in
    let xs = items_below see c.args.tree.now.below in
    let near = c.args.near.now in
    let len = c.args.len in
    let at = c.args.at.now in
    let first = c.args.first.now in
    let no : c.are_apart.result ≡ true → AreMeeting first.rect c.args.tree.now.rect → ⊥ = λ e m. false≢true (sym (c.are_apart.ensures.1 m) ∙ e) in
    let k = sound-first see n b (see at) first c.requires.first.others c.requires.first.split c.requires.at in
    let P : ℕ → Type 0 = λ m. StandsFor n b tells see xs (take len near) (items_below see first.below) (take m (slice_set near len at)) in
    by_Bool c.are_apart.result
    (λ e. subst P (sym (c.next_place.ensures.same e)) (rw (take-set near len at) (one-apart see n b tells xs (g.met.I.Items.apart c.args.items.now) (take len near) c.args.tree.now first refl c.requires.tree k (no e))))
    (λ e. subst P (sym (c.next_place.ensures.next e)) (rw (take_more_set near len at c.requires.room) (one-listed see n b tells xs (take len near) at first c.requires.first c.requires.at)))
