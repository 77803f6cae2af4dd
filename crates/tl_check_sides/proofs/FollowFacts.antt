-- A dart follows another exactly where the reverse of the other is kept behind it.
use Rattle.std.proofs.Common.{◌≡◌, ℕ, ◌+◌, ◌-◌, ◌/◌, ◌%◌, ◌<◌, Bool, true, false, not, List, sym, ap, refl, subst, ◌∙◌, arith}
use Rattle.std.specs.Prelude.{slice_get, slice_index}
use Rattle.std.specs.Option.{option_and_then}
use Rattle.std.proofs.lemmas.Bool.{eqb-true, eqb-false}
use Rattle.tl_map_county.specs.TheMap.{MapChain}
use Rattle.tl_map_county.specs.Darts.{directed, is_along, reverse_dart, dart_start, dart_end, dart_left}
use Rattle.tl_check_sides.specs.declared.next.Next.{Next}
use Rattle.tl_check_sides.specs.Sides.{dart_count, dart_right, IsNext, SidesAgree, Follows}
use Rattle.tl_check_sides.specs.Keeping.Rounded.{KeepNext}
use Rattle.tl_check_sides.proofs.Headings.{dart_within}

-- the reverse is the other dart of one chain
other_dart : (d : ℕ) → (reverse_dart d / 2 ≡ d / 2) × (is_along (reverse_dart d) ≡ not (is_along d))
other_dart d = go (is_along d) refl
  where
    go : (b : Bool) → is_along d ≡ b → (reverse_dart d / 2 ≡ d / 2) × (is_along (reverse_dart d) ≡ not (is_along d))
    go true e =
        let even : d % 2 ≡ 0 = eqb-true (d % 2) 0 e in
        let half : (d + 1) / 2 ≡ d / 2 = omega (arith, even) in
        let odd : (d + 1) % 2 ≡ 1 = omega (arith, even) in
        rw e (half, rw odd refl)
    go false e =
        let uneven : d % 2 ≡ 0 → ⊥ = eqb-false (d % 2) 0 e in
        let half : (d - 1) / 2 ≡ d / 2 = omega (arith, uneven) in
        let even : (d - 1) % 2 ≡ 0 = omega (arith, uneven) in
        rw e (half, rw even refl)

pub reverse_starts : (chains : List MapChain) (d : ℕ) → dart_start chains (reverse_dart d) ≡ dart_end chains d
reverse_starts chains d =
    let both = other_dart d in
    ap (λ (b : Bool). option_and_then (λ (c : MapChain). slice_get (directed b c.points) 0) (slice_get chains (reverse_dart d / 2))) both.1
    ∙ ap (λ k. option_and_then (λ (c : MapChain). slice_get (directed (not (is_along d)) c.points) 0) (slice_get chains k)) both.0

module _ (chains : List MapChain) (n : Next) (keep : KeepNext chains n) where
  pub follows_there : (d e : ℕ) → e < dart_count chains → slice_index n.next.items e ≡ reverse_dart d → Follows chains d e
  follows_there d e he same =
      let next : IsNext chains e (reverse_dart d) = subst (λ x. IsNext chains e x) same (keep.is_next e he) in
      record {
        meets = sym (reverse_starts chains d) ∙ next.b_starts ∙ sym next.a_starts;
        next = next;
      }

  pub follows_back : (d e : ℕ) → Follows chains d e → slice_index n.next.items e ≡ reverse_dart d
  follows_back d e f = keep.no_other e (reverse_dart d) f.next

  -- sides agree where those of each dart and the one kept behind it do
  pub all_agree : ((d : ℕ) → d < dart_count chains → dart_left chains d ≡ dart_right chains (slice_index n.next.items d)) → SidesAgree chains
  all_agree each a b next =
      let same : slice_index n.next.items a ≡ b = keep.no_other a b next in
      each a (dart_within chains a next.node next.a_starts) ∙ ap (dart_right chains) same
