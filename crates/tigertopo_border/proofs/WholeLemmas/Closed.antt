-- Where sides agree and darts head apart, the boundary of each side is closed rings: the darts stand in rings.
use Rattle.std.proofs.Common.{◌≡◌, ◌⊎◌, inl, inr, ℕ, zero, suc, ◌+◌, ◌-◌, ◌*◌, ◌<◌, ◌%◌, Bool, true, false, Some, List, length, refl, sym, ap, subst, ◌∙◌, arith}
use Rattle.std.specs.Prelude.{slice_index}
use Rattle.std.proofs.lemmas.Bool.{cases_lt, eqb-true}
use Rattle.tl_map_county.specs.declared.sides.Side.{Side}
use Rattle.tl_map_county.specs.TheMap.{MapChain}
use Rattle.tl_map_county.specs.Darts.{is_along, reverse_dart}
use Rattle.tl_check_sides.specs.Lists.{HoldOnce, list_at, EachList}
use Rattle.tl_check_sides.specs.Sides.{dart_count, IsNext, SidesAgree, Follows, IsRing, IsClosed}
use Rattle.tl_check_sides.proofs.Boundaries.{back_again, boundary_of}
use Rattle.tl_check_sides.proofs.FollowFacts.{reverse_starts}
use Rattle.tl_check_sides.proofs.Headings.{dart_within}
use Rattle.tl_check_sides.proofs.ListLemmas.{stands}
use Rattle.tl_check_faces.specs.Crossings.Headings.{AreProper, HeadApart}
use Rattle.tl_check_faces.proofs.CrossingsLemmas.Nexts.{next_of, one_next}
use Rattle.tl_check_faces.proofs.CrossingsLemmas.Rounds.{below}
use Rattle.tigertopo_border.proofs.WholeLemmas.Cycles.{IsInjective, IsRound, rounds_of}

reverse_below : (n b : ℕ) → b < 2 * n → reverse_dart b < 2 * n
reverse_below n b lt = go (is_along b) refl
  where
    go : (t : Bool) → is_along b ≡ t → reverse_dart b < 2 * n
    go true e = let even : b % 2 ≡ 0 = eqb-true (b % 2) 0 e in rw e (omega (arith, even, lt))
    go false e = rw e (omega (arith, lt))

module _ (chains : List MapChain) (proper : AreProper chains) (apart : HeadApart chains) where
  n : ℕ
  n = dart_count chains

  -- the dart that a dart follows
  record IsBefore (d e : ℕ) : Type 0 where
    next : IsNext chains d (reverse_dart e)
    within : e < dart_count chains

  pick : (d : ℕ) → (e : ℕ) × (d < dart_count chains → IsBefore d e)
  pick d = go (cases_lt d (dart_count chains))
    where
      go : d < dart_count chains ⊎ Rattle.std.proofs.Common.◌≤◌ (dart_count chains) d → (e : ℕ) × (d < dart_count chains → IsBefore d e)
      go (inl lt) =
          let b : (b : ℕ) × IsNext chains d b = next_of chains proper d lt in (
            reverse_dart b.0,
            λ lt'. record {
              next = subst (IsNext chains d) (sym (back_again b.0)) b.1;
              within = reverse_below (length chains) b.0 (dart_within chains b.0 b.1.node b.1.b_starts);
            },
          )
      go (inr le) = (0, λ lt. absurd (omega (arith, lt, le)))

  T : ℕ → ℕ
  T d = (pick d).0

  before_of : (d : ℕ) → d < dart_count chains → IsBefore d (T d)
  unfolding T
  before_of d lt = (pick d).1 lt

  injective : IsInjective (dart_count chains) T
  injective = record {
    below = λ d lt. (before_of d lt).within;
    apart = λ d e lt lt' same.
        one_next chains apart d e (reverse_dart (T e)) (subst (λ z. IsNext chains d (reverse_dart z)) same (before_of d lt).next) (before_of e lt').next;
  }

  follows : (d : ℕ) → d < dart_count chains → Follows chains (T d) d
  follows d lt =
      let b : IsBefore d (T d) = before_of d lt in
      record { meets = sym (reverse_starts chains (T d)) ∙ b.next.b_starts ∙ sym b.next.a_starts; next = b.next }

  rings : (lists : List (List ℕ)) → HoldOnce (dart_count chains) lists → EachList (IsRound T) lists → EachList (IsRing chains) lists
  rings lists hold each r lt =
      let round : IsRound T (list_at lists r) = each r lt in
      record {
        some = round.some;
        follows = λ k h.
            subst (λ z. Follows chains z (slice_index (list_at lists r) k)) (sym (round.at k h))
            (follows (slice_index (list_at lists r) k)
            (below (dart_count chains) lists hold (slice_index (list_at lists r) k) r lt (stands (list_at lists r) k (slice_index (list_at lists r) k) h refl)));
      }

  pub all_closed : SidesAgree chains → (side : Side) → IsClosed chains side
  all_closed agree side =
      let w : (lists : List (List ℕ)) × HoldOnce (dart_count chains) lists × EachList (IsRound T) lists = rounds_of T (dart_count chains) injective in
      boundary_of chains w.0 side (record { hold = w.1; rings = rings w.0 w.1 w.2 }) agree
