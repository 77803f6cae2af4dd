-- Where the chains that remain are planar, of two segments that conflict one is of a chain that is marked.
use Rattle.std.proofs.Common.{◌≡◌, ◌≢◌, ◌⊎◌, inl, inr, ⊎_elim, ℕ, zero, suc, ◌+◌, ◌<◌, Bool, true, false, None, Some, List, [], ◌∷◌, ◌++◌, length, get_or, refl, sym, ap, subst, ◌∙◌, arith}
use Rattle.std.specs.Prelude.{slice_get}
use Rattle.std.proofs.lemmas.Bool.{cases_eq, cases_lt, cases_order, true≢false}
use Rattle.std.proofs.lemmas.List.{get_or_append_left, get_or_push}
use Rattle.tl_geom.specs.declared.rational.Rational.{Rational}
use Rattle.tl_map_county.specs.TheMap.{MapChain}
use Rattle.tl_map_county.specs.Segments.{segments_before, IsSegmentOf}
use Rattle.tl_map_county.specs.Remaining.{remaining}
use Rattle.tl_check_planar.specs.Planar.{IsOnSegment, IsPlanar}
use Rattle.tl_check_planar.specs.Meets.{IsSharedBy, IsMeet, IsAllowed}
use Rattle.tl_check_planar.specs.Searching.{MayTell}
use Rattle.tl_check_planar.proofs.Numbering.{one_chain}
use Rattle.tl_check_planar.proofs.Planes.{one_points}
use Rattle.tl_check_planar.specs.Listing.Conflicts.{IsOneMarked}
use Rattle.tl_check_planar.specs.Listing.Keeping.Marking.{AreMarkedSegments}

-- how many of the first c chains remain
place_among : List Bool → ℕ → ℕ
place_among marks zero = 0
place_among [] (suc c) = suc (place_among [] c)
place_among (true ∷ marks) (suc c) = place_among marks c
place_among (false ∷ marks) (suc c) = suc (place_among marks c)

-- a chain that remains stands there
stands_among : (marks : List Bool) (chains : List MapChain) (c : ℕ) (chain : MapChain) → slice_get chains c ≡ Some chain → get_or marks c false ≡ false
    → slice_get (remaining marks chains) (place_among marks c) ≡ Some chain
unfolding place_among
stands_among marks [] c chain is unmarked = absurd (let e : None ≡ Some chain = is in cc)
stands_among [] (x ∷ chains) zero chain is unmarked = is
stands_among [] (x ∷ chains) (suc c) chain is unmarked = stands_among [] chains c chain is refl
stands_among (true ∷ marks) (x ∷ chains) zero chain is unmarked = absurd (true≢false unmarked)
stands_among (true ∷ marks) (x ∷ chains) (suc c) chain is unmarked = stands_among marks chains c chain is unmarked
stands_among (false ∷ marks) (x ∷ chains) zero chain is unmarked = is
stands_among (false ∷ marks) (x ∷ chains) (suc c) chain is unmarked = stands_among marks chains c chain is unmarked

-- those behind it that remain stand behind it
behind_among : (marks : List Bool) (c d : ℕ) → c < d → get_or marks c false ≡ false → place_among marks c < place_among marks d
unfolding place_among
behind_among marks c zero lt unmarked = absurd (omega (arith, lt))
behind_among [] zero (suc d) lt unmarked = omega arith
behind_among [] (suc c) (suc d) lt unmarked = let h = behind_among [] c d (omega (arith, lt)) refl in omega (arith, h)
behind_among (true ∷ marks) zero (suc d) lt unmarked = absurd (true≢false unmarked)
behind_among (true ∷ marks) (suc c) (suc d) lt unmarked = behind_among marks c d (omega (arith, lt)) unmarked
behind_among (false ∷ marks) zero (suc d) lt unmarked = omega arith
behind_among (false ∷ marks) (suc c) (suc d) lt unmarked = let h = behind_among marks c d (omega (arith, lt)) unmarked in omega (arith, h)

apart_among : (marks : List Bool) (c d : ℕ) → c ≢ d → get_or marks c false ≡ false → get_or marks d false ≡ false → place_among marks c ≢ place_among marks d
apart_among marks c d other one two =
    ⊎_elim (λ same. absurd (other same))
    (λ w. ⊎_elim
    (λ less e. let h = behind_among marks c d less one in omega (arith, h, e))
    (λ more e. let h = behind_among marks d c more two in omega (arith, h, e)) w)
    (cases_order c d)

module _ (marks : List Bool) (chains : List MapChain) (planar : IsPlanar (remaining marks chains)) where
  -- what two segments share is allowed where both are of chains that remain
  allowed_there : (s t : ℕ) (r : Rational) → s < t → (m : IsSharedBy chains s t r) → get_or marks m.c false ≡ false → get_or marks m.d false ≡ false
      → IsAllowed chains s t r m
  allowed_there s t r lt m one two =
      ⊎_elim
      (λ e. inr (
        e,
        let before : segments_before chains m.c ≡ segments_before chains m.d = ap (λ n. segments_before chains n) e in
            planar.simple (place_among marks m.c) m.first.chain (stands_among marks chains m.c m.first.chain m.first.is one) m.i m.j r
            (omega (arith, lt, before, m.first.number, m.second.number)) m.on_first
            (subst (λ (z : MapChain). IsOnSegment z.points m.j r) (one_points chains s t r m e) m.on_second),
      ))
      (λ ne. inl (
        ne,
        planar.apart (place_among marks m.c) (place_among marks m.d) m.first.chain m.second.chain (apart_among marks m.c m.d ne one two)
            (stands_among marks chains m.c m.first.chain m.first.is one) (stands_among marks chains m.d m.second.chain m.second.is two)
            r (m.i, m.on_first) (m.j, m.on_second),
      ))
      (cases_eq m.c m.d)

  -- so of two segments that conflict one is of a chain that is marked
  pub one_of_marked : (s t : ℕ) (r : Rational) → s < t → (m : IsMeet chains s t r)
      → (get_or marks m.shared.c false ≡ true) ⊎ (get_or marks m.shared.d false ≡ true)
  one_of_marked s t r lt m = go (get_or marks m.shared.c false) refl (get_or marks m.shared.d false) refl
    where
      go : (a : Bool) → get_or marks m.shared.c false ≡ a → (b : Bool) → get_or marks m.shared.d false ≡ b
          → (get_or marks m.shared.c false ≡ true) ⊎ (get_or marks m.shared.d false ≡ true)
      go true e b f = inl e
      go false e true f = inr f
      go false e false f = absurd (m.refused (allowed_there s t r lt m.shared e f))

  -- and one of both is marked where segments have the marks of their chains
  pub one_segment_marked : (n : ℕ) (segments : List Bool) → AreMarkedSegments chains marks segments → IsOneMarked n (MayTell chains) segments
  one_segment_marked n segments are i j lt known conflict = go (get_or segments i false) refl (get_or segments j false) refl
    where
      go : (a : Bool) → get_or segments i false ≡ a → (b : Bool) → get_or segments j false ≡ b → (get_or segments i false ≡ true) ⊎ (get_or segments j false ≡ true)
      go true e b f = inl e
      go false e true f = inr f
      go false e false f = absurd (conflict (λ r m. allowed_there i j r lt m (sym (are i m.c m.i m.first) ∙ e) (sym (are j m.d m.j m.second) ∙ f)))

-- one segment more has the mark of its chain
pub marked_more : (chains : List MapChain) (marks old new : List Bool) (s c k : ℕ) → IsSegmentOf chains s c k → length old ≡ s
    → new ≡ old ++ get_or marks c false ∷ []
    → ((t d j : ℕ) → t < s → IsSegmentOf chains t d j → get_or old t false ≡ get_or marks d false)
    → (t d j : ℕ) → t < s + 1 → IsSegmentOf chains t d j → get_or new t false ≡ get_or marks d false
marked_more chains marks old new s c k of long grown before t d j lt other = elim (cases_lt t s) [
  | inl less ↦ ap (λ ms. get_or ms t false) grown ∙ get_or_append_left old _ false t (omega (arith, less, long)) ∙ before t d j less other
  | inr past ↦
      let here : s ≡ t = omega (arith, lt, past) in
      let own : IsSegmentOf chains t c k = subst (λ n. IsSegmentOf chains n c k) here of in
      ap (λ ms. get_or ms t false) grown ∙ get_or_push old _ false t (omega (arith, long, here))
      ∙ ap (λ n. get_or marks n false) (one_chain chains t c k d j own other)
]
