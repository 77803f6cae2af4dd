-- What is sifted out of what lies in a strip.
use Rattle.std.proofs.Common.{◌≡◌, ℕ, ◌+◌, ◌<◌, ◌≤◌, cond, eqb, inl, inr, List, [], ◌∷◌, ◌++◌, length, take, sym, subst, ap, ◌∙◌, refl, arith}
use Rattle.std.specs.Prelude.{slice_index, Contains}
use Rattle.std.proofs.lemmas.Bool.{cases_order}
use Rattle.std.proofs.lemmas.List.{map-append, take_more, take_all}
use Rattle.std.proofs.lemmas.List.Elements.{All-nil, All-push, Contains-append_left, Contains-append_right}
use Rattle.tl_geom.specs.declared.point.Point.{Point}
use Rattle.tl_map_county.specs.TheMap.{MapChain}
use Rattle.tl_map_county.specs.Segments.{IsSegmentOf}
use Rattle.tl_tree_index.specs.Hits.{times}
use Rattle.tl_tree_index.proofs.Times.{times-append, times-other}
use Rattle.tl_check_planar.proofs.Numbering.{below_total, one_chain}
use Rattle.tl_check_inside.specs.declared.flanks.Flanks.{Flanks}
use Rattle.tl_check_inside.specs.Inside.{flanks_at, IsCrossed, AreCrossed}
use Rattle.tl_check_inside.specs.Places.{IsHeldBy, IsOffChains}
use Rattle.tl_check_inside.specs.Keeping.Probing.{IsHolding}
use Rattle.tl_check_inside.specs.Keeping.Strips.{AreEnough}
use Rattle.tl_check_inside.specs.Keeping.Sifted.{AreOff, AreSifted, AreSiftedFlanks, IsKept, AreHolders, IsKeptHolder}
use Rattle.tl_check_inside.specs.Keeping.Tallies.{TellCounts}
use Rattle.tl_check_inside.proofs.Counting.{crossed_tell}
use Rattle.tl_check_inside.proofs.Holding.{place_of, holder_of}

times-one : (s x : ℕ) → times s (x ∷ []) ≡ cond (eqb s x) 1 0
times-one s x = let r : times s (x ∷ []) ≡ cond (eqb s x) 1 0 + 0 = refl in r ∙ omega arith

times-more : (s k : ℕ) (xs : List ℕ) → k < length xs → times s (take (k + 1) xs) ≡ times s (take k xs) + times s (slice_index xs k ∷ [])
times-more s k xs lt = ap (times s) (take_more xs k 0 lt) ∙ times-append s (take k xs) (slice_index xs k ∷ [])

pub off_more : (chains : List MapChain) (q : Point) (hits : List ℕ) (k : ℕ) → AreOff chains q hits k → ¬ IsHolding chains q (slice_index hits k) → AreOff chains q hits (k + 1)
off_more chains q hits k before not j less h = elim (cases_order j k) [
  | inl same ↦ not (subst (λ i. IsHolding chains q (slice_index hits i)) same h)
  | inr (inl under) ↦ before j under h
  | inr (inr over) ↦ absurd (omega (arith, less, over))
]

module _ (chains : List MapChain) (q : Point) (hits crossed : List ℕ) (k : ℕ) (lt : k < length hits) (before : AreSifted chains q hits crossed k) where
  pushed : IsCrossed chains q (slice_index hits k) → AreSifted chains q hits (crossed ++ slice_index hits k ∷ []) (k + 1)
  pushed is = record {
    crossing = λ s x. let so = before.crossing s x in let more = times-more s k hits lt in let push = times-append s crossed (slice_index hits k ∷ []) in omega (arith, so, more, push);
    others = λ s no.
        let so = before.others s no in
        let push = times-append s crossed (slice_index hits k ∷ []) in
        let none : times s (slice_index hits k ∷ []) ≡ 0 = times-other s (slice_index hits k) [] (λ e. no (subst (IsCrossed chains q) (sym e) is)) in
        omega (arith, so, push, none);
  }

  passed : ¬ IsCrossed chains q (slice_index hits k) → AreSifted chains q hits crossed (k + 1)
  passed uncrossed = record {
    crossing = λ s x.
        let so = before.crossing s x in
        let more = times-more s k hits lt in
        let none : times s (slice_index hits k ∷ []) ≡ 0 = times-other s (slice_index hits k) [] (λ e. uncrossed (subst (IsCrossed chains q) e x)) in
        omega (arith, so, more, none);
    others = before.others;
  }

-- one hit more
pub sifted_more : (chains : List MapChain) (q : Point) (hits : List ℕ) (flanks new : List Flanks) (k : ℕ) → k < length hits → AreSiftedFlanks chains q hits flanks k → IsKept chains q (slice_index hits k) flanks new → AreSiftedFlanks chains q hits new (k + 1)
sifted_more chains q hits flanks new k lt before (inl h) = record {
  crossed = before.crossed ++ slice_index hits k ∷ [];
  sifted = pushed chains q hits before.crossed k lt before.sifted h.0;
  are = h.1 ∙ ap (λ xs. xs ++ flanks_at chains (slice_index hits k) ∷ []) before.are ∙ sym (map-append (flanks_at chains) before.crossed (slice_index hits k ∷ []));
}
sifted_more chains q hits flanks new k lt before (inr h) = record {
  crossed = before.crossed;
  sifted = passed chains q hits before.crossed k lt before.sifted h.0;
  are = h.1 ∙ before.are;
}

-- what holds the point is of a chain that does
pub held_by : (chains : List MapChain) (q : Point) (s c k : ℕ) → IsHolding chains q s → IsSegmentOf chains s c k → IsHeldBy chains q c
held_by chains q s c k h number =
    subst (IsHeldBy chains q) (one_chain chains s h.c h.k c k h.number number) (record { chain = h.joins.chain; is = h.joins.is; on = (h.k, record { segment = h.segment; from = h.joins.from; to = h.joins.to; on = h.on }) })

module _ (chains : List MapChain) (q : Point) (hits : List ℕ) (k : ℕ) (past : length hits ≤ k) (enough : AreEnough chains q hits) where
  -- a segment of a chain that holds the point is hit, and holds it
  record HasHitHolder (d : ℕ) : Type 0 where
    place : ℕ
    before : place < k
    j : ℕ
    number : IsSegmentOf chains (slice_index hits place) d j
    holding : IsHolding chains q (slice_index hits place)

  hit_holder : (d : ℕ) → IsHeldBy chains q d → HasHitHolder d
  hit_holder d h =
      let holder = holder_of chains q d h in
      let once = enough.held holder.s holder.holding in
      let at = place_of holder.s hits (omega (arith, once)) in
      record {
        place = at.place;
        before = let w = at.within in omega (arith, w, past);
        j = holder.j;
        number = subst (λ s. IsSegmentOf chains s d holder.j) (sym at.is) holder.number;
        holding = subst (IsHolding chains q) (sym at.is) holder.holding;
      }

  pub none_holds : AreOff chains q hits k → IsOffChains chains q
  none_holds off d h = let hit = hit_holder d h in off hit.place hit.before hit.holding

  -- each chain that holds the point is listed
  pub all_held : (held : List ℕ) → AreHolders chains q hits held k → (d : ℕ) → IsHeldBy chains q d → Contains held d
  all_held held holders d h = let hit = hit_holder d h in holders.all hit.place d hit.j hit.before hit.holding hit.number

module _ (chains : List MapChain) (q : Point) (hits crossed : List ℕ) (k : ℕ) (past : length hits ≤ k) (sifted : AreSifted chains q hits crossed k) (enough : AreEnough chains q hits) where
  all_crossed : AreCrossed chains q crossed
  all_crossed = record {
    once = λ s lt x. sifted.crossing s x ∙ ap (times s) (take_all k hits past) ∙ enough.crossed s x;
    others = sifted.others;
    known = λ s past_all. sifted.others s (λ x. let lt = below_total chains s x.c x.k x.number in omega (arith, lt, past_all));
  }

pub all_tell : (chains : List MapChain) (q : Point) (hits : List ℕ) (flanks : List Flanks) (k : ℕ) → length hits ≤ k → AreSiftedFlanks chains q hits flanks k → AreEnough chains q hits → TellCounts chains q flanks
all_tell chains q hits flanks k past sifted enough = crossed_tell chains q sifted.crossed flanks sifted.are (all_crossed chains q hits sifted.crossed k past sifted.sifted enough)

-- the holders of one hit more
pub holders_more : (chains : List MapChain) (q : Point) (hits held new : List ℕ) (k : ℕ) → AreHolders chains q hits held k → IsKeptHolder chains q (slice_index hits k) held new → AreHolders chains q hits new (k + 1)
holders_more chains q hits held new k before (inl h) =
    let c : ℕ = h.1.0 in
    let i : ℕ = h.1.1 in
    let number : IsSegmentOf chains (slice_index hits k) c i = h.1.2 in
    let is : new ≡ held ++ c ∷ [] = h.1.3 in
    record {
      each = rw is (All-push (IsHeldBy chains q) held c before.each (held_by chains q (slice_index hits k) c i h.0 number));
      all = λ j d e less holding of. rw is (elim (cases_order j k) [
        | inl same ↦
            let one : c ≡ d = one_chain chains (slice_index hits k) c i d e number (subst (λ n. IsSegmentOf chains (slice_index hits n) d e) same of) in
            subst (Contains (held ++ c ∷ [])) one (Contains-append_right held (c ∷ []) c (0, omega arith, refl))
        | inr (inl under) ↦ Contains-append_left held (c ∷ []) d (before.all j d e under holding of)
        | inr (inr over) ↦ absurd (omega (arith, less, over))
      ]);
    }
holders_more chains q hits held new k before (inr h) = record {
  each = rw h.1 before.each;
  all = λ j d e less holding of. rw h.1 (elim (cases_order j k) [
    | inl same ↦ absurd (h.0 (subst (λ n. IsHolding chains q (slice_index hits n)) same holding))
    | inr (inl under) ↦ before.all j d e under holding of
    | inr (inr over) ↦ absurd (omega (arith, less, over))
  ]);
}

pub no_holders : (chains : List MapChain) (q : Point) (hits : List ℕ) → AreHolders chains q hits [] 0
no_holders chains q hits = record { each = All-nil (IsHeldBy chains q); all = λ j c i less holding of. absurd (omega (arith, less)) }

-- nothing is sifted out of no hits
pub none_sifted : (chains : List MapChain) (q : Point) (hits : List ℕ) → AreSiftedFlanks chains q hits [] 0
none_sifted chains q hits = record { crossed = []; sifted = record { crossing = λ s x. refl; others = λ s no. refl }; are = refl }
