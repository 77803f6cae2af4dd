-- The meets of all conflicts of segments are all meets.
use Rattle.std.proofs.Common.{◌≡◌, inl, inr, ℕ, ◌+◌, ◌<◌, List, [], ◌∷◌, ◌++◌, length, get_or, refl, sym, ap, ◌∙◌, length-append, arith}
use Rattle.std.proofs.lemmas.Bool.{cases_lt}
use Rattle.std.proofs.lemmas.List.{get_or_default, get_or_append_left}
use Rattle.tl_geom.specs.declared.rational.Rational.{Rational}
use Rattle.tl_map_county.specs.TheMap.{MapChain}
use Rattle.tl_map_county.specs.Segments.{segments_before}
use Rattle.tl_check_planar.specs.declared.meet.Meet.{Meet}
use Rattle.tl_check_planar.specs.Searching.{MayTell}
use Rattle.tl_check_planar.proofs.Numbering.{below_total}
use Rattle.tl_tree_index.specs.declared.items.Conflict.{Conflict}
use Rattle.tl_check_planar.specs.Listing.Conflicts.{AreAllConflicts}
use Rattle.tl_check_planar.specs.Listing.Meets.{AreAllMeets}
use Rattle.tl_check_planar.specs.Listing.Keeping.Telling.{IsMeetOf, AreMeetsOf}

pub none_told : (chains : List MapChain) (found : List (Conflict Rational)) (meets : List Meet) → meets ≡ [] → AreMeetsOf chains 0 found meets
none_told chains found meets none = record { long = ap length none; each = λ k f m lt. absurd (omega (arith, lt)) }

pub one_told : (chains : List MapChain) (n : ℕ) (found : List (Conflict Rational)) (old new : List Meet) (f : Conflict Rational) (m : Meet) → n < length found → f ≡ get_or found n f → IsMeetOf chains f m → new ≡ old ++ m ∷ [] → AreMeetsOf chains n found old → AreMeetsOf chains (n + 1) found new
one_told chains n found old new f m within is of grown a = record {
  long = let l = a.long in omega (arith, ap length grown, length-append old (m ∷ []), l);
  each = λ k g d lt. rw grown (elim (cases_lt k n) [
    | inl before ↦ rw (get_or_append_left old (m ∷ []) d k (let l = a.long in omega (arith, before, l))) (a.each k g d before)
    | inr last ↦
        let here : k ≡ n = omega (arith, last, lt) in
        let end : k ≡ length old = let l = a.long in omega (arith, here, l) in
        let told : get_or (old ++ m ∷ []) k d ≡ m = ap (λ p. get_or (old ++ m ∷ []) p d) end ∙ last_of old m d in
        let conflict : get_or found k g ≡ f = ap (λ p. get_or found p g) here ∙ get_or_default found n g f within ∙ sym is in
        rw (told, conflict) of
  ]);
}
  where
    last_of : (ms : List Meet) (x d : Meet) → get_or (ms ++ x ∷ []) (length ms) d ≡ x
    last_of [] x d = refl
    last_of (y ∷ ms) x d = last_of ms x d

module _ (chains : List MapChain) (found : List (Conflict Rational)) (meets : List Meet)
    (all : AreAllConflicts (segments_before chains (length chains)) (MayTell chains) found)
    (are : AreMeetsOf chains (length found) found meets) where
  -- a conflict, as a default that is never read
  of_meet : Meet → Conflict Rational
  of_meet m = record { i = m.s; j = m.t; c = m.at }

  at_both : (k : ℕ) (f : Conflict Rational) (m : Meet) → k < length meets → IsMeetOf chains (get_or found k f) (get_or meets k m)
  at_both k f m lt = are.each k f m (let l = are.long in omega (arith, lt, l))

  pub all_meets_of : AreAllMeets chains meets
  all_meets_of = record {
    true_ones = λ k d lt. (at_both k (of_meet d) d lt).is_true;
    complete = λ s t r lt meet.
        let a = all.complete s t lt (below_total chains t meet.shared.d meet.shared.j meet.shared.second) (λ free. meet.refused (free r meet.shared)) in
        let within : a.0 < length meets = let w = a.2 in let l = are.long in omega (arith, w, l) in
        let f : Conflict Rational = a.1 in
        let d : Meet = record { tlid = 0; s = 0; other = 0; t = 0; at = r } in
        let m : Meet = get_or meets a.0 d in
        let b = at_both a.0 f d within in
        (a.0, m, within, get_or_default meets a.0 m d within, (b.first ∙ ap (λ (z : Conflict Rational). z.i) a.3 ∙ a.4.0, b.second ∙ ap (λ (z : Conflict Rational). z.j) a.3 ∙ a.4.1));
    rising = λ i j d lt within.
        let one = at_both i (of_meet d) d (omega (arith, lt, within)) in
        let other = at_both j (of_meet d) d within in
        let l = are.long in
        rw (one.first, one.second, other.first, other.second) (all.rising i j (of_meet d) lt (omega (arith, within, l)));
  }
