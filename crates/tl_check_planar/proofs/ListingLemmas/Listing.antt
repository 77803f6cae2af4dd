-- Hits, and rectangles that meet or don't.
use Rattle.std.proofs.Common.{◌≡◌, ◌⊎◌, inl, inr, ℕ, zero, suc, ◌≤◌, List, [], ◌∷◌, ◌++◌, Result, Ok, Err, sym, subst, ap, ◌∙◌, arith}
use Rattle.std.specs.List.{Contains}
use Rattle.std.specs.Prelude.{OnOk}
use Rattle.std.specs.Int.{int_max, int_min}
use Rattle.std.proofs.lemmas.Int.{ints, by_lt_z}
use Rattle.tl_geom.proofs.Rectangles.{meeting_by, by_meeting}
use Rattle.tl_geom.specs.declared.rect.Rect.{Rect}
use Rattle.tl_geom.specs.Rectangle.{AreMeeting}
use Rattle.tl_tree_index.specs.Hits.{times, AreHits, Adds}
use Rattle.tl_tree_index.proofs.Times.{same_or, times-other}

-- a number that stands in the list
pub stands : (x : ℕ) (xs : List ℕ) → 1 ≤ times x xs → Contains xs x
stands x [] h = absurd (let no : 1 ≤ 0 = h in omega (arith, no))
stands x (y ∷ xs) h =
    same_or x y
    (λ e. (zero, omega arith, sym e))
    (λ ne. let s = stands x xs (omega (arith, times-other x y xs ne, h)) in (suc s.0, omega (arith, s.1), s.2))

-- two rectangles meet or don't
pub meeting_or_not : (r q : Rect) → AreMeeting r q ⊎ (¬ AreMeeting r q)
meeting_or_not r q =
    by_lt_z (int_min r.xmax q.xmax) (int_max r.xmin q.xmin)
    (λ apart. inr (λ m. let h = (by_meeting r q m).0 in omega (arith, ints, apart, h)))
    (λ x. by_lt_z (int_min r.ymax q.ymax) (int_max r.ymin q.ymin)
    (λ apart. inr (λ m. let h = (by_meeting r q m).1 in omega (arith, ints, apart, h)))
    (λ y. inl (meeting_by r q x y)))

-- what is added to no hits are the hits
pub hits_of : (n : ℕ) (hit : ℕ → Type 0) (old new : List ℕ) → Adds n hit old new → old ≡ [] → AreHits n hit new
hits_of n hit old new adds none = subst (AreHits n hit) (sym (adds.appended ∙ ap (λ xs. xs ++ adds.found) none)) adds.hits

-- what follows from what holds where no error came
pub on_ok : {U E P Q : Type 0} (r : Result U E) → (P → Q) → OnOk r P → OnOk r Q
on_ok (Ok u) follows p = follows p
on_ok (Err e) follows p = tt
