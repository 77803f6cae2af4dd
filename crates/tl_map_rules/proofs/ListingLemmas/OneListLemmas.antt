use Rattle.std.proofs.Common.{◌≡◌, ◌≢◌, ℕ, zero, suc, ◌<◌, List, [], ◌∷◌, length, get_or, Contains, refl, sym, ap, ◌∙◌, subst, arith}
use Rattle.std.specs.List.{AllPairs}
use Rattle.std.specs.declared.cmp.Ordering.TheVariants.{Less, Equal, Greater}
use Rattle.std.specs.Ordering.{ordering_reverse}
use Rattle.std.proofs.lemmas.Cmp.{tied_itself}
use Rattle.std.proofs.lemmas.List.Elements.{All-contains}
use Rattle.tl_record.specs.declared.record.Record.{Record}
use Rattle.tl_map_rules.specs.declared.fault.RecordFault.{RecordFault}
use Rattle.tl_map_rules.specs.Faults.{IsTrueOf}
use Rattle.tl_map_rules.specs.Listing.AllFaults.{fault_place, IsListedBefore, AreAllFaults}
use Rattle.tl_map_rules.proofs.ListingLemmas.OrderLemmas.{place_total}

not_before_itself : (f : RecordFault) → ¬ IsListedBefore f f
not_before_itself f h = absurd (let e : Less ≡ Equal = sym h ∙ tied_itself place_total (fault_place f) in cc)

never_both : (f g : RecordFault) → IsListedBefore f g → ¬ IsListedBefore g f
never_both f g a b = absurd (let e : Less ≡ Greater = sym a ∙ place_total.antisymm (fault_place f) (fault_place g) ∙ ap ordering_reverse b in cc)

-- lists in order with the same faults are one list
same_faults : (fs gs : List RecordFault) → AllPairs IsListedBefore fs → AllPairs IsListedBefore gs → ((t : RecordFault) → Contains fs t → Contains gs t) → ((t : RecordFault) → Contains gs t → Contains fs t) → fs ≡ gs
same_faults [] [] up_f up_g there back = refl
same_faults [] (g ∷ gs) up_f up_g there back = absurd (let h = back g (0, omega arith, refl) in omega (arith, h.1))
same_faults (f ∷ fs) [] up_f up_g there back = absurd (let h = there f (0, omega arith, refl) in omega (arith, h.1))
same_faults (f ∷ fs) (g ∷ gs) up_f up_g there back =
    let first : f ≡ g = heads f g fs gs up_f up_g (there f (0, omega arith, refl)) (back g (0, omega arith, refl)) in
    let rest = same_faults fs gs (λ i j d before within. up_f (suc i) (suc j) d (omega arith) (omega arith)) (λ i j d before within. up_g (suc i) (suc j) d (omega arith) (omega arith))
    (λ t has. tail f fs g gs t up_f first (there t (suc has.0, omega (arith, has.1), has.2)) has)
    (λ t has. tail g gs f fs t up_g (sym first) (back t (suc has.0, omega (arith, has.1), has.2)) has) in
    λ i. first i ∷ rest i
  where
    heads : (f g : RecordFault) (fs gs : List RecordFault) → AllPairs IsListedBefore (f ∷ fs) → AllPairs IsListedBefore (g ∷ gs) → Contains (g ∷ gs) f → Contains (f ∷ fs) g → f ≡ g
    heads f g fs gs up_f up_g (zero, lt, at) other = sym at
    heads f g fs gs up_f up_g (suc k, lt, at) (zero, low, is) = is
    heads f g fs gs up_f up_g (suc k, lt, at) (suc j, low, is) =
        absurd (never_both f g (subst (IsListedBefore f) is (up_f 0 (suc j) g (omega arith) low)) (subst (IsListedBefore g) at (up_g 0 (suc k) f (omega arith) lt)))

    tail : (z : RecordFault) (zs : List RecordFault) (w : RecordFault) (ws : List RecordFault) (t : RecordFault) → AllPairs IsListedBefore (z ∷ zs) → z ≡ w → Contains (w ∷ ws) t → Contains zs t → Contains ws t
    tail z zs w ws t up same (zero, lt, at) has =
        absurd (not_before_itself t (subst (λ x. IsListedBefore x t) (same ∙ at) (subst (IsListedBefore z) has.2 (up 0 (suc has.0) t (omega arith) (omega (arith, has.1))))))
    tail z zs w ws t up same (suc k, lt, at) has = (k, omega arith, at)

-- all faults of the records are one list
pub one_list : (rs : List Record) (a b : List RecordFault) → AreAllFaults rs a → AreAllFaults rs b → a ≡ b
one_list rs a b are_a are_b =
    same_faults a b are_a.in_order are_b.in_order
    (λ f has. are_b.every f (All-contains (IsTrueOf rs) a f are_a.each has))
    (λ f has. are_a.every f (All-contains (IsTrueOf rs) b f are_b.each has))

-- none stands twice
pub once : (rs : List Record) (faults : List RecordFault) (i j : ℕ) (d : RecordFault) → AreAllFaults rs faults → i < j → j < length faults → get_or faults i d ≢ get_or faults j d
once rs faults i j d are before within same =
    not_before_itself (get_or faults j d) (subst (λ f. IsListedBefore f (get_or faults j d)) same (are.in_order i j d before within))
