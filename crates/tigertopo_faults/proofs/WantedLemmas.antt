-- The subjects that faults speak of, in a list.
use Rattle.std.proofs.Common.{◌≡◌, ◌⊎◌, ℕ, zero, suc, ◌+◌, ◌<◌, ◌≤◌, Bool, true, nat_lt, List, [], ◌∷◌, Some, length, get_or, slice_get, sym, ap, subst, ◌∙◌, arith, Contains, inl, inr, refl}
use Rattle.std.specs.Prelude.{is_some, position}
use Rattle.std.specs.List.{position_or_len}
use Rattle.std.proofs.lemmas.Bool.{cases_Bool, lt-ltb, ltb-true, ltb-false}
use Rattle.std.proofs.lemmas.Option.{slice_get-get_or, slice_get_within}
use Rattle.tl_map_county.specs.TheMap.{MapChain}
use Rattle.tl_check_verdict.specs.declared.fault.MapFault.{MapFault}
use Rattle.tigertopo_faults.specs.declared.records.subject.Subject.{Subject}
use Rattle.tigertopo_faults.specs.Records.SpokenOf.{Subjects, subjects_of}
use Rattle.tigertopo_faults.specs.Records.Naming.{same_subject}
use Rattle.tigertopo_faults.specs.Records.Wanting.{HasFirst, HasAll}
use Rattle.tigertopo_faults.proofs.KeptLemmas.{subject_refl}

below : (p : Subject → Bool) (xs : List Subject) (k : ℕ) (d : Subject) → k < length xs → p (get_or xs k d) ≡ true → position_or_len p xs < length xs
below p [] k d within is = absurd (omega arith)
below p (x ∷ xs) zero d within is = rw is (omega arith)
below p (x ∷ xs) (suc k) d within is =
    let rest = below p xs k d (omega arith) is in
    elim (cases_Bool (p x)) [
      | inl holds ↦ rw holds (omega arith)
      | inr fails ↦ rw fails (omega (arith, rest))
    ]

-- a subject in a list has a number
pub numbered : (keys : List Subject) (s : Subject) → Contains keys s → is_some (position (same_subject s) keys) ≡ true
numbered keys s has =
    let yes : same_subject s (get_or keys has.0 s) ≡ true = ap (same_subject s) has.2 ∙ subject_refl s in
    let less = below (same_subject s) keys has.0 s has.1 yes in
    let found : nat_lt (position_or_len (same_subject s) keys) (length keys) ≡ true = lt-ltb (position_or_len (same_subject s) keys) (length keys) less in
    rw found refl

-- one fault's subjects more
pub has_more : (chains : List MapChain) (faults : List MapFault) (old mid new : List Subject) (i : ℕ) (fault : MapFault) (subjects : Subjects) → i < length faults → fault ≡ get_or faults i fault
    → subjects ≡ subjects_of chains fault → ((s : Subject) → Contains old s → Contains mid s) → ((s : Subject) → subjects.0 ≡ Some s → Contains mid s)
    → ((s : Subject) → Contains mid s → Contains new s) → ((s : Subject) → subjects.1 ≡ Some s → Contains new s) → HasFirst chains faults old i → HasFirst chains faults new (i + 1)
has_more chains faults old mid new i fault subjects within at is keeps first stays second before k f below there s spoken =
    elim (earlier_or k i below) [
      | inl earlier ↦ stays s (keeps s (before k f earlier there s spoken))
      | inr here ↦
          let same : f ≡ fault = only f (sym there ∙ ap (slice_get faults) here ∙ slice_get-get_or faults i fault within ∙ ap Some (sym at)) in
          let told = subst (λ (x : MapFault). ((subjects_of chains x).0 ≡ Some s) ⊎ ((subjects_of chains x).1 ≡ Some s)) same spoken in
          elim told [
            | inl one ↦ stays s (first s (ap (λ (p : Subjects). p.0) is ∙ one))
            | inr two ↦ second s (ap (λ (p : Subjects). p.1) is ∙ two)
          ]
    ]
  where
    only : (f : MapFault) → Some f ≡ Some fault → f ≡ fault
    only f same = let all = same in cc

    earlier_or : (a b : ℕ) → a < b + 1 → (a < b) ⊎ (a ≡ b)
    earlier_or a b less = elim (cases_Bool (nat_lt a b)) [
      | inl holds ↦ inl (ltb-true a b holds)
      | inr fails ↦ inr (let past = ltb-false a b fails in omega (arith, past, less))
    ]

pub has_all : (chains : List MapChain) (faults : List MapFault) (keys : List Subject) (i : ℕ) → length faults ≤ i → HasFirst chains faults keys i → HasAll chains faults keys
has_all chains faults keys i past before k fault there s spoken =
    let within = slice_get_within faults k fault there in before k fault (omega (arith, within)) there s spoken
