-- Marks of polygons, and numbers that aren't marked.
use Rattle.std.proofs.Common.{◌≡◌, ◌⊎◌, inl, inr, ◌↔◌, ℕ, ◌+◌, ◌<◌, ◌≤◌, Bool, true, false, List, [], ◌∷◌, ◌++◌, length, get_or, set, take, All, Contains, refl, sym, subst, ◌∙◌, arith}
use Rattle.std.specs.Bool.{IsTrue}
use Rattle.std.specs.List.Sorted.{IsStrictlyIncreasing}
use Rattle.std.proofs.lemmas.List.{take_more, take_all, get_or_default, get_or_past, get_or-set_same, get_or-set_other}
use Rattle.std.proofs.lemmas.Bool.{cases_lt}
use Rattle.std.proofs.lemmas.List.Elements.{All-weaker, All-contains, All-contains_itself, Contains-append_left, Contains-append_right, Contains-append_cases}
use Rattle.tl_tree_index.proofs.Times.{same_or}
use Rattle.tl_check_points.specs.Listing.Hidden.{IsMarked}
use Rattle.tl_check_sides.specs.Listing.Keeping.Listed.{AreListed}

-- one of a list of one is that one
pub only : (p q : ℕ) → Contains (p ∷ []) q → q ≡ p
only p q h = let lt : h.0 < 1 = h.1 in let zero_is : h.0 ≡ 0 = omega (arith, lt) in sym (subst (λ n. get_or (p ∷ []) n q ≡ q) zero_is h.2)

-- both say the same
pub both_so : {A B : Type 0} (out told : Bool) → (IsTrue told ↔ (IsTrue out × B)) → (IsTrue out ↔ A) → IsTrue told ↔ (A × B)
both_so out told so is = (λ t. (is.0 (so.0 t).0, (so.0 t).1), λ h. so.1 (is.1 h.0, h.1))

-- those of the first numbers that aren't marked are kept
pub record AreKeptBefore (marks : List Bool) (numbers : List ℕ) (k : ℕ) (kept : List ℕ) : Type 0 where
  pub each : (n : ℕ) → Contains kept n → Contains numbers n × (¬ IsMarked marks n)
  pub has : (n : ℕ) → Contains (take k numbers) n → ¬ IsMarked marks n → Contains kept n

pub none_kept : (marks : List Bool) (numbers kept : List ℕ) → kept ≡ [] → AreKeptBefore marks numbers 0 kept
none_kept marks numbers kept none = rw none (record {
  each = λ n h. absurd (let lt : h.0 < 0 = h.1 in omega (arith, lt));
  has = λ n h free. absurd (let lt : h.0 < 0 = h.1 in omega (arith, lt));
})

module _ (marks : List Bool) (numbers : List ℕ) (k : ℕ) (lt : k < length numbers) (number : ℕ) (is : get_or numbers k 0 ≡ number) where
  split : (n : ℕ) → Contains (take (k + 1) numbers) n → Contains (take k numbers) n ⊎ (n ≡ number)
  split n h = elim (Contains-append_cases (take k numbers) (get_or numbers k 0 ∷ []) n (subst (λ l. Contains l n) (take_more numbers k 0 lt) h)) [
    | inl before ↦ inl before
    | inr last ↦ inr (only (get_or numbers k 0) n last ∙ is)
  ]

  pub kept_skipped : (kept : List ℕ) → IsMarked marks number → AreKeptBefore marks numbers k kept → AreKeptBefore marks numbers (k + 1) kept
  kept_skipped kept marked a = record {
    each = a.each;
    has = λ n h free. elim (split n h) [ inl before ↦ a.has n before free | inr last ↦ absurd (free (subst (IsMarked marks) (sym last) marked)) ];
  }

  pub kept_more : (kept new : List ℕ) → ¬ IsMarked marks number → new ≡ kept ++ number ∷ [] → AreKeptBefore marks numbers k kept → AreKeptBefore marks numbers (k + 1) new
  kept_more kept new unmarked grown a = rw grown (record {
    each = λ n h. elim (Contains-append_cases kept (number ∷ []) n h) [
      | inl before ↦ a.each n before
      | inr last ↦
          let same : n ≡ number = only number n last in
          (subst (Contains numbers) (is ∙ sym same) (k, lt, get_or_default numbers k _ 0 lt), λ marked. unmarked (subst (IsMarked marks) same marked))
    ];
    has = λ n h free. elim (split n h) [
      | inl before ↦ Contains-append_left kept (number ∷ []) n (a.has n before free)
      | inr last ↦ subst (Contains (kept ++ number ∷ [])) (sym last) (Contains-append_right kept (number ∷ []) number (0, omega arith, refl))
    ];
  })

pub kept_all : (marks : List Bool) (numbers : List ℕ) (k : ℕ) (kept new : List ℕ) → length numbers ≤ k → ((x : ℕ) → Contains new x ↔ Contains kept x)
    → AreKeptBefore marks numbers k kept → (n : ℕ) → Contains new n ↔ (Contains numbers n × (¬ IsMarked marks n))
kept_all marks numbers k kept new past same a n = (
  λ h. a.each n ((same n).0 h),
  λ h. (same n).1 (a.has n (subst (λ l. Contains l n) (sym (take_all k numbers past)) h.0) h.1),
)

-- so what is listed is listed of those that aren't marked
pub listed_unmarked : (marks : List Bool) (numbers kept : List ℕ) (P : ℕ → Type 0) → IsStrictlyIncreasing kept
    → ((n : ℕ) → Contains kept n ↔ (Contains numbers n × (¬ IsMarked marks n))) → AreListed P numbers → AreListed (λ n. P n × (¬ IsMarked marks n)) kept
listed_unmarked marks numbers kept P up same listed = record {
  rising = up;
  each = All-weaker (Contains kept) (λ n. P n × (¬ IsMarked marks n)) (λ n h. let here = (same n).0 h in (All-contains P numbers n listed.each here.0, here.1)) kept
      (All-contains_itself kept);
  complete = λ n h. (same n).1 (listed.complete n h.0, h.1);
}

pub in_unmarked : (marks : List Bool) (numbers kept : List ℕ) (P : ℕ → Type 0) → All P numbers
    → ((n : ℕ) → Contains kept n ↔ (Contains numbers n × (¬ IsMarked marks n))) → All P kept
in_unmarked marks numbers kept P each same =
    All-weaker (Contains kept) P (λ n h. All-contains P numbers n each ((same n).0 h).0) kept (All-contains_itself kept)

-- ---- marks of all of a list

abbrev pub AreMarksBefore : List ℕ → (k : ℕ) → List Bool → Type 0
AreMarksBefore polygons k marks = (p : ℕ) → IsMarked marks p ↔ Contains (take k polygons) p

pub none_marked : (polygons : List ℕ) (marks : List Bool) → marks ≡ [] → AreMarksBefore polygons 0 marks
none_marked polygons marks none p = rw none (
  λ h. absurd (let free : false ≡ true = h in cc),
  λ h. absurd (let lt : h.0 < 0 = h.1 in omega (arith, lt)),
)

pub marks_more : (polygons : List ℕ) (k : ℕ) (old new : List Bool) (polygon : ℕ) → k < length polygons → get_or polygons k 0 ≡ polygon
    → ((q : ℕ) → IsMarked new q ↔ (IsMarked old q ⊎ (q ≡ polygon))) → AreMarksBefore polygons k old → AreMarksBefore polygons (k + 1) new
marks_more polygons k old new polygon lt is marked before p = (
  λ h. subst (λ l. Contains l p) (sym (take_more polygons k 0 lt)) (elim ((marked p).0 h) [
    | inl old_one ↦ Contains-append_left (take k polygons) (get_or polygons k 0 ∷ []) p ((before p).0 old_one)
    | inr here ↦ subst (Contains (take k polygons ++ get_or polygons k 0 ∷ [])) (is ∙ sym here)
        (Contains-append_right (take k polygons) (get_or polygons k 0 ∷ []) (get_or polygons k 0) (0, omega arith, refl))
  ]),
  λ h. (marked p).1 (elim (Contains-append_cases (take k polygons) (get_or polygons k 0 ∷ []) p (subst (λ l. Contains l p) (take_more polygons k 0 lt) h)) [
    | inl earlier ↦ inl ((before p).1 earlier)
    | inr last ↦ inr (only (get_or polygons k 0) p last ∙ is)
  ]),
)

pub marks_all : (polygons : List ℕ) (k : ℕ) (marks : List Bool) → length polygons ≤ k → AreMarksBefore polygons k marks → (p : ℕ) → IsMarked marks p ↔ Contains polygons p
marks_all polygons k marks past before p = subst (λ l. IsMarked marks p ↔ Contains l p) (take_all k polygons past) (before p)

-- a mark more
pub marked_more : (old room : List Bool) (p : ℕ) → p < length room → ((q : ℕ) → get_or room q false ≡ get_or old q false) → (q : ℕ)
    → IsMarked (set room p true) q ↔ (IsMarked old q ⊎ (q ≡ p))
marked_more old room p lt same q =
    same_or q p
    (λ here. ((λ h. inr here), (λ h. rw here (get_or-set_same room p true false lt))))
    (λ other. (
      (λ h. inl (sym (same q) ∙ sym (get_or-set_other room p q true false other) ∙ h)),
      (λ h. get_or-set_other room p q true false other ∙ same q ∙ elim h [ inl old_one ↦ old_one | inr here ↦ absurd (other here) ]),
    ))

-- room that is filled with no mark
pub grown : (old new : List Bool) (n : ℕ) → length new ≡ n → length old ≤ n → ((k : ℕ) → k < length old → get_or new k false ≡ get_or old k false)
    → ((k : ℕ) → length old ≤ k → k < n → get_or new k false ≡ false) → (q : ℕ) → get_or new q false ≡ get_or old q false
grown old new n long more before behind q = elim (cases_lt q (length old)) [
  | inl low ↦ before q low
  | inr high ↦ elim (cases_lt q n) [
    | inl within ↦ behind q high within ∙ sym (get_or_past old q false high)
    | inr past ↦ get_or_past new q false (omega (arith, long, past)) ∙ sym (get_or_past old q false high)
  ]
]
