use Rattle.std.proofs.Common.{◌≡◌, ◌≢◌, ℕ, ◌+◌, ◌<◌, ◌≤◌, Bool, true, false, eqb, ◌||◌, inl, inr, List, [], ◌∷◌, ◌++◌, length, map, drop, set, get_or, All, refl, sym, ap, ◌∙◌, arith, get_or-set_other, get_or-set_same, length-set}
use Rattle.std.specs.List.{list_any}
use Rattle.std.proofs.lemmas.Bool.{cases_Bool, eq-eqb, ne_eqb, cases_eq}
use Rattle.std.proofs.lemmas.List.{append_assoc, append-nil, at_drop_more, at_drop_all}
use Rattle.tl_map.specs.declared.landmarks.Link.{Link}
use Rattle.tl_map_rules.specs.MapOf.{firsts, firsts_after}

-- whether a number is in the list
abbrev pub has : ℕ → List ℕ → Bool
has p part = list_any (λ y. eqb y p) part

-- what is appended of the links up to the i-th
pub record Marking (run : List Link) (i : ℕ) (mark : ℕ) (old linked marks : List ℕ) : Type 0 where
  pub part : List ℕ
  pub appended : linked ≡ old ++ part
  pub so_far : firsts_after (λ p. p) part (map (λ (m : Link). m.polygon) (drop i run)) ≡ firsts (λ p. p) (map (λ (m : Link). m.polygon) run)
  pub marked : (p : ℕ) → p < length marks → get_or marks p 0 ≡ mark → has p part ≡ true
  pub seen : (p : ℕ) → p < length marks → has p part ≡ true → get_or marks p 0 ≡ mark
  pub low : (k : ℕ) (d : ℕ) → k < length marks → get_or marks k d ≤ mark

has_push : (part : List ℕ) (p q : ℕ) → has p (part ++ q ∷ []) ≡ (has p part || eqb q p)
has_push [] p q = or_false (eqb q p)
  where
    or_false : (b : Bool) → (b || false) ≡ b
    or_false true = refl
    or_false false = refl
has_push (x ∷ xs) p q = ap (λ b. eqb x p || b) (has_push xs p q) ∙ sym (or_assoc (eqb x p) (has p xs) (eqb q p))
  where
    or_assoc : (a b c : Bool) → ((a || b) || c) ≡ (a || (b || c))
    or_assoc true b c = refl
    or_assoc false b c = refl

-- a polygon that has the mark
pub marking_old : (run : List Link) (i mark : ℕ) (d : Link) (old linked marks : List ℕ) → i < length run → (get_or run i d).polygon < length marks → get_or marks (get_or run i d).polygon 0 ≡ mark → Marking run i mark old linked marks → Marking run (i + 1) mark old linked marks
marking_old run i mark d old linked marks lt inside here before = record {
  part = before.part;
  appended = before.appended;
  so_far = sym (at_drop_more (λ (xs : List Link). firsts_after (λ p. p) before.part (map (λ (m : Link). m.polygon) xs)) run i d lt ∙ rw (before.marked (get_or run i d).polygon inside here) refl) ∙ before.so_far;
  marked = before.marked;
  seen = before.seen;
  low = before.low;
}

-- a polygon that gets the mark
pub marking_new : (run : List Link) (i mark : ℕ) (d : Link) (old linked marks : List ℕ) → i < length run → (get_or run i d).polygon < length marks → get_or marks (get_or run i d).polygon 0 ≢ mark → Marking run i mark old linked marks → Marking run (i + 1) mark old (linked ++ (get_or run i d).polygon ∷ []) (set marks (get_or run i d).polygon mark)
marking_new run i mark d old linked marks lt inside here before = record {
  part = before.part ++ q ∷ [];
  appended = ap (λ ys. ys ++ q ∷ []) before.appended ∙ append_assoc old before.part (q ∷ []);
  so_far = sym (at_drop_more (λ (xs : List Link). firsts_after (λ p. p) before.part (map (λ (m : Link). m.polygon) xs)) run i d lt ∙ rw not_has refl) ∙ before.so_far;
  marked = marked;
  seen = seen;
  low = low;
}
  where
    q : ℕ
    q = (get_or run i d).polygon

    not_has : has (get_or run i d).polygon before.part ≡ false
    not_has = elim (cases_Bool (has (get_or run i d).polygon before.part)) [
      | inl was ↦ absurd (here (before.seen (get_or run i d).polygon inside was))
      | inr none ↦ none
    ]

    marked : (p : ℕ) → p < length (set marks (get_or run i d).polygon mark) → get_or (set marks (get_or run i d).polygon mark) p 0 ≡ mark → has p (before.part ++ (get_or run i d).polygon ∷ []) ≡ true
    marked p low at = has_push before.part p (get_or run i d).polygon ∙ elim (cases_eq p (get_or run i d).polygon) [
      | inl same ↦ rw (eq-eqb (get_or run i d).polygon p (sym same)) (or_true (has p before.part))
      | inr other ↦
          let stays : get_or marks p 0 ≡ mark = sym (get_or-set_other marks (get_or run i d).polygon p mark 0 other) ∙ at in
          rw (before.marked p (omega (arith, length-set marks (get_or run i d).polygon mark)) stays) refl
    ]
      where
        or_true : (b : Bool) → (b || true) ≡ true
        or_true true = refl
        or_true false = refl

    seen : (p : ℕ) → p < length (set marks (get_or run i d).polygon mark) → has p (before.part ++ (get_or run i d).polygon ∷ []) ≡ true → get_or (set marks (get_or run i d).polygon mark) p 0 ≡ mark
    seen p low was = elim (cases_eq p (get_or run i d).polygon) [
      | inl same ↦ rw same (get_or-set_same marks (get_or run i d).polygon mark 0 inside)
      | inr other ↦
          let first : (has p before.part || eqb (get_or run i d).polygon p) ≡ true = sym (has_push before.part p (get_or run i d).polygon) ∙ was in
          get_or-set_other marks (get_or run i d).polygon p mark 0 other
          ∙ before.seen p (omega (arith, length-set marks (get_or run i d).polygon mark)) (left (has p before.part) (eqb (get_or run i d).polygon p) (ne_eqb (get_or run i d).polygon p (λ e. other (sym e))) first)
    ]
      where
        left : (a b : Bool) → b ≡ false → (a || b) ≡ true → a ≡ true
        left true b n e = refl
        left false b n e = absurd (let h : false ≡ true = sym n ∙ e in cc)

    low : (k : ℕ) (e : ℕ) → k < length (set marks (get_or run i d).polygon mark) → get_or (set marks (get_or run i d).polygon mark) k e ≤ mark
    low k e within = elim (cases_eq k (get_or run i d).polygon) [
      | inl same ↦ rw (same, get_or-set_same marks (get_or run i d).polygon mark e inside) (omega arith)
      | inr other ↦ rw (get_or-set_other marks (get_or run i d).polygon k mark e other) (before.low k e (omega (arith, length-set marks (get_or run i d).polygon mark)))
    ]

-- nothing is appended yet
pub marking_none : (run : List Link) (mark : ℕ) (old marks : List ℕ) → All (λ n. n < mark) marks → Marking run 0 mark old old marks
marking_none run mark old marks fresh = record {
  part = [];
  appended = sym (append-nil old);
  so_far = refl;
  marked = λ p lt at. absurd (let h = fresh p 0 lt in omega arith);
  seen = λ p lt was. absurd (let h : false ≡ true = was in cc);
  low = λ k d lt. let h = fresh k d lt in omega arith;
}

-- all is appended
pub marking_all : (run : List Link) (i mark : ℕ) (old linked marks : List ℕ) → length run ≤ i → Marking run i mark old linked marks → linked ≡ old ++ firsts (λ p. p) (map (λ (m : Link). m.polygon) run)
marking_all run i mark old linked marks whole before =
    before.appended ∙ ap (λ ys. old ++ ys) (sym (at_drop_all (λ (xs : List Link). firsts_after (λ p. p) before.part (map (λ (m : Link). m.polygon) xs)) run i whole) ∙ before.so_far)
