-- Lists of hits.
use Rattle.std.proofs.Common.{◌≡◌, ℕ, ◌+◌, ◌<◌, List, [], ◌∷◌, ◌++◌, take, length, get_or, refl, sym, ap, ◌∙◌, subst, append_assoc, append-nil, Result, Ok, Err, OnOk, OnErr, is_ok, true, false, arith}
use Rattle.std.proofs.lemmas.Bool.{false≢true}
use Rattle.std.proofs.lemmas.Grind.{common_steps}
use Rattle.std.proofs.lemmas.List.{take_more}
use Rattle.tl_geom.specs.declared.rect.Rect.{Rect}
use Rattle.tl_geom.specs.Rectangle.{AreMeeting}
use Rattle.tl_tree_index.specs.Fits.{AreBelow, CoversAll}
use Rattle.tl_tree_index.specs.Hits.{times, AreHits, Adds}
use Rattle.tl_tree.specs.Keeping.Walking.{Collects, Grows}
use Rattle.tl_tree_index.proofs.Times.{same_or, times-above, times-append, times-one, times-other, times-unhit}

pub grows-nothing : (xs : List ℕ) → Grows xs xs
grows-nothing xs = record { added = []; appended = sym (append-nil xs) }

pub grows-both : (a b c : List ℕ) → Grows a b → Grows b c → Grows a c
grows-both a b c f g =
    record { added = f.added ++ g.added; appended = g.appended ∙ ap (λ xs. xs ++ g.added) f.appended ∙ append_assoc a f.added g.added }

module _ (hit : ℕ → Type 0) where
  hits-more : (k : ℕ) (found : List ℕ) → hit k → AreHits k hit found → AreHits (k + 1) hit (found ++ k ∷ [])
  hits-more k found e h =
      record {
        once = λ i l p. same_or i k
            (λ q. rw q (omega (arith, times-append k found (k ∷ []), h.known k (omega arith), times-one k)))
            (λ ne. omega (arith, times-append i found (k ∷ []), h.once i (omega (arith, l, ne)) p, times-unhit i k ne));
        others = λ i unhit. omega (arith, times-append i found (k ∷ []), h.others i unhit, times-unhit i k (λ q. let P : ℕ → Type 0 = hit in unhit (subst P (sym q) e)));
        known = λ i l. omega (arith, times-append i found (k ∷ []), h.known i (omega (arith, l)), times-unhit i k (λ p. omega (arith, p, l)));
      }

  hits-same : (k : ℕ) (found : List ℕ) → (hit k → ⊥) → AreHits k hit found → AreHits (k + 1) hit found
  hits-same k found unhit h =
      record {
        once = λ i l p. same_or i k
            (λ q. let P : ℕ → Type 0 = hit in absurd (unhit (subst P q p)))
            (λ ne. h.once i (omega (arith, l, ne)) p);
        others = h.others;
        known = λ i l. h.known i (omega (arith, l));
      }

  -- item k is appended where it is hit
  pub adds-hit : (k : ℕ) (old now new : List ℕ) → hit k → new ≡ now ++ k ∷ [] → Adds k hit old now → Adds (k + 1) hit old new
  adds-hit k old now new e p a =
      record {
        found = a.found ++ k ∷ [];
        appended = p ∙ ap (λ xs. xs ++ k ∷ []) a.appended ∙ append_assoc old a.found (k ∷ []);
        hits = hits-more k a.found e a.hits;
      }

  pub adds-miss : (k : ℕ) (old now new : List ℕ) → (hit k → ⊥) → new ≡ now → Adds k hit old now → Adds (k + 1) hit old new
  adds-miss k old now new unhit p a =
      record { found = a.found; appended = p ∙ a.appended; hits = hits-same k a.found unhit a.hits }

  -- ---- what is collected of some items

  pub collects-nothing : (xs old new : List ℕ) → new ≡ old → ((i : ℕ) → hit i → times i xs ≡ 0) → Collects hit xs old new
  collects-nothing xs old new e z =
      record { found = []; appended = e ∙ sym (append-nil old); hits = λ i p. sym (z i p); others = λ i unhit. refl; among = λ i. omega arith }

  pub collects-both : (xs ys a b c : List ℕ) → Collects hit xs a b → Collects hit ys b c → Collects hit (xs ++ ys) a c
  collects-both xs ys a b c f g =
      record {
        found = f.found ++ g.found;
        appended = g.appended ∙ ap (λ zs. zs ++ g.found) f.appended ∙ append_assoc a f.found g.found;
        hits = λ i p. omega (arith, times-append i f.found g.found, times-append i xs ys, f.hits i p, g.hits i p);
        others = λ i unhit. omega (arith, times-append i f.found g.found, f.others i unhit, g.others i unhit);
        among = λ i. omega (arith, times-append i f.found g.found, times-append i xs ys, f.among i, g.among i);
      }

  collects-one : (x : ℕ) (old new : List ℕ) → hit x → new ≡ old ++ x ∷ [] → Collects hit (x ∷ []) old new
  collects-one x old new h e =
      record {
        found = x ∷ [];
        appended = e;
        hits = λ i p. refl;
        others = λ i unhit. times-unhit i x (λ q. let P : ℕ → Type 0 = hit in unhit (subst P (sym q) h));
        among = λ i. omega arith;
      }

  not-one : (x : ℕ) → (hit x → ⊥) → (i : ℕ) → hit i → times i (x ∷ []) ≡ 0
  not-one x unhit i h = times-unhit i x (λ q. let P : ℕ → Type 0 = hit in unhit (subst P q h))

  pub collects-hit : (xs : List ℕ) (k : ℕ) (old now new : List ℕ) → k < length xs → hit (get_or xs k 0) → new ≡ now ++ get_or xs k 0 ∷ [] → Collects hit (take k xs) old now → Collects hit (take (k + 1) xs) old new
  collects-hit xs k old now new l h e c =
      let P : List ℕ → Type 0 = λ zs. Collects hit zs old new in
      subst P (sym (take_more xs k 0 l)) (collects-both (take k xs) (get_or xs k 0 ∷ []) old now new c (collects-one (get_or xs k 0) now new h e))

  pub collects-miss : (xs : List ℕ) (k : ℕ) (old now new : List ℕ) → k < length xs → (hit (get_or xs k 0) → ⊥) → new ≡ now → Collects hit (take k xs) old now → Collects hit (take (k + 1) xs) old new
  collects-miss xs k old now new l unhit e c =
      let P : List ℕ → Type 0 = λ zs. Collects hit zs old new in
      subst P (sym (take_more xs k 0 l)) (collects-both (take k xs) (get_or xs k 0 ∷ []) old now new c (collects-nothing (get_or xs k 0 ∷ []) now new e (not-one (get_or xs k 0) unhit)))

  -- what is collected of a list in which each item stands once
  pub adds-collected : (n : ℕ) (xs old new : List ℕ) → AreBelow n xs → ((i : ℕ) → i < n → times i xs ≡ 1) → Collects hit xs old new → Adds n hit old new
  adds-collected n xs old new known once c =
      record {
        found = c.found;
        appended = c.appended;
        hits = record {
          once = λ i l h. c.hits i h ∙ once i l;
          others = c.others;
          known = λ i l. omega (arith, c.among i, times-above n i xs known l);
        };
      }

-- the law of the probe: an item that is hit has a rectangle that meets the region
module _ (n : ℕ) (b : ℕ → Rect) (hit : ℕ → Type 0) (region : Rect) where
  abbrev pub KeepsHitLaw : Type 0
  KeepsHitLaw = (i : ℕ) → i < n → hit i → AreMeeting region (b i)

  pub miss : KeepsHitLaw → (i : ℕ) → i < n → (AreMeeting (b i) region → ⊥) → hit i → ⊥
  miss law i l ne h = let m = law i l h in ne (record { point = m.point; in_first = m.in_second; in_second = m.in_first })

  -- below a rectangle that doesn't meet the region nothing is hit
  pub none-hit : KeepsHitLaw → (r : Rect) (xs : List ℕ) → (AreMeeting r region → ⊥) → AreBelow n xs → CoversAll b r xs → (i : ℕ) → hit i → times i xs ≡ 0
  none-hit law r [] ne l c i h = refl
  none-hit law r (x ∷ xs) ne l c i h =
      same_or i x
      (λ e. let P : ℕ → Type 0 = hit in absurd (miss law x l.0 (λ m. ne (record { point = m.point; in_first = c.0 m.point m.in_first; in_second = m.in_second })) (subst P e h)))
      (λ unhit. times-other i x xs unhit ∙ none-hit law r xs ne l.1 c.1 i h)

-- what holds of an answer that is Ok
pub on-ok : {T E : Type 0} {P Q : Type 0} (r : Result T E) → (P → Q) → OnOk r P → OnOk r Q
on-ok (Ok x) f h = f h
on-ok (Err e) f h = h

-- what is said of an answer of the other kind
pub no-ok : {A E : Type 0} (P : Type 0) (r : Result A E) → is_ok r ≡ false → OnOk r P
no-ok P (Ok a) e = absurd (false≢true (sym e))
no-ok P (Err e) h = tt

pub no-err : {A E : Type 0} (P : Type 0) (r : Result A E) → is_ok r ≡ true → OnErr r P
no-err P (Ok a) h = tt
no-err P (Err e) h = absurd (false≢true h)

pub when-ok : {A E P : Type 0} (r : Result A E) → is_ok r ≡ true → OnOk r P → P
when-ok (Ok a) e h = h
when-ok (Err e) f h = absurd (false≢true f)

pub on-err : {A E P : Type 0} (r : Result A E) → P → OnErr r P
on-err (Ok a) p = tt
on-err (Err e) p = p

-- what was appended is cut off
pub cut-back : (old now new added : List ℕ) (n : ℕ) → new ≡ take n now → now ≡ old ++ added → n ≡ length old → new ≡ old
cut-back old now new added n e f h = grind (arith, common_steps)
