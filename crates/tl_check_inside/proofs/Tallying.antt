-- The flanks of one crossed segment more.
use Rattle.std.proofs.Common.{◌≡◌, ℕ, zero, suc, ◌+◌, ◌<◌, ◌≤◌, Bool, true, false, cond, inl, inr, List, [], ◌∷◌, length, get_or, take, drop, ap, ◌∙◌, refl, arith}
use Rattle.std.proofs.lemmas.Bool.{cases_lt}
use Rattle.std.specs.Prelude.{slice_index, count_by}
use Rattle.std.proofs.lemmas.List.Sums.{sum_by-cons, count_by-le-length}
use Rattle.std.proofs.lemmas.List.{length-take, take_all, drop_all, drop_more}
use Rattle.tl_check_inside.specs.declared.flanks.Flanks.{Flanks}
use Rattle.tl_check_inside.specs.Inside.{is_polygon}
use Rattle.tl_check_inside.specs.Keeping.Tallies.{near_count, far_count, AreTallies, AreNone, AreEven, IsEven}

count_cons : {X : Type 0} (P : X → Bool) (x : X) (xs : List X) → count_by P (x ∷ xs) ≡ cond (P x) 1 0 + count_by P xs
count_cons P x xs = sum_by-cons (λ y. cond (P y) 1 0) x xs

pub more : (P : Flanks → Bool) (xs : List Flanks) (k : ℕ) (d : Flanks) → k < length xs → count_by P (take (k + 1) xs) ≡ count_by P (take k xs) + cond (P (get_or xs k d)) 1 0
more P [] k d lt = absurd (let no : k < 0 = lt in omega (arith, no))
more P (x ∷ xs) zero d lt = let one = count_cons P x [] in let none : count_by P [] ≡ 0 = refl in omega (arith, one, none)
more P (x ∷ xs) (suc k) d lt = ap (λ n. count_by P (take n (x ∷ xs))) after ∙ step (more P xs k d (omega (arith, lt)))
  where
    after : suc k + 1 ≡ suc (k + 1)
    after = omega arith

    step : count_by P (take (k + 1) xs) ≡ count_by P (take k xs) + cond (P (get_or xs k d)) 1 0 → count_by P (x ∷ take (k + 1) xs) ≡ count_by P (x ∷ take k xs) + cond (P (get_or xs k d)) 1 0
    step rest =
        let long = count_cons P x (take (k + 1) xs) in
        let short = count_cons P x (take k xs) in
        omega (arith, rest, long, short)

pub bounded : (P : Flanks → Bool) (xs : List Flanks) (k : ℕ) → k ≤ length xs → count_by P (take k xs) ≤ k
bounded P xs k le =
    let h = count_by-le-length P (take k xs) in
    let t = length-take k xs in
    omega (arith, h, t, le)

module _ (crossed : List Flanks) (near far new_near new_far : List ℕ) (k : ℕ) (within : k < length crossed) (before : AreTallies (take k crossed) near far) where
  pub room : (p : ℕ) → p < length near → slice_index near p ≤ k
  room p lt = let b = bounded (λ f. is_polygon p f.near) crossed k (omega (arith, within)) in let is = before.nears p lt in omega (arith, b, is)

  pub room_far : (p : ℕ) → p < length far → slice_index far p ≤ k
  room_far p lt = let b = bounded (λ f. is_polygon p f.far) crossed k (omega (arith, within)) in let is = before.fars p lt in omega (arith, b, is)

  pub counted_one : (d : Flanks) (near_long : length new_near ≡ length near) (far_long : length new_far ≡ length far) → ((p : ℕ) → p < length near → slice_index new_near p ≡ slice_index near p + cond (is_polygon p (get_or crossed k d).near) 1 0) → ((p : ℕ) → p < length far → slice_index new_far p ≡ slice_index far p + cond (is_polygon p (get_or crossed k d).far) 1 0) → AreTallies (take (k + 1) crossed) new_near new_far
  counted_one d near_long far_long add_near add_far = record {
    nears = λ p lt.
        let within_near : p < length near = omega (arith, lt, near_long) in
        let add = add_near p within_near in
        let is = before.nears p within_near in
        let step = more (λ f. is_polygon p f.near) crossed k d within in
        omega (arith, add, is, step);
    fars = λ p lt.
        let within_far : p < length far = omega (arith, lt, far_long) in
        let add = add_far p within_far in
        let is = before.fars p within_far in
        let step = more (λ f. is_polygon p f.far) crossed k d within in
        omega (arith, add, is, step);
  }

less : (P : Flanks → Bool) (xs : List Flanks) (k : ℕ) (d : Flanks) → k < length xs → count_by P (drop k xs) ≡ cond (P (get_or xs k d)) 1 0 + count_by P (drop (k + 1) xs)
less P xs k d lt = ap (λ ys. count_by P ys) (drop_more xs k d lt) ∙ count_cons P (get_or xs k d) (drop (k + 1) xs)

-- one crossed segment less
module _ (crossed : List Flanks) (near far : List ℕ) (k : ℕ) (within : k < length crossed) (before : AreTallies (drop k crossed) near far) where
  pub some_near : (d : Flanks) (p : ℕ) → p < length near → cond (is_polygon p (get_or crossed k d).near) 1 0 ≤ slice_index near p
  some_near d p lt = let is = before.nears p lt in let step = less (λ f. is_polygon p f.near) crossed k d within in omega (arith, is, step)

  pub some_far : (d : Flanks) (p : ℕ) → p < length far → cond (is_polygon p (get_or crossed k d).far) 1 0 ≤ slice_index far p
  some_far d p lt = let is = before.fars p lt in let step = less (λ f. is_polygon p f.far) crossed k d within in omega (arith, is, step)

  pub taken_one : (d : Flanks) (new_near new_far : List ℕ) (near_long : length new_near ≡ length near) (far_long : length new_far ≡ length far) → ((p : ℕ) → p < length near → slice_index new_near p + cond (is_polygon p (get_or crossed k d).near) 1 0 ≡ slice_index near p) → ((p : ℕ) → p < length far → slice_index new_far p + cond (is_polygon p (get_or crossed k d).far) 1 0 ≡ slice_index far p) → AreTallies (drop (k + 1) crossed) new_near new_far
  taken_one d new_near new_far near_long far_long one_near one_far = record {
    nears = λ p lt.
        let within_near : p < length near = omega (arith, lt, near_long) in
        let one = one_near p within_near in
        let is = before.nears p within_near in
        let step = less (λ f. is_polygon p f.near) crossed k d within in
        omega (arith, one, is, step);
    fars = λ p lt.
        let within_far : p < length far = omega (arith, lt, far_long) in
        let one = one_far p within_far in
        let is = before.fars p within_far in
        let step = less (λ f. is_polygon p f.far) crossed k d within in
        omega (arith, one, is, step);
  }

-- behind the last there is none
module _ (crossed : List Flanks) (near far : List ℕ) (k : ℕ) (past : length crossed ≤ k) (t : AreTallies (drop k crossed) near far) where
  pub none_near : AreNone near
  none_near p lt = t.nears p lt ∙ ap (λ ys. near_count ys (is_polygon p)) (drop_all k crossed past)

  pub none_far : AreNone far
  none_far p lt = t.fars p lt ∙ ap (λ ys. far_count ys (is_polygon p)) (drop_all k crossed past)

pub known_or : {A : Type 0} (b : Bool) (m n : ℕ) → m ≡ n + cond b 1 0 → 1 ≤ m → (1 ≤ n → A) → (b ≡ true → A) → A
known_or true m n e h f g = g refl
known_or false m n e h f g = f (omega (arith, e, h))

-- the polygons of no flanks are even
pub none_even : (near far : List ℕ) (p : ℕ) → AreEven [] near far p
none_even near far p = record {
  nears = λ q some. absurd (let none : near_count [] (is_polygon q) ≡ 0 = refl in omega (arith, some, none));
  fars = λ q some. absurd (let none : far_count [] (is_polygon q) ≡ 0 = refl in omega (arith, some, none));
}

-- the polygons of one crossed segment more are even
module _ (crossed : List Flanks) (near far : List ℕ) (p k : ℕ) (within : k < length crossed) (before : AreEven (take k crossed) near far p) where
  pub even_one : (d : Flanks) → ((q : ℕ) → is_polygon q (get_or crossed k d).near ≡ true → IsEven near far p q) → ((q : ℕ) → is_polygon q (get_or crossed k d).far ≡ true → IsEven near far p q) → AreEven (take (k + 1) crossed) near far p
  even_one d one_near one_far = record {
    nears = λ q some.
        known_or {A = IsEven near far p q} (is_polygon q (get_or crossed k d).near) (near_count (take (k + 1) crossed) (is_polygon q)) (near_count (take k crossed) (is_polygon q))
        (more (λ f. is_polygon q f.near) crossed k d within) some (before.nears q) (one_near q);
    fars = λ q some.
        known_or {A = IsEven near far p q} (is_polygon q (get_or crossed k d).far) (far_count (take (k + 1) crossed) (is_polygon q)) (far_count (take k crossed) (is_polygon q))
        (more (λ f. is_polygon q f.far) crossed k d within) some (before.fars q) (one_far q);
  }

-- and so are all, behind the last
pub all_even : (crossed : List Flanks) (near far : List ℕ) (p k : ℕ) → length crossed ≤ k → length far ≡ length near → AreEven (take k crossed) near far p → AreTallies crossed near far → (q : ℕ) → IsEven near far p q
all_even crossed near far p k past alike e t q lt other =
    let whole : take k crossed ≡ crossed = take_all k crossed past in
    let near_is = t.nears q lt in
    let far_is = t.fars q (omega (arith, lt, alike)) in
    elim (cases_lt 0 (near_count crossed (is_polygon q))) [
      | inl some ↦ e.nears q (rw whole (omega (arith, some))) lt other
      | inr none ↦ elim (cases_lt 0 (far_count crossed (is_polygon q))) [
        | inl some ↦ e.fars q (rw whole (omega (arith, some))) lt other
        | inr neither ↦ omega (arith, none, neither, near_is, far_is)
      ]
    ]
