-- What passes of a list of which a part does.
use Rattle.std.proofs.Common.{◌≡◌, ℕ, ◌+◌, ◌-◌, ◌<◌, ◌≤◌, Bool, true, false, List, [], ◌∷◌, ◌++◌, length, take, drop, get_or, filter, All, refl, sym, ap, ◌∙◌, arith}
use Rattle.std.proofs.lemmas.List.{append-nil, take-append-drop, get_or-take, get_or-drop, length-take-le, length-drop}
use Rattle.std.proofs.lemmas.List.Elements.{All-head, All-tail, filter-append}

filter_none : {X : Type 0} (p : X → Bool) (xs : List X) → All (λ x. p x ≡ false) xs → filter p xs ≡ []
filter_none p [] h = refl
filter_none p (x ∷ xs) h =
    rw (All-head (λ x. p x ≡ false) x xs h) (filter_none p xs (All-tail (λ x. p x ≡ false) x xs h))

filter_all : {X : Type 0} (p : X → Bool) (xs : List X) → All (λ x. p x ≡ true) xs → filter p xs ≡ xs
filter_all p [] h = refl
filter_all p (x ∷ xs) h =
    rw (All-head (λ x. p x ≡ true) x xs h) (ap (λ ys. x ∷ ys) (filter_all p xs (All-tail (λ x. p x ≡ true) x xs h)))

-- the part from s to e passes, and nothing else does
pub filter_part : {X : Type 0} (p : X → Bool) (xs : List X) (s e : ℕ) → s ≤ e → e ≤ length xs → ((k : ℕ) (d : X) → k < s → p (get_or xs k d) ≡ false) → ((k : ℕ) (d : X) → s ≤ k → k < e → p (get_or xs k d) ≡ true) → ((k : ℕ) (d : X) → e ≤ k → k < length xs → p (get_or xs k d) ≡ false) → filter p xs ≡ take (e - s) (drop s xs)
filter_part p xs s e le within before between after =
    let part : List _ = take (e - s) (drop s xs) in
    let rest : List _ = drop (e - s) (drop s xs) in
    let long : length (drop s xs) ≡ length xs - s = length-drop s xs in
    let none = filter_none p (take s xs) (λ k d h. let lt : k < s = omega (arith, length-take-le s xs (omega arith)) in rw (get_or-take s xs k d lt) (before k d lt)) in
    let all = filter_all p part (λ k d h. let lt : k < e - s = omega (arith, length-take-le (e - s) (drop s xs) (omega arith)) in rw (get_or-take (e - s) (drop s xs) k d lt, get_or-drop s xs k d) (between (s + k) d (omega arith) (omega arith))) in
    let past = filter_none p rest (λ k d h. let lt : k < length xs - e = omega (arith, length-drop (e - s) (drop s xs)) in let at : s + (e - s + k) ≡ e + k = omega arith in rw (get_or-drop (e - s) (drop s xs) k d, get_or-drop s xs (e - s + k) d, at) (after (e + k) d (omega arith) (omega arith))) in
    ap (filter p) (sym (take-append-drop s xs)) ∙ filter-append p (take s xs) (drop s xs)
    ∙ ap (λ ys. ys ++ filter p (drop s xs)) none
    ∙ ap (filter p) (sym (take-append-drop (e - s) (drop s xs))) ∙ filter-append p part rest
    ∙ ap (λ ys. filter p part ++ ys) past ∙ append-nil (filter p part) ∙ all
