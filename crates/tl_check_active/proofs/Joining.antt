-- Events that stand in lists, and the same one after the other.
use Rattle.std.proofs.Common.{◌≡◌, ℕ, ◌+◌, ◌-◌, ◌<◌, ◌≤◌, ℤ, pos, ◌+ℤ◌, Bool, List, [], ◌∷◌, ◌++◌, length, take, drop, get_or, count_by, sum_by, All, length-append, refl, sym, ap, ◌∙◌, arith}
use Rattle.std.specs.List.Sorted.{IsPermutation}
use Rattle.std.proofs.lemmas.List.{append-nil, append_assoc, get_or-drop, get_or-take, get_or_append_left, get_or-append-add, drop_at, take_at, take_more, length-drop, take-append-drop}
use Rattle.std.proofs.lemmas.List.Elements.{All-nil, All-cons, All-append, All-head, All-tail, All-get_or}
use Rattle.std.proofs.lemmas.List.Sorted.{All-permutation, sum_by-IsPermutation}
use Rattle.std.proofs.lemmas.List.Sums.{sum_by-cons, sum_by-append}
use Rattle.std.proofs.Math.Seq.{take-add}
use Rattle.tl_geom.specs.declared.point.Point.{Point}
use Rattle.tl_map_county.specs.TheMap.{MapChain}
use Rattle.tl_check_active.specs.declared.events.Event.{Event}
use Rattle.tl_check_planar.specs.ByHeight.Heights.{height, widest}
use Rattle.tl_check_active.proofs.Bits.{bit}
use Rattle.tl_check_active.specs.Events.{AreAt, IsEvent, begins_at, ends_at, AreEventsOf, joined, between, before}

pub joined-append : (xs ys : List (List Event)) → joined (xs ++ ys) ≡ joined xs ++ joined ys
joined-append [] ys = refl
joined-append (x ∷ xs) ys = ap (λ l. x ++ l) (joined-append xs ys) ∙ sym (append_assoc x (joined xs) (joined ys))

pub joined-push : (xs : List (List Event)) (g : List Event) → joined (xs ++ g ∷ []) ≡ joined xs ++ g
joined-push xs g = joined-append xs (g ∷ []) ∙ ap (λ l. joined xs ++ l) (append-nil g)

pub none_joined : (gs : List (List Event)) → length gs ≡ 0 → joined gs ≡ []
none_joined [] none = refl
none_joined (g ∷ gs) none = absurd (omega (arith, none))

-- ---- in another order

count_joined : (f : Event → Bool) (gs : List (List Event)) → count_by f (joined gs) ≡ sum_by (λ g. count_by f g) gs
count_joined f [] = refl
count_joined f (g ∷ gs) =
    let rest = count_joined f gs in
    let one = sum_by-append (λ (e : Event). bit (f e)) g (joined gs) in
    let sum = sum_by-cons (λ g. count_by f g) g gs in
    omega (arith, rest, one, sum)

pub all_joined : (P : Event → Type 0) (gs : List (List Event)) → All (All P) gs → All P (joined gs)
all_joined P [] all = All-nil P
all_joined P (g ∷ gs) all = All-append P g (joined gs) (All-head (All P) g gs all) (all_joined P gs (All-tail (All P) g gs all))

all_left : (P : Event → Type 0) (xs ys : List Event) → All P (xs ++ ys) → All P xs
all_left P [] ys all = All-nil P
all_left P (x ∷ xs) ys all = All-cons P x xs (All-head P x (xs ++ ys) all) (all_left P xs ys (All-tail P x (xs ++ ys) all))

all_right : (P : Event → Type 0) (xs ys : List Event) → All P (xs ++ ys) → All P ys
all_right P [] ys all = all
all_right P (x ∷ xs) ys all = all_right P xs ys (All-tail P x (xs ++ ys) all)

pub all_apart : (P : Event → Type 0) (gs : List (List Event)) → All P (joined gs) → All (All P) gs
all_apart P [] all = All-nil (All P)
all_apart P (g ∷ gs) all = All-cons (All P) g gs (all_left P g (joined gs) all) (all_apart P gs (all_right P g (joined gs) all))

pub joined_moved : (chains : List MapChain) (n : ℕ) (old new : List (List Event)) → IsPermutation old new → AreEventsOf chains n (joined old) → AreEventsOf chains n (joined new)
joined_moved chains n old new moved are = record {
  each = all_joined (IsEvent chains) new (All-permutation (All (IsEvent chains)) old new moved (all_apart (IsEvent chains) old are.each));
  begun = λ s lt. same (begins_at s) ∙ are.begun s lt;
  ended = λ s lt. same (ends_at s) ∙ are.ended s lt;
  no_more = λ s le. (same (begins_at s) ∙ (are.no_more s le).0, same (ends_at s) ∙ (are.no_more s le).1);
}
  where
    same : (f : Event → Bool) → count_by f (joined new) ≡ count_by f (joined old)
    same f = count_joined f new ∙ sum_by-IsPermutation (λ g. count_by f g) old new moved ∙ sym (count_joined f old)

-- ---- from a place on

pub further : (gs : List (List Event)) (from k : ℕ) (d : List Event) → from ≤ k → k < length gs → between from (k + 1) gs ≡ between from k gs ++ get_or gs k d
further gs from k d le lt =
    let rest = length-drop from gs in
    ap (λ n. joined (take n (drop from gs))) (let next : k + 1 - from ≡ (k - from) + 1 = omega (arith, le) in next)
    ∙ ap joined (take_more (drop from gs) (k - from) d (omega (arith, rest, lt, le)))
    ∙ joined-push (take (k - from) (drop from gs)) (get_or (drop from gs) (k - from) d)
    ∙ ap (λ g. between from k gs ++ g) (get_or-drop from gs (k - from) d ∙ ap (λ n. get_or gs n d) (let there : from + (k - from) ≡ k = omega (arith, le) in there))

pub alone : (gs : List (List Event)) (from : ℕ) (d : List Event) → from < length gs → between from (from + 1) gs ≡ get_or gs from d
alone gs from d lt = further gs from from d (omega arith) lt ∙ ap (λ n. joined (take n (drop from gs)) ++ get_or gs from d) (let none : from - from ≡ 0 = omega arith in none)

pub before_further : (gs : List (List Event)) (k : ℕ) (d : List Event) → k < length gs → joined (take (k + 1) gs) ≡ joined (take k gs) ++ get_or gs k d
before_further gs k d lt = ap joined (take_more gs k d lt) ∙ joined-push (take k gs) (get_or gs k d)

pub whole : (from : ℕ) (gs : List (List Event)) → joined gs ≡ joined (take from gs) ++ joined (drop from gs)
whole from gs = ap joined (sym (take-append-drop from gs)) ∙ joined-append (take from gs) (drop from gs)

pub rest_behind : (from : ℕ) (gs : List (List Event)) → drop (before from gs) (joined gs) ≡ joined (drop from gs)
rest_behind from gs = ap (drop (before from gs)) (whole from gs) ∙ drop_at (joined (take from gs)) (joined (drop from gs)) (before from gs) refl

longer : (from to : ℕ) (gs : List (List Event)) → from ≤ to → before to gs ≡ before from gs + length (between from to gs)
longer from to gs le =
    let is : from + (to - from) ≡ to = omega (arith, le) in
    ap (λ n. length (joined (take n gs))) (sym is)
    ∙ ap (λ l. length (joined l)) (take-add from (to - from) gs)
    ∙ ap length (joined-append (take from gs) (take (to - from) (drop from gs)))
    ∙ length-append (joined (take from gs)) (between from to gs)

pub before_past : (from to : ℕ) (gs : List (List Event)) → from ≤ to → 0 < length (between from to gs) → before from gs < before to gs
before_past from to gs le some = omega (arith, longer from to gs le, some)

pub before_within : (from : ℕ) (gs : List (List Event)) → before from gs ≤ length (joined gs)
before_within from gs = omega (arith, ap length (whole from gs), length-append (joined (take from gs)) (joined (drop from gs)))

pub part_is : (from to : ℕ) (gs : List (List Event)) → from ≤ to → take (before to gs - before from gs) (drop (before from gs) (joined gs)) ≡ between from to gs
part_is from to gs le =
    let long = longer from to gs le in
    ap (take (before to gs - before from gs)) (rest_behind from gs ∙ whole (to - from) (drop from gs))
    ∙ take_at (between from to gs) (joined (drop (to - from) (drop from gs))) (before to gs - before from gs) (omega (arith, long))

-- what stands there is at one height
pub level_there : (from to : ℕ) (gs : List (List Event)) (h : ℤ) → from ≤ to → All (λ (e : Event). e.height ≡ h) (between from to gs) → (k : ℕ) (d : Event) → before from gs ≤ k → k < before to gs → (get_or (joined gs) k d).height ≡ h
level_there from to gs h le level k d low high =
    let long = longer from to gs le in
    let is : before from gs + (k - before from gs) ≡ k = omega (arith, low) in
    let there : get_or (joined gs) k d ≡ get_or (between from to gs) (k - before from gs) d =
    ap (λ n. get_or (joined gs) n d) (sym is)
    ∙ sym (get_or-drop (before from gs) (joined gs) (k - before from gs) d)
    ∙ sym (get_or-take (before to gs - before from gs) (drop (before from gs) (joined gs)) (k - before from gs) d (omega (arith, low, high)))
    ∙ ap (λ l. get_or l (k - before from gs) d) (part_is from to gs le) in
    ap (λ (e : Event). e.height) there ∙ All-get_or (λ (e : Event). e.height ≡ h) (between from to gs) (k - before from gs) d (omega (arith, low, high, long)) level

-- ---- the events about a place

first_of : (g more : List Event) (d : Event) → 0 < length g → get_or (g ++ more) 0 d ≡ get_or g 0 d
first_of [] more d some = absurd (omega (arith, some))
first_of (e ∷ g) more d some = refl

pub first_there : (from : ℕ) (gs : List (List Event)) (d : Event) → from < length gs → 0 < length (get_or gs from []) →
    get_or (joined gs) (before from gs) d ≡ get_or (get_or gs from []) 0 d
first_there from gs d lt some =
    ap (λ n. get_or (joined gs) n d) (let none : before from gs ≡ before from gs + 0 = omega arith in none)
    ∙ sym (get_or-drop (before from gs) (joined gs) 0 d)
    ∙ ap (λ l. get_or l 0 d) (rest_behind from gs ∙ whole 1 (drop from gs))
    ∙ ap (λ l. get_or (l ++ joined (drop 1 (drop from gs))) 0 d) (ap joined (take_more (drop from gs) 0 [] (omega (arith, length-drop from gs, lt))) ∙ append-nil (get_or (drop from gs) 0 []) ∙ get_or-drop from gs 0 [] ∙ ap (λ n. get_or gs n []) (let none : from + 0 ≡ from = omega arith in none))
    ∙ first_of (get_or gs from []) (joined (drop 1 (drop from gs))) d some

pub first_behind : (from : ℕ) (gs : List (List Event)) (p : Point) (d : Event) → from < length gs → ((e : List Event) → AreAt p (get_or gs from e)) → (get_or (joined gs) (before from gs) d).height ≡ height widest p +ℤ pos 2147483647
first_behind from gs p d lt at =
    let here : AreAt p (get_or gs from []) = at [] in
    let there = first_there from gs d lt here.some in
    ap (λ (e : Event). e.height) there ∙ All-get_or (λ (e : Event). e.height ≡ height widest p +ℤ pos 2147483647) (get_or gs from []) 0 d here.some here.level

pub last_before : (from : ℕ) (gs : List (List Event)) (p : Point) (d : Event) → 0 < from → from ≤ length gs → ((e : List Event) → AreAt p (get_or gs (from - 1) e)) → (get_or (joined gs) (before from gs - 1) d).height ≡ height widest p +ℤ pos 2147483647
last_before from gs p d some within at =
    let here : AreAt p (get_or gs (from - 1) []) = at [] in
    let next : from - 1 + 1 ≡ from = omega (arith, some) in
    let parts : joined (take from gs) ≡ joined (take (from - 1) gs) ++ get_or gs (from - 1) [] = ap (λ n. joined (take n gs)) (sym next) ∙ before_further gs (from - 1) [] (omega (arith, some, within)) in
    let long : before from gs ≡ before (from - 1) gs + length (get_or gs (from - 1) []) = ap length parts ∙ length-append (joined (take (from - 1) gs)) (get_or gs (from - 1) []) in
    let there : get_or (joined gs) (before from gs - 1) d ≡ get_or (get_or gs (from - 1) []) (length (get_or gs (from - 1) []) - 1) d =
    ap (λ l. get_or l (before from gs - 1) d) (whole from gs)
    ∙ get_or_append_left (joined (take from gs)) (joined (drop from gs)) d (before from gs - 1) (omega (arith, long, here.some))
    ∙ ap (λ l. get_or l (before from gs - 1) d) parts
    ∙ ap (λ n. get_or (joined (take (from - 1) gs) ++ get_or gs (from - 1) []) n d) (let at : before from gs - 1 ≡ before (from - 1) gs + (length (get_or gs (from - 1) []) - 1) = omega (arith, long, here.some) in at)
    ∙ get_or-append-add (joined (take (from - 1) gs)) (get_or gs (from - 1) []) (length (get_or gs (from - 1) []) - 1) d in
    ap (λ (e : Event). e.height) there ∙ All-get_or (λ (e : Event). e.height ≡ height widest p +ℤ pos 2147483647) (get_or gs (from - 1) []) (length (get_or gs (from - 1) []) - 1) d (omega (arith, here.some)) here.level

-- before the first place there is nothing
pub none_before : (from : ℕ) (gs : List (List Event)) → from ≡ 0 → before from gs ≡ 0
none_before from gs none = ap (λ n. length (joined (take n gs))) none
