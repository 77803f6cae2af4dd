-- Numbers that stand in blocks, and the parts of a list that stands in blocks.
use Rattle.std.proofs.Common.{◌≡◌, ℕ, zero, suc, ◌+◌, ◌-◌, ◌<◌, ◌≤◌, ◌==◌, Bool, true, false, Some, List, [], ◌∷◌, ◌++◌, length, take, drop, set, get_or, append_assoc, append-nil, add-one, refl, sym, ap, ap₂, subst, ◌∙◌, arith, length-take}
use Rattle.std.specs.Prelude.{Vec, slice_get, unwrap_or}
use Rattle.std.specs.Global.{Global}
use Rattle.std.proofs.Math.Seq.{take-add, take-suc, drop-cons}
use Rattle.std.proofs.lemmas.List.{take-append-drop, take_rest, drop-append-le, drop-drop, drop-set-lt, set_split, take-set, take-take}
use Rattle.std.proofs.lemmas.Bool.{eqb-true}
use Rattle.std.proofs.lemmas.List.Elements.{All-nil, All-cons, All-head, All-tail, All-append}
use Rattle.std.specs.List.{insert, remove}
use Rattle.tl_check_active.specs.Blocks.Keeping.Blocks.{numbers_of, AreSome}
use Rattle.tl_check_active.specs.Blocks.Lined.{last_of}

-- a block of which it was tested
pub some_by_test : (n : ℕ) (empty : Bool) → empty ≡ (n == 0) → empty ≡ false → 0 < n
some_by_test zero empty e f = absurd (cc)
some_by_test (suc n) empty e f = omega arith

-- and one that is empty
pub none_by_test : (xs : List ℕ) (n : ℕ) (empty : Bool) → empty ≡ (n == 0) → empty ≡ true → n ≡ length xs → xs ≡ []
none_by_test [] n empty e f long = refl
none_by_test (x ∷ xs) zero empty e f long = absurd (omega (arith, long))
none_by_test (x ∷ xs) (suc n) empty e f long = absurd (omega (arith, eqb-true (suc n) 0 (sym e ∙ f)))

-- ---- the number at the place

first_kept : (xs ys : List ℕ) → 0 < length xs → slice_get (xs ++ ys) 0 ≡ slice_get xs 0
first_kept [] ys some = absurd (omega (arith, some))
first_kept (x ∷ xs) ys some = refl

some_back : (xs ys : List ℕ) → 0 < length ys → 0 < length (xs ++ ys)
some_back [] ys some = some
some_back (x ∷ xs) ys some = omega arith

some_front : (xs ys : List ℕ) → 0 < length xs → 0 < length (xs ++ ys)
some_front [] ys some = absurd (omega (arith, some))
some_front (x ∷ xs) ys some = omega arith

last_kept : (xs ys : List ℕ) → 0 < length ys → last_of (xs ++ ys) ≡ last_of ys
last_kept [] ys some = refl
last_kept (x ∷ xs) ys some =
    ap (slice_get (x ∷ (xs ++ ys))) (let one : length (x ∷ (xs ++ ys)) - 1 ≡ suc (length (xs ++ ys) - 1) = let more = some_back xs ys some in omega (arith, more) in one) ∙ last_kept xs ys some

behind : (first next : Vec ℕ Global) (rest : List (Vec ℕ Global)) (block : Vec ℕ Global) → slice_get (first ∷ (next ∷ rest)) (length (first ∷ (next ∷ rest)) - 1) ≡ Some block → slice_get (next ∷ rest) (length (next ∷ rest) - 1) ≡ Some block
behind first next rest block is =
    ap (slice_get (first ∷ (next ∷ rest))) (let one : suc (length (next ∷ rest) - 1) ≡ length (first ∷ (next ∷ rest)) - 1 = omega arith in one) ∙ is

-- the last block is the one that the numbers end with
pub last_is : (blocks : List (Vec ℕ Global)) (block : Vec ℕ Global) → AreSome blocks → slice_get blocks (length blocks - 1) ≡ Some block → last_of (numbers_of blocks) ≡ last_of block.items
last_is [] block some is = absurd (cc)
last_is (first ∷ []) block some is =
    let same : first ≡ block = ap (λ o. unwrap_or o first) is in
    ap last_of (append-nil first.items ∙ ap (λ b. b.items) same)
last_is (first ∷ (next ∷ rest)) block some is = last_kept first.items (numbers_of (next ∷ rest)) (some_front next.items (numbers_of rest) (some 1 next (omega arith))) ∙ last_is (next ∷ rest) block (λ k d lt. some (suc k) d (omega (arith, lt))) (behind first next rest block is)

-- ---- one is taken off a list, or put into it

pub front_kept : {X : Type 0} (xs : List X) (n : ℕ) → take n (remove xs n) ≡ take n xs
front_kept [] zero = refl
front_kept [] (suc n) = refl
front_kept (x ∷ xs) zero = refl
front_kept (x ∷ xs) (suc n) = ap (λ ys. x ∷ ys) (front_kept xs n)

back_less : {X : Type 0} (xs : List X) (n : ℕ) → drop n (remove xs n) ≡ drop (suc n) xs
back_less [] zero = refl
back_less [] (suc n) = refl
back_less (x ∷ xs) zero = refl
back_less (x ∷ xs) (suc n) = back_less xs n

back_put : {X : Type 0} (xs : List X) (n : ℕ) (x : X) → n ≤ length xs → drop n (insert xs n x) ≡ x ∷ drop n xs
back_put [] zero x le = refl
back_put [] (suc n) x le = absurd (omega (arith, le))
back_put (y ∷ xs) zero x le = refl
back_put (y ∷ xs) (suc n) x le = back_put xs n x (omega (arith, le))

from_get : {X : Type 0} (xs : List X) (n : ℕ) (x : X) → n < length xs → x ≡ get_or xs n x → drop n xs ≡ x ∷ drop (suc n) xs
from_get xs n x lt e = drop-cons xs n x lt ∙ ap (λ y. y ∷ drop (suc n) xs) (sym e)

-- what is taken off behind the place
pub back_taken : (xs ys : List ℕ) (n : ℕ) → n < length xs → drop n (remove xs n) ++ ys ≡ drop 1 (drop n xs ++ ys)
back_taken [] ys n lt = absurd (omega (arith, lt))
back_taken (x ∷ xs) ys zero lt = refl
back_taken (x ∷ xs) ys (suc n) lt = back_taken xs ys n (omega (arith, lt))

pub end_taken : (xs ys zs : List ℕ) (n : ℕ) → length xs ≤ n → zs ≡ drop 1 ys → drop n xs ++ zs ≡ drop 1 (drop n xs ++ ys)
end_taken [] ys zs zero past e = e
end_taken [] ys zs (suc n) past e = e
end_taken (x ∷ xs) ys zs zero past e = absurd (omega (arith, past))
end_taken (x ∷ xs) ys zs (suc n) past e = end_taken xs ys zs n (omega (arith, past)) e

-- what is put in at the place
front_suc : {X : Type 0} (xs : List X) (n : ℕ) (x : X) → n ≤ length xs → take (suc n) (insert xs n x) ≡ take n xs ++ x ∷ []
front_suc [] zero x le = refl
front_suc [] (suc n) x le = absurd (omega (arith, le))
front_suc (y ∷ xs) zero x le = refl
front_suc (y ∷ xs) (suc n) x le = ap (λ ys. y ∷ ys) (front_suc xs n x (omega (arith, le)))

back_suc : {X : Type 0} (xs : List X) (n : ℕ) (x : X) → n ≤ length xs → drop (suc n) (insert xs n x) ≡ drop n xs
back_suc [] zero x le = refl
back_suc [] (suc n) x le = absurd (omega (arith, le))
back_suc (y ∷ xs) zero x le = refl
back_suc (y ∷ xs) (suc n) x le = back_suc xs n x (omega (arith, le))

pub put_front : {X : Type 0} (xs : List X) (n : ℕ) (x : X) → n ≤ length xs → take (n + 1) (insert xs n x) ≡ take n xs ++ x ∷ []
put_front xs n x le = rw add-one (front_suc xs n x le)

pub put_back : {X : Type 0} (xs : List X) (n : ℕ) (x : X) → n ≤ length xs → drop (n + 1) (insert xs n x) ≡ drop n xs
put_back xs n x le = rw add-one (back_suc xs n x le)

back_past : {X : Type 0} (xs : List X) (n : ℕ) (x : X) → n ≤ length xs → drop (suc (suc n)) (insert xs n x) ≡ drop (suc n) xs
back_past [] zero x le = refl
back_past [] (suc n) x le = absurd (omega (arith, le))
back_past (y ∷ xs) zero x le = refl
back_past (y ∷ xs) (suc n) x le = back_past xs n x (omega (arith, le))

front_past : {X : Type 0} (xs : List X) (n : ℕ) (x : X) → n < length xs → take n (insert xs (suc n) x) ≡ take n xs
front_past [] n x lt = absurd (omega (arith, lt))
front_past (y ∷ xs) zero x lt = refl
front_past (y ∷ xs) (suc n) x lt = ap (λ ys. y ∷ ys) (front_past xs n x (omega (arith, lt)))

put_past : {X : Type 0} (xs : List X) (n : ℕ) (x : X) → n < length xs → take n (insert xs (n + 1) x) ≡ take n xs
put_past xs n x lt = rw add-one (front_past xs n x lt)

put_behind : {X : Type 0} (xs : List X) (n : ℕ) (x : X) → n ≤ length xs → drop (n + 1 + 1) (insert xs n x) ≡ drop (n + 1) xs
put_behind xs n x le = rw (add-one, add-one) (back_past xs n x le)

-- ---- blocks that are closed and opened

numbers-append : (xs ys : List (Vec ℕ Global)) → numbers_of (xs ++ ys) ≡ numbers_of xs ++ numbers_of ys
numbers-append [] ys = refl
numbers-append (x ∷ xs) ys = ap (λ ns. x.items ++ ns) (numbers-append xs ys) ∙ sym (append_assoc x.items (numbers_of xs) (numbers_of ys))

-- the last of some blocks
numbers-push : (xs : List (Vec ℕ Global)) (x : Vec ℕ Global) → numbers_of (xs ++ x ∷ []) ≡ numbers_of xs ++ x.items
numbers-push xs x = numbers-append xs (x ∷ []) ∙ ap (λ ns. numbers_of xs ++ ns) (append-nil x.items)

some_cons : (block : Vec ℕ Global) (rest : List (Vec ℕ Global)) → 0 < length block.items → AreSome rest → AreSome (block ∷ rest)
some_cons block rest one all = All-cons (λ (b : Vec ℕ Global). 0 < length b.items) block rest one all

some_head : (block : Vec ℕ Global) (rest : List (Vec ℕ Global)) → AreSome (block ∷ rest) → 0 < length block.items
some_head block rest all = All-head (λ (b : Vec ℕ Global). 0 < length b.items) block rest all

some_tail : (block : Vec ℕ Global) (rest : List (Vec ℕ Global)) → AreSome (block ∷ rest) → AreSome rest
some_tail block rest all = All-tail (λ (b : Vec ℕ Global). 0 < length b.items) block rest all

some_append : (xs ys : List (Vec ℕ Global)) → AreSome xs → AreSome ys → AreSome (xs ++ ys)
some_append xs ys one other = All-append (λ (b : Vec ℕ Global). 0 < length b.items) xs ys one other

-- the numbers of one block more
pub numbers_more : (blocks : List (Vec ℕ Global)) (k : ℕ) (block : Vec ℕ Global) → k < length blocks → block ≡ get_or blocks k block →
    numbers_of (take (k + 1) blocks) ≡ numbers_of (take k blocks) ++ block.items
numbers_more blocks k block lt is =
    rw (add-one, take-suc blocks k block) (numbers-push (take k blocks) (get_or blocks k block) ∙ ap (λ (b : Vec ℕ Global). numbers_of (take k blocks) ++ b.items) (sym is))

-- a block gets its place
pub closed_numbers : (old new : List (Vec ℕ Global)) (n : ℕ) (block : Vec ℕ Global) → n < length old → new ≡ set old n block → numbers_of new ≡ numbers_of (take n old) ++ (block.items ++ numbers_of (drop (n + 1) old))
closed_numbers old new n block lt e = rw add-one (ap numbers_of (e ∙ set_split old n block lt) ∙ numbers-append (take n old) (block ∷ drop (suc n) old))

pub closed_some : (old new : List (Vec ℕ Global)) (n : ℕ) (block : Vec ℕ Global) → n < length old → new ≡ set old n block → 0 < length block.items → AreSome (take n old) → AreSome (drop (n + 1) old) → AreSome new
closed_some old new n block lt e one before behind =
    subst AreSome (sym (e ∙ set_split old n block lt)) (some_append (take n old) (block ∷ drop (suc n) old) before (some_cons block (drop (suc n) old) one (rw add-one at behind)))

-- or the place goes
pub gone_numbers : (old : List (Vec ℕ Global)) (n : ℕ) (items : List ℕ) → items ≡ [] → numbers_of (remove old n) ≡ numbers_of (take n old) ++ (items ++ numbers_of (drop (n + 1) old))
gone_numbers old n items e = rw (e, add-one) (numbers-append (take n old) (drop (suc n) old))

pub gone_some : (old : List (Vec ℕ Global)) (n : ℕ) → AreSome (take n old) → AreSome (drop (n + 1) old) → AreSome (remove old n)
gone_some old n before behind = some_append (take n old) (drop (suc n) old) before (rw add-one at behind)

-- a block is taken from its place
pub lifted_numbers : (old new : List (Vec ℕ Global)) (n : ℕ) (block other : Vec ℕ Global) → n < length old → block ≡ get_or old n block → new ≡ set old n other → numbers_of (take n new) ++ (block.items ++ numbers_of (drop (n + 1) new)) ≡ numbers_of old
lifted_numbers old new n block other lt is e =
    rw (e, take-set, drop-set-lt (n + 1) old n other (omega arith), add-one) (sym (ap numbers_of (sym (take-append-drop n old) ∙ ap (λ bs. take n old ++ bs) (from_get old n block lt is)) ∙ numbers-append (take n old) (block ∷ drop (suc n) old)))

-- ---- the first number of a block that isn't open

-- is the first of all from there on
pub first_is : (blocks : List (Vec ℕ Global)) (n : ℕ) (block : Vec ℕ Global) → AreSome (drop n blocks) → n < length blocks → block ≡ get_or blocks n block → slice_get (numbers_of (drop n blocks)) 0 ≡ slice_get block.items 0
first_is blocks n block all lt is =
    let split = from_get blocks n block lt is in
    let one = some_head block (drop (suc n) blocks) (subst AreSome split all) in
    ap (λ bs. slice_get (numbers_of bs) 0) split ∙ first_kept block.items (numbers_of (drop (suc n) blocks)) one

-- it is taken off, and is the only one
off_one : (xs ys : List ℕ) → length xs ≡ 1 → ys ≡ drop 1 (xs ++ ys)
off_one [] ys one = absurd (omega (arith, one))
off_one (x ∷ []) ys one = refl
off_one (x ∷ (y ∷ xs)) ys one = absurd (omega (arith, one))

-- with it goes the block, where it holds no other
pub one_less_numbers : (old : List (Vec ℕ Global)) (n : ℕ) (block : Vec ℕ Global) → n < length old → block ≡ get_or old n block → length block.items ≤ 1 → AreSome (drop n old) → numbers_of (drop n (remove old n)) ≡ drop 1 (numbers_of (drop n old))
one_less_numbers old n block lt is le all =
    let split = from_get old n block lt is in
    let one = some_head block (drop (suc n) old) (subst AreSome split all) in
    ap numbers_of (back_less old n) ∙ off_one block.items (numbers_of (drop (suc n) old)) (omega (arith, le, one)) ∙
    ap (λ bs. drop 1 (numbers_of bs)) (sym split)

-- none of those behind a block that is taken off is empty
pub rest_some : (old : List (Vec ℕ Global)) (n : ℕ) → AreSome (drop n old) → AreSome (drop n (remove old n))
rest_some [] zero all = all
rest_some [] (suc n) all = all
rest_some (block ∷ rest) zero all = some_tail block rest all
rest_some (block ∷ rest) (suc n) all = rest_some rest n all

-- a block is joined to the open one
pub joined_numbers : (old : List (Vec ℕ Global)) (n : ℕ) (block : Vec ℕ Global) (items more : List ℕ) → n < length old → block ≡ get_or old n block → more ≡ items ++ block.items →
    more ++ numbers_of (drop n (remove old n)) ≡ items ++ numbers_of (drop n old)
joined_numbers old n block items more lt is m =
    ap₂ (λ xs bs. xs ++ numbers_of bs) m (back_less old n) ∙ append_assoc items block.items (numbers_of (drop (suc n) old)) ∙
    ap (λ bs. items ++ numbers_of bs) (sym (from_get old n block lt is))

-- ---- the open block

-- wherever the place is
pub whole : (west items east : List ℕ) (place : ℕ) → (west ++ take place items) ++ (drop place items ++ east) ≡ west ++ (items ++ east)
whole west items east place =
    append_assoc west (take place items) (drop place items ++ east) ∙
    ap (λ xs. west ++ xs) (sym (append_assoc (take place items) (drop place items) east) ∙ ap (λ xs. xs ++ east) (take-append-drop place items))

-- blocks from one on changed
pub front_same : (old new : List (Vec ℕ Global)) (n : ℕ) → take (n + 1) new ≡ take (n + 1) old → take n new ≡ take n old
front_same old new n e = sym (take-take n (n + 1) new (omega arith)) ∙ ap (take n) e ∙ take-take n (n + 1) old (omega arith)

pub count_same : (old new : List (Vec ℕ Global)) (n : ℕ) → take (n + 1) new ≡ take (n + 1) old → n ≤ length old → n ≤ length new
count_same old new n e le = omega (arith, ap length e, length-take (n + 1) new, length-take (n + 1) old, le)

pub joined_whole : (old new : List (Vec ℕ Global)) (n : ℕ) (items more : List ℕ) (place : ℕ) → take (n + 1) new ≡ take (n + 1) old → more ++ numbers_of (drop (n + 1) new) ≡ items ++ numbers_of (drop (n + 1) old) →
    (numbers_of (take n new) ++ take place more) ++ (drop place more ++ numbers_of (drop (n + 1) new)) ≡ (numbers_of (take n old) ++ take place items) ++ (drop place items ++ numbers_of (drop (n + 1) old))
joined_whole old new n items more place e f =
    whole (numbers_of (take n new)) more (numbers_of (drop (n + 1) new)) place ∙
    ap₂ (λ bs xs. numbers_of bs ++ xs) (front_same old new n e) f ∙
    sym (whole (numbers_of (take n old)) items (numbers_of (drop (n + 1) old)) place)

-- a block was closed and another opened
pub opened_whole : (old kept closed new : List (Vec ℕ Global)) (m n : ℕ) (items block : List ℕ) (place : ℕ) → take m kept ≡ take m old → drop (m + 1) kept ≡ drop (m + 1) old →
    numbers_of closed ≡ numbers_of (take m kept) ++ (items ++ numbers_of (drop (m + 1) kept)) → numbers_of (take n new) ++ (block ++ numbers_of (drop (n + 1) new)) ≡ numbers_of closed →
    (numbers_of (take n new) ++ take 0 block) ++ (drop 0 block ++ numbers_of (drop (n + 1) new)) ≡ (numbers_of (take m old) ++ take place items) ++ (drop place items ++ numbers_of (drop (m + 1) old))
opened_whole old kept closed new m n items block place e f g h =
    whole (numbers_of (take n new)) block (numbers_of (drop (n + 1) new)) 0 ∙ h ∙ g ∙
    ap₂ (λ bs cs. numbers_of bs ++ (items ++ numbers_of cs)) e f ∙
    sym (whole (numbers_of (take m old)) items (numbers_of (drop (m + 1) old)) place)

-- what is copied of a block
pub behind_is : (behind none read items : List ℕ) (half : ℕ) → behind ≡ none ++ take (length read - half) (drop half read) → none ≡ [] → read ≡ items → behind ≡ drop half items
behind_is behind none read items half e f g = e ∙ ap (λ xs. xs ++ take (length read - half) (drop half read)) f ∙ take_rest read half ∙ ap (drop half) g

-- the block is parted behind the place
parted_behind : (items : List ℕ) (place half : ℕ) → place ≤ half → half ≤ length items → drop place (take half items) ++ drop half items ≡ drop place items
parted_behind items place half le within =
    sym (drop-append-le place (take half items) (drop half items) (omega (arith, le, within, length-take half items))) ∙ ap (drop place) (take-append-drop half items)

-- or before it
parted_before : (items : List ℕ) (place half : ℕ) → half ≤ place → take half items ++ take (place - half) (drop half items) ≡ take place items
parted_before items place half le =
    sym (take-add half (place - half) items) ∙ ap (λ n. take n items) (let one : half + (place - half) ≡ place = omega (arith, le) in one)

parted_later : (items : List ℕ) (place half : ℕ) → half ≤ place → drop (place - half) (drop half items) ≡ drop place items
parted_later items place half le = drop-drop (place - half) half items ∙ ap (λ n. drop n items) (let one : half + (place - half) ≡ place = omega (arith, le) in one)

-- the place stays in the block, and what was parted off stands behind it
pub parted_back : (old kept new : List (Vec ℕ Global)) (n : ℕ) (items left : List ℕ) (place half : ℕ) (behind : Vec ℕ Global) → n < length kept → drop (n + 1) kept ≡ drop (n + 1) old → new ≡ insert kept (n + 1) behind → left ≡ take half items → behind.items ≡ drop half items → place ≤ half → half ≤ length items →
    drop place left ++ numbers_of (drop (n + 1) new) ≡ drop place items ++ numbers_of (drop (n + 1) old)
parted_back old kept new n items left place half behind lt same e l b le within =
    ap₂ (λ xs bs. drop place xs ++ numbers_of bs) l (ap (drop (n + 1)) e ∙ back_put kept (n + 1) behind (omega (arith, lt))) ∙
    ap₂ (λ xs bs. drop place (take half items) ++ (xs ++ numbers_of bs)) b same ∙
    sym (append_assoc (drop place (take half items)) (drop half items) (numbers_of (drop (n + 1) old))) ∙
    ap (λ xs. xs ++ numbers_of (drop (n + 1) old)) (parted_behind items place half le within)

pub parted_front : (old kept new : List (Vec ℕ Global)) (n : ℕ) (items left : List ℕ) (place half : ℕ) (behind : Vec ℕ Global) → n < length kept → take n kept ≡ take n old → new ≡ insert kept (n + 1) behind → left ≡ take half items → place ≤ half →
    numbers_of (take n new) ++ take place left ≡ numbers_of (take n old) ++ take place items
parted_front old kept new n items left place half behind lt same e l le =
    ap₂ (λ bs xs. numbers_of bs ++ xs) (ap (take n) e ∙ put_past kept n behind lt ∙ same) (ap (take place) l ∙ take-take place half items le)

pub parted_some : (old kept new : List (Vec ℕ Global)) (n : ℕ) (behind : Vec ℕ Global) → n < length kept → take n kept ≡ take n old → new ≡ insert kept (n + 1) behind → AreSome (take n old) → AreSome (take n new)
parted_some old kept new n behind lt same e all = subst AreSome (sym (ap (take n) e ∙ put_past kept n behind lt ∙ same)) all

pub later_some : (old kept new : List (Vec ℕ Global)) (n : ℕ) (behind : Vec ℕ Global) → n < length kept → drop (n + 1) kept ≡ drop (n + 1) old → new ≡ insert kept (n + 1) behind → 0 < length behind.items → AreSome (drop (n + 1) old) → AreSome (drop (n + 1) new)
later_some old kept new n behind lt same e one all =
    subst AreSome (sym (ap (drop (n + 1)) e ∙ back_put kept (n + 1) behind (omega (arith, lt)) ∙ ap (λ bs. behind ∷ bs) same)) (some_cons behind (drop (n + 1) old) one all)

-- or the place goes with what was parted off, and the block stands before it
pub before_front : (old kept new : List (Vec ℕ Global)) (n : ℕ) (items right : List ℕ) (place half : ℕ) (before : Vec ℕ Global) → n ≤ length kept → take n kept ≡ take n old → new ≡ insert kept n before → before.items ≡ take half items → right ≡ drop half items → half ≤ place →
    numbers_of (take (n + 1) new) ++ take (place - half) right ≡ numbers_of (take n old) ++ take place items
before_front old kept new n items right place half before within same e b r le =
    ap₂ (λ bs xs. numbers_of bs ++ take (place - half) xs) (ap (take (n + 1)) e ∙ put_front kept n before within) r ∙
    ap (λ xs. xs ++ take (place - half) (drop half items)) (numbers-push (take n kept) before ∙ ap₂ (λ bs xs. numbers_of bs ++ xs) same b) ∙
    append_assoc (numbers_of (take n old)) (take half items) (take (place - half) (drop half items)) ∙
    ap (λ xs. numbers_of (take n old) ++ xs) (parted_before items place half le)

pub before_back : (old kept new : List (Vec ℕ Global)) (n : ℕ) (items right : List ℕ) (place half : ℕ) (before : Vec ℕ Global) → n ≤ length kept → drop (n + 1) kept ≡ drop (n + 1) old → new ≡ insert kept n before → right ≡ drop half items → half ≤ place →
    drop (place - half) right ++ numbers_of (drop (n + 1 + 1) new) ≡ drop place items ++ numbers_of (drop (n + 1) old)
before_back old kept new n items right place half before within same e r le =
    ap₂ (λ xs bs. drop (place - half) xs ++ numbers_of bs) r (ap (drop (n + 1 + 1)) e ∙ put_behind kept n before within ∙ same) ∙
    ap (λ xs. xs ++ numbers_of (drop (n + 1) old)) (parted_later items place half le)

pub before_some : (old kept new : List (Vec ℕ Global)) (n : ℕ) (before : Vec ℕ Global) → n ≤ length kept → take n kept ≡ take n old → new ≡ insert kept n before → 0 < length before.items → AreSome (take n old) → AreSome (take (n + 1) new)
before_some old kept new n before within same e one all =
    subst AreSome (sym (ap (take (n + 1)) e ∙ put_front kept n before within))
    (some_append (take n kept) (before ∷ []) (subst AreSome (sym same) all) (some_cons before [] one (All-nil (λ (b : Vec ℕ Global). 0 < length b.items))))

pub behind_some : (old kept new : List (Vec ℕ Global)) (n : ℕ) (before : Vec ℕ Global) → n ≤ length kept → drop (n + 1) kept ≡ drop (n + 1) old → new ≡ insert kept n before → AreSome (drop (n + 1) old) → AreSome (drop (n + 1 + 1) new)
behind_some old kept new n before within same e all = subst AreSome (sym (ap (drop (n + 1 + 1)) e ∙ put_behind kept n before within ∙ same)) all
