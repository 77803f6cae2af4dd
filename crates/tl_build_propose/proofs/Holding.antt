-- Lists of darts that hold each number below n once.
use Rattle.std.proofs.Common.{◌≡◌, ℕ, ◌^◌, ◌<◌, ◌≤◌, List, [], ◌∷◌, length, ap, ◌∙◌, length-append, Vec, Global, arith}
use Rattle.std.specs.List.{All, concat}
use Rattle.std.proofs.lemmas.List.{length-map}
use Rattle.std.proofs.lemmas.List.Elements.{All-nil, All-cons, All-head, All-tail, All-map}
use Rattle.tl_tree_index.specs.Hits.{times}
use Rattle.tl_check_sides.specs.Lists.{HoldOnce}
use Rattle.tl_cert.specs.Certificates.{IsDartList, AreDartLists}
use Rattle.tl_tree_index.specs.Lists.{HoldsAll}
use Rattle.tl_tree_index.proofs.Holding.{once_in, no_other_in}
use Rattle.tl_build_propose.specs.Keeping.Lists.{lists_in}
use Rattle.tl_build_propose.proofs.ListLemmas.{all_in}

-- lists that together are a list of all numbers below n
pub held_once : (n : ℕ) (lists : List (List ℕ)) (xs : List ℕ) → concat lists ≡ xs → HoldsAll n xs → HoldOnce n lists
held_once n lists xs e h =
    record {
      once = λ i l. ap (times i) e ∙ once_in n xs h i l;
      no_other = λ i l. ap (times i) e ∙ no_other_in n xs h i l;
    }

abbrev HasDart : Vec ℕ Global → Type 0
HasDart v = 0 < length v.items

lists_few : (lists : List (Vec ℕ Global)) → All HasDart lists → length lists ≤ length (all_in lists)
lists_few [] h = omega arith
lists_few (x ∷ lists) h =
    let rest = lists_few lists (All-tail HasDart x lists h) in
    let some : 0 < length x.items = All-head HasDart x lists h in
    omega (arith, rest, some, length-append x.items (all_in lists))

each_counted : (lists : List (Vec ℕ Global)) → All HasDart lists → length (all_in lists) < 2 ^ 32 → All (λ (v : Vec ℕ Global). IsDartList v.items) lists
each_counted [] h small = All-nil _
each_counted (x ∷ lists) h small =
    let long = length-append x.items (all_in lists) in
    let some : 0 < length x.items = All-head HasDart x lists h in
    All-cons (λ (v : Vec ℕ Global). IsDartList v.items) x lists
    (record { some = some; counted = omega (arith, long, small) })
    (each_counted lists (All-tail HasDart x lists h) (omega (arith, long, small)))

-- lists with a dart each that hold fewer darts than a number of 32 bits counts
pub dart_lists : (lists : List (Vec ℕ Global)) → All HasDart lists → length (all_in lists) < 2 ^ 32 → AreDartLists (lists_in lists)
dart_lists lists h small =
    record {
      counted = omega (arith, length-map lists (λ (v : Vec ℕ Global). v.items), lists_few lists h, small);
      each = All-map IsDartList (λ (v : Vec ℕ Global). v.items) lists (each_counted lists h small);
    }
