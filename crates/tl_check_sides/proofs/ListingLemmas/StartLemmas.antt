-- The darts that have zero-cell ids, listed and sorted, and the first of each node.
use Rattle.std.proofs.Common.{◌≡◌, ◌≢◌, inl, inr, ℕ, ◌+◌, ◌<◌, Option, Some, None, true, false, List, [], ◌∷◌, ◌++◌, length, get_or, set, refl, sym, ap, subst, ◌∙◌, length-append, length-set, get_or-set_same, get_or-set_other, arith}
use Rattle.std.specs.List.Sorted.{IsPermutation}
use Rattle.std.specs.Option.{is_some}
use Rattle.std.proofs.lemmas.Bool.{cases_lt, cases_eq, true≢false}
use Rattle.std.proofs.lemmas.List.{get_or_default, get_or_append_left}
use Rattle.std.proofs.lemmas.List.Elements.{All-nil, All-push, All-same, All-weaker, Contains-get_or}
use Rattle.std.proofs.lemmas.List.Quantifiers.{all_pairs_push}
use Rattle.std.proofs.lemmas.List.Sorted.{All-permutation, Contains-permutation}
use Rattle.tl_geom.specs.declared.point.Point.{Point}
use Rattle.tl_map_county.specs.TheMap.{MapChain}
use Rattle.tl_map_county.specs.Darts.{dart_start, dart_cell}
use Rattle.tl_map_county.specs.Nodes.{AreNodes}
use Rattle.tl_map_county.proofs.NodeLemmas.{one_number}
use Rattle.tl_check_sides.specs.Cells.Cells.{HasCell, HaveOneStart}
use Rattle.tl_check_sides.proofs.CellsLemmas.Cells.{has_within}
use Rattle.tl_check_sides.proofs.CellsLemmas.Places.{AnyTwo, from_pairs, moved}
use Rattle.tl_check_sides.specs.Sides.{dart_count}
use Rattle.tl_check_sides.specs.declared.listing.starts.CellStart.{CellStart}
use Rattle.tl_check_sides.specs.Listing.Keeping.Starts.{no_start, start_at, IsCellStart, AreListed, AreById, AreSorted, first_of, IsFirstIn, AreFirstsOf}
use Rattle.tl_check_sides.specs.Listing.Keeping.Odds.{AreFirsts}
use Rattle.tl_check_sides.proofs.ListingLemmas.Pairs.{rising_of}

last_of : (xs : List CellStart) (x d : CellStart) → get_or (xs ++ x ∷ []) (length xs) d ≡ x
last_of [] x d = refl
last_of (y ∷ xs) x d = last_of xs x d

-- ---- listed dart by dart

pub none_listed : (chains : List MapChain) (nodes : List Point) (starts : List CellStart) → AreNodes chains nodes → starts ≡ [] → AreListed chains 0 starts
none_listed chains nodes starts are none = record {
  nodes = nodes;
  are = are;
  each = All-same (IsCellStart chains) starts [] none (All-nil _);
  below = All-same (λ (s : CellStart). s.dart < 0) starts [] none (All-nil _);
  all = λ d id lt has. absurd (omega (arith, lt));
  rising = λ i j d lt within. absurd (omega (arith, within, ap length none));
}

pub start_skipped : (chains : List MapChain) (n : ℕ) (starts : List CellStart) → dart_cell chains n ≡ Some None → AreListed chains n starts → AreListed chains (n + 1) starts
start_skipped chains n starts none a = record {
  nodes = a.nodes;
  are = a.are;
  each = a.each;
  below = All-weaker (λ (s : CellStart). s.dart < n) (λ s. s.dart < n + 1) (λ s lt. omega (arith, lt)) starts a.below;
  all = λ d id lt has. elim (cases_lt d n) [
    | inl before ↦ a.all d id before has
    | inr last ↦
        let here : d ≡ n = omega (arith, lt, last) in
        let e : Some None ≡ Some (Some id) = sym none ∙ ap (dart_cell chains) (sym here) ∙ has in
        absurd cc
  ];
  rising = a.rising;
}

pub start_listed : (chains : List MapChain) (n : ℕ) (old new : List CellStart) (s : CellStart) → s.dart ≡ n → IsCellStart chains s → new ≡ old ++ s ∷ [] → AreListed chains n old → AreListed chains (n + 1) new
start_listed chains n old new s is true_one grown a = record {
  nodes = a.nodes;
  are = a.are;
  each = All-same (IsCellStart chains) new _ grown (All-push (IsCellStart chains) old s a.each true_one);
  below = All-same (λ (t : CellStart). t.dart < n + 1) new _ grown
      (All-push (λ (t : CellStart). t.dart < n + 1) old s (All-weaker (λ (t : CellStart). t.dart < n) (λ t. t.dart < n + 1) (λ t lt. omega (arith, lt)) old a.below) (omega (arith, is)));
  all = λ d id lt has. rw grown (elim (cases_lt d n) [
    | inl before ↦
        let p = a.all d id before has in
        let w = p.within in
        record { place = p.place; within = omega (arith, w, length-append old (s ∷ [])); is = ap (λ (t : CellStart). t.dart) (get_or_append_left old (s ∷ []) no_start p.place p.within) ∙ p.is }
    | inr last ↦ record { place = length old; within = omega (arith, length-append old (s ∷ [])); is = ap (λ (t : CellStart). t.dart) (last_of old s no_start) ∙ omega (arith, is, last, lt) }
  ]);
  rising = rw grown (all_pairs_push (λ (t u : CellStart). t.dart < u.dart) old s a.rising (λ k d lt. let below = a.below k d lt in omega (arith, below, is)));
}

-- ---- sorted

pub sorted_of : (chains : List MapChain) (old new : List CellStart) → AreListed chains (dart_count chains) old → IsPermutation old new → AreById new → AreSorted chains new
sorted_of chains old new a moves up = record {
  nodes = a.nodes;
  are = a.are;
  each = All-permutation (IsCellStart chains) old new moves a.each;
  all = λ d id has.
      let p = a.all d id (has_within chains d id has) has in
      let s = start_at old p.place in
      let c = Contains-permutation old new s moves (Contains-get_or old p.place no_start p.within) in
      record { place = c.0; within = c.1; is = ap (λ (t : CellStart). t.dart) (get_or_default new c.0 no_start s c.1 ∙ c.2) ∙ p.is };
  rising = rising_of (λ (s : CellStart). s.id) (λ s. s.dart) new up (λ i j d lt within same. apart i j d (λ e. absurd (omega (arith, e, lt))) (omega (arith, lt, within)) within same.1);
}
  where
    apart : AnyTwo (λ (s t : CellStart). s.dart ≢ t.dart) new
    apart = moved (λ (s t : CellStart). s.dart ≢ t.dart) old new moves
        (from_pairs (λ (s t : CellStart). s.dart ≢ t.dart) (λ s t ne e. ne (sym e)) old (λ i j d lt within e. let less = a.rising i j d lt within in absurd (omega (arith, less, e))))

-- ---- the first of each node

pub none_first : (starts : List CellStart) (firsts : List (Option CellStart)) → ((n : ℕ) → n < length firsts → first_of firsts n ≡ None) → AreFirstsOf starts 0 firsts
none_first starts firsts none = record {
  each = λ n s lt at. let e : None ≡ Some s = sym (none n lt) ∙ at in absurd cc;
  all = λ k lt. absurd (omega (arith, lt));
}

pub first_kept : (starts : List CellStart) (p : ℕ) (firsts : List (Option CellStart)) → first_of firsts (start_at starts p).node ≢ None → AreFirstsOf starts p firsts → AreFirstsOf starts (p + 1) firsts
first_kept starts p firsts some a = record {
  each = λ n s lt at. let f = a.each n s lt at in let b = f.before in record { place = f.place; before = omega (arith, b); is = f.is; node = f.node; first = f.first };
  all = λ k lt. elim (cases_lt k p) [
    | inl before ↦ a.all k before
    | inr last ↦ let here : k ≡ p = omega (arith, lt, last) in rw here some
  ];
}

pub first_set : (starts : List CellStart) (p : ℕ) (firsts : List (Option CellStart)) → (start_at starts p).node < length firsts → first_of firsts (start_at starts p).node ≡ None → AreFirstsOf starts p firsts
    → AreFirstsOf starts (p + 1) (set firsts (start_at starts p).node (Some (start_at starts p)))
first_set starts p firsts within none a = record {
  each = λ n s lt at. elim (cases_eq n (start_at starts p).node) [
    | inl here ↦
        let e : Some (start_at starts p) ≡ Some s = sym (get_or-set_same firsts (start_at starts p).node (Some (start_at starts p)) None within) ∙ ap (first_of (set firsts (start_at starts p).node (Some (start_at starts p)))) (sym here) ∙ at in
        let is : start_at starts p ≡ s = cc in
        record { place = p; before = omega arith; is = is; node = ap (λ (t : CellStart). t.node) (sym is) ∙ sym here; first = λ k before same. a.all k before (ap (first_of firsts) (same ∙ here) ∙ none) }
    | inr other ↦
        let f = a.each n s (omega (arith, lt, length-set firsts (start_at starts p).node (Some (start_at starts p)))) (sym (get_or-set_other firsts (start_at starts p).node n (Some (start_at starts p)) None other) ∙ at) in
        let b = f.before in
        record { place = f.place; before = omega (arith, b); is = f.is; node = f.node; first = f.first }
  ];
  all = λ k lt gone. elim (cases_eq (start_at starts k).node (start_at starts p).node) [
    | inl here ↦
        let e : Some (start_at starts p) ≡ None = sym (get_or-set_same firsts (start_at starts p).node (Some (start_at starts p)) None within) ∙ ap (first_of (set firsts (start_at starts p).node (Some (start_at starts p)))) (sym here) ∙ gone in
        absurd cc
    | inr other ↦ elim (cases_lt k p) [
      | inl before ↦ a.all k before (sym (get_or-set_other firsts (start_at starts p).node (start_at starts k).node (Some (start_at starts p)) None other) ∙ gone)
      | inr last ↦ other (let here : k ≡ p = omega (arith, lt, last) in ap (λ m. (start_at starts m).node) here)
    ]
  ];
}

-- darts that have ids start at one point exactly where their nodes have one number
pub one_node : (chains : List MapChain) (nodes : List Point) (s t : CellStart) → AreNodes chains nodes → IsCellStart chains s → IsCellStart chains t → HaveOneStart chains s.dart t.dart → s.node ≡ t.node
one_node chains nodes s t are one other = (one_number (dart_start chains) nodes s.dart t.dart s.node t.node are (one.within nodes are) (one.starts nodes are) (other.starts nodes are)).1

pub one_point : (chains : List MapChain) (nodes : List Point) (s t : CellStart) → AreNodes chains nodes → IsCellStart chains s → IsCellStart chains t → s.node ≡ t.node → HaveOneStart chains s.dart t.dart
one_point chains nodes s t are one other = (one_number (dart_start chains) nodes s.dart t.dart s.node t.node are (one.within nodes are) (one.starts nodes are) (other.starts nodes are)).0

pub firsts_of : (chains : List MapChain) (starts : List CellStart) (firsts : List (Option CellStart)) → AreListed chains (dart_count chains) starts → AreFirstsOf starts (length starts) firsts → AreFirsts chains firsts
firsts_of chains starts firsts a f = record {
  each = λ n s lt at.
      let h = f.each n s lt at in
      let true_one : IsCellStart chains s = subst (IsCellStart chains) h.is (a.each h.place no_start h.before) in
      record { true_one = true_one; node = h.node; first = record { has = true_one.has; first = λ e other before same has. none n s h true_one e other before same has } };
  all = λ s true_one gone.
      let p = a.all s.dart s.id (has_within chains s.dart s.id true_one.has) true_one.has in
      let t = start_at starts p.place in
      let node : t.node ≡ s.node = one_node chains a.nodes t s a.are (a.each p.place no_start p.within) true_one (ap (dart_start chains) p.is) in
      f.all p.place p.within (ap (first_of firsts) node ∙ gone);
}
  where
    none : (n : ℕ) (s : CellStart) → IsFirstIn starts (length starts) n s → IsCellStart chains s → (e other : ℕ) → e < s.dart → HaveOneStart chains e s.dart → ¬ HasCell chains e other
    none n s h true_one e other before same has =
        let p = a.all e other (has_within chains e other has) has in
        let t = start_at starts p.place in
        let node : t.node ≡ s.node = one_node chains a.nodes t s a.are (a.each p.place no_start p.within) true_one (ap (dart_start chains) p.is ∙ same) in
        elim (cases_lt p.place h.place) [
          | inl earlier ↦ h.first p.place earlier (node ∙ h.node)
          | inr later ↦
              let is = ap (λ (u : CellStart). u.dart) h.is in
              let e_is = p.is in
              elim (cases_eq p.place h.place) [
                | inl here ↦ let at = ap (λ k. (start_at starts k).dart) here in omega (arith, before, is, e_is, at)
                | inr other ↦ let up = a.rising h.place p.place no_start (omega (arith, later, other)) p.within in omega (arith, up, before, is, e_is)
              ]
        ]

-- what a test of what is kept says
pub is_kept : (firsts : List (Option CellStart)) (n : ℕ) (read : Option CellStart) → n < length firsts → read ≡ get_or firsts n read → is_some read ≡ true → first_of firsts n ≢ None
is_kept firsts n read lt at some gone = go read (at ∙ get_or_default firsts n read None lt ∙ gone) some
  where
    go : (o : Option CellStart) → o ≡ None → is_some o ≡ true → ⊥
    go None e t = absurd (true≢false (sym t))
    go (Some s) e t = absurd cc

pub not_kept : (firsts : List (Option CellStart)) (n : ℕ) (read : Option CellStart) → n < length firsts → read ≡ get_or firsts n read → is_some read ≡ false → first_of firsts n ≡ None
not_kept firsts n read lt at none = sym (get_or_default firsts n read None lt) ∙ sym at ∙ go read none
  where
    go : (o : Option CellStart) → is_some o ≡ false → o ≡ None
    go None e = refl
    go (Some s) e = absurd (true≢false e)
