-- Items by their groups.
use Rattle.std.proofs.Common.{◌≡◌, inl, inr, ℕ, suc, ◌+◌, ◌<◌, ◌≤◌, true, false, List, [], ◌∷◌, ◌++◌, length, drop, set, get_or, Some, None, Option, refl, sym, ap, ap₂, subst, ◌∙◌, arith, append_assoc, append-nil, drop-cons}
use Rattle.std.proofs.lemmas.List.{get_or-set_same, get_or-set_other, length-set}
use Rattle.std.proofs.lemmas.Bool.Decides.{eqb_tells}
use Rattle.std.proofs.lemmas.Bool.{cases_eq}
use Rattle.std.proofs.lemmas.List.{length-drop}
use Rattle.std.specs.Prelude.{codes, slice_index, if◌then◌else◌}
use Rattle.tl_cert_output.specs.Pages.{IsAdding}
use Rattle.std.specs.List.{flat_map}
use Rattle.tigertopo_pictures.specs.Groups.{is_group, is_one, places_from, GoesThrough}
use Rattle.tigertopo_pictures.specs.Items.{separated}
use Rattle.tl_cert_output.proofs.PageLemmas.{both, as_text, nothing}

plus_one : (n : ℕ) → n + 1 ≡ suc n
plus_one n = omega arith

-- an item in front of all others is written over, and what the others go through stays
stays : (g n : ℕ) (groups : List (Option ℕ)) (next : List ℕ) (w x at : ℕ) → w < n → GoesThrough next at (places_from g n groups) → GoesThrough (set next w x) at (places_from g n groups)
stays g n [] next w x at less goes = rw (length-set next w x) goes
stays g n (group ∷ rest) next w x at less goes =
    elim (is_group g group) as (λ b. GoesThrough next at (if b then n ∷ places_from g (suc n) rest else places_from g (suc n) rest)
    → GoesThrough (set next w x) at (if b then n ∷ places_from g (suc n) rest else places_from g (suc n) rest)) [
      | true ↦ λ h. (h.0, rw (length-set next w x) h.1, rw (get_or-set_other next w n x 0 (λ e. absurd (omega (arith, e, less)))) (stays g (suc n) rest next w x (slice_index next n) (omega arith) h.2))
      | false ↦ λ h. stays g (suc n) rest next w x at (omega arith) h
    ] goes

-- they start at no number before the first
begins : (g n : ℕ) (groups : List (Option ℕ)) (next : List ℕ) (at : ℕ) → n + length groups ≤ length next → GoesThrough next at (places_from g n groups) → n ≤ at
begins g n [] next at long goes = omega (arith, goes, long)
begins g n (group ∷ rest) next at long goes =
    elim (is_group g group) as (λ b. GoesThrough next at (if b then n ∷ places_from g (suc n) rest else places_from g (suc n) rest) → n ≤ at) [
      | true ↦ λ h. omega (arith, h.0)
      | false ↦ λ h. omega (arith, begins g (suc n) rest next at (omega arith) h)
    ] goes

-- what is known of the groups where the items from n on are linked
pub record IsLinkedFrom (count : ℕ) (groups : List (Option ℕ)) (n : ℕ) (first next : List ℕ) : Type 0 where
  pub groups_are : length first ≡ count
  pub items_are : length next ≡ length groups
  pub later : (k : ℕ) → k < length next → k < slice_index next k
  pub goes : (g : ℕ) → g < count → GoesThrough next (slice_index first g) (places_from g n (drop n groups))

module _ (count : ℕ) (groups : List (Option ℕ)) (n : ℕ) (first next : List ℕ) (within : n < length groups) where
  here : drop n groups ≡ get_or groups n None ∷ drop (n + 1) groups
  here = drop-cons groups n None within ∙ ap (λ (k : ℕ). get_or groups n None ∷ drop k groups) (sym (plus_one n))

  -- an item of no group, or of none that is counted
  pub link_none : ((g : ℕ) → g < count → is_group g (get_or groups n None) ≡ false) → IsLinkedFrom count groups (n + 1) first next → IsLinkedFrom count groups n first next
  link_none other linked = record {
    groups_are = linked.groups_are;
    items_are = linked.items_are;
    later = linked.later;
    goes = λ g few. rw (here, other g few) (subst (λ k. GoesThrough next (slice_index first g) (places_from g k (drop (n + 1) groups))) (plus_one n) (linked.goes g few));
  }

  -- an item of a group comes before those of the group
  pub link_some : (g : ℕ) → get_or groups n None ≡ Some g → g < count → IsLinkedFrom count groups (n + 1) first next
      → IsLinkedFrom count groups n (set first g n) (set next n (slice_index first g))
  link_some g group few linked =
      let f = slice_index first g in
      let long = linked.items_are in
      let ahead = length-drop (n + 1) groups in
      let beyond : n + 1 ≤ f = begins g (n + 1) (drop (n + 1) groups) next f (omega (arith, long, ahead, within)) (linked.goes g few) in
      let own : GoesThrough (set next n f) (slice_index (set first g n) g) (n ∷ places_from g (suc n) (drop (n + 1) groups)) = (
        get_or-set_same first g n 0 (omega (arith, few, linked.groups_are)),
        omega (arith, length-set next n f, long, within),
        rw (get_or-set_same next n f 0 (omega (arith, long, within)), ← plus_one n)
            (stays g (n + 1) (drop (n + 1) groups) next n f f (omega arith) (linked.goes g few)),
      ) in
      record {
        groups_are = length-set first g n ∙ linked.groups_are;
        items_are = length-set next n f ∙ linked.items_are;
        later = λ k less. elim (cases_eq k n) [
          | inl same ↦ rw (same, get_or-set_same next n f 0 (omega (arith, long, within))) (omega (arith, beyond))
          | inr other ↦ rw (get_or-set_other next n k f 0 other) (linked.later k (omega (arith, less, length-set next n f)))
        ];
        goes = λ h less. rw (here, group) (elim (eqb_tells g h) [
          | inl same ↦ rw same.0 (subst (λ k. GoesThrough (set next n f) (slice_index (set first g n) k) (n ∷ places_from k (suc n) (drop (n + 1) groups))) same.1 own)
          | inr other ↦ rw (other.0, get_or-set_other first g h n 0 (λ e. other.1 (sym e)))
              (rw (← plus_one n) (stays h (n + 1) (drop (n + 1) groups) next n f (slice_index first h) (omega arith) (linked.goes h less)))
        ]);
      }

-- who goes through a group prints each of its items behind a comma; these are still to come
pub record IsOnTheWay (f : ℕ → List ℕ) (next : List ℕ) (at : ℕ) (ns : List ℕ) (printed : List ℕ → Type 0) : Type 0 where
  pub rest : List ℕ
  pub goes : GoesThrough next at rest
  pub text : List ℕ
  pub is : printed text
  pub whole : text ++ flat_map f rest ≡ flat_map f ns

-- none is printed where none begins
pub separated_none : (next : List ℕ) (g : ℕ → List ℕ) (at : ℕ) (ns : List ℕ) → length next ≤ at → GoesThrough next at ns → [] ≡ separated g ns
separated_none next g at [] beyond goes = refl
separated_none next g at (n ∷ rest) beyond goes = absurd (omega (arith, beyond, goes.0, goes.1))

module _ {P : Type 0} {adds : P → P → List ℕ → Type 0} (page : IsAdding adds) (f : ℕ → List ℕ) (next : List ℕ) where
  pub at_start : {a : P} (at : ℕ) (ns : List ℕ) → GoesThrough next at ns → IsOnTheWay f next at ns (adds a a)
  at_start at ns goes = record { rest = ns; goes = goes; text = []; is = nothing page; whole = refl }

  step_on : {a b c : P} (at : ℕ) (ns rest text : List ℕ) → at < length next → GoesThrough next at rest → adds a b text → text ++ flat_map f rest ≡ flat_map f ns
      → adds b c (f at) → IsOnTheWay f next (slice_index next at) ns (adds a c)
  step_on at ns [] text within goes is whole more = absurd (omega (arith, within, goes))
  step_on {a} {b} {c} at ns (n ∷ rest) text within goes is whole more = record {
    rest = rest;
    goes = rw goes.0 goes.2;
    text = text ++ f n;
    is = both page is (as_text page more (ap f goes.0));
    whole = append_assoc text (f n) (flat_map f rest) ∙ whole;
  }

  pub one_on : {a b c : P} (at : ℕ) (ns : List ℕ) → at < length next → IsOnTheWay f next at ns (adds a b)
      → adds b c (f at) → IsOnTheWay f next (slice_index next at) ns (adds a c)
  one_on at ns within way more = step_on at ns way.rest way.text within way.goes way.is way.whole more

  ended : {a b : P} (at : ℕ) (ns rest text : List ℕ) → length next ≤ at → GoesThrough next at rest → adds a b text → text ++ flat_map f rest ≡ flat_map f ns
      → adds a b (flat_map f ns)
  ended at ns [] text beyond goes is whole = as_text page is (sym (append-nil text) ∙ whole)
  ended at ns (n ∷ rest) text beyond goes is whole = absurd (omega (arith, beyond, goes.0, goes.1))

  pub at_end : {a b : P} (at : ℕ) (ns : List ℕ) → length next ≤ at → IsOnTheWay f next at ns (adds a b) → adds a b (flat_map f ns)
  at_end at ns beyond way = ended at ns way.rest way.text beyond way.goes way.is way.whole

-- nothing stands behind the items
pub without_end : (g : ℕ → List ℕ) (ns : List ℕ) → flat_map (λ n. codes "," ++ g n ++ []) ns ≡ flat_map (λ n. codes "," ++ g n) ns
without_end g [] = refl
without_end g (n ∷ rest) = ap₂ (λ a b. a ++ b) (append-nil (codes "," ++ g n)) (without_end g rest)

module _ {P : Type 0} {adds : P → P → List ℕ → Type 0} (page : IsAdding adds) (next : List ℕ) where
  -- the first item, and the others behind it
  pub separated_both : {a b c : P} (g : ℕ → List ℕ) (at : ℕ) (ns : List ℕ) → at < length next → GoesThrough next at ns → adds a b (g at)
      → ((others : List ℕ) → GoesThrough next (slice_index next at) others → adds b c (flat_map (λ n. codes "," ++ g n) others)) → adds a c (separated g ns)
  separated_both g at [] within goes one more = absurd (omega (arith, within, goes))
  separated_both g at (n ∷ rest) within goes one more = both page (as_text page one (ap g goes.0)) (more rest (rw goes.0 goes.2))

-- ---- whether a group has one item

pub none_of : (next : List ℕ) (at : ℕ) (ns : List ℕ) → length next ≤ at → GoesThrough next at ns → false ≡ is_one ns
none_of next at [] beyond goes = refl
none_of next at (n ∷ rest) beyond goes = absurd (omega (arith, beyond, goes.0, goes.1))

pub one_of : (next : List ℕ) (at : ℕ) (ns : List ℕ) → at < length next → length next ≤ slice_index next at → GoesThrough next at ns → true ≡ is_one ns
one_of next at [] within ends goes = absurd (omega (arith, within, goes))
one_of next at (n ∷ []) within ends goes = refl
one_of next at (n ∷ other ∷ rest) within ends goes = absurd (omega (arith, ends, ap (slice_index next) goes.0, goes.2.0, goes.2.1))

pub more_of : (next : List ℕ) (at : ℕ) (ns : List ℕ) → at < length next → slice_index next at < length next → GoesThrough next at ns → false ≡ is_one ns
more_of next at [] within goes_on goes = absurd (omega (arith, within, goes))
more_of next at (n ∷ []) within goes_on goes = absurd (omega (arith, goes_on, ap (slice_index next) goes.0, goes.2))
more_of next at (n ∷ other ∷ rest) within goes_on goes = refl
