-- Where groups end, and which is the next one.
use Rattle.std.proofs.Common.{◌≡◌, ◌≢◌, inl, inr, ℕ, ◌+◌, ◌<◌, List, length, set, refl, sym, ◌∙◌, get_or-set_same, get_or-set_other, length-set, arith}
use Rattle.std.proofs.lemmas.Bool.{cases_lt, cases_eq}
use Rattle.tl_check_sides.specs.declared.headed.HeadedDart.{HeadedDart}
use Rattle.tl_check_sides.specs.Headed.{AreSorted, HeadTogether}
use Rattle.tl_check_sides.specs.Listing.Keeping.Around.{headed_at}
use Rattle.tl_check_sides.specs.Listing.Keeping.Grouped.{IsEndOf, AreEnds, IsFirstOf, HaveBegun, IsNextPlace, AreNexts}
use Rattle.tl_check_sides.proofs.ListingLemmas.Places.{group_itself, group_back, group_joined, nodes_rise}

-- behind all darts
pub end_of_all : (darts : List HeadedDart) (place : ℕ) → place ≡ length darts → IsEndOf darts place (length darts)
end_of_all darts place e = record {
  behind = λ lt. absurd (omega (arith, lt, e));
  within = omega arith;
  one = λ j low high. absurd (omega (arith, low, high, e));
  other = λ lt. absurd (omega (arith, lt));
}

-- the next place is of the same group
pub end_on : (darts : List HeadedDart) (place end : ℕ) → place + 1 < length darts → HeadTogether (headed_at darts place) (headed_at darts (place + 1)) → IsEndOf darts (place + 1) end → IsEndOf darts place end
end_on darts place end within one e =
    let far = e.behind within in
    record {
      behind = λ lt. omega (arith, far);
      within = e.within;
      one = λ j low high. elim (cases_eq j place) [
        | inl here ↦ rw here (group_itself (headed_at darts place))
        | inr later ↦ group_joined (headed_at darts place) (headed_at darts (place + 1)) (headed_at darts j) one (e.one j (omega (arith, low, later)) high)
      ];
      other = λ lt same. e.other lt (group_joined (headed_at darts (place + 1)) (headed_at darts place) (headed_at darts end) (group_back (headed_at darts place) (headed_at darts (place + 1)) one) same);
    }

-- it is of another, or there is none
pub end_here : (darts : List HeadedDart) (place : ℕ) → place < length darts → (place + 1 < length darts → ¬ HeadTogether (headed_at darts place) (headed_at darts (place + 1))) → IsEndOf darts place (place + 1)
end_here darts place within other = record {
  behind = λ lt. omega arith;
  within = omega (arith, within);
  one = λ j low high. let here : j ≡ place = omega (arith, low, high) in rw here (group_itself (headed_at darts place));
  other = other;
}

pub no_ends : (darts : List HeadedDart) (from : ℕ) (ends : List ℕ) → from ≡ length darts → length ends ≡ length darts → AreEnds darts from ends
no_ends darts from ends e long = record { long = long; each = λ k low high. absurd (omega (arith, low, high, e)) }

pub one_end : (darts : List HeadedDart) (place from end : ℕ) (ends : List ℕ) → place < length darts → from ≡ place + 1 → IsEndOf darts place end → AreEnds darts from ends → AreEnds darts place (set ends place end)
one_end darts place from end ends within e is a = record {
  long = length-set ends place end ∙ a.long;
  each = λ k low high. elim (cases_eq k place) [
    | inl here ↦ rw (here, get_or-set_same ends place end 0 (let l = a.long in omega (arith, within, l))) is
    | inr later ↦ rw (get_or-set_other ends place k end 0 later) (a.each k (omega (arith, low, later, e)) high)
  ];
}

-- where the group of the place ends, that of another direction about the node begins
pub next_behind : (darts : List HeadedDart) (place end : ℕ) → place < length darts → IsEndOf darts place end → end < length darts → (headed_at darts end).node ≡ (headed_at darts place).node → IsNextPlace darts place end
next_behind darts place end within e lt node = record {
  within = lt;
  node = node;
  how = inl (record { behind = e.behind within; other = e.other lt; between = e.one });
}

-- it is the node's last
pub next_around : (darts : List HeadedDart) (place end first : ℕ) → AreSorted darts → place < length darts → IsEndOf darts place end → (end < length darts → (headed_at darts end).node ≢ (headed_at darts place).node)
    → IsFirstOf darts place first → IsNextPlace darts place first
next_around darts place end first sorted within e past is = record {
  within = let before = is.before in omega (arith, before, within);
  node = is.node;
  how = inr (record {
    before = is.before;
    first = is.begins;
    last = λ j low high same. elim (cases_lt j end) [
      | inl lt ↦ e.one j low lt
      | inr ge ↦
          let inside : end < length darts = omega (arith, ge, high) in
          let far = e.behind within in
          let up = nodes_rise darts sorted place end (omega (arith, far)) inside in
          let on = nodes_rise darts sorted end j ge high in
          absurd (past inside (omega (arith, up, on, same)))
    ];
  });
}

-- ---- where nodes begin

pub none_begun : (darts : List HeadedDart) → HaveBegun darts 0 0
none_begun darts = record { none = λ e. refl; last = λ k e. absurd (omega (arith, e)) }

pub begun : (darts : List HeadedDart) (place first : ℕ) → IsFirstOf darts place first → HaveBegun darts (place + 1) first
begun darts place first is = record {
  none = λ e. absurd (omega (arith, e));
  last = λ k e. let here : k ≡ place = omega (arith, e) in rw here is;
}

pub first_of_all : (darts : List HeadedDart) (place first : ℕ) → place ≡ 0 → HaveBegun darts place first → IsFirstOf darts place first
first_of_all darts place first e h =
    let none : first ≡ 0 = h.none e in
    record { before = omega (arith, none); node = rw (none, e) refl; begins = λ k lt. absurd (omega (arith, lt, none)) }

pub first_kept : (darts : List HeadedDart) (before place first : ℕ) → before + 1 ≡ place → (headed_at darts before).node ≡ (headed_at darts place).node → HaveBegun darts place first → IsFirstOf darts place first
first_kept darts before place first e same h =
    let is = h.last before e in
    record {
      before = let b = is.before in omega (arith, b, e);
      node = is.node ∙ same;
      begins = λ k lt here. is.begins k lt (here ∙ sym same);
    }

pub first_here : (darts : List HeadedDart) (before place : ℕ) → AreSorted darts → place < length darts → before + 1 ≡ place → (headed_at darts before).node ≢ (headed_at darts place).node → IsFirstOf darts place place
first_here darts before place sorted within e other = record {
  before = omega arith;
  node = refl;
  begins = λ k lt same.
      let up = nodes_rise darts sorted k before (omega (arith, lt, e)) (omega (arith, within, e)) in
      let on = nodes_rise darts sorted before place (omega (arith, e)) within in
      other (omega (arith, up, on, same));
}

-- ---- where the next groups begin

pub no_nexts : (darts : List HeadedDart) (nexts : List ℕ) → length nexts ≡ length darts → AreNexts darts 0 nexts
no_nexts darts nexts long = record { long = long; each = λ k lt. absurd (omega (arith, lt)) }

pub one_next : (darts : List HeadedDart) (n dart next : ℕ) (nexts : List ℕ) → dart ≡ (headed_at darts n).dart → dart < length nexts → ((j : ℕ) → j < n → (headed_at darts j).dart ≢ (headed_at darts n).dart) → IsNextPlace darts n next → AreNexts darts n nexts → AreNexts darts (n + 1) (set nexts dart next)
one_next darts n dart next nexts is within once h a = record {
  long = length-set nexts dart next ∙ a.long;
  each = λ k lt. elim (cases_lt k n) [
    | inl before ↦ rw (get_or-set_other nexts dart (headed_at darts k).dart next 0 (λ e. once k before (e ∙ is))) (a.each k before)
    | inr last ↦
        let here : k ≡ n = omega (arith, last, lt) in
        rw (here, ← is, get_or-set_same nexts dart next 0 within) h
  ];
}
