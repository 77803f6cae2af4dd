use Rattle.std.proofs.Common.{◌≡◌, ℕ, suc, ◌+◌, ◌-◌, ◌≤◌, Bool, true, false, cond, ◌&&◌, ◌||◌, inl, inr, Option, Some, None, List, [], ◌∷◌, ◌++◌, length, refl, sym, ap, ◌∙◌, arith}
use Rattle.std.specs.Prelude.{is_some, IfSome, min}
use Rattle.std.proofs.lemmas.Bool.{cases_Bool}
use Rattle.std.proofs.lemmas.List.Sums.{fold-append}
use Rattle.tl_geom.specs.declared.point.Point.{Point}
use Rattle.tl_geom.proofs.Conditions.{same_point as same}
use Rattle.tl_map_rules.specs.ChainsOf.{used, some_used, has_gap, points_between}
use Rattle.tl_record.specs.Joining.{same_point}
use Rattle.tl_map_rules.specs.declared.entry.ChainEntry.{ChainEntry}
use Rattle.tl_map_rules.specs.declared.listing.shape.Trace.{Trace}
use Rattle.tl_map_rules.specs.declared.listing.shape.Seen.{Seen}
use Rattle.tl_map_rules.specs.Listing.Shapes.{more_steps, traced, traces, seen_in, seen_by, fill_of}
use Rattle.tl_map_rules.specs.Listing.Keeping.Runs.{join_traces, join, chain_steps}
use Rattle.tl_map_rules.specs.Keeping.Pairs.{some_unused, dedup_after}
use Rattle.tl_map_rules.proofs.PairLemmas.{used-append, some_unused-append, has_gap-append, dedup_from-is, unused_from_gap}

-- the last of points without repeats
pub last_of : Point → List Point → Point
last_of p [] = p
last_of p (q ∷ qs) = cond (same_point q p) (last_of p qs) (last_of q qs)

-- how many points differ from the one before
abbrev pub step_count : Point → List Point → ℕ
step_count p qs = length (dedup_after p qs)

more_twice : (m n k : ℕ) → more_steps (more_steps m n) k ≡ more_steps m (n + k)
more_twice m n k = omega arith

trace_is : (a b : Trace) → a.first ≡ b.first → a.last ≡ b.last → a.steps ≡ b.steps → a ≡ b
trace_is a b f l s = λ i. record { first = f i; last = l i; steps = s i }

-- the trace of more points in closed form
traces_is : (a : Trace) (qs : List Point) → a.steps ≤ 4294967295 → traces (Some a) qs ≡ Some (record { first = a.first; last = last_of a.last qs; steps = more_steps a.steps (step_count a.last qs) })
unfolding last_of
traces_is a [] h = ap Some (trace_is a _ refl refl (omega arith))
traces_is a (q ∷ qs) h = elim (cases_Bool (same_point q a.last)) [
  | inl met ↦ rw met (traces_is a qs h)
  | inr other ↦ rw other (traces_is (record { first = a.first; last = q; steps = more_steps a.steps 1 }) qs (omega arith) ∙ ap Some (trace_is _ _ refl refl (more_twice a.steps 1 (step_count q qs) ∙ ap (more_steps a.steps) (omega arith))))
]

-- no more steps are counted than the greatest number
abbrev pub IsCapped : Option Trace → Type 0
IsCapped o = IfSome o (λ (a : Trace). a.steps ≤ 4294967295)

capped_more : (a : Trace) (qs : List Point) → a.steps ≤ 4294967295 → IsCapped (traces (Some a) qs)
capped_more a qs h = rw (traces_is a qs h) (omega arith)

pub capped : (qs : List Point) → IsCapped (traces None qs)
capped [] = tt
capped (q ∷ qs) = capped_more (record { first = q; last = q; steps = 0 }) qs (omega arith)

last_met : (p q : Point) (qs : List Point) → same_point q p ≡ true → last_of p (q ∷ qs) ≡ last_of q qs
unfolding last_of
last_met p q qs met = rw met (ap (λ r. last_of r qs) (sym (same q p (same_point q p) refl met)))

last_other : (p q : Point) (qs : List Point) → same_point q p ≡ false → last_of p (q ∷ qs) ≡ last_of q qs
unfolding last_of
last_other p q qs other = rw other refl

count_met : (p q : Point) (qs : List Point) → same_point q p ≡ true → step_count p (q ∷ qs) ≡ step_count q qs
count_met p q qs met = rw met (ap (λ r. step_count r qs) (sym (same q p (same_point q p) refl met)))

count_other : (p q : Point) (qs : List Point) → same_point q p ≡ false → step_count p (q ∷ qs) ≡ suc (step_count q qs)
count_other p q qs other = rw other refl

steps_met : (m c n : ℕ) (b : Bool) → b ≡ true → c ≡ n → more_steps m c ≡ more_steps (more_steps m (more_steps 0 n)) (cond b 0 1)
steps_met m c n b e is = rw (e, is) (omega arith)

steps_other : (m c n : ℕ) (b : Bool) → b ≡ false → c ≡ suc n → more_steps m c ≡ more_steps (more_steps m (more_steps 0 n)) (cond b 0 1)
steps_other m c n b e is = rw (e, is) (omega arith)

-- the trace of points behind others
pub traces_join : (o : Option Trace) (qs : List Point) → IsCapped o → traces o qs ≡ join_traces o (traces None qs)
traces_join None [] h = refl
traces_join (Some a) [] h = refl
traces_join None (q ∷ qs) h =
    let is = traces_is (record { first = q; last = q; steps = 0 }) qs (omega arith) in
    is ∙ sym (ap (join_traces None) is)
traces_join (Some a) (q ∷ qs) h =
    let behind = traces_is (record { first = q; last = q; steps = 0 }) qs (omega arith) in
    let right = ap (join_traces (Some a)) behind in
    elim (cases_Bool (same_point q a.last)) [
      | inl met ↦ traces_is a (q ∷ qs) h ∙ ap Some (trace_is _ _ refl (last_met a.last q qs met) (steps_met a.steps _ _ (same_point q a.last) met (count_met a.last q qs met))) ∙ sym right
      | inr other ↦ traces_is a (q ∷ qs) h ∙ ap Some (trace_is _ _ refl (last_other a.last q qs other) (steps_other a.steps _ _ (same_point q a.last) other (count_other a.last q qs other))) ∙ sym right
    ]

gap_turned : (a b c : Bool) → ((a || b) || c) ≡ ((a || c) || b)
gap_turned true b c = refl
gap_turned false true true = refl
gap_turned false true false = refl
gap_turned false false true = refl
gap_turned false false false = refl

seen_is : (r s : Seen) → r.trace ≡ s.trace → r.gap ≡ s.gap → r.unused ≡ s.unused → r ≡ s
seen_is r s t g u = λ i. record { trace = t i; gap = g i; unused = u i }

-- is a point used, told by the trace
traced_some : (ps : List (Option Point)) → is_some (traces None (used ps)) ≡ some_used ps
traced_some [] = refl
traced_some (None ∷ ps) = traced_some ps
traced_some (Some p ∷ ps) = rw (traces_is (record { first = p; last = p; steps = 0 }) (used ps) (omega arith)) refl

-- what is seen of pairs is told by their used points and by how they are filled
pub seen_filled : (pairs : List (Option Point)) → seen_by (used pairs) (fill_of pairs) ≡ seen_in pairs
seen_filled pairs = go (has_gap pairs) (some_unused pairs) refl refl
  where
    go : (g u : Bool) → has_gap pairs ≡ g → some_unused pairs ≡ u → seen_by (used pairs) (fill_of pairs) ≡ seen_in pairs
    go true u gap unused = rw (gap, unused_from_gap pairs gap) refl
    go false true gap unused = rw (gap, unused) refl
    go false false gap unused = rw (gap, unused) refl

-- what is seen of pairs behind others
pub join_seen : (ps qs : List (Option Point)) → join (seen_in ps) (seen_in qs) ≡ seen_in (ps ++ qs)
join_seen ps qs =
    let trace : join_traces (traces None (used ps)) (traces None (used qs)) ≡ traces None (used (ps ++ qs)) =
    sym (traces_join (traces None (used ps)) (used qs) (capped (used ps))) ∙ sym (fold-append (λ (t : Option Trace) (p : Point). Some (traced t p)) None (used ps) (used qs)) ∙ ap (traces None) (sym (used-append ps qs)) in
    let gap : ((has_gap ps || has_gap qs) || (some_unused ps && is_some (traces None (used qs)))) ≡ has_gap (ps ++ qs) =
    ap (λ b. (has_gap ps || has_gap qs) || (some_unused ps && b)) (traced_some qs) ∙ gap_turned (has_gap ps) (has_gap qs) (some_unused ps && some_used qs) ∙ sym (has_gap-append ps qs) in
    seen_is _ _ trace gap (sym (some_unused-append ps qs))

abbrev steps_in : Option Trace → ℕ
steps_in None = 0
steps_in (Some a) = a.steps

-- the steps of a chain
pub steps_are : (c : ChainEntry) (pairs : List (Option Point)) → chain_steps c (seen_in pairs) ≡ min (length (points_between c.from pairs c.to) - 1) 4294967295
steps_are c pairs =
    let f : Trace = record { first = c.from; last = c.from; steps = 0 } in
    let rest : List Point = used pairs ++ c.to ∷ [] in
    let joined : join_traces (Some f) (traces None (used pairs)) ≡ traces (Some f) (used pairs) = sym (traces_join (Some f) (used pairs) (omega arith)) in
    let all : Some (traced (join_traces (Some f) (traces None (used pairs))) c.to) ≡ Some (record { first = c.from; last = last_of c.from rest; steps = more_steps 0 (step_count c.from rest) }) =
    ap (λ t. Some (traced t c.to)) joined ∙ sym (fold-append (λ (t : Option Trace) (p : Point). Some (traced t p)) (Some f) (used pairs) (c.to ∷ [])) ∙ traces_is f rest (omega arith) in
    ap steps_in all ∙ omega (arith, ap length (dedup_from-is c.from rest))
