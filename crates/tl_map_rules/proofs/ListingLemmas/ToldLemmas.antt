use Rattle.std.proofs.Common.{◌≡◌, ℕ, zero, suc, Bool, eqb, ◌⊎◌, inl, inr, List, [], ◌∷◌, ◌++◌, length, All, Contains, refl, sym, ap, ◌∙◌, arith}
use Rattle.std.specs.Bool.{Decides}
use Rattle.std.proofs.lemmas.Bool.{eq-eqb, eqb-true}
use Rattle.std.proofs.lemmas.List.{nil_from_length}
use Rattle.std.proofs.lemmas.List.Elements.{All-push, All-weaker, All-contains, All-contains_itself, Contains-append_left, Contains-push}
use Rattle.tl_record.specs.declared.record.Record.{Record}
use Rattle.tl_map_rules.specs.declared.fault.RecordFault.{RecordFault}
use Rattle.tl_map_rules.specs.Faults.{IsTrueOf}
use Rattle.tl_map_rules.specs.Listing.AllFaults.{fault_place}
use Rattle.tl_map_rules.specs.Listing.Keeping.Told.{Tells, AreTold}

-- nothing is to be told
pub tells_none : (P : RecordFault → Type 0) (faults : List RecordFault) → ((f : RecordFault) → ¬ P f) → Tells P faults faults
tells_none P faults none = record {
  each = All-weaker (Contains faults) (λ f. Contains faults f ⊎ P f) (λ f c. inl c) faults (All-contains_itself faults);
  stay = All-contains_itself faults;
  every = λ f p. absurd (none f p);
}

-- what is to be told is the same in other words
pub tells_same : (P Q : RecordFault → Type 0) (old new : List RecordFault) → ((f : RecordFault) → P f → Q f) → ((f : RecordFault) → Q f → P f) → Tells P old new → Tells Q old new
tells_same P Q old new to back h = record {
  each = All-weaker (λ f. Contains old f ⊎ P f) (λ f. Contains old f ⊎ Q f) (λ f c. elim c [ inl a ↦ inl a | inr b ↦ inr (to f b) ]) new h.each;
  stay = h.stay;
  every = λ f q. h.every f (back f q);
}

-- one more fault is told
pub tells_more : (P Q : RecordFault → Type 0) (old new : List RecordFault) (x : RecordFault) → ((f : RecordFault) → P f → Q f) → Q x → ((f : RecordFault) → Q f → P f ⊎ (f ≡ x)) → Tells P old new → Tells Q old (new ++ x ∷ [])
tells_more P Q old new x to here back h = record {
  each = All-push (λ f. Contains old f ⊎ Q f) new x (All-weaker (λ f. Contains old f ⊎ P f) (λ f. Contains old f ⊎ Q f) (λ f c. elim c [ inl a ↦ inl a | inr b ↦ inr (to f b) ]) new h.each) (inr here);
  stay = All-weaker (Contains new) (Contains (new ++ x ∷ [])) (λ f c. Contains-append_left new (x ∷ []) f c) old h.stay;
  every = λ f q. elim (back f q) [
    | inl p ↦ Contains-append_left new (x ∷ []) f (h.every f p)
    | inr same ↦ rw same (Contains-push new x)
  ];
}

cons_cases : (c : ℕ) (cs : List ℕ) (x : ℕ) → Contains (c ∷ cs) x → (c ≡ x) ⊎ Contains cs x
cons_cases c cs x (zero, lt, at) = inl at
cons_cases c cs x (suc k, lt, at) = inr (k, omega arith, at)

-- all faults of one more code are told already
pub told_also : (rs : List Record) (codes : List ℕ) (code : ℕ) (faults : List RecordFault) → ((f : RecordFault) → IsTrueOf rs f → (fault_place f).0 ≡ code → Contains faults f) → AreTold rs codes faults → AreTold rs (code ∷ codes) faults
told_also rs codes code faults all before = record {
  each = before.each;
  every = λ f holds among. elim (cons_cases code codes (fault_place f).0 among) [
    | inl here ↦ all f holds (sym here)
    | inr later ↦ before.every f holds later
  ];
}

-- all faults of one more code are told
pub told_more : (rs : List Record) (codes : List ℕ) (code : ℕ) (P : RecordFault → Type 0) (old new : List RecordFault) → ((f : RecordFault) → P f → IsTrueOf rs f) → ((f : RecordFault) → IsTrueOf rs f → (fault_place f).0 ≡ code → P f) → Tells P old new → AreTold rs codes old → AreTold rs (code ∷ codes) new
told_more rs codes code P old new true all tells before =
    told_also rs codes code new (λ f holds here. tells.every f (all f holds here)) (record {
      each = All-weaker (λ f. Contains old f ⊎ P f) (IsTrueOf rs) (λ f c. elim c [ inl a ↦ All-contains (IsTrueOf rs) old f before.each a | inr b ↦ true f b ]) new tells.each;
      every = λ f holds among. All-contains (Contains new) old f tells.stay (before.every f holds among);
    })

-- of no fault none is told
pub told_none : (rs : List Record) → AreTold rs [] []
told_none rs = record { each = λ k d lt. absurd (omega arith); every = λ f holds among. absurd (omega (arith, among.1)) }

-- where there is nothing to tell nothing is told
pub tells_nothing : (P : RecordFault → Type 0) (old new : List RecordFault) → Tells P old new → old ≡ [] → ((f : RecordFault) → ¬ P f) → new ≡ []
tells_nothing P old [] tells none never = refl
tells_nothing P old (x ∷ new) tells none never = elim (tells.each 0 x (omega arith)) [
  | inl before ↦ absurd (let has = rw none at before in omega (arith, has.1))
  | inr here ↦ absurd (never x here)
]

-- what holds of each fault that was told before, and of each that is told, holds of all
pub told_of : (Q P : RecordFault → Type 0) (old new : List RecordFault) → All Q old → ((f : RecordFault) → P f → Q f) → Tells P old new → All Q new
told_of Q P old new before here tells =
    All-weaker (λ f. Contains old f ⊎ P f) Q (λ f c. elim c [ inl a ↦ All-contains Q old f before a | inr b ↦ here f b ]) new tells.each

-- a list of length 0 is empty
pub empty_items : (b : Bool) (n : ℕ) (xs : List RecordFault) → b ≡ eqb n 0 → n ≡ length xs → Decides b (xs ≡ [])
empty_items b n xs is long = (
  λ e. nil_from_length xs (omega (arith, long, eqb-true n 0 (sym is ∙ e))),
  λ none. is ∙ eq-eqb n 0 (long ∙ ap length none),
)
