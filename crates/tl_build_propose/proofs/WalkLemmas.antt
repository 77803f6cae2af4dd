-- Walks along a list in which no dart stands twice come back to their first dart.
use Rattle.std.proofs.Common.{◌≡◌, ◌≢◌, ◌⊎◌, inl, inr, ℕ, zero, suc, ◌+◌, ◌-◌, ◌<◌, arith, Bool, true, false, List, [], ◌∷◌, ◌++◌, length, set, get_or, refl, ap, sym, subst, ◌∙◌, length-append}
use Rattle.std.specs.Prelude.{slice_index}
use Rattle.std.proofs.lemmas.Bool.{cases_lt}
use Rattle.std.proofs.lemmas.List.{get_or_append_left, get_or-append-add}
use Rattle.tl_tree_index.specs.Keeping.Marked.{mark_at}
use Rattle.tl_tree_index.proofs.Times.{same_or}
use Rattle.tl_tree_index.proofs.Marks.{unmarked}
use Rattle.tl_build_propose.specs.Keeping.Following.{IsOneToOne, FollowsTaken, AreFollowed, GoesBy}
use Rattle.tl_build_propose.proofs.MarkFacts.{mark_same, mark_other}

-- the last dart of a walk
abbrev pub last_of : List ℕ → ℕ
last_of walk = slice_index walk (length walk - 1)

-- the dart follows one that is taken and isn't the last of the walk
pub record FollowsOther (following : List ℕ) (taken : List Bool) (walk : List ℕ) (x : ℕ) : Type 0 where
  pub one : FollowsTaken following taken x
  pub not_last : 0 < length walk → one.dart ≢ last_of walk

-- the walk from its first dart up to the next one
pub record GoesSoFar (following : List ℕ) (old taken : List Bool) (walk : List ℕ) (first dart : ℕ) : Type 0 where
  pub path : (k : ℕ) → suc k < length walk → slice_index walk (suc k) ≡ slice_index following (slice_index walk k)
  pub begins : 0 < length walk → slice_index walk 0 ≡ first
  pub none_yet : length walk ≡ 0 → dart ≡ first
  pub leads : 0 < length walk → slice_index following (last_of walk) ≡ dart
  pub last_within : 0 < length walk → last_of walk < length following
  pub last_taken : 0 < length walk → mark_at taken (last_of walk) ≡ 1
  pub behind : AreFollowed following old → (x : ℕ) → mark_at taken x ≡ 1 → (x ≡ first) ⊎ FollowsOther following taken walk x

pub begin : (following : List ℕ) (taken : List Bool) (first : ℕ) → GoesSoFar following taken taken [] first first
begin following taken first = record {
  path = λ k h. absurd (omega (arith, h));
  begins = λ h. absurd (omega (arith, h));
  none_yet = λ e. refl;
  leads = λ h. absurd (omega (arith, h));
  last_within = λ h. absurd (omega (arith, h));
  last_taken = λ h. absurd (omega (arith, h));
  behind = λ followed x h. inr (record { one = followed x h; not_last = λ some. absurd (omega (arith, some)) });
}

module _ (following : List ℕ) (old taken : List Bool) (walk : List ℕ) (first dart : ℕ) (goes : GoesSoFar following old taken walk first dart) where
  -- ---- one dart more

  module _ (is_dart : dart < length following) (within : dart < length taken) (free : get_or taken dart false ≡ false) where
    abbrev pub longer : List ℕ
    longer = walk ++ dart ∷ []

    abbrev pub marks : List Bool
    marks = set taken dart true

    long : length longer ≡ length walk + 1
    long = length-append walk (dart ∷ [])

    old_at : (k : ℕ) → k < length walk → slice_index longer k ≡ slice_index walk k
    old_at k h = get_or_append_left walk (dart ∷ []) 0 k h

    new_at : slice_index longer (length walk) ≡ dart
    new_at =
        let e : length walk ≡ length walk + 0 = omega arith in
        ap (slice_index (walk ++ dart ∷ [])) e ∙ get_or-append-add walk (dart ∷ []) 0 0

    last_is : last_of longer ≡ dart
    last_is =
        let e : length longer - 1 ≡ length walk = omega (arith, long) in
        ap (slice_index longer) e ∙ new_at

    still : (x : ℕ) → mark_at taken x ≡ 1 → mark_at marks x ≡ 1
    still x h = same_or x dart (λ e. rw e (mark_same taken dart within)) (λ ne. mark_other taken dart x ne ∙ h)

    taken_here : mark_at marks dart ≡ 1
    taken_here = mark_same taken dart within

    was_taken : (x : ℕ) → x ≢ dart → mark_at marks x ≡ 1 → mark_at taken x ≡ 1
    was_taken x ne h = sym (mark_other taken dart x ne) ∙ h

    none : mark_at taken dart ≡ 0
    none = unmarked taken dart free

    still_follows : (x : ℕ) → FollowsTaken following taken x → FollowsOther following marks longer x
    still_follows x f = record {
      one = record { dart = f.dart; within = f.within; is_taken = still f.dart f.is_taken; leads = f.leads };
      not_last = λ some same. absurd (omega (arith, none, ap (mark_at taken) (same ∙ last_is), f.is_taken));
    }

    pub one_more : GoesSoFar following old marks longer first (slice_index following dart)
    one_more = record {
      path = λ k h. elim (cases_lt (suc k) (length walk)) [
        | inl inside ↦ old_at (suc k) inside ∙ (goes.path k inside ∙ ap (slice_index following) (sym (old_at k (omega (arith, inside)))))
        | inr outside ↦
            let here : suc k ≡ length walk = omega (arith, long, h, outside) in
            let down : length walk - 1 ≡ k = omega (arith, here) in
            let some : 0 < length walk = omega (arith, here) in
            ap (slice_index longer) here ∙ (new_at ∙ (sym (goes.leads some)
            ∙ ap (slice_index following) (ap (slice_index walk) down ∙ sym (old_at k (omega (arith, here))))))
      ];
      begins = λ h. elim (cases_lt 0 (length walk)) [
        | inl some ↦ old_at 0 some ∙ goes.begins some
        | inr not ↦
            let empty : 0 ≡ length walk = omega (arith, not) in
            ap (slice_index longer) empty ∙ (new_at ∙ goes.none_yet (sym empty))
      ];
      none_yet = λ e. absurd (omega (arith, long, e));
      leads = λ h. ap (slice_index following) last_is;
      last_within = λ h. subst (λ d. d < length following) (sym last_is) is_dart;
      last_taken = λ h. ap (mark_at marks) last_is ∙ taken_here;
      behind = λ followed x h. same_or x dart
          (λ e. elim (cases_lt 0 (length walk)) [
            | inl some ↦ inr (still_follows x (record { dart = last_of walk; within = goes.last_within some; is_taken = goes.last_taken some; leads = goes.leads some ∙ sym e }))
            | inr not ↦
                let empty : length walk ≡ 0 = omega (arith, not) in
                inl (e ∙ goes.none_yet empty)
          ])
          (λ ne. elim (goes.behind followed x (was_taken x ne h)) [ inl e ↦ inl e | inr f ↦ inr (still_follows x f.one) ]);
    }

  -- ---- the next dart is taken already

  module _ (some : 0 < length walk) (is_taken : mark_at taken dart ≡ 1) (one_to_one : IsOneToOne following) (followed : AreFollowed following old) where
    closes : dart ≡ first
    closes = elim (goes.behind followed dart is_taken) [
      | inl e ↦ e
      | inr f ↦ absurd (f.not_last some (one_to_one f.one.dart (last_of walk) f.one.within (goes.last_within some) (f.one.leads ∙ sym (goes.leads some))))
    ]

    pub goes_round : GoesBy following walk
    goes_round zero h = goes.begins some ∙ (sym closes ∙ sym (goes.leads some))
    goes_round (suc k) h = goes.path k h

    pub are_followed : AreFollowed following taken
    are_followed x h = elim (goes.behind followed x h) [
      | inl e ↦ record { dart = last_of walk; within = goes.last_within some; is_taken = goes.last_taken some; leads = goes.leads some ∙ (closes ∙ sym e) }
      | inr f ↦ f.one
    ]
