-- What is given for arguments, however it is told.
use Rattle.std.proofs.Common.{◌≡◌, ◌<◌, true, false, length, List, Option, Some, None, refl, sym}
use Rattle.std.proofs.Common.{ap, subst, ◌∙◌, map, option_map, arith, Global, Bor}
use Rattle.std.specs.Prelude.{String, string_bytes, MatchOption, Bool}
use Rattle.std.proofs.lemmas.List.{length-map}
use Rattle.clap.specs.Walk.{Text}
use Rattle.tigertopo_words.specs.Arguments.{AreSome, IsSwitch, AskForTold, AskForFaults, IsView, FacesNeedFaults}
use Rattle.tigertopo_words.specs.declared.asked.View.{View}
use Rattle.tigertopo_words.specs.declared.budget.Told.{Told}

-- texts that were not given, and ones that were but are none
pub none_given : (o : Option (Bor (List (Bor Text)))) (given : Option (List Text)) (files : List Text) → option_map (λ s. map (λ v. v.now) s.now) o ≡ given → o ≡ None → AreSome given files → ⊥
none_given o given files same none are = cc (ap (option_map (λ s. map (λ v. v.now) s.now)) none, same, are.0)

pub some_given : (o : Option (Bor (List (Bor Text)))) (given : Option (List Text)) (names : Bor (List (Bor Text))) → option_map (λ s. map (λ v. v.now) s.now) o ≡ given → o ≡ Some names → given ≡ Some (map (λ v. v.now) names.now)
some_given o given names same some = sym same ∙ ap (option_map (λ s. map (λ v. v.now) s.now)) some

is_text : (one two : List Text) → Some one ≡ Some two → one ≡ two
is_text one two e = cc e

pub empty_given : (given : Option (List Text)) (names : List (Bor Text)) (files : List Text) → given ≡ Some (map (λ v. v.now) names) → length names ≡ 0 → AreSome given files → ⊥
empty_given given names files is none are =
    let same : map (λ v. v.now) names ≡ files = is_text _ _ (sym is ∙ are.0) in
    let long : length (map (λ v. v.now) names) ≡ length files = ap length same in
    let some = are.1 in
    omega (arith, none, some, long, length-map names (λ v. v.now))

-- files of which there are some were given, and are as many as their names
pub are_given : (given : Option (List Text)) (names : List (Bor Text)) (files : List (String Global)) → given ≡ Some (map (λ v. v.now) names) → map string_bytes files ≡ map (λ v. v.now) names → 0 < length names
    → AreSome given (map string_bytes files)
are_given given names files is same some =
    let long : length (map string_bytes files) ≡ length (map (λ v. v.now) names) = ap length same in
    (is ∙ ap Some (sym same), omega (arith, some, long, length-map names (λ v. v.now)))

-- a text that was not given, and one that was
pub not_given : (o : Option (Bor Text)) (given : Option Text) → option_map (λ v. v.now) o ≡ given → o ≡ None → given ≡ None
not_given o given same none = sym same ∙ ap (option_map (λ v. v.now)) none

pub is_given : (o : Option (Bor Text)) (given : Option Text) (v : Bor Text) → option_map (λ v. v.now) o ≡ given → o ≡ Some v → given ≡ Some v.now
is_given o given v same is = sym same ∙ ap (option_map (λ v. v.now)) is

-- the same, of a text's copy
pub word_given : (word : Option (String Global)) (given : Option Text) (made : String Global) → option_map string_bytes word ≡ given → word ≡ Some made → given ≡ Some (string_bytes made)
word_given word given made same is = sym same ∙ ap (option_map string_bytes) is

-- what was given is the same, however it is told
pub told_the_same : (result : Option Told) (all each most number skipped passed : Option Text) → all ≡ each → most ≡ number → skipped ≡ passed
    → MatchOption result (¬ AskForFaults all most skipped) (AskForTold all most skipped) → MatchOption result (¬ AskForFaults each number passed) (AskForTold each number passed)
told_the_same result all each most number skipped passed e f h told =
    subst (λ (given : Option Text). MatchOption result (¬ AskForFaults each number given) (AskForTold each number given)) h
    (subst (λ (given : Option Text). MatchOption result (¬ AskForFaults each given skipped) (AskForTold each given skipped)) f
    (subst (λ (given : Option Text). MatchOption result (¬ AskForFaults given most skipped) (AskForTold given most skipped)) e told))

pub seen_the_same : (view : Option View) (at center wide width : Option Text) → at ≡ center → wide ≡ width → IsView at wide view → IsView center width view
seen_the_same view at center wide width e f seen =
    subst (λ (given : Option Text). IsView center given view) f (subst (λ (given : Option Text). IsView given wide view) e seen)

-- a picture that asks for faults may ask for faces, and so may one that asks for no faces
pub with_faults : (one other : Option Text) (faults : Bool) → IsSwitch other faults → faults ≡ true → FacesNeedFaults one other
with_faults one other true shown right = λ is. shown.0 refl
with_faults one other false shown right = absurd (cc right)

pub without_faces : (one other : Option Text) (faces : Bool) → IsSwitch one faces → faces ≡ false → FacesNeedFaults one other
without_faces one other true faced right = absurd (cc right)
without_faces one other false faced right = λ is. absurd (cc (faced.1 is))
