-- What is said of files without a type 1 record, one after the other.
use Rattle.std.proofs.Common.{◌≡◌, ℕ, zero, suc, ◌+◌, ◌<◌, ◌≤◌, Bool, true, false, ◌||◌, List, [], ◌∷◌, ◌++◌, Option, None, Some, Result, Ok, Err, IfOk, map, length, take, drop, get_or, refl, sym, ap, ap₂, inl, inr, ◌∙◌, arith}
use Rattle.std.specs.List.{list_any}
use Rattle.std.proofs.lemmas.Bool.{cases_Bool}
use Rattle.std.proofs.lemmas.List.{take_all, drop_all, drop_more, length-map, map_more}
use Rattle.std.proofs.lemmas.List.Folds.{list_any_more}
use Rattle.tl_record.specs.Lines.{raw_lines}
use Rattle.tl_cert_output.specs.declared.stop.Stop.{Stop}
use Rattle.tigertopo_files.specs.Files.{Under, bytes_under}
use Rattle.tigertopo_faults.specs.declared.hint.advice.FileForm.{FileForm}
use Rattle.tigertopo_faults.specs.declared.hint.holding.Held.{Held}
use Rattle.tigertopo_faults.specs.declared.hint.holding.Held.TheVariants.{Chains}
use Rattle.tigertopo_faults.specs.Hint.Advice.{Asker, form_of}
use Rattle.tigertopo_faults.specs.Hint.Hints.{first_bytes}
use Rattle.tigertopo_faults.specs.Hint.Telling.{HaveTexts, TellsUnread}
use Rattle.tigertopo_faults.specs.Hint.Unread.{IsHeld, files_text, held_by, held_of, holds_chain, is_read, more_text, told_text, unread_text}
use Rattle.tigertopo_faults.proofs.HintLemmas.HintLemmas.{same_count, text_at}
use Rattle.tigertopo_faults.proofs.HintLemmas.KindLemmas.{or_true}

-- a text with such a line holds chains
chain_held : (text : List ℕ) → holds_chain text ≡ true → held_of text ≡ Chains
chain_held text there = rw there refl

other_held : (any : Bool) (form : Option FileForm) → held_by (Some any) form ≡ Chains → ⊥
other_held false form is = let wrong = is in absurd (cc)
other_held true None is = let wrong = is in absurd (cc)
other_held true (Some form) is = let wrong = is in absurd (cc)

held_chain : (text : List ℕ) → held_of text ≡ Chains → holds_chain text ≡ true
held_chain text is = elim (cases_Bool (holds_chain text)) [
  | inl there ↦ there
  | inr none ↦ absurd (other_held (list_any is_read (raw_lines text)) (form_of (first_bytes text)) (rw none at is))
]

not_held : (text : List ℕ) (held : Held) → held ≡ held_of text → (held ≡ Chains → ⊥) → holds_chain text ≡ false
not_held text held is other = elim (cases_Bool (holds_chain text)) [
  | inl there ↦ absurd (other (is ∙ chain_held text there))
  | inr none ↦ none
]

any_there : (texts : List (List ℕ)) (i : ℕ) → i < length texts → holds_chain (get_or texts i []) ≡ true → list_any holds_chain texts ≡ true
any_there [] i within there = absurd (omega arith)
any_there (text ∷ texts) zero within there = rw there refl
any_there (text ∷ texts) (suc i) within there = ap (λ (b : Bool). holds_chain text || b) (any_there texts i (omega arith) there) ∙ or_true (holds_chain text)

module _ {A : Type 0} (h : A → List ℕ) (by : Asker) (under : Under) (names : List A) (texts : List (List ℕ)) (have : HaveTexts under (map h names) texts) where
  -- this is held by so many files, none of which has such a line
  abbrev pub AreHeldBy : ℕ → List Held → Type 0
  AreHeldBy i held = (list_any holds_chain (take i texts) ≡ false) × (held ≡ map held_of (take i texts))

  held_at : (i : ℕ) (name : A) (held : Held) → i < length names → name ≡ get_or names i name → IsHeld (bytes_under under (h name)) held → held ≡ held_of (get_or texts i [])
  held_at i name held within is holds = let at = text_at h under names texts i name within is have in rw at at holds

  pub held_more : (i : ℕ) (name : A) (held : Held) (old new : List Held) → i < length names → name ≡ get_or names i name → IsHeld (bytes_under under (h name)) held → (held ≡ Chains → ⊥)
      → new ≡ old ++ held ∷ [] → AreHeldBy i old → AreHeldBy (i + 1) new
  held_more i name held old new within is holds other made so_far =
      let size = same_count h under names texts have in
      let there : i < length texts = omega (arith, size, within) in
      let text = get_or texts i [] in
      let held_is : held ≡ held_of text = held_at i name held within is holds in (
        list_any_more holds_chain texts i [] there ∙ ap (λ (b : Bool). b || holds_chain text) so_far.0 ∙ not_held text held held_is other,
        made ∙ ap (λ (l : List Held). l ++ held ∷ []) so_far.1 ∙ ap (λ (k : Held). map held_of (take i texts) ++ k ∷ []) held_is ∙ sym (map_more held_of texts i [] there),
      )

  pub held_chain_first : (i : ℕ) (name : A) (held : Held) → i < length names → name ≡ get_or names i name → IsHeld (bytes_under under (h name)) held → held ≡ Chains → [] ≡ unread_text by (map h names) texts
  held_chain_first i name held within is holds chains =
      let size = same_count h under names texts have in
      let there : i < length texts = omega (arith, size, within) in
      let here : holds_chain (get_or texts i []) ≡ true = held_chain (get_or texts i []) (sym (held_at i name held within is holds) ∙ chains) in
      let all : list_any holds_chain texts ≡ true = any_there texts i there here in
      rw all refl

  pub held_all : (i : ℕ) (held : List Held) (made : List ℕ) → length names ≤ i → made ≡ files_text by 0 (map h names) held ++ more_text (length names) → AreHeldBy i held → made ≡ unread_text by (map h names) texts
  held_all i held made past is so_far =
      let size = same_count h under names texts have in
      let whole : take i texts ≡ texts = take_all i texts (omega (arith, size, past)) in
      let none : list_any holds_chain texts ≡ false = sym (ap (list_any holds_chain) whole) ∙ so_far.0 in
      let count : length (map h names) ≡ length names = length-map names h in
      rw (none, count) (is ∙ ap (λ (l : List Held). files_text by 0 (map h names) l ++ more_text (length names)) (so_far.1 ∙ ap (map held_of) whole))

-- what is said of all, if it could be made
pub all_told : {A T : Type 0} (h : A → List ℕ) (by : Asker) (under : Under) (names : List A) (i : ℕ) (held : List Held) (made : T → List ℕ) (r : Result T Stop) → length names ≤ i
    → ((texts : List (List ℕ)) (have : HaveTexts under (map h names) texts) → AreHeldBy h by under names texts have i held)
    → IfOk r (λ t. made t ≡ files_text by 0 (map h names) held ++ more_text (length names)) → IfOk r (λ t. TellsUnread by under (map h names) (λ told. made t ≡ told))
all_told h by under names i held made (Ok t) past are is = λ texts have. held_all h by under names texts have i held (made t) past is (are texts have)
all_told h by under names i held made (Err stop) past are is = tt

-- what is said of a file before what is said of those behind it
pub file_next : {A : Type 0} (h : A → List ℕ) (by : Asker) (names : List A) (held : List Held) (i : ℕ) (name : A) (d : Held) → i < length names → i < length held → name ≡ get_or names i name
    → files_text by i (map h (drop i names)) (drop i held) ≡ told_text by i (h name) (get_or held i d) ++ files_text by (i + 1) (map h (drop (i + 1) names)) (drop (i + 1) held)
file_next {A = A} h by names held i name d within there is =
    rw is (ap₂ (λ (ns : List A) (hs : List Held). files_text by i (map h ns) hs) (drop_more names i name within) (drop_more held i d there))

pub files_end : {A : Type 0} (h : A → List ℕ) (by : Asker) (names : List A) (held : List Held) (i : ℕ) → length names ≤ i → files_text by i (map h (drop i names)) (drop i held) ≡ []
files_end {A = A} h by names held i past = ap (λ (ns : List A). files_text by i (map h ns) (drop i held)) (drop_all i names past)
