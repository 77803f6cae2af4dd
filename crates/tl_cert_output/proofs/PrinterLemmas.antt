-- One text printed behind another, from the beginning to the end.
use Rattle.std.proofs.Common.{◌≡◌, ℕ, false, List, [], ◌++◌, Option, Result, Ok, Err, refl, sym, ap, subst, ◌∙◌, append-nil}
use Rattle.std.specs.Prelude.{IfErr}
use Rattle.std.specs.Io.KnownBytes.{Appends}
use Rattle.tl_cert_output.specs.declared.stop.Stop.{Stop}
use Rattle.tl_cert_output.specs.declared.stop.Stop.TheVariants.{Record, Memory, Device, Budget}
use Rattle.tl_cert_output.specs.Writing.{PassesSome, WritesSome}
use Rattle.tl_cert_output.specs.Texts.{PrintsText}
use Rattle.tl_cert_output.specs.Printed.{Printed}
use Rattle.tl_cert_output.specs.Printing.{Prints, ended}
use Rattle.tl_cert_output.specs.PageLaws.{both}
use Rattle.tl_cert_output.proofs.WritingLemmas.{writes_some}

module _ {S : Type 0} (C : S → Option (List ℕ)) (F : S → ℕ) (a c : S) (p : Printed) (text : List ℕ) where
  ends : {T : Type 0} (r : Result T Stop) → p.failed ≡ false → p.held ≡ [] → Prints C F (a, p) (c, ended r) text → IfErr r (λ stop. stop ≡ Device) → PrintsText C F a c text r
  ends (Ok done) from none prints stop =
      let whole = prints.passes from refl in
      record {
        grown = subst (Appends (C a) (C c)) (sym (append-nil whole.0.taken) ∙ whole.0.whole ∙ ap (λ held. held ++ text) none) whole.0.grown;
        no_failure = whole.1;
      }
  ends (Err Device) from none prints stop =
      let some = prints.fails from refl in
      writes_some C F a c text (subst (λ held. PassesSome (C a) (C c) held text) none some.0) some.1
  ends (Err (Record line cause)) from none prints stop = absurd (cc stop)
  ends (Err Memory) from none prints stop = absurd (cc stop)
  ends (Err Budget) from none prints stop = absurd (cc stop)

-- a text that was printed from the beginning to the end
pub ends_text : {S T : Type 0} {C : S → Option (List ℕ)} {F : S → ℕ} {a c : S} {p q : S × Printed} {text : List ℕ} (r : Result T Stop) → p ≡ (a, record { held = []; failed = false })
    → Prints C F p q text → Prints C F q (c, ended r) [] → IfErr r (λ stop. stop ≡ Device) → PrintsText C F a c text r
ends_text {C = C} {F = F} {a = a} {c = c} {q = q} {text = text} r new prints last stop =
    let begins = subst (λ p. Prints C F p q text) new prints in
    ends C F a c (record { held = []; failed = false }) text r refl refl (subst (Prints C F (a, record { held = []; failed = false }) (c, ended r)) (append-nil text) (both begins last)) stop

-- one that wasn't, since a write failed
pub some_text : {S : Type 0} {C : S → Option (List ℕ)} {F : S → ℕ} {a c : S} {text : List ℕ} (T : Type 0) (stop : Stop) → stop ≡ Device → PrintsText {T = T} C F a c text (Err stop) → WritesSome C F a c text
some_text {C = C} {F = F} {a = a} {c = c} {text = text} T stop device prints = subst (λ s. PrintsText {T = T} C F a c text (Err s)) device prints
