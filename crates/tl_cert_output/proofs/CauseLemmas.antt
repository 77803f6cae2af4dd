-- A cause by its row.
use Rattle.std.proofs.Common.{◌≡◌, ℕ, List, ◌++◌, Option, None, Some, codes, sym, ap, ap₂, ◌∙◌, append-nil}
use Rattle.tl_record.specs.declared.stop.Field.{Field}
use Rattle.tl_record.specs.declared.stop.Cause.{Cause}
use Rattle.tl_record.specs.Messages.{cause_row, cause_text, field_behind, field_text}

abbrev told : List ℕ × List ℕ × Option Field → List ℕ
told row = row.0 ++ codes " " ++ row.1 ++ field_behind row.2

pub with_field : (cause : Cause) (code name code_bytes name_bytes : List ℕ) (about : Option Field) (field : Field) → (code, name, about) ≡ cause_row cause → about ≡ Some field
    → code_bytes ≡ code → name_bytes ≡ name → code_bytes ++ codes " " ++ name_bytes ++ (codes " " ++ field_text field) ≡ cause_text cause
with_field cause code name code_bytes name_bytes about field row is first second =
    ap₂ (λ x y. x ++ codes " " ++ y ++ field_behind (Some field)) first second ∙ ap (λ f. told (code, name, f)) (sym is) ∙ ap told row

pub without_field : (cause : Cause) (code name code_bytes name_bytes : List ℕ) (about : Option Field) → (code, name, about) ≡ cause_row cause → about ≡ None
    → code_bytes ≡ code → name_bytes ≡ name → code_bytes ++ codes " " ++ name_bytes ≡ cause_text cause
without_field cause code name code_bytes name_bytes about row is first second =
    ap₂ (λ x y. x ++ codes " " ++ y) first second ∙ sym (append-nil (code ++ codes " " ++ name)) ∙ ap (λ f. told (code, name, f)) (sym is) ∙ ap told row
