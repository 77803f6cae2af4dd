-- What it is to add text to memory.
use Rattle.std.proofs.Common.{◌≡◌, ℕ, false, List, [], ◌++◌, sym, ap, ◌∙◌, append-nil, append_assoc}
use Rattle.tl_cert_output.specs.Pages.{IsAdding}
use Rattle.tigertopo_files.specs.declared.printed.Printed.{Printed}

-- where memory wasn't refused, it wasn't before, and the text is held behind what was
pub record Holds (old new : Printed) (text : List ℕ) : Type 0 where
  pub not_before : new.is_short ≡ false → old.is_short ≡ false
  pub holds : new.is_short ≡ false → new.bytes.items ≡ old.bytes.items ++ text

holds_nothing : {page : Printed} → Holds page page []
holds_nothing {page} = record { not_before = λ is. is; holds = λ is. sym (append-nil page.bytes.items) }

holds_both : {a b c : Printed} {x y : List ℕ} → Holds a b x → Holds b c y → Holds a c (x ++ y)
holds_both {a} {b} {c} {x} {y} one two = record {
  not_before = λ is. one.not_before (two.not_before is);
  holds = λ is. two.holds is ∙ ap (λ l. l ++ y) (one.holds (two.not_before is)) ∙ append_assoc a.bytes.items x y;
}

pub printed_adds : IsAdding Holds
printed_adds = record { nothing = holds_nothing; both = holds_both }
