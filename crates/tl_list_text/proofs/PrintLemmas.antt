-- Lines that are printed one after the other.
use Rattle.std.proofs.Common.{◌≡◌, ℕ, ◌+◌, ◌<◌, List, [], ◌∷◌, ◌++◌, length, take, get_or, refl, sym, ap, ◌∙◌, append_assoc, append-nil, add-one}
use Rattle.std.proofs.Math.Seq.{take-suc}
use Rattle.tl_cert_output.specs.Writing.{line_of}
use Rattle.tl_list_text.specs.Texts.{lines}

module _ {A : Type 0} (text : A → List ℕ) where
  lines-append : (xs ys : List A) → lines text (xs ++ ys) ≡ lines text xs ++ lines text ys
  lines-append [] ys = refl
  lines-append (x ∷ xs) ys = ap (λ l. line_of (text x) ++ l) (lines-append xs ys) ∙ sym (append_assoc (line_of (text x)) (lines text xs) (lines text ys))

  -- one line more
  pub lines-next : (list : List A) (i : ℕ) (d : A) → i < length list
      → lines text (take (i + 1) list) ≡ lines text (take i list) ++ line_of (text (get_or list i d))
  lines-next list i d within = rw (add-one, take-suc list i d, lines-append, append-nil) refl
