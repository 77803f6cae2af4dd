-- Certificates whose counts and trees begin one text have one, counts and tree.
use Rattle.std.proofs.Common.{◌≡◌, ℕ, ◌⊎◌, inl, inr, List, [], ◌∷◌, ◌++◌, refl, sym, ◌∙◌, append_assoc, append-nil}
use Rattle.tl_record.specs.Lines.{line_feed, joined_lines, HoldNoLineFeed}
use Rattle.tl_cert.specs.declared.place.NextPart.TheVariants.{Treed}
use Rattle.tl_cert.specs.Certificates.{TheCertificate, IsCertificate}
use Rattle.tl_cert.specs.Given.{given_lines}
use Rattle.tl_cert.specs.Keeping.Steps.{start, tree}
use Rattle.tl_cert.proofs.JoinedLines.{line_apart, run_holds}
use Rattle.tl_cert.proofs.OneText.{leading_only}
use Rattle.tl_cert.proofs.ReaderLemmas.{front_runs}

-- lines that begin one text: one's are the other's, and others behind them
lines_apart : (xs ys : List (List ℕ)) (p q : List ℕ) → HoldNoLineFeed xs → HoldNoLineFeed ys → joined_lines xs ++ p ≡ joined_lines ys ++ q
    → ((more : List (List ℕ)) × (xs ≡ ys ++ more)) ⊎ ((more : List (List ℕ)) × (ys ≡ xs ++ more))
lines_apart [] ys p q hold held same = inr (ys, refl)
lines_apart (x ∷ xs) [] p q hold held same = inl (x ∷ xs, refl)
lines_apart (x ∷ xs) (y ∷ ys) p q hold held same =
    let parts = line_apart x y (joined_lines xs ++ p) (joined_lines ys ++ q) hold.0 held.0
    (sym (append_assoc x (line_feed ∷ joined_lines xs) p) ∙ same ∙ append_assoc y (line_feed ∷ joined_lines ys) q) in
    elim (lines_apart xs ys p q hold.1 held.1 parts.1) [
      | inl more ↦ inl (more.0, cc (parts.0, more.1))
      | inr more ↦ inr (more.0, cc (parts.0, more.1))
    ]

pub one_beginning : (c d : TheCertificate) (p q : List ℕ) → IsCertificate c → IsCertificate d
    → joined_lines (given_lines (Treed c.version) c) ++ p ≡ joined_lines (given_lines (Treed d.version) d) ++ q → (c.counts ≡ d.counts) × (c.tree ≡ d.tree)
one_beginning c d p q is too same =
    let ours = given_lines (Treed c.version) c in
    let theirs = given_lines (Treed d.version) d in
    elim (lines_apart ours theirs p q (run_holds start (tree c.version 0 0 0) ours (front_runs c is)) (run_holds start (tree d.version 0 0 0) theirs (front_runs d too)) same) [
      | inl more ↦ leading_only c d [] more.0 is too (append-nil ours ∙ more.1)
      | inr more ↦ leading_only c d more.0 [] is too (sym (append-nil theirs ∙ more.1))
    ]
