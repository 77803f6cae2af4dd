-- Why what a printer adds is added as a page's text is: one text printed behind another is both together.
use Rattle.std.proofs.Common.{◌≡◌, ℕ, Bool, true, false, List, [], ◌++◌, Option, Some, None, refl, sym, ap, subst, ◌∙◌, append-nil, append_assoc}
use Rattle.std.proofs.KnownBytes.{Appends-trans}
use Rattle.tl_record.specs.Failures.{one_more}
use Rattle.tl_cert_output.specs.Writing.{PassesOn, PassesSome, FailsToWrite}
use Rattle.tl_cert_output.specs.declared.printer.Printer.{Printer}
use Rattle.tl_cert_output.specs.Pages.{IsAdding}
use Rattle.tl_cert_output.specs.Printed.{Printed}
use Rattle.tl_cert_output.specs.Printing.{Adds, Prints, stands}

-- what was held is gone, and the text behind it too
pub passes_some_more : (old new : Option (List ℕ)) (held text more : List ℕ) → PassesSome old new held text → PassesSome old new held (text ++ more)
passes_some_more old new held text more some =
    let p = some.passes in
    record {
      lost = some.lost ++ more;
      passes = record {
        taken = p.taken;
        grown = p.grown;
        whole = sym (append_assoc p.taken some.lost more) ∙ ap (λ l. l ++ more) p.whole ∙ append_assoc held text more;
      };
    }

-- one text is passed on behind another
pub passes_both : (old mid new : Option (List ℕ)) (held kept last front behind : List ℕ) → PassesOn old mid held kept front
    → PassesOn mid new kept last behind → PassesOn old new held last (front ++ behind)
passes_both old mid new held kept last front behind p q =
    record {
      taken = p.taken ++ q.taken;
      grown = Appends-trans old mid new p.taken q.taken p.grown q.grown;
      whole =
          append_assoc p.taken q.taken last
          ∙ ap (λ l. p.taken ++ l) q.whole
          ∙ sym (append_assoc p.taken kept behind)
          ∙ ap (λ l. l ++ behind) p.whole
          ∙ append_assoc held front behind;
    }

-- one text is passed on whole, and another behind it isn't
pub passes_some_then : (old mid new : Option (List ℕ)) (held kept front behind : List ℕ) → PassesOn old mid held kept front
    → PassesSome mid new kept behind → PassesSome old new held (front ++ behind)
passes_some_then old mid new held kept front behind p q =
    record { lost = q.lost; passes = passes_both old mid new held kept q.lost front behind p q.passes }

passes_nothing : (o : Option (List ℕ)) (held : List ℕ) → PassesOn o o held held []
passes_nothing None held = record { taken = []; grown = tt; whole = sym (append-nil held) }
passes_nothing (Some bytes) held = record { taken = []; grown = sym (append-nil bytes); whole = sym (append-nil held) }

module _ {S : Type 0} {C : S → Option (List ℕ)} {F : S → ℕ} where
  passes_two : (a b c : S × Printed) (x y : List ℕ) (fails : Bool) → b.1.failed ≡ fails → Prints C F a b x → Prints C F b c y → a.1.failed ≡ false → c.1.failed ≡ false
      → PassesOn (C a.0) (C c.0) a.1.held c.1.held (x ++ y) × (F c.0 ≡ F a.0)
  passes_two a b c x y false mid one two from to =
      let p = one.passes from mid in
      let q = two.passes mid to in
      (passes_both _ _ _ _ _ _ _ _ p.0 q.0, q.1 ∙ p.1)
  passes_two a b c x y true mid one two from to = absurd (cc (to, (two.stays mid).0))

  fails_two : (a b c : S × Printed) (x y : List ℕ) (fails : Bool) → b.1.failed ≡ fails → Prints C F a b x → Prints C F b c y → a.1.failed ≡ false → c.1.failed ≡ true
      → PassesSome (C a.0) (C c.0) a.1.held (x ++ y) × FailsToWrite F a.0 c.0
  fails_two a b c x y false mid one two from to =
      let p = one.passes from mid in
      let q = two.fails mid to in
      (passes_some_then _ _ _ _ _ _ _ p.0 q.0, q.1 ∙ ap one_more p.1)
  fails_two a b c x y true mid one two from to =
      let p = one.fails from mid in
      let same = sym (two.stays mid).1 in
      (subst (λ s. PassesSome (C a.0) (C s) a.1.held (x ++ y)) same (passes_some_more _ _ _ _ y p.0), subst (FailsToWrite F a.0) same p.1)

  -- one text behind another
  pub both : {a b c : S × Printed} {x y : List ℕ} → Prints C F a b x → Prints C F b c y → Prints C F a c (x ++ y)
  both {a} {b} {c} {x} {y} one two = record {
    passes = passes_two a b c x y b.1.failed refl one two;
    fails = fails_two a b c x y b.1.failed refl one two;
    stays = λ from.
        let p = one.stays from in
        let q = two.stays p.0 in
        (q.0, q.1 ∙ p.1);
  }

  -- nothing is printed
  pub nothing : (s : S) (p : Printed) → Prints C F (s, p) (s, p) []
  nothing s p = record {
    passes = λ from to. (passes_nothing (C s) p.held, refl);
    fails = λ from to. absurd (cc (from, to));
    stays = λ from. (from, refl);
  }

module _ {S : Type 0} {C : S → Option (List ℕ)} {F : S → ℕ} where
  pub adds_nothing : {page : Printer S} → Adds C F page page []
  adds_nothing {page} = record { same = refl; prints = nothing (stands page).0 (stands page).1 }

  pub adds_both : {a b c : Printer S} {x y : List ℕ} → Adds C F a b x → Adds C F b c y → Adds C F a c (x ++ y)
  adds_both one two = record { same = two.same ∙ one.same; prints = both one.prints two.prints }

pub printer_adds : {S : Type 0} (contents : S → Option (List ℕ)) (failures : S → ℕ) → IsAdding {P = Printer S} (Adds contents failures)
printer_adds contents failures = record { nothing = adds_nothing; both = adds_both }
