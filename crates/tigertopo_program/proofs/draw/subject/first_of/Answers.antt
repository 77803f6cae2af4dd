use Rattle.std.proofs.Common.{None, inl, inr, refl, sym, subst, ◌∙◌}
use Rattle.tl_list_text.specs.declared.listing.Listing.{Listing}
use Rattle.tl_list.specs.Findings.{BeginWithRecords, SaysWhy}
use Rattle.tigertopo_program.specs.Draw.Keeping.{listed_faults}
use Rattle.tigertopo_program.proofs.draw.subject.first_of.Goals as goal

pub first_fault-requires : goal.first_fault-requires
first_fault-requires c =
    subst BeginWithRecords (sym (c.as_slice-in-Sound.ensures.value ∙ c.faults_of-faults.ensures)) (elim c.in-Sound.is [
      | inl sound ↦ absurd (subst (SaysWhy None) sound.1 c.requires refl)
      | inr faults ↦ subst (λ (l : Listing). BeginWithRecords (listed_faults l)) (sym faults.2) (subst (SaysWhy None) faults.2 c.requires refl)
    ])
