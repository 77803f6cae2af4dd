use Rattle.std.proofs.Common.{[], ◌∙◌, rules}
use Rattle.tl_cert_output.specs.Printing.{Prints, stands}
use Rattle.tl_cert_output.specs.PageLaws.{both}
use Rattle.tl_cert_output.proofs.printer.PrinterPage.add.Goals as goal

pub returns-then-is_err : goal.returns-then-is_err
returns-then-is_err g c =
    let written : Prints g.S.Sink.contents g.S.Sink.failure_count (stands c.args.self.now) (stands c.flush.new.self) [] = search rules in
    record { same = c.add_to_none.ensures.same ∙ c.flush.ensures.same; prints = both written c.add_to_none.ensures.prints }
