use Rattle.tl_cert_output.proofs.PageLemmas.{as_text}
use Rattle.tigertopo_program.proofs.line.add_answer.Goals as goal

pub returns-in-Chains : goal.returns-in-Chains
returns-in-Chains g c = rw c.in-Chains.is c.print_chains.ensures

pub returns-in-Landmarks : goal.returns-in-Landmarks
returns-in-Landmarks g c = rw c.in-Landmarks.is c.print_landmarks.ensures

pub returns-in-Verdict : goal.returns-in-Verdict
returns-in-Verdict g c = rw c.in-Verdict.is c.add_verdict.ensures

pub returns-in-Built : goal.returns-in-Built
returns-in-Built g c = rw c.in-Built.is c.add_report.ensures

pub returns-in-Converted : goal.returns-in-Converted
returns-in-Converted g c = rw c.in-Converted.is c.add_counts.ensures

pub returns-in-Exported : goal.returns-in-Exported
returns-in-Exported g c = rw c.in-Exported.is c.add_exported.ensures

pub returns-in-Drawn : goal.returns-in-Drawn
returns-in-Drawn g c = rw c.in-Drawn.is c.add_drawn.ensures

pub returns-in-Bordered : goal.returns-in-Bordered
returns-in-Bordered g c = rw c.in-Bordered.is c.add_bordered.ensures

pub returns-in-Listing : goal.returns-in-Listing
returns-in-Listing g c = rw c.in-Listing.is c.print_listing.ensures

pub returns-in-Lines : goal.returns-in-Lines
returns-in-Lines g c =
    let page = g.met.P.Page.adding in
    rw c.in-Lines.is (as_text page c.add.ensures c.as_slice.ensures.value)
