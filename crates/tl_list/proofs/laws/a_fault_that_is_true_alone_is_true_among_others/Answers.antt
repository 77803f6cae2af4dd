use Rattle.tl_record.specs.Layout.{layout_with}
use Rattle.tl_record.specs.Records.{records_of}
use Rattle.tl_list.proofs.Listed.{among_others}
use Rattle.tl_list.proofs.laws.a_fault_that_is_true_alone_is_true_among_others.Goals as goal

pub returns : goal.returns
returns c = λ options text f. among_others options.faces (records_of (layout_with options) text) f
