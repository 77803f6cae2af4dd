use Rattle.std.proofs.Common.{sym, ◌∙◌, map, string_bytes}
use Rattle.tigertopo_program.specs.Lists.Listed.{wanted_of}
use Rattle.tigertopo_program.proofs.CommandLemmas.{makes_none}
use Rattle.tigertopo_program.proofs.perform.audit_or_list.Goals as goal

pub returns-then-is_one_line : goal.returns-then-is_one_line
returns-then-is_one_line g c =
    let asked = wanted_of (map string_bytes c.args.names.now) c.args.wanted in
    let one = sym c.is_one_line.ensures ∙ c.if-is_one_line.true in
    rw (one, makes_none asked.told asked.form asked.made one) c.audit.ensures

pub returns : goal.returns
returns g c = rw (sym c.is_one_line.ensures ∙ c.if-is_one_line.false) c.list.ensures
