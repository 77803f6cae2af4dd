use Rattle.tigertopo_words.proofs.TableLemmas.{named_in_table}
use Rattle.tigertopo_words.proofs.table.named_by.Goals as goal

pub returns : goal.returns
returns c = named_in_table c.args.name.now c.named_among.result c.rows.result.now c.rows.ensures.own c.rows.ensures.names c.named_among.ensures
