use Rattle.tl_geom.proofs.Contacts.{apart_clause, at_ends_clause, shared_clause, not_both_clause, crossing_clause}
use Rattle.tl_geom.proofs.meeting.contact.Goals as goal

pub returns : goal.returns
returns c =
    record {
      apart = apart_clause c.args.s c.args.t c.meeting.result c.meeting.ensures;
      at_ends = at_ends_clause c.args.s c.args.t c.meeting.result c.meeting.ensures;
      shared = shared_clause c.args.s c.args.t c.meeting.result c.meeting.ensures;
      not_both_ends = not_both_clause c.args.s c.args.t c.meeting.result c.meeting.ensures;
      crossing = crossing_clause c.args.s c.args.t c.meeting.result c.meeting.ensures;
    }
