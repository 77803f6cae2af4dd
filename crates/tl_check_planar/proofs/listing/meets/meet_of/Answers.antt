use Rattle.std.proofs.Common.{refl}
use Rattle.tl_check_planar.proofs.Meetings.{true_meet}
use Rattle.tl_check_planar.proofs.listing.meets.meet_of.Goals as goal

pub returns : goal.returns
returns c =
    record {
      first = refl;
      second = refl;
      is_true = true_meet c.args.map.now.chains c.args.map.now.chains _ refl c.requires
          (record { c = c.segment_chain.result; k = c.segment_chain.ensures.0; number = c.segment_chain.ensures.1; chain = c.chain.ensures.chain.chain; is = c.chain.ensures.chain.is; tlid_is = c.chain.ensures.chain.tlid_is })
          (record { c = c.segment_chain-2.result; k = c.segment_chain-2.ensures.0; number = c.segment_chain-2.ensures.1; chain = c.chain-2.ensures.chain.chain; is = c.chain-2.ensures.chain.is; tlid_is = c.chain-2.ensures.chain.tlid_is });
    }
