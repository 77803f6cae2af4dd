use Rattle.std.proofs.Common.{refl, sym, subst, inr}
use Rattle.std.proofs.lemmas.Result.{err_from_is_err_and}
use Rattle.tl_cert.specs.Certificates.{TheCertificate, MakesCertificate, made}
use Rattle.tl_build_propose.specs.Keeping.Proposed.{IsProposal}
use Rattle.tl_build_propose.proofs.proposal.propose.Goals as goal

pub unreachable-requires : goal.unreachable-requires
unreachable-requires c =
    let makes : MakesCertificate (made 2 c.counts_of-counts.result c.in_ok-tree.tree.items c.in_ok-rounds.rounds.items c.in_ok-rounds.walks.items) =
    record {
      version = inr refl;
      preorder = c.in_ok-tree.ensures.whole;
      counted = c.in_ok-tree.ensures.counted;
      nodes = c.in_ok-tree.ensures.each;
      rounds = c.in_ok-rounds.ensures.rounds_counted;
      walks = c.in_ok-rounds.ensures.walks_counted;
    } in
    c.in-None.ensures makes

pub returns : goal.returns
returns c =
    let m = c.args.map.now in
    let counts = c.counts_of-counts.result in
    let P : TheCertificate → Type 0 = IsProposal m in
    let proposed : IsProposal m (made 2 counts c.in_ok-tree.tree.items c.in_ok-rounds.rounds.items c.in_ok-rounds.walks.items) =
    record {
      version = refl;
      counts = c.counts_of-counts.ensures;
      tree = c.in_ok-tree.ensures.tree;
      shallow = c.in_ok-tree.ensures.shallow;
      split = c.in_ok-tree.ensures.split;
      rounds = c.in_ok-rounds.ensures.rounds;
      walks = c.in_ok-rounds.ensures.walks;
      are_rounds = c.in_ok-rounds.ensures.are_rounds;
      are_walks = c.in_ok-rounds.ensures.are_walks;
    } in
    subst P (sym c.in-Some.ensures.0) proposed

pub returns-in_err-tree : goal.returns-in_err-tree
returns-in_err-tree c = let p = err_from_is_err_and c.from_residual.result c.from_residual.ensures.1 in rw p.1 tt

pub returns-in_err-rounds : goal.returns-in_err-rounds
returns-in_err-rounds c = let p = err_from_is_err_and c.from_residual-in_err-rounds.result c.from_residual-in_err-rounds.ensures.1 in rw p.1 tt
