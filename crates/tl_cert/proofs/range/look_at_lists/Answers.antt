use Rattle.std.proofs.Common.{All, ℕ, Vec, Global, arith}
use Rattle.std.proofs.lemmas.List.Elements.{All-map}
use Rattle.tl_cert.specs.Certificates.{IsNumber}
use Rattle.tl_cert.proofs.range.look_at_lists.Goals as goal

pub returns : goal.returns
returns c = All-map (All IsNumber) (λ (l : Vec ℕ Global). l.items) c.args.lists.now (λ k d lt. c.loop-list.invariant k d (omega (arith, lt, c.loop-list-test.false)))
