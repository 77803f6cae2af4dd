use Rattle.std.proofs.Common.{◌≡◌, ◌-◌, length, take, drop, take_all, length-drop, sym, ap, arith}
use Rattle.tl_cert.proofs.FrontLemmas.{long_spelt}
use Rattle.tl_cert.proofs.front.long_number.Goals as goal

pub returns : goal.returns
returns c =
    let bytes = c.args.bytes.now in
    let first = c.in-Some.ensures.digits in
    let rest : drop c.in-Some.len bytes ≡ take (length bytes - c.in-Some.len) (drop c.in-Some.len bytes) = sym (take_all (length bytes - c.in-Some.len) (drop c.in-Some.len bytes) (omega (arith, length-drop c.in-Some.len bytes))) in
    let spelt = long_spelt bytes (take (length bytes - c.in-Some.len) (drop c.in-Some.len bytes)) c.in-Some.len c.in-Some.value first.0 first.2 c.if-bytes-eq48.false first.1 rest in
    record {
      first = (spelt.0, first.1, spelt.1);
      few = omega (arith, c.in-Some.ensures.few, ap length rest, length-drop c.in-Some.len bytes);
    }
