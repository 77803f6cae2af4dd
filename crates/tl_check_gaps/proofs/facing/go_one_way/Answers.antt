use Rattle.std.proofs.Common.{◌≡◌, Bool, true, false, not, refl, subst, sym, ◌∙◌, arith}
use Rattle.std.specs.Prelude.{slice_get}
use Rattle.tl_map_county.specs.TheMap.{IsChain}
use Rattle.tl_check_active.proofs.Listing.{own}
use Rattle.tl_check_gaps.proofs.Raised.{rising, falling}
use Rattle.tl_check_gaps.proofs.facing.go_one_way.Goals as goal

is_not : (t : Bool) → not t ≡ true → t ≡ false
is_not true e = absurd (cc)
is_not false e = refl

pub returns-then-is_lower : goal.returns-then-is_lower
returns-then-is_lower c = λ h.
    let chains = c.args.map.now.chains in
    let one = own chains c.args.s c.segment-one.result c.segment-one.ensures in
    let other = own chains c.args.t c.segment-other.result c.segment-other.ensures in
    let same : c.segment_chain-c.result ≡ c.segment_chain.result = omega (arith, c.if-segment_chain-c.false) in
    let chain = c.chain-chain.result in
    sym (rising chains c.args.s one.c one.k c.segment_chain-c.result c.segment_chain-c.ensures.0 chain.tlid c.segment-one.result chain.points.now
    chain.left chain.right c.a.result c.b.result
    one.number one.joins c.segment_chain-c.ensures.1 c.chain-chain.ensures.chain c.a.ensures c.b.ensures (sym c.is_lower.ensures ∙ c.if-is_lower.true))
    ∙ rising chains c.args.t other.c other.k c.segment_chain.result c.segment_chain.ensures.0 chain.tlid c.segment-other.result chain.points.now chain.left
    chain.right c.a-then-is_lower.result c.b-then-is_lower.result
    other.number other.joins c.segment_chain.ensures.1
    (subst (λ n. IsChain (slice_get chains n) chain.tlid chain.points.now chain.left chain.right) same c.chain-chain.ensures.chain) c.a-then-is_lower.ensures
    c.b-then-is_lower.ensures (sym c.is_lower-then-is_lower.ensures ∙ h)

pub returns-else-is_lower : goal.returns-else-is_lower
returns-else-is_lower c = λ h.
    let chains = c.args.map.now.chains in
    let one = own chains c.args.s c.segment-one.result c.segment-one.ensures in
    let other = own chains c.args.t c.segment-other.result c.segment-other.ensures in
    let same : c.segment_chain-c.result ≡ c.segment_chain.result = omega (arith, c.if-segment_chain-c.false) in
    let chain = c.chain-chain.result in
    sym (falling chains c.args.s one.c one.k c.segment_chain-c.result c.segment_chain-c.ensures.0 chain.tlid c.segment-one.result chain.points.now
    chain.left chain.right c.a.result c.b.result
    one.number one.joins c.segment_chain-c.ensures.1 c.chain-chain.ensures.chain c.a.ensures c.b.ensures (sym c.is_lower.ensures ∙ c.if-is_lower.false))
    ∙ falling chains c.args.t other.c other.k c.segment_chain.result c.segment_chain.ensures.0 chain.tlid c.segment-other.result chain.points.now
    chain.left chain.right c.a-else-is_lower.result c.b-else-is_lower.result
    other.number other.joins c.segment_chain.ensures.1
    (subst (λ n. IsChain (slice_get chains n) chain.tlid chain.points.now chain.left chain.right) same c.chain-chain.ensures.chain) c.a-else-is_lower.ensures
    c.b-else-is_lower.ensures (sym c.is_lower-else-is_lower.ensures ∙ is_not _ h)
