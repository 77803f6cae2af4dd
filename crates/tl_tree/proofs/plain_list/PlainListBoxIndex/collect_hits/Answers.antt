use Rattle.std.proofs.Common.{◌≡◌, ◌++◌, ◌∷◌, [], cond, not, is_ok, true, append-nil, refl, ap, sym, subst, ◌∙◌, arith}
use Rattle.std.proofs.lemmas.Bool.{false≢true}
use Rattle.tl_tree_index.specs.Hits.{Adds}
use Rattle.tl_tree.proofs.Hitting.{adds-hit, adds-miss, cut-back}
use Rattle.tl_tree.proofs.plain_list.PlainListBoxIndex.collect_hits.Goals as goal
use Rattle.tl_tree.proofs.plain_list.PlainListBoxIndex.collect_hits.Goals.{else-hits-via-then-hits+else-is_err, else-hits-via-else-hits}

pub loop-i-preserved : goal.loop-i-preserved
loop-i-preserved g c =
    let hit = g.P.Probe.hit c.args.probe.now c.args.items.now in
    let now = c.loop-i.out.items in
    elim c.else-hits.branch [
      | else-hits-via-then-hits+else-is_err w ↦
          let ok : is_ok w.push.result ≡ true = w.is_err.ensures.negation ∙ ap not w.if-is_err.false in
          adds-hit hit c.loop-i.i c.args.out.now.items now c.else-hits.out.items (c.hits.ensures.0 w.if-hits.true)
          (ap (λ v. v.items) w.out-is ∙ w.push.ensures.items ∙ ap (λ t. cond t (now ++ c.loop-i.i ∷ []) now) ok) c.loop-i.invariant
      | else-hits-via-else-hits w ↦
          adds-miss hit c.loop-i.i c.args.out.now.items now c.else-hits.out.items (λ h. false≢true (sym w.if-hits.false ∙ c.hits.ensures.1 h)) (ap (λ v. v.items) w.out-is) c.loop-i.invariant
    ]

pub returns-then-is_err-clause-hits : goal.returns-then-is_err-clause-hits
returns-then-is_err-clause-hits g c = tt

pub returns-clause-refused : goal.returns-clause-refused
returns-clause-refused g c = tt

pub returns-clause-hits : goal.returns-clause-hits
returns-clause-hits g c =
    let past = c.loop-i-test.false in
    let end = c.loop-i.auto.i-end in
    let len : c.self.inside.len ≡ g.I.Items.count c.args.items.now = c.self.view_is ∙ c.requires in
    let all : c.loop-i.i ≡ g.I.Items.count c.args.items.now = omega (arith, past, end, len) in
    subst (λ n. Adds n (g.P.Probe.hit c.args.probe.now c.args.items.now) c.args.out.now.items c.loop-i.out.items) all c.loop-i.invariant

pub loop-i-init : goal.loop-i-init
loop-i-init g c = record {
  found = [];
  appended = sym (append-nil c.args.out.now.items);
  hits = record { once = λ i below. absurd (omega (arith, below)); others = λ i no. refl; known = λ i from. refl };
}

pub hits-requires : goal.hits-requires
hits-requires g c =
    let lt = c.loop-i-test.true in
    let len : c.self.inside.len ≡ g.I.Items.count c.args.items.now = c.self.view_is ∙ c.requires in
    omega (arith, lt, len)

pub returns-then-is_err-clause-refused : goal.returns-then-is_err-clause-refused
returns-then-is_err-clause-refused g c =
    let now = c.loop-i.out.items in
    cut-back c.args.out.now.items c.push.new.self.items c.truncate.new.self.items c.loop-i.invariant.found c.len-before.result c.truncate.ensures.items
    (c.push.ensures.items ∙ ap (λ t. cond t (now ++ c.loop-i.i ∷ []) now) c.if-is_err.ensures.negation ∙ c.loop-i.invariant.appended) (omega (arith, c.len-before.ensures, c.args.out.now.ok.0))
