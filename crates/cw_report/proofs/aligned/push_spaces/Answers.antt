use Rattle.std.proofs.Common.{◌≡◌, ◌∙◌, ◌+◌, ◌-◌, ◌++◌, ◌∷◌, [], suc, replicate, ap, sym, append_assoc, arith, rules}
use Rattle.cw_report.proofs.aligned.push_spaces.Goals as goal

pub loop-preserved : goal.loop-preserved
loop-preserved c =
    let left : c.args.count - c.loop.counter ≡ suc (c.args.count - (c.loop.counter + 1)) = omega arith in
    let pushed : c.push.new.self.items ≡ c.loop.text.items ++ 32 ∷ [] = search rules in
    ap (λ l. l ++ replicate (c.args.count - (c.loop.counter + 1)) 32) pushed
    ∙ append_assoc c.loop.text.items (32 ∷ []) (replicate (c.args.count - (c.loop.counter + 1)) 32)
    ∙ ap (λ n. c.loop.text.items ++ replicate n 32) (sym left) ∙ c.loop.invariant
