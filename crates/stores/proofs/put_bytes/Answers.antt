-- `stores::put_bytes` meets its contract. Assumes nothing.
use Rattle.std.proofs.Common.{sym, ap, ◌+◌, drop, List, ℕ, refl, ◌∙◌}
use Rattle.tables.specs.Bytes.{puts}
use Rattle.stores.proofs.Storing.{byte_put, byte_left, bytes_end}
use Rattle.stores.proofs.put_bytes.Goals.{then-at-k, else-at-k}
use Rattle.stores.proofs.put_bytes.Goals as goal

pub loop-k-preserved : goal.loop-k-preserved
loop-k-preserved c =
    let rest = λ (x : List ℕ). puts x c.args.at (c.loop-k.k + 1) (drop (c.loop-k.k + 1) c.args.bytes.now) in
    elim c.if-at-k.branch [
      | then-at-k w ↦ ap rest w.b-is ∙ byte_put c.args.bytes.now c.loop-k.b c.args.at c.loop-k.k c.loop-k-test.true ∙ c.loop-k.invariant
      | else-at-k w ↦ ap rest w.b-is ∙ byte_left c.args.bytes.now c.loop-k.b c.args.at c.loop-k.k c.loop-k-test.true w.if-at-k.false ∙ c.loop-k.invariant
    ]

pub returns : goal.returns
returns c =
    (sym (bytes_end c.args.bytes.now c.loop-k.b c.args.at c.loop-k.k c.loop-k-test.false) ∙ c.loop-k.invariant, refl)
