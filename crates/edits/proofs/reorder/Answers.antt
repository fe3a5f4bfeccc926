-- `edits::reorder` meets its contract. Assumes nothing.
use mathlib.Core.Path.{ap, ◌∙◌}
use Rattle.std.proofs.Common.{rules}
use Rattle.places.specs.Layout.{rule_places, rule_at, put_rule, row_places}
use Rattle.book.specs.Places.{rule_place}
use Rattle.edits.specs.Moves.{rule_with, carry_rows}
use Rattle.edits.specs.Edit.{store_rule, reordered_rule}
use Rattle.edits.proofs.Does.{changed_by, rows_carried_by}
use Rattle.edits.proofs.reorder.Goals as goal

pub returns : goal.returns
unfolding reordered_rule store_rule rule_place
returns c =
    let k = c.args.key in
    rows_carried_by c.args.csd c.args.new k _ (λ b x r e. search rules) c.change.new.b c.change_each.new.b c.change_each.ensures
    ∙ ap (λ x. carry_rows c.args.csd k.number k.object k.sequence c.args.new x row_places)
    (changed_by rule_at put_rule rule_places _ _ c.args.b.now c.change.new.b (rule_with c.args.new) c.change.ensures (λ x r e. search rules))
