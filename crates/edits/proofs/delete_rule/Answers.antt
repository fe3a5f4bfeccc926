-- `edits::delete_rule` meets its contract. Assumes nothing.
use Rattle.std.proofs.Common.{rules}
use Rattle.places.specs.Layout.{rule_places, rule_at, put_rule, zero_rule}
use Rattle.book.specs.Places.{rule_place}
use Rattle.edits.specs.Edit.{store_rule, deleted_rule}
use Rattle.edits.proofs.Does.{changed_by, rule_of_zeros}
use Rattle.edits.proofs.delete_rule.Goals as goal

pub returns : goal.returns
unfolding deleted_rule store_rule rule_place
returns c =
    changed_by rule_at put_rule rule_places _ _ c.args.b.now _ (λ x. zero_rule) c.change.ensures (λ x r e. search (rules, rule_of_zeros))
