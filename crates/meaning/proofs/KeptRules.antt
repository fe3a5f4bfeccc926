-- R, D, M and N leave the rules and rows good, every rule its type, and every row its rule.
use Rattle.std.proofs.Common.{ℕ, ◌<◌, ◌≡◌, true, false, ◌∷◌, eqb, length}
use borrow.Author.Tests.{not-false}
use Rattle.tables.specs.Count.{has, without}
use Rattle.tables.proofs.Lists.{every_map, every_keep}
use Rattle.meaning.specs.Records.{Rule, Row, Book, rule_quota, row_quota}
use Rattle.meaning.specs.Keys.{is_type, is_rule, of_rule, is_row, filled}
use Rattle.meaning.specs.Refusals.{other_criteria}
use Rattle.meaning.specs.Edits.{with_rules, with_rows}
use Rattle.meaning.specs.Sound.{rule_fits, row_fits, fills_rule}
use Rattle.meaning.proofs.Keys.{row_of_rule}
use Rattle.meaning.proofs.Listed.{not_so, every_cons, every_where, has_more, has_where, has_without, listed_added, listed_without}
use Rattle.meaning.proofs.Good.{Lists}
use Rattle.meaning.proofs.Changed.{rules_changed, rows_changed}

module _ (b : Book) (g : Lists b) where
  pub rule_added : (r : Rule) → rule_fits r ≡ true → has (is_type r.type r.object) b.types ≡ true
      → has (is_rule r.type r.object r.sequence) b.rules ≡ false → length b.rules < rule_quota
      → Lists (with_rules (r ∷ b.rules) b)
  rule_added r f t n room =
      rules_changed b g (listed_added g.rules r f n room) (every_cons _ r b.rules t g.typed)
      (every_map _ _ b.rows g.ruled (λ w. has_more (fills_rule w) r b.rules))

  -- a rule that a row fills is not the one that goes
  pub rule_deleted : (n o s : ℕ) → has (of_rule n o s) b.rows ≡ false
      → Lists (with_rules (without (is_rule n o s) b.rules) b)
  unfolding without
  rule_deleted n o s e =
      rules_changed b g (listed_without g.rules (is_rule n o s)) (every_keep _ _ b.rules g.typed)
      (every_where (of_rule n o s) (λ w. has (fills_rule w) b.rules) _ b.rows e
      (λ w a h.
      has_without (fills_rule w) (is_rule n o s) b.rules h
      (λ r t. not_so (is_rule n o s r) (of_rule n o s w) a (λ z. row_of_rule n o s w r z t)))
      g.ruled)

  -- the row's rule has no other criteria than the row fills, so it is one whose criteria the row fills
  filled_rule : (w : Row) → has (is_rule w.type w.object w.sequence) b.rules ≡ true
      → has (other_criteria w) b.rules ≡ false → has (fills_rule w) b.rules ≡ true
  unfolding other_criteria fills_rule
  filled_rule w h n =
      has_where (other_criteria w) (is_rule w.type w.object w.sequence) (fills_rule w) b.rules n
      (λ r a z. rw z (not-false (eqb r.criteria (filled w.values)) (rw z at a))) h

  pub row_added : (w : Row) → row_fits w ≡ true → has (is_rule w.type w.object w.sequence) b.rules ≡ true
      → has (is_row w) b.rows ≡ false → has (other_criteria w) b.rules ≡ false → length b.rows < row_quota
      → Lists (with_rows (w ∷ b.rows) b)
  row_added w f h n o room =
      rows_changed b g (listed_added g.rows w f n room) (every_cons _ w b.rows (filled_rule w h o) g.ruled)

  pub row_deleted : (w : Row) → Lists (with_rows (without (is_row w) b.rows) b)
  unfolding without
  row_deleted w = rows_changed b g (listed_without g.rows (is_row w)) (every_keep _ _ b.rows g.ruled)
