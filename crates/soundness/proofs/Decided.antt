-- THE DECISION: a book is sound exactly if it has the exact size and every place is right.
use Rattle.std.proofs.Common.{◌≡◌, ℕ, ◌+◌, Bool, false, ◌&&◌, eqb, leb, List, length, sym, ap, ◌∙◌, ap₂, ne_eqb}
use Rattle.tables.specs.Count.{all_below, every}
use Rattle.tables.proofs.Counts.{all_and}
use Rattle.tables.proofs.Lone.{each_lone, owned, held, right}
use Rattle.tables.proofs.Each.{all_same, every_quota, pairs}
use Rattle.meaning.specs.Records as M
use Rattle.meaning.specs.Sound.{good_type, good_rule, good_row, good_period, quotas, sound_lone}
use Rattle.places.specs.Layout.{type_at, rule_at, row_at, period_at, book_size, type_places, rule_places, row_places, period_places}
use Rattle.records.specs.Said.{type_of, rule_of, row_of, period_of}
use Rattle.records.specs.Free.{type_zero, rule_zero, row_zero, period_zero}
use Rattle.records.proofs.Nobody.{type_nobody, rule_nobody, row_nobody, period_nobody}
use Rattle.book.specs.Lone.{types_of, rules_of, rows_of, periods_of, lone_book}
use Rattle.book.specs.Sound.{placed, all_placed, sound}
use Rattle.soundness.specs.Places.{held_type, held_rule, held_row, held_period, type_ok, rule_ok, row_ok, period_ok}

module _ (b : List ℕ) where
  -- depository a + 1's list is within its quota, and each record of it is good

  abbrev good_types : ℕ → Bool
  good_types a = leb (length (types_of (a + 1) b)) M.type_quota && every (good_type (lone_book (a + 1) b)) (types_of (a + 1) b)

  abbrev good_rules : ℕ → Bool
  good_rules a = leb (length (rules_of (a + 1) b)) M.rule_quota && every (good_rule (lone_book (a + 1) b)) (rules_of (a + 1) b)

  abbrev good_rows : ℕ → Bool
  good_rows a = leb (length (rows_of (a + 1) b)) M.row_quota && every (good_row (lone_book (a + 1) b)) (rows_of (a + 1) b)

  abbrev good_periods : ℕ → Bool
  good_periods a = leb (length (periods_of (a + 1) b)) M.period_quota && every (good_period (lone_book (a + 1) b)) (periods_of (a + 1) b)

  each_type : all_below (type_ok b) type_places
      ≡ (placed (λ r. r.csd) type_zero (type_at b) type_places && all_below good_types 8)
  unfolding type_ok held_type placed types_of owned held right
  each_type =
      each_lone (λ r. r.csd) type_of type_zero type_nobody 8 (held_type b) (type_at b) type_places
      ∙ ap (λ t. placed (λ r. r.csd) type_zero (type_at b) type_places && t) (all_same _ good_types 8 (λ a. every_quota (good_type (lone_book (a + 1) b)) M.type_quota (types_of (a + 1) b)))

  each_rule : all_below (rule_ok b) rule_places
      ≡ (placed (λ r. r.csd) rule_zero (rule_at b) rule_places && all_below good_rules 8)
  unfolding rule_ok held_rule placed rules_of owned held right
  each_rule =
      each_lone (λ r. r.csd) rule_of rule_zero rule_nobody 8 (held_rule b) (rule_at b) rule_places
      ∙ ap (λ t. placed (λ r. r.csd) rule_zero (rule_at b) rule_places && t) (all_same _ good_rules 8 (λ a. every_quota (good_rule (lone_book (a + 1) b)) M.rule_quota (rules_of (a + 1) b)))

  each_row : all_below (row_ok b) row_places ≡ (placed (λ r. r.csd) row_zero (row_at b) row_places && all_below good_rows 8)
  unfolding row_ok held_row placed rows_of owned held right
  each_row =
      each_lone (λ r. r.csd) row_of row_zero row_nobody 8 (held_row b) (row_at b) row_places
      ∙ ap (λ t. placed (λ r. r.csd) row_zero (row_at b) row_places && t) (all_same _ good_rows 8 (λ a. every_quota (good_row (lone_book (a + 1) b)) M.row_quota (rows_of (a + 1) b)))

  each_period : all_below (period_ok b) period_places
      ≡ (placed (λ r. r.csd) period_zero (period_at b) period_places && all_below good_periods 8)
  unfolding period_ok held_period placed periods_of owned held right
  each_period =
      each_lone (λ r. r.csd) period_of period_zero period_nobody 8 (held_period b) (period_at b) period_places
      ∙ ap (λ t. placed (λ r. r.csd) period_zero (period_at b) period_places && t) (all_same _ good_periods 8 (λ a. every_quota (good_period (lone_book (a + 1) b)) M.period_quota (periods_of (a + 1) b)))

  each_book : all_below (λ a. sound_lone (lone_book (a + 1) b)) 8
      ≡ (all_below good_types 8 && (all_below good_rules 8 && (all_below good_rows 8 && all_below good_periods 8)))
  unfolding sound_lone quotas
  each_book =
      all_same (λ a. sound_lone (lone_book (a + 1) b)) (λ a. good_types a && (good_rules a && (good_rows a && good_periods a))) 8
      (λ a.
      pairs (leb (length (types_of (a + 1) b)) M.type_quota) (leb (length (rules_of (a + 1) b)) M.rule_quota) (leb (length (rows_of (a + 1) b)) M.row_quota)
      (leb (length (periods_of (a + 1) b)) M.period_quota) (every (good_type (lone_book (a + 1) b)) (types_of (a + 1) b))
      (every (good_rule (lone_book (a + 1) b)) (rules_of (a + 1) b)) (every (good_row (lone_book (a + 1) b)) (rows_of (a + 1) b))
      (every (good_period (lone_book (a + 1) b)) (periods_of (a + 1) b)))
      ∙ all_and good_types (λ a. good_rules a && (good_rows a && good_periods a)) 8
      ∙ ap (λ t. all_below good_types 8 && t)
      (all_and good_rules (λ a. good_rows a && good_periods a) 8 ∙ ap (λ t. all_below good_rules 8 && t) (all_and good_rows good_periods 8))

  pub decided : sound b ≡ (eqb (length b) book_size && (all_below (type_ok b) type_places && (all_below (rule_ok b) rule_places && (all_below (row_ok b) row_places && all_below (period_ok b) period_places))))
  unfolding sound all_placed
  decided =
      ap (λ t. eqb (length b) book_size && t)
      (ap (λ t. all_placed b && t) each_book
      ∙ pairs (placed (λ r. r.csd) type_zero (type_at b) type_places) (placed (λ r. r.csd) rule_zero (rule_at b) rule_places)
      (placed (λ r. r.csd) row_zero (row_at b) row_places) (placed (λ r. r.csd) period_zero (period_at b) period_places) (all_below good_types 8)
      (all_below good_rules 8) (all_below good_rows 8) (all_below good_periods 8)
      ∙ sym (ap₂ ◌&&◌ each_type (ap₂ ◌&&◌ each_rule (ap₂ ◌&&◌ each_row each_period))))

-- ---- what is_sound finds

pub other_size : (b : List ℕ) → (length b ≡ book_size → ⊥) → false ≡ sound b
unfolding sound
other_size b h = rw (ne_eqb (length b) book_size h)
