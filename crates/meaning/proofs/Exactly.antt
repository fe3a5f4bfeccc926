-- No test counts two lists differently exactly if each record is in both equally often.
use Rattle.std.proofs.Common.{ℕ, zero, suc, ◌+◌, ◌≤◌, ◌<◌, ◌≡◌, refl, ap, sym, ◌∙◌, Bool, true, false, ◌&&◌, not, cond, List, [], ◌∷◌, arith, length, drop}
use Rattle.tables.specs.Count.{bit, count, keep, Same}
use Rattle.tables.proofs.Counts.{cases, count_keep, count_ext}
use Rattle.meaning.specs.Records.{TypeRecord, Rule, Row, Period, ◌!◌}
use Rattle.meaning.specs.Exactly.{Decides, EquallyOften, SameOften, type_numbers, rule_numbers, row_numbers, period_numbers, equal_by, equal_types, equal_rules, equal_rows, equal_periods, Exactly}
use Rattle.meaning.proofs.SameLists.{same_self, same_numbers}

module _ {R : Type 0} where
  -- a count is that of those which pass a test and that of the others
  count_parted : (p q : R → Bool) (l : List R) → count p l ≡ count (λ y. q y && p y) l + count (λ y. not (q y) && p y) l
  unfolding count
  count_parted p q [] = refl
  count_parted p q (x ∷ l) =
      cases (q x) (λ e. rw e (omega (arith, count_parted p q l))) (λ e. rw e (omega (arith, count_parted p q l)))

  count_none : (l : List R) → count (λ y. false) l ≡ 0
  unfolding count
  count_none [] = refl
  count_none (x ∷ l) = omega (arith, count_none l)

  keep_fewer : (q : R → Bool) (l : List R) → length (keep q l) ≤ length l
  unfolding keep
  keep_fewer q [] = omega arith
  keep_fewer q (x ∷ l) =
      cases (q x) (λ e. rw e (omega (arith, keep_fewer q l))) (λ e. rw e (omega (arith, keep_fewer q l)))

  module _ (equal : R → R → Bool) (decides : Decides equal) where
    abbrev others : R → R → Bool
    others x y = not (equal x y)

    -- of those equal to x, p holds of all or of none
    alike : (x : R) (p : R → Bool) (y : R) → (equal x y && p y) ≡ (equal x y && p x)
    alike x p y =
        cases (equal x y) (λ e. ap (λ z. equal x y && p z) (sym (decides.one x y e))) (λ e. rw e)

    all_alike : (x : R) (p : R → Bool) (l : List R) → count (λ y. equal x y && p y) l ≡ cond (p x) (count (equal x) l) 0
    all_alike x p l =
        count_ext (λ y. equal x y && p y) (λ y. equal x y && p x) l (alike x p)
        ∙ cases (p x)
        (λ e. rw e (count_ext (λ y. equal x y && true) (equal x) l (λ y. cases (equal x y) (λ f. rw f) (λ f. rw f))))
        (λ e.
        rw e
        (count_ext (λ y. equal x y && false) (λ y. false) l (λ y. cases (equal x y) (λ f. rw f) (λ f. rw f)) ∙ count_none l))

    module _ (l m : List R) (h : EquallyOften equal l m) where
      own_often : (x : R) (p : R → Bool) → count (λ y. equal x y && p y) l ≡ count (λ y. equal x y && p y) m
      own_often x p = all_alike x p l ∙ ap (λ k. cond (p x) k 0) (h x) ∙ sym (all_alike x p m)

      -- the lists without x are so too
      others_often : (x : R) → EquallyOften equal (keep (others x) l) (keep (others x) m)
      others_often x z =
          omega (
            arith,
            count_keep (equal z) (others x) l,
            count_keep (equal z) (others x) m,
            count_parted (equal z) (equal x) l,
            count_parted (equal z) (equal x) m,
            own_often x (equal z),
            h z,
          )

    -- by the lists without the first record, which are shorter
    shorter_same : (l m : List R)
        → ((k n : List R) → length k < length l → EquallyOften equal k n → Same k n) → EquallyOften equal l m → Same l m
    unfolding count keep
    shorter_same [] [] s h p = refl
    shorter_same [] (y ∷ m) s h p = absurd (omega (arith, h y, ap bit (decides.self y)))
    shorter_same (x ∷ l) m s h p =
        let less : length (keep (others x) (x ∷ l)) < suc (length l) =
        rw (decides.self x) (omega (arith, keep_fewer (others x) l)) in
        omega (
          arith,
          count_keep p (others x) (x ∷ l),
          count_keep p (others x) m,
          count_parted p (equal x) (x ∷ l),
          count_parted p (equal x) m,
          own_often (x ∷ l) m h x p,
          s (keep (others x) (x ∷ l)) (keep (others x) m) less (others_often (x ∷ l) m h x) p,
        )

    often_same : (n : ℕ) (l m : List R) → length l ≤ n → EquallyOften equal l m → Same l m
    often_same zero l m f = shorter_same l m (λ k n g. absurd (omega arith))
    often_same (suc i) l m f = shorter_same l m (λ k n g. often_same i k n (omega arith))

pub same_often : (R : Type 0) → SameOften R
same_often R equal d l m = ((λ h x. h (equal x)), λ h. often_same equal d (length l) l m (omega arith) h)

-- ---- the four kinds

-- a record that its numbers give back
by_numbers_lem : {R : Type 0} (numbers : R → List ℕ) (back : List ℕ → R) → ((x : R) → back (numbers x) ≡ x)
    → Decides (equal_by numbers)
by_numbers_lem numbers back h = record {
  one = λ x y e. sym (h x) ∙ ap back (same_numbers (numbers x) (numbers y) e) ∙ h y;
  self = λ x. same_self (numbers x);
}

types_decided : Decides equal_types
types_decided =
    by_numbers_lem type_numbers
    (λ v. record { type = v ! 0; object = v ! 1; processing = v ! 2; first = v ! 3; last = v ! 4 })
    (λ t. refl)

rules_decided : Decides equal_rules
rules_decided =
    by_numbers_lem rule_numbers
    (λ v. record { type = v ! 0; object = v ! 1; sequence = v ! 2; sign = v ! 3; criteria = v ! 4; first = v ! 5; last = v ! 6 })
    (λ r. refl)

rows_decided : Decides equal_rows
rows_decided =
    by_numbers_lem row_numbers
    (λ v. record { type = v ! 0; object = v ! 1; sequence = v ! 2; values = drop 3 v })
    (λ w. refl)

periods_decided : Decides equal_periods
periods_decided =
    by_numbers_lem period_numbers
    (λ v. record { kind = v ! 0; number = v ! 1; code = v ! 2; first = v ! 3; last = v ! 4 })
    (λ p. refl)

pub exactly : Exactly
exactly = record {
  types = types_decided;
  rules = rules_decided;
  rows = rows_decided;
  periods = periods_decided;
  exactly = λ b c.
      let t = same_often TypeRecord equal_types types_decided b.types c.types in
      let r = same_often Rule equal_rules rules_decided b.rules c.rules in
      let w = same_often Row equal_rows rows_decided b.rows c.rows in
      let p = same_often Period equal_periods periods_decided b.periods c.periods in (
        (λ h. record { types = t.0 h.types; rules = r.0 h.rules; rows = w.0 h.rows; periods = p.0 h.periods }),
        λ h. record { types = t.1 h.types; rules = r.1 h.rules; rows = w.1 h.rows; periods = p.1 h.periods },
      );
}
