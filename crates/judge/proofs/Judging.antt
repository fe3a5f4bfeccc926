-- The stages, one by what the stages before it found.
use Rattle.std.proofs.Common.{ℕ, ◌≡◌, refl, ◌∙◌, Bool, true, false, List}
use Rattle.tables.specs.Keyed.{marked}
use Rattle.tables.proofs.Keying.{keyed_marks}
use Rattle.meaning.specs.Judging.{judged}
use Rattle.meaning.specs.Pending.{exempted}
use Rattle.meaning.specs.Sound.{sound_lone}
use Rattle.meaning.specs.declared.Verdict.{Verdict}
use Rattle.book.specs.Lone.{lone_book}
use Rattle.commands.specs.Asked.{question_of}
use Rattle.commands.specs.declared.Question.{Question}
use Rattle.places.specs.Layout.{row_places, rule_places}
use Rattle.matching.specs.MatchedRows.{rule_keys, codes_borne, rows_matched, RowsMarked}
use Rattle.newrules.specs.NewRules.{types_begun, new_rules, NewMarked}
use Rattle.judge.specs.Stages.{rules_matched, signs_matched, types_named, types_exempted, verdict, verdict_by, judged_by}
use Rattle.judge.specs.Within.{whole, none_passed, type_passed, rows_within, judged_within, exempted_within, lone_within, lone_counted}
use Rattle.judge.specs.declared.Scope.{Scope}
use Rattle.judge.proofs.VerdictRight.{judged_within_lem, judged_right}
use Rattle.judge.proofs.ExemptedRight.{exempted_within_lem}

by_rows : (b : List ℕ) (q : Question) (codes : ℕ → Bool) (rows : List ℕ) → RowsMarked rule_keys b q codes rows
    → marked rows ≡ rows_matched b q codes
unfolding rows_matched
by_rows b q codes rows m = keyed_marks _ _ _ _ _ _ rows row_places row_places m refl

by_new : (b : List ℕ) (q : Question) (marks : ℕ → Bool) (rows : List ℕ) → NewMarked rule_keys b q (types_begun b q) marks rows
    → marked rows ≡ new_rules b q (types_begun b q) marks
unfolding new_rules
by_new b q marks rows m = keyed_marks _ _ _ _ _ _ rows rule_places rule_places m refl

-- ---- every rule counts, and no type is passed over

pub by_stages : (b : List ℕ) (q : Question) (rows : List ℕ) (s : Scope) (passed : ℕ → Bool) (signs : ℕ → Bool) (r : Verdict)
    → r ≡ verdict (rules_matched b q (marked rows)) (types_named b q (type_passed s passed) signs) → s ≡ whole
    → passed ≡ none_passed → signs ≡ signs_matched b q (marked rows) → RowsMarked rule_keys b q (codes_borne b q) rows
    → (r ≡ judged_by b q) × (sound_lone (lone_book q.csd b) ≡ true → r ≡ judged (lone_book q.csd b) (question_of q))
unfolding judged_by type_passed
by_stages b q rows s passed signs r e ew ep es er = (found, λ s. found ∙ judged_right b q s)
  where
    rows_found : marked rows ≡ rows_matched b q (codes_borne b q)
    rows_found = by_rows b q (codes_borne b q) rows er

    found : r ≡ judged_by b q
    found = e ∙ rw (ew, ep, es, rows_found)

-- ---- by a scope

pub fresh_rows : (b : List ℕ) (q : Question) (rows t : List ℕ) (fresh : Bool)
    → NewMarked rule_keys b q (types_begun b q) (marked rows) t → RowsMarked rule_keys b q (codes_borne b q) rows → fresh ≡ true
    → marked t ≡ rows_within b q fresh
unfolding rows_within
fresh_rows b q rows t fresh m er ef =
    by_new b q (marked rows) t m ∙ rw (ef, by_rows b q (codes_borne b q) rows er)

pub all_rows : (b : List ℕ) (q : Question) (t : List ℕ) (fresh : Bool) → RowsMarked rule_keys b q (codes_borne b q) t
    → fresh ≡ false → marked t ≡ rows_within b q fresh
unfolding rows_within
all_rows b q t fresh m ef = by_rows b q (codes_borne b q) t m ∙ rw ef

module _ (b : List ℕ) (q : Question) (s : Scope) (passed : ℕ → Bool) (marks : ℕ → Bool) where
  -- the verdict and the table of types exempted, each for any bytes and as it is meant
  pub by_scope : (signs : ℕ → Bool) (v : Verdict) (x : List ℕ) → marked x ≡ types_exempted b q signs
      → v ≡ verdict (rules_matched b q marks) (types_named b q (type_passed s passed) signs) → signs ≡ signs_matched b q marks → marks ≡ rows_within b q s.fresh
      → (v ≡ judged_within b q s passed)
      × ((marked x ≡ exempted_within b q s)
      × ((sound_lone (lone_book q.csd b) ≡ true → v ≡ judged (lone_within b q s passed) (question_of q))
      × (sound_lone (lone_book q.csd b) ≡ true → marked x ≡ exempted (lone_counted b q s) (question_of q))))
  unfolding judged_within exempted_within verdict_by
  by_scope signs v x ex ev es em =
      (found, (exempt, (λ z. found ∙ judged_within_lem b q s passed z, λ z. exempt ∙ exempted_within_lem b q s z)))
    where
      found : v ≡ judged_within b q s passed
      found = ev ∙ rw (es, em)

      exempt : marked x ≡ exempted_within b q s
      exempt = ex ∙ rw (es, em)
