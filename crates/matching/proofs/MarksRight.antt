-- Over a sound lone book, a marked code is one that is borne, and a marked rule one of which a row matches, as the
-- written meaning says.
use Prim.Native.Nat.{ℕ, ◌<◌}
use mathlib.Core.Path.{◌≡◌, refl, ap, sym, ◌∙◌, fun_ext}
use mathlib.Core.Bool.{Bool, true, false, ◌&&◌, and-true, and-false, and_comm}
use mathlib.Core.List.{List, [], ◌∷◌}
use native.Mathlib.Omega.{arith}
use lib.Dec.{eqb}
use lib.ListN.{length}
use borrow.Author.Tests.{eqb-true}
use Rattle.tables.specs.Count.{has}
use Rattle.tables.proofs.Counts.{cases}
use Rattle.tables.proofs.Below.{any_same, has_lone}
use Rattle.tables.proofs.Keying.{keys_all, parts_eq}
use Rattle.meaning.specs.Records as M
use Rattle.meaning.specs.Records.{party, account, security}
use Rattle.meaning.specs.Keys.{of_rule}
use Rattle.meaning.specs.Judging as meant
use Rattle.meaning.specs.Judging.{covers, meets_all, has_code}
use Rattle.places.specs.Layout.{row_places, period_places, row_at, period_at}
use Rattle.records.specs.Said.{row_of, period_of}
use Rattle.book.specs.Lone.{rows_of, periods_of, lone_book}
use Rattle.commands.specs.Asked.{question_of}
use Rattle.matching.specs.MatchedRows.{code_key, rule_key, period_key, row_key, code_keys, rule_keys, sought, borne_by, codes_borne, tests, row_matches, rows_matched}
use Rattle.commands.specs.declared.Question.{Question}
use Rattle.matching.proofs.Ranged.{Ranged}
use Rattle.matching.proofs.RowValues.{row_met}

-- ---- the same tests in another order

bear_order : (n n' d k e : Bool) → (k ≡ true → n ≡ n') → ((n && d) && (k && e)) ≡ (n' && k && e && d)
bear_order n n' d true e h = rw (h refl) (order n' d e)
  where
    order : (n d e : Bool) → ((n && d) && e) ≡ (n && true && e && d)
    order true d e = and_comm d e
    order false d e = refl
bear_order n n' d false e h = rw (and-false (n && d), and-false n')

row_order : (o m s t : Bool) → ((o && m) && (s && t)) ≡ ((s && t && o) && m)
row_order true m s t = rw (and-true (s && t)) (and_comm m (s && t))
row_order false m s t = rw (and-false (s && t))

module _ (b : List ℕ) (q : Question) (r : Ranged q.csd b) where
  lone : M.Book
  lone = lone_book q.csd b

  -- 1. A marked code is one that the question's party, account or security has.
  codes : (kind : ℕ) → kind < 4 → (v : ℕ)
      → codes_borne b q (code_key v kind) ≡ has_code lone (question_of q) kind (sought q kind) v
  unfolding lone codes_borne borne_by has_code periods_of period_of
  codes kind low v =
      keys_all code_keys (λ p. p.csd) q.csd (period_at b) period_key (borne_by q) period_places
      (λ i l o e. let x = r.periods i l o in omega (arith, x.0, x.1)) (code_key v kind)
      ∙ any_same _ _ period_places
      (λ i l.
      cases (eqb (period_at b i).csd q.csd)
      (λ e.
      let x = r.periods i l (eqb-true (period_at b i).csd q.csd e) in
      rw (e, parts_eq 4 (period_at b i).code (period_at b i).kind v kind x.1 low)
      (bear_order (eqb (period_at b i).number (sought q (period_at b i).kind)) (eqb (period_at b i).number (sought q kind))
      (covers (period_at b i).first (period_at b i).last q.day) (eqb (period_at b i).kind kind) (eqb (period_at b i).code v)
      (λ z. ap (λ k. eqb (period_at b i).number (sought q k)) (eqb-true (period_at b i).kind kind z))))
      (λ e. rw e))
      ∙ sym (has_lone (λ p. p.csd) period_of q.csd (period_at b) _ period_places)

  -- So the criteria are the written meaning's.
  same_tests : tests q (codes_borne b q) ≡ meant.tests lone (question_of q)
  unfolding meant.tests sought
  same_tests =
      let p = fun_ext (codes party (omega arith)) in
      let a = fun_ext (codes account (omega arith)) in
      let s = fun_ext (codes security (omega arith)) in
      λ j.
      eqb q.role
      ∷ eqb q.movement
      ∷ eqb q.payment
      ∷ eqb q.transaction
      ∷ eqb q.security
      ∷ eqb q.account
      ∷ p j
      ∷ a j
      ∷ s j
      ∷ eqb q.currency
      ∷ []

  ten : (i : ℕ) → length (row_at b i).values ≡ 10
  unfolding row_at
  ten i = refl

  -- 2. A marked rule is one with a row that matches.
  pub rows : (t x : ℕ) → x < 100
      → rows_matched b q (codes_borne b q) (rule_key t x) ≡ has (λ w. of_rule t q.object x w && meets_all (meant.tests (lone_book q.csd b) (question_of q)) w.values) (lone_book q.csd b).rows
  unfolding lone rows_matched row_matches of_rule rows_of row_of
  rows t x low =
      keys_all rule_keys (λ w. w.csd) q.csd (row_at b) row_key (row_matches q (codes_borne b q)) row_places
      (λ i l o e. let y = r.rows i l o in omega (arith, y.0, y.1)) (rule_key t x)
      ∙ any_same _ _ row_places
      (λ i l.
      cases (eqb (row_at b i).csd q.csd)
      (λ e.
      let y = r.rows i l (eqb-true (row_at b i).csd q.csd e) in
      rw (
        e,
        parts_eq 100 (row_at b i).number (row_at b i).sequence t x y.1 low,
        row_met (tests q (codes_borne b q)) (row_at b i).values refl (ten i),
        same_tests,
      )
      (row_order (eqb (row_at b i).object q.object) (meets_all (meant.tests lone (question_of q)) (row_at b i).values)
      (eqb (row_at b i).sequence x) (eqb (row_at b i).number t)))
      (λ e. rw e))
      ∙ sym (has_lone (λ w. w.csd) row_of q.csd (row_at b) _ row_places)
